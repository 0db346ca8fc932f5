use Rattle.std.proofs.Common.{sym, subst}
use Rattle.rules.specs.Rules.{AtAll}
use Rattle.literal_terms.specs.declared.ways.Way.TheVariants as way
use Rattle.literal_terms.specs.Ways.{IsWay}
use Rattle.literal_terms.proofs.WayLaws.{other_context, other_universe, other_system, other_composition}
use Rattle.literal_terms.proofs.ways.way_of_rule.Goals as goal

pub returns-in-Instances : goal.returns-in-Instances
returns-in-Instances c = subst (λ n. AtAll n (λ xs r. IsWay c.way_of_instance.result r)) (sym c.in-Instances.is) c.way_of_instance.ensures

pub returns-in-Equality : goal.returns-in-Equality
returns-in-Equality c = subst (λ n. AtAll n (λ xs r. IsWay c.way_of_equality.result r)) (sym c.in-Equality.is) c.way_of_equality.ensures

pub returns-in-Pi : goal.returns-in-Pi
returns-in-Pi c = subst (λ n. AtAll n (λ xs r. IsWay c.way_of_pi.result r)) (sym c.in-Pi.is) c.way_of_pi.ensures

pub returns-in-Sigma : goal.returns-in-Sigma
returns-in-Sigma c = subst (λ n. AtAll n (λ xs r. IsWay c.way_of_sigma.result r)) (sym c.in-Sigma.is) c.way_of_sigma.ensures

pub returns-in-Paths : goal.returns-in-Paths
returns-in-Paths c = subst (λ n. AtAll n (λ xs r. IsWay c.way_of_path.result r)) (sym c.in-Paths.is) c.way_of_path.ensures

pub returns-in-Naturals : goal.returns-in-Naturals
returns-in-Naturals c = subst (λ n. AtAll n (λ xs r. IsWay c.way_of_number.result r)) (sym c.in-Naturals.is) c.way_of_number.ensures

pub returns-in-Gluing : goal.returns-in-Gluing
returns-in-Gluing c = subst (λ n. AtAll n (λ xs r. IsWay c.way_of_glue.result r)) (sym c.in-Gluing.is) c.way_of_glue.ensures

pub returns-in-Contexts : goal.returns-in-Contexts
returns-in-Contexts c = subst (λ n. AtAll n (λ xs r. IsWay way.Other r)) (sym c.in-Contexts.is) (other_context _)

pub returns-in-Universe : goal.returns-in-Universe
returns-in-Universe c = subst (λ n. AtAll n (λ xs r. IsWay way.Other r)) (sym c.in-Universe.is) (other_universe _)

pub returns-in-Systems : goal.returns-in-Systems
returns-in-Systems c = subst (λ n. AtAll n (λ xs r. IsWay way.Other r)) (sym c.in-Systems.is) (other_system _)

pub returns-in-Composition : goal.returns-in-Composition
returns-in-Composition c = subst (λ n. AtAll n (λ xs r. IsWay way.Other r)) (sym c.in-Composition.is) (other_composition _)
