use Rattle.std.proofs.Common.{sym, subst}
use Rattle.theory.specs.declared.rule.RuleName.TheVariants.{Gluing}
use Rattle.rules.specs.Rules.{AtAll}
use Rattle.literal_terms.specs.declared.ways.Way.TheVariants as way
use Rattle.literal_terms.specs.Ways.{IsWay}
use Rattle.literal_terms.proofs.WayLaws.{glue_small, glued, other_glue}
use Rattle.literal_terms.proofs.ways.way_of_glue.Goals as goal

pub returns-in-GlueU : goal.returns-in-GlueU
returns-in-GlueU c = subst (λ n. AtAll (Gluing n) (λ xs r. IsWay way.Type r)) (sym c.in-GlueU.is) glue_small

pub returns-in-Glue : goal.returns-in-Glue
returns-in-Glue c = subst (λ n. AtAll (Gluing n) (λ xs r. IsWay way.Glued r)) (sym c.in-Glue.is) glued

pub returns-in_default : goal.returns-in_default
returns-in_default c = other_glue c.args.rule c.in_default.not-GlueU c.in_default.not-Glue
