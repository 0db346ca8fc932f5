-- How each rule makes the term that it types.
use Rattle.std.proofs.Common.{◌≡◌, refl, rules}
use Rattle.theory.specs.declared.rule.RuleName.TheVariants.{Contexts, Instances, Equality, Universe, Pi, Sigma, Paths, Naturals, Systems, Composition, Gluing}
use Rattle.theory.specs.declared.rule.ContextRule.{ContextRule}
use Rattle.theory.specs.declared.rule.ContextRule.TheVariants.{CtxNil}
use Rattle.theory.specs.declared.rule.InstanceRule.{InstanceRule}
use Rattle.theory.specs.declared.rule.InstanceRule.TheVariants.{TmSub, TmVar}
use Rattle.theory.specs.declared.rule.EqualityRule.{EqualityRule}
use Rattle.theory.specs.declared.rule.EqualityRule.TheVariants.{TmConv}
use Rattle.theory.specs.declared.rule.UniverseRule.{UniverseRule}
use Rattle.theory.specs.declared.rule.UniverseRule.TheVariants.{TyUniv}
use Rattle.theory.specs.declared.rule.PiRule.{PiRule}
use Rattle.theory.specs.declared.rule.PiRule.TheVariants.{PiU, Lam}
use Rattle.theory.specs.declared.rule.SigmaRule.{SigmaRule}
use Rattle.theory.specs.declared.rule.SigmaRule.TheVariants.{SigU, Pair}
use Rattle.theory.specs.declared.rule.PathRule.{PathRule}
use Rattle.theory.specs.declared.rule.PathRule.TheVariants.{PathU, PLam}
use Rattle.theory.specs.declared.rule.NatRule.{NatRule}
use Rattle.theory.specs.declared.rule.NatRule.TheVariants.{NatU}
use Rattle.theory.specs.declared.rule.SystemRule.{SystemRule}
use Rattle.theory.specs.declared.rule.SystemRule.TheVariants.{SysTy}
use Rattle.theory.specs.declared.rule.CompRule.{CompRule}
use Rattle.theory.specs.declared.rule.CompRule.TheVariants.{Comp}
use Rattle.theory.specs.declared.rule.GlueRule.{GlueRule}
use Rattle.theory.specs.declared.rule.GlueRule.TheVariants.{GlueU, Glue}
use Rattle.rules.specs.Rules.{AtAll}
use Rattle.literal_terms.specs.declared.ways.Way.TheVariants as way
use Rattle.literal_terms.specs.Ways.{IsWay}

-- the rules that are followed

pub instance : AtAll (Instances TmSub) (λ xs r. IsWay way.Instance r)
instance = λ H d G a A. (d, G, a, A, refl, refl, refl)

pub variable : AtAll (Instances TmVar) (λ xs r. IsWay way.Variable r)
variable = λ G A. (refl, refl)

pub converted : AtAll (Equality TmConv) (λ xs r. IsWay way.Converted r)
converted = λ G a A B. (A, refl)

pub pi_small : AtAll (Pi PiU) (λ xs r. IsWay way.Type r)
pi_small = λ G A B. (refl, refl)

pub function : AtAll (Pi Lam) (λ xs r. IsWay way.Function r)
function = λ G A b B. (A, b, B, refl, refl, refl)

pub sigma_small : AtAll (Sigma SigU) (λ xs r. IsWay way.Type r)
sigma_small = λ G A B. (refl, refl)

pub paired : AtAll (Sigma Pair) (λ xs r. IsWay way.Pair r)
paired = λ G a b A B. (A, B, a, b, refl, refl, refl)

pub path_small : AtAll (Paths PathU) (λ xs r. IsWay way.Type r)
path_small = λ G A u v. (refl, refl)

pub path : AtAll (Paths PLam) (λ xs r. IsWay way.Path r)
path = λ G A b u v. (A, b, u, v, refl, refl, refl)

pub number : AtAll (Naturals NatU) (λ xs r. IsWay way.Type r)
number = λ G. (refl, refl)

pub glue_small : AtAll (Gluing GlueU) (λ xs r. IsWay way.Type r)
glue_small = λ G A p T w. (refl, refl)

pub glued : AtAll (Gluing Glue) (λ xs r. IsWay way.Glued r)
glued = λ G A p T w c a. (A, p, T, w, c, a, refl, refl, refl, refl)

-- the others: the first line of a family makes the last run through the others

pub other_instance : (r : InstanceRule) → (r ≡ TmSub → ⊥) → (r ≡ TmVar → ⊥) → AtAll (Instances r) (λ xs r. IsWay way.Other r)
other_instance TmSub s v = absurd (s refl)
other_instance TmVar s v = absurd (v refl)
other_instance _ s v = search rules

pub other_equality : (r : EqualityRule) → (r ≡ TmConv → ⊥) → AtAll (Equality r) (λ xs r. IsWay way.Other r)
other_equality TmConv c = absurd (c refl)
other_equality _ c = search rules

pub other_pi : (r : PiRule) → (r ≡ PiU → ⊥) → (r ≡ Lam → ⊥) → AtAll (Pi r) (λ xs r. IsWay way.Other r)
other_pi PiU u l = absurd (u refl)
other_pi Lam u l = absurd (l refl)
other_pi _ u l = search rules

pub other_sigma : (r : SigmaRule) → (r ≡ SigU → ⊥) → (r ≡ Pair → ⊥) → AtAll (Sigma r) (λ xs r. IsWay way.Other r)
other_sigma SigU u p = absurd (u refl)
other_sigma Pair u p = absurd (p refl)
other_sigma _ u p = search rules

pub other_path : (r : PathRule) → (r ≡ PathU → ⊥) → (r ≡ PLam → ⊥) → AtAll (Paths r) (λ xs r. IsWay way.Other r)
other_path PathU u l = absurd (u refl)
other_path PLam u l = absurd (l refl)
other_path _ u l = search rules

pub other_number : (r : NatRule) → (r ≡ NatU → ⊥) → AtAll (Naturals r) (λ xs r. IsWay way.Other r)
other_number NatU u = absurd (u refl)
other_number _ u = search rules

pub other_glue : (r : GlueRule) → (r ≡ GlueU → ⊥) → (r ≡ Glue → ⊥) → AtAll (Gluing r) (λ xs r. IsWay way.Other r)
other_glue GlueU u g = absurd (u refl)
other_glue Glue u g = absurd (g refl)
other_glue _ u g = search rules

pub other_context : (r : ContextRule) → AtAll (Contexts r) (λ xs r. IsWay way.Other r)
other_context CtxNil = search rules
other_context _ = search rules

pub other_universe : (r : UniverseRule) → AtAll (Universe r) (λ xs r. IsWay way.Other r)
other_universe TyUniv = search rules
other_universe _ = search rules

pub other_system : (r : SystemRule) → AtAll (Systems r) (λ xs r. IsWay way.Other r)
other_system SysTy = search rules
other_system _ = search rules

pub other_composition : (r : CompRule) → AtAll (Composition r) (λ xs r. IsWay way.Other r)
other_composition Comp = search rules
other_composition _ = search rules
