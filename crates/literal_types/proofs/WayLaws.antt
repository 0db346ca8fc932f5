-- How each rule makes the tree that it types.
use Rattle.std.proofs.Common.{◌≡◌, [], refl, rules}
use Rattle.theory.specs.declared.rule.RuleName.TheVariants.{Contexts, Instances, Equality, Universe, Pi, Sigma, Paths, Naturals, Systems, Composition, Gluing}
use Rattle.theory.specs.declared.rule.ContextRule.{ContextRule}
use Rattle.theory.specs.declared.rule.ContextRule.TheVariants.{CtxNil}
use Rattle.theory.specs.declared.rule.InstanceRule.{InstanceRule}
use Rattle.theory.specs.declared.rule.InstanceRule.TheVariants.{TySub, TmSub, TmVar}
use Rattle.theory.specs.declared.rule.EqualityRule.{EqualityRule}
use Rattle.theory.specs.declared.rule.EqualityRule.TheVariants.{TmConv}
use Rattle.theory.specs.declared.rule.UniverseRule.{UniverseRule}
use Rattle.theory.specs.declared.rule.UniverseRule.TheVariants.{TyU}
use Rattle.theory.specs.declared.rule.PiRule.{PiRule}
use Rattle.theory.specs.declared.rule.PiRule.TheVariants.{PiTy, PiU}
use Rattle.theory.specs.declared.rule.SigmaRule.{SigmaRule}
use Rattle.theory.specs.declared.rule.SigmaRule.TheVariants.{SigTy, SigU}
use Rattle.theory.specs.declared.rule.PathRule.{PathRule}
use Rattle.theory.specs.declared.rule.PathRule.TheVariants.{PathTy, PathU}
use Rattle.theory.specs.declared.rule.NatRule.{NatRule}
use Rattle.theory.specs.declared.rule.NatRule.TheVariants.{NatU}
use Rattle.theory.specs.declared.rule.SystemRule.{SystemRule}
use Rattle.theory.specs.declared.rule.SystemRule.TheVariants.{SysTy}
use Rattle.theory.specs.declared.rule.CompRule.{CompRule}
use Rattle.theory.specs.declared.rule.CompRule.TheVariants.{Comp}
use Rattle.theory.specs.declared.rule.GlueRule.{GlueRule}
use Rattle.theory.specs.declared.rule.GlueRule.TheVariants.{GlueTy}
use Rattle.trees.specs.Language.{Ty, Tm}
use Rattle.trees.specs.Judgements.{trees}
use Rattle.rules.specs.Table.{weakened}
use Rattle.rules.specs.Rules.{AtAll}
use Rattle.literal_types.specs.declared.forms.Size.TheVariants as size
use Rattle.literal_types.specs.declared.forms.Former.TheVariants as former
use Rattle.literal_types.specs.declared.ways.Way.TheVariants as way
use Rattle.literal_types.specs.Ways.{IsWay}

-- the rules that are followed

pub type_instance : AtAll (Instances TySub) (λ xs r. IsWay way.Instance r)
type_instance = λ H d G A. (d, G, A, Ty G A, [], refl, (refl, refl), refl)

pub term_instance : AtAll (Instances TmSub) (λ xs r. IsWay way.Instance r)
term_instance = λ H d G a A. (d, G, a, Tm G a A, [], refl, (refl, refl), refl)

pub variable : AtAll (Instances TmVar) (λ xs r. IsWay way.Variable r)
variable = λ G A. (weakened trees A, refl, refl)

pub converted : AtAll (Equality TmConv) (λ xs r. IsWay way.Same r)
converted = λ G a A B. (Tm G a A, _, refl, (refl, refl))

pub small : AtAll (Universe TyU) (λ xs r. IsWay way.Same r)
small = λ G A. (_, [], refl, (refl, refl))

pub pi_type : AtAll (Pi PiTy) (λ xs r. IsWay (way.Family former.Pi size.Large) r)
pi_type = λ G A B. (A, B, [], refl, refl)

pub pi_small : AtAll (Pi PiU) (λ xs r. IsWay (way.Family former.Pi size.Small) r)
pi_small = λ G A B. (A, B, [], refl, refl)

pub sigma_type : AtAll (Sigma SigTy) (λ xs r. IsWay (way.Family former.Sigma size.Large) r)
sigma_type = λ G A B. (A, B, [], refl, refl)

pub sigma_small : AtAll (Sigma SigU) (λ xs r. IsWay (way.Family former.Sigma size.Small) r)
sigma_small = λ G A B. (A, B, [], refl, refl)

pub path_type : AtAll (Paths PathTy) (λ xs r. IsWay (way.Line size.Large) r)
path_type = λ G A u v. (A, u, v, [], refl, refl)

pub path_small : AtAll (Paths PathU) (λ xs r. IsWay (way.Line size.Small) r)
path_small = λ G A u v. (A, u, v, [], refl, refl)

-- the others: the first line of a family makes the last run through the others

pub other_instance : (r : InstanceRule) → (r ≡ TySub → ⊥) → (r ≡ TmSub → ⊥) → (r ≡ TmVar → ⊥) → AtAll (Instances r) (λ xs r. IsWay way.Other r)
other_instance TySub t s v = absurd (t refl)
other_instance TmSub t s v = absurd (s refl)
other_instance TmVar t s v = absurd (v refl)
other_instance _ t s v = search rules

pub other_equality : (r : EqualityRule) → (r ≡ TmConv → ⊥) → AtAll (Equality r) (λ xs r. IsWay way.Other r)
other_equality TmConv c = absurd (c refl)
other_equality _ c = search rules

pub other_universe : (r : UniverseRule) → (r ≡ TyU → ⊥) → AtAll (Universe r) (λ xs r. IsWay way.Other r)
other_universe TyU u = absurd (u refl)
other_universe _ u = search rules

pub other_pi : (r : PiRule) → (r ≡ PiTy → ⊥) → (r ≡ PiU → ⊥) → AtAll (Pi r) (λ xs r. IsWay way.Other r)
other_pi PiTy t u = absurd (t refl)
other_pi PiU t u = absurd (u refl)
other_pi _ t u = search rules

pub other_sigma : (r : SigmaRule) → (r ≡ SigTy → ⊥) → (r ≡ SigU → ⊥) → AtAll (Sigma r) (λ xs r. IsWay way.Other r)
other_sigma SigTy t u = absurd (t refl)
other_sigma SigU t u = absurd (u refl)
other_sigma _ t u = search rules

pub other_path : (r : PathRule) → (r ≡ PathTy → ⊥) → (r ≡ PathU → ⊥) → AtAll (Paths r) (λ xs r. IsWay way.Other r)
other_path PathTy t u = absurd (t refl)
other_path PathU t u = absurd (u refl)
other_path _ t u = search rules

pub other_context : (r : ContextRule) → AtAll (Contexts r) (λ xs r. IsWay way.Other r)
other_context CtxNil = search rules
other_context _ = search rules

pub other_number : (r : NatRule) → AtAll (Naturals r) (λ xs r. IsWay way.Other r)
other_number NatU = search rules
other_number _ = search rules

pub other_system : (r : SystemRule) → AtAll (Systems r) (λ xs r. IsWay way.Other r)
other_system SysTy = search rules
other_system _ = search rules

pub other_composition : (r : CompRule) → AtAll (Composition r) (λ xs r. IsWay way.Other r)
other_composition Comp = search rules
other_composition _ = search rules

pub other_glue : (r : GlueRule) → AtAll (Gluing r) (λ xs r. IsWay way.Other r)
other_glue GlueTy = search rules
other_glue _ = search rules
