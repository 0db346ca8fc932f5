-- The test says yes to each rule of a family. The first line of a family makes the second run
-- through the others.
use Rattle.std.proofs.Common.{◌≡◌, true, refl}
use Rattle.theory.specs.declared.rule.EqualityRule.{EqualityRule}
use Rattle.theory.specs.declared.rule.EqualityRule.TheVariants.{TyEqRefl}
use Rattle.theory.specs.declared.rule.UniverseRule.{UniverseRule}
use Rattle.theory.specs.declared.rule.UniverseRule.TheVariants.{TyUniv}
use Rattle.theory.specs.declared.rule.PiRule.{PiRule}
use Rattle.theory.specs.declared.rule.PiRule.TheVariants.{PiTy}
use Rattle.theory.specs.declared.rule.SigmaRule.{SigmaRule}
use Rattle.theory.specs.declared.rule.SigmaRule.TheVariants.{SigTy}
use Rattle.theory.specs.declared.rule.PathRule.{PathRule}
use Rattle.theory.specs.declared.rule.PathRule.TheVariants.{PathTy}
use Rattle.theory.specs.declared.rule.NatRule.{NatRule}
use Rattle.theory.specs.declared.rule.NatRule.TheVariants.{NatU}
use Rattle.theory.specs.declared.rule.SystemRule.{SystemRule}
use Rattle.theory.specs.declared.rule.SystemRule.TheVariants.{SysTy}
use Rattle.theory.specs.declared.rule.CompRule.{CompRule}
use Rattle.theory.specs.declared.rule.CompRule.TheVariants.{Comp}
use Rattle.theory.specs.declared.rule.GlueRule.{GlueRule}
use Rattle.theory.specs.declared.rule.GlueRule.TheVariants.{GlueTy}
use Rattle.theory.specs.declared.rule.RuleName.TheVariants.{Equality, Universe, Pi, Sigma, Paths, Naturals, Systems, Composition, Gluing}
use Rattle.stability.specs.Depths.{equality_depths, universe_depths, pi_depths, sigma_depths, path_depths, nat_depths, system_depths, comp_depths, glue_depths}
use Rattle.stability.proofs.Tested.{is_stable}

pub equality : (name : EqualityRule) → is_stable (Equality name) (equality_depths name) ≡ true
equality TyEqRefl = refl
equality _ = refl

pub universe : (name : UniverseRule) → is_stable (Universe name) (universe_depths name) ≡ true
universe TyUniv = refl
universe _ = refl

pub pi : (name : PiRule) → is_stable (Pi name) (pi_depths name) ≡ true
pi PiTy = refl
pi _ = refl

pub sigma : (name : SigmaRule) → is_stable (Sigma name) (sigma_depths name) ≡ true
sigma SigTy = refl
sigma _ = refl

pub paths : (name : PathRule) → is_stable (Paths name) (path_depths name) ≡ true
paths PathTy = refl
paths _ = refl

pub naturals : (name : NatRule) → is_stable (Naturals name) (nat_depths name) ≡ true
naturals NatU = refl
naturals _ = refl

pub systems : (name : SystemRule) → is_stable (Systems name) (system_depths name) ≡ true
systems SysTy = refl
systems _ = refl

pub composition : (name : CompRule) → is_stable (Composition name) (comp_depths name) ≡ true
composition Comp = refl
composition _ = refl

pub gluing : (name : GlueRule) → is_stable (Gluing name) (glue_depths name) ≡ true
gluing GlueTy = refl
gluing _ = refl
