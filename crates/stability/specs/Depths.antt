-- Under how many variables and names, beyond the context of the rule, each tree stands that is a
-- part of a rule.
use Rattle.std.specs.Prelude.{ℕ, List, [], ◌∷◌}
use Rattle.theory.specs.declared.rule.EqualityRule.{EqualityRule}
use Rattle.theory.specs.declared.rule.EqualityRule.TheVariants.{TyEqRefl, TyEqSym, TyEqTrans}
use Rattle.theory.specs.declared.rule.EqualityRule.TheVariants.{TmEqRefl, TmEqSym, TmEqTrans}
use Rattle.theory.specs.declared.rule.EqualityRule.TheVariants.{TmConv, TmEqConv, TyEqCover}
use Rattle.theory.specs.declared.rule.EqualityRule.TheVariants.{TmEqCover, TyEqAbsurd, TmEqAbsurd}
use Rattle.theory.specs.declared.rule.UniverseRule.{UniverseRule}
use Rattle.theory.specs.declared.rule.UniverseRule.TheVariants.{TyUniv, TyU, TyEqU}
use Rattle.theory.specs.declared.rule.PiRule.{PiRule}
use Rattle.theory.specs.declared.rule.PiRule.TheVariants.{PiTy, PiU, PiTyCong, PiUCong, Lam, App}
use Rattle.theory.specs.declared.rule.PiRule.TheVariants.{AppCong, PiBeta, PiEta}
use Rattle.theory.specs.declared.rule.SigmaRule.{SigmaRule}
use Rattle.theory.specs.declared.rule.SigmaRule.TheVariants.{SigTy, SigU, SigTyCong, SigUCong, Pair}
use Rattle.theory.specs.declared.rule.SigmaRule.TheVariants.{Fst, Snd, FstCong, SndCong, SigBeta1}
use Rattle.theory.specs.declared.rule.SigmaRule.TheVariants.{SigBeta2, SigEta}
use Rattle.theory.specs.declared.rule.PathRule.{PathRule}
use Rattle.theory.specs.declared.rule.PathRule.TheVariants.{PathTy, PathU, PathTyCong, PathUCong}
use Rattle.theory.specs.declared.rule.PathRule.TheVariants.{PLam, PApp, PAppCong, PathLeft}
use Rattle.theory.specs.declared.rule.PathRule.TheVariants.{PathRight, PathBeta, PathEta}
use Rattle.theory.specs.declared.rule.NatRule.{NatRule}
use Rattle.theory.specs.declared.rule.NatRule.TheVariants.{NatU, Zero, Suc, SucCong, NatRec}
use Rattle.theory.specs.declared.rule.NatRule.TheVariants.{NatRecCong, NatRecZero, NatRecSuc}
use Rattle.theory.specs.declared.rule.SystemRule.{SystemRule}
use Rattle.theory.specs.declared.rule.SystemRule.TheVariants.{SysTy, SysTm, SysTyLeft, SysTyRight}
use Rattle.theory.specs.declared.rule.SystemRule.TheVariants.{SysLeft, SysRight, EmptyTy, EmptyTm}
use Rattle.theory.specs.declared.rule.CompRule.{CompRule}
use Rattle.theory.specs.declared.rule.CompRule.TheVariants.{Comp, CompFace, CompCong, CompPi}
use Rattle.theory.specs.declared.rule.CompRule.TheVariants.{CompSig, CompPath, CompZero, CompSuc}
use Rattle.theory.specs.declared.rule.CompRule.TheVariants.{CompGlue, CompU}
use Rattle.theory.specs.declared.rule.GlueRule.{GlueRule}
use Rattle.theory.specs.declared.rule.GlueRule.TheVariants.{GlueTy, GlueU, GlueTyFace, GlueUFace}
use Rattle.theory.specs.declared.rule.GlueRule.TheVariants.{GlueTyCong, GlueUCong, Glue, GlueFace}
use Rattle.theory.specs.declared.rule.GlueRule.TheVariants.{Unglue, UnglueFace, UnglueCong}
use Rattle.theory.specs.declared.rule.GlueRule.TheVariants.{GlueBeta, GlueEta}

-- Written by tools/write_rules.py from here on.

abbrev pub equality_depths : EqualityRule → List ℕ
equality_depths TyEqRefl = 0 ∷ []
equality_depths TyEqSym = 0 ∷ 0 ∷ []
equality_depths TyEqTrans = 0 ∷ 0 ∷ 0 ∷ []
equality_depths TmEqRefl = 0 ∷ 0 ∷ []
equality_depths TmEqSym = 0 ∷ 0 ∷ 0 ∷ []
equality_depths TmEqTrans = 0 ∷ 0 ∷ 0 ∷ 0 ∷ []
equality_depths TmConv = 0 ∷ 0 ∷ 0 ∷ []
equality_depths TmEqConv = 0 ∷ 0 ∷ 0 ∷ 0 ∷ []
equality_depths TyEqCover = 0 ∷ 0 ∷ 0 ∷ 0 ∷ []
equality_depths TmEqCover = 0 ∷ 0 ∷ 0 ∷ 0 ∷ 0 ∷ []
equality_depths TyEqAbsurd = 0 ∷ 0 ∷ []
equality_depths TmEqAbsurd = 0 ∷ 0 ∷ 0 ∷ []

abbrev pub universe_depths : UniverseRule → List ℕ
universe_depths TyUniv = []
universe_depths TyU = 0 ∷ []
universe_depths TyEqU = 0 ∷ 0 ∷ []

abbrev pub pi_depths : PiRule → List ℕ
pi_depths PiTy = 0 ∷ 1 ∷ []
pi_depths PiU = 0 ∷ 1 ∷ []
pi_depths PiTyCong = 0 ∷ 0 ∷ 1 ∷ 1 ∷ []
pi_depths PiUCong = 0 ∷ 0 ∷ 1 ∷ 1 ∷ []
pi_depths Lam = 0 ∷ 1 ∷ 1 ∷ []
pi_depths App = 0 ∷ 0 ∷ 0 ∷ 1 ∷ []
pi_depths AppCong = 0 ∷ 0 ∷ 0 ∷ 0 ∷ 0 ∷ 1 ∷ []
pi_depths PiBeta = 0 ∷ 1 ∷ 0 ∷ 1 ∷ []
pi_depths PiEta = 0 ∷ 0 ∷ 0 ∷ 1 ∷ []

abbrev pub sigma_depths : SigmaRule → List ℕ
sigma_depths SigTy = 0 ∷ 1 ∷ []
sigma_depths SigU = 0 ∷ 1 ∷ []
sigma_depths SigTyCong = 0 ∷ 0 ∷ 1 ∷ 1 ∷ []
sigma_depths SigUCong = 0 ∷ 0 ∷ 1 ∷ 1 ∷ []
sigma_depths Pair = 0 ∷ 0 ∷ 0 ∷ 1 ∷ []
sigma_depths Fst = 0 ∷ 0 ∷ 1 ∷ []
sigma_depths Snd = 0 ∷ 0 ∷ 1 ∷ []
sigma_depths FstCong = 0 ∷ 0 ∷ 0 ∷ 1 ∷ []
sigma_depths SndCong = 0 ∷ 0 ∷ 0 ∷ 1 ∷ []
sigma_depths SigBeta1 = 0 ∷ 0 ∷ 0 ∷ 1 ∷ []
sigma_depths SigBeta2 = 0 ∷ 0 ∷ 0 ∷ 1 ∷ []
sigma_depths SigEta = 0 ∷ 0 ∷ 0 ∷ 1 ∷ []

abbrev pub path_depths : PathRule → List ℕ
path_depths PathTy = 1 ∷ 0 ∷ 0 ∷ []
path_depths PathU = 1 ∷ 0 ∷ 0 ∷ []
path_depths PathTyCong = 1 ∷ 1 ∷ 0 ∷ 0 ∷ 0 ∷ 0 ∷ []
path_depths PathUCong = 1 ∷ 1 ∷ 0 ∷ 0 ∷ 0 ∷ 0 ∷ []
path_depths PLam = 1 ∷ 1 ∷ 0 ∷ 0 ∷ []
path_depths PApp = 0 ∷ 0 ∷ 1 ∷ 0 ∷ 0 ∷ []
path_depths PAppCong = 0 ∷ 0 ∷ 0 ∷ 1 ∷ 0 ∷ 0 ∷ []
path_depths PathLeft = 0 ∷ 1 ∷ 0 ∷ 0 ∷ []
path_depths PathRight = 0 ∷ 1 ∷ 0 ∷ 0 ∷ []
path_depths PathBeta = 1 ∷ 1 ∷ 0 ∷ []
path_depths PathEta = 0 ∷ 0 ∷ 1 ∷ 0 ∷ 0 ∷ []

abbrev pub nat_depths : NatRule → List ℕ
nat_depths NatU = []
nat_depths Zero = []
nat_depths Suc = 0 ∷ []
nat_depths SucCong = 0 ∷ 0 ∷ []
nat_depths NatRec = 1 ∷ 0 ∷ 0 ∷ 0 ∷ []
nat_depths NatRecCong = 1 ∷ 1 ∷ 0 ∷ 0 ∷ 0 ∷ 0 ∷ 0 ∷ 0 ∷ []
nat_depths NatRecZero = 1 ∷ 0 ∷ 0 ∷ []
nat_depths NatRecSuc = 1 ∷ 0 ∷ 0 ∷ 0 ∷ []

abbrev pub system_depths : SystemRule → List ℕ
system_depths SysTy = 0 ∷ 0 ∷ 0 ∷ 0 ∷ []
system_depths SysTm = 0 ∷ 0 ∷ 0 ∷ 0 ∷ 0 ∷ []
system_depths SysTyLeft = 0 ∷ 0 ∷ 0 ∷ 0 ∷ []
system_depths SysTyRight = 0 ∷ 0 ∷ 0 ∷ 0 ∷ []
system_depths SysLeft = 0 ∷ 0 ∷ 0 ∷ 0 ∷ 0 ∷ []
system_depths SysRight = 0 ∷ 0 ∷ 0 ∷ 0 ∷ 0 ∷ []
system_depths EmptyTy = []
system_depths EmptyTm = 0 ∷ []

abbrev pub comp_depths : CompRule → List ℕ
comp_depths Comp = 1 ∷ 0 ∷ 1 ∷ 0 ∷ []
comp_depths CompFace = 1 ∷ 0 ∷ 1 ∷ 0 ∷ []
comp_depths CompCong = 1 ∷ 1 ∷ 0 ∷ 0 ∷ 1 ∷ 1 ∷ 0 ∷ 0 ∷ []
comp_depths CompPi = 1 ∷ 2 ∷ 0 ∷ 1 ∷ 0 ∷ []
comp_depths CompSig = 1 ∷ 2 ∷ 0 ∷ 1 ∷ 0 ∷ []
comp_depths CompPath = 2 ∷ 1 ∷ 1 ∷ 0 ∷ 1 ∷ 0 ∷ []
comp_depths CompZero = 0 ∷ []
comp_depths CompSuc = 0 ∷ 1 ∷ 0 ∷ []
comp_depths CompGlue = 1 ∷ 1 ∷ 1 ∷ 1 ∷ 0 ∷ 1 ∷ 0 ∷ []
comp_depths CompU = 0 ∷ 1 ∷ 0 ∷ []

abbrev pub glue_depths : GlueRule → List ℕ
glue_depths GlueTy = 0 ∷ 0 ∷ 0 ∷ 0 ∷ []
glue_depths GlueU = 0 ∷ 0 ∷ 0 ∷ 0 ∷ []
glue_depths GlueTyFace = 0 ∷ 0 ∷ 0 ∷ 0 ∷ []
glue_depths GlueUFace = 0 ∷ 0 ∷ 0 ∷ 0 ∷ []
glue_depths GlueTyCong = 0 ∷ 0 ∷ 0 ∷ 0 ∷ 0 ∷ 0 ∷ 0 ∷ 0 ∷ []
glue_depths GlueUCong = 0 ∷ 0 ∷ 0 ∷ 0 ∷ 0 ∷ 0 ∷ 0 ∷ 0 ∷ []
glue_depths Glue = 0 ∷ 0 ∷ 0 ∷ 0 ∷ 0 ∷ 0 ∷ []
glue_depths GlueFace = 0 ∷ 0 ∷ 0 ∷ 0 ∷ 0 ∷ 0 ∷ []
glue_depths Unglue = 0 ∷ 0 ∷ 0 ∷ 0 ∷ 0 ∷ []
glue_depths UnglueFace = 0 ∷ 0 ∷ 0 ∷ 0 ∷ 0 ∷ []
glue_depths UnglueCong = 0 ∷ 0 ∷ 0 ∷ 0 ∷ 0 ∷ 0 ∷ 0 ∷ 0 ∷ 0 ∷ []
glue_depths GlueBeta = 0 ∷ 0 ∷ 0 ∷ 0 ∷ 0 ∷ 0 ∷ []
glue_depths GlueEta = 0 ∷ 0 ∷ 0 ∷ 0 ∷ 0 ∷ 0 ∷ []
