-- The signatures of the rules: their names, the kinds of their parts, the number of their premises,
-- and the version from which on each stands in files.
use Rattle.std.specs.Prelude.{ℕ, List, [], ◌∷◌, codes, ◌≡◌, ◌≤◌}
use Rattle.trees.specs.declared.kind.PartKind.{PartKind}
use Rattle.trees.specs.declared.kind.PartKind.TheVariants.{Context, Subst, Term}
use Rattle.theory.specs.declared.rule.ContextRule.{ContextRule}
use Rattle.theory.specs.declared.rule.ContextRule.TheVariants.{CtxNil, CtxVar, CtxName, CtxFace}
use Rattle.theory.specs.declared.rule.ContextRule.TheVariants.{SubId, SubWk, SubWkName, SubWkFace}
use Rattle.theory.specs.declared.rule.ContextRule.TheVariants.{SubVar, SubForm, SubFace, SubComp}
use Rattle.theory.specs.declared.rule.InstanceRule.{InstanceRule}
use Rattle.theory.specs.declared.rule.InstanceRule.TheVariants.{TySub, TyEqSub, TmSub, TmEqSub}
use Rattle.theory.specs.declared.rule.InstanceRule.TheVariants.{TyCong, TmCong, TyInt, TmInt, TmVar}
use Rattle.theory.specs.declared.rule.EqualityRule.{EqualityRule}
use Rattle.theory.specs.declared.rule.EqualityRule.TheVariants.{TyEqRefl, TyEqSym, TyEqTrans}
use Rattle.theory.specs.declared.rule.EqualityRule.TheVariants.{TmEqRefl, TmEqSym, TmEqTrans}
use Rattle.theory.specs.declared.rule.EqualityRule.TheVariants.{TmConv, TmEqConv, TyEqCover}
use Rattle.theory.specs.declared.rule.EqualityRule.TheVariants.{TmEqCover, TyEqAbsurd, TmEqAbsurd}
use Rattle.theory.specs.declared.rule.UniverseRule.{UniverseRule}
use Rattle.theory.specs.declared.rule.UniverseRule.TheVariants.{TyUniv, TyU, TyEqU}
use Rattle.theory.specs.declared.rule.PiRule.{PiRule}
use Rattle.theory.specs.declared.rule.PiRule.TheVariants.{PiTy, PiU, PiTyCong, PiUCong, Lam, App}
use Rattle.theory.specs.declared.rule.PiRule.TheVariants.{AppCong, PiBeta, PiEta}
use Rattle.theory.specs.declared.rule.SigmaRule.{SigmaRule}
use Rattle.theory.specs.declared.rule.SigmaRule.TheVariants.{SigTy, SigU, SigTyCong, SigUCong, Pair}
use Rattle.theory.specs.declared.rule.SigmaRule.TheVariants.{Fst, Snd, FstCong, SndCong, SigBeta1}
use Rattle.theory.specs.declared.rule.SigmaRule.TheVariants.{SigBeta2, SigEta}
use Rattle.theory.specs.declared.rule.PathRule.{PathRule}
use Rattle.theory.specs.declared.rule.PathRule.TheVariants.{PathTy, PathU, PathTyCong, PathUCong}
use Rattle.theory.specs.declared.rule.PathRule.TheVariants.{PLam, PApp, PAppCong, PathLeft}
use Rattle.theory.specs.declared.rule.PathRule.TheVariants.{PathRight, PathBeta, PathEta}
use Rattle.theory.specs.declared.rule.NatRule.{NatRule}
use Rattle.theory.specs.declared.rule.NatRule.TheVariants.{NatU, Zero, Suc, SucCong, NatRec}
use Rattle.theory.specs.declared.rule.NatRule.TheVariants.{NatRecCong, NatRecZero, NatRecSuc}
use Rattle.theory.specs.declared.rule.SystemRule.{SystemRule}
use Rattle.theory.specs.declared.rule.SystemRule.TheVariants.{SysTy, SysTm, SysTyLeft, SysTyRight}
use Rattle.theory.specs.declared.rule.SystemRule.TheVariants.{SysLeft, SysRight, EmptyTy, EmptyTm}
use Rattle.theory.specs.declared.rule.CompRule.{CompRule}
use Rattle.theory.specs.declared.rule.CompRule.TheVariants.{Comp, CompFace, CompCong, CompPi}
use Rattle.theory.specs.declared.rule.CompRule.TheVariants.{CompSig, CompPath, CompZero, CompSuc}
use Rattle.theory.specs.declared.rule.CompRule.TheVariants.{CompGlue, CompU}
use Rattle.theory.specs.declared.rule.GlueRule.{GlueRule}
use Rattle.theory.specs.declared.rule.GlueRule.TheVariants.{GlueTy, GlueU, GlueTyFace, GlueUFace}
use Rattle.theory.specs.declared.rule.GlueRule.TheVariants.{GlueTyCong, GlueUCong, Glue, GlueFace}
use Rattle.theory.specs.declared.rule.GlueRule.TheVariants.{Unglue, UnglueFace, UnglueCong}
use Rattle.theory.specs.declared.rule.GlueRule.TheVariants.{GlueBeta, GlueEta}
use Rattle.theory.specs.declared.rule.RuleName.{RuleName}
use Rattle.theory.specs.declared.rule.RuleName.TheVariants.{Contexts, Instances, Equality, Universe}
use Rattle.theory.specs.declared.rule.RuleName.TheVariants.{Pi, Sigma, Paths, Naturals, Systems}
use Rattle.theory.specs.declared.rule.RuleName.TheVariants.{Composition, Gluing}
use Rattle.theory.specs.declared.signatures.Signature.{Signature as Row}

-- the name, the kinds of the parts in their order, the number of premises, and the first version
pub record Signature : Type 0 where
  pub name : List ℕ
  pub parts : List PartKind
  pub premises : ℕ
  pub version : ℕ

-- that of a rule of version 1
abbrev pub signed : List ℕ → List PartKind → ℕ → Signature
signed name parts premises = record { name = name; parts = parts; premises = premises; version = 1 }

-- Written by tools/write_rules.py from here on.

abbrev pub context_signature : ContextRule → Signature
context_signature CtxNil = signed (codes "ctx.nil") [] 0
context_signature CtxVar = signed (codes "ctx.var") (Context ∷ Term ∷ []) 1
context_signature CtxName = signed (codes "ctx.name") (Context ∷ []) 1
context_signature CtxFace = signed (codes "ctx.face") (Context ∷ Term ∷ []) 1
context_signature SubId = signed (codes "sub.id") (Context ∷ []) 1
context_signature SubWk = signed (codes "sub.wk") (Context ∷ Subst ∷ Context ∷ Term ∷ []) 2
context_signature SubWkName = signed (codes "sub.wkname") (Context ∷ Subst ∷ Context ∷ []) 1
context_signature SubWkFace = signed (codes "sub.wkface") (Context ∷ Subst ∷ Context ∷ Term ∷ []) 1
context_signature SubVar = signed (codes "sub.var") (Context ∷ Subst ∷ Context ∷ Term ∷ Term ∷ []) 3
context_signature SubForm = signed (codes "sub.form") (Context ∷ Subst ∷ Context ∷ Term ∷ []) 1
context_signature SubFace = signed (codes "sub.face") (Context ∷ Subst ∷ Context ∷ Term ∷ []) 1
context_signature SubComp = signed (codes "sub.comp")
    (Context ∷ Subst ∷ Context ∷ Subst ∷ Context ∷ []) 2

abbrev pub instance_signature : InstanceRule → Signature
instance_signature TySub = signed (codes "ty.sub") (Context ∷ Subst ∷ Context ∷ Term ∷ []) 2
instance_signature TyEqSub = signed (codes "tyeq.sub")
    (Context ∷ Subst ∷ Context ∷ Term ∷ Term ∷ []) 2
instance_signature TmSub = signed (codes "tm.sub") (Context ∷ Subst ∷ Context ∷ Term ∷ Term ∷ []) 2
instance_signature TmEqSub = signed (codes "tmeq.sub")
    (Context ∷ Subst ∷ Context ∷ Term ∷ Term ∷ Term ∷ []) 2
instance_signature TyCong = signed (codes "ty.cong")
    (Context ∷ Subst ∷ Context ∷ Term ∷ Term ∷ Term ∷ Term ∷ []) 3
instance_signature TmCong = signed (codes "tm.cong")
    (Context ∷ Subst ∷ Context ∷ Term ∷ Term ∷ Term ∷ Term ∷ Term ∷ []) 3
instance_signature TyInt = signed (codes "ty.int") (Context ∷ Subst ∷ Subst ∷ Context ∷ Term ∷ []) 3
instance_signature TmInt = signed (codes "tm.int")
    (Context ∷ Subst ∷ Subst ∷ Context ∷ Term ∷ Term ∷ []) 3
instance_signature TmVar = signed (codes "tm.var") (Context ∷ Term ∷ []) 1

abbrev pub equality_signature : EqualityRule → Signature
equality_signature TyEqRefl = signed (codes "tyeq.refl") (Context ∷ Term ∷ []) 1
equality_signature TyEqSym = signed (codes "tyeq.sym") (Context ∷ Term ∷ Term ∷ []) 1
equality_signature TyEqTrans = signed (codes "tyeq.trans") (Context ∷ Term ∷ Term ∷ Term ∷ []) 2
equality_signature TmEqRefl = signed (codes "tmeq.refl") (Context ∷ Term ∷ Term ∷ []) 1
equality_signature TmEqSym = signed (codes "tmeq.sym") (Context ∷ Term ∷ Term ∷ Term ∷ []) 1
equality_signature TmEqTrans = signed (codes "tmeq.trans")
    (Context ∷ Term ∷ Term ∷ Term ∷ Term ∷ []) 2
equality_signature TmConv = signed (codes "tm.conv") (Context ∷ Term ∷ Term ∷ Term ∷ []) 2
equality_signature TmEqConv = signed (codes "tmeq.conv")
    (Context ∷ Term ∷ Term ∷ Term ∷ Term ∷ []) 2
equality_signature TyEqCover = signed (codes "tyeq.cover")
    (Context ∷ Term ∷ Term ∷ Term ∷ Term ∷ []) 4
equality_signature TmEqCover = signed (codes "tmeq.cover")
    (Context ∷ Term ∷ Term ∷ Term ∷ Term ∷ Term ∷ []) 4
equality_signature TyEqAbsurd = signed (codes "tyeq.absurd") (Context ∷ Term ∷ Term ∷ []) 2
equality_signature TmEqAbsurd = signed (codes "tmeq.absurd") (Context ∷ Term ∷ Term ∷ Term ∷ []) 2

abbrev pub universe_signature : UniverseRule → Signature
universe_signature TyUniv = signed (codes "ty.univ") (Context ∷ []) 1
universe_signature TyU = signed (codes "ty.u") (Context ∷ Term ∷ []) 1
universe_signature TyEqU = signed (codes "tyeq.u") (Context ∷ Term ∷ Term ∷ []) 1

abbrev pub pi_signature : PiRule → Signature
pi_signature PiTy = signed (codes "pi.ty") (Context ∷ Term ∷ Term ∷ []) 2
pi_signature PiU = signed (codes "pi.u") (Context ∷ Term ∷ Term ∷ []) 2
pi_signature PiTyCong = signed (codes "pi.tycong") (Context ∷ Term ∷ Term ∷ Term ∷ Term ∷ []) 2
pi_signature PiUCong = signed (codes "pi.ucong") (Context ∷ Term ∷ Term ∷ Term ∷ Term ∷ []) 2
pi_signature Lam = signed (codes "lam") (Context ∷ Term ∷ Term ∷ Term ∷ []) 2
pi_signature App = signed (codes "app") (Context ∷ Term ∷ Term ∷ Term ∷ Term ∷ []) 2
pi_signature AppCong = signed (codes "app.cong")
    (Context ∷ Term ∷ Term ∷ Term ∷ Term ∷ Term ∷ Term ∷ []) 2
pi_signature PiBeta = signed (codes "pi.beta") (Context ∷ Term ∷ Term ∷ Term ∷ Term ∷ []) 2
pi_signature PiEta = signed (codes "pi.eta") (Context ∷ Term ∷ Term ∷ Term ∷ Term ∷ []) 3

abbrev pub sigma_signature : SigmaRule → Signature
sigma_signature SigTy = signed (codes "sig.ty") (Context ∷ Term ∷ Term ∷ []) 2
sigma_signature SigU = signed (codes "sig.u") (Context ∷ Term ∷ Term ∷ []) 2
sigma_signature SigTyCong = signed (codes "sig.tycong") (Context ∷ Term ∷ Term ∷ Term ∷ Term ∷ []) 2
sigma_signature SigUCong = signed (codes "sig.ucong") (Context ∷ Term ∷ Term ∷ Term ∷ Term ∷ []) 2
sigma_signature Pair = signed (codes "pair") (Context ∷ Term ∷ Term ∷ Term ∷ Term ∷ []) 3
sigma_signature Fst = signed (codes "fst") (Context ∷ Term ∷ Term ∷ Term ∷ []) 1
sigma_signature Snd = signed (codes "snd") (Context ∷ Term ∷ Term ∷ Term ∷ []) 1
sigma_signature FstCong = signed (codes "fst.cong") (Context ∷ Term ∷ Term ∷ Term ∷ Term ∷ []) 1
sigma_signature SndCong = signed (codes "snd.cong") (Context ∷ Term ∷ Term ∷ Term ∷ Term ∷ []) 1
sigma_signature SigBeta1 = signed (codes "sig.beta1") (Context ∷ Term ∷ Term ∷ Term ∷ Term ∷ []) 3
sigma_signature SigBeta2 = signed (codes "sig.beta2") (Context ∷ Term ∷ Term ∷ Term ∷ Term ∷ []) 3
sigma_signature SigEta = signed (codes "sig.eta") (Context ∷ Term ∷ Term ∷ Term ∷ Term ∷ []) 4

abbrev pub path_signature : PathRule → Signature
path_signature PathTy = signed (codes "path.ty") (Context ∷ Term ∷ Term ∷ Term ∷ []) 3
path_signature PathU = signed (codes "path.u") (Context ∷ Term ∷ Term ∷ Term ∷ []) 3
path_signature PathTyCong = signed (codes "path.tycong")
    (Context ∷ Term ∷ Term ∷ Term ∷ Term ∷ Term ∷ Term ∷ []) 3
path_signature PathUCong = signed (codes "path.ucong")
    (Context ∷ Term ∷ Term ∷ Term ∷ Term ∷ Term ∷ Term ∷ []) 3
path_signature PLam = signed (codes "plam") (Context ∷ Term ∷ Term ∷ Term ∷ Term ∷ []) 3
path_signature PApp = signed (codes "papp") (Context ∷ Term ∷ Term ∷ Term ∷ Term ∷ Term ∷ []) 1
path_signature PAppCong = signed (codes "papp.cong")
    (Context ∷ Term ∷ Term ∷ Term ∷ Term ∷ Term ∷ Term ∷ []) 1
path_signature PathLeft = signed (codes "path.left") (Context ∷ Term ∷ Term ∷ Term ∷ Term ∷ []) 1
path_signature PathRight = signed (codes "path.right") (Context ∷ Term ∷ Term ∷ Term ∷ Term ∷ []) 1
path_signature PathBeta = signed (codes "path.beta") (Context ∷ Term ∷ Term ∷ Term ∷ []) 1
path_signature PathEta = signed (codes "path.eta")
    (Context ∷ Term ∷ Term ∷ Term ∷ Term ∷ Term ∷ []) 3

abbrev pub nat_signature : NatRule → Signature
nat_signature NatU = signed (codes "nat.u") (Context ∷ []) 1
nat_signature Zero = signed (codes "zero") (Context ∷ []) 1
nat_signature Suc = signed (codes "suc") (Context ∷ Term ∷ []) 1
nat_signature SucCong = signed (codes "suc.cong") (Context ∷ Term ∷ Term ∷ []) 1
nat_signature NatRec = signed (codes "natrec") (Context ∷ Term ∷ Term ∷ Term ∷ Term ∷ []) 4
nat_signature NatRecCong = signed (codes "natrec.cong")
    (Context ∷ Term ∷ Term ∷ Term ∷ Term ∷ Term ∷ Term ∷ Term ∷ Term ∷ []) 4
nat_signature NatRecZero = signed (codes "natrec.zero") (Context ∷ Term ∷ Term ∷ Term ∷ []) 3
nat_signature NatRecSuc = signed (codes "natrec.suc") (Context ∷ Term ∷ Term ∷ Term ∷ Term ∷ []) 4

abbrev pub system_signature : SystemRule → Signature
system_signature SysTy = signed (codes "sys.ty") (Context ∷ Term ∷ Term ∷ Term ∷ Term ∷ []) 3
system_signature SysTm = signed (codes "sys.tm") (Context ∷ Term ∷ Term ∷ Term ∷ Term ∷ Term ∷ []) 4
system_signature SysTyLeft = signed (codes "sys.tyleft")
    (Context ∷ Term ∷ Term ∷ Term ∷ Term ∷ []) 3
system_signature SysTyRight = signed (codes "sys.tyright")
    (Context ∷ Term ∷ Term ∷ Term ∷ Term ∷ []) 3
system_signature SysLeft = signed (codes "sys.left")
    (Context ∷ Term ∷ Term ∷ Term ∷ Term ∷ Term ∷ []) 4
system_signature SysRight = signed (codes "sys.right")
    (Context ∷ Term ∷ Term ∷ Term ∷ Term ∷ Term ∷ []) 4
system_signature EmptyTy = signed (codes "empty.ty") (Context ∷ []) 1
system_signature EmptyTm = signed (codes "empty.tm") (Context ∷ Term ∷ []) 1

abbrev pub comp_signature : CompRule → Signature
comp_signature Comp = signed (codes "comp") (Context ∷ Term ∷ Term ∷ Term ∷ Term ∷ []) 4
comp_signature CompFace = signed (codes "comp.face") (Context ∷ Term ∷ Term ∷ Term ∷ Term ∷ []) 4
comp_signature CompCong = signed (codes "comp.cong")
    (Context ∷ Term ∷ Term ∷ Term ∷ Term ∷ Term ∷ Term ∷ Term ∷ Term ∷ []) 6
comp_signature CompPi = signed (codes "comp.pi") (Context ∷ Term ∷ Term ∷ Term ∷ Term ∷ Term ∷ []) 5
comp_signature CompSig = signed (codes "comp.sig")
    (Context ∷ Term ∷ Term ∷ Term ∷ Term ∷ Term ∷ []) 5
comp_signature CompPath = signed (codes "comp.path")
    (Context ∷ Term ∷ Term ∷ Term ∷ Term ∷ Term ∷ Term ∷ []) 6
comp_signature CompZero = signed (codes "comp.zero") (Context ∷ Term ∷ []) 1
comp_signature CompSuc = signed (codes "comp.suc") (Context ∷ Term ∷ Term ∷ Term ∷ []) 3
comp_signature CompGlue = signed (codes "comp.glue")
    (Context ∷ Term ∷ Term ∷ Term ∷ Term ∷ Term ∷ Term ∷ Term ∷ []) 6
comp_signature CompU = signed (codes "comp.u") (Context ∷ Term ∷ Term ∷ Term ∷ []) 3

abbrev pub glue_signature : GlueRule → Signature
glue_signature GlueTy = signed (codes "glue.ty") (Context ∷ Term ∷ Term ∷ Term ∷ Term ∷ []) 3
glue_signature GlueU = signed (codes "glue.u") (Context ∷ Term ∷ Term ∷ Term ∷ Term ∷ []) 3
glue_signature GlueTyFace = signed (codes "glue.tyface")
    (Context ∷ Term ∷ Term ∷ Term ∷ Term ∷ []) 3
glue_signature GlueUFace = signed (codes "glue.uface") (Context ∷ Term ∷ Term ∷ Term ∷ Term ∷ []) 3
glue_signature GlueTyCong = signed (codes "glue.tycong")
    (Context ∷ Term ∷ Term ∷ Term ∷ Term ∷ Term ∷ Term ∷ Term ∷ Term ∷ []) 3
glue_signature GlueUCong = signed (codes "glue.ucong")
    (Context ∷ Term ∷ Term ∷ Term ∷ Term ∷ Term ∷ Term ∷ Term ∷ Term ∷ []) 3
glue_signature Glue = signed (codes "glue")
    (Context ∷ Term ∷ Term ∷ Term ∷ Term ∷ Term ∷ Term ∷ []) 6
glue_signature GlueFace = signed (codes "glue.face")
    (Context ∷ Term ∷ Term ∷ Term ∷ Term ∷ Term ∷ Term ∷ []) 6
glue_signature Unglue = signed (codes "unglue") (Context ∷ Term ∷ Term ∷ Term ∷ Term ∷ Term ∷ []) 4
glue_signature UnglueFace = signed (codes "unglue.face")
    (Context ∷ Term ∷ Term ∷ Term ∷ Term ∷ Term ∷ []) 4
glue_signature UnglueCong = signed (codes "unglue.cong")
    (Context ∷ Term ∷ Term ∷ Term ∷ Term ∷ Term ∷ Term ∷ Term ∷ Term ∷ Term ∷ []) 6
glue_signature GlueBeta = signed (codes "glue.beta")
    (Context ∷ Term ∷ Term ∷ Term ∷ Term ∷ Term ∷ Term ∷ []) 6
glue_signature GlueEta = signed (codes "glue.eta")
    (Context ∷ Term ∷ Term ∷ Term ∷ Term ∷ Term ∷ Term ∷ []) 7

abbrev pub signature_of : RuleName → Signature
signature_of (Contexts rule) = context_signature rule
signature_of (Instances rule) = instance_signature rule
signature_of (Equality rule) = equality_signature rule
signature_of (Universe rule) = universe_signature rule
signature_of (Pi rule) = pi_signature rule
signature_of (Sigma rule) = sigma_signature rule
signature_of (Paths rule) = path_signature rule
signature_of (Naturals rule) = nat_signature rule
signature_of (Systems rule) = system_signature rule
signature_of (Composition rule) = comp_signature rule
signature_of (Gluing rule) = glue_signature rule

-- Written by hand from here on.

-- the row in the program is that signature
abbrev pub Shows : Signature → Row → Type 0
Shows s row = (row.name.now ≡ s.name) × (row.parts.now ≡ s.parts) ×
    (row.premises ≡ s.premises) × (row.version ≡ s.version)

abbrev pub name_of : RuleName → List ℕ
name_of rule = (signature_of rule).name

abbrev pub kinds_of : RuleName → List PartKind
kinds_of rule = (signature_of rule).parts

abbrev pub premises_of : RuleName → ℕ
premises_of rule = (signature_of rule).premises

abbrev pub first_version : RuleName → ℕ
first_version rule = (signature_of rule).version

-- the rule has that name, and files of the version may name it
abbrev pub IsRule : ℕ → List ℕ → RuleName → Type 0
IsRule version name rule = (name ≡ name_of rule) × (first_version rule ≤ version)
