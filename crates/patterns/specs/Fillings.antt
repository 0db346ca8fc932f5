-- What a normal term with unknown parts means at given parts.
use Rattle.std.specs.Prelude.{◌≡◌, ℕ}
use Rattle.trees.specs.Language.{Ctx, Ty, TyEq, Tm, TmEq, Sb}
use Rattle.trees.specs.Language.{IsFormula, IsFace, Holds, Alike}
use Rattle.trees.specs.Trees.{Tree, Trees, Var, Make, NoTrees, More}
use Rattle.trees.specs.Trees.{Subst, apply, shift_by, push, then}
use Rattle.trees.specs.Judgements.{Context, Nil, WithVar, WithName, WithFace, trees, Judgement}
use Rattle.trees.specs.Judgements.{SideCondition}
use Rattle.substitution.specs.Forms.{drop}
use Rattle.substitution.specs.Action.{look}
use Rattle.patterns.specs.Patterns.{ContextPart, Empty, AddVar, AddName, AddFace}
use Rattle.patterns.specs.Values.{Parts}
use Rattle.patterns.specs.Normals.{Normal, Normals, NormalSubst, NVar, NMake, NPart, NEntry}
use Rattle.patterns.specs.Normals.{NoNormals, MoreNormals, NShift, NPush, NRest, NormalContext}
use Rattle.patterns.specs.Normals.{normals}
use Rattle.patterns.specs.Tests.{NormalJudgement, NormalCondition}

abbrev mutual
  pub filled : Parts trees → Normal → Tree
  filled v (NVar k) = Var k
  filled v (NMake op ts) = Make op (filled_kids v ts)
  filled v (NPart k s) = apply (v.tree k) (filled_subst v s)
  filled v (NEntry k n s) = apply (look (v.subst k) n) (filled_subst v s)

  pub filled_kids : Parts trees → Normals → Trees
  filled_kids v NoNormals = NoTrees
  filled_kids v (MoreNormals t ts) = More (filled v t) (filled_kids v ts)

  pub filled_subst : Parts trees → NormalSubst → Subst
  filled_subst v (NShift n) = shift_by n
  filled_subst v (NPush s t) = push (filled_subst v s) (filled v t)
  filled_subst v (NRest n k s) = then (drop trees n (v.subst k)) (filled_subst v s)

abbrev pub filled_context : Parts trees → NormalContext → Context
filled_context v (ContextPart k) = v.context k
filled_context v Empty = Nil
filled_context v (AddVar G A) = WithVar (filled_context v G) (filled v A)
filled_context v (AddName G) = WithName (filled_context v G)
filled_context v (AddFace G p) = WithFace (filled_context v G) (filled v p)

abbrev pub filled_judgement : Parts trees → NormalJudgement → Judgement
filled_judgement v (Ctx G) = Ctx (filled_context v G)
filled_judgement v (Ty G A) = Ty (filled_context v G) (filled v A)
filled_judgement v (TyEq G A B) = TyEq (filled_context v G) (filled v A) (filled v B)
filled_judgement v (Tm G a A) = Tm (filled_context v G) (filled v a) (filled v A)
filled_judgement v (TmEq G a b A) = TmEq (filled_context v G) (filled v a) (filled v b) (filled v A)
filled_judgement v (Sb H d G) = Sb (filled_context v H) (filled_subst v d) (filled_context v G)

abbrev pub filled_condition : Parts trees → NormalCondition → SideCondition
filled_condition v (IsFormula G r) = IsFormula (filled_context v G) (filled v r)
filled_condition v (IsFace G p) = IsFace (filled_context v G) (filled v p)
filled_condition v (Holds G p) = Holds (filled_context v G) (filled v p)
filled_condition v (Alike H d e) =
    Alike (filled_context v H) (filled_subst v d) (filled_subst v e)

-- at the parts v the normal terms u are the parts w
pub record Fits (v : Parts trees) (u : Parts normals) (w : Parts trees) : Type 0 where
  pub tree : (k : ℕ) → filled v (u.tree k) ≡ w.tree k
  pub subst : (k : ℕ) → filled_subst v (u.subst k) ≡ w.subst k
  pub context : (k : ℕ) → filled_context v (u.context k) ≡ w.context k
