-- The parts of types that are literal forms.
use Rattle.std.proofs.Common.{◌≡◌, true, cond, refl, sym, ◌∙◌, ap, ap₂, subst, Some, None}
use Rattle.std.specs.Prelude.{option_and_then}
use Rattle.trees.specs.declared.op.Op.{Op}
use Rattle.trees.specs.declared.op.Op.TheVariants as op
use Rattle.trees.specs.Trees.{Tree, Trees, Var, Make, NoTrees, More, id, apply}
use Rattle.trees.specs.Judgements.{Context, WithVar, WithName, Judgement, trees}
use Rattle.trees.specs.Language.{Ty, Tm, Sb}
use Rattle.substitution.specs.Forms.{lift}
use Rattle.substitution.proofs.ThenLaws.{apply-id}
use Rattle.substitution.proofs.BinderLaws.{apply-at}
use Rattle.rules.specs.Table.{at, i0, i1, pathp, pi, sig}
use Rattle.book.specs.Contents.{Contents}
use Rattle.book.specs.Shown.{Extends}
use Rattle.book.specs.declared.kernel.NodeId.{NodeId}
use Rattle.typed_nodes.specs.declared.types.Family.{Family}
use Rattle.typed_nodes.specs.declared.types.Line.{Line}
use Rattle.typed_nodes.specs.Typed.{IsFamily, IsLine, IsTypeAt, Says}
use Rattle.literal_types.specs.Literal.{IsNoForm}
use Rattle.presuppositions.specs.declared.source.Label.{Label}
use Rattle.presuppositions.specs.declared.source.Label.TheVariants as label
use Rattle.presuppositions.specs.Behind.{behind, is_binder, is_path, listed, over_two, over_three}
use Rattle.presuppositions.specs.Sought.{is_of_parts}
use Rattle.presupposed.specs.Parts.{FamilyHas, LineHas}

-- a type at home
pub at_home : (b : Contents) (ty sub : NodeId) (G : Context) (T : Tree) → Says b ty (Ty G T) → Says b sub (Sb G id G) → IsTypeAt b (record { ty = ty; sub = sub }) G T
at_home b ty sub G T is_ty is_sub = record {
  home = G;
  tree = T;
  sub = id;
  type_is = is_ty;
  sub_is = is_sub;
  is = sym (apply-id T);
}

pub pi_has : (l : Label) (G : Context) (T A B : Tree) (J : Judgement) → T ≡ pi trees A B → is_of_parts l ≡ true → behind l (Ty G T) ≡ Some J → FamilyHas l G A B J
pi_has l G T A B J is part e = from l part (subst (λ t. behind l (Ty G t) ≡ Some J) is e)
  where
    from : (m : Label) → is_of_parts m ≡ true → behind m (Ty G (pi trees A B)) ≡ Some J → FamilyHas m G A B J
    from label.Domain p f = let same : Ty G A ≡ J = cc in sym same
    from label.Codomain p f = let same : Ty (WithVar G A) B ≡ J = cc in sym same
    from label.Line p f = absurd (cc f)
    from label.LeftEnd p f = absurd (cc f)
    from label.RightEnd p f = absurd (cc f)
    from _ p f = absurd (cc p)

pub sig_has : (l : Label) (G : Context) (T A B : Tree) (J : Judgement) → T ≡ sig trees A B → is_of_parts l ≡ true → behind l (Ty G T) ≡ Some J → FamilyHas l G A B J
sig_has l G T A B J is part e = from l part (subst (λ t. behind l (Ty G t) ≡ Some J) is e)
  where
    from : (m : Label) → is_of_parts m ≡ true → behind m (Ty G (sig trees A B)) ≡ Some J → FamilyHas m G A B J
    from label.Domain p f = let same : Ty G A ≡ J = cc in sym same
    from label.Codomain p f = let same : Ty (WithVar G A) B ≡ J = cc in sym same
    from label.Line p f = absurd (cc f)
    from label.LeftEnd p f = absurd (cc f)
    from label.RightEnd p f = absurd (cc f)
    from _ p f = absurd (cc p)

pub line_has : (l : Label) (G : Context) (T A u v : Tree) (J : Judgement) → T ≡ pathp trees A u v → is_of_parts l ≡ true → behind l (Ty G T) ≡ Some J → LineHas l G A u v J
line_has l G T A u v J is part e = from l part (subst (λ t. behind l (Ty G t) ≡ Some J) is e)
  where
    from : (m : Label) → is_of_parts m ≡ true → behind m (Ty G (pathp trees A u v)) ≡ Some J → LineHas m G A u v J
    from label.Domain p f = absurd (cc f)
    from label.Codomain p f = absurd (cc f)
    from label.Line p f = let same : Ty (WithName G) A ≡ J = cc in sym same
    from label.LeftEnd p f = let same : Tm G u (at trees A (i0 trees)) ≡ J = cc in sym same
    from label.RightEnd p f = let same : Tm G v (at trees A (i1 trees)) ≡ J = cc in sym same
    from _ p f = absurd (cc p)

-- what is no form has no parts

two_kids : (o : Op) (ts : Trees) (f : Tree → Tree → Judgement) (J : Judgement) → option_and_then (over_two f) (cond (is_binder o) (Some (listed ts)) None) ≡ Some J → IsNoForm (Make o ts) → ⊥
two_kids op.Pi NoTrees f J e other = cc e
two_kids op.Pi (More A NoTrees) f J e other = cc e
two_kids op.Pi (More A (More B NoTrees)) f J e other = other.no_pi A B refl
two_kids op.Pi (More A (More B (More C ts))) f J e other = cc e
two_kids op.Sig NoTrees f J e other = cc e
two_kids op.Sig (More A NoTrees) f J e other = cc e
two_kids op.Sig (More A (More B NoTrees)) f J e other = other.no_sigma A B refl
two_kids op.Sig (More A (More B (More C ts))) f J e other = cc e
two_kids _ ts f J e other = cc e

three_kids : (o : Op) (ts : Trees) (f : Tree → Tree → Tree → Judgement) (J : Judgement) → option_and_then (over_three f) (cond (is_path o) (Some (listed ts)) None) ≡ Some J → IsNoForm (Make o ts) → ⊥
three_kids op.PathP NoTrees f J e other = cc e
three_kids op.PathP (More A NoTrees) f J e other = cc e
three_kids op.PathP (More A (More B NoTrees)) f J e other = cc e
three_kids op.PathP (More A (More B (More C NoTrees))) f J e other = other.no_path A B C refl
three_kids op.PathP (More A (More B (More C (More D ts)))) f J e other = cc e
three_kids _ ts f J e other = cc e

pub no_parts : (l : Label) (G : Context) (T : Tree) (J : Judgement) → is_of_parts l ≡ true → behind l (Ty G T) ≡ Some J → IsNoForm T → ⊥
no_parts label.Domain G (Var k) J p e other = cc e
no_parts label.Domain G (Make o ts) J p e other = two_kids o ts (λ A B. Ty G A) J e other
no_parts label.Codomain G (Var k) J p e other = cc e
no_parts label.Codomain G (Make o ts) J p e other = two_kids o ts (λ A B. Ty (WithVar G A) B) J e other
no_parts label.Line G (Var k) J p e other = cc e
no_parts label.Line G (Make o ts) J p e other = three_kids o ts (λ A u v. Ty (WithName G) A) J e other
no_parts label.LeftEnd G (Var k) J p e other = cc e
no_parts label.LeftEnd G (Make o ts) J p e other = three_kids o ts (λ A u v. Tm G u (at trees A (i0 trees))) J e other
no_parts label.RightEnd G (Var k) J p e other = cc e
no_parts label.RightEnd G (Make o ts) J p e other = three_kids o ts (λ A u v. Tm G v (at trees A (i1 trees))) J e other
no_parts _ G T J p e other = cc p

-- the parts, by the nodes of their homes

pub domain_at : (b : Contents) (family : Family) (G : Context) (A B : Tree) → IsFamily b family G A B → IsTypeAt b (record { ty = family.domain; sub = family.sub }) G A
domain_at b family G A B is = record {
  home = is.home;
  tree = is.domain;
  sub = is.sub;
  type_is = is.domain_is;
  sub_is = is.sub_is;
  is = is.left;
}

pub codomain_at : (b c : Contents) (grown : Extends b c) (family : Family) (under : NodeId) (G : Context) (A B : Tree) (is : IsFamily b family G A B) → Says c under (Sb (WithVar G (apply is.domain is.sub)) (lift trees is.sub) (WithVar is.home is.domain)) → IsTypeAt c (record { ty = family.codomain; sub = under }) (WithVar G A) B
codomain_at b c grown family under G A B is says = record {
  home = WithVar is.home is.domain;
  tree = is.codomain;
  sub = lift trees is.sub;
  type_is = grown.conclusions family.codomain.0 (Ty (WithVar is.home is.domain) is.codomain) is.codomain_is;
  sub_is = subst (λ t. Says c under (Sb (WithVar G t) (lift trees is.sub) (WithVar is.home is.domain))) (sym is.left) says;
  is = is.right;
}

pub line_at : (b c : Contents) (grown : Extends b c) (line : Line) (under : NodeId) (G : Context) (A u v : Tree) (is : IsLine b line G A u v) → Says c under (Sb (WithName G) (lift trees is.sub) (WithName is.home)) → IsTypeAt c (record { ty = line.ty; sub = under }) (WithName G) A
line_at b c grown line under G A u v is says = record {
  home = WithName is.home;
  tree = is.tree;
  sub = lift trees is.sub;
  type_is = grown.conclusions line.ty.0 (Ty (WithName is.home) is.tree) is.line_is;
  sub_is = says;
  is = is.is;
}

pub left_at : (b : Contents) (line : Line) (node : NodeId) (G : Context) (A u v : Tree) (is : IsLine b line G A u v) (c : Contents) → Says c node (Tm G (apply is.start is.sub) (apply (at trees is.tree (i0 trees)) is.sub)) → Says c node (Tm G u (at trees A (i0 trees)))
left_at b line node G A u v is c says =
    let ty : apply (at trees is.tree (i0 trees)) is.sub ≡ at trees A (i0 trees) = apply-at is.tree (i0 trees) is.sub ∙ ap (λ t. at trees t (i0 trees)) (sym is.is) in
    says ∙ ap₂ (λ s t. Some (Tm G s t)) (sym is.left) ty

pub right_at : (b : Contents) (line : Line) (node : NodeId) (G : Context) (A u v : Tree) (is : IsLine b line G A u v) (c : Contents) → Says c node (Tm G (apply is.end is.sub) (apply (at trees is.tree (i1 trees)) is.sub)) → Says c node (Tm G v (at trees A (i1 trees)))
right_at b line node G A u v is c says =
    let ty : apply (at trees is.tree (i1 trees)) is.sub ≡ at trees A (i1 trees) = apply-at is.tree (i1 trees) is.sub ∙ ap (λ t. at trees t (i1 trees)) (sym is.is) in
    says ∙ ap₂ (λ s t. Some (Tm G s t)) (sym is.right) ty
