-- Terms that are literal forms.
use Rattle.std.specs.Prelude.{◌≡◌, Bool, true, false, IsTrue}
use Rattle.trees.specs.declared.op.Op.{Op}
use Rattle.trees.specs.declared.op.Op.TheVariants as op
use Rattle.trees.specs.Trees.{Tree, Var, Make}
use Rattle.trees.specs.Judgements.{Context, WithVar, WithName, WithFace, trees}
use Rattle.trees.specs.Language.{Ty, Tm, TmEq}
use Rattle.conditions.specs.Sides.{is_face}
use Rattle.rules.specs.Table.{at, i0, i1, app, equiv, fst, glue, glue_type, lam, pair, pathp, pi}
use Rattle.rules.specs.Table.{plam, sig, universe}
use Rattle.book.specs.Contents.{Contents}
use Rattle.typed_nodes.specs.Typed.{Says}
use Rattle.literal_terms.specs.declared.forms.Glued.{Glued}
use Rattle.literal_terms.specs.declared.forms.Paired.{Paired}
use Rattle.literal_terms.specs.declared.forms.TermForm.{TermForm}
use Rattle.literal_terms.specs.declared.forms.TermForm.TheVariants as form

-- the operator makes types
abbrev pub is_former : Op → Bool
is_former op.Pi = true
is_former op.Sig = true
is_former op.PathP = true
is_former op.Nat = true
is_former op.GlueType = true
is_former _ = false

-- the operator makes functions, pairs, paths, glued terms or types
abbrev pub is_form : Op → Bool
is_form op.Lam = true
is_form op.Pair = true
is_form op.PLam = true
is_form op.Glue = true
is_form op = is_former op

abbrev pub is_type : Tree → Bool
is_type (Var k) = false
is_type (Make op kids) = is_former op

abbrev pub is_literal : Tree → Bool
is_literal (Var k) = false
is_literal (Make op kids) = is_form op

-- the tree has an operator, and another one
abbrev pub HasOther : Tree → Type 0
HasOther (Var k) = ⊥
HasOther (Make op kids) = is_form op ≡ false

-- the nodes made t of type S, in K, by the rule of glued terms
abbrev pub IsGlued : Contents → Glued → Context → Tree → Tree → Type 0
IsGlued b g K t S =
    (A p T w c a : Tree) × (t ≡ glue trees p c a) × (S ≡ glue_type trees A p T w)
    × IsTrue (is_face K p)
    × Says b g.base (Ty K A) × Says b g.side (Ty (WithFace K p) T)
    × Says b g.equivalence (Tm (WithFace K p) w (equiv trees T A))
    × Says b g.inner (Tm (WithFace K p) c T) × Says b g.outer (Tm K a A)
    × Says b g.agrees (TmEq (WithFace K p) (app trees (fst trees w) c) a A)

-- the parts make t of type S, in K, by the rule of pairs
abbrev pub IsPaired : Contents → Paired → Context → Tree → Tree → Type 0
IsPaired b p K t S =
    (A B u v : Tree) × (t ≡ pair trees u v) × (S ≡ sig trees A B) × Says b p.domain (Ty K A)
    × Says b p.codomain (Ty (WithVar K A) B) × Says b p.left (Tm K u A)
    × Says b p.right (Tm K v (at trees B u))

-- t of type S, in K, is the form of these parts
abbrev pub IsFormed : Contents → TermForm → Context → Tree → Tree → Type 0
IsFormed b (form.Function domain body) K t S =
    (A s B : Tree) × (t ≡ lam trees A s) × (S ≡ pi trees A B) × Says b domain (Ty K A)
    × Says b body (Tm (WithVar K A) s B)
IsFormed b (form.Pair codomain left right) K t S =
    (A B u v : Tree) × (t ≡ pair trees u v) × (S ≡ sig trees A B)
    × Says b codomain (Ty (WithVar K A) B) × Says b left (Tm K u A)
    × Says b right (Tm K v (at trees B u))
IsFormed b (form.Path body left right) K t S =
    (A s u v : Tree) × (t ≡ plam trees s) × (S ≡ pathp trees A u v)
    × Says b body (Tm (WithName K) s A)
    × Says b left (TmEq K (at trees s (i0 trees)) u (at trees A (i0 trees)))
    × Says b right (TmEq K (at trees s (i1 trees)) v (at trees A (i1 trees)))
IsFormed b (form.Glued parts) K t S = IsGlued b parts K t S
IsFormed b (form.Type node) K t S =
    (is_type t ≡ true) × (S ≡ universe trees) × Says b node (Tm K t S)
