-- Forms and their parts.
use Rattle.std.proofs.Common.{◌≡◌, ℕ, [], ◌∷◌, true, refl, ◌∙◌, ap, Option, Some, None, IsSome}
use Rattle.std.specs.Prelude.{option_and_then, MatchOption}
use Rattle.trees.specs.declared.op.Op.{Op}
use Rattle.trees.specs.declared.op.Op.TheVariants as op
use Rattle.trees.specs.Trees.{Tree, Var, Make, More, NoTrees, Subst, apply}
use Rattle.trees.specs.Judgements.{Context, WithVar}
use Rattle.trees.specs.Language.{Ty}
use Rattle.trees.specs.Things.{ATree, Meanings, made, meanings}
use Rattle.book.specs.Contents.{Contents}
use Rattle.literal_terms.specs.declared.forms.TermForm.{TermForm}
use Rattle.literal_terms.specs.declared.forms.TermForm.TheVariants as form
use Rattle.literal_terms.specs.declared.forms.LiteralTerm.{LiteralTerm}
use Rattle.literal_terms.specs.Forms.{IsFormed, is_literal, is_type}
use Rattle.literal_terms.specs.Traces.{IsLiteralTerm}
use Rattle.presuppositions.specs.declared.source.Label.TheVariants as label
use Rattle.presuppositions.specs.Behind.{behind, is_binder}
use Rattle.book_tests.proofs.RunLaws.{made-of-two}
use Rattle.behind_tests.specs.Claims.{IsRow}

-- the parts of a type of functions or of pairs

abbrev pub over : Op → Tree → Tree → Tree
over o A B = Make o (More A (More B NoTrees))

pub domain_of : (o : Op) (G : Context) (A B : Tree) → is_binder o ≡ true → behind label.Domain (Ty G (over o A B)) ≡ Some (Ty G A)
domain_of o G A B h = rw h refl

pub codomain_of : (o : Op) (G : Context) (A B : Tree) → is_binder o ≡ true → behind label.Codomain (Ty G (over o A B)) ≡ Some (Ty (WithVar G A) B)
codomain_of o G A B h = rw h refl

binder_made : (o : Op) (A B : Tree) → is_binder o ≡ true → made o (ATree A ∷ ATree B ∷ []) ≡ Some (ATree (over o A B))
binder_made op.Pi A B h = refl
binder_made op.Sig A B h = refl
binder_made _ A B h = absurd (cc h)

pub family_made : (f : Meanings) (o : Op) (j k : ℕ) (A B : Tree) → is_binder o ≡ true → f j ≡ Some (ATree A) → f k ≡ Some (ATree B) → option_and_then (made o) (meanings f (j ∷ k ∷ [])) ≡ Some (ATree (over o A B))
family_made f o j k A B h d e = made-of-two f o j k (ATree A) (ATree B) d e ∙ binder_made o A B h

-- three kids

pub made-of-three : (f : Meanings) (o : Op) (i j k : ℕ) (A B C : Tree) → f i ≡ Some (ATree A) → f j ≡ Some (ATree B) → f k ≡ Some (ATree C) → option_and_then (made o) (meanings f (i ∷ j ∷ k ∷ [])) ≡ made o (ATree A ∷ ATree B ∷ ATree C ∷ [])
made-of-three f o i j k A B C d e h = rw (d, e, h) refl

-- the row means a tree, where there is one
abbrev pub RowOr : Contents → Option ℕ → Type 0
RowOr b found = MatchOption found (Unit {0}) (λ row. (t : Tree) × IsRow b row (ATree t))

-- a form is a literal one, under a substitution

type_is_literal : (t : Tree) (d : Subst) → is_type t ≡ true → is_literal (apply t d) ≡ true
type_is_literal (Var k) d h = absurd (cc h)
type_is_literal (Make op.Pi ts) d h = refl
type_is_literal (Make op.Sig ts) d h = refl
type_is_literal (Make op.PathP ts) d h = refl
type_is_literal (Make op.Nat ts) d h = refl
type_is_literal (Make op.GlueType ts) d h = refl
type_is_literal (Make _ ts) d h = absurd (cc h)

pub form_is_literal : (b : Contents) (x : TermForm) (K : Context) (t S : Tree) (d : Subst) → IsFormed b x K t S → is_literal (apply t d) ≡ true
form_is_literal b (form.Function domain body) K t S d is =
    let (A, s, B, tree, type, first, second) = is in
    ap (λ u. is_literal (apply u d)) tree
form_is_literal b (form.Pair codomain left right) K t S d is =
    let (A, B, u, v, tree, type, first, second, third) = is in
    ap (λ x. is_literal (apply x d)) tree
form_is_literal b (form.Path body left right) K t S d is =
    let (A, s, u, v, tree, type, first, second, third) = is in
    ap (λ x. is_literal (apply x d)) tree
form_is_literal b (form.Glued parts) K t S d is =
    let (A, p, T, w, e, a, tree, type, face, base, side, equivalence, inner, outer, agrees) = is in
    ap (λ x. is_literal (apply x d)) tree
form_is_literal b (form.Type node) K t S d is = type_is_literal t d is.0

pub found_is_literal : (b : Contents) (found : Option LiteralTerm) (G : Context) (t T : Tree) → IsLiteralTerm b found G t T → IsSome found → is_literal t ≡ true
found_is_literal b None G t T is some = absurd (cc some)
found_is_literal b (Some term) G t T is some =
    let (K, d, a, A, sub, formed, tree, fits) = is in
    ap is_literal tree ∙ form_is_literal b term.form K a A d formed

-- the trees of a function, a pair and a path

pub two_made : (f : Meanings) (o : Op) (j k : ℕ) (A B : Tree) → made o (ATree A ∷ ATree B ∷ []) ≡ Some (ATree (over o A B)) → f j ≡ Some (ATree A) → f k ≡ Some (ATree B) → option_and_then (made o) (meanings f (j ∷ k ∷ [])) ≡ Some (ATree (over o A B))
two_made f o j k A B h d e = made-of-two f o j k (ATree A) (ATree B) d e ∙ h
