-- Faces of a name at an end that hold.
use Rattle.std.proofs.Common.{◌≡◌, ◌↔◌, inl, inr, ℕ, Bool, false, [], Option, Some, sym, ◌∙◌, ap, subst, IsTrue}
use Rattle.std.specs.Prelude.{option_and_then}
use Rattle.std.proofs.lemmas.Bool.{true≢false}
use Rattle.trees.specs.declared.op.Op.TheVariants as op
use Rattle.trees.specs.Trees.{Tree, Var}
use Rattle.trees.specs.Judgements.{Context}
use Rattle.trees.specs.Things.{Thing, ATree, both, consed, made}
use Rattle.conditions.specs.Formulas.{eq0, eq1}
use Rattle.conditions.specs.Sides.{HoldsIn, is_face, is_name}
use Rattle.side_conditions.specs.Contexts.{context_of}
use Rattle.side_conditions.specs.Shapes.{tree_of}
use Rattle.evidence.specs.Contexts.{IsFixed}

-- whether a face holds in a context
abbrev pub HoldsAt : Bool → Option Thing → Option Thing → Type 0
HoldsAt told x y = IsTrue told ↔ (IsTrue (is_face (context_of x) (tree_of y)) × HoldsIn (context_of x) (tree_of y))

pub held : (told : Bool) (x w y : Option Thing) (p : Tree) → x ≡ w → y ≡ Some (ATree p) → HoldsAt told x y → HoldsAt told w (Some (ATree p))
held told x w y p e t is = subst (λ z. HoldsAt told z (Some (ATree p))) e (subst (HoldsAt told x) t is)

pub made_zero : (x : Option Thing) (k : ℕ) → x ≡ Some (ATree (Var k)) → option_and_then (made op.Eq0) (both consed x (Some [])) ≡ Some (ATree (eq0 (Var k)))
made_zero x k e = ap (λ y. option_and_then (made op.Eq0) (both consed y (Some []))) e

pub made_one : (x : Option Thing) (k : ℕ) → x ≡ Some (ATree (Var k)) → option_and_then (made op.Eq1) (both consed x (Some [])) ≡ Some (ATree (eq1 (Var k)))
made_one x k e = ap (λ y. option_and_then (made op.Eq1) (both consed y (Some []))) e

pub fixed_at_zero : (G : Context) (k : ℕ) (a : Bool) → IsTrue a → (IsTrue a ↔ (IsTrue (is_name G k) × HoldsIn G (eq0 (Var k)))) → IsFixed G k
fixed_at_zero G k a t zero = let h = zero.0 t in (h.0, inl h.1)

pub fixed_at_one : (G : Context) (k : ℕ) (a b : Bool) → a ≡ false → (IsTrue a ↔ (IsTrue (is_name G k) × HoldsIn G (eq0 (Var k)))) → (IsTrue b ↔ (IsTrue (is_name G k) × HoldsIn G (eq1 (Var k)))) → IsTrue b ↔ IsFixed G k
fixed_at_one G k a b e zero one = (
  λ t. let h = one.0 t in (h.0, inr h.1),
  λ is. elim is.1 [
    | inl z ↦ absurd (true≢false (sym (zero.1 (is.0, z)) ∙ e))
    | inr o ↦ one.1 (is.0, o)
  ],
)
