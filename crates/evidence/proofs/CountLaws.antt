-- Counting the variables and names of a context, entry by entry.
use Rattle.std.proofs.Common.{◌≡◌, ◌<◌, ◌≤◌, ◌+◌, ℕ, List, ◌∷◌, Some, ◌∙◌, ap, arith}
use Rattle.std.specs.Prelude.{option_and_then}
use Rattle.std.specs.List.{All}
use Rattle.std.proofs.lemmas.List.Elements.{All-head}
use Rattle.trees.specs.Judgements.{Nil}
use Rattle.trees.specs.Things.{AContext, Meanings, both, with_variable, with_a_name, with_a_face}
use Rattle.rows.specs.Views.{IsContext}
use Rattle.side_conditions.specs.Contexts.{context_of}
use Rattle.side_conditions.specs.Levels.{count_indices}
use Rattle.side_conditions.proofs.ContextLaws.{var_entry, name_entry, face_entry}

-- so many stand further in than the context that is left
pub record Counted (f : Meanings) (ctx rest count : ℕ) : Type 0 where
  pub is : IsContext (f rest)
  pub all : count + count_indices (context_of (f rest)) ≡ count_indices (context_of (f ctx))
  pub few : count + rest ≤ ctx

pub counted_begin : (f : Meanings) (ctx : ℕ) → IsContext (f ctx) → Counted f ctx ctx 0
counted_begin f ctx is = record { is = is; all = omega arith; few = omega arith }

pub earlier_first : (k n : ℕ) (ns : List ℕ) → All (λ m. m < k) (n ∷ ns) → n < k
earlier_first k n ns all = All-head (λ m. m < k) n ns all

pub counted_var : (f : Meanings) (ctx rest count outer ty : ℕ) → Counted f ctx rest count → f rest ≡ both with_variable (f outer) (f ty) → outer < rest → Counted f ctx outer (count + 1)
counted_var f ctx rest count outer ty c e less =
    let v = var_entry f rest outer ty c.is e in
    let n : count_indices (context_of (f rest)) ≡ count_indices (context_of (f outer)) + 1 = ap count_indices v.row_is ∙ omega arith in
    record { is = v.outer_is; all = omega (arith, c.all, n); few = omega (arith, c.few, less) }

pub counted_name : (f : Meanings) (ctx rest count outer : ℕ) → Counted f ctx rest count → f rest ≡ option_and_then with_a_name (f outer) → outer < rest → Counted f ctx outer (count + 1)
counted_name f ctx rest count outer c e less =
    let v = name_entry f rest outer c.is e in
    let n : count_indices (context_of (f rest)) ≡ count_indices (context_of (f outer)) + 1 = ap count_indices v.row_is ∙ omega arith in
    record { is = v.outer_is; all = omega (arith, c.all, n); few = omega (arith, c.few, less) }

pub counted_face : (f : Meanings) (ctx rest count outer face : ℕ) → Counted f ctx rest count → f rest ≡ both with_a_face (f outer) (f face) → outer < rest → Counted f ctx outer count
counted_face f ctx rest count outer face c e less =
    let v = face_entry f rest outer face c.is e in
    let n : count_indices (context_of (f rest)) ≡ count_indices (context_of (f outer)) = ap count_indices v.row_is in
    record { is = v.outer_is; all = omega (arith, c.all, n); few = omega (arith, c.few, less) }

pub counted_end : (f : Meanings) (ctx rest count : ℕ) → Counted f ctx rest count → f rest ≡ Some (AContext Nil) → count ≡ count_indices (context_of (f ctx))
counted_end f ctx rest count c e =
    let n : count_indices (context_of (f rest)) ≡ 0 = ap (λ x. count_indices (context_of x)) e in
    omega (arith, c.all, n)
