-- When a row is right after others, by its kind.
use Rattle.std.proofs.Common.{◌≡◌, ℕ, ◌<◌, List, [], ◌∷◌, ◌++◌, length, refl, sym, ◌∙◌, ap, arith, Option, Some, None, IsSome, Bool, false}
use Rattle.std.specs.Prelude.{Result, Ok, Err, slice_get, ◌==◌, option_and_then}
use Rattle.std.specs.Result.{OnOk, OnErr}
use Rattle.theory.specs.declared.rule.RuleName.{RuleName}
use Rattle.trees.specs.Judgements.{Judgement}
use Rattle.trees.specs.Things.{Thing}
use Rattle.deriv_file.specs.declared.row.Row.{Row}
use Rattle.deriv_file.specs.declared.row.Row.TheVariants.{Header, Node, Root}
use Rattle.derivation.specs.Meanings.{Meaning, Means, Concludes, Nothing, thing_at, conclusion_at}
use Rattle.derivation.specs.Right.{RightNode, RightRow, thing_made}
use Rattle.replay.specs.declared.filed.Filed.{Filed}
use Rattle.replay.specs.declared.filed.Filed.TheVariants as filed
use Rattle.replay.specs.Filed.{filed_meaning, file_meanings, AllFiled, FiledIs, MadeAs}
use Rattle.replay.proofs.EachLaws.{each_push, all_push}

pub some_filed : (xs : List Thing) (es : List Filed) → 0 < length es → 0 < length (file_meanings xs es)
some_filed xs [] lt = absurd (omega arith)
some_filed xs (e ∷ es) lt = omega arith

pub not_empty : (es : List Filed) (b : Bool) → b ≡ false → b ≡ (length es == 0) → 0 < length es
not_empty [] b f e = cc
not_empty (e ∷ es) b f e' = omega arith

thing_right : (before : List Meaning) → 0 < length before → (row : Row) (x : Thing) → thing_made (thing_at before) row ≡ Some x → RightRow before row (Means x)
thing_right [] some row x e = absurd (omega arith)
thing_right (b ∷ before) some (Header version) x e = cc
thing_right (b ∷ before) some (Node rule parts premises) x e = cc
thing_right (b ∷ before) some (Root node) x e = cc
thing_right (b ∷ before) some row x e = (x, e, refl)

module _ (xs : List Thing) (es : List Filed) (some : 0 < length es) where
  -- what is kept of a tree, a substitution or a context
  pub filed_thing : (ys : List Thing) (row : Row) (at : ℕ) → MadeAs (thing_made (thing_at (file_meanings xs es)) row) ys (Some at) → FiledIs (file_meanings xs es) ys row (Some (filed.Thing at))
  filed_thing ys row at made = from (thing_made (thing_at (file_meanings xs es)) row) refl made.0 made.1
    where
      from : (o : Option Thing) → thing_made (thing_at (file_meanings xs es)) row ≡ o → IsSome o → slice_get ys at ≡ o → FiledIs (file_meanings xs es) ys row (Some (filed.Thing at))
      from None e live is = cc
      from (Some x) e live is = (
        Means x,
        thing_right (file_meanings xs es) (some_filed xs es some) row x e,
        ap (option_and_then (λ x. Some (Means x))) is,
      )

root_right : (before : List Meaning) → 0 < length before → (node : ℕ) (J : Judgement) → conclusion_at before node ≡ Some J → RightRow before (Root node) Nothing
root_right [] some node J e = absurd (omega arith)
root_right (b ∷ before) some node J e = (J, e, refl)

pub root_wrong : (before : List Meaning) → 0 < length before → (node : ℕ) → conclusion_at before node ≡ None → (m : Meaning) → RightRow before (Root node) m → ⊥
root_wrong [] some node e m r = absurd (omega arith)
root_wrong (b ∷ before) some node e m r = let h : None ≡ Some r.0 = sym e ∙ r.1 in cc

pub root_filed : (before : List Meaning) → 0 < length before → (node : ℕ) (o : Option Judgement) → IsSome o → conclusion_at before node ≡ o → (m : Meaning) × RightRow before (Root node) m × (◌≡◌ {A = Option Meaning} (Some Nothing) (Some m))
root_filed before some node None live e = cc
root_filed before some node (Some J) live e = (Nothing, root_right before some node J e, refl)

-- what is no thing is no right row
pub thing_wrong : (before : List Meaning) → 0 < length before → (row : Row) → ((rule : RuleName) (parts premises : List ℕ) → row ≡ Node rule parts premises → ⊥) → ((node : ℕ) → row ≡ Root node → ⊥) → thing_made (thing_at before) row ≡ None → (m : Meaning) → RightRow before row m → ⊥
thing_wrong [] some row node root none m r = absurd (omega arith)
thing_wrong (b ∷ before) some (Header version) node root none m r = absurd r
thing_wrong (b ∷ before) some (Node rule parts premises) node root none m r = node rule parts premises refl
thing_wrong (b ∷ before) some (Root n) node root none m r = root n refl
thing_wrong (b ∷ before) some row node root none m r = let h : None ≡ Some r.0 = sym none ∙ r.1 in cc

pub node_right : (before : List Meaning) → 0 < length before → (rule : RuleName) (parts premises : List ℕ) (J : Judgement) → RightNode before rule parts premises J → RightRow before (Node rule parts premises) (Concludes J)
node_right [] some rule parts premises J r = absurd (omega arith)
node_right (b ∷ before) some rule parts premises J r = (J, r, refl)

pub node_wrong : (before : List Meaning) → 0 < length before → (rule : RuleName) (parts premises : List ℕ) → ((J : Judgement) → RightNode before rule parts premises J → ⊥) → (m : Meaning) → RightRow before (Node rule parts premises) m → ⊥
node_wrong [] some rule parts premises none m r = absurd (omega arith)
node_wrong (b ∷ before) some rule parts premises none m r = none r.0 r.1

-- one more row

pub filed_push : (xs : List Thing) (es : List Filed) (e : Filed) (m : Meaning) → filed_meaning xs e ≡ Some m → file_meanings xs (es ++ e ∷ []) ≡ file_meanings xs es ++ m ∷ []
filed_push xs es e m is = each_push (filed_meaning xs) Nothing es e m is

pub all_pushed : {T E : Type 0} (r : Result T E) (xs : List Thing) (es next : List Filed) (e : Filed) (m : Meaning) → AllFiled xs es → filed_meaning xs e ≡ Some m → OnOk r (next ≡ es ++ e ∷ []) → OnErr r (next ≡ es) → AllFiled xs next
all_pushed (Ok _) xs es next e m all is ok err = rw ok (all_push (filed_meaning xs) es e m all is)
all_pushed (Err _) xs es next e m all is ok err = rw err all
