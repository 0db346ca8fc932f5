-- When two questions are one.
use Rattle.std.proofs.Common.{◌≡◌, ◌<◌, ℕ, zero, suc, List, [], ◌∷◌, Bool, true, false, Option, Some, None, cond, length, slice_index_or, refl, sym, ap, subst, rules, arith, ◌++◌, ◌∙◌, true≢false, is_some}
use Rattle.std.specs.Prelude.{IfNone, Contains}
use Rattle.std.specs.Map.{lookup}
use Rattle.values.specs.Answers.{with_answer}
use Rattle.values.specs.declared.answers.Kept.{Kept}
use Rattle.values.specs.declared.susp.Susp.{Susp}
use Rattle.values.specs.declared.questions.Question.{Question}
use Rattle.values.specs.declared.questions.Question.TheVariants as question
use Rattle.values.specs.contracts.susp.SuspPartialEq.TheImpl as susp
use Rattle.values.specs.contracts.questions.QuestionPartialEq.TheImpl.{eq-value}

same_susp : (s t : Susp) → susp.eq-value.it s t ≡ true → s ≡ t
same_susp s t e = search rules

pub same_question : (q r : Question) → eq-value.it q r ≡ true → q ≡ r
same_question (question.HeadOf s) (question.HeadOf t) e = ap question.HeadOf (same_susp s t e)
same_question (question.NormalOf s) (question.NormalOf t) e = ap question.NormalOf (same_susp s t e)
same_question (question.Convert c a b) (question.Convert d x y) e = search rules
same_question _ _ e = search rules

susp_same : (s : Susp) → susp.eq-value.it s s ≡ true
susp_same s = search rules

pub question_same : (q : Question) → eq-value.it q q ≡ true
question_same (question.HeadOf s) = susp_same s
question_same (question.NormalOf s) = susp_same s
question_same (question.Convert c a b) = search rules

-- where a question has no answer no pair of the list is one of it
no_answer : (q : Question) (a : Kept) (pairs : List (Question × Kept)) (k : ℕ) → k < length pairs → slice_index_or pairs k (q, a) ≡ (q, a) → lookup (eq-value.it q) pairs ≡ None → ⊥
no_answer q a [] k lt is none = absurd (omega (arith, lt))
no_answer q a (e ∷ es) k lt is none = by (eq-value.it q e.0) refl (no_answer q a es)
  where
    at : (j : ℕ) → j < length (e ∷ es) → slice_index_or (e ∷ es) j (q, a) ≡ (q, a) → eq-value.it q e.0 ≡ false → ((i : ℕ) → i < length es → slice_index_or es i (q, a) ≡ (q, a) → ⊥) → ⊥
    at zero lt is off rest =
        let first : eq-value.it q e.0 ≡ true = subst (λ (p : Question × Kept). eq-value.it q p.0 ≡ true) (sym is) (question_same q) in
        true≢false (sym first ∙ off)
    at (suc j) lt is off rest = rest j (omega (arith, lt)) is

    by : (b : Bool) → eq-value.it q e.0 ≡ b → ((i : ℕ) → i < length es → slice_index_or es i (q, a) ≡ (q, a) → lookup (eq-value.it q) es ≡ None → ⊥) → ⊥
    by true on rest = let no : Some e.1 ≡ None = subst (λ b. cond b (Some e.1) (lookup (eq-value.it q) es) ≡ None) on none in absurd (cc no)
    by false off rest =
        let later : lookup (eq-value.it q) es ≡ None = subst (λ b. cond b (Some e.1) (lookup (eq-value.it q) es) ≡ None) off none in
        at k lt is off (λ i below same. rest i below same later)

pub none_kept : (q : Question) (pairs : List (Question × Kept)) (found : Option Kept) → found ≡ lookup (eq-value.it q) pairs → IfNone found ((a : Kept) → Contains pairs (q, a) → ⊥)
none_kept q pairs None is = λ a at. no_answer q a pairs at.0 at.1 at.2 (sym is)
none_kept q pairs (Some _) is = tt

pub one_more : (q : Question) (a : Kept) (pairs : List (Question × Kept)) → lookup (eq-value.it q) pairs ≡ None → with_answer pairs q a ≡ pairs ++ (q, a) ∷ []
one_more q a pairs none = rw none refl

pub no_key : (b : Bool) (found : Option Kept) → b ≡ is_some found → b ≡ false → found ≡ None
no_key b None is off = refl
no_key b (Some a) is off = absurd (true≢false (sym is ∙ off))
