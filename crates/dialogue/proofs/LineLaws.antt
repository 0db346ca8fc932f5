-- Laws of lines and their carriage returns.
use Rattle.std.proofs.Common.{◌≡◌, ◌≢◌, ℕ, Bool, true, false, List, [], ◌∷◌, ◌++◌, ap, sym, refl, ◌∙◌, Option, None, Some, Bor}
use Rattle.std.specs.Prelude.{◌==◌, MatchOption, if◌then◌else◌}
use Rattle.std.specs.Option.{unwrap_or}
use Rattle.std.proofs.lemmas.Bool.Decides.{Decides-eqb}
use Rattle.dialogue.specs.Dialogues.{without_return}

without_last : (xs : List ℕ) → without_return (xs ++ 13 ∷ []) ≡ xs
without_last [] = refl
without_last (x ∷ []) = refl
without_last (x ∷ y ∷ xs) = ap (λ l. x ∷ l) (without_last (y ∷ xs))

kept_one : (b : ℕ) (test : Bool) → (test ≡ true → ⊥) → (if test then [] else b ∷ []) ≡ b ∷ []
kept_one b true other = absurd (other refl)
kept_one b false other = refl

without_kept : (bs : List ℕ) → ((front : List ℕ) → bs ≢ front ++ 13 ∷ []) → without_return bs ≡ bs
without_kept [] other = refl
without_kept (b ∷ []) other = kept_one b (b == 13) (λ e. other [] (ap (λ x. x ∷ []) ((Decides-eqb b 13).0 e)))
without_kept (b ∷ c ∷ bs) other = ap (λ l. b ∷ l) (without_kept (c ∷ bs) (λ front e. other (b ∷ front) (ap (λ l. b ∷ l) e)))

-- what a search for a carriage return at the end finds
pub stripped : (line suffix : List ℕ) (found : Option (Bor (List ℕ))) (given : Bor (List ℕ)) → given.now ≡ line → suffix ≡ 13 ∷ [] → MatchOption found ((front : List ℕ) → line ≢ front ++ suffix) (λ x. line ≡ x.now ++ suffix) → (unwrap_or found given).now ≡ without_return line
stripped line suffix None given same return_only other =
    same ∙ sym (without_kept line (λ front e. other front (e ∙ ap (λ l. front ++ l) (sym return_only))))
stripped line suffix (Some x) given same return_only ends =
    sym (ap without_return (ends ∙ ap (λ l. x.now ++ l) return_only) ∙ without_last x.now)
