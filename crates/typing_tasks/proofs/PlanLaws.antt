-- Tasks that are planned one by one, the last first.
use Rattle.std.proofs.Common.{◌≡◌, ◌∙◌, ◌+◌, ◌-◌, ◌≤◌, List, [], ◌∷◌, ◌++◌, length, take, get_or, reverse, sym, ap, arith}
use Rattle.std.proofs.lemmas.List.{append_assoc, reverse-append, take_all, take_more}

-- a list that is not empty ends with its last element
with_last : {A : Type 0} (left : List A) (last : A) → 1 ≤ length left → last ≡ get_or left (length left - 1) last → left ≡ take (length left - 1) left ++ last ∷ []
with_last left last some is =
    sym (take_all (length left - 1 + 1) left (omega arith))
    ∙ take_more left (length left - 1) last (omega arith)
    ∙ ap (λ x. take (length left - 1) left ++ x ∷ []) (sym is)

pub planned : {A : Type 0} (tasks left done start old new : List A) (last : A) → 1 ≤ length left → last ≡ get_or left (length left - 1) last
    → tasks ≡ left ++ done → old ≡ start ++ reverse done → new ≡ old ++ last ∷ []
    → (more : List A) × (tasks ≡ take (length left - 1) left ++ more) × (new ≡ start ++ reverse more)
planned tasks left done start old new last some is all before pushed = (
  last ∷ done,
  all ∙ ap (λ l. l ++ done) (with_last left last some is) ∙ append_assoc (take (length left - 1) left) (last ∷ []) done,
  pushed ∙ ap (λ l. l ++ last ∷ []) before ∙ append_assoc start (reverse done) (last ∷ []) ∙ ap (λ l. start ++ l) (sym (reverse-append (last ∷ []) done)),
)
