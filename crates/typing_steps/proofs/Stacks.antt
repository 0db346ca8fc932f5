-- Items that stand for things, the last first.
use Rattle.std.proofs.Common.{◌≡◌, List, [], ◌∷◌, ◌++◌, refl, sym, ◌∙◌, subst}
use Rattle.std.proofs.lemmas.List.{same_from_push}
use Rattle.typing_steps.specs.Steps.{IsStack}

module _ {A B : Type 0} (R : A → B → Type 0) where
  pub pushed : (items : List A) (xs : List B) (a : A) (x : B) → IsStack R items xs → R a x → IsStack R (items ++ a ∷ []) (x ∷ xs)
  pushed items xs a x s r = (items, a, refl, r, s)

  -- the last item stands for the first thing
  pub popped : (items left : List A) (xs : List B) (a : A) (x : B) → IsStack R items (x ∷ xs) → items ≡ left ++ a ∷ [] → R a x × IsStack R left xs
  popped items left xs a x (rest, b, e, r, s) f =
      let same = same_from_push rest left b a (sym e ∙ f) in
      (subst (λ c. R c x) same.1 r, subst (λ cs. IsStack R cs xs) same.0 s)

  pub not_empty : (x : B) (xs : List B) → IsStack R [] (x ∷ xs) → ⊥
  not_empty x xs (rest, a, e, r, s) = no_end rest a e
    where
      no_end : (ys : List A) (y : A) → [] ≡ ys ++ y ∷ [] → ⊥
      no_end [] y e = absurd (cc e)
      no_end (z ∷ zs) y e = absurd (cc e)

pub grown : {A B : Type 0} (R Q : A → B → Type 0) → ((a : A) (x : B) → R a x → Q a x) → (items : List A) (xs : List B) → IsStack R items xs → IsStack Q items xs
grown R Q f items [] s = s
grown R Q f items (x ∷ xs) (rest, a, e, r, s) = (rest, a, e, f a x r, grown R Q f rest xs s)
