-- The text of a conjunction, equation by equation.
use Rattle.std.proofs.Common.{◌≡◌, ◌<◌, ◌+◌, ℕ, List, [], ◌∷◌, ◌++◌, length, take, get_or, sym, ◌∙◌, ap, append_assoc, append-nil}
use Rattle.std.proofs.lemmas.List.{take_more}
use Rattle.faces.specs.declared.equations.Equation.{Equation}
use Rattle.evidence.specs.Faces.{conj_text, equation_text}

conj_last : (es : List Equation) (e : Equation) → conj_text (es ++ e ∷ []) ≡ conj_text es ++ equation_text e
conj_last [] e = append-nil (equation_text e)
conj_last (x ∷ es) e = ap (λ t. equation_text x ++ t) (conj_last es e) ∙ sym (append_assoc (equation_text x) (conj_text es) (equation_text e))

pub conj_more : (es : List Equation) (i : ℕ) (d : Equation) (old next new : List ℕ) → i < length es → old ≡ conj_text (take i es) → next ≡ equation_text (get_or es i d) → new ≡ old ++ next → new ≡ conj_text (take (i + 1) es)
conj_more es i d old next new lt before text grown =
    grown ∙ ap (λ t. t ++ next) before ∙ ap (λ t. conj_text (take i es) ++ t) text
    ∙ sym (conj_last (take i es) (get_or es i d)) ∙ ap conj_text (sym (take_more es i d lt))
