-- The text of a conjunction: its equations one after the other, by the levels of their names.
use Rattle.std.specs.Prelude.{◌≡◌, ℕ, Bool, true, false, List, [], ◌∷◌, ◌++◌, codes, decimal}
use Rattle.trees.specs.Trees.{Tree}
use Rattle.trees.specs.Judgements.{Context}
use Rattle.faces.specs.declared.equations.Equation.{Equation}
use Rattle.side_conditions.specs.Readings.{IsFaceOf}

abbrev pub end_text : Bool → List ℕ
end_text false = codes "=0)"
end_text true = codes "=1)"

abbrev pub equation_text : Equation → List ℕ
equation_text e = codes "(i" ++ (decimal e.name ++ end_text e.end)

abbrev pub conj_text : List Equation → List ℕ
conj_text [] = []
conj_text (e ∷ es) = equation_text e ++ conj_text es

-- a line with a label
abbrev pub line : List ℕ → List ℕ → List ℕ
line label text = label ++ (text ++ codes "\n")

-- the text of a face of a context, which is that of one conjunction
pub record IsFaceText (G : Context) (p : Tree) (text : List ℕ) : Type 0 where
  pub conj : List Equation
  pub face : IsFaceOf G p (conj ∷ [])
  pub text_is : text ≡ conj_text conj
