-- The numbers of definitions.
use Rattle.std.specs.Prelude.{◌≡◌, ℕ, List, ◌∷◌, length, map}
use Rattle.translation.specs.Translated.{Stated}
use Rattle.scopes.specs.Steps.{count_from}
use Rattle.codes.specs.Shapes.{Shape, Shapes, none, more, Let, Suc, NatRec, Pi, Sigma, Lambda}
use Rattle.codes.specs.Shapes.{PathLambda, Apply, Project, Tuple, PathP, Comp, Fill, Transport}
use Rattle.codes.specs.Shapes.{GlueType, GlueTerm, Unglue, Binder, Under, Applied, On, Side}
use Rattle.codes.specs.Shapes.{PairSide, Def}

-- Those of a shape, in the order in which they are given, before others: a definition has its
-- number after those that stand in it.
abbrev mutual
  pub numbers_before : Shape → List ℕ → List ℕ
  numbers_before (Let s ds c) rest = numbers_in ds (numbers_before c rest)
  numbers_before (Suc s c) rest = numbers_before c rest
  numbers_before (NatRec s m a b n) rest =
      numbers_before m (numbers_before a (numbers_before b (numbers_before n rest)))
  numbers_before (Pi s bs c) rest = numbers_in bs (numbers_before c rest)
  numbers_before (Sigma s bs c) rest = numbers_in bs (numbers_before c rest)
  numbers_before (Lambda s bs c) rest = numbers_in bs (numbers_before c rest)
  numbers_before (PathLambda s n c) rest = numbers_before c rest
  numbers_before (Apply s c es) rest = numbers_before c (numbers_in es rest)
  numbers_before (Project s c ps) rest = numbers_before c rest
  numbers_before (Tuple s cs) rest = numbers_in cs rest
  numbers_before (PathP s l a b) rest =
      numbers_before l (numbers_before a (numbers_before b rest))
  numbers_before (Comp s l a ss) rest = numbers_before l (numbers_before a (numbers_in ss rest))
  numbers_before (Fill s l a ss) rest = numbers_before l (numbers_before a (numbers_in ss rest))
  numbers_before (Transport s l a) rest = numbers_before l (numbers_before a rest)
  numbers_before (GlueType s a ss) rest = numbers_before a (numbers_in ss rest)
  numbers_before (GlueTerm s a ss) rest = numbers_before a (numbers_in ss rest)
  numbers_before (Unglue s a ss) rest = numbers_before a (numbers_in ss rest)
  numbers_before (Binder n c) rest = numbers_before c rest
  numbers_before (Under s c) rest = numbers_before c rest
  numbers_before (Applied s c) rest = numbers_before c rest
  numbers_before (On es c) rest = numbers_before c rest
  numbers_before (Side s c) rest = numbers_before c rest
  numbers_before (PairSide s T w) rest = numbers_before T (numbers_before w rest)
  numbers_before (Def x n bs A b) rest =
      numbers_in bs (numbers_before A (numbers_before b (n ∷ rest)))
  numbers_before _ rest = rest

  pub numbers_in : Shapes → List ℕ → List ℕ
  numbers_in none rest = rest
  numbers_in (more c cs) rest = numbers_before c (numbers_in cs rest)

-- what is stated is numbered in order, from that number on
abbrev pub AreNumbered : ℕ → List (Stated ℕ) → Type 0
AreNumbered n ds = map (λ d. d.name) ds ≡ count_from (length ds) n
