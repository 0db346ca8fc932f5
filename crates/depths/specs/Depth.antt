-- How deep a tree nests: one more than the deepest of its parts. In a list each element is one
-- deeper than the one before it, as the grammar has it; but the definitions of a module stand side
-- by side.
use Rattle.std.specs.Prelude.{ℕ, suc, max}
use Rattle.syntax.specs.Tree.{Formula, Zero, One, Variable, Negate, Meet, Join, Tree, Let, Lambda}
use Rattle.syntax.specs.Tree.{PathLambda, Pi, Sigma, Arrow, Apply, PathP, Comp, Fill, Transport}
use Rattle.syntax.specs.Tree.{GlueType, GlueTerm, Unglue, Project, Universe, Name, Brackets, At}
use Rattle.syntax.specs.Tree.{Tele, Side, Def, Module, Trees, none, more}

abbrev pub formula_depth : Formula → ℕ
formula_depth (Zero s) = 1
formula_depth (One s) = 1
formula_depth (Variable s) = 1
formula_depth (Negate s f) = suc (formula_depth f)
formula_depth (Meet s f g) = suc (max (formula_depth f) (formula_depth g))
formula_depth (Join s f g) = suc (max (formula_depth f) (formula_depth g))

abbrev mutual
  pub depth : Tree → ℕ
  depth (Let s ds b) = suc (max (depths ds) (depth b))
  depth (Lambda s xs b) = suc (max (depths xs) (depth b))
  depth (PathLambda s ns b) = suc (depth b)
  depth (Pi s xs b) = suc (max (depths xs) (depth b))
  depth (Sigma s xs b) = suc (max (depths xs) (depth b))
  depth (Arrow s a b) = suc (max (depth a) (depth b))
  depth (Apply s f es) = suc (max (depth f) (depths es))
  depth (PathP s l a b) = suc (max (depth l) (max (depth a) (depth b)))
  depth (Comp s l a ss) = suc (max (depth l) (max (depth a) (depths ss)))
  depth (Fill s l a ss) = suc (max (depth l) (max (depth a) (depths ss)))
  depth (Transport s l a) = suc (max (depth l) (depth a))
  depth (GlueType s a ss) = suc (max (depth a) (depths ss))
  depth (GlueTerm s a ss) = suc (max (depth a) (depths ss))
  depth (Unglue s a ss) = suc (max (depth a) (depths ss))
  depth (Project s a hs) = suc (depth a)
  depth (Universe s) = 1
  depth (Name s) = 1
  depth (Brackets s xs) = suc (depths xs)
  depth (At s f) = suc (formula_depth f)
  depth (Tele ns t) = suc (depth t)
  depth (Side eqs b) = suc (depth b)
  depth (Def n xs t b ds) = suc (max (depths xs) (max (depth t) (max (depth b) (depths ds))))
  depth (Module n is ds) = suc (deepest ds)

  pub depths : Trees → ℕ
  depths none = 0
  depths (more x xs) = max (depth x) (suc (depths xs))

  -- side by side
  pub deepest : Trees → ℕ
  deepest none = 0
  deepest (more x xs) = max (depth x) (deepest xs)
