-- Systems over the trees of their faces and values, and terms over names of the interval.
use Rattle.std.specs.Prelude.{ℕ, zero, suc, List, [], ◌∷◌}
use Rattle.trees.specs.declared.op.Op.{Op}
use Rattle.syntax.specs.declared.formula.Projection.{Projection}
use Rattle.syntax.specs.declared.formula.Projection.TheVariants.{First, Second}
use Rattle.trees.specs.declared.op.Op.TheVariants.{Join, Fst, Snd}
use Rattle.trees.specs.Trees.{Tree, Make, trees_of}
use Rattle.translation.specs.Terms.{f0, sys, empty, plam, lifted, innermost}
use Rattle.form_rows.specs.Meant.{nest}

abbrev pub cover_of : List Tree → Tree
cover_of ps = nest Join ps f0

-- each value on its face
abbrev pub body_of : List Tree → List Tree → Tree
body_of [] ts = empty
body_of (p ∷ ps) [] = empty
body_of (p ∷ ps) (t ∷ ts) = sys p (cover_of ps) t (body_of ps ts)

abbrev pub path_lambdas : ℕ → Tree → Tree
path_lambdas zero t = t
path_lambdas (suc n) t = plam (path_lambdas n t)

abbrev pub at_innermost : Op → Tree → Tree
at_innermost op t = Make op (trees_of (lifted t ∷ innermost ∷ []))

-- the operator of a projection
abbrev pub taken_by : Projection → Op
taken_by (First s) = Fst
taken_by (Second s) = Snd
