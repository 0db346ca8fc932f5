-- The trees that programs of their own make.
use Rattle.std.specs.Prelude.{ℕ, zero, suc, List, [], ◌∷◌, Option, Some, None}
use Rattle.trees.specs.Trees.{Tree}
use Rattle.trees.specs.Judgements.{trees}
use Rattle.trees.specs.Things.{Thing, ATree}
use Rattle.rules.specs.declared.derived.Derived.{Derived}
use Rattle.rules.specs.declared.derived.Derived.TheVariants.{Fill, Back, IsContr, Fiber, IsEquiv}
use Rattle.rules.specs.declared.derived.Derived.TheVariants.{Equiv, Contr, Ext, Pres, CompPi}
use Rattle.rules.specs.declared.derived.Derived.TheVariants.{CompSig, CompPath, GlueBase, GlueFiber}
use Rattle.rules.specs.declared.derived.Derived.TheVariants.{GlueEnd, GlueFrom, CompGlue, EqvU}
use Rattle.rules.specs.declared.derived.Derived.TheVariants.{EqvM, EqvN, EqvO, EqvCentre, EqvSquare}
use Rattle.rules.specs.declared.derived.Derived.TheVariants.{EqvContraction, EqvPath, EqvFiber}
use Rattle.rules.specs.declared.derived.Derived.TheVariants.{EqvFrom, Eqv, CompU}
use Rattle.rules.specs.Table.{fill, back, is_contr, fiber, is_equiv, equiv, contr, ext, pres}
use Rattle.rules.specs.Table.{comp_pi, comp_sig, comp_path, glue_base, glue_fiber, glue_end}
use Rattle.rules.specs.Table.{glue_from, comp_glue, eqv_u, eqv_m, eqv_n, eqv_o, eqv_centre}
use Rattle.rules.specs.Table.{eqv_square, eqv_contraction, eqv_path, eqv_fiber, eqv_from, eqv}
use Rattle.rules.specs.Table.{comp_u}

-- a tree over so many trees
abbrev pub TreeOver : ℕ → Type 0
TreeOver zero = Tree
TreeOver (suc n) = Tree → TreeOver n

-- Written by tools/write_rules.py from here on.

-- how many trees each is made of
abbrev pub arity_of : Derived → ℕ
arity_of Fill = 5
arity_of Back = 3
arity_of IsContr = 1
arity_of Fiber = 4
arity_of IsEquiv = 3
arity_of Equiv = 2
arity_of Contr = 4
arity_of Ext = 6
arity_of Pres = 6
arity_of CompPi = 5
arity_of CompSig = 5
arity_of CompPath = 6
arity_of GlueBase = 7
arity_of GlueFiber = 8
arity_of GlueEnd = 8
arity_of GlueFrom = 8
arity_of CompGlue = 7
arity_of EqvU = 3
arity_of EqvM = 5
arity_of EqvN = 6
arity_of EqvO = 4
arity_of EqvCentre = 3
arity_of EqvSquare = 7
arity_of EqvContraction = 6
arity_of EqvPath = 4
arity_of EqvFiber = 4
arity_of EqvFrom = 2
arity_of Eqv = 1
arity_of CompU = 3

abbrev pub derived : (d : Derived) → TreeOver (arity_of d)
derived Fill = fill trees
derived Back = back trees
derived IsContr = is_contr trees
derived Fiber = fiber trees
derived IsEquiv = is_equiv trees
derived Equiv = equiv trees
derived Contr = contr trees
derived Ext = ext trees
derived Pres = pres trees
derived CompPi = comp_pi trees
derived CompSig = comp_sig trees
derived CompPath = comp_path trees
derived GlueBase = glue_base trees
derived GlueFiber = glue_fiber trees
derived GlueEnd = glue_end trees
derived GlueFrom = glue_from trees
derived CompGlue = comp_glue trees
derived EqvU = eqv_u trees
derived EqvM = eqv_m trees
derived EqvN = eqv_n trees
derived EqvO = eqv_o trees
derived EqvCentre = eqv_centre trees
derived EqvSquare = eqv_square trees
derived EqvContraction = eqv_contraction trees
derived EqvPath = eqv_path trees
derived EqvFiber = eqv_fiber trees
derived EqvFrom = eqv_from trees
derived Eqv = eqv trees
derived CompU = comp_u trees

-- the program of each calls those of lower ranks
abbrev pub rank_of : Derived → ℕ
rank_of Fill = 0
rank_of Back = 1
rank_of IsContr = 0
rank_of Fiber = 0
rank_of IsEquiv = 1
rank_of Equiv = 2
rank_of Contr = 0
rank_of Ext = 1
rank_of Pres = 1
rank_of CompPi = 2
rank_of CompSig = 1
rank_of CompPath = 0
rank_of GlueBase = 0
rank_of GlueFiber = 2
rank_of GlueEnd = 0
rank_of GlueFrom = 3
rank_of CompGlue = 4
rank_of EqvU = 1
rank_of EqvM = 2
rank_of EqvN = 2
rank_of EqvO = 3
rank_of EqvCentre = 3
rank_of EqvSquare = 4
rank_of EqvContraction = 5
rank_of EqvPath = 6
rank_of EqvFiber = 7
rank_of EqvFrom = 8
rank_of Eqv = 9
rank_of CompU = 10

-- how many rows the program of each makes
abbrev pub rows_of : Derived → ℕ
rows_of Fill = 35
rows_of Back = 43
rows_of IsContr = 13
rows_of Fiber = 12
rows_of IsEquiv = 33
rows_of Equiv = 42
rows_of Contr = 10
rows_of Ext = 25
rows_of Pres = 71
rows_of CompPi = 176
rows_of CompSig = 60
rows_of CompPath = 70
rows_of GlueBase = 15
rows_of GlueFiber = 130
rows_of GlueEnd = 48
rows_of GlueFrom = 178
rows_of CompGlue = 193
rows_of EqvU = 37
rows_of EqvM = 149
rows_of EqvN = 158
rows_of EqvO = 161
rows_of EqvCentre = 161
rows_of EqvSquare = 644
rows_of EqvContraction = 661
rows_of EqvPath = 843
rows_of EqvFiber = 1035
rows_of EqvFrom = 1097
rows_of Eqv = 1110
rows_of CompU = 1120

-- Written by hand from here on.

-- the tree over these things, where they are so many trees
abbrev pub over_trees : (n : ℕ) → TreeOver n → List Thing → Option Thing
over_trees zero t [] = Some (ATree t)
over_trees (suc n) f (ATree t ∷ xs) = over_trees n (f t) xs
over_trees _ _ _ = None

abbrev pub derived_over : Derived → List Thing → Option Thing
derived_over d xs = over_trees (arity_of d) (derived d) xs
