-- The parts of a filling, over its name and the name along which it is composed.
use Rattle.trees.specs.Trees.{Tree, Subst, Var, apply, push, shift_by}
use Rattle.translation.specs.Terms.{comp, min, join, eq0, f0, sys, empty}

abbrev pub slanted : Subst
slanted = push (shift_by 2) (min (Var 1) (Var 0))

abbrev pub filled_cover : Tree → Tree
filled_cover p = join (apply p (shift_by 1)) (join (eq0 (Var 0)) f0)

abbrev pub filled_body : Tree → Tree → Tree → Tree
filled_body p b a =
    sys (apply p (shift_by 2)) (join (eq0 (Var 1)) f0) b
    (sys (eq0 (Var 1)) f0 (apply a (shift_by 2)) empty)

abbrev pub filled : Tree → Tree → Tree → Tree → Tree
filled A p b a = comp A (filled_cover p) (filled_body p b a) (apply a (shift_by 1))
