-- The trees of formulas and equations, which are the same in every scope.
use Rattle.std.specs.Prelude.{List, map}
use Rattle.syntax.specs.declared.formula.End.{End}
use Rattle.syntax.specs.declared.formula.End.TheVariants as end
use Rattle.trees.specs.declared.op.Op.TheVariants.{Meet, F1}
use Rattle.trees.specs.Trees.{Tree, Var}
use Rattle.translation.specs.Terms.{i0, i1, neg, min, max, eq0, eq1}
use Rattle.codes.specs.declared.formula.Formula.{Formula, Zero as Zero', One as One'}
use Rattle.codes.specs.declared.formula.Formula.{Bound as Bound', Negate', Meet', Join'}
use Rattle.codes.specs.declared.formula.Equation.{Equation}
use Rattle.form_rows.specs.Meant.{nest_all}

abbrev pub formula_tree : Formula → Tree
formula_tree (Zero' s) = i0
formula_tree (One' s) = i1
formula_tree (Bound' s k) = Var k
formula_tree (Negate' s p f) = neg (formula_tree f)
formula_tree (Meet' s p f q g) = min (formula_tree f) (formula_tree g)
formula_tree (Join' s p f q g) = max (formula_tree f) (formula_tree g)

abbrev pub at_end : End → Tree → Tree
at_end end.Zero t = eq0 t
at_end end.One t = eq1 t

abbrev pub equation_tree : Equation → Tree
equation_tree e = at_end e.end (Var e.index)

abbrev pub face_tree : List Equation → Tree
face_tree es = nest_all Meet F1 (map equation_tree es)
