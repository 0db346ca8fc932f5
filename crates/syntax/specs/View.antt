-- The tree of each value of the program.
use Rattle.std.specs.Prelude.{List, [], ◌∷◌}
use Rattle.syntax.specs.declared.formula.Formula.{Formula as FormulaOf, Zero as Zero_, One as One_}
use Rattle.syntax.specs.declared.formula.Formula.{Name as Name_, Negate', Meet', Join'}
use Rattle.syntax.specs.declared.exp.Exp.{Exp, Let', Lambda', PathLambda', Pi', Sigma', Arrow'}
use Rattle.syntax.specs.declared.exp.Exp.{Apply', PathP', Comp', Fill', Transport', GlueType'}
use Rattle.syntax.specs.declared.exp.Exp.{GlueTerm', Unglue', Project', Universe as Universe'}
use Rattle.syntax.specs.declared.exp.Exp.{Name as Name', Brackets', Row_of-Exp, end_of-Exp}
use Rattle.syntax.specs.declared.exp.Exp.{more_of-Exp}
use Rattle.syntax.specs.declared.exp.Element.{Element, Argument, At as At'}
use Rattle.syntax.specs.declared.exp.Tele.{Tele as TeleOf}
use Rattle.syntax.specs.declared.exp.Side.{Side as SideOf}
use Rattle.syntax.specs.declared.exp.Def.{Def as DefOf, Def'}
use Rattle.syntax.specs.declared.exp.Exps.{Exps}
use Rattle.syntax.specs.declared.exp.Elements.{Elements, Row_of-Element, end_of-Element}
use Rattle.syntax.specs.declared.exp.Elements.{more_of-Element}
use Rattle.syntax.specs.declared.exp.Teles.{Teles, Teles', out-Teles, Row_of-Tele}
use Rattle.syntax.specs.declared.exp.Teles.{end_of-Tele, more_of-Tele}
use Rattle.syntax.specs.declared.exp.Sides.{Sides, Sides', out-Sides, Row_of-Side}
use Rattle.syntax.specs.declared.exp.Sides.{end_of-Side, more_of-Side}
use Rattle.syntax.specs.declared.exp.Defs.{Defs, Defs', out-Defs, Row_of-Def}
use Rattle.syntax.specs.declared.exp.Defs.{end_of-Def, more_of-Def}
use Rattle.syntax.specs.declared.exp.Module.{Module as ModuleOf}
use Rattle.syntax.specs.Tree.{Formula, Zero, One, Variable, Negate, Meet, Join, Tree, Let, Lambda}
use Rattle.syntax.specs.Tree.{PathLambda, Pi, Sigma, Arrow, Apply, PathP, Comp, Fill, Transport}
use Rattle.syntax.specs.Tree.{GlueType, GlueTerm, Unglue, Project, Universe, Name, Brackets, At}
use Rattle.syntax.specs.Tree.{Tele, Side, Def, Module, Trees, none, more}

abbrev pub formula_of : FormulaOf → Formula
formula_of (Zero_ s) = Zero s
formula_of (One_ s) = One s
formula_of (Name_ s) = Variable s
formula_of (Negate' s p f) = Negate s (formula_of f)
formula_of (Meet' s p f q g) = Meet s (formula_of f) (formula_of g)
formula_of (Join' s p f q g) = Join s (formula_of f) (formula_of g)

abbrev mutual
  pub tree_of : Exp → Tree
  tree_of (Let' s ds p e) = Let s (defs_of ds) (tree_of e)
  tree_of (Lambda' s xs p e) = Lambda s (teles_of xs) (tree_of e)
  tree_of (PathLambda' s ns p e) = PathLambda s ns (tree_of e)
  tree_of (Pi' s xs p e) = Pi s (teles_of xs) (tree_of e)
  tree_of (Sigma' s xs p e) = Sigma s (teles_of xs) (tree_of e)
  tree_of (Arrow' s p f q e) = Arrow s (tree_of f) (tree_of e)
  tree_of (Apply' s p f shape all) = Apply s (tree_of f) (elements_in all)
  tree_of (PathP' s p l q a o b) = PathP s (tree_of l) (tree_of a) (tree_of b)
  tree_of (Comp' s p l q a ss) = Comp s (tree_of l) (tree_of a) (sides_of ss)
  tree_of (Fill' s p l q a ss) = Fill s (tree_of l) (tree_of a) (sides_of ss)
  tree_of (Transport' s p l q a) = Transport s (tree_of l) (tree_of a)
  tree_of (GlueType' s p a ss) = GlueType s (tree_of a) (sides_of ss)
  tree_of (GlueTerm' s p a ss) = GlueTerm s (tree_of a) (sides_of ss)
  tree_of (Unglue' s p a ss) = Unglue s (tree_of a) (sides_of ss)
  tree_of (Project' s p e ps) = Project s (tree_of e) ps
  tree_of (Universe' s) = Universe s
  tree_of (Name' s) = Name s
  tree_of (Brackets' s shape all) = Brackets s (exps_in all)

  pub exps_in : {m : _} → Row_of-Exp m → Trees
  exps_in end_of-Exp = none
  exps_in (more_of-Exp e rest) = more (tree_of e) (exps_in rest)

  pub element_of : Element → Tree
  element_of (Argument e) = tree_of e
  element_of (At' s f) = At s (formula_of f)

  pub elements_in : {m : _} → Row_of-Element m → Trees
  elements_in end_of-Element = none
  elements_in (more_of-Element e rest) = more (element_of e) (elements_in rest)

  pub teles_of : Teles → Trees
  teles_of (Teles' shape row) = teles_in row

  pub teles_in : {m : _} → Row_of-Tele m → Trees
  teles_in end_of-Tele = none
  teles_in (more_of-Tele ns t rest) = more (Tele ns (tree_of t)) (teles_in rest)

  pub sides_of : Sides → Trees
  sides_of (Sides' shape row) = sides_in row

  pub sides_in : {m : _} → Row_of-Side m → Trees
  sides_in end_of-Side = none
  sides_in (more_of-Side eqs e rest) = more (Side eqs (tree_of e)) (sides_in rest)

  pub def_of : DefOf → Tree
  def_of (Def' n xs t b ls) = Def n (teles_of xs) (tree_of t) (tree_of b) (defs_of ls)

  pub defs_of : Defs → Trees
  defs_of (Defs' shape row) = defs_in row

  pub defs_in : {m : _} → Row_of-Def m → Trees
  defs_in end_of-Def = none
  defs_in (more_of-Def x rest) = more (def_of x) (defs_in rest)

abbrev pub tele_of : TeleOf → Tree
tele_of x = Tele x.names (tree_of x.ty)

abbrev pub side_of : SideOf → Tree
side_of x = Side x.equations (tree_of x.body)

-- lists
abbrev pub tree_list : {A : Type 0} → (A → Tree) → List A → Trees
tree_list f [] = none
tree_list f (x ∷ xs) = more (f x) (tree_list f xs)

-- the values that a list holds, in order
abbrev pub exp_items : Exps → List Exp
exp_items es = es.items.items

abbrev pub element_items : Elements → List Element
element_items es = es.items.items

abbrev pub tele_items : Teles → List TeleOf
tele_items xs = (out-Teles xs).items.items

abbrev pub side_items : Sides → List SideOf
side_items ss = (out-Sides ss).items.items

abbrev pub def_items : Defs → List DefOf
def_items ds = (out-Defs ds).items.items

abbrev pub exps_of : Exps → Trees
exps_of es = tree_list tree_of (exp_items es)

abbrev pub elements_of : Elements → Trees
elements_of es = tree_list element_of (element_items es)

abbrev pub module_of : ModuleOf → Tree
module_of m = Module m.name m.imports (defs_of m.defs)
