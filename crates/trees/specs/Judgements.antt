-- Contexts and judgements, and the language of trees.
use Rattle.trees.specs.Trees.{Tree, Subst, Var, Make, trees_of, apply, shift_by, push, then}
use Rattle.trees.specs.Language.{Language, Judged, Tested, RuleOf}

-- The innermost entry is last: a variable of a type, a name of the interval, or a face. Variables
-- and names take an index, faces none.
pub data Context : Type 0 where
  Nil : Context
  WithVar : Context → Tree → Context
  WithName : Context → Context
  WithFace : Context → Tree → Context

abbrev pub trees : Language
trees = record {
  tree = Tree;
  subst = Subst;
  context = Context;
  var = Var;
  make = λ op ts. Make op (trees_of ts);
  apply = apply;
  shift_by = shift_by;
  push = push;
  then = then;
  nil = Nil;
  with_var = WithVar;
  with_name = WithName;
  with_face = WithFace;
}

abbrev pub Judgement : Type 0
Judgement = Judged Context Tree Subst

abbrev pub SideCondition : Type 0
SideCondition = Tested Context Tree Subst

abbrev pub TreeRule : Type 0
TreeRule = RuleOf Context Tree Subst
