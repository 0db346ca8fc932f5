-- Formulas and faces as they are written.
use Rattle.trees.specs.declared.op.Op.TheVariants as op
use Rattle.trees.specs.Trees.{Tree, Make, NoTrees, More}
use Rattle.trees.specs.Judgements.{Context, Nil, WithName}

abbrev pub i1 : Tree
i1 = Make op.I1 NoTrees

abbrev pub neg : Tree → Tree
neg r = Make op.Neg (More r NoTrees)

abbrev pub max : Tree → Tree → Tree
max r s = Make op.Max (More r (More s NoTrees))

-- `(r=0)` and `(r=1)`
abbrev pub eq0 : Tree → Tree
eq0 r = Make op.Eq0 (More r NoTrees)

abbrev pub eq1 : Tree → Tree
eq1 r = Make op.Eq1 (More r NoTrees)

abbrev pub join : Tree → Tree → Tree
join p q = Make op.Join (More p (More q NoTrees))

-- `all i.p`
abbrev pub all : Tree → Tree
all p = Make op.All (More p NoTrees)

-- the context of one name and no faces
abbrev pub one_name : Context
one_name = WithName Nil
