use Rattle.std.proofs.Common.{◌<◌, ◌≤◌, ◌+◌, sym, ◌∙◌, ap, subst, arith}
use Rattle.closures.specs.Shown.{lists}
use Rattle.closures.specs.Environments.{deepest, listed}
use Rattle.closures.specs.Closures.{found_meaning}
use Rattle.closures.specs.Weights.{row_weight, weight_of, closure_weight, FoundLess}
use Rattle.rows.proofs.TableLaws.{grows-grows}
use Rattle.closures.proofs.WeightLaws.{row_weight-two}
use Rattle.closures.proofs.HeadLaws.{follows-same, follows-follows, instance-follows, make-opens, variable-of, tree-follows}
use Rattle.closures.proofs.heads.head_of.Goals as goal

pub loop-index-init : goal.loop-index-init
loop-index-init g c = follows-same (g.R.Rows.means c.args.rows.now) (lists c.args.environments.now) c.args.closure

pub term-requires : goal.term-requires
term-requires g c = (c.loop-index.invariant.stands deepest c.requires).row

pub look-requires : goal.look-requires
look-requires g c = (c.loop-index.invariant.stands deepest c.requires).environment

pub returns-in_err-index-in-Var-clause-grows : goal.returns-in_err-index-in-Var-clause-grows
returns-in_err-index-in-Var-clause-grows g c =
    grows-grows (lists c.args.environments.now) (lists c.loop-index.environments) (lists c.look.new.environments) c.loop-index.invariant.grows c.look.ensures.grows

pub returns-in-Index-clause-grows : goal.returns-in-Index-clause-grows
returns-in-Index-clause-grows g c =
    grows-grows (lists c.args.environments.now) (lists c.loop-index.environments) (lists c.look.new.environments) c.loop-index.invariant.grows c.look.ensures.grows

pub returns-in-Index-clause-meaning : goal.returns-in-Index-clause-meaning
returns-in-Index-clause-meaning g c =
    let f = g.R.Rows.means c.args.rows.now in
    ap (found_meaning f (lists c.look.new.environments)) (sym c.in-Index.is)
    ∙ c.in_ok-index-in-Var.ensures.meaning
    ∙ variable-of f (lists c.loop-index.environments) c.loop-index.closure c.in-Var.index c.in-Var.ensures.meaning
    ∙ c.loop-index.invariant.meaning

pub loop-index-preserved-in-Tree : goal.loop-index-preserved-in-Tree
loop-index-preserved-in-Tree g c =
    let f = g.R.Rows.means c.args.rows.now in
    let now = lists c.loop-index.environments in
    let new = lists c.look.new.environments in
    follows-follows f (lists c.args.environments.now) now new c.args.closure c.loop-index.closure c.in-Tree.tree
    c.loop-index.invariant
    (tree-follows f now new c.loop-index.closure c.in-Var.index c.in_ok-index-in-Var.field-0 c.in-Tree.tree
    c.in-Var.ensures.meaning c.in-Tree.is c.look.ensures.grows c.in_ok-index-in-Var.ensures.meaning c.in_ok-index-in-Var.ensures.stands)

pub loop-index-smaller-in-Tree : goal.loop-index-smaller-in-Tree
loop-index-smaller-in-Tree g c =
    let new = lists c.look.new.environments in
    let ws = listed (lists c.loop-index.environments) c.loop-index.closure.environment in
    let less : closure_weight new c.in-Tree.tree < weight_of ws = subst (FoundLess new (weight_of ws)) c.in-Tree.is c.in_ok-index-in-Var.ensures.weight in
    let smaller : closure_weight new c.in-Tree.tree < row_weight c.loop-index.closure.row.0 + weight_of ws = omega arith in
    smaller

pub returns-in-Make-clause-grows : goal.returns-in-Make-clause-grows
returns-in-Make-clause-grows g c = c.loop-index.invariant.grows

pub returns-in-Make-clause-meaning : goal.returns-in-Make-clause-meaning
returns-in-Make-clause-meaning g c =
    let f = g.R.Rows.means c.args.rows.now in
    make-opens f (f c.loop-index.closure.row.0) (listed (lists c.loop-index.environments) c.loop-index.closure.environment) c.in-Make.op _
    (c.loop-index.invariant.stands deepest c.requires).row c.in-Make.ensures.meaning
    ∙ c.loop-index.invariant.meaning

pub returns-in-Make-clause-stands : goal.returns-in-Make-clause-stands
returns-in-Make-clause-stands g c = λ n h. (c.loop-index.invariant.stands n h).environment

pub before-requires-clause-within : goal.before-requires-clause-within
before-requires-clause-within g c = (c.loop-index.invariant.stands deepest c.requires).environment.within

pub before-requires-clause-substs : goal.before-requires-clause-substs
before-requires-clause-substs g c = (c.loop-index.invariant.stands deepest c.requires).environment.substs

pub returns-in_err-before-in-Instance-clause-grows : goal.returns-in_err-before-in-Instance-clause-grows
returns-in_err-before-in-Instance-clause-grows g c =
    grows-grows (lists c.args.environments.now) (lists c.loop-index.environments) (lists c.before-in-Instance.new.environments) c.loop-index.invariant.grows c.before-in-Instance.ensures.grows

pub loop-index-smaller : goal.loop-index-smaller
loop-index-smaller g c =
    let t = c.in-Instance.tree.0 in
    let s = c.in-Instance.subst.0 in
    let row = c.loop-index.closure.row.0 in
    let ws = listed (lists c.loop-index.environments) c.loop-index.closure.environment in
    let longer = listed (lists c.before-in-Instance.new.environments) c.in_ok-before-in-Instance.field-0 in
    let t_earlier : t < row = c.in-Instance.ensures.earlier 0 0 (omega arith) in
    let s_earlier : s < row = c.in-Instance.ensures.earlier 1 0 (omega arith) in
    let both : row_weight t + row_weight s < row_weight row = row_weight-two t s row t_earlier s_earlier in
    let more : weight_of longer ≤ row_weight s + weight_of ws = c.in_ok-before-in-Instance.ensures.list.weighs in
    let smaller : row_weight t + weight_of longer < row_weight row + weight_of ws = omega arith in
    smaller

pub loop-index-preserved : goal.loop-index-preserved
loop-index-preserved g c =
    let f = g.R.Rows.means c.args.rows.now in
    let now = lists c.loop-index.environments in
    let new = lists c.before-in-Instance.new.environments in
    follows-follows f (lists c.args.environments.now) now new c.args.closure c.loop-index.closure _
    c.loop-index.invariant
    (instance-follows f now new c.loop-index.closure c.in-Instance.tree c.in-Instance.subst c.in_ok-before-in-Instance.field-0
    (c.loop-index.invariant.stands deepest c.requires).row c.in-Instance.ensures.meaning c.before-in-Instance.ensures.grows
    c.in_ok-before-in-Instance.ensures.list c.in_ok-before-in-Instance.ensures.within)
