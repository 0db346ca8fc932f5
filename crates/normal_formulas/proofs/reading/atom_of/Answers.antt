use Rattle.std.proofs.Common.{◌-◌, sym, subst}
use Rattle.trees.specs.Trees.{Var}
use Rattle.closures.specs.Environments.{deepest}
use Rattle.closures.specs.Shown.{lists}
use Rattle.tree_frames.specs.Frames.{tree_in, OpensTo}
use Rattle.normal_formulas.specs.Reads.{Reads}
use Rattle.normal_formulas.proofs.KidLaws.{frame-opened, over-one}
use Rattle.normal_formulas.proofs.ReadLaws.{sign-kids, sign-binds, reads-signed, reads-unsigned}
use Rattle.normal_formulas.proofs.reading.atom_of.Goals as goal

pub kid_of-name-requires-clause-stands : goal.kid_of-name-requires-clause-stands
kid_of-name-requires-clause-stands g c =
    let f = g.R.Rows.means c.args.rows.now in
    let old = lists c.args.environments.now in
    let new = lists c.open_tree.new.environments in
    frame-opened f old new c.args.closure 0 (deepest - 1) c.in-Operator.frame (subst (OpensTo f old new c.args.closure 0) c.in-Operator.is c.in_ok-index.ensures.opens) c.requires

pub name_of-requires : goal.name_of-requires
name_of-requires g c =
    let f = g.R.Rows.means c.args.rows.now in
    let old = lists c.args.environments.now in
    let new = lists c.open_tree.new.environments in
    let o = subst (OpensTo f old new c.args.closure 0) c.in-Operator.is c.in_ok-index.ensures.opens in
    c.kid_of-name.ensures.same (deepest - 1) (o.stands (deepest - 1) c.requires) (sign-binds c.args.sort c.in-Operator.frame.op c.in-Some.sign (sym c.in-Some.ensures))

pub returns-in-Some-2-clause-reads : goal.returns-in-Some-2-clause-reads
returns-in-Some-2-clause-reads g c =
    let f = g.R.Rows.means c.args.rows.now in
    let old = lists c.args.environments.now in
    let new = lists c.open_tree.new.environments in
    let o = subst (OpensTo f old new c.args.closure 0) c.in-Operator.is c.in_ok-index.ensures.opens in
    let kids = sign-kids c.args.sort c.in-Operator.frame.op c.in-Some.sign (sym c.in-Some.ensures) in
    reads-signed c.args.sort c.in-Operator.frame.op c.in-Some.sign c.in-Some-2.index (tree_in f old c.args.closure) (tree_in f new c.kid_of-name.result) (sym c.in-Some.ensures)
    (over-one f new _ c.in-Operator.frame c.kid_of-name.result o.frame kids c.kid_of-name.ensures)
    (subst (Reads Var (tree_in f new c.kid_of-name.result)) c.in-Some-2.is c.in_ok-index-in-Operator.ensures.reads)

pub returns-in-None-clause-reads : goal.returns-in-None-clause-reads
returns-in-None-clause-reads g c =
    let f = g.R.Rows.means c.args.rows.now in
    let old = lists c.args.environments.now in
    let new = lists c.open_tree.new.environments in
    let o = subst (OpensTo f old new c.args.closure 0) c.in-Operator.is c.in_ok-index.ensures.opens in
    let kids = sign-kids c.args.sort c.in-Operator.frame.op c.in-Some.sign (sym c.in-Some.ensures) in
    reads-unsigned c.args.sort c.in-Operator.frame.op (tree_in f old c.args.closure) (tree_in f new c.kid_of-name.result)
    (over-one f new _ c.in-Operator.frame c.kid_of-name.result o.frame kids c.kid_of-name.ensures)
    (subst (Reads Var (tree_in f new c.kid_of-name.result)) c.in-None.is c.in_ok-index-in-Operator.ensures.reads)
