use Rattle.std.proofs.Common.{◌-◌, ◌+◌, refl, arith}
use Rattle.fixed_names.specs.Shown.{fixed_by}
use Rattle.fixed_names.proofs.ScopeLaws.{free-inside, not-free, node-below, further-out}
use Rattle.fixed_names.proofs.scopes.Scopes.is_free.Goals as goal

pub returns-then-index-from : goal.returns-then-index-from
returns-then-index-from c =
    (λ _. free-inside (fixed_by c.args.self.now) c.args.scope c.loop-scope.scope c.args.index c.loop-scope.index c.in-Node.at c.in-Node.depth c.loop-scope.invariant c.in-Node.is (omega (arith, c.from.ensures, c.if-index-from.true)), λ _. refl)

pub index-node-requires : goal.index-node-requires
index-node-requires c =
    node-below c.args.self.now.nodes.keys c.args.scope c.loop-scope.scope c.args.index c.loop-scope.index c.in-Node.at c.in-Node.depth c.loop-scope.invariant c.in-Node.is

pub returns-then-index-node : goal.returns-then-index-node
returns-then-index-node c =
    (λ no. absurd (cc no), λ free. absurd (not-free c.args.self.now.nodes.keys c.args.scope c.loop-scope.scope c.args.index c.loop-scope.index c.in-Node.at c.in-Node.depth (c.loop-scope.index - c.from-index.result) c.index-node.result.now c.args.self.now.earlier c.loop-scope.invariant c.in-Node.is c.index-node.ensures (omega (arith, c.from.ensures, c.from-index.ensures, c.if-index-from.false)) c.if-index-node.true free))

pub loop-scope-smaller : goal.loop-scope-smaller
loop-scope-smaller c =
    (further-out c.args.self.now.nodes.keys c.args.scope c.loop-scope.scope c.args.index c.loop-scope.index c.in-Node.at c.in-Node.depth (c.loop-scope.index - c.from-index.result) c.index-node.result.now c.args.self.now.earlier c.loop-scope.invariant c.in-Node.is c.index-node.ensures (omega (arith, c.from.ensures, c.from-index.ensures, c.if-index-from.false)) c.if-index-node.false).1

pub loop-scope-preserved : goal.loop-scope-preserved
loop-scope-preserved c =
    (further-out c.args.self.now.nodes.keys c.args.scope c.loop-scope.scope c.args.index c.loop-scope.index c.in-Node.at c.in-Node.depth (c.loop-scope.index - c.from-index.result) c.index-node.result.now c.args.self.now.earlier c.loop-scope.invariant c.in-Node.is c.index-node.ensures (omega (arith, c.from.ensures, c.from-index.ensures, c.if-index-from.false)) c.if-index-node.false).0
