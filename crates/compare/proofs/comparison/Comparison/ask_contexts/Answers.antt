use Rattle.std.proofs.Common.{◌≡◌, ap, ◌∙◌, refl, rules}
use Rattle.rows.specs.declared.views.CtxId.{CtxId}
use Rattle.closures.specs.Shown.{lists}
use Rattle.compare.proofs.AskLaws.{asks-true}
use Rattle.compare.proofs.ContextLaws.{context-begin, context-next, context-no, context-asks}
use Rattle.compare.proofs.comparison.Comparison.ask_contexts.Goals as goal

pub loop-left-init : goal.loop-left-init
loop-left-init g c = record {
  same = refl;
  walk = context-begin (g.R.Rows.means c.args.rows.now) (lists c.args.self.now.environments) c.args.left c.args.right c.args.self.now.pairs.keys c.requires.left c.requires.right;
}

pub loop-left-preserved-in-Trees : goal.loop-left-preserved-in-Trees
loop-left-preserved-in-Trees g c =
    let f = g.R.Rows.means c.args.rows.now in
    let old = c.args.self.now in
    let now = c.loop-left.invariant in
    let same = c.ask_trees.ensures.environments ∙ now.same in
    record {
      same = same;
      walk =
          context-next f (lists old.environments) (f c.args.left ≡ f c.args.right) old.pairs.keys c.loop-left.left.0 c.loop-left.right.0 c.loop-left.self.pairs.keys now.walk _ _ _ c.ask_trees.new.self.pairs.keys
          c.in-Trees.ensures.next
          (rw (ap lists same) at c.in_ok-ask_trees-in-Trees.ensures.asks);
    }

pub loop-left-preserved : goal.loop-left-preserved
loop-left-preserved g c =
    let f = g.R.Rows.means c.args.rows.now in
    let old = c.args.self.now in
    let now = c.loop-left.invariant in
    record {
      same = now.same;
      walk =
          context-next f (lists old.environments) (f c.args.left ≡ f c.args.right) old.pairs.keys c.loop-left.left.0 c.loop-left.right.0 c.loop-left.self.pairs.keys now.walk _ _ (Unit {0}) c.loop-left.self.pairs.keys
          c.in-Names.ensures
          (asks-true f (lists old.environments) (Unit {0}) c.loop-left.self.pairs.keys tt);
    }

pub loop-left-smaller-in-Trees : goal.loop-left-smaller-in-Trees
loop-left-smaller-in-Trees g c = c.in-Trees.ensures.next.left_earlier

pub loop-left-smaller : goal.loop-left-smaller
loop-left-smaller g c = c.in-Names.ensures.left_earlier

pub returns-in-Empty-clause-yes : goal.returns-in-Empty-clause-yes
returns-in-Empty-clause-yes g c = λ e.
    let f = g.R.Rows.means c.args.rows.now in
    let old = c.args.self.now in
    let now = c.loop-left.invariant in
    rw (ap lists now.same)
    (context-asks f (lists old.environments) (f c.args.left ≡ f c.args.right) old.pairs.keys c.loop-left.left.0 c.loop-left.right.0 c.loop-left.self.pairs.keys now.walk c.in-Empty.ensures)

pub returns-in-Other-clause-no : goal.returns-in-Other-clause-no
returns-in-Other-clause-no g c = λ e.
    let f = g.R.Rows.means c.args.rows.now in
    let old = c.args.self.now in
    context-no f (lists old.environments) (f c.args.left ≡ f c.args.right) old.pairs.keys c.loop-left.left.0 c.loop-left.right.0 c.loop-left.self.pairs.keys c.loop-left.invariant.walk c.in-Other.ensures

pub returns-clause-yes : goal.returns-clause-yes
returns-clause-yes g c = λ e.
    let f = g.R.Rows.means c.args.rows.now in
    let old = c.args.self.now in
    let now = c.loop-left.invariant in
    let one : c.loop-left.left ≡ c.loop-left.right = search rules in
    rw (ap lists now.same)
    (context-asks f (lists old.environments) (f c.args.left ≡ f c.args.right) old.pairs.keys c.loop-left.left.0 c.loop-left.right.0 c.loop-left.self.pairs.keys now.walk (ap (λ (r : CtxId). f r.0) one))
