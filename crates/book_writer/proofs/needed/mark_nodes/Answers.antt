use Rattle.std.proofs.Common.{◌≡◌, ◌-◌, ◌<◌, suc, length, refl, sym, subst, arith}
use Rattle.std.specs.List.{All}
use Rattle.std.proofs.lemmas.List.Elements.{All-weaker}
use Rattle.rows.proofs.MeaningLaws.{is_some-value}
use Rattle.book.specs.Shown.{book_means, book_concludes}
use Rattle.book.proofs.BookLaws.{node-there}
use Rattle.book_writer.specs.Served.{Marks}
use Rattle.book_writer.proofs.PlaceLaws.{all-low}
use Rattle.book_writer.proofs.NeededLaws.{nodes-start, nodes-on, nodes-skip, nodes-end, unmarked}
use Rattle.book_writer.proofs.needed.mark_nodes.Goals as goal

pub loop-left-init : goal.loop-left-init
loop-left-init c = nodes-start c.args.book.now c.args.rows.now c.args.nodes.now (length c.args.nodes.now) refl

pub bounds-nodes-left : goal.bounds-nodes-left
bounds-nodes-left c = omega (arith, c.loop-left-test.true, c.loop-left.invariant.few, c.loop-left.invariant.node_count)

pub step-requires : goal.step-requires
step-requires c =
    let b = c.args.book.now in
    let J = is_some-value (book_concludes b (c.loop-left.left - 1)) ((c.requires.nodes_are (c.loop-left.left - 1)).1 (omega (arith, c.loop-left-test.true, c.loop-left.invariant.few))) in
    node-there b (c.loop-left.left - 1) J.0 J.1

pub mark_all-requires : goal.mark_all-requires
mark_all-requires c =
    All-weaker (λ k. k < c.loop-left.left - 1) (λ k. k < length c.loop-left.nodes) (λ k low. omega (arith, low, c.loop-left-test.true, c.loop-left.invariant.few, c.loop-left.invariant.node_count)) c.step.result.premises.now c.step.ensures.earlier

pub mark_all-requires-then-nodes-left : goal.mark_all-requires-then-nodes-left
mark_all-requires-then-nodes-left c =
    let b = c.args.book.now in
    let J = is_some-value (book_concludes b (c.loop-left.left - 1)) ((c.requires.nodes_are (c.loop-left.left - 1)).1 (omega (arith, c.loop-left-test.true, c.loop-left.invariant.few))) in
    let u = c.step.ensures.right J.0 J.1 in
    subst (λ n. All (λ k. k < n) c.step.result.parts.now) (sym c.loop-left.invariant.row_count)
    (all-low (book_means b) (length c.args.rows.now) (λ k some. (c.requires.rows_are k).0 some) c.step.result.parts.now u.things u.parts_are)

pub loop-left-preserved-then-nodes-left : goal.loop-left-preserved-then-nodes-left
loop-left-preserved-then-nodes-left c =
    let l = c.loop-left in
    let s = c.step.result in
    let made = c.step.ensures.made in
    let more : l.left ≡ suc (l.left - 1) = omega (arith, c.loop-left-test.true) in
    nodes-on c.args.book.now c.args.rows.now c.args.nodes.now l.left (l.left - 1) l.rows l.nodes c.mark_all-then-nodes-left.new.marks c.mark_all.new.marks made.node more made.is
    (subst (All (λ k. k < l.left - 1)) (sym made.premises_are) c.step.ensures.earlier)
    (subst (λ ks. Marks l.nodes ks c.mark_all.new.marks) (sym made.premises_are) c.mark_all.ensures)
    (subst (λ ks. Marks l.rows ks c.mark_all-then-nodes-left.new.marks) (sym made.parts_are) c.mark_all-then-nodes-left.ensures)
    l.invariant

pub loop-left-preserved : goal.loop-left-preserved
loop-left-preserved c =
    let l = c.loop-left in
    let more : l.left ≡ suc (l.left - 1) = omega (arith, c.loop-left-test.true) in
    nodes-skip c.args.book.now c.args.rows.now c.args.nodes.now l.left (l.left - 1) l.rows l.nodes more (unmarked l.nodes (l.left - 1) (omega (arith, c.loop-left-test.true, l.invariant.few, l.invariant.node_count)) c.if-nodes-left.false) l.invariant

pub returns-clause-stand : goal.returns-clause-stand
returns-clause-stand c = nodes-end c.args.book.now c.args.rows.now c.args.nodes.now c.loop-left.left c.loop-left.rows c.loop-left.nodes (omega (arith, c.loop-left-test.false)) c.loop-left.invariant
