use Rattle.std.proofs.Common.{◌∙◌, List, ℕ, [], ◌∷◌, length, sym, ap, subst, arith, length-append}
use Rattle.book.specs.Shown.{book_means, book_concludes}
use Rattle.book_writer.specs.Means.{AreConcluded}
use Rattle.book_writer.specs.Needed.{among}
use Rattle.book_writer.proofs.PlaceLaws.{placed-kept, concluded-none, concluded-more}
use Rattle.book_writer.proofs.copies.add_nodes.Goals as goal

pub add_needed_node-requires-clause-there : goal.add_needed_node-requires-clause-there
add_needed_node-requires-clause-there c = (c.mark-node-end.ensures.nodes c.loop-node.node).1 (omega arith)

pub add_needed_node-requires-clause-count : goal.add_needed_node-requires-clause-count
add_needed_node-requires-clause-count c = c.requires.count c.loop-node.node ((c.mark-node-end.ensures.nodes c.loop-node.node).1 (omega arith))

pub loop-node-preserved : goal.loop-node-preserved
loop-node-preserved c =
    let f = among c.args.needed.now.rows.items (book_means c.args.book.now) in
    let g = among c.args.needed.now.nodes.items (book_concludes c.args.book.now) in
    let l = c.loop-node in
    let more = concluded-more g l.lines c.add_needed_node.new.lines l.nodes.items c.in_ok-place.place l.invariant.1 c.add_needed_node.ensures.conclusions (λ J e. c.in_ok-place.ensures.concludes J (ap g (sym l.invariant.2) ∙ e)) in (
      placed-kept f l.lines c.add_needed_node.new.lines c.args.places.now l.invariant.0 c.add_needed_node.ensures.kept,
      subst (λ (ps : List ℕ). AreConcluded g c.add_needed_node.new.lines ps) (sym c.in_ok-push.ensures.items) more,
      omega (arith, ap length c.in_ok-push.ensures.items, length-append l.nodes.items (c.in_ok-place.place ∷ [])),
    )

pub returns-clause-all : goal.returns-clause-all
returns-clause-all c = λ k some. let low = (c.mark-node-end.ensures.nodes k).0 some in omega arith

pub add_needed_node-requires-clause-next : goal.add_needed_node-requires-clause-next
add_needed_node-requires-clause-next c = omega (arith, ap length c.deref.ensures.value, c.loop-node.invariant.2)

pub add_needed_node-requires-clause-placed : goal.add_needed_node-requires-clause-placed
add_needed_node-requires-clause-placed c = c.loop-node.invariant.0

pub add_needed_node-requires-clause-nodes : goal.add_needed_node-requires-clause-nodes
add_needed_node-requires-clause-nodes c = rw c.deref.ensures.value c.loop-node.invariant.1

pub loop-node-init : goal.loop-node-init
loop-node-init c =
    let g = among c.args.needed.now.nodes.items (book_concludes c.args.book.now) in (
      c.requires.placed,
      subst (λ (ps : List ℕ). AreConcluded g c.args.lines.now ps) (sym c.new-nodes.ensures.items) (concluded-none g c.args.lines.now),
      ap length c.new-nodes.ensures.items,
    )
