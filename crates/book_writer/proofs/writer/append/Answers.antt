use Rattle.std.proofs.Common.{◌∙◌, List, Option, IsSome, length, map, refl, sym, ap, subst}
use Rattle.std.specs.List.{All}
use Rattle.trees.specs.Judgements.{Judgement}
use Rattle.trees.specs.Things.{meanings}
use Rattle.book.specs.declared.kernel.NodeId.{NodeId}
use Rattle.rows.proofs.MeaningLaws.{is_some-value}
use Rattle.book.specs.Shown.{book_concludes}
use Rattle.book_writer.specs.Needed.{among}
use Rattle.book_writer.specs.Served.{IsMarked}
use Rattle.book_writer.specs.Written.{concluded_by}
use Rattle.book_writer.proofs.PlaceLaws.{roots-held, roots-low}
use Rattle.book_writer.proofs.NeededLaws.{meanings-among, all-there}
use Rattle.book_writer.proofs.writer.append.Goals as goal

pub needed_by-requires : goal.needed_by-requires
needed_by-requires c =
    let b = c.args.book.now in
    subst (λ (o : Option (List Judgement)). IsSome o) (sym (ap (meanings (book_concludes b)) (c.deref.ensures.value ∙ c.in_ok-asked.ensures))) c.requires

pub add_rows-requires-clause-count : goal.add_rows-requires-clause-count
add_rows-requires-clause-count c = rw c.deref-2.ensures.value (λ k some. (c.in_ok-needed.ensures.counted.rows_are k).0 some)

pub add_rows-requires-clause-stand : goal.add_rows-requires-clause-stand
add_rows-requires-clause-stand c = rw c.deref-2.ensures.value c.in_ok-needed.ensures.rows_stand

pub add_nodes-requires-clause-count : goal.add_nodes-requires-clause-count
add_nodes-requires-clause-count c = λ k some. (c.in_ok-needed.ensures.counted.nodes_are k).0 some

pub add_nodes-requires-clause-stand : goal.add_nodes-requires-clause-stand
add_nodes-requires-clause-stand c = c.in_ok-needed.ensures.nodes_stand

pub add_nodes-requires-clause-placed : goal.add_nodes-requires-clause-placed
add_nodes-requires-clause-placed c =
    let placed = rw c.deref-2.ensures.value at c.in_ok-places.ensures.placed in
    rw c.deref-3.ensures.value placed

pub add_nodes-requires-clause-all : goal.add_nodes-requires-clause-all
add_nodes-requires-clause-all c = rw c.deref-3.ensures.value c.in_ok-places.ensures.all

pub root_places-requires : goal.root_places-requires
root_places-requires c =
    let b = c.args.book.now in
    let Js = is_some-value (concluded_by b c.args.roots.now) c.requires in
    rw c.deref-4.ensures.value (roots-low (book_concludes b) (length c.in_ok-nodes.nodes.items) c.in_ok-nodes.ensures.all c.args.roots.now Js.0 Js.1)

pub append_file-requires : goal.append_file-requires
append_file-requires c =
    let b = c.args.book.now in
    let marks = c.in_ok-needed.needed.nodes.items in
    let Js = is_some-value (concluded_by b c.args.roots.now) c.requires in
    let roots = meanings-among marks (book_concludes b) (map (λ (node : NodeId). node.0) c.args.roots.now) Js.0 (subst (All (IsMarked marks)) (c.deref.ensures.value ∙ c.in_ok-asked.ensures) c.in_ok-needed.ensures.roots_marked) Js.1 in
    let e = roots-held (among marks (book_concludes b)) c.add_nodes.new.lines c.in_ok-nodes.nodes.items c.in_ok-nodes.ensures.placed (all-there marks (book_concludes b) (length c.in_ok-nodes.nodes.items) c.in_ok-nodes.ensures.all) c.args.roots.now c.deref-4.result.now c.in_ok-roots.roots.items c.deref-5.result.now c.deref-4.ensures.value c.in_ok-roots.ensures c.deref-5.ensures.value Js.0 roots in
    rw e refl

pub returns-clause-ok : goal.returns-clause-ok
returns-clause-ok c = λ Js is.
    let b = c.args.book.now in
    let marks = c.in_ok-needed.needed.nodes.items in
    let roots = meanings-among marks (book_concludes b) (map (λ (node : NodeId). node.0) c.args.roots.now) Js (subst (All (IsMarked marks)) (c.deref.ensures.value ∙ c.in_ok-asked.ensures) c.in_ok-needed.ensures.roots_marked) is in
    c.in_ok-append_file.ensures.ok Js (roots-held (among marks (book_concludes b)) c.add_nodes.new.lines c.in_ok-nodes.nodes.items c.in_ok-nodes.ensures.placed (all-there marks (book_concludes b) (length c.in_ok-nodes.nodes.items) c.in_ok-nodes.ensures.all) c.args.roots.now c.deref-4.result.now c.in_ok-roots.roots.items c.deref-5.result.now c.deref-4.ensures.value c.in_ok-roots.ensures c.deref-5.ensures.value Js roots)
