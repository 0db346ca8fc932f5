use Rattle.std.proofs.Common.{◌∙◌, length, refl}
use Rattle.std.proofs.lemmas.List.Elements.{All-weaker}
use Rattle.trees.specs.Things.{meanings}
use Rattle.book.specs.Shown.{book_concludes}
use Rattle.rows.proofs.MeaningLaws.{is_some-value}
use Rattle.book_writer.specs.Served.{IsMarked}
use Rattle.book_writer.proofs.PlaceLaws.{all-low}
use Rattle.book_writer.proofs.NeededLaws.{nodes-later, counted-as}
use Rattle.book_writer.proofs.needed.mark_needed.Goals as goal

pub mark_all-requires : goal.mark_all-requires
mark_all-requires c =
    let b = c.args.book.now in
    let Js = is_some-value (meanings (book_concludes b) c.args.roots.now) c.requires.there in
    all-low (book_concludes b) (length c.args.nodes.now) (λ k some. (c.requires.count.nodes_are k).0 some) c.args.roots.now Js.0 Js.1

pub mark_nodes-requires : goal.mark_nodes-requires
mark_nodes-requires c = counted-as c.args.book.now c.args.rows.now c.args.nodes.now c.args.rows.now c.mark_all.new.marks refl c.mark_all.ensures.count c.requires.count

pub mark_rows-requires : goal.mark_rows-requires
mark_rows-requires c = (counted-as c.args.book.now c.args.rows.now c.args.nodes.now c.mark_nodes.new.rows c.args.nodes.now c.mark_nodes.ensures.row_count refl c.requires.count).rows_are

pub returns-clause-row_count : goal.returns-clause-row_count
returns-clause-row_count c = c.mark_rows.ensures.count ∙ c.mark_nodes.ensures.row_count

pub returns-clause-node_count : goal.returns-clause-node_count
returns-clause-node_count c = c.mark_nodes.ensures.node_count ∙ c.mark_all.ensures.count

pub returns-clause-needed : goal.returns-clause-needed
returns-clause-needed c =
    let b = c.args.book.now in
    let rows = c.mark_rows.new.rows in
    let nodes = c.mark_nodes.new.nodes in
    record {
      counted = counted-as b c.args.rows.now c.args.nodes.now rows nodes (c.mark_rows.ensures.count ∙ c.mark_nodes.ensures.row_count) (c.mark_nodes.ensures.node_count ∙ c.mark_all.ensures.count) c.requires.count;
      roots_marked = All-weaker (IsMarked c.mark_all.new.marks) (IsMarked nodes) c.mark_nodes.ensures.kept c.args.roots.now c.mark_all.ensures.all;
      rows_stand = c.mark_rows.ensures.stand;
      nodes_stand = nodes-later b c.mark_nodes.new.rows rows nodes c.mark_rows.ensures.kept c.mark_nodes.ensures.stand;
    }
