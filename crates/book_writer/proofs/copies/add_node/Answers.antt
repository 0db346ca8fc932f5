use Rattle.std.proofs.Common.{◌<◌, ◌∙◌, ℕ, length, sym, subst, arith}
use Rattle.std.specs.List.{All}
use Rattle.rows.proofs.MeaningLaws.{is_some-value}
use Rattle.book.specs.Shown.{book_means, book_concludes}
use Rattle.book.proofs.NodeLaws.{use-counts, few_cells}
use Rattle.book_writer.specs.Needed.{among}
use Rattle.book_writer.proofs.PlaceLaws.{all-low, node-right}
use Rattle.book_writer.proofs.NeededLaws.{use-among, marked-node, all-there}
use Rattle.book_writer.proofs.copies.add_node.Goals as goal

pub placed-parts-requires-clause-few : goal.placed-parts-requires-clause-few
placed-parts-requires-clause-few c =
    let b = c.args.book.now in
    let J = is_some-value (book_concludes b c.args.node.0) c.requires.there in
    let n = use-counts (book_means b) (book_concludes b) c.step-rule.result.rule c.step-rule.result.parts.now c.step-rule.result.premises.now J.0 (c.step-rule.ensures.right J.0 J.1) in
    omega (arith, n.0, few_cells c.step-rule.result.rule)

pub placed-parts-requires-clause-there : goal.placed-parts-requires-clause-there
placed-parts-requires-clause-there c =
    let b = c.args.book.now in
    let J = is_some-value (book_concludes b c.args.node.0) c.requires.there in
    let u = c.step-rule.ensures.right J.0 J.1 in
    all-low (book_means b) (length c.args.places.now) c.requires.all c.step-rule.result.parts.now u.things u.parts_are

pub placed-premises-requires-clause-few : goal.placed-premises-requires-clause-few
placed-premises-requires-clause-few c =
    let b = c.args.book.now in
    let J = is_some-value (book_concludes b c.args.node.0) c.requires.there in
    let n = use-counts (book_means b) (book_concludes b) c.step-rule.result.rule c.step-rule.result.parts.now c.step-rule.result.premises.now J.0 (c.step-rule.ensures.right J.0 J.1) in
    omega (arith, n.1, few_cells c.step-rule.result.rule)

pub placed-premises-requires-clause-there : goal.placed-premises-requires-clause-there
placed-premises-requires-clause-there c =
    let R : ℕ → Type 0 = λ n. All (λ k. k < n) c.step-rule.result.premises.now in
    subst R c.requires.next c.step-rule.ensures.earlier

pub add_node-requires : goal.add_node-requires
add_node-requires c =
    let b = c.args.book.now in
    let rows = c.args.needed.now.rows.items in
    let nodes = c.args.needed.now.nodes.items in
    let f = among rows (book_means b) in
    let g = among nodes (book_concludes b) in
    let s = c.step-rule.result in
    let J = is_some-value (book_concludes b c.args.node.0) c.requires.there in
    let m = marked-node b rows nodes c.args.node.0 s.rule s.parts.now s.premises.now c.requires.stand c.requires.marked c.step-rule.ensures.made in
    let u = use-among b rows nodes s.rule s.parts.now s.premises.now J.0 m.parts_are m.premises_are (c.step-rule.ensures.right J.0 J.1) in (
      J.0,
      node-right f g c.args.lines.now c.args.places.now c.args.nodes.now c.requires.placed (all-there rows (book_means b) (length c.args.places.now) c.requires.all) c.requires.nodes c.args.node.0 c.requires.next s.rule s.parts.now s.premises.now J.0 c.step-rule.ensures.earlier u c.as_slice.result.now c.as_slice-2.result.now (c.as_slice.ensures.value ∙ c.placed-parts.ensures) (c.as_slice-2.ensures.value ∙ c.placed-premises.ensures),
    )

pub returns-clause-concludes : goal.returns-clause-concludes
returns-clause-concludes c =
    let b = c.args.book.now in
    let rows = c.args.needed.now.rows.items in
    let nodes = c.args.needed.now.nodes.items in
    let f = among rows (book_means b) in
    let g = among nodes (book_concludes b) in
    let s = c.step-rule.result in
    let J = is_some-value (book_concludes b c.args.node.0) c.requires.there in
    let m = marked-node b rows nodes c.args.node.0 s.rule s.parts.now s.premises.now c.requires.stand c.requires.marked c.step-rule.ensures.made in
    let u = use-among b rows nodes s.rule s.parts.now s.premises.now J.0 m.parts_are m.premises_are (c.step-rule.ensures.right J.0 J.1) in
    c.in_ok-add_node.ensures.concludes J.0
    (node-right f g c.args.lines.now c.args.places.now c.args.nodes.now c.requires.placed (all-there rows (book_means b) (length c.args.places.now) c.requires.all) c.requires.nodes c.args.node.0 c.requires.next s.rule s.parts.now s.premises.now J.0 c.step-rule.ensures.earlier u c.as_slice.result.now c.as_slice-2.result.now (c.as_slice.ensures.value ∙ c.placed-parts.ensures) (c.as_slice-2.ensures.value ∙ c.placed-premises.ensures))
    ∙ sym J.1
