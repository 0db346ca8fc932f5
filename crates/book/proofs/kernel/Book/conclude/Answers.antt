use Rattle.std.proofs.Common.{◌≤◌, ◌+◌, ◌∙◌, refl, sym, ap, subst, length, arith}
use Rattle.interned.specs.Shown.{things, rows_mean, rows_spare}
use Rattle.rules.specs.Schemas.{most_rows}
use Rattle.book.specs.Contents.{Contents}
use Rattle.book.specs.Right.{IsSound}
use Rattle.book.specs.Shown.{book_means, book_concludes}
use Rattle.book.proofs.NodeLaws.{few_cells, use-counts, nodes-added}
use Rattle.book.proofs.BookLaws.{right-concluded, extends-along, interned-grows, grows-equal}
use Rattle.book.proofs.FitLaws.{sound-kept}
use Rattle.book.proofs.SpareLaws.{spare_of, some_rows, node-covered, spent_once}
use Rattle.book.proofs.kernel.Book.conclude.Goals as goal

pub invariant_of-self : goal.invariant_of-self
invariant_of-self c = sound-kept (things c.self.inside.rows) (things c.concluded.new.maker) c.self.inside.nodes.rows c.self.inside.sides c.concluded.ensures.kept c.self.invariant

pub returns-in_err-claim-clause-extends : goal.returns-in_err-claim-clause-extends
returns-in_err-claim-clause-extends c = extends-along _ _ _ c.self.view_is c.concluded.ensures.kept (grows-equal c.self.inside.nodes.rows c.self.inside.nodes.rows refl)

pub spell_node-requires-clause-count : goal.spell_node-requires-clause-count
spell_node-requires-clause-count c =
    let b = c.args.self.now in
    let step = c.args.step.now in
    ap length c.as_slice-parts.ensures.value
    ∙ (use-counts (book_means b) (book_concludes b) step.rule step.parts step.premises c.requires.right.0 c.requires.right.1).0

pub spell_node-requires-clause-few : goal.spell_node-requires-clause-few
spell_node-requires-clause-few c =
    let b = c.args.self.now in
    let step = c.args.step.now in
    let counts = use-counts (book_means b) (book_concludes b) step.rule step.parts step.premises c.requires.right.0 c.requires.right.1 in
    omega (arith, ap length c.as_slice-parts.ensures.value, ap length c.as_slice-premises.ensures.value, counts.0, counts.1, few_cells step.rule)

pub invariant_of-self-in_err-at : goal.invariant_of-self-in_err-at
invariant_of-self-in_err-at c =
    let xs = things c.concluded.new.maker in
    let sides = c.self.inside.sides in
    subst (λ nodes. IsSound xs nodes sides) (sym c.in_err-at.ensures.err)
    (sound-kept (things c.self.inside.rows) xs c.self.inside.nodes.rows sides c.concluded.ensures.kept c.self.invariant)

pub returns-in_err-at-clause-extends : goal.returns-in_err-at-clause-extends
returns-in_err-at-clause-extends c = extends-along _ _ _ c.self.view_is c.concluded.ensures.kept (grows-equal _ _ c.in_err-at.ensures.err)

pub returns-in_err-at-clause-covered : goal.returns-in_err-at-clause-covered
returns-in_err-at-clause-covered c enough =
    let count = most_rows c.args.step.now.rule in
    let spare = ap (λ (d : Contents). d.spare) c.self.view_is in
    let here : count ≤ spare_of (rows_spare c.self.inside.rows) c.self.inside.nodes = omega (arith, spare, enough) in
    let no = c.in_err-at.ensures.succeeds (node-covered (rows_spare c.self.inside.rows) count (length c.as_slice.result.now) c.self.inside.nodes (some_rows c.args.step.now.rule) here c.as_slice.ensures.few) in
    cc

pub returns-clause-spends : goal.returns-clause-spends
returns-clause-spends c =
    let rule = c.args.step.now.rule in
    let left = rows_spare c.concluded.new.maker in
    let spare = ap (λ (d : Contents). d.spare) c.self.view_is in
    let spent = spent_once (rows_spare c.self.inside.rows) left (most_rows rule) (length c.as_slice.result.now) c.self.inside.nodes c.intern.new.self (some_rows rule) c.concluded.ensures.spends c.as_slice.ensures.few c.intern.ensures.spent in
    subst (λ n. n ≤ spare_of left c.intern.new.self + most_rows rule) spare spent

pub invariant_of-self-2 : goal.invariant_of-self-2
invariant_of-self-2 c =
    let nodes = c.self.inside.nodes.rows in
    let g = rows_mean c.concluded.new.maker in
    let step = c.args.step.now in
    let new = right-concluded _ _ c.self.view_is g c.concluded.ensures.kept step.rule step.parts step.premises c.requires.right.0 c.requires.right.1 c.as_slice-parts.result.now c.as_slice-premises.result.now c.as_slice-parts.ensures.value c.as_slice-premises.ensures.value c.in_ok-claim.claim c.in_ok-claim.ensures.claim c.spell_node.new.words c.as_slice.result.now c.spell_node.ensures c.as_slice.ensures.value in
    let sound = sound-kept (things c.self.inside.rows) (things c.concluded.new.maker) nodes c.self.inside.sides c.concluded.ensures.kept c.self.invariant in
    record { right = nodes-added g nodes c.as_slice.result.now c.intern.new.self.rows sound.right new c.in_ok-at.ensures.new; keeps = sound.keeps }

pub returns-clause-extends : goal.returns-clause-extends
returns-clause-extends c =
    extends-along _ _ _ c.self.view_is c.concluded.ensures.kept
    (interned-grows c.self.inside.nodes.rows c.as_slice.result.now c.intern.new.self.rows c.in_ok-at.ensures.new)
