use Rattle.std.proofs.Common.{◌∙◌, ◌++◌, List, length, sym, ap, ap₂, subst, arith, length-append}
use Rattle.trees.specs.Things.{Kept}
use Rattle.deriv_file.specs.declared.row.Row.{Row}
use Rattle.book_writer.specs.Means.{IsFile, lines_mean, lines_conclude, ConclusionsKept}
use Rattle.book_writer.proofs.MeansLaws.{lines-kept, conclusions-kept}
use Rattle.book_writer.proofs.NodeRows.{node-counts, node-row-right, node-row-concludes}
use Rattle.book_writer.proofs.lines.Lines.add_node.Goals as goal

pub append-requires : goal.append-requires
append-requires c =
    let rows = c.args.self.now in
    let n = node-counts rows c.args.rule c.args.parts.now c.args.premises.now c.requires.0 c.requires.1 in
    omega (arith, n.few, ap length c.new-names.ensures)

pub append-requires-2 : goal.append-requires-2
append-requires-2 c =
    let rows = c.args.self.now in
    let n = node-counts rows c.args.rule c.args.parts.now c.args.premises.now c.requires.0 c.requires.1 in
    omega (arith, n.few, ap length c.append.ensures, length-append c.new-names.result c.args.parts.now, ap length c.new-names.ensures)

pub add-requires-clause-count : goal.add-requires-clause-count
add-requires-clause-count c =
    let rows = c.args.self.now in
    let n = node-counts rows c.args.rule c.args.parts.now c.args.premises.now c.requires.0 c.requires.1 in
    ap length (c.as_slice.ensures.value ∙ c.append-2.ensures ∙ ap (λ ns. ns ++ c.args.premises.now) (c.append.ensures ∙ ap (λ ns. ns ++ c.args.parts.now) c.new-names.ensures)) ∙ n.count

pub add-requires-clause-right : goal.add-requires-clause-right
add-requires-clause-right c =
    let rows = c.args.self.now in
    node-row-right rows (subst IsFile c.self.view_is c.self.invariant.1) c.args.rule c.args.parts.now c.args.premises.now c.requires.0 c.requires.1 c.as_slice.result.now (c.as_slice.ensures.value ∙ c.append-2.ensures ∙ ap (λ ns. ns ++ c.args.premises.now) (c.append.ensures ∙ ap (λ ns. ns ++ c.args.parts.now) c.new-names.ensures))

pub returns-clause-kept : goal.returns-clause-kept
returns-clause-kept c =
    let rows = c.args.self.now in
    subst (λ (new : List Row). Kept (lines_mean rows) (lines_mean new)) (sym c.in_ok-add.ensures.row) (lines-kept rows _)

pub returns-clause-conclusions : goal.returns-clause-conclusions
returns-clause-conclusions c =
    let rows = c.args.self.now in
    subst (λ (new : List Row). ConclusionsKept (lines_conclude rows) (lines_conclude new)) (sym c.in_ok-add.ensures.row) (record { keeps = conclusions-kept rows _ })

pub returns-clause-concludes : goal.returns-clause-concludes
returns-clause-concludes c = λ J right.
    let rows = c.args.self.now in
    ap₂ lines_conclude c.in_ok-add.ensures.row c.in_ok-add.ensures.place
    ∙ node-row-concludes rows (subst IsFile c.self.view_is c.self.invariant.1) c.args.rule c.args.parts.now c.args.premises.now J right c.as_slice.result.now (c.as_slice.ensures.value ∙ c.append-2.ensures ∙ ap (λ ns. ns ++ c.args.premises.now) (c.append.ensures ∙ ap (λ ns. ns ++ c.args.parts.now) c.new-names.ensures))
