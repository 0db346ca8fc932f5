use Rattle.std.proofs.Common.{ap, ◌∙◌, Some}
use Rattle.trees.specs.Judgements.{WithName}
use Rattle.translation.specs.Terms.{universe, papp, lifted, innermost, pathp}
use Rattle.direct.specs.Literal.{path_type_of}
use Rattle.typed_nodes.proofs.GrowthLaws.{says_later, line_later}
use Rattle.typed_contexts.proofs.GrowthLaws.{further}
use Rattle.typing_tasks.specs.States.{place, finding, with_inferred}
use Rattle.typing_tasks.specs.Outcomes.{formed}
use Rattle.typing_steps.proofs.GrowthLaws.{state_later}
use Rattle.typing_steps.proofs.PairLaws.{not_path}
use Rattle.typing_steps.proofs.LineLaws.{same_as, compared, path_found, named_line, path_starts, of_type}
use Rattle.typing_steps.proofs.state.CheckState.path_at_name.Goals as goal

pub take_head-head-requires : goal.take_head-head-requires
take_head-head-requires c =
    let (S, M, is, does) = c.requires in
    let (a, A, rs, last, made) = does in
    (c.args.book.now, S, _, rs, is, last)

pub literal-requires : goal.literal-requires
literal-requires c =
    let (S, M, is, does) = c.requires in
    let (a, A, rs, last, made) = does in
    let (head, state) = c.take_head-head.ensures c.args.book.now S _ rs is last in
    (_, A, head.type_at)

pub returns-in_default : goal.returns-in_default
returns-in_default c = record {
  extends = c.in_ok-line.ensures.extends;
  done = λ S M is (a, A, rs, last, made).
      let (head, state) = c.take_head-head.ensures c.args.book.now S _ rs is last in
      made ∙ ap (path_found (Some (finding (formed c.args.sort (WithName (place S)) (papp (lifted a) innermost)) (with_inferred rs S))))
      (not_path c.literal.new.book c.in_ok-line.field-0 _ A (c.in_ok-line.ensures.literal _ A head.type_at) c.in_default.not-Path);
}

pub under_name-requires : goal.under_name-requires
under_name-requires c =
    let (S, M, is, does) = c.requires in
    let (a, A, rs, last, made) = does in
    let (head, state) = c.take_head-head.ensures c.args.book.now S _ rs is last in
    let (H, G, e, says) = path_starts c.literal.new.book c.in_ok-line.field-0 c.in-Path.line (place S) A c.in-Path.is (c.in_ok-line.ensures.literal _ A head.type_at) in
    (H, G, e, says_later _ _ _ _ c.in_ok-universe.ensures.extends says)

pub is_row-requires : goal.is_row-requires
is_row-requires c =
    let (S, M, is, does) = c.requires in
    let (a, A, rs, last, made) = does in
    let (head, state) = c.take_head-head.ensures c.args.book.now S _ rs is last in
    let (L, u, v, spelt, path, over, row) = named_line c.literal.new.book c.make.new.self c.under_name.new.book c.in_ok-line.field-0 c.in-Path.line c.in_ok-over_name.over_name c.in_ok-universe.universe (place S) A c.in-Path.is
    (c.in_ok-line.ensures.literal _ A head.type_at) c.in_ok-universe.ensures.extends c.in_ok-universe.ensures.meaning c.in_ok-over_name.ensures.extends c.in_ok-over_name.ensures.typed in
    (_, L, universe, over, row)

pub returns-then-not-branch-clause-done : goal.returns-then-not-branch-clause-done
returns-then-not-branch-clause-done c = λ S M is (a, A, rs, last, made).
    let (head, state) = c.take_head-head.ensures c.args.book.now S _ rs is last in
    let (L, u, v, spelt, path, over, row) = named_line c.literal.new.book c.make.new.self c.under_name.new.book c.in_ok-line.field-0 c.in-Path.line c.in_ok-over_name.over_name c.in_ok-universe.universe (place S) A c.in-Path.is
    (c.in_ok-line.ensures.literal _ A head.type_at) c.in_ok-universe.ensures.extends c.in_ok-universe.ensures.meaning c.in_ok-over_name.ensures.extends c.in_ok-over_name.ensures.typed in
    let same = c.in_ok-is_row.ensures.same _ L universe over row in
    let found = Some (finding (formed c.args.sort (WithName (place S)) (papp (lifted a) innermost)) (with_inferred rs S)) in
    made ∙ (ap (λ W. path_found found (path_type_of W)) spelt ∙ ap (compared found) (same_as _ L universe same ∙ c.if-not-branch.true))

pub end_rows-requires : goal.end_rows-requires
end_rows-requires c =
    let (S, M, is, does) = c.requires in
    let (a, A, rs, last, made) = does in
    let (head, state) = c.take_head-head.ensures c.args.book.now S _ rs is last in
    let (L, u, v, spelt, path, over, row) = named_line c.literal.new.book c.make.new.self c.under_name.new.book c.in_ok-line.field-0 c.in-Path.line c.in_ok-over_name.over_name c.in_ok-universe.universe (place S) A c.in-Path.is
    (c.in_ok-line.ensures.literal _ A head.type_at) c.in_ok-universe.ensures.extends c.in_ok-universe.ensures.meaning c.in_ok-over_name.ensures.extends c.in_ok-over_name.ensures.typed in
    (_, L, u, v, line_later _ _ c.in-Path.line (place S) L u v c.in_ok-is_row.ensures.extends path)

pub path_in_universe-requires : goal.path_in_universe-requires
path_in_universe-requires c =
    let (S, M, is, does) = c.requires in
    let (a, A, rs, last, made) = does in
    let (head, state) = c.take_head-head.ensures c.args.book.now S _ rs is last in
    let (L, u, v, spelt, path, over, row) = named_line c.literal.new.book c.make.new.self c.under_name.new.book c.in_ok-line.field-0 c.in-Path.line c.in_ok-over_name.over_name c.in_ok-universe.universe (place S) A c.in-Path.is
    (c.in_ok-line.ensures.literal _ A head.type_at) c.in_ok-universe.ensures.extends c.in_ok-universe.ensures.meaning c.in_ok-over_name.ensures.extends c.in_ok-over_name.ensures.typed in
    let same = c.in_ok-is_row.ensures.same _ L universe over row in
    let ends = c.in_ok-ends.ensures.rows (place S) L u v (line_later _ _ c.in-Path.line (place S) L u v c.in_ok-is_row.ensures.extends path) in
    let grown = further (further (further (further c.in_ok-line.ensures.extends c.in_ok-universe.ensures.extends) c.in_ok-over_name.ensures.extends) c.in_ok-is_row.ensures.extends) c.in_ok-ends.ensures.extends in
    let says = of_type _ _ c.take_head-head.result (place S) a A (pathp universe u v) grown head (spelt ∙ ap (λ X. pathp X u v) (same.0 c.if-not-branch.false)) in
    let ctx = c.ctx.ensures c.end_rows.new.book _ (state_later grown _ _ state) in
    (place S, u, v, a, ends.0, ends.1, ctx, says)

pub of_sort-requires : goal.of_sort-requires
of_sort-requires c =
    let (S, M, is, does) = c.requires in
    let (a, A, rs, last, made) = does in
    let (head, state) = c.take_head-head.ensures c.args.book.now S _ rs is last in
    let (L, u, v, spelt, path, over, row) = named_line c.literal.new.book c.make.new.self c.under_name.new.book c.in_ok-line.field-0 c.in-Path.line c.in_ok-over_name.over_name c.in_ok-universe.universe (place S) A c.in-Path.is
    (c.in_ok-line.ensures.literal _ A head.type_at) c.in_ok-universe.ensures.extends c.in_ok-universe.ensures.meaning c.in_ok-over_name.ensures.extends c.in_ok-over_name.ensures.typed in
    let same = c.in_ok-is_row.ensures.same _ L universe over row in
    let ends = c.in_ok-ends.ensures.rows (place S) L u v (line_later _ _ c.in-Path.line (place S) L u v c.in_ok-is_row.ensures.extends path) in
    let grown = further (further (further (further c.in_ok-line.ensures.extends c.in_ok-universe.ensures.extends) c.in_ok-over_name.ensures.extends) c.in_ok-is_row.ensures.extends) c.in_ok-ends.ensures.extends in
    let says = of_type _ _ c.take_head-head.result (place S) a A (pathp universe u v) grown head (spelt ∙ ap (λ X. pathp X u v) (same.0 c.if-not-branch.false)) in
    let ctx = c.ctx.ensures c.end_rows.new.book _ (state_later grown _ _ state) in
    (_, _, c.in_ok-small.ensures.typed (place S) u v a ends.0 ends.1 ctx says)

pub returns-clause-done : goal.returns-clause-done
returns-clause-done c = λ S M is (a, A, rs, last, made).
    let (head, state) = c.take_head-head.ensures c.args.book.now S _ rs is last in
    let (L, u, v, spelt, path, over, row) = named_line c.literal.new.book c.make.new.self c.under_name.new.book c.in_ok-line.field-0 c.in-Path.line c.in_ok-over_name.over_name c.in_ok-universe.universe (place S) A c.in-Path.is
    (c.in_ok-line.ensures.literal _ A head.type_at) c.in_ok-universe.ensures.extends c.in_ok-universe.ensures.meaning c.in_ok-over_name.ensures.extends c.in_ok-over_name.ensures.typed in
    let same = c.in_ok-is_row.ensures.same _ L universe over row in
    let ends = c.in_ok-ends.ensures.rows (place S) L u v (line_later _ _ c.in-Path.line (place S) L u v c.in_ok-is_row.ensures.extends path) in
    let grown = further (further (further (further c.in_ok-line.ensures.extends c.in_ok-universe.ensures.extends) c.in_ok-over_name.ensures.extends) c.in_ok-is_row.ensures.extends) c.in_ok-ends.ensures.extends in
    let says = of_type _ _ c.take_head-head.result (place S) a A (pathp universe u v) grown head (spelt ∙ ap (λ X. pathp X u v) (same.0 c.if-not-branch.false)) in
    let ctx = c.ctx.ensures c.end_rows.new.book _ (state_later grown _ _ state) in
    let node = c.in_ok-node.ensures.typed _ _ (c.in_ok-small.ensures.typed (place S) u v a ends.0 ends.1 ctx says) in
    let J = formed c.args.sort (WithName (place S)) (papp (lifted a) innermost) in
    let found = Some (finding J (with_inferred rs S)) in (
      finding J (with_inferred rs S),
      c.in_ok-found.ensures c.of_sort.new.book (with_inferred rs S) J (state_later (further (further grown c.in_ok-small.ensures.extends) c.in_ok-node.ensures.extends) _ _ state) node,
      made ∙ (ap (λ W. path_found found (path_type_of W)) spelt ∙ ap (compared found) (same_as _ L universe same ∙ c.if-not-branch.false)),
    )

pub returns-in_err-universe-clause-extends : goal.returns-in_err-universe-clause-extends
returns-in_err-universe-clause-extends c = further c.in_ok-line.ensures.extends c.make.ensures.extends

pub returns-in_err-over_name-clause-extends : goal.returns-in_err-over_name-clause-extends
returns-in_err-over_name-clause-extends c = further (further c.in_ok-line.ensures.extends c.in_ok-universe.ensures.extends) c.under_name.ensures.extends

pub returns-in_err-is_row-clause-extends : goal.returns-in_err-is_row-clause-extends
returns-in_err-is_row-clause-extends c = further (further (further c.in_ok-line.ensures.extends c.in_ok-universe.ensures.extends) c.in_ok-over_name.ensures.extends) c.is_row.ensures.extends

pub returns-in_err-ends-clause-extends : goal.returns-in_err-ends-clause-extends
returns-in_err-ends-clause-extends c = further (further (further (further c.in_ok-line.ensures.extends c.in_ok-universe.ensures.extends) c.in_ok-over_name.ensures.extends) c.in_ok-is_row.ensures.extends) c.end_rows.ensures.extends

pub returns-in_err-small-clause-extends : goal.returns-in_err-small-clause-extends
returns-in_err-small-clause-extends c = further (further (further (further (further c.in_ok-line.ensures.extends c.in_ok-universe.ensures.extends) c.in_ok-over_name.ensures.extends) c.in_ok-is_row.ensures.extends) c.in_ok-ends.ensures.extends) c.path_in_universe.ensures.extends

pub returns-in_err-node-clause-extends : goal.returns-in_err-node-clause-extends
returns-in_err-node-clause-extends c = further (further (further (further (further (further c.in_ok-line.ensures.extends c.in_ok-universe.ensures.extends) c.in_ok-over_name.ensures.extends) c.in_ok-is_row.ensures.extends) c.in_ok-ends.ensures.extends) c.in_ok-small.ensures.extends) c.of_sort.ensures.extends

pub returns-then-not-branch-clause-extends : goal.returns-then-not-branch-clause-extends
returns-then-not-branch-clause-extends c = further (further (further c.in_ok-line.ensures.extends c.in_ok-universe.ensures.extends) c.in_ok-over_name.ensures.extends) c.in_ok-is_row.ensures.extends

pub returns-in_err-found-clause-extends : goal.returns-in_err-found-clause-extends
returns-in_err-found-clause-extends c = further (further (further (further (further (further c.in_ok-line.ensures.extends c.in_ok-universe.ensures.extends) c.in_ok-over_name.ensures.extends) c.in_ok-is_row.ensures.extends) c.in_ok-ends.ensures.extends) c.in_ok-small.ensures.extends) c.in_ok-node.ensures.extends

pub returns-clause-extends : goal.returns-clause-extends
returns-clause-extends c = further (further (further (further (further (further c.in_ok-line.ensures.extends c.in_ok-universe.ensures.extends) c.in_ok-over_name.ensures.extends) c.in_ok-is_row.ensures.extends) c.in_ok-ends.ensures.extends) c.in_ok-small.ensures.extends) c.in_ok-node.ensures.extends
