use Rattle.std.proofs.Common.{◌≡◌, ◌∙◌, ap, arith, length, ◌++◌, ◌∷◌, []}
use Rattle.std.proofs.lemmas.Grind.{common_steps}
use Rattle.book_writer.specs.Held.{row_of}
use Rattle.book_writer.proofs.LineLaws.{on_err, unchanged, unchanged-right, added, added-right}
use Rattle.book_writer.proofs.lines.Lines.add.Goals as goal

pub invariant_of-self-in_err-push : goal.invariant_of-self-in_err-push
invariant_of-self-in_err-push c =
    let i = c.self.inside in
    unchanged-right i.names.items c.args.names.now i.lines.items c.extend_from_slice.new.self.items c.push.new.self.items c.self.invariant.0 c.in_ok-extend_from_slice.ensures.items c.in_err-push.ensures.items c.self.invariant.1

pub returns-in_err-push-clause-err : goal.returns-in_err-push-clause-err
returns-in_err-push-clause-err c =
    let i = c.self.inside in
    on_err c.from_residual-in_err-push.result
    (unchanged i.names.items c.args.names.now i.lines.items c.extend_from_slice.new.self.items c.push.new.self.items c.self.invariant.0 c.in_ok-extend_from_slice.ensures.items c.in_err-push.ensures.items
    ∙ c.self.view_is)

pub invariant_of-self-2 : goal.invariant_of-self-2
invariant_of-self-2 c =
    let i = c.self.inside in
    let start : c.len-start.result ≡ length i.names.items = grind (arith, common_steps) in
    added-right i.names.items c.args.names.now i.lines.items c.extend_from_slice.new.self.items c.push.new.self.items c.self.invariant.0 (record { head = c.args.head; start = c.len-start.result }) start c.requires.count c.in_ok-extend_from_slice.ensures.items c.in_ok-push.ensures.items c.args.self.now c.self.view_is c.self.invariant.1 c.requires.plain c.requires.right

pub returns-clause-row : goal.returns-clause-row
returns-clause-row c =
    let i = c.self.inside in
    let start : c.len-start.result ≡ length i.names.items = grind (arith, common_steps) in
    added i.names.items c.args.names.now i.lines.items c.extend_from_slice.new.self.items c.push.new.self.items c.self.invariant.0 (record { head = c.args.head; start = c.len-start.result }) start c.requires.count c.in_ok-extend_from_slice.ensures.items c.in_ok-push.ensures.items
    ∙ ap (λ rows. rows ++ row_of c.args.head c.args.names.now ∷ []) c.self.view_is
