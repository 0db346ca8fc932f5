use Rattle.std.proofs.Common.{◌∙◌, ap, refl, [], subst, sym, ◌<◌, length}
use Rattle.trees.specs.Things.{meanings}
use Rattle.trees.proofs.Meanings.{meanings-kept}
use Rattle.book.specs.Contents.{Contents}
use Rattle.book.specs.Shown.{book_means, book_concludes}
use Rattle.recipes.specs.Derivations.{Derives, conclusions_at}
use Rattle.recipe_runner.specs.Running.{MayRun}
use Rattle.kan_tests.specs.Fillings.{moved_statement, preservation_parts, before_last, earlier}
use Rattle.kan_tests.specs.declared.pres_numbers.TheConstants.{PRES_NUMBERS, PRES_NUMBERS_PREMISES}
use Rattle.book_tests.proofs.RunLaws.{may-try}
use Rattle.kan_tests.proofs.TestLaws.{may-preserve, some-nodes}
use Rattle.kan_tests.proofs.calls.preservation.Goals as goal

right : Derives earlier moved_statement (before_last PRES_NUMBERS.now) PRES_NUMBERS_PREMISES.now → (b : Contents) → MayRun earlier b (before_last PRES_NUMBERS.now) PRES_NUMBERS_PREMISES.now [] [] (conclusions_at moved_statement [])
right = may-try earlier moved_statement (before_last PRES_NUMBERS.now) PRES_NUMBERS_PREMISES.now refl refl refl

pub premises-requires-clause-right : goal.premises-requires-clause-right
premises-requires-clause-right c = (conclusions_at moved_statement [], right c.called_premises_are_derived.ensures.preservation)

pub call_of-requires-clause-some : goal.call_of-requires-clause-some
call_of-requires-clause-some c =
    let concluded = c.in_ok-nodes.ensures.gives (conclusions_at moved_statement []) (right c.called_premises_are_derived.ensures.preservation) in
    subst (λ ks. 0 < length ks) (sym c.as_slice.ensures.value) (some-nodes c.premises.new.book c.in_ok-nodes.nodes _ _ concluded)

pub returns : goal.returns
returns c =
    let book = c.premises.new.book in
    let concluded = c.in_ok-nodes.ensures.gives (conclusions_at moved_statement []) (right c.called_premises_are_derived.ensures.preservation) in
    may-preserve book c.call_of.result.ctx.0 c.call_of.result.step.parts c.call_of.result.step.premises
    (ap (meanings (book_means book)) c.call_of.ensures.parts
    ∙ meanings-kept (book_means c.moved_parts.new.book) (book_means book) c.premises.ensures.extends.rows c.in_ok-parts.parts preservation_parts c.in_ok-parts.ensures)
    (ap (meanings (book_concludes book)) (c.call_of.ensures.nodes ∙ c.as_slice.ensures.value) ∙ concluded)
