use Rattle.std.proofs.Common.{◌∙◌, ap, refl, [], subst, sym, ◌<◌, length}
use Rattle.trees.specs.Things.{meanings}
use Rattle.trees.proofs.Meanings.{meanings-kept}
use Rattle.book.specs.Contents.{Contents}
use Rattle.book.specs.Shown.{book_means, book_concludes}
use Rattle.recipes.specs.Derivations.{Derives, conclusions_at}
use Rattle.recipe_runner.specs.Running.{MayRun}
use Rattle.kan_tests.specs.Fillings.{premises_statement, filling_parts, earlier}
use Rattle.kan_tests.specs.declared.fill_premises.TheConstants.{FILL_PREMISES, FILL_PREMISES_GIVES}
use Rattle.book_tests.proofs.RunLaws.{may-try}
use Rattle.kan_tests.proofs.TestLaws.{may-fill, some-nodes}
use Rattle.kan_tests.proofs.calls.filling.Goals as goal

right : Derives earlier premises_statement FILL_PREMISES.now FILL_PREMISES_GIVES.now → (b : Contents) → MayRun earlier b FILL_PREMISES.now FILL_PREMISES_GIVES.now [] [] (conclusions_at premises_statement [])
right = may-try earlier premises_statement FILL_PREMISES.now FILL_PREMISES_GIVES.now refl refl refl

pub given-requires-clause-right : goal.given-requires-clause-right
given-requires-clause-right c = (conclusions_at premises_statement [], right c.premises_are_derived.ensures)

pub call_of-requires-clause-some : goal.call_of-requires-clause-some
call_of-requires-clause-some c =
    let concluded = c.in_ok-nodes.ensures.gives (conclusions_at premises_statement []) (right c.premises_are_derived.ensures) in
    subst (λ ks. 0 < length ks) (sym c.as_slice.ensures.value) (some-nodes c.given.new.book c.in_ok-nodes.nodes _ _ concluded)

pub returns : goal.returns
returns c =
    let book = c.given.new.book in
    let concluded = c.in_ok-nodes.ensures.gives (conclusions_at premises_statement []) (right c.premises_are_derived.ensures) in
    may-fill book c.call_of.result.ctx.0 c.call_of.result.step.parts c.call_of.result.step.premises
    (ap (meanings (book_means book)) c.call_of.ensures.parts
    ∙ meanings-kept (book_means c.parts.new.book) (book_means book) c.given.ensures.extends.rows c.in_ok-parts.parts filling_parts c.in_ok-parts.ensures)
    (ap (meanings (book_concludes book)) (c.call_of.ensures.nodes ∙ c.as_slice.ensures.value) ∙ concluded)
