use Rattle.std.proofs.Common.{◌∙◌, ap, refl, [], subst, sym, ◌<◌, length}
use Rattle.trees.specs.Things.{meanings}
use Rattle.book.specs.Contents.{Contents}
use Rattle.book.specs.Shown.{book_means, book_concludes}
use Rattle.recipes.specs.Derivations.{Derives, conclusions_at}
use Rattle.recipe_runner.specs.Running.{MayRun}
use Rattle.kan_tests.specs.Fillings.{raised_statement, before_last, earlier}
use Rattle.kan_tests.specs.declared.ext_variable.TheConstants.{EXT_VARIABLE, EXT_VARIABLE_PREMISES}
use Rattle.book_tests.proofs.RunLaws.{may-try}
use Rattle.kan_tests.proofs.TestLaws.{may-extend, some-nodes, conclusions-later}
use Rattle.kan_tests.proofs.calls.extension.Goals as goal

right : Derives earlier raised_statement (before_last EXT_VARIABLE.now) EXT_VARIABLE_PREMISES.now → (b : Contents) → MayRun earlier b (before_last EXT_VARIABLE.now) EXT_VARIABLE_PREMISES.now [] [] (conclusions_at raised_statement [])
right = may-try earlier raised_statement (before_last EXT_VARIABLE.now) EXT_VARIABLE_PREMISES.now refl refl refl

pub premises-requires-clause-right : goal.premises-requires-clause-right
premises-requires-clause-right c = (conclusions_at raised_statement [], right c.called_premises_are_derived.ensures.extension)

pub context_of-ctx-requires : goal.context_of-ctx-requires
context_of-ctx-requires c =
    let concluded = c.in_ok-nodes.ensures.gives (conclusions_at raised_statement []) (right c.called_premises_are_derived.ensures.extension) in
    (_, _, ap (meanings (book_concludes c.premises.new.book)) c.as_slice.ensures.value ∙ concluded)

pub raised_parts-requires : goal.raised_parts-requires
raised_parts-requires c =
    let concluded = c.in_ok-nodes.ensures.gives (conclusions_at raised_statement []) (right c.called_premises_are_derived.ensures.extension) in
    c.context_of-ctx.ensures _ _ (ap (meanings (book_concludes c.premises.new.book)) c.as_slice.ensures.value ∙ concluded)

pub call_of-requires-clause-some : goal.call_of-requires-clause-some
call_of-requires-clause-some c =
    let concluded = c.in_ok-nodes.ensures.gives (conclusions_at raised_statement []) (right c.called_premises_are_derived.ensures.extension) in
    subst (λ ks. 0 < length ks) (sym c.as_slice-2.ensures.value) (some-nodes c.premises.new.book c.in_ok-nodes.nodes _ _ concluded)

pub returns : goal.returns
returns c =
    let book = c.raised_parts.new.book in
    let concluded = c.in_ok-nodes.ensures.gives (conclusions_at raised_statement []) (right c.called_premises_are_derived.ensures.extension) in
    may-extend book c.call_of.result.ctx.0 c.call_of.result.step.parts c.call_of.result.step.premises
    (ap (meanings (book_means book)) c.call_of.ensures.parts ∙ c.in_ok-parts.ensures.parts)
    (ap (meanings (book_concludes book)) (c.call_of.ensures.nodes ∙ c.as_slice-2.ensures.value)
    ∙ conclusions-later c.premises.new.book book c.in_ok-parts.ensures.extends c.in_ok-nodes.nodes (conclusions_at raised_statement []) concluded)
