use Rattle.std.proofs.Common.{◌∙◌, ap, refl, [], subst, sym, ◌<◌, length}
use Rattle.trees.specs.Things.{meanings}
use Rattle.book.specs.Contents.{Contents}
use Rattle.book.specs.Shown.{book_means, book_concludes}
use Rattle.recipes.specs.Derivations.{Derives, conclusions_at}
use Rattle.recipe_runner.specs.Running.{MayRun}
use Rattle.kan_tests.specs.Fillings.{contracted_statement, before_last, earlier}
use Rattle.kan_tests.specs.declared.contr_variable.TheConstants.{CONTR_VARIABLE, CONTR_VARIABLE_PREMISES}
use Rattle.book_tests.proofs.RunLaws.{may-try}
use Rattle.kan_tests.proofs.TestLaws.{may-contract, some-nodes, conclusions-later}
use Rattle.kan_tests.proofs.calls.contraction.Goals as goal

right : Derives earlier contracted_statement (before_last CONTR_VARIABLE.now) CONTR_VARIABLE_PREMISES.now → (b : Contents) → MayRun earlier b (before_last CONTR_VARIABLE.now) CONTR_VARIABLE_PREMISES.now [] [] (conclusions_at contracted_statement [])
right = may-try earlier contracted_statement (before_last CONTR_VARIABLE.now) CONTR_VARIABLE_PREMISES.now refl refl refl

pub premises-requires-clause-right : goal.premises-requires-clause-right
premises-requires-clause-right c = (conclusions_at contracted_statement [], right c.called_premises_are_derived.ensures.contraction)

pub context_of-ctx-requires : goal.context_of-ctx-requires
context_of-ctx-requires c =
    let concluded = c.in_ok-nodes.ensures.gives (conclusions_at contracted_statement []) (right c.called_premises_are_derived.ensures.contraction) in
    (_, _, ap (meanings (book_concludes c.premises.new.book)) c.as_slice.ensures.value ∙ concluded)

pub contracted_parts-requires : goal.contracted_parts-requires
contracted_parts-requires c =
    let concluded = c.in_ok-nodes.ensures.gives (conclusions_at contracted_statement []) (right c.called_premises_are_derived.ensures.contraction) in
    c.context_of-ctx.ensures _ _ (ap (meanings (book_concludes c.premises.new.book)) c.as_slice.ensures.value ∙ concluded)

pub call_of-requires-clause-some : goal.call_of-requires-clause-some
call_of-requires-clause-some c =
    let concluded = c.in_ok-nodes.ensures.gives (conclusions_at contracted_statement []) (right c.called_premises_are_derived.ensures.contraction) in
    subst (λ ks. 0 < length ks) (sym c.as_slice-2.ensures.value) (some-nodes c.premises.new.book c.in_ok-nodes.nodes _ _ concluded)

pub returns : goal.returns
returns c =
    let book = c.contracted_parts.new.book in
    let concluded = c.in_ok-nodes.ensures.gives (conclusions_at contracted_statement []) (right c.called_premises_are_derived.ensures.contraction) in
    may-contract book c.call_of.result.ctx.0 c.call_of.result.step.parts c.call_of.result.step.premises
    (ap (meanings (book_means book)) c.call_of.ensures.parts ∙ c.in_ok-parts.ensures.parts)
    (ap (meanings (book_concludes book)) (c.call_of.ensures.nodes ∙ c.as_slice-2.ensures.value)
    ∙ conclusions-later c.premises.new.book book c.in_ok-parts.ensures.extends c.in_ok-nodes.nodes (conclusions_at contracted_statement []) concluded)
