use Rattle.std.proofs.Common.{◌<◌, ◌∙◌, [], ◌∷◌, length, refl, sym, ap, subst}
use Rattle.std.specs.Prelude.{slice_index}
use Rattle.book.specs.Contents.{Contents}
use Rattle.book.specs.Shown.{book_concludes}
use Rattle.recipes.specs.Derivations.{Derives}
use Rattle.recipe_runner.specs.Running.{MayRun}
use Rattle.book_tests.specs.Stated.{earlier, constant_statement, zeroing}
use Rattle.book_tests.specs.declared.constant.TheConstants.{CONSTANT, CONSTANT_GIVES}
use Rattle.book_tests.proofs.RunLaws.{may-try, first}
use Rattle.book_tests.proofs.runs.doubled.Goals as goal

right : Derives earlier constant_statement CONSTANT.now CONSTANT_GIVES.now → (b : Contents) → MayRun earlier b CONSTANT.now CONSTANT_GIVES.now [] [] (zeroing ∷ [])
right = may-try earlier constant_statement CONSTANT.now CONSTANT_GIVES.now refl refl refl

pub given-requires-clause-right : goal.given-requires-clause-right
given-requires-clause-right c = (zeroing ∷ [], right c.constant_is_derived.ensures)

pub bounds-as_slice-0 : goal.bounds-as_slice-0
bounds-as_slice-0 c =
    let f = first c.given.new.book c.in_ok-nodes.nodes zeroing (c.in_ok-nodes.ensures.gives (zeroing ∷ []) (right c.constant_is_derived.ensures)) in
    subst (λ ks. 0 < length ks) (sym c.as_slice.ensures.value) f.some

pub loop-init : goal.loop-init
loop-init c =
    let f = first c.given.new.book c.in_ok-nodes.nodes zeroing (c.in_ok-nodes.ensures.gives (zeroing ∷ []) (right c.constant_is_derived.ensures)) in
    ap (λ ks. book_concludes c.given.new.book (slice_index ks 0)) c.as_slice.ensures.value ∙ f.concludes
