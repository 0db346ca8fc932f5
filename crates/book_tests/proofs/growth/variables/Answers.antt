use Rattle.std.proofs.Common.{◌∙◌, [], ◌∷◌, length, refl, ap, arith}
use Rattle.std.specs.Prelude.{slice_index}
use Rattle.trees.specs.Trees.{Var}
use Rattle.book.specs.Contents.{Contents}
use Rattle.book.specs.Shown.{book_concludes}
use Rattle.recipes.specs.Derivations.{Derives}
use Rattle.recipe_runner.specs.Running.{MayRun}
use Rattle.book_tests.specs.Stated.{earlier, variables_statement, function_said, number_said}
use Rattle.book_tests.specs.declared.variables.TheConstants.{VARIABLES, VARIABLES_GIVES}
use Rattle.book_tests.proofs.RunLaws.{may-try}
use Rattle.book_tests.proofs.GrowthLaws.{two}
use Rattle.book_tests.proofs.growth.variables.Goals as goal

right : Derives earlier variables_statement VARIABLES.now VARIABLES_GIVES.now → (b : Contents) → MayRun earlier b VARIABLES.now VARIABLES_GIVES.now [] [] (function_said ∷ number_said (Var 0) ∷ [])
right = may-try earlier variables_statement VARIABLES.now VARIABLES_GIVES.now refl refl refl

pub given-requires-clause-right : goal.given-requires-clause-right
given-requires-clause-right c = (function_said ∷ number_said (Var 0) ∷ [], right c.variables_are_derived.ensures)

pub bounds-nodes-0 : goal.bounds-nodes-0
bounds-nodes-0 c =
    let t = two c.given.new.book c.in_ok-nodes.nodes function_said (number_said (Var 0)) (c.in_ok-nodes.ensures.gives (function_said ∷ number_said (Var 0) ∷ []) (right c.variables_are_derived.ensures)) in
    omega (arith, t.count, ap length c.as_slice-nodes.ensures.value)

pub bounds-nodes-1 : goal.bounds-nodes-1
bounds-nodes-1 c =
    let t = two c.given.new.book c.in_ok-nodes.nodes function_said (number_said (Var 0)) (c.in_ok-nodes.ensures.gives (function_said ∷ number_said (Var 0) ∷ []) (right c.variables_are_derived.ensures)) in
    omega (arith, t.count, ap length c.as_slice-nodes.ensures.value)

pub returns-clause-function : goal.returns-clause-function
returns-clause-function c =
    let t = two c.given.new.book c.in_ok-nodes.nodes function_said (number_said (Var 0)) (c.in_ok-nodes.ensures.gives (function_said ∷ number_said (Var 0) ∷ []) (right c.variables_are_derived.ensures)) in
    ap (λ ks. book_concludes c.given.new.book (slice_index ks 0)) c.as_slice-nodes.ensures.value ∙ t.first

pub returns-clause-number : goal.returns-clause-number
returns-clause-number c =
    let t = two c.given.new.book c.in_ok-nodes.nodes function_said (number_said (Var 0)) (c.in_ok-nodes.ensures.gives (function_said ∷ number_said (Var 0) ∷ []) (right c.variables_are_derived.ensures)) in
    (Var 0, ap (λ ks. book_concludes c.given.new.book (slice_index ks 1)) c.as_slice-nodes.ensures.value ∙ t.second)
