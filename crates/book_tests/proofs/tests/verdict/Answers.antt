use Rattle.std.proofs.Common.{◌∙◌, ap}
use Rattle.trees.specs.Things.{meanings}
use Rattle.book.specs.Shown.{book_concludes}
use Rattle.book_writer.specs.Written.{concluded_by}
use Rattle.recipe_runner.proofs.BuildLaws.{some-is}
use Rattle.book_tests.proofs.tests.verdict.Goals as goal

pub judged-requires : goal.judged-requires
judged-requires c =
    let gives = c.requires.right.0 in
    let book = c.given.new.book in
    let concluded = c.in_ok-numbers.ensures.gives gives c.requires.right.1 in
    some-is _ gives
    (ap (concluded_by book) c.as_slice-2.ensures.value
    ∙ ap (meanings (book_concludes book)) (c.in_ok-roots.ensures ∙ c.as_slice.ensures.value)
    ∙ concluded)
