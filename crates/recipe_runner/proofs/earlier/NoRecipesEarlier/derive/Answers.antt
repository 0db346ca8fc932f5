use Rattle.std.proofs.Common.{◌∙◌, sym, ap, Some}
use Rattle.trees.specs.Things.{meanings}
use Rattle.book.specs.Shown.{book_concludes}
use Rattle.recipe_runner.proofs.FlatLaws.{gives-nothing}
use Rattle.recipe_runner.proofs.earlier.NoRecipesEarlier.derive.Goals as goal

pub returns-clause-concludes : goal.returns-clause-concludes
returns-clause-concludes c = λ gives h.
    let a = c.args in
    ap (meanings (book_concludes a._book.now)) c.new.ensures
    ∙ ap Some (sym (gives-nothing a._book.now a._recipe a._parts.now a._premises.now gives h))
