use Rattle.std.proofs.Common.{◌∙◌, sym, ap}
use Rattle.deriv_file.specs.Words.{words_left}
use Rattle.deriv_file.proofs.WordLaws.{first_word, one_word}
use Rattle.deriv_file.proofs.words.Words.take.Goals as goal

pub returns-in-Some : goal.returns-in-Some
returns-in-Some c =
    let split = c.in-Some.ensures.some in
    sym c.self.view_is ∙ ap words_left c.in_ok-rest.was ∙ first_word c.in_ok-rest.rest.now c.in-Some.word.now c.in-Some.after.now split.0 split.1

pub returns-in-None : goal.returns-in-None
returns-in-None c = sym c.self.view_is ∙ ap words_left c.in_ok-rest.was ∙ one_word c.in_ok-rest.rest.now c.in-None.ensures.none
