use Rattle.deriv_file.proofs.WordLaws.{no_words}
use Rattle.deriv_file.proofs.words.Words.is_empty.Goals as goal

pub returns : goal.returns
returns c = rw (← c.self.view_is) (no_words c.self.inside.rest c.is_none.result c.is_none.ensures)
