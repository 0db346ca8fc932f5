use Rattle.interned.proofs.CodingLaws.{words_of_subst}
use Rattle.interned.proofs.coding.sub_size.Goals as goal

pub bounds-words-3 : goal.bounds-words-3
bounds-words-3 c = words_of_subst c.requires.subst.0 c.args.words.now c.requires.subst.1
