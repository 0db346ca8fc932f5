use Rattle.literal_types.proofs.GrowthLaws.{extends_itself}
use Rattle.behind_tests.proofs.AskLaws.{concluded_later}
use Rattle.behind_tests.proofs.asking.ask_numbered.Goals as goal

pub ask-requires : goal.ask-requires
ask-requires c = concluded_later (extends_itself c.args.book.now) c.args.number ((c.mark.ensures.nodes c.args.number).1 c.if-number-mark.true)
