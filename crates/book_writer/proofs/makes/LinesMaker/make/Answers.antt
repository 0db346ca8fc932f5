use Rattle.rows.proofs.MeaningLaws.{made-count}
use Rattle.book_writer.specs.Means.{lines_mean}
use Rattle.book_writer.proofs.makes.LinesMaker.make.Goals as goal

pub add_thing-requires-clause-count : goal.add_thing-requires-clause-count
add_thing-requires-clause-count c = made-count (lines_mean c.args.self.now) c.args.op c.args.kids.now c.requires
