use Rattle.std.proofs.Common.{length}
use Rattle.trees.specs.Trees.{greatest_shift}
use Rattle.rows.specs.Shown.{things, store_means}
use Rattle.rows.proofs.StoreLaws.{then_size, both-within, shift-subst, shifts-follow}
use Rattle.rows.proofs.store.RowStore.size_of_then.Goals as goal

pub sub-requires : goal.sub-requires
sub-requires c = shift-subst greatest_shift (store_means c.args.self.now c.args.first) c.requires.first

pub sub-requires-2 : goal.sub-requires-2
sub-requires-2 c = shift-subst greatest_shift (store_means c.args.self.now c.args.second) c.requires.second

pub returns : goal.returns
returns c =
    let s = c.args.self.now in
    let f = store_means s in
    let i = c.args.first in
    let j = c.args.second in
    let within = both-within (things s) i j (shifts-follow greatest_shift (f i) (f j) c.requires.first c.requires.second) in
    then_size i j (length (things s)) (f i) (f j) c.sub.result.size c.sub-2.result.size c.then.result within.0 within.1 c.ranges.second.fits c.requires.first c.sub.ensures.size c.sub-2.ensures.size c.then.ensures.pushed c.then.ensures.shift
