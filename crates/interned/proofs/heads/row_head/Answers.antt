use Rattle.std.proofs.Common.{arith}
use Rattle.interned.proofs.HeadLaws.{head-within, head-read}
use Rattle.interned.proofs.heads.row_head.Goals as goal

pub offset_bounds-words : goal.offset_bounds-words
offset_bounds-words c = omega (arith, head-within c.args.words.now c.requires)

pub bounds-words : goal.bounds-words
bounds-words c = head-within c.args.words.now c.requires

pub returns : goal.returns
returns c = head-read c.args.words.now _ c.requires
