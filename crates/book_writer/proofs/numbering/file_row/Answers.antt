use Rattle.std.proofs.Common.{refl}
use Rattle.book_writer.specs.declared.lines.RowHead.TheVariants as head
use Rattle.book_writer.proofs.NumberLaws.{pair-row, one-row}
use Rattle.book_writer.proofs.numbering.file_row.Goals as goal

pub returns-in-Instance : goal.returns-in-Instance
returns-in-Instance c = pair-row c.args.head head.Instance c.args.names.now c.in-Instance.is refl c.requires

pub returns-in-Push : goal.returns-in-Push
returns-in-Push c = pair-row c.args.head head.Push c.args.names.now c.in-Push.is refl c.requires

pub returns-in-CtxVar : goal.returns-in-CtxVar
returns-in-CtxVar c = pair-row c.args.head head.CtxVar c.args.names.now c.in-CtxVar.is refl c.requires

pub returns-in-CtxFace : goal.returns-in-CtxFace
returns-in-CtxFace c = pair-row c.args.head head.CtxFace c.args.names.now c.in-CtxFace.is refl c.requires

pub returns-in-CtxName : goal.returns-in-CtxName
returns-in-CtxName c = one-row c.args.head head.CtxName c.args.names.now c.in-CtxName.is refl c.requires
