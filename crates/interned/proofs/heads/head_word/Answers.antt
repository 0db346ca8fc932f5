use Rattle.std.proofs.Common.{◌∙◌, sym, ap, Some}
use Rattle.interned.proofs.HeadLaws.{operator_at}
use Rattle.interned.proofs.heads.head_word.Goals as goal

pub returns-in-Make : goal.returns-in-Make
returns-in-Make c = operator_at c.in-Make.op ∙ ap Some (sym c.in-Make.is)
