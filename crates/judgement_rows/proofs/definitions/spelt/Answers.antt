use Rattle.std.proofs.Common.{[]}
use Rattle.judgement_rows.proofs.Wholes.{all_spelt, fits_start}
use Rattle.judgement_rows.proofs.definitions.spelt.Goals as goal

pub block-requires : goal.block-requires
block-requires g c = ([], fits_start _ _ c.in_ok-context.ensures.meaning c.new.ensures)

pub returns-clause-after : goal.returns-clause-after
returns-clause-after g c =
    all_spelt _ _ c.in_ok-context.ensures.meaning c.new.ensures _ _ c.new-2.ensures.items c.in_ok-block.ensures.defines
