use Rattle.std.proofs.Common.{arith}
use Rattle.form_rows.proofs.RowLaws.{kept_then}
use Rattle.judgement_rows.proofs.PlaceLaws.{naming_none, naming_more, naming_all}
use Rattle.judgement_rows.proofs.places.Place.under_all.Goals as goal

pub loop-name-init : goal.loop-name-init
loop-name-init g c = naming_none _ _ c.requires

pub under_name-requires : goal.under_name-requires
under_name-requires g c = c.loop-name.invariant.context

pub loop-name-preserved : goal.loop-name-preserved
loop-name-preserved g c = naming_more c.requires c.loop-name.invariant c.under_name.ensures.kept c.in_ok-place.ensures.named

pub returns-in_err-place-clause-kept : goal.returns-in_err-place-clause-kept
returns-in_err-place-clause-kept g c = kept_then c.loop-name.invariant.kept c.under_name.ensures.kept

pub returns-clause-kept : goal.returns-clause-kept
returns-clause-kept g c = c.loop-name.invariant.kept

pub returns-clause-named : goal.returns-clause-named
returns-clause-named g c = naming_all c.loop-name.invariant.named (omega arith)
