use Rattle.judgement_rows.proofs.PlaceLaws.{Naming}
use Rattle.judgement_rows.proofs.places.Place.under_all.Given as goal

abbrev pub invariant-loop-name : goal.invariant-loop-name
invariant-loop-name g l = Naming (g.M.Rows.means l.fn.maker) (g.M.Rows.means l.maker) l.fn.self l._name l.place
