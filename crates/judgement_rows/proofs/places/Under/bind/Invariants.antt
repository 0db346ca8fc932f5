use Rattle.judgement_rows.proofs.PlaceLaws.{Binding}
use Rattle.judgement_rows.proofs.places.Under.bind.Given as goal

abbrev pub invariant-loop-name : goal.invariant-loop-name
invariant-loop-name g l = Binding (g.M.Rows.means l.fn.maker) (g.M.Rows.means l.maker) l.fn.self l.fn.ty l.here l.name l.self
