use Rattle.std.proofs.Common.{ap, arith}
use Rattle.rows.specs.declared.views.CtxId.{CtxId}
use Rattle.side_conditions.specs.declared.reading.Detail.TheVariants as detail
use Rattle.side_conditions.specs.Readings.{IsValued}
use Rattle.side_conditions.proofs.KeptLaws.{stands-self}
use Rattle.side_conditions.proofs.RememberedLaws.{kept-nothing}
use Rattle.side_conditions.proofs.asked.Asked.read.Goals as goal

pub returns-clause-asked : goal.returns-clause-asked
returns-clause-asked g c =
    let f = g.R.Rows.means c.args.rows.now in
    let faces = c.in_ok-read.field-0 in
    record {
      stands = stands-self f c.args.ctx faces c.in_ok-read.ensures;
      kinds = kept-nothing (IsValued detail.Kind) f faces.names.items c.new.result c.new.ensures.nothing c.new.ensures.alone;
      values = kept-nothing (IsValued detail.Value) f faces.names.items c.new-2.result c.new-2.ensures.nothing c.new-2.ensures.alone;
    }

pub returns-clause-stays : goal.returns-clause-stays
returns-clause-stays g c = λ mark below.
    let ctx = ap (λ (x : CtxId). x.0) c.in_ok-read.ensures.row_is in
    let kinds = c.new.ensures.mark in
    let values = c.new-2.ensures.mark in
    record { ctx = omega arith; kinds = omega arith; values = omega arith }
