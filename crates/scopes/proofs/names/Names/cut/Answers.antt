use Rattle.std.proofs.Common.{◌<◌, length, arith}
use Rattle.std.proofs.lemmas.List.{length-drop}
use Rattle.scopes.proofs.Unbinding.{cut_more}
use Rattle.scopes.proofs.names.Names.cut.Goals as goal

pub loop-self-preserved : goal.loop-self-preserved
loop-self-preserved c =
    let some : 0 < length c.loop-self.self = omega arith in
    record {
      cut = cut_more c.args.self.now c.loop-self.self c.unbind.new.self c.loop-self.invariant.cut c.unbind.ensures some;
      above = simp (c.unbind.ensures, length-drop) (omega arith);
    }
