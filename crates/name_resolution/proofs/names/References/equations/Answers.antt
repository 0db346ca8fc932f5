use Rattle.std.proofs.Common.{◌+◌, ◌<◌, take, get_or, length, arith}
use Rattle.std.proofs.lemmas.List.{take_more}
use Rattle.syntax.specs.declared.formula.End.TheVariants as end
use Rattle.syntax.specs.declared.formula.Equation.{Equation}
use Rattle.name_resolution.proofs.Parts.{equations_step, equations_named_more}
use Rattle.name_resolution.proofs.names.References.equations.Goals as goal

pub loop-equation-preserved : goal.loop-equation-preserved
loop-equation-preserved c =
    let bytes = c.args.self.now.bytes.now in
    let es = c.args.equations.now in
    let i = c.loop-equation.equation-index in
    let past : Equation = record { name = record { start = 0; end = 0 }; end = end.Zero } in
    let within : i < length es = omega arith in
    let more = take_more es i past within in
    let before = c.loop-equation.invariant in
    record {
      resolves =
          equations_step bytes c.args.place.now c.loop-equation.place c.interval.new.place (take i es) (take (i + 1) es) c.loop-equation.resolved.items c.push.new.self.items (get_or es i past)
          c.interval.result before.resolves c.interval.ensures.resolves more c.in_ok-push.ensures.items;
      named =
          equations_named_more bytes c.args.place.now c.loop-equation.place (take i es) (take (i + 1) es) c.loop-equation.resolved.items c.push.new.self.items (get_or es i past) c.interval.result
          before.named before.resolves.keeps.names c.interval.ensures.named more c.in_ok-push.ensures.items;
    }
