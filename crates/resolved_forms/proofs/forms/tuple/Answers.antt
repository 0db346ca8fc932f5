use Rattle.std.proofs.Common.{◌≡◌, ◌∙◌, length, arith}
use Rattle.resolved_forms.proofs.Shaping.{tuple_many}
use Rattle.resolved_forms.proofs.forms.tuple.Goals as goal

pub returns-then-len-ne1-clause-shaped : goal.returns-then-len-ne1-clause-shaped
returns-then-len-ne1-clause-shaped c =
    let many : length c.args.components.items ≡ 1 → ⊥ = λ e. let l = c.args.components.ok.0 in let n = c.len.ensures in let f = c.if-len-ne1.true in omega arith in
    c.tuple.ensures.shaped ∙ tuple_many c.args.span c.args.components.items many
