use Rattle.std.proofs.Common.{◌∷◌, length, sym, ap, ◌∙◌, arith}
use Rattle.resolved_forms.proofs.Slices.{front_one, rest_after}
use Rattle.resolved_forms.proofs.arguments.first_argument.Goals as goal

pub returns-in-empty : goal.returns-in-empty
returns-in-empty c e rest h = let l = ap length h in omega (arith, c.in-empty.len_below, l)

pub returns-in-Argument : goal.returns-in-Argument
returns-in-Argument c =
    front_one c.args.elements.now c.first-item.result c.in-len1-up.len_at_least c.first-item.is ∙ ap (λ x. x ∷ rest_after 1 c.args.elements.now) c.in-Argument.is

pub returns-in-At : goal.returns-in-At
returns-in-At c e rest h =
    let all = sym (front_one c.args.elements.now c.first-item.result c.in-len1-up.len_at_least c.first-item.is) ∙ h in
    let i = c.in-At.is in cc
