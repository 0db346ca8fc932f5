use Rattle.std.proofs.Common.{◌≡◌, ◌+◌, ◌-◌, ◌∷◌, ◌∙◌, ap, arith}
use Rattle.closures.specs.Environments.{waiting}
use Rattle.closures.specs.Closures.{variable_meaning}
use Rattle.closures.specs.declared.environments.Delayed.TheVariants.{Under}
use Rattle.closures.specs.Chains.{Sends}
use Rattle.closures.proofs.chains.chained.Goals as goal

pub returns-in-Some-clause-meaning : goal.returns-in-Some-clause-meaning
returns-in-Some-clause-meaning g c = λ ws.
    let f = g.R.Rows.means c.args.rows.now in
    let lift = c.args.lift in
    let same = c.from-lift.ensures in
    let i = c.args.index - c.from-lift.result in
    let s : Sends f c.args.subst i c.in-Some.past = rw c.in-Some.is at c.in_ok-past.ensures in
    ap (variable_meaning f (waiting lift (Under c.args.subst) ∷ ws)) (let e : c.args.index ≡ lift + i = omega (arith, same, c.requires.above) in e)
    ∙ s.sends lift ws
    ∙ ap (variable_meaning f ws) (let e : lift + c.in-Some.past ≡ c.in-Some.past + c.from-lift.result = omega (arith, same) in e)
