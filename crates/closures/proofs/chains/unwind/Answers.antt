use Rattle.std.proofs.Common.{◌≡◌, [], ◌∷◌, reverse, ◌∙◌, ap, subst}
use Rattle.closures.specs.Chains.{Ends}
use Rattle.closures.proofs.ChainLaws.{notes-right, waits-less, none-wait}
use Rattle.closures.proofs.chains.unwind.Goals as goal

pub loop-wait-init : goal.loop-wait-init
loop-wait-init c = λ f root right ends. (right, ends)

pub loop-wait-preserved : goal.loop-wait-preserved
loop-wait-preserved c = λ f root right ends.
    let now = c.loop-wait.invariant f root right ends in
    let rest = reverse c.pop.new.self.items in
    let order = waits-less c.loop-wait.waits.items c.pop.new.self.items c.in-Some.wait c.in-Some.ensures.items ∙ ap (λ w. w ∷ rest) c.in-Note.is in
    let e = subst (λ ws. Ends f root ws c.args.index) order now.1 in
    (notes-right f c.in-Note.at c.args.index c.loop-wait.notes c.insert.new.self c.in_ok-insert-in-Note.ensures e.0 now.0, e.1)

pub returns-in-Next-clause-right : goal.returns-in-Next-clause-right
returns-in-Next-clause-right c = λ f root right ends. (c.loop-wait.invariant f root right ends).0

pub returns-in-Next-clause-sent : goal.returns-in-Next-clause-sent
returns-in-Next-clause-sent c = λ f root right ends.
    let now = c.loop-wait.invariant f root right ends in
    let rest = reverse c.pop.new.self.items in
    let order = waits-less c.loop-wait.waits.items c.pop.new.self.items c.in-Some.wait c.in-Some.ensures.items ∙ ap (λ w. w ∷ rest) c.in-Next.is in
    let e = subst (λ ws. Ends f root ws c.args.index) order now.1 in
    record { stands = e.0; ends = e.1 }

pub returns-clause-right : goal.returns-clause-right
returns-clause-right c = λ f root right ends. (c.loop-wait.invariant f root right ends).0

pub returns-clause-sent : goal.returns-clause-sent
returns-clause-sent c = λ f root right ends.
    let none : reverse c.loop-wait.waits.items ≡ [] = none-wait c.loop-wait.waits.items c.loop-wait.waits.len c.loop-wait.waits.ok.0 c.in_default.ensures.cases.0 in
    subst (λ ws. Ends f root ws c.args.index) none (c.loop-wait.invariant f root right ends).1
