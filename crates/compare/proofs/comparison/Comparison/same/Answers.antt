use Rattle.std.proofs.Common.{◌≡◌}
use Rattle.closures.specs.Shown.{lists}
use Rattle.compare.proofs.AskLaws.{asks-stand, asks-decides, none-stand}
use Rattle.compare.proofs.comparison.Comparison.same.Goals as goal

pub ask-requires-clause-stand : goal.ask-requires-clause-stand
ask-requires-clause-stand g c = none-stand (g.R.Rows.means c.args.rows.now) (lists c.clear.new.self.environments) 0 c.clear.new.self.pairs.keys c.clear.ensures

pub returns-then-not-branch : goal.returns-then-not-branch
returns-then-not-branch g c = (λ no. cc, λ e. absurd (c.in_ok-ask.ensures.no c.if-not-branch.true e))

pub agree-requires : goal.agree-requires
agree-requires g c =
    let f = g.R.Rows.means c.args.rows.now in
    asks-stand f (lists c.ask.new.self.environments) (f c.args.left ≡ f c.args.right) c.clear.new.self.pairs.keys c.ask.new.self.pairs.keys c.clear.ensures (c.in_ok-ask.ensures.yes c.if-not-branch.false)

pub returns : goal.returns
returns g c =
    let f = g.R.Rows.means c.args.rows.now in
    asks-decides f (lists c.ask.new.self.environments) (f c.args.left ≡ f c.args.right) c.clear.new.self.pairs.keys c.ask.new.self.pairs.keys _ c.clear.ensures (c.in_ok-ask.ensures.yes c.if-not-branch.false) c.in_ok-agree.ensures
