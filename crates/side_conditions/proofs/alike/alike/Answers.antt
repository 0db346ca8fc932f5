use Rattle.std.proofs.Common.{[], refl}
use Rattle.closures.specs.Shown.{lists}
use Rattle.closures.specs.Closures.{subst_of}
use Rattle.compare.proofs.AskLaws.{asks-stand, asks-decides}
use Rattle.conditions.specs.Sides.{AlikeIn}
use Rattle.side_conditions.specs.Contexts.{context_of}
use Rattle.side_conditions.proofs.alike.alike.Goals as goal

pub all_agree-requires : goal.all_agree-requires
all_agree-requires g c =
    let f = g.R.Rows.means c.args.rows.now in
    let alike = AlikeIn (context_of (f c.args.faces.now.ctx.0)) (subst_of (f c.args.left.0)) (subst_of (f c.args.right.0)) in
    asks-stand f (lists c.ask_places.new.environments) alike [] c.ask_places.new.pairs.keys refl (c.in_ok-ask_places.ensures.yes c.if-not-branch.false)

pub returns-clause-alike : goal.returns-clause-alike
returns-clause-alike g c =
    let f = g.R.Rows.means c.args.rows.now in
    let alike = AlikeIn (context_of (f c.args.faces.now.ctx.0)) (subst_of (f c.args.left.0)) (subst_of (f c.args.right.0)) in
    asks-decides f (lists c.ask_places.new.environments) alike [] c.ask_places.new.pairs.keys c.in_ok-all_agree.field-0 refl (c.in_ok-ask_places.ensures.yes c.if-not-branch.false) c.in_ok-all_agree.ensures

pub returns-then-not-branch-clause-alike : goal.returns-then-not-branch-clause-alike
returns-then-not-branch-clause-alike g c = (λ yes. cc, λ alike. absurd (c.in_ok-ask_places.ensures.no c.if-not-branch.true alike))
