use Rattle.std.proofs.Common.{reverse, sym, subst}
use Rattle.closures.specs.Chains.{Leads, SentBack}
use Rattle.closures.specs.declared.notes.Source.TheVariants as source
use Rattle.closures.proofs.ChainLaws.{leads-root, none-right}
use Rattle.closures.proofs.chains.sent_to.Goals as goal

pub loop-init : goal.loop-init
loop-init g c =
    let f = g.R.Rows.means c.args.rows.now in (
      subst (λ ws. Leads f (source.Entry c.args.subst c.args.index) (reverse ws) (source.Entry c.args.subst c.args.index)) (sym c.new-waits.ensures.items) (leads-root f (source.Entry c.args.subst c.args.index) c.requires),
      none-right f c.new-notes.result c.new-notes.ensures,
    )

pub advance-requires-clause-stands : goal.advance-requires-clause-stands
advance-requires-clause-stands g c = c.loop.invariant.0.stands

pub advance-requires-clause-right : goal.advance-requires-clause-right
advance-requires-clause-right g c = c.loop.invariant.1

pub returns-in-To : goal.returns-in-To
returns-in-To g c =
    let f = g.R.Rows.means c.args.rows.now in
    subst (SentBack f (source.Entry c.args.subst c.args.index) (reverse c.advance.new.waits.items)) c.in-To.is (c.in_ok-index.ensures.sent (source.Entry c.args.subst c.args.index) c.loop.invariant.0)

pub loop-preserved : goal.loop-preserved
loop-preserved g c =
    let f = g.R.Rows.means c.args.rows.now in (
      subst (SentBack f (source.Entry c.args.subst c.args.index) (reverse c.advance.new.waits.items)) c.in-On.is (c.in_ok-index.ensures.sent (source.Entry c.args.subst c.args.index) c.loop.invariant.0),
      c.in_ok-index.ensures.right (source.Entry c.args.subst c.args.index) c.loop.invariant.0,
    )
