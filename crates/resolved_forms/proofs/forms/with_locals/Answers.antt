use Rattle.codes.specs.Shapes.{shape}
use Rattle.codes.proofs.ShapeRows.{some_items}
use Rattle.resolved_forms.proofs.Shaping.{after_block}
use Rattle.resolved_forms.proofs.forms.with_locals.Goals as goal

pub returns-clause-shaped : goal.returns-clause-shaped
returns-clause-shaped c =
    after_block c.args.span c.args.locals.items (shape c.args.body) c.let_in.result
    (some_items c.args.locals.items c.args.locals.len c.args.locals.ok.0 c.if-is_empty.ensures) c.let_in.ensures.shaped
