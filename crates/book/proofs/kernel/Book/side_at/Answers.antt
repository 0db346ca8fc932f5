use Rattle.std.proofs.Common.{refl}
use Rattle.interned.specs.Shown.{things}
use Rattle.book.proofs.FitLaws.{sound-kept, adds-along}
use Rattle.book.proofs.kernel.Book.side_at.Goals as goal

pub invariant_of-self : goal.invariant_of-self
invariant_of-self c = sound-kept (things c.self.inside.rows) (things c.side.new.maker) c.self.inside.nodes.rows c.self.inside.sides c.side.ensures.kept c.self.invariant

pub returns-in_err-side-clause-adds : goal.returns-in_err-side-clause-adds
returns-in_err-side-clause-adds c = adds-along _ _ _ c.self.view_is c.self.invariant.right c.side.ensures.kept refl

pub invariant_of-self-2 : goal.invariant_of-self-2
invariant_of-self-2 c = sound-kept (things c.self.inside.rows) (things c.side.new.maker) c.self.inside.nodes.rows c.self.inside.sides c.side.ensures.kept c.self.invariant

pub returns-clause-adds : goal.returns-clause-adds
returns-clause-adds c = adds-along _ _ _ c.self.view_is c.self.invariant.right c.side.ensures.kept refl
