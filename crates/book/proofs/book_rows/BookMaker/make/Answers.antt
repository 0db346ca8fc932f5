use Rattle.rows.proofs.TableLaws.{grows-same}
use Rattle.interned.specs.Shown.{things}
use Rattle.book.proofs.FitLaws.{sound-kept}
use Rattle.book.proofs.BookLaws.{extends-along}
use Rattle.book.proofs.book_rows.BookMaker.make.Goals as goal

pub invariant_of-self : goal.invariant_of-self
invariant_of-self c = sound-kept (things c.self.inside.rows) (things c.make.new.self) c.self.inside.nodes.rows c.self.inside.sides c.make.ensures.kept c.self.invariant

pub returns-in_err-make-clause-extends : goal.returns-in_err-make-clause-extends
returns-in_err-make-clause-extends c = extends-along _ _ _ c.self.view_is c.make.ensures.kept (grows-same c.self.inside.nodes.rows)

pub invariant_of-self-2 : goal.invariant_of-self-2
invariant_of-self-2 c = sound-kept (things c.self.inside.rows) (things c.make.new.self) c.self.inside.nodes.rows c.self.inside.sides c.make.ensures.kept c.self.invariant

pub returns-clause-extends : goal.returns-clause-extends
returns-clause-extends c = extends-along _ _ _ c.self.view_is c.make.ensures.kept (grows-same c.self.inside.nodes.rows)
