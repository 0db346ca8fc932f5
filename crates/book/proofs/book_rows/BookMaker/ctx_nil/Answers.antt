use Rattle.rows.proofs.TableLaws.{grows-same}
use Rattle.interned.specs.Shown.{things}
use Rattle.book.proofs.FitLaws.{sound-kept}
use Rattle.book.proofs.BookLaws.{extends-along}
use Rattle.book.proofs.book_rows.BookMaker.ctx_nil.Goals as goal

pub invariant_of-self : goal.invariant_of-self
invariant_of-self c = sound-kept (things c.self.inside.rows) (things c.ctx_nil.new.self) c.self.inside.nodes.rows c.self.inside.sides c.ctx_nil.ensures.kept c.self.invariant

pub returns-in_err-ctx_nil-clause-extends : goal.returns-in_err-ctx_nil-clause-extends
returns-in_err-ctx_nil-clause-extends c = extends-along _ _ _ c.self.view_is c.ctx_nil.ensures.kept (grows-same c.self.inside.nodes.rows)

pub invariant_of-self-2 : goal.invariant_of-self-2
invariant_of-self-2 c = sound-kept (things c.self.inside.rows) (things c.ctx_nil.new.self) c.self.inside.nodes.rows c.self.inside.sides c.ctx_nil.ensures.kept c.self.invariant

pub returns-clause-extends : goal.returns-clause-extends
returns-clause-extends c = extends-along _ _ _ c.self.view_is c.ctx_nil.ensures.kept (grows-same c.self.inside.nodes.rows)
