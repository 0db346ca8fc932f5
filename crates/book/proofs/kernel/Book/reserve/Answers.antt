use Rattle.std.proofs.Common.{refl}
use Rattle.book.proofs.BookLaws.{extends-same}
use Rattle.book.proofs.kernel.Book.reserve.Goals as goal

pub returns-in_err-reserve-clause-extends : goal.returns-in_err-reserve-clause-extends
returns-in_err-reserve-clause-extends c = (extends-same _ _ _ c.self.view_is c.reserve.ensures.same refl).0

pub returns-in_err-reserve-clause-same : goal.returns-in_err-reserve-clause-same
returns-in_err-reserve-clause-same c = (extends-same _ _ _ c.self.view_is c.reserve.ensures.same refl).1

pub returns-in_err-reserve-2-clause-extends : goal.returns-in_err-reserve-2-clause-extends
returns-in_err-reserve-2-clause-extends c = (extends-same _ _ _ c.self.view_is c.reserve.ensures.same c.reserve-2.ensures.rows).0

pub returns-in_err-reserve-2-clause-same : goal.returns-in_err-reserve-2-clause-same
returns-in_err-reserve-2-clause-same c = (extends-same _ _ _ c.self.view_is c.reserve.ensures.same c.reserve-2.ensures.rows).1

pub returns-clause-extends : goal.returns-clause-extends
returns-clause-extends c = (extends-same _ _ _ c.self.view_is c.reserve.ensures.same c.reserve-2.ensures.rows).0

pub returns-clause-same : goal.returns-clause-same
returns-clause-same c = (extends-same _ _ _ c.self.view_is c.reserve.ensures.same c.reserve-2.ensures.rows).1
