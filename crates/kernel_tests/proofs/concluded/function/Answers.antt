use Rattle.std.proofs.Common.{refl}
use Rattle.trees.specs.Judgements.{trees}
use Rattle.trees.specs.Language.{Tm}
use Rattle.rules.specs.Table.{lam, pi}
use Rattle.book.proofs.TestLaws.{lam-use, lam-shifts}
use Rattle.kernel_tests.proofs.concluded.function.Goals as goal

pub conclude-requires-clause-right : goal.conclude-requires-clause-right
conclude-requires-clause-right g c =
    let r = c.requires in
    let i = c.in-Ty-Tm in
    (Tm r.0 (lam trees r.1 r.2) (pi trees r.1 r.3), lam-use c.args.book.now c.args.domain.0 c.args.body.0 r.0 r.1 r.2 r.3 r.4 r.5 i.ctx i.ty i.field-0-1 i.term i.to i.ensures i.ensures' c.of.result c.of.ensures c.of-2.result c.of-2.ensures)

pub conclude-requires-clause-shifts : goal.conclude-requires-clause-shifts
conclude-requires-clause-shifts g c =
    let r = c.requires in
    let i = c.in-Ty-Tm in
    lam-shifts c.args.book.now c.args.domain.0 c.args.body.0 r.0 r.1 r.2 r.3 r.4 r.5 i.ctx i.ty i.field-0-1 i.term i.to i.ensures i.ensures' c.of.result c.of.ensures

pub returns-clause-there : goal.returns-clause-there
returns-clause-there g c =
    let r = c.requires in
    let i = c.in-Ty-Tm in
    let J = Tm r.0 (lam trees r.1 r.2) (pi trees r.1 r.3) in
    let there = c.in_ok-conclude.ensures.concludes J (lam-use c.args.book.now c.args.domain.0 c.args.body.0 r.0 r.1 r.2 r.3 r.4 r.5 i.ctx i.ty i.field-0-1 i.term i.to i.ensures i.ensures' c.of.result c.of.ensures c.of-2.result c.of-2.ensures) in
    rw there refl
