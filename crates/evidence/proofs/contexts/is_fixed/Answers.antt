use Rattle.std.proofs.Common.{◌≡◌, ◌∙◌, Some}
use Rattle.trees.specs.Trees.{Var}
use Rattle.trees.specs.Things.{ATree}
use Rattle.conditions.specs.Formulas.{eq0, eq1}
use Rattle.side_conditions.specs.Contexts.{context_of}
use Rattle.book.specs.Shown.{Extends, book_means}
use Rattle.evidence.proofs.GrowthLaws.{further, same_context}
use Rattle.evidence.proofs.HeldLaws.{fixed_at_one, held, made_one, made_zero}
use Rattle.evidence.proofs.contexts.is_fixed.Goals as goal

pub returns-in_err-zero-clause-extends : goal.returns-in_err-zero-clause-extends
returns-in_err-zero-clause-extends c = further c.var.ensures.extends c.make.ensures.extends

pub returns-in_err-holds-clause-extends : goal.returns-in_err-holds-clause-extends
returns-in_err-holds-clause-extends c = further c.var.ensures.extends c.make.ensures.extends

pub returns-then-branch-clause-extends : goal.returns-then-branch-clause-extends
returns-then-branch-clause-extends c = further c.var.ensures.extends c.make.ensures.extends

pub returns-in_err-one-clause-extends : goal.returns-in_err-one-clause-extends
returns-in_err-one-clause-extends c = further (further c.var.ensures.extends c.make.ensures.extends) c.make-2.ensures.extends

pub returns-in_err-holds-2-clause-extends : goal.returns-in_err-holds-2-clause-extends
returns-in_err-holds-2-clause-extends c = further (further c.var.ensures.extends c.make.ensures.extends) c.make-2.ensures.extends

pub returns-clause-extends : goal.returns-clause-extends
returns-clause-extends c = further (further c.var.ensures.extends c.make.ensures.extends) c.make-2.ensures.extends

pub returns-clause-fixed : goal.returns-clause-fixed
returns-clause-fixed c =
    let k = c.args.index in
    let first = book_means c.args.book.now in
    let second = book_means c.make.new.self in
    let third = book_means c.make-2.new.self in
    let ctx = c.args.ctx.0 in
    let row = c.in_ok-name.name in
    let grown : Extends c.args.book.now c.make.new.self = further c.var.ensures.extends c.make.ensures.extends in
    let all : Extends c.args.book.now c.make-2.new.self = further grown c.make-2.ensures.extends in
    let name = c.in_ok-name.ensures.meaning in
    let later : second row ≡ Some (ATree (Var k)) = c.make.ensures.extends.rows.keeps row (ATree (Var k)) name in
    let zero_is : second c.in_ok-zero.zero ≡ Some (ATree (eq0 (Var k))) = c.in_ok-zero.ensures.meaning ∙ made_zero (book_means c.var.new.self row) k name in
    let one_is : third c.in_ok-one.one ≡ Some (ATree (eq1 (Var k))) = c.in_ok-one.ensures.meaning ∙ made_one (second row) k later in
    fixed_at_one (context_of (first ctx)) k c.in_ok-holds.field-0 c.in_ok-holds-2.field-0 c.if-branch.false
    (held c.in_ok-holds.field-0 (second ctx) (first ctx) (second c.in_ok-zero.zero) (eq0 (Var k)) (same_context grown ctx c.requires) zero_is c.in_ok-holds.ensures)
    (held c.in_ok-holds-2.field-0 (third ctx) (first ctx) (third c.in_ok-one.one) (eq1 (Var k)) (same_context all ctx c.requires) one_is c.in_ok-holds-2.ensures)
