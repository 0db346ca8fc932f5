use Rattle.std.proofs.Common.{◌≡◌}
use Rattle.evidence.specs.declared.aligned.TypesEquation.{TypesEquation}
use Rattle.evidence.proofs.AlignedLaws.{is_of_types, told_of_types}
use Rattle.evidence.proofs.aligned.types_of.Goals as goal

pub returns-in-TyEq : goal.returns-in-TyEq
returns-in-TyEq c = λ e is.
    let it : TypesEquation = record { ctx = record { 0 = c.in-TyEq.ctx }; left = record { 0 = c.in-TyEq.left }; right = record { 0 = c.in-TyEq.right } } in
    let same : it ≡ e = cc in
    told_of_types c.args.book.now c.args.equation.0 it e same (is_of_types c.args.book.now c.args.equation.0 c.in-TyEq.ctx c.in-TyEq.left c.in-TyEq.right c.in-TyEq.ensures (c.is_node.ensures.concludes.0 c.if-not-is_node.false))
