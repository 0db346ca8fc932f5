use Rattle.std.proofs.Common.{◌≡◌}
use Rattle.evidence.specs.declared.sides.Side.{Side}
use Rattle.evidence.specs.declared.sides.Sort.TheVariants as sort
use Rattle.evidence.proofs.SideLaws.{of_terms, of_types, told_as}
use Rattle.evidence.proofs.sides.right_side.Goals as goal

pub returns-in-TyEq : goal.returns-in-TyEq
returns-in-TyEq c = λ s is.
    let it : Side = record { sort = sort.Types; ctx = record { 0 = c.in-TyEq.ctx }; right = record { 0 = c.in-TyEq.right } } in
    let same : it ≡ s = cc in
    told_as c.args.book.now c.args.equation.0 it s same (of_types c.args.book.now c.args.equation.0 c.in-TyEq.ctx c.in-TyEq.field-1 c.in-TyEq.right c.in-TyEq.ensures (c.is_node.ensures.concludes.0 c.if-not-is_node.false))

pub returns-in-TmEq : goal.returns-in-TmEq
returns-in-TmEq c = λ s is.
    let it : Side = record { sort = sort.Terms; ctx = record { 0 = c.in-TmEq.ctx }; right = record { 0 = c.in-TmEq.right } } in
    let same : it ≡ s = cc in
    told_as c.args.book.now c.args.equation.0 it s same (of_terms c.args.book.now c.args.equation.0 c.in-TmEq.ctx c.in-TmEq.field-1 c.in-TmEq.right c.in-TmEq.field-3 c.in-TmEq.ensures (c.is_node.ensures.concludes.0 c.if-not-is_node.false))
