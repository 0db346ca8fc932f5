use Rattle.std.proofs.Common.{◌≡◌, ◌∙◌, length, arith, sym}
use Rattle.std.proofs.lemmas.Bool.Decides.{nat_tests}
use Rattle.syntax.specs.View.{tree_of}
use Rattle.productions.specs.Grammar.{from}
use Rattle.parser_expressions.proofs.Places.{some_applied}
use Rattle.parser_expressions.proofs.slots.applied.Goals as goal

pub returns : goal.returns
returns c =
    let s = c.into_inner-room.result in
    let some : length c.into_inner-room.result.elements.items.items ≡ 0 → ⊥ = λ none. grind (arith, nat_tests, c.if-is_empty.false, c.is_empty.ensures, c.as_slice.ensures, none) in
    rw (sym c.into_inner-room.ensures)
    ((rw c.spanned.ensures at c.in_ok-apply.ensures) ∙ some_applied (from s.start c.args.past) (tree_of s.head) s.elements.items.items some)
