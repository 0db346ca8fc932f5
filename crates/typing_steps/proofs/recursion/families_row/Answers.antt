use Rattle.std.specs.Option.{IsSome}
use Rattle.std.proofs.Common.{refl, sym, ◌∙◌, subst}
use Rattle.translation.specs.Terms.{nat, universe}
use Rattle.book.specs.Shown.{book_means}
use Rattle.typed_contexts.proofs.GrowthLaws.{further}
use Rattle.typing_steps.proofs.LineLaws.{pi_row}
use Rattle.typing_steps.proofs.recursion.families_row.Goals as goal

pub make-requires-3 : goal.make-requires-3
make-requires-3 c =
    let numbers = c.in_ok-universe.ensures.extends.rows.keeps _ _ c.in_ok-numbers.ensures.meaning in
    subst IsSome (sym (pi_row (book_means c.make-2.new.self) c.in_ok-numbers.numbers c.in_ok-universe.universe nat universe numbers c.in_ok-universe.ensures.meaning)) refl

pub returns-clause-meaning : goal.returns-clause-meaning
returns-clause-meaning c =
    let numbers = c.in_ok-universe.ensures.extends.rows.keeps _ _ c.in_ok-numbers.ensures.meaning in
    c.in_ok-make.ensures.meaning ∙ pi_row (book_means c.make-2.new.self) c.in_ok-numbers.numbers c.in_ok-universe.universe nat universe numbers c.in_ok-universe.ensures.meaning

pub returns-in_err-universe-clause-extends : goal.returns-in_err-universe-clause-extends
returns-in_err-universe-clause-extends c = further c.in_ok-numbers.ensures.extends c.make-2.ensures.extends

pub returns-in_err-make-clause-extends : goal.returns-in_err-make-clause-extends
returns-in_err-make-clause-extends c = further (further c.in_ok-numbers.ensures.extends c.in_ok-universe.ensures.extends) c.make-3.ensures.extends

pub returns-clause-extends : goal.returns-clause-extends
returns-clause-extends c = further (further c.in_ok-numbers.ensures.extends c.in_ok-universe.ensures.extends) c.in_ok-make.ensures.extends
