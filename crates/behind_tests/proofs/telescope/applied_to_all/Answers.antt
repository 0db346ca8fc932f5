use Rattle.std.proofs.Common.{Option, subst}
use Rattle.std.specs.Prelude.{MatchOption}
use Rattle.trees.specs.Judgements.{Nil, trees}
use Rattle.trees.specs.Language.{Ctx, Tm}
use Rattle.rules.specs.Table.{nat, universe, zero}
use Rattle.typed_nodes.specs.declared.types.Typed.{Typed}
use Rattle.typed_nodes.proofs.GrowthLaws.{says_later}
use Rattle.literal_types.proofs.GrowthLaws.{extends_extends}
use Rattle.behind_tests.specs.Telescopes.{IsTypedClosed}
use Rattle.behind_tests.proofs.TelescopeLaws.{term_later}
use Rattle.behind_tests.proofs.telescope.applied_to_all.Goals as goal

pub typed_of-requires : goal.typed_of-requires
typed_of-requires c = term_later _ _ c.args.function Nil (extends_extends (extends_extends c.in_ok-ctx.ensures.extends c.in_ok-numbers.ensures.extends) c.in_ok-number.ensures.extends) c.requires

pub loop-init : goal.loop-init
loop-init c =
    let e = c.in_ok-typed.ensures in
    let ctx = c.in_ok-ctx.ensures.typed in
    let number_ctx = says_later _ _ c.in_ok-ctx.ctx (Ctx Nil) c.in_ok-numbers.ensures.extends ctx in
    let numbers = says_later _ _ c.in_ok-numbers.numbers (Tm Nil (nat trees) (universe trees)) (extends_extends c.in_ok-number.ensures.extends e.extends) ((c.in_ok-numbers.ensures.typed Nil ctx).0) in
    let number = says_later _ _ c.in_ok-number.number (Tm Nil (zero trees) (nat trees)) e.extends (c.in_ok-number.ensures.typed Nil number_ctx) in
    (e.typed, (nat trees, universe trees, numbers), (zero trees, nat trees, number))

pub loop-preserved : goal.loop-preserved
loop-preserved c =
    let (typed, numbers, number) = c.loop.invariant in
    let e = c.in_ok-next.ensures in
    (subst (λ (found : Option Typed). MatchOption found (Unit {0}) (IsTypedClosed c.applied_to_both.new.book)) c.in-Some.is e.typed, term_later _ _ c.in_ok-numbers.numbers Nil e.extends numbers, term_later _ _ c.in_ok-number.number Nil e.extends number)
