use Rattle.std.proofs.Common.{subst, sym}
use Rattle.trees.specs.Judgements.{Nil, trees}
use Rattle.trees.specs.Language.{Tm}
use Rattle.rules.specs.Table.{app, at}
use Rattle.typed_nodes.specs.Typed.{Says}
use Rattle.typed_nodes.proofs.GrowthLaws.{says_later, family_later}
use Rattle.literal_types.specs.Literal.{IsLiteral}
use Rattle.literal_types.proofs.GrowthLaws.{extends_extends}
use Rattle.behind_tests.proofs.TelescopeLaws.{domain_at}
use Rattle.behind_tests.proofs.telescope.applied_to.Goals as goal

pub literal-requires : goal.literal-requires
literal-requires c =
    let (t, T, typed) = c.requires.function in
    (Nil, T, typed.type_at)

pub type_row-ty-requires : goal.type_row-ty-requires
type_row-ty-requires c =
    let (a, S, says) = c.requires.argument in
    (Nil, a, S, says_later _ _ c.args.argument (Tm Nil a S) c.in_ok-family.ensures.extends says)

pub is_row-requires : goal.is_row-requires
is_row-requires c =
    let (t, T, typed) = c.requires.function in
    let (a, S, says) = c.requires.argument in
    let e = c.in_ok-family.ensures in
    let (A, B, is, parts) = subst (λ l. IsLiteral c.literal.new.book l Nil T) c.in-Pi.is (e.literal Nil T typed.type_at) in
    let row = c.type_row-ty.ensures Nil a S (says_later _ _ c.args.argument (Tm Nil a S) e.extends says) in
    (Nil, A, S, domain_at c.literal.new.book c.in-Pi.family Nil A B parts, row)

pub returns-in_err-is_row-clause-extends : goal.returns-in_err-is_row-clause-extends
returns-in_err-is_row-clause-extends c =
    extends_extends c.in_ok-family.ensures.extends c.in_err-is_row.ensures.extends

pub applied-requires : goal.applied-requires
applied-requires c =
    let (t, T, typed) = c.requires.function in
    let (a, S, says) = c.requires.argument in
    let e = c.in_ok-family.ensures in
    let (A, B, is, parts) = subst (λ l. IsLiteral c.literal.new.book l Nil T) c.in-Pi.is (e.literal Nil T typed.type_at) in
    let row = c.type_row-ty.ensures Nil a S (says_later _ _ c.args.argument (Tm Nil a S) e.extends says) in
    let r = c.in_ok-is_row.ensures in
    let grown = extends_extends e.extends r.extends in
    let same = (r.same Nil A S (domain_at c.literal.new.book c.in-Pi.family Nil A B parts) row).0 c.if-branch.true in
    let parts_later = family_later _ _ c.in-Pi.family Nil A B r.extends parts in
    let function_later = subst (λ X. Says c.is_row.new.book c.args.function.term (Tm Nil t X)) is (says_later _ _ c.args.function.term (Tm Nil t T) grown typed.term_is) in
    let argument_later = subst (λ X. Says c.is_row.new.book c.args.argument (Tm Nil a X)) (sym same) (says_later _ _ c.args.argument (Tm Nil a S) grown says) in
    (Nil, A, B, t, a, parts_later, function_later, argument_later)

pub returns-in_err-applied-clause-extends : goal.returns-in_err-applied-clause-extends
returns-in_err-applied-clause-extends c =
    extends_extends (extends_extends c.in_ok-family.ensures.extends c.in_ok-is_row.ensures.extends) c.in_err-applied.ensures.extends

pub returns-then-branch-clause-extends : goal.returns-then-branch-clause-extends
returns-then-branch-clause-extends c =
    extends_extends (extends_extends c.in_ok-family.ensures.extends c.in_ok-is_row.ensures.extends) c.in_ok-applied.ensures.extends

pub returns-then-branch-clause-typed : goal.returns-then-branch-clause-typed
returns-then-branch-clause-typed c =
    let (t, T, typed) = c.requires.function in
    let (a, S, says) = c.requires.argument in
    let e = c.in_ok-family.ensures in
    let (A, B, is, parts) = subst (λ l. IsLiteral c.literal.new.book l Nil T) c.in-Pi.is (e.literal Nil T typed.type_at) in
    let row = c.type_row-ty.ensures Nil a S (says_later _ _ c.args.argument (Tm Nil a S) e.extends says) in
    let r = c.in_ok-is_row.ensures in
    let grown = extends_extends e.extends r.extends in
    let same = (r.same Nil A S (domain_at c.literal.new.book c.in-Pi.family Nil A B parts) row).0 c.if-branch.true in
    let parts_later = family_later _ _ c.in-Pi.family Nil A B r.extends parts in
    let function_later = subst (λ X. Says c.is_row.new.book c.args.function.term (Tm Nil t X)) is (says_later _ _ c.args.function.term (Tm Nil t T) grown typed.term_is) in
    let argument_later = subst (λ X. Says c.is_row.new.book c.args.argument (Tm Nil a X)) (sym same) (says_later _ _ c.args.argument (Tm Nil a S) grown says) in
    (app trees t a, at trees B a, c.in_ok-applied.ensures.typed Nil A B t a parts_later function_later argument_later)

pub returns-clause-extends : goal.returns-clause-extends
returns-clause-extends c =
    extends_extends c.in_ok-family.ensures.extends c.in_ok-is_row.ensures.extends
