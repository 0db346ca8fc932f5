use Rattle.std.proofs.Common.{Some, refl, sym, ap, ap₂, ◌∙◌, subst, IsSome}
use Rattle.std.specs.Option.{option_and_then}
use Rattle.trees.specs.declared.op.Op.TheVariants as op
use Rattle.trees.specs.Things.{ATree, made}
use Rattle.translation.specs.Terms.{min, max}
use Rattle.conditions.specs.Sides.{is_formula}
use Rattle.codes.specs.declared.formula.Formula.{Formula}
use Rattle.form_rows.specs.Formulas.{formula_tree}
use Rattle.typed_contexts.proofs.GrowthLaws.{further}
use Rattle.typing_steps.proofs.HeadLaws.{found_means, second_none, both_pass, both_mean}
use Rattle.typing_steps.proofs.formulas.+formula_row.Goals as goal

pub make-requires-in-Negate : goal.make-requires-in-Negate
make-requires-in-Negate t c =
    rw (found_means c.formula_row.new.book c.in_ok-negated-in-Negate.field-0 c.in-Some.negated (formula_tree c.deref.result.now) c.in-Some.is c.in_ok-negated-in-Negate.ensures.means) refl

pub returns-in_err-make-in-Negate-clause-extends : goal.returns-in_err-make-in-Negate-clause-extends
returns-in_err-make-in-Negate-clause-extends t c = further c.formula_row.ensures.extends c.make-in-Negate.ensures.extends

pub returns-in_ok-make-in-Negate-clause-extends : goal.returns-in_ok-make-in-Negate-clause-extends
returns-in_ok-make-in-Negate-clause-extends t c = further c.formula_row.ensures.extends c.make-in-Negate.ensures.extends

pub returns-in_err-right-in-Meet-clause-extends : goal.returns-in_err-right-in-Meet-clause-extends
returns-in_err-right-in-Meet-clause-extends t c = further c.formula_row-in-Meet.ensures.extends c.formula_row-in-Meet-2.ensures.extends

pub returns-in_default-3-clause-extends : goal.returns-in_default-3-clause-extends
returns-in_default-3-clause-extends t c = further c.formula_row-in-Meet.ensures.extends c.formula_row-in-Meet-2.ensures.extends

pub returns-in_default-3-clause-row : goal.returns-in_default-3-clause-row
returns-in_default-3-clause-row t c =
    λ H place.
    let whole = ap formula_tree c.in-Meet.is ∙ ap₂ (λ (p q : Formula). min (formula_tree p) (formula_tree q)) (sym c.deref-in-Meet.ensures) (sym c.deref-in-Meet-2.ensures) in
    ap (is_formula H) whole ∙ second_none c.args.book.now c.formula_row-in-Meet.new.book c.formula_row-in-Meet-2.new.book c.args.places.now c.in_ok-left-in-Meet.field-0 c.in_ok-right-in-Meet.field-0 (formula_tree c.deref-in-Meet.result.now) (formula_tree c.deref-in-Meet-2.result.now) H c.formula_row-in-Meet.ensures.extends c.in_default-3.is c.in_ok-right-in-Meet.ensures.row place

pub make-requires-in-Meet : goal.make-requires-in-Meet
make-requires-in-Meet t c =
    subst (λ xs. IsSome (option_and_then (made op.Min) xs))
    (sym (both_mean c.args.book.now c.formula_row-in-Meet.new.book c.formula_row-in-Meet-2.new.book c.args.places.now c.in_ok-left-in-Meet.field-0 c.in_ok-right-in-Meet.field-0 (formula_tree c.deref-in-Meet.result.now) (formula_tree c.deref-in-Meet-2.result.now) c.in-Some-2.left c.in-Some-3.right c.formula_row-in-Meet-2.ensures.extends c.in-Some-2.is c.in-Some-3.is c.in_ok-left-in-Meet.ensures.means c.in_ok-right-in-Meet.ensures.means)) refl

pub returns-in_err-make-in-Meet-clause-extends : goal.returns-in_err-make-in-Meet-clause-extends
returns-in_err-make-in-Meet-clause-extends t c = further (further c.formula_row-in-Meet.ensures.extends c.formula_row-in-Meet-2.ensures.extends) c.make-in-Meet.ensures.extends

pub returns-in_ok-make-in-Meet-clause-extends : goal.returns-in_ok-make-in-Meet-clause-extends
returns-in_ok-make-in-Meet-clause-extends t c = further (further c.formula_row-in-Meet.ensures.extends c.formula_row-in-Meet-2.ensures.extends) c.make-in-Meet.ensures.extends

pub returns-in_ok-make-in-Meet-clause-row : goal.returns-in_ok-make-in-Meet-clause-row
returns-in_ok-make-in-Meet-clause-row t c =
    λ H place.
    let whole = ap formula_tree c.in-Meet.is ∙ ap₂ (λ (p q : Formula). min (formula_tree p) (formula_tree q)) (sym c.deref-in-Meet.ensures) (sym c.deref-in-Meet-2.ensures) in (
      ap (is_formula H) whole ∙ both_pass c.args.book.now c.formula_row-in-Meet.new.book c.formula_row-in-Meet-2.new.book c.args.places.now c.in_ok-left-in-Meet.field-0 c.in_ok-right-in-Meet.field-0 (formula_tree c.deref-in-Meet.result.now) (formula_tree c.deref-in-Meet-2.result.now) H c.in-Some-2.left c.in-Some-3.right c.formula_row-in-Meet.ensures.extends c.in-Some-2.is c.in-Some-3.is c.in_ok-left-in-Meet.ensures.row c.in_ok-right-in-Meet.ensures.row place,
      c.in_ok-make-in-Meet.ensures.meaning ∙ ap (option_and_then (made op.Min)) (both_mean c.args.book.now c.formula_row-in-Meet.new.book c.formula_row-in-Meet-2.new.book c.args.places.now c.in_ok-left-in-Meet.field-0 c.in_ok-right-in-Meet.field-0 (formula_tree c.deref-in-Meet.result.now) (formula_tree c.deref-in-Meet-2.result.now) c.in-Some-2.left c.in-Some-3.right c.formula_row-in-Meet-2.ensures.extends c.in-Some-2.is c.in-Some-3.is c.in_ok-left-in-Meet.ensures.means c.in_ok-right-in-Meet.ensures.means) ∙ ap (λ a. Some (ATree a)) (sym whole),
    )

pub returns-in_err-right-in-Join-clause-extends : goal.returns-in_err-right-in-Join-clause-extends
returns-in_err-right-in-Join-clause-extends t c = further c.formula_row-in-Join.ensures.extends c.formula_row-in-Join-2.ensures.extends

pub returns-in_default-5-clause-extends : goal.returns-in_default-5-clause-extends
returns-in_default-5-clause-extends t c = further c.formula_row-in-Join.ensures.extends c.formula_row-in-Join-2.ensures.extends

pub returns-in_default-5-clause-row : goal.returns-in_default-5-clause-row
returns-in_default-5-clause-row t c =
    λ H place.
    let whole = ap formula_tree c.in-Join.is ∙ ap₂ (λ (p q : Formula). max (formula_tree p) (formula_tree q)) (sym c.deref-in-Join.ensures) (sym c.deref-in-Join-2.ensures) in
    ap (is_formula H) whole ∙ second_none c.args.book.now c.formula_row-in-Join.new.book c.formula_row-in-Join-2.new.book c.args.places.now c.in_ok-left-in-Join.field-0 c.in_ok-right-in-Join.field-0 (formula_tree c.deref-in-Join.result.now) (formula_tree c.deref-in-Join-2.result.now) H c.formula_row-in-Join.ensures.extends c.in_default-5.is c.in_ok-right-in-Join.ensures.row place

pub make-requires-in-Join : goal.make-requires-in-Join
make-requires-in-Join t c =
    subst (λ xs. IsSome (option_and_then (made op.Max) xs))
    (sym (both_mean c.args.book.now c.formula_row-in-Join.new.book c.formula_row-in-Join-2.new.book c.args.places.now c.in_ok-left-in-Join.field-0 c.in_ok-right-in-Join.field-0 (formula_tree c.deref-in-Join.result.now) (formula_tree c.deref-in-Join-2.result.now) c.in-Some-4.left c.in-Some-5.right c.formula_row-in-Join-2.ensures.extends c.in-Some-4.is c.in-Some-5.is c.in_ok-left-in-Join.ensures.means c.in_ok-right-in-Join.ensures.means)) refl

pub returns-in_err-make-in-Join-clause-extends : goal.returns-in_err-make-in-Join-clause-extends
returns-in_err-make-in-Join-clause-extends t c = further (further c.formula_row-in-Join.ensures.extends c.formula_row-in-Join-2.ensures.extends) c.make-in-Join.ensures.extends

pub returns-in_ok-make-in-Join-clause-extends : goal.returns-in_ok-make-in-Join-clause-extends
returns-in_ok-make-in-Join-clause-extends t c = further (further c.formula_row-in-Join.ensures.extends c.formula_row-in-Join-2.ensures.extends) c.make-in-Join.ensures.extends

pub returns-in_ok-make-in-Join-clause-row : goal.returns-in_ok-make-in-Join-clause-row
returns-in_ok-make-in-Join-clause-row t c =
    λ H place.
    let whole = ap formula_tree c.in-Join.is ∙ ap₂ (λ (p q : Formula). max (formula_tree p) (formula_tree q)) (sym c.deref-in-Join.ensures) (sym c.deref-in-Join-2.ensures) in (
      ap (is_formula H) whole ∙ both_pass c.args.book.now c.formula_row-in-Join.new.book c.formula_row-in-Join-2.new.book c.args.places.now c.in_ok-left-in-Join.field-0 c.in_ok-right-in-Join.field-0 (formula_tree c.deref-in-Join.result.now) (formula_tree c.deref-in-Join-2.result.now) H c.in-Some-4.left c.in-Some-5.right c.formula_row-in-Join.ensures.extends c.in-Some-4.is c.in-Some-5.is c.in_ok-left-in-Join.ensures.row c.in_ok-right-in-Join.ensures.row place,
      c.in_ok-make-in-Join.ensures.meaning ∙ ap (option_and_then (made op.Max)) (both_mean c.args.book.now c.formula_row-in-Join.new.book c.formula_row-in-Join-2.new.book c.args.places.now c.in_ok-left-in-Join.field-0 c.in_ok-right-in-Join.field-0 (formula_tree c.deref-in-Join.result.now) (formula_tree c.deref-in-Join-2.result.now) c.in-Some-4.left c.in-Some-5.right c.formula_row-in-Join-2.ensures.extends c.in-Some-4.is c.in-Some-5.is c.in_ok-left-in-Join.ensures.means c.in_ok-right-in-Join.ensures.means) ∙ ap (λ a. Some (ATree a)) (sym whole),
    )
