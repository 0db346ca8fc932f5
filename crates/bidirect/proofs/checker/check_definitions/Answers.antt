use Rattle.std.proofs.Common.{◌+◌, ◌∷◌, refl, sym, ap, subst, ◌∙◌, drop}
use Rattle.std.proofs.lemmas.List.{drop_all, drop_more}
use Rattle.typed_contexts.proofs.GrowthLaws.{further}
use Rattle.bidirect.specs.Checked.{Checks}
use Rattle.bidirect.proofs.CheckedLaws.{none_checked, one_checked, one_refused, all_checked}
use Rattle.bidirect.proofs.checker.check_definitions.Goals as goal

pub loop-def-init : goal.loop-def-init
loop-def-init c = (none_checked c.args.book.now c.new.new.book c.in_ok-state.state c.args.defs.now c.in_ok-state.ensures.extends c.in_ok-state.ensures.state, refl)

pub returns-in_err-check_definition-clause-extends : goal.returns-in_err-check_definition-clause-extends
returns-in_err-check_definition-clause-extends c = further c.loop-def.invariant.0.grown c.in_err-check_definition.ensures.extends

pub returns-then-not-branch-clause-extends : goal.returns-then-not-branch-clause-extends
returns-then-not-branch-clause-extends c = further c.loop-def.invariant.0.grown c.in_ok-check_definition.ensures.extends

pub returns-then-not-branch-clause-checked : goal.returns-then-not-branch-clause-checked
returns-then-not-branch-clause-checked c =
    let defs = c.args.defs.now in
    let k = c.loop-def.def-index in
    let d = c.def-item.result in
    let now = c.loop-def.invariant.0 in
    let whole = drop_more defs k d c.loop-def-test.true ∙ ap (λ x. x ∷ drop (k + 1) defs) (sym c.def-item.is) in
    one_refused c.args.book.now c.loop-def.book c.check_definition.new.book c.loop-def.state c.check_definition.new.state defs (drop k defs) (drop (k + 1) defs) d c.loop-def.place whole now
    (subst (λ p. Checks c.check_definition.new.book c.check_definition.new.state p d now.known now.stated) c.if-not-branch.true (c.in_ok-check_definition.ensures.checks now.known now.stated now.knows))

pub loop-def-preserved : goal.loop-def-preserved
loop-def-preserved c =
    let defs = c.args.defs.now in
    let k = c.loop-def.def-index in
    let d = c.def-item.result in
    let now = c.loop-def.invariant.0 in
    let whole = drop_more defs k d c.loop-def-test.true ∙ ap (λ x. x ∷ drop (k + 1) defs) (sym c.def-item.is) in (
      one_checked c.args.book.now c.loop-def.book c.check_definition.new.book c.loop-def.state c.check_definition.new.state defs (drop k defs) (drop (k + 1) defs) d c.loop-def.place whole now
          c.in_ok-check_definition.ensures.extends (subst (λ p. Checks c.check_definition.new.book c.check_definition.new.state p d now.known now.stated) c.if-not-branch.false (c.in_ok-check_definition.ensures.checks now.known now.stated now.knows)),
      ap (λ n. n + 1) c.loop-def.invariant.1,
    )

pub returns-clause-extends : goal.returns-clause-extends
returns-clause-extends c = c.loop-def.invariant.0.grown

pub returns-clause-checked : goal.returns-clause-checked
returns-clause-checked c =
    let defs = c.args.defs.now in
    let k = c.loop-def.def-index in
    all_checked c.args.book.now c.loop-def.book c.loop-def.state defs (drop k defs) c.loop-def.place (drop_all k defs c.loop-def-test.false) c.loop-def.invariant.0
