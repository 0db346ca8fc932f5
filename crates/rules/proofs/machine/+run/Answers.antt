use Rattle.trees.specs.Judgements.{Nil}
use Rattle.trees.specs.Trees.{Var}
use Rattle.trees.specs.Things.{ATree, AContext, instance_of, pushed_on, then_of, with_variable, with_a_name, with_a_face, made}
use Rattle.trees.specs.Operators.{kids_of}
use Rattle.rules.proofs.StackLaws.{part_of, one_more, shift_of, many_of, one_enough, one_of, two_enough, two_of}
use Rattle.std.proofs.Common.{◌≡◌, ◌<◌, ◌≤◌, ◌+◌, ◌-◌, ◌*◌, ◌∙◌, suc, length, drop, get_or, IsSome, arith}
use Rattle.std.proofs.lemmas.List.{length-drop}
use Rattle.trees.specs.Things.{meanings}
use Rattle.trees.proofs.Meanings.{meanings-later, kept-kept}
use Rattle.rules.specs.declared.instruction.Instruction.TheVariants.{Part}
use Rattle.rules.specs.Run.{stepped, run, thing_of, rows_for, rows_in, rank_for, rank_in}
use Rattle.rules.proofs.RunLaws.{run-place, run-drop, run-one, rows-one, rows-drop, left-one, left-few, shallow_of, rank-at}
use Rattle.rules.proofs.ThenLaws.{then_fits_at}
use Rattle.rules.proofs.DerivedLaws.{derivation_of, rows-called}
use Rattle.rules.specs.DerivedTrees.{arity_of, derived_over}
use Rattle.std.specs.Prelude.{option_and_then}
use Rattle.rules.proofs.machine.+run.Goals as goal

pub follow-bounds-parts-k : goal.follow-bounds-parts-k
follow-bounds-parts-k g t c =
    (part_of (g.M.Rows.means c.args.maker.now) c.args.parts.now c.in-Part.k c.args.stack.now (rw c.in-Part.is at c.requires.runs)).within

pub follow-returns-in-Part-clause-steps : goal.follow-returns-in-Part-clause-steps
follow-returns-in-Part-clause-steps g t c =
    rw c.in-Part.is ((part_of (g.M.Rows.means c.args.maker.now) c.args.parts.now c.in-Part.k c.args.stack.now (rw c.in-Part.is at c.requires.runs)).stacked)

pub follow-returns-in_ok-var-in-Var-clause-steps : goal.follow-returns-in_ok-var-in-Var-clause-steps
follow-returns-in_ok-var-in-Var-clause-steps g t c =
    rw c.in-Var.is (one_more _ _ (ATree (Var c.in-Var.index)) _ c.args.stack.now c.var.ensures.kept (rw c.in-Var.is at c.requires.runs) c.in_ok-var-in-Var.ensures.meaning)

pub follow-first-requires : goal.follow-first-requires
follow-first-requires g t c =
    rw c.kid_count-count.ensures ((many_of (kids_of c.in-Make.op) (made c.in-Make.op) (g.M.Rows.means c.args.maker.now) c.args.stack.now (rw c.in-Make.is at c.requires.runs)).enough)

pub follow-make-requires : goal.follow-make-requires
follow-make-requires g t c =
    rw (c.first.ensures, c.kid_count-count.ensures) ((many_of (kids_of c.in-Make.op) (made c.in-Make.op) (g.M.Rows.means c.args.maker.now) c.args.stack.now (rw c.in-Make.is at c.requires.runs)).live)

pub follow-returns-in_ok-row-in-Make-clause-steps : goal.follow-returns-in_ok-row-in-Make-clause-steps
follow-returns-in_ok-row-in-Make-clause-steps g t c =
    let m = many_of (kids_of c.in-Make.op) (made c.in-Make.op) (g.M.Rows.means c.args.maker.now) c.args.stack.now (rw c.in-Make.is at c.requires.runs) in
    let e = rw (c.first.ensures, c.kid_count-count.ensures) at c.in_ok-row-in-Make.ensures.meaning in
    rw (c.in-Make.is, c.remove.ensures, c.kid_count-count.ensures) (m.stacked _ _ c.make.ensures.kept e)

pub follow-shift-requires : goal.follow-shift-requires
follow-shift-requires g t c = (shift_of (g.M.Rows.means c.args.maker.now) c.in-Shift.by c.args.stack.now (rw c.in-Shift.is at c.requires.runs)).small

pub follow-returns-in_ok-shift-in-Shift-clause-steps : goal.follow-returns-in_ok-shift-in-Shift-clause-steps
follow-returns-in_ok-shift-in-Shift-clause-steps g t c =
    rw c.in-Shift.is ((shift_of (g.M.Rows.means c.args.maker.now) c.in-Shift.by c.args.stack.now (rw c.in-Shift.is at c.requires.runs)).stacked _ _ c.shift.ensures.kept c.in_ok-shift-in-Shift.ensures.meaning)

pub follow-returns-in_ok-ctx_nil-in-CtxNil-clause-steps : goal.follow-returns-in_ok-ctx_nil-in-CtxNil-clause-steps
follow-returns-in_ok-ctx_nil-in-CtxNil-clause-steps g t c =
    rw c.in-CtxNil.is (one_more _ _ (AContext Nil) _ c.args.stack.now c.ctx_nil.ensures.kept (rw c.in-CtxNil.is at c.requires.runs) c.in_ok-ctx_nil-in-CtxNil.ensures.meaning)

pub follow-pop-ctx-requires : goal.follow-pop-ctx-requires
follow-pop-ctx-requires g t c = one_enough with_a_name (g.M.Rows.means c.args.maker.now) c.args.stack.now (rw c.in-CtxName.is at c.requires.runs)

pub follow-ctx_name-requires : goal.follow-ctx_name-requires
follow-ctx_name-requires g t c =
    (one_of with_a_name (g.M.Rows.means c.args.maker.now) c.args.stack.now _ _ c.pop-ctx.ensures (rw c.in-CtxName.is at c.requires.runs)).live

pub follow-returns-in_ok-ctx_name-in-CtxName-clause-steps : goal.follow-returns-in_ok-ctx_name-in-CtxName-clause-steps
follow-returns-in_ok-ctx_name-in-CtxName-clause-steps g t c =
    rw c.in-CtxName.is ((one_of with_a_name (g.M.Rows.means c.args.maker.now) c.args.stack.now _ _ c.pop-ctx.ensures (rw c.in-CtxName.is at c.requires.runs)).stacked _ _ c.ctx_name.ensures.kept c.in_ok-ctx_name-in-CtxName.ensures.meaning)

pub follow-pop_two-term-requires : goal.follow-pop_two-term-requires
follow-pop_two-term-requires g t c = two_enough instance_of (g.M.Rows.means c.args.maker.now) c.args.stack.now (rw c.in-Instance.is at c.requires.runs)

pub follow-instance-requires : goal.follow-instance-requires
follow-instance-requires g t c =
    (two_of instance_of (g.M.Rows.means c.args.maker.now) c.args.stack.now _ _ _ c.pop_two-term.ensures (rw c.in-Instance.is at c.requires.runs)).live

pub follow-returns-in_ok-instance-in-Instance-clause-steps : goal.follow-returns-in_ok-instance-in-Instance-clause-steps
follow-returns-in_ok-instance-in-Instance-clause-steps g t c =
    rw c.in-Instance.is ((two_of instance_of (g.M.Rows.means c.args.maker.now) c.args.stack.now _ _ _ c.pop_two-term.ensures (rw c.in-Instance.is at c.requires.runs)).stacked _ _ c.instance.ensures.kept c.in_ok-instance-in-Instance.ensures.meaning)

pub follow-pop_two-sub-requires : goal.follow-pop_two-sub-requires
follow-pop_two-sub-requires g t c = two_enough pushed_on (g.M.Rows.means c.args.maker.now) c.args.stack.now (rw c.in-Push.is at c.requires.runs)

pub follow-push-requires : goal.follow-push-requires
follow-push-requires g t c =
    (two_of pushed_on (g.M.Rows.means c.args.maker.now) c.args.stack.now _ _ _ c.pop_two-sub.ensures (rw c.in-Push.is at c.requires.runs)).live

pub follow-returns-in_ok-push-in-Push-clause-steps : goal.follow-returns-in_ok-push-in-Push-clause-steps
follow-returns-in_ok-push-in-Push-clause-steps g t c =
    rw c.in-Push.is ((two_of pushed_on (g.M.Rows.means c.args.maker.now) c.args.stack.now _ _ _ c.pop_two-sub.ensures (rw c.in-Push.is at c.requires.runs)).stacked _ _ c.push.ensures.kept c.in_ok-push-in-Push.ensures.meaning)

pub follow-pop_two-first-requires : goal.follow-pop_two-first-requires
follow-pop_two-first-requires g t c = two_enough then_of (g.M.Rows.means c.args.maker.now) c.args.stack.now (rw c.in-Then.is at c.requires.runs)

pub follow-then-requires-clause-kinds : goal.follow-then-requires-clause-kinds
follow-then-requires-clause-kinds g t c =
    (two_of then_of (g.M.Rows.means c.args.maker.now) c.args.stack.now _ _ _ c.pop_two-first.ensures (rw c.in-Then.is at c.requires.runs)).live

pub follow-returns-in_ok-then-in-Then-clause-steps : goal.follow-returns-in_ok-then-in-Then-clause-steps
follow-returns-in_ok-then-in-Then-clause-steps g t c =
    rw c.in-Then.is ((two_of then_of (g.M.Rows.means c.args.maker.now) c.args.stack.now _ _ _ c.pop_two-first.ensures (rw c.in-Then.is at c.requires.runs)).stacked _ _ c.then.ensures.kept c.in_ok-then-in-Then.ensures.meaning)

pub follow-pop_two-ctx-requires : goal.follow-pop_two-ctx-requires
follow-pop_two-ctx-requires g t c = two_enough with_variable (g.M.Rows.means c.args.maker.now) c.args.stack.now (rw c.in-CtxVar.is at c.requires.runs)

pub follow-ctx_var-requires : goal.follow-ctx_var-requires
follow-ctx_var-requires g t c =
    (two_of with_variable (g.M.Rows.means c.args.maker.now) c.args.stack.now _ _ _ c.pop_two-ctx.ensures (rw c.in-CtxVar.is at c.requires.runs)).live

pub follow-returns-in_ok-ctx_var-in-CtxVar-clause-steps : goal.follow-returns-in_ok-ctx_var-in-CtxVar-clause-steps
follow-returns-in_ok-ctx_var-in-CtxVar-clause-steps g t c =
    rw c.in-CtxVar.is ((two_of with_variable (g.M.Rows.means c.args.maker.now) c.args.stack.now _ _ _ c.pop_two-ctx.ensures (rw c.in-CtxVar.is at c.requires.runs)).stacked _ _ c.ctx_var.ensures.kept c.in_ok-ctx_var-in-CtxVar.ensures.meaning)

pub follow-pop_two-ctx-requires-in-CtxFace : goal.follow-pop_two-ctx-requires-in-CtxFace
follow-pop_two-ctx-requires-in-CtxFace g t c = two_enough with_a_face (g.M.Rows.means c.args.maker.now) c.args.stack.now (rw c.in-CtxFace.is at c.requires.runs)

pub follow-ctx_face-requires : goal.follow-ctx_face-requires
follow-ctx_face-requires g t c =
    (two_of with_a_face (g.M.Rows.means c.args.maker.now) c.args.stack.now _ _ _ c.pop_two-ctx-in-CtxFace.ensures (rw c.in-CtxFace.is at c.requires.runs)).live

pub follow-returns-in_ok-ctx_face-in-CtxFace-clause-steps : goal.follow-returns-in_ok-ctx_face-in-CtxFace-clause-steps
follow-returns-in_ok-ctx_face-in-CtxFace-clause-steps g t c =
    rw c.in-CtxFace.is ((two_of with_a_face (g.M.Rows.means c.args.maker.now) c.args.stack.now _ _ _ c.pop_two-ctx-in-CtxFace.ensures (rw c.in-CtxFace.is at c.requires.runs)).stacked _ _ c.ctx_face.ensures.kept c.in_ok-ctx_face-in-CtxFace.ensures.meaning)

-- a call

pub follow-first-requires-in-Call : goal.follow-first-requires-in-Call
follow-first-requires-in-Call g t c =
    rw c.arity-count.ensures ((many_of (arity_of c.in-Call.derived) (derived_over c.in-Call.derived) (g.M.Rows.means c.args.maker.now) c.args.stack.now (rw c.in-Call.is at c.requires.runs)).enough)

pub follow-row_of-requires : goal.follow-row_of-requires
follow-row_of-requires g t c =
    let d = c.in-Call.derived in
    let f = g.M.Rows.means c.args.maker.now in
    let m = many_of (arity_of d) (derived_over d) f c.args.stack.now (rw c.in-Call.is at c.requires.runs) in
    let h = derivation_of d c.derivation.result.now c.derivation.ensures in
    let live : IsSome (meanings f c.first-in-Call.result.now) = rw (c.first-in-Call.ensures, c.arity-count.ensures) m.means in
    let whole : IsSome (option_and_then (derived_over d) (meanings f c.first-in-Call.result.now)) = rw (c.first-in-Call.ensures, c.arity-count.ensures) m.live in
    let makes : IsSome (thing_of (meanings f c.first-in-Call.result.now) c.derivation.result.now) = rw (h.makes _ whole) whole in
    let rank : 2 * rank_in c.derivation.result.now + 1 < 2 * rank_for c.args.instruction = rw c.in-Call.is (omega (arith, h.rank)) in
    λ κs l. (omega (arith, rank), (l, (h.fit, (live, (makes, λ then. absurd (h.plain then))))))

pub follow-returns-in_err-row-in-Call-clause-covered : goal.follow-returns-in_err-row-in-Call-clause-covered
follow-returns-in_err-row-in-Call-clause-covered g t c enough =
    let rows = rows-called c.in-Call.derived c.derivation.result.now c.args.instruction c.derivation.ensures c.in-Call.is in
    let room : rows_in c.derivation.result.now ≤ g.M.Maker.spare c.args.maker.now = omega (arith, rows, enough) in
    let no = c.in_err-row-in-Call.ensures.covered room in
    cc

pub follow-returns-in_err-row-in-Call-clause-spends : goal.follow-returns-in_err-row-in-Call-clause-spends
follow-returns-in_err-row-in-Call-clause-spends g t c =
    let rows = rows-called c.in-Call.derived c.derivation.result.now c.args.instruction c.derivation.ensures c.in-Call.is in
    omega (arith, rows, c.row_of.ensures.spends)

pub follow-returns-in_ok-row-in-Call-clause-spends : goal.follow-returns-in_ok-row-in-Call-clause-spends
follow-returns-in_ok-row-in-Call-clause-spends g t c =
    let rows = rows-called c.in-Call.derived c.derivation.result.now c.args.instruction c.derivation.ensures c.in-Call.is in
    omega (arith, rows, c.row_of.ensures.spends)

pub follow-remove-requires-in-Call : goal.follow-remove-requires-in-Call
follow-remove-requires-in-Call g t c =
    rw c.arity-count.ensures ((many_of (arity_of c.in-Call.derived) (derived_over c.in-Call.derived) (g.M.Rows.means c.args.maker.now) c.args.stack.now (rw c.in-Call.is at c.requires.runs)).enough)

pub follow-returns-in_ok-row-in-Call-clause-steps : goal.follow-returns-in_ok-row-in-Call-clause-steps
follow-returns-in_ok-row-in-Call-clause-steps g t c =
    let d = c.in-Call.derived in
    let f = g.M.Rows.means c.args.maker.now in
    let m = many_of (arity_of d) (derived_over d) f c.args.stack.now (rw c.in-Call.is at c.requires.runs) in
    let h = derivation_of d c.derivation.result.now c.derivation.ensures in
    let whole : IsSome (option_and_then (derived_over d) (meanings f c.first-in-Call.result.now)) = rw (c.first-in-Call.ensures, c.arity-count.ensures) m.live in
    let made = c.in_ok-row-in-Call.ensures.row ∙ h.makes _ whole in
    let e = rw (c.first-in-Call.ensures, c.arity-count.ensures) at made in
    rw (c.in-Call.is, c.remove-in-Call.ensures, c.arity-count.ensures) (m.stacked _ _ c.row_of.ensures.kept e)

pub follow-returns-in_ok-row-in-Call-clause-room : goal.follow-returns-in_ok-row-in-Call-clause-room
follow-returns-in_ok-row-in-Call-clause-room g t c =
    let d = c.in-Call.derived in
    let m = many_of (arity_of d) (derived_over d) (g.M.Rows.means c.args.maker.now) c.args.stack.now (rw c.in-Call.is at c.requires.runs) in
    let rest = length-drop (arity_of d) c.args.stack.now in
    rw (c.in-Call.is, c.remove-in-Call.ensures, c.arity-count.ensures) (omega (arith, m.enough, rest))

pub row_of-follow-requires : goal.row_of-follow-requires
row_of-follow-requires g t c =
    let old = g.M.Rows.means c.args.maker.now in
    let now = g.M.Rows.means c.loop-at.maker in
    let place = c.args.place.now in
    let P = meanings old c.args.parts.now in
    let lt : c.loop-at.at - 1 < length place = omega arith in
    let next : c.loop-at.at ≡ suc (c.loop-at.at - 1) = omega arith in
    let runs = run-place place P c.requires.makes in
    let some = run-drop place P (c.loop-at.at - 1) runs in
    let step : IsSome (stepped (get_or place (c.loop-at.at - 1) (Part 0)) P (run (drop c.loop-at.at place) P)) =
    rw (← run-one place P c.loop-at.at (c.loop-at.at - 1) (Part 0) lt next) some in
    let here : IsSome (stepped (get_or place (c.loop-at.at - 1) (Part 0)) (meanings now c.args.parts.now) (meanings now c.loop-at.stack)) =
    rw (meanings-later old now c.loop-at.invariant.3 c.args.parts.now c.requires.live, c.loop-at.invariant.4) step in
    let small = then_fits_at old now c.args.parts.now place c.loop-at.stack c.loop-at.at (c.loop-at.at - 1) (Part 0) lt next c.requires.fits c.requires.live runs c.requires.shifts c.loop-at.invariant.4 in
    let rank = rank-at place (c.loop-at.at - 1) (Part 0) lt in
    λ κs l. (omega (arith, rank), (l, (here, small)))

pub row_of-push-requires : goal.row_of-push-requires
row_of-push-requires g t c =
    let lt : c.loop-at.at - 1 < length c.args.place.now = omega arith in
    let next : c.loop-at.at ≡ suc (c.loop-at.at - 1) = omega arith in
    let height = left-one c.args.place.now c.loop-at.at (c.loop-at.at - 1) (Part 0) lt next in
    let few = left-few c.args.place.now (shallow_of c.args.place.now c.requires.fits) (c.loop-at.at - 1) in
    let taken = c.in_ok-row.ensures.room in
    let stands = c.loop-at.invariant.1 in
    omega arith

pub row_of-returns-in_err-row-clause-covered : goal.row_of-returns-in_err-row-clause-covered
row_of-returns-in_err-row-clause-covered g t c enough =
    let lt : c.loop-at.at - 1 < length c.args.place.now = omega arith in
    let next : c.loop-at.at ≡ suc (c.loop-at.at - 1) = omega arith in
    let one = rows-one c.args.place.now c.loop-at.at (c.loop-at.at - 1) (Part 0) lt next in
    let all = rows-drop c.args.place.now (c.loop-at.at - 1) in
    let spent = c.loop-at.invariant.2 in
    let room : rows_for (get_or c.args.place.now (c.loop-at.at - 1) (Part 0)) ≤ g.M.Maker.spare c.loop-at.maker = omega arith in
    let no = c.in_err-row.ensures.covered room in
    cc

pub row_of-returns-in_err-row-clause-spends : goal.row_of-returns-in_err-row-clause-spends
row_of-returns-in_err-row-clause-spends g t c =
    let lt : c.loop-at.at - 1 < length c.args.place.now = omega arith in
    let next : c.loop-at.at ≡ suc (c.loop-at.at - 1) = omega arith in
    let one = rows-one c.args.place.now c.loop-at.at (c.loop-at.at - 1) (Part 0) lt next in
    let all = rows-drop c.args.place.now (c.loop-at.at - 1) in
    let spent = c.loop-at.invariant.2 in
    let step = c.follow.ensures.spends in
    omega arith

pub row_of-loop-at-preserved : goal.row_of-loop-at-preserved
row_of-loop-at-preserved g t c =
    let old = g.M.Rows.means c.args.maker.now in
    let now = g.M.Rows.means c.loop-at.maker in
    let P = meanings old c.args.parts.now in
    let lt : c.loop-at.at - 1 < length c.args.place.now = omega arith in
    let next : c.loop-at.at ≡ suc (c.loop-at.at - 1) = omega arith in
    let one = run-one c.args.place.now P c.loop-at.at (c.loop-at.at - 1) (Part 0) lt next in
    let rows = rows-one c.args.place.now c.loop-at.at (c.loop-at.at - 1) (Part 0) lt next in
    let later = meanings-later old now c.loop-at.invariant.3 c.args.parts.now c.requires.live in
    let made = rw (later, c.loop-at.invariant.4) at c.in_ok-row.ensures.steps in
    let spent = c.loop-at.invariant.2 in
    let step = c.follow.ensures.spends in
    let taken = c.in_ok-row.ensures.room in
    let height = left-one c.args.place.now c.loop-at.at (c.loop-at.at - 1) (Part 0) lt next in (
      omega arith,
      simp c.push.ensures (omega arith),
      omega arith,
      kept-kept _ _ _ c.loop-at.invariant.3 c.follow.ensures.kept,
      rw (c.push.ensures, one) made,
    )
