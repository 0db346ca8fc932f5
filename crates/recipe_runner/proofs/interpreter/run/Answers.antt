use Rattle.std.proofs.Common.{◌≡◌, ◌+◌, ◌<◌, ◌++◌, ◌∙◌, get_or, drop, length, true, false, sym, ap, subst, arith, length-append}
use Rattle.std.specs.List.{All}
use Rattle.std.proofs.lemmas.List.Sums.{sum_by_more, sum_by_more_le}
use Rattle.trees.specs.Things.{meanings}
use Rattle.book.specs.Shown.{book_concludes}
use Rattle.recipes.specs.declared.row.Row.{Row}
use Rattle.recipes.specs.declared.row.Row.TheVariants as row
use Rattle.recipe_runner.specs.Running.{MakesAll, GoesOn, numbers_at, most_added, most_made}
use Rattle.recipe_runner.proofs.RunLaws.{begins, turn, none-left, ends, extends-further}
use Rattle.recipe_runner.proofs.interpreter.run.Goals as goal

pub make_all-requires : goal.make_all-requires
make_all-requires g c =
    let a = c.args in
    let l = c.loop-row in
    let ss = g.E.Earlier.states a.earlier.now in
    let gives = c.requires.right.0 in
    let start = c.requires.right.1 in
    let d : Row = row.Premise 0 in
    let t = turn ss l.book a.parts.now a.premises.now l.made a.rows.now l.row-index d start.runs.whole c.loop-row-test.true (l.invariant.goes start.runs.whole (begins ss a.book.now a.rows.now a.outs.now a.parts.now a.premises.now gives start)) in
    (t.new, subst (λ z. MakesAll ss l.book a.parts.now a.premises.now z (get_or a.rows.now l.row-index d) t.new) (sym c.as_slice.ensures.value) t.makes)

pub append-requires : goal.append-requires
append-requires g c =
    let a = c.args in
    let l = c.loop-row in
    let d : Row = row.Premise 0 in
    let sums = sum_by_more_le most_made a.rows.now l.row-index d c.loop-row-test.true in
    let before = l.invariant.count in
    let few = c.in_ok-numbers.ensures.few in
    let all = c.requires.rows in
    let same = ap length c.as_slice-in-loop-row.ensures.value in
    omega (arith, sums, before, few, all, same)

pub loop-row-preserved : goal.loop-row-preserved
loop-row-preserved g c =
    let a = c.args in
    let l = c.loop-row in
    let ss = g.E.Earlier.states a.earlier.now in
    let d : Row = row.Premise 0 in
    let made_sums = sum_by_more most_made a.rows.now l.row-index d c.loop-row-test.true in
    let sums = sum_by_more (most_added (g.E.Earlier.most a.earlier.now)) a.rows.now l.row-index d c.loop-row-test.true in
    let spent = c.in_ok-numbers.ensures.spends in
    let before = l.invariant.spent in
    let few = c.in_ok-numbers.ensures.few in
    let count = l.invariant.count in
    let joined = c.append.ensures ∙ ap (λ z. l.made ++ z) c.as_slice-in-loop-row.ensures.value in
    let longer = ap length joined ∙ length-append l.made c.in_ok-numbers.numbers in
    record {
      count = omega (arith, made_sums, few, count, longer);
      extends = extends-further a.book.now l.book c.make_all.new.book l.invariant.extends c.make_all.ensures.extends;
      spent = omega (arith, sums, spent, before);
      goes = λ whole start.
          let t = turn ss l.book a.parts.now a.premises.now l.made a.rows.now l.row-index d whole c.loop-row-test.true (l.invariant.goes whole start) in
          let makes = subst (λ z. MakesAll ss l.book a.parts.now a.premises.now z (get_or a.rows.now l.row-index d) t.new) (sym c.as_slice.ensures.value) t.makes in
          subst (λ z. GoesOn ss c.make_all.new.book a.parts.now a.premises.now z (drop (l.row-index + 1) a.rows.now) whole) (sym joined)
          (t.goes c.make_all.new.book c.make_all.ensures.extends c.in_ok-numbers.numbers (c.in_ok-numbers.ensures.makes t.new makes));
    }

pub returns-in_err-numbers-clause-covered : goal.returns-in_err-numbers-clause-covered
returns-in_err-numbers-clause-covered g c = λ enough.
    let l = c.loop-row in
    let d : Row = row.Premise 0 in
    let sums = sum_by_more_le (most_added (g.E.Earlier.most c.args.earlier.now)) c.args.rows.now l.row-index d c.loop-row-test.true in
    let before = l.invariant.spent in
    let no : false ≡ true = c.in_err-numbers.ensures.covered (omega (arith, sums, before, enough)) in
    absurd (cc no)

pub returns-in_err-numbers-clause-extends : goal.returns-in_err-numbers-clause-extends
returns-in_err-numbers-clause-extends g c = extends-further c.args.book.now c.loop-row.book c.make_all.new.book c.loop-row.invariant.extends c.make_all.ensures.extends

pub picked-requires-clause-within : goal.picked-requires-clause-within
picked-requires-clause-within g c =
    let a = c.args in
    let l = c.loop-row in
    let ss = g.E.Earlier.states a.earlier.now in
    let gives = c.requires.right.0 in
    let start = c.requires.right.1 in
    let whole = start.runs.whole in
    let last = none-left ss l.book a.parts.now a.premises.now l.made a.rows.now l.row-index whole (omega arith) (l.invariant.goes whole (begins ss a.book.now a.rows.now a.outs.now a.parts.now a.premises.now gives start)) in
    let e = ends ss l.book a.parts.now a.premises.now l.made whole last a.outs.now gives start.runs.outs_are in
    subst (λ z. All (λ n. n < length z) a.outs.now) (sym c.as_slice-2.ensures.value) e.within

pub returns-clause-concludes : goal.returns-clause-concludes
returns-clause-concludes g c = λ gives start.
    let a = c.args in
    let l = c.loop-row in
    let ss = g.E.Earlier.states a.earlier.now in
    let whole = start.runs.whole in
    let last = none-left ss l.book a.parts.now a.premises.now l.made a.rows.now l.row-index whole (omega arith) (l.invariant.goes whole (begins ss a.book.now a.rows.now a.outs.now a.parts.now a.premises.now gives start)) in
    let e = ends ss l.book a.parts.now a.premises.now l.made whole last a.outs.now gives start.runs.outs_are in
    ap (meanings (book_concludes l.book)) (c.picked.ensures ∙ ap (λ z. numbers_at z a.outs.now) c.as_slice-2.ensures.value) ∙ e.are
