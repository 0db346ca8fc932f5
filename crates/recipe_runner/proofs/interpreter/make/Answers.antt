use Rattle.std.proofs.Common.{sym, subst, refl, arith}
use Rattle.recipe_runner.specs.Running.{IsNumberOf}
use Rattle.recipe_runner.proofs.RunLaws.{most_added-some, makes-other, makes-as, makes-part, makes-premise, makes-node}
use Rattle.recipe_runner.proofs.interpreter.make.Goals as goal

pub bounds-premises-at : goal.bounds-premises-at
bounds-premises-at c =
    let a = c.args in
    (makes-premise a.book.now a.parts.now a.premises.now a.made.now c.in-Premise.at c.requires.0 (makes-as a.book.now a.parts.now a.premises.now a.made.now a.row.now _ c.requires.0 c.in-Premise.is c.requires.1)).within

pub bounds-parts-at : goal.bounds-parts-at
bounds-parts-at c =
    let a = c.args in
    (makes-part a.book.now a.parts.now a.premises.now a.made.now c.in-Part.at c.requires.0 (makes-as a.book.now a.parts.now a.premises.now a.made.now a.row.now _ c.requires.0 c.in-Part.is c.requires.1)).within

pub build-requires : goal.build-requires
build-requires c =
    let a = c.args in
    let n = c.in_default in
    let t = makes-other a.book.now a.parts.now a.premises.now a.made.now a.row.now c.requires.0 n.not-Premise n.not-Part n.not-Conclude c.requires.1 in
    (t.thing, t.builds)

pub returns-in-Premise-clause-makes : goal.returns-in-Premise-clause-makes
returns-in-Premise-clause-makes c = λ m h.
    let a = c.args in
    (makes-premise a.book.now a.parts.now a.premises.now a.made.now c.in-Premise.at m (makes-as a.book.now a.parts.now a.premises.now a.made.now a.row.now _ m c.in-Premise.is h)).is

pub returns-in-Part-clause-makes : goal.returns-in-Part-clause-makes
returns-in-Part-clause-makes c = λ m h.
    let a = c.args in
    (makes-part a.book.now a.parts.now a.premises.now a.made.now c.in-Part.at m (makes-as a.book.now a.parts.now a.premises.now a.made.now a.row.now _ m c.in-Part.is h)).is

pub returns-in_ok-infer-in-Conclude-clause-makes : goal.returns-in_ok-infer-in-Conclude-clause-makes
returns-in_ok-infer-in-Conclude-clause-makes c = λ m h.
    let a = c.args in
    let t = makes-node a.book.now a.parts.now a.premises.now a.made.now _ _ _ m (makes-as a.book.now a.parts.now a.premises.now a.made.now a.row.now _ m c.in-Conclude.is h) in
    subst (λ z. IsNumberOf c.infer.new.book z c.in_ok-infer-in-Conclude.field-0) (sym t.same) (c.in_ok-infer-in-Conclude.ensures.concludes t.judgement t.infers)

pub returns-in_ok-build-in_default : goal.returns-in_ok-build-in_default
returns-in_ok-build-in_default c =
    let a = c.args in
    let n = c.in_default in
    let some = most_added-some a.row.now in
    let spent = c.in_ok-build-in_default.ensures.spends in
    record {
      covered = λ enough. refl;
      spends = omega (arith, some, spent);
      extends = c.in_ok-build-in_default.ensures.extends;
      makes = λ m h.
          let t = makes-other a.book.now a.parts.now a.premises.now a.made.now a.row.now m n.not-Premise n.not-Part n.not-Conclude h in
          subst (λ z. IsNumberOf c.build.new.book z c.in_ok-build-in_default.field-0) (sym t.same) (c.in_ok-build-in_default.ensures.meaning t.thing t.builds);
    }
