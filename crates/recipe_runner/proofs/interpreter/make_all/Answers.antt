use Rattle.std.proofs.Common.{[], ◌∷◌, refl, sym, ap, subst, length, arith}
use Rattle.recipe_runner.specs.Running.{AreNumbersOf}
use Rattle.recipe_runner.proofs.NumberLaws.{node-numbers}
use Rattle.recipe_runner.proofs.RunLaws.{makes-one, makes-nodes, all-as, most-same, one-made}
use Rattle.recipe_runner.proofs.interpreter.make_all.Goals as goal

pub derive-requires : goal.derive-requires
derive-requires g c =
    let a = c.args in
    let ss = g.E.Earlier.states a.earlier.now in
    let t = makes-nodes ss a.book.now a.parts.now a.premises.now a.made.now _ _ _ c.requires.0 (all-as ss a.book.now a.parts.now a.premises.now a.made.now a.row.now _ c.requires.0 c.in-Derive.is c.requires.1) in
    (t.gives, t.supplies)

pub make-requires : goal.make-requires
make-requires g c =
    let a = c.args in
    let t = makes-one (g.E.Earlier.states a.earlier.now) a.book.now a.parts.now a.premises.now a.made.now a.row.now c.requires.0 c.in_default.not-Derive c.requires.1 in
    (t.one, t.makes)

pub returns-in_ok-derive-in-Derive-clause-makes : goal.returns-in_ok-derive-in-Derive-clause-makes
returns-in_ok-derive-in-Derive-clause-makes g c = λ new h.
    let a = c.args in
    let ss = g.E.Earlier.states a.earlier.now in
    let t = makes-nodes ss a.book.now a.parts.now a.premises.now a.made.now _ _ _ new (all-as ss a.book.now a.parts.now a.premises.now a.made.now a.row.now _ new c.in-Derive.is h) in
    subst (λ z. AreNumbersOf c.derive.new.book z c.in_ok-derive-in-Derive.field-0) (sym t.same)
    (node-numbers c.derive.new.book t.gives c.in_ok-derive-in-Derive.field-0 (c.in_ok-derive-in-Derive.ensures.concludes t.gives t.supplies))

pub returns-in_ok-make-in_default : goal.returns-in_ok-make-in_default
returns-in_ok-make-in_default g c =
    let a = c.args in
    let ss = g.E.Earlier.states a.earlier.now in
    let n = c.in_default in
    let same = most-same (g.E.Earlier.most a.earlier.now) a.row.now n.not-Derive in
    let some = one-made a.row.now in
    let spent = c.in_ok-make-in_default.ensures.spends in
    let one = ap length c.of.ensures in
    record {
      covered = λ enough. refl;
      spends = omega (arith, same, spent);
      extends = c.in_ok-make-in_default.ensures.extends;
      few = omega (arith, one, some);
      makes = λ new h.
          let t = makes-one ss a.book.now a.parts.now a.premises.now a.made.now a.row.now new n.not-Derive h in
          subst (λ z. AreNumbersOf c.make.new.book z c.of.result) (sym t.is)
          (subst (λ z. AreNumbersOf c.make.new.book (t.one ∷ []) z) (sym c.of.ensures) (c.in_ok-make-in_default.ensures.makes t.one t.makes, tt));
    }
