use Rattle.std.proofs.Common.{◌≡◌, ◌∙◌, ◌++◌, ◌∷◌, [], ap, arith, length, subst, sym}
use Rattle.resolver.specs.Resolved.{AreEarlier, defs_in}
use Rattle.session.specs.Loaded.{texts_of}
use Rattle.session.specs.Places.{names}
use Rattle.session.specs.Scopes.{numbered_names}
use Rattle.session.proofs.ScopeLaws.{all_named, are_earlier, numbered_more}
use Rattle.session.proofs.places.scope_behind.Goals as goal

pub numbered_name-requires-clause-within : goal.numbered_name-requires-clause-within
numbered_name-requires-clause-within c =
    omega (arith, ap length c.as_slice-place-end.ensures, c.loop-place-test.true)

pub loop-place-preserved : goal.loop-place-preserved
loop-place-preserved c =
    let n = c.in_ok-numbered_name.ensures in
    let program = c.args.program.now in
    c.in_ok-push.ensures.ok ∙ ap (λ ns. ns ++ c.in_ok-numbered_name.field-0 ∷ []) c.loop-place.invariant
    ∙ sym (numbered_more (names (texts_of program)) (defs_in program.codes) c.loop-place.place c.in_ok-numbered_name.field-0 n.code n.name_is n.code_is n.number_is)

pub returns : goal.returns
returns c =
    let program = c.args.program.now in
    let long = ap length c.as_slice-place-end.ensures in
    let end : c.loop-place.place ≡ length (defs_in program.codes) = omega (arith, long, c.loop-place-test.false, c.loop-place.auto.place-end) in
    let all = c.loop-place.invariant ∙ all_named (texts_of program) program.codes c.requires c.loop-place.place end in
    record {
      names_are = all;
      earlier = subst (λ n. AreEarlier n c.loop-place.names) (sym c.next-next.ensures) (subst (λ ns. AreEarlier program.codes.next ns) (sym all) (are_earlier (texts_of program) program.codes c.requires));
    }
