use Rattle.std.proofs.Common.{◌≡◌, ap, ◌∙◌}
use Rattle.translation.specs.declared.built_in.BuiltIn.TheVariants as built_in
use Rattle.scopes.specs.declared.names.Found.TheVariants as found
use Rattle.scopes.specs.Finding.{find}
use Rattle.resolved_forms.proofs.NatLaws.{nat_named, nat_told, no_nat_named, no_nat_told, other_named, other_told}
use Rattle.resolved_forms.proofs.nat.built_in_nat.Goals as goal

pub returns-in_default : goal.returns-in_default
returns-in_default c =
    let bytes = c.args.names.now.bytes.now in
    let name = c.in_default.not-Name in
    record {
      told = λ G H a. other_told bytes c.args.exp.now c.bare.result.now c.bare.ensures.text name G;
      named = other_named bytes c.args.exp.now c.bare.result.now c.bare.ensures.text c.args.place.now.names name;
    }

pub returns-in_default-find : goal.returns-in_default-find
returns-in_default-find c =
    let bytes = c.args.names.now.bytes.now in
    let s = c.args.place.now in
    let found_is = c.find.ensures ∙ ap (find s.names) c.spelling.ensures in
    let other : c.find.result ≡ found.BuiltIn built_in.Nat → ⊥ = λ e. c.in_default-find.not-BuiltIn built_in.Nat e in
    record {
      told = no_nat_told bytes c.args.exp.now c.bare.result.now c.bare.ensures.text s c.in-Name.span c.find.result c.in-Name.is found_is other;
      named = no_nat_named bytes c.args.exp.now c.bare.result.now c.bare.ensures.text s c.in-Name.span c.find.result c.in-Name.is found_is other;
    }

pub returns-in-Nat-clause-told : goal.returns-in-Nat-clause-told
returns-in-Nat-clause-told c =
    let s = c.args.place.now in
    let found_is = c.find.ensures ∙ ap (find s.names) c.spelling.ensures in
    nat_told c.args.names.now.bytes.now c.args.exp.now c.bare.result.now c.bare.ensures.text s c.in-Name.span c.find.result c.in-Name.is found_is (c.in-BuiltIn.is ∙ ap found.BuiltIn c.in-Nat.is)

pub returns-in-Nat-clause-named : goal.returns-in-Nat-clause-named
returns-in-Nat-clause-named c =
    let s = c.args.place.now in
    let found_is = c.find.ensures ∙ ap (find s.names) c.spelling.ensures in
    nat_named c.args.names.now.bytes.now c.args.exp.now c.bare.result.now c.bare.ensures.text s c.in-Name.span c.find.result c.in-Name.is found_is (c.in-BuiltIn.is ∙ ap found.BuiltIn c.in-Nat.is)

pub returns-in_default-built_in : goal.returns-in_default-built_in
returns-in_default-built_in c =
    let bytes = c.args.names.now.bytes.now in
    let s = c.args.place.now in
    let found_is = c.find.ensures ∙ ap (find s.names) c.spelling.ensures in
    let other : c.find.result ≡ found.BuiltIn built_in.Nat → ⊥ = λ e. let i = c.in-BuiltIn.is in c.in_default-built_in.not-Nat (let j = e in cc) in
    record {
      told = no_nat_told bytes c.args.exp.now c.bare.result.now c.bare.ensures.text s c.in-Name.span c.find.result c.in-Name.is found_is other;
      named = no_nat_named bytes c.args.exp.now c.bare.result.now c.bare.ensures.text s c.in-Name.span c.find.result c.in-Name.is found_is other;
    }
