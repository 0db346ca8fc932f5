use Rattle.std.proofs.Common.{refl, sym, ap, ◌∙◌}
use Rattle.trees.specs.Trees.{Var}
use Rattle.translation.specs.declared.fault.Cause.TheVariants as cause
use Rattle.translation.specs.declared.built_in.BuiltIn.TheVariants as built_in
use Rattle.translation.specs.Terms.{nat, zero}
use Rattle.codes.specs.Codes.{body_of}
use Rattle.scopes.specs.declared.names.Found.TheVariants as found
use Rattle.scopes.specs.Finding.{find}
use Rattle.name_resolution.proofs.Naming.{found_done, found_refused}
use Rattle.name_resolution.proofs.names.References.name.Goals as goal

pub returns-in-Variable-clause-resolves : goal.returns-in-Variable-clause-resolves
returns-in-Variable-clause-resolves c =
    let s = c.args.place.now in
    found_done c.args.self.now.bytes.now s c.args.span (found.Variable c.in-Variable.index) (λ H. Var c.in-Variable.index) _ (c.in-Variable.ensures ∙ ap (find s.names) c.spelling.ensures) (λ H. refl) (λ H. refl)

pub returns-in-Definition-clause-resolves : goal.returns-in-Definition-clause-resolves
returns-in-Definition-clause-resolves c =
    let s = c.args.place.now in
    found_done c.args.self.now.bytes.now s c.args.span (found.Definition c.in-Definition.number) (λ H. body_of H c.in-Definition.number) _ (c.in-Definition.ensures ∙ ap (find s.names) c.spelling.ensures) (λ H. refl) (λ H. refl)

pub returns-in-BuiltIn-Nat-clause-resolves : goal.returns-in-BuiltIn-Nat-clause-resolves
returns-in-BuiltIn-Nat-clause-resolves c =
    let s = c.args.place.now in
    found_done c.args.self.now.bytes.now s c.args.span (found.BuiltIn built_in.Nat) (λ H. nat) _ (ap found.BuiltIn (sym c.in-BuiltIn-Nat.field-0-is) ∙ c.in-BuiltIn-Nat.ensures ∙ ap (find s.names) c.spelling.ensures) (λ H. refl) (λ H. refl)

pub returns-in-BuiltIn-Zero-clause-resolves : goal.returns-in-BuiltIn-Zero-clause-resolves
returns-in-BuiltIn-Zero-clause-resolves c =
    let s = c.args.place.now in
    found_done c.args.self.now.bytes.now s c.args.span (found.BuiltIn built_in.Zero) (λ H. zero) _ (ap found.BuiltIn (sym c.in-BuiltIn-Zero.field-0-is) ∙ c.in-BuiltIn-Zero.ensures ∙ ap (find s.names) c.spelling.ensures) (λ H. refl) (λ H. refl)

pub returns-in-BuiltIn-NatRec-clause-resolves : goal.returns-in-BuiltIn-NatRec-clause-resolves
returns-in-BuiltIn-NatRec-clause-resolves c =
    let s = c.args.place.now in
    found_refused c.args.self.now.bytes.now s c.args.span (found.BuiltIn built_in.NatRec) c.refuse.new.self cause.NameKind _ (ap found.BuiltIn (sym c.in-BuiltIn-NatRec.field-0-is) ∙ c.in-BuiltIn-NatRec.ensures ∙ ap (find s.names) c.spelling.ensures) (λ H. refl) (λ H. refl) c.refuse.ensures

pub returns-in-Nothing-clause-resolves : goal.returns-in-Nothing-clause-resolves
returns-in-Nothing-clause-resolves c =
    let s = c.args.place.now in
    found_refused c.args.self.now.bytes.now s c.args.span (found.Nothing) c.refuse-in-Nothing.new.self cause.Unbound _ (c.in-Nothing.ensures ∙ ap (find s.names) c.spelling.ensures) (λ H. refl) (λ H. refl) c.refuse-in-Nothing.ensures
