use Rattle.std.proofs.Common.{◌≡◌, ◌∙◌, sym, ap, subst, true}
use Rattle.theory.specs.declared.rule.RuleName.TheVariants.{Composition}
use Rattle.presuppositions.specs.declared.source.Label.TheVariants as label
use Rattle.presuppositions.specs.Entries.{is_unfolded}
use Rattle.kan_types.specs.Types.{IsOfTypes}
use Rattle.presupposed.proofs.RuleLaws.{unfolded-types}
use Rattle.presupposed.proofs.right_sides.unfold.Goals as goal

pub unfold-requires-clause-of : goal.unfold-requires-clause-of
unfold-requires-clause-of c = c.comp_rule.ensures ∙ ap Composition c.in-CompGlue.is

pub unfold-requires-in-CompU-clause-of : goal.unfold-requires-in-CompU-clause-of
unfold-requires-in-CompU-clause-of c = c.comp_rule.ensures ∙ ap Composition c.in-CompU.is

pub unfold-requires-in_default-clause-of : goal.unfold-requires-in_default-clause-of
unfold-requires-in_default-clause-of c =
    let of = subst (λ r. is_unfolded r label.Right ≡ true) c.comp_rule.ensures c.requires.of in
    subst (λ r. IsOfTypes r) (sym c.comp_rule.ensures) (unfolded-types c.comp_rule.result of c.in_default.not-CompGlue c.in_default.not-CompU)
