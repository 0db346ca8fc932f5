use Rattle.std.proofs.Common.{refl}
use Rattle.trees.specs.Language.{Tm}
use Rattle.typed_nodes.proofs.GrowthLaws.{says_later}
use Rattle.literal_types.proofs.GrowthLaws.{extends_extends}
use Rattle.recipe_runner.proofs.BuildLaws.{some-is}
use Rattle.behind_tests.proofs.FormLaws.{found_is_literal}
use Rattle.behind_tests.proofs.forms.is_form.Goals as goal

pub context_of-requires : goal.context_of-requires
context_of-requires c =
    let (G, t, T, says) = c.requires in
    (G, (Tm G t T, says, refl))

pub identity-requires : goal.identity-requires
identity-requires c =
    let (G, t, T, says) = c.requires in
    (G, c.in_ok-ctx.ensures.typed G (Tm G t T, says, refl))

pub returns-in_err-here-clause-extends : goal.returns-in_err-here-clause-extends
returns-in_err-here-clause-extends c = extends_extends c.in_ok-ctx.ensures.extends c.in_err-here.ensures.extends

pub literal_term-requires : goal.literal_term-requires
literal_term-requires c =
    let (G, t, T, says) = c.requires in
    let grown = extends_extends c.in_ok-ctx.ensures.extends c.in_ok-here.ensures.extends in
    (G, t, T, says_later _ _ c.args.typing (Tm G t T) grown says, c.in_ok-here.ensures.typed G (c.in_ok-ctx.ensures.typed G (Tm G t T, says, refl)))

pub returns-in_err-literal_term-clause-extends : goal.returns-in_err-literal_term-clause-extends
returns-in_err-literal_term-clause-extends c = extends_extends (extends_extends c.in_ok-ctx.ensures.extends c.in_ok-here.ensures.extends) c.in_err-literal_term.ensures.extends

pub returns-in-Some-clause-extends : goal.returns-in-Some-clause-extends
returns-in-Some-clause-extends c = extends_extends (extends_extends c.in_ok-ctx.ensures.extends c.in_ok-here.ensures.extends) c.in_ok-literal_term.ensures.extends

pub returns-in-None-clause-extends : goal.returns-in-None-clause-extends
returns-in-None-clause-extends c = extends_extends (extends_extends c.in_ok-ctx.ensures.extends c.in_ok-here.ensures.extends) c.in_ok-literal_term.ensures.extends

pub returns-in-Some-clause-literal : goal.returns-in-Some-clause-literal
returns-in-Some-clause-literal c = λ G t T says yes.
    let grown = extends_extends c.in_ok-ctx.ensures.extends c.in_ok-here.ensures.extends in
    let found = c.in_ok-literal_term.ensures.literal G t T (says_later _ _ c.args.typing (Tm G t T) grown says) (c.in_ok-here.ensures.typed G (c.in_ok-ctx.ensures.typed G (Tm G t T, says, refl))) in
    found_is_literal c.literal_term.new.book _ G t T found (some-is _ _ c.in-Some.is)
