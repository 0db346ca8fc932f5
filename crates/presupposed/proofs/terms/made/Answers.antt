use Rattle.std.proofs.Common.{refl, sym, ◌∙◌, subst}
use Rattle.trees.specs.Language.{Tm}
use Rattle.typed_nodes.proofs.GrowthLaws.{says_later}
use Rattle.literal_types.proofs.GrowthLaws.{extends_extends}
use Rattle.literal_terms.specs.Traces.{IsLiteralTerm}
use Rattle.presupposed.proofs.terms.made.Goals as goal

pub context_of-requires : goal.context_of-requires
context_of-requires c =
    let (G, t, T, says, literal) = c.requires in
    (G, (Tm G t T, says, refl))

pub identity-requires : goal.identity-requires
identity-requires c =
    let (G, t, T, says, literal) = c.requires in
    (G, c.in_ok-ctx.ensures.typed G (Tm G t T, says, refl))

pub returns-in_err-here-clause-extends : goal.returns-in_err-here-clause-extends
returns-in_err-here-clause-extends c = extends_extends c.in_ok-ctx.ensures.extends c.in_err-here.ensures.extends

pub literal_term-requires : goal.literal_term-requires
literal_term-requires c =
    let (G, t, T, says, literal) = c.requires in
    let grown = extends_extends c.in_ok-ctx.ensures.extends c.in_ok-here.ensures.extends in
    (G, t, T, says_later _ _ c.args.typing (Tm G t T) grown says, c.in_ok-here.ensures.typed G (c.in_ok-ctx.ensures.typed G (Tm G t T, says, refl)))

pub returns-in_err-term-clause-extends : goal.returns-in_err-term-clause-extends
returns-in_err-term-clause-extends c = extends_extends (extends_extends c.in_ok-ctx.ensures.extends c.in_ok-here.ensures.extends) c.in_err-term.ensures.extends

pub unreachable-requires : goal.unreachable-requires
unreachable-requires c =
    let (G, t, T, says, literal) = c.requires in
    let grown = extends_extends c.in_ok-ctx.ensures.extends c.in_ok-here.ensures.extends in
    let none = subst (λ o. IsLiteralTerm c.literal_term.new.book o G t T) c.in-None.is
    (c.in_ok-term.ensures.literal G t T (says_later _ _ c.args.typing (Tm G t T) grown says) (c.in_ok-here.ensures.typed G (c.in_ok-ctx.ensures.typed G (Tm G t T, says, refl)))) in
    cc (sym literal ∙ none)

pub returns-clause-extends : goal.returns-clause-extends
returns-clause-extends c = extends_extends (extends_extends c.in_ok-ctx.ensures.extends c.in_ok-here.ensures.extends) c.in_ok-term.ensures.extends

pub returns-clause-literal : goal.returns-clause-literal
returns-clause-literal c = λ G t T says literal.
    let grown = extends_extends c.in_ok-ctx.ensures.extends c.in_ok-here.ensures.extends in
    subst (λ o. IsLiteralTerm c.literal_term.new.book o G t T) c.in-Some.is
    (c.in_ok-term.ensures.literal G t T (says_later _ _ c.args.typing (Tm G t T) grown says) (c.in_ok-here.ensures.typed G (c.in_ok-ctx.ensures.typed G (Tm G t T, says, refl))))
