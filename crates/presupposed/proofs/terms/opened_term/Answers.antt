use Rattle.std.proofs.Common.{sym, subst}
use Rattle.trees.specs.Trees.{apply}
use Rattle.literal_types.proofs.GrowthLaws.{extends_extends}
use Rattle.literal_terms.proofs.TraceLaws.{fits_grow}
use Rattle.presupposed.specs.Terms.{AreKids}
use Rattle.presupposed.proofs.terms.opened_term.Goals as goal

pub kids_under-requires : goal.kids_under-requires
kids_under-requires c =
    let (G, t, T, says, literal) = c.requires in
    let (K, d, a, A, sub, formed, tree, fits) = c.in_ok-term.ensures.literal G t T says literal in
    (G, K, d, a, A, sub, formed)

pub returns-in_err-kids-clause-extends : goal.returns-in_err-kids-clause-extends
returns-in_err-kids-clause-extends c = extends_extends c.in_ok-term.ensures.extends c.in_err-kids.ensures.extends

pub returns-clause-extends : goal.returns-clause-extends
returns-clause-extends c = extends_extends c.in_ok-term.ensures.extends c.in_ok-kids.ensures.extends

pub returns-clause-opened : goal.returns-clause-opened
returns-clause-opened c = λ G t T says literal.
    let (K, d, a, A, sub, formed, tree, fits) = c.in_ok-term.ensures.literal G t T says literal in (
      apply A d,
      subst (λ x. AreKids c.kids_under.new.book c.in_ok-kids.kids G x (apply A d)) (sym tree) (c.in_ok-kids.ensures.kids G K d a A sub formed),
      fits_grow c.in_ok-kids.ensures.extends c.in_ok-term.term.fits G (apply A d) T fits,
    )
