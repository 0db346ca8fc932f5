use Rattle.std.proofs.Common.{refl}
use Rattle.trees.specs.Trees.{apply}
use Rattle.presupposed.proofs.terms.fits_of.Goals as goal

pub returns-clause-fits : goal.returns-clause-fits
returns-clause-fits c = λ G t T says literal.
    let (K, d, a, A, sub, formed, tree, fits) = c.in_ok-term.ensures.literal G t T says literal in
    (apply A d, (c.in_ok-term.term.form, c.in_ok-term.term.sub, K, d, a, A, sub, formed, tree, refl), fits)
