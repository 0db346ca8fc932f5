use Rattle.std.proofs.Common.{refl, subst}
use Rattle.trees.specs.Language.{Ty, TyEq}
use Rattle.literal_terms.specs.Traces.{Fits}
use Rattle.behind_tests.proofs.forms.fits_to.Goals as goal

pub right_is-requires : goal.right_is-requires
right_is-requires c =
    let (G, S, T, fits, ty) = c.requires in
    (Ty G S, Ty G T, (TyEq G S T, subst (λ f. Fits c.args.book.now f G S T) c.in-Some.is fits, (refl, refl)), ty)
