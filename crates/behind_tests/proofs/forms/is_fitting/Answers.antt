use Rattle.trees.specs.Things.{AContext, ATree}
use Rattle.literal_types.proofs.GrowthLaws.{extends_extends}
use Rattle.behind_tests.proofs.AskLaws.{type_claim}
use Rattle.behind_tests.proofs.forms.is_fitting.Goals as goal

pub fits_of-requires : goal.fits_of-requires
fits_of-requires c =
    let (G, t, T, says, literal, ctx, ty) = c.requires in
    (G, t, T, says, literal)

pub fits_to-requires : goal.fits_to-requires
fits_to-requires c =
    let (G, t, T, says, literal, ctx, ty) = c.requires in
    let e = c.in_ok-fits.ensures in
    let (S, made, fits) = e.fits G t T says literal in
    (G, S, T, fits, type_claim c.fits_of.new.book c.args.ctx c.args.ty G T (e.extends.rows.keeps c.args.ctx (AContext G) ctx) (e.extends.rows.keeps c.args.ty (ATree T) ty))

pub returns-in_err-fits_to : goal.returns-in_err-fits_to
returns-in_err-fits_to c = extends_extends c.in_ok-fits.ensures.extends c.in_err-fits_to.ensures

pub returns : goal.returns
returns c = extends_extends c.in_ok-fits.ensures.extends c.in_ok-fits_to.ensures
