use Rattle.std.proofs.Common.{[], refl}
use Rattle.recipes.proofs.Soundness.{derives-sound}
use Rattle.pattern_sides.specs.Follows.{follows}
use Rattle.pattern_sides.proofs.SideLaws.{follows-sound}
use Rattle.inversion_rules.specs.Statements.{fits_pi_statement, fits_sig_statement, anchor_statement, anchor_conv_statement}
use Rattle.inversion_rules.specs.declared.fits_pi.TheConstants.{FITS_PI, FITS_PI_GIVES}
use Rattle.inversion_rules.specs.declared.fits_sig.TheConstants.{FITS_SIG, FITS_SIG_GIVES}
use Rattle.inversion_rules.specs.declared.anchor.TheConstants.{ANCHOR, ANCHOR_GIVES}
use Rattle.inversion_rules.specs.declared.anchor_conv.TheConstants.{ANCHOR_CONV, ANCHOR_CONV_GIVES}
use Rattle.inversion_rules.proofs.typings_are_derived.Goals as goal

pub returns : goal.returns
returns c = record {
  fits_pi = derives-sound follows follows-sound [] fits_pi_statement FITS_PI.now FITS_PI_GIVES.now refl;
  fits_sig = derives-sound follows follows-sound [] fits_sig_statement FITS_SIG.now FITS_SIG_GIVES.now refl;
  anchor = derives-sound follows follows-sound [] anchor_statement ANCHOR.now ANCHOR_GIVES.now refl;
  anchor_conv = derives-sound follows follows-sound [] anchor_conv_statement ANCHOR_CONV.now ANCHOR_CONV_GIVES.now refl;
}
