use Rattle.std.proofs.Common.{[], refl}
use Rattle.recipes.proofs.Soundness.{derives-sound}
use Rattle.pattern_sides.specs.Follows.{follows}
use Rattle.pattern_sides.proofs.SideLaws.{follows-sound}
use Rattle.glue_entries.specs.Statements.{equiv_tycong_statement}
use Rattle.glue_entries.specs.declared.equiv_tycong.TheConstants.{EQUIV_TYCONG, EQUIV_TYCONG_GIVES}
use Rattle.glue_entries.proofs.equivalences_are_derived.Goals as goal

pub returns : goal.returns
returns c = record {
  derived = derives-sound follows follows-sound [] equiv_tycong_statement EQUIV_TYCONG.now EQUIV_TYCONG_GIVES.now refl;
  at_trees = λ G T A V B. record { wants = refl; sides = refl; gives = refl };
}
