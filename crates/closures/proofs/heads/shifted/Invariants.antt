use Rattle.std.specs.List.{All}
use Rattle.closures.specs.Shown.{lists}
use Rattle.closures.specs.Environments.{listed, IsWithin}
use Rattle.closures.specs.Closures.{IsDelayed}
use Rattle.closures.specs.Weights.{weight_of}
use Rattle.closures.proofs.WaitLaws.{Meets}
use Rattle.closures.proofs.heads.shifted.Given as goal

-- the shift has met what is no longer in the rest
abbrev pub invariant-loop-rest : goal.invariant-loop-rest
invariant-loop-rest g l = record {
  within : IsWithin (lists l.environments) l.rest;
  substs : All (λ w. IsDelayed (g.R.Rows.means l.rows) w.delayed) (listed (lists l.environments) l.rest);
  meets : Meets (g.R.Rows.means l.rows) l.fn.shift (listed (lists l.fn.environments) l.fn.rest) l.shift (listed (lists l.environments) l.rest);
}

abbrev pub decreases-loop-rest : goal.decreases-loop-rest
decreases-loop-rest g l = weight_of (listed (lists l.environments) l.rest)
