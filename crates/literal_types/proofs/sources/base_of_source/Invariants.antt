use Rattle.std.proofs.Common.{reverse}
use Rattle.literal_types.specs.Openings.{weight}
use Rattle.literal_types.proofs.JoinLaws.{Reaching}
use Rattle.literal_types.proofs.sources.base_of_source.Given as goal

abbrev pub invariant-loop-ctx : goal.invariant-loop-ctx
invariant-loop-ctx l = Reaching l.book l.fn.sub l.at (reverse l.entries.items)

abbrev pub decreases-loop-ctx : goal.decreases-loop-ctx
decreases-loop-ctx l = weight l.at
