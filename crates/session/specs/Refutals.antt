-- What is evidence of which cause.
use Rattle.std.specs.Prelude.{Some, None}
use Rattle.trees.specs.declared.op.Op.TheVariants as op
use Rattle.trees.specs.Trees.{Tree}
use Rattle.evidence.specs.declared.lines.Evidence.{Evidence}
use Rattle.evidence.specs.Told.{IsTypeShown, IsUnaligned, IsUniverse, TwoShown}
use Rattle.outcomes.specs.declared.refusal.Cause.{Cause}
use Rattle.outcomes.specs.declared.refusal.Cause.TheVariants as cause
use Rattle.session.specs.declared.refutals.Refutal.{Refutal}
use Rattle.session.specs.declared.refutals.Refutal.TheVariants.{CannotInfer, Shown}

-- A type that is equal to a normal one of another kind, the universe as a type of the universe, two
-- that are equal to normal ones which differ, or two types that are so and are equal.
abbrev pub IsEvidence : Cause → Evidence → Type 0
IsEvidence cause.WantedFunction e = IsTypeShown (Some op.Pi) e
IsEvidence cause.WantedPair e = IsTypeShown (Some op.Sig) e
IsEvidence cause.WantedPath e = IsTypeShown (Some op.PathP) e
IsEvidence cause.WantedGlue e = IsTypeShown None e
IsEvidence cause.WantedType e = IsTypeShown (Some op.U) e
IsEvidence cause.UInU e = IsUniverse e
IsEvidence cause.Mismatch e = TwoShown None e
IsEvidence cause.SidesDiffer e = (p : Tree) × TwoShown (Some p) e
IsEvidence cause.Unaligned e = IsUnaligned e
IsEvidence _ e = ⊥

abbrev pub IsRefutal : Refutal → Type 0
IsRefutal CannotInfer = Unit {0}
IsRefutal (Shown cause e) = IsEvidence cause e
