use Rattle.std.proofs.Common.{◌≡◌, drop}
use Rattle.bidirect.proofs.CheckedLaws.{Checking}
use Rattle.bidirect.proofs.checker.check_definitions.Given as goal

abbrev pub invariant-loop-def : goal.invariant-loop-def
invariant-loop-def l = Checking l.fn.book l.book l.state l.defs (drop l.def-index l.defs) l.place × (l.place ≡ l.def-index)
