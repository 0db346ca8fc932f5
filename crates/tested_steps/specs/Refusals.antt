-- What a refused use of a rule says of it.
use Rattle.std.specs.Prelude.{◌≡◌}
use Rattle.book.specs.Contents.{Contents}
use Rattle.book.specs.Shown.{AddsRows}
use Rattle.book.specs.Fits.{Finds}
use Rattle.book.specs.declared.few.RuleUse.{RuleUse}
use Rattle.book.specs.declared.trying.Fit.TheVariants as fit
use Rattle.tested_steps.specs.declared.fault.Fault.{Fault}
use Rattle.tested_steps.specs.declared.fault.Fault.TheVariants as fault

-- There is no new node, and the fault names the rule and the first thing that is not as the rule
-- has it; or it was out of memory.
abbrev pub Refuses : Contents → Contents → RuleUse → Fault → Type 0
Refuses old new step fault.Memory = Unit {0}
Refuses old new step fault.Misfit = ⊥
Refuses old new step (fault.Unfit rule found) = (rule ≡ step.rule) × (found ≡ fit.Fits → ⊥)
    × Finds old step found × AddsRows old new
