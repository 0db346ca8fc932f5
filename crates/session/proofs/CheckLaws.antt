-- What a check comes to.
use Rattle.std.proofs.Common.{ℕ, List, refl, sym, subst, inl, inr}
use Rattle.module_texts.specs.Texts.{Text}
use Rattle.codes.specs.declared.code.CodeDef.{CodeDef}
use Rattle.outcomes.specs.declared.outcome.Outcome.{Outcome}
use Rattle.session.specs.declared.job.Job.{Job}
use Rattle.session.specs.declared.job.Job.TheVariants.{Tell, Store}
use Rattle.session.specs.Counted.{IsUncounted}
use Rattle.session.specs.Jobs.{told_by}
use Rattle.session.specs.Places.{IsRefusedAt}
use Rattle.session.specs.Checks.{CheckJob, NotStored, OtherJob, not_inferred, spent, not_taken}

-- a definition that is refused
pub refused_uncounted : (texts : List Text) (k : ℕ) (told : Outcome) → IsRefusedAt texts k told → IsUncounted told
refused_uncounted texts k told refused = subst IsUncounted (sym refused.is_told) (λ counts. refl)

not_stored_uncounted : (texts : List Text) (defs : List CodeDef) (turns : ℕ) (told : Outcome) → NotStored texts defs turns told → IsUncounted told
not_stored_uncounted texts defs turns told (not_inferred other at refusal is e) = subst IsUncounted (sym e) (λ counts. refl)
not_stored_uncounted texts defs turns told (spent other at is) = subst IsUncounted (sym is.is_told) (λ counts. refl)
not_stored_uncounted texts defs turns told (not_taken k other is) = refused_uncounted texts k told is

pub other_uncounted : (name : List ℕ) (turns : ℕ) (texts : List Text) (defs : List CodeDef) (job : Job) → OtherJob name turns texts defs job → IsUncounted (told_by job)
other_uncounted name turns texts defs (Tell told) is = not_stored_uncounted texts defs turns told is
other_uncounted name turns texts defs (Store path bytes told) is = subst IsUncounted (sym is.is_told) (λ counts. refl)

pub check_uncounted : (name : List ℕ) (turns : ℕ) (texts : List Text) (defs : List CodeDef) (job : Job) → CheckJob name turns texts defs job → IsUncounted (told_by job)
check_uncounted name turns texts defs (Tell told) is = not_stored_uncounted texts defs turns told is
check_uncounted name turns texts defs (Store path bytes told) (inl is) = subst IsUncounted (sym is.is_told) (λ counts. refl)
check_uncounted name turns texts defs (Store path bytes told) (inr is) = subst IsUncounted (sym is.is_told) (λ counts. refl)

-- definitions that are not all typed
pub of_other : (name : List ℕ) (turns : ℕ) (texts : List Text) (defs : List CodeDef) (job : Job) → OtherJob name turns texts defs job → CheckJob name turns texts defs job
of_other name turns texts defs (Tell told) is = is
of_other name turns texts defs (Store path bytes told) is = inr is
