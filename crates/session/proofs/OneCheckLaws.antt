-- A check has one answer.
use Rattle.std.proofs.Common.{◌≡◌, ◌≢◌, ℕ, Option, IsSome, inl, inr, List, [], length, sym, ◌∙◌, ap, subst, Some, None}
use Rattle.host_io.specs.Files.{Held}
use Rattle.host_io.specs.Seen.{SeenFiles}
use Rattle.host_io.specs.declared.files.Stored.{Stored}
use Rattle.host_io.specs.declared.files.Stored.TheVariants as stored
use Rattle.module_texts.specs.Texts.{Text}
use Rattle.resolver.specs.declared.resolving.Codes.{Codes}
use Rattle.resolver.specs.Resolved.{defs_in}
use Rattle.linking.specs.Modules.{AreFine, meanings}
use Rattle.direct.specs.Direct.{other_place}
use Rattle.outcomes.specs.declared.outcome.Outcome.{Outcome}
use Rattle.outcomes.specs.declared.outcome.Outcome.TheVariants as outcome
use Rattle.outcomes.specs.Refusals.{refusal}
use Rattle.session.specs.Loaded.{IsRead}
use Rattle.session.specs.Modules.{NotLoaded, NotResolved}
use Rattle.session.specs.declared.job.Job.{Job}
use Rattle.session.specs.declared.job.Job.TheVariants.{Tell, Store}
use Rattle.session.specs.Jobs.{Does, MayDo, told_stored, not_loaded, not_resolved, done}
use Rattle.session.specs.Places.{places}
use Rattle.session.specs.Checks.{CheckJob, NotStored, not_inferred, spent, not_taken}
use Rattle.codes.specs.declared.code.CodeDef.{CodeDef}
use Rattle.session.specs.Answers.{AreDirect, IsOfText, OneCheck}
use Rattle.outcomes.proofs.ToldLaws.{SameAnswer, same_answer}
use Rattle.session.proofs.ModuleLaws.{fine_or_refused}
use Rattle.session.proofs.AnswerLaws.{loaded_one, loaded_or_not, both_not_loaded, both_not_resolved, of_text}

-- what is no fault of reading
no_read : (told : Outcome) → IsOfText told → told ≢ outcome.ReadFault
no_read told t e = absurd (subst IsOfText e t)

-- a store that is told as no fault of writing was done
stored_as : (it : Outcome) (answer : Stored) (told : Outcome) → IsOfText told → told_stored it answer ≡ Some told → told ≡ it
stored_as it stored.Done told t e = cc
stored_as it stored.Failed told t e = absurd (let f : told ≡ outcome.WriteFault = cc in subst IsOfText f t)
stored_as it stored.Memory told t e = cc

-- all are derived
record IsWhole (held : Option Held) (name : List ℕ) (told : Outcome) : Type 0 where
  pub texts : List Text
  pub codes : Codes
  pub is_read : IsRead held name texts codes
  pub is_told : told ≡ outcome.Checked (length (places texts))

module _ (held : Held) (name : List ℕ) (one other : Outcome) (t : IsOfText one) (t' : IsOfText other) where
  n : one ≢ outcome.ReadFault
  n = no_read one t

  n' : other ≢ outcome.ReadFault
  n' = no_read other t'

  texts_one : (xs ys : List Text) (a b : Codes) → IsRead (Some held) name xs a → IsRead (Some held) name ys b → xs ≡ ys
  texts_one xs ys a b p q = loaded_one held name one other n n' xs ys p.loaded q.loaded

  read_or_refused : (xs : List Text) (codes : Codes) (told : Outcome) → IsOfText told → IsRead (Some held) name xs codes → NotResolved (Some held) name told → ⊥
  read_or_refused xs codes told m a b =
      let fine = subst (λ ts. AreFine (meanings ts)) (loaded_one held name one other n n' xs b.texts a.loaded b.loaded) a.linked.fine in
      fine_or_refused b.texts b.at b.fault fine b.refuses (of_text b.fault b.path told b.is_told)

  both_whole : IsWhole (Some held) name one → IsWhole (Some held) name other → SameAnswer one other
  both_whole a b =
      let count : length (places a.texts) ≡ length (places b.texts) = ap (λ ts. length (places ts)) (texts_one a.texts b.texts a.codes b.codes a.is_read b.is_read) in
      same_answer one other (a.is_told ∙ ap outcome.Checked count ∙ sym b.is_told)

-- how a check ended, where it is told what is held
data Found (held : Held) (name : List ℕ) (told : Outcome) : Type 0 where
  no_text : NotLoaded (Some held) name told → Found held name told
  no_names : NotResolved (Some held) name told → Found held name told
  whole : IsWhole (Some held) name told → Found held name told

-- one of them is not direct
not_direct : (o : Option ℕ) → o ≡ None → IsSome o → ⊥
not_direct o none some = cc

of_told : (texts : List Text) (defs : List CodeDef) (turns : ℕ) (told : Outcome) → other_place defs [] ≡ None → NotStored texts defs turns told → ⊥
of_told texts defs turns told direct (not_inferred other at refusal is e) = not_direct (other_place defs []) direct other
of_told texts defs turns told direct (spent other at is) = not_direct (other_place defs []) direct other
of_told texts defs turns told direct (not_taken k other is) = cc

of_job : (held : Held) (name : List ℕ) (turns : ℕ) → AreDirect held name → (told : Outcome) (old new : SeenFiles) → old.held ≡ Some held → IsOfText told → (texts : List Text) (codes : Codes) → IsRead old.held name texts codes
    → (job : Job) → CheckJob name turns texts (defs_in codes) job → Does job old new told → Found held name told
of_job held name turns direct told old new h t texts codes read (Tell it) is does =
    absurd (of_told texts (defs_in codes) turns it (direct texts codes (subst (λ x. IsRead x name texts codes) h read)) is)
of_job held name turns direct told old new h t texts codes read (Store path bytes it) (inl is) does =
    whole (record { texts = texts; codes = codes; is_read = subst (λ x. IsRead x name texts codes) h read; is_told = stored_as it does.0 told t does.2 ∙ is.is_told })
of_job held name turns direct told old new h t texts codes read (Store path bytes it) (inr is) does =
    absurd (not_direct (other_place (defs_in codes) []) (direct texts codes (subst (λ x. IsRead x name texts codes) h read)) is.other)

found : (held : Held) (name : List ℕ) (turns : ℕ) → AreDirect held name → (told : Outcome) (old new : SeenFiles) → old.held ≡ Some held → IsOfText told → MayDo (CheckJob name turns) name old new told → Found held name told
found held name turns direct told old new h t (not_loaded a kept) = no_text (subst (λ x. NotLoaded x name told) h a)
found held name turns direct told old new h t (not_resolved a kept) = no_names (subst (λ x. NotResolved x name told) h a)
found held name turns direct told old new h t (done texts codes read job is does) = of_job held name turns direct told old new h t texts codes read job is does

agree : (held : Held) (name : List ℕ) (one other : Outcome) → IsOfText one → IsOfText other → Found held name one → Found held name other → SameAnswer one other
agree held name one other t u (no_text a) (no_text b) = both_not_loaded held name one other (no_read one t) (no_read other u) a b
agree held name one other t u (no_text a) (no_names b) = absurd (loaded_or_not held name one other (no_read one t) (no_read other u) b.texts one (no_read one t) b.loaded a)
agree held name one other t u (no_text a) (whole b) = absurd (loaded_or_not held name one other (no_read one t) (no_read other u) b.texts one (no_read one t) b.is_read.loaded a)
agree held name one other t u (no_names a) (no_text b) = absurd (loaded_or_not held name one other (no_read one t) (no_read other u) a.texts other (no_read other u) a.loaded b)
agree held name one other t u (no_names a) (no_names b) = both_not_resolved held name one other (no_read one t) (no_read other u) a b
agree held name one other t u (no_names a) (whole b) = absurd (read_or_refused held name one other t u b.texts b.codes one t b.is_read a)
agree held name one other t u (whole a) (no_text b) = absurd (loaded_or_not held name one other (no_read one t) (no_read other u) a.texts other (no_read other u) a.is_read.loaded b)
agree held name one other t u (whole a) (no_names b) = absurd (read_or_refused held name one other t u a.texts a.codes other u a.is_read b)
agree held name one other t u (whole a) (whole b) = both_whole held name one other t u a b

pub one_check : OneCheck
one_check name turns others held direct one other old new before after h h' t u a b =
    agree held name one other t u (found held name turns direct one old new h t a) (found held name others direct other before after h' u b)
