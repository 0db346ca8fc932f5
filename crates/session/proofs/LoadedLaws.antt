-- What is told of a module that is not loaded, and what is counted then.
use Rattle.std.proofs.Common.{◌≡◌, ◌≢◌, ◌<◌, ℕ, zero, suc, List, [], ◌∷◌, length, get_or, slice_get, sym, ap, subst, arith, Option, Some, None, Result, Err}
use Rattle.std.specs.Prelude.{String}
use Rattle.std.specs.declared.alloc.Global.{Global}
use Rattle.host_io.specs.Seen.{SeenFiles}
use Rattle.layout_lexer.specs.declared.fault.LexFault.{LexFault}
use Rattle.layout_lexer.specs.declared.fault.LexFault.TheVariants as lex
use Rattle.grammar.specs.declared.reading.ReadFault.{ReadFault}
use Rattle.grammar.specs.declared.reading.ReadFault.TheVariants as read
use Rattle.translation.specs.declared.fault.ScopeFault.{ScopeFault}
use Rattle.translation.specs.declared.fault.ScopeFault.TheVariants as scope
use Rattle.loading.specs.declared.text.LoadFault.{LoadFault}
use Rattle.loading.specs.declared.text.LoadFault.TheVariants as load
use Rattle.loading.specs.Texts.{CountsAfter}
use Rattle.outcomes.specs.declared.outcome.Outcome.{Outcome}
use Rattle.outcomes.specs.declared.outcome.Outcome.TheVariants as outcome
use Rattle.outcomes.specs.declared.refusal.Cause.TheVariants as cause
use Rattle.outcomes.specs.Refusals.{refusal, told_lex, told_read, told_load, told_scope}
use Rattle.session.specs.Counted.{IsCounted}

pub told_is : (old new : SeenFiles) (o told : Outcome) → Some o ≡ Some told → IsCounted old new o → IsCounted old new told
told_is old new o told e c = let h : o ≡ told = cc in subst (IsCounted old new) h c

lex_counted : (old new : SeenFiles) (f : LexFault) (path : Option (String Global)) (told : Outcome) → new.counts ≡ old.counts → told_lex f path ≡ Some told → IsCounted old new told
lex_counted old new (lex.NotUtf8 p) path told c e = told_is old new (refusal cause.NotUtf8 (Some p) path) told e c
lex_counted old new (lex.BadByte p) path told c e = told_is old new (refusal cause.BadByte (Some p) path) told e c
lex_counted old new (lex.OpenComment p) path told c e = told_is old new (refusal cause.OpenComment (Some p) path) told e c
lex_counted old new lex.TooLong path told c e = told_is old new (refusal cause.TooLong None path) told e c
lex_counted old new lex.Memory path told c e = cc

read_counted : (old new : SeenFiles) (f : ReadFault) (path : Option (String Global)) (told : Outcome) → new.counts ≡ old.counts → told_read f path ≡ Some told → IsCounted old new told
read_counted old new (read.RefusedForm p) path told c e = told_is old new (refusal cause.RefusedForm (Some p) path) told e c
read_counted old new (read.Unexpected p) path told c e = told_is old new (refusal cause.Unexpected (Some p) path) told e c
read_counted old new (read.TooDeep p) path told c e = told_is old new (refusal cause.TooDeep (Some p) path) told e c
read_counted old new read.Memory path told c e = cc

pub scope_counted : (old new : SeenFiles) (f : ScopeFault) (path : Option (String Global)) (told : Outcome) → new.counts ≡ old.counts → told_scope f path ≡ Some told → IsCounted old new told
scope_counted old new (scope.Unbound p) path told c e = told_is old new (refusal cause.Unbound (Some p) path) told e c
scope_counted old new (scope.Twice p) path told c e = told_is old new (refusal cause.Twice (Some p) path) told e c
scope_counted old new (scope.NameKind p) path told c e = told_is old new (refusal cause.NameKind (Some p) path) told e c
scope_counted old new (scope.GlueSide p) path told c e = told_is old new (refusal cause.GlueSide (Some p) path) told e c
scope_counted old new scope.Memory path told c e = cc

counted : (X : Type 0) (old new : SeenFiles) (f : LoadFault) (told : Outcome) → CountsAfter {X = X} (Err f) old.counts new.counts → told_load f ≡ Some told → IsCounted old new told
counted X old new (load.Missing path) told c e = told_is old new (outcome.MissingFile path) told e c
counted X old new load.Unreadable told c e = told_is old new outcome.ReadFault told e c
counted X old new (load.NoTokens f path) told c e = lex_counted old new f (Some path) told c e
counted X old new (load.NoModule f path) told c e = read_counted old new f (Some path) told c e
counted X old new (load.Cycle path) told c e = told_is old new (refusal cause.ImportCycle None (Some path)) told e c
counted X old new (load.TooMany path) told c e = told_is old new (refusal cause.TooMany None (Some path)) told e c
counted X old new load.Memory told c e = cc

pub load_counted : {X : Type 0} (r : Result X LoadFault) (old new : SeenFiles) (f : LoadFault) (told : Outcome) → r ≡ Err f → CountsAfter r old.counts new.counts → told_load f ≡ Some told → IsCounted old new told
load_counted {X} r old new f told is c e = counted X old new f told (subst (λ s. CountsAfter s old.counts new.counts) is c) e

-- out of memory is not told
pub is_told : (f : LoadFault) (told : Outcome) → told_load f ≡ Some told → f ≢ load.Memory
is_told f told e = λ memory. not (subst (λ g. told_load g ≡ Some told) memory e)
  where
    not : None ≡ Some told → ⊥
    not h = cc

-- what was read at a place of a list stands there
pub stands_at : {A : Type 0} (xs : List A) (i : ℕ) (x : A) → i < length xs → x ≡ get_or xs i x → slice_get xs i ≡ Some x
stands_at [] i x l e = absurd (omega arith)
stands_at (y ∷ ys) zero x l e = ap Some (sym e)
stands_at (y ∷ ys) (suc i) x l e = stands_at ys i x (omega arith) e
