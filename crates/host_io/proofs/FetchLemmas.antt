-- What a fetch gives, by what the system answered.
use Rattle.std.proofs.Common.{◌≡◌, ◌<◌, ◌≤◌, ◌+◌, ◌++◌, ℕ, Bool, true, false, List, length, min, take, drop, sym, ◌∙◌, ap, subst, arith, rules}
use Rattle.std.proofs.Common.{None, Some, Result, Ok, Err, IfOk, IfSome, OnErr, Option}
use Rattle.std.specs.Option.{option_map}
use Rattle.std.specs.Prelude.{replicate}
use Rattle.std.proofs.lemmas.List.{append_cancel_left, length-append, length-replicate, length-take, take_all, take-append-drop}
use Rattle.std.specs.Io.{StartsWith}
use Rattle.std.specs.IoError.{error_kind}
use Rattle.std.specs.declared.io.Error.{Error}
use Rattle.host_io.specs.declared.faults.Fault.{Fault}
use Rattle.host_io.specs.declared.faults.Fault.TheVariants as fault
use Rattle.host_io.specs.declared.files.Fetched.TheVariants as fetched
use Rattle.host_io.specs.Disk.{AppendsBelow, ReadsFile}
use Rattle.host_io.specs.Faults.{fault_of, fetched_after, fetched_from}
use Rattle.host_io.specs.Files.{FetchGives}

module _ (path : List ℕ) (limit : ℕ) (old new : List ℕ) where
  failed : (why : Fault) → new ≡ old → FetchGives None path limit old new (fetched_after why)
  failed fault.Interrupted same = same
  failed fault.Missing same = (same, tt)
  failed fault.Memory same = same
  failed fault.Other same = same

  pub gives : {F : Type 0} (left : F → Option (List ℕ)) (answer : Result Bool Error) → IfOk answer (ReadsFile left limit old new) → OnErr answer (new ≡ old) → FetchGives None path limit old new (fetched_from answer)
  gives left (Ok true) ok err = (ok.1.0, ok.1.1, tt, ok.1.2)
  gives left (Ok false) ok err = (replicate limit 0, ok.1.0, tt, subst (λ n. limit ≤ n) (sym (length-replicate limit 0)) (omega arith))
  gives left (Err error) ok err = failed (fault_of (error_kind error)) err

-- what a reader has up to a limit is all that it has, if that is below the limit
pub below : (left : Option (List ℕ)) (limit n : ℕ) (old new : List ℕ) → IfSome (option_map (take limit) left) (λ xs. new ≡ old ++ xs) → StartsWith new old → length new ≡ length old + n → n < limit → AppendsBelow left limit old new true
below left limit n old new known starts count few = (drop (length old) new, whole, small, all left known)
  where
    whole : new ≡ old ++ drop (length old) new
    whole = sym (take-append-drop (length old) new) ∙ ap (λ kept. kept ++ drop (length old) new) starts

    size : length (drop (length old) new) ≡ n
    size = let e : length new ≡ length old + length (drop (length old) new) = ap length whole ∙ length-append old (drop (length old) new) in omega arith

    small : length (drop (length old) new) < limit
    small = subst (λ k. k < limit) (sym size) few

    all : (left : Option (List ℕ)) → IfSome (option_map (take limit) left) (λ xs. new ≡ old ++ xs) → IfSome left (λ xs. drop (length old) new ≡ xs)
    all None known = tt
    all (Some xs) known =
        let same : drop (length old) new ≡ take limit xs = append_cancel_left old (drop (length old) new) (take limit xs) (sym whole ∙ known) in
        let len : min limit (length xs) ≡ n = sym (length-take limit xs) ∙ ap length (sym same) ∙ size in
        same ∙ take_all limit xs (grind (arith, rules))
