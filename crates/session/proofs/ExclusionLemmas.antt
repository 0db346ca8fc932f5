-- Lemmas on answers that exclude each other.
use Rattle.std.proofs.Common.{◌≡◌, ◌≢◌, ◌<◌, ℕ, zero, suc, ◌++◌, List, [], ◌∷◌, length, take, slice_get, refl, sym, ◌∙◌, ap, subst, arith, Option, Some, None, codes, inl, inr}
use Rattle.std.specs.Prelude.{string_bytes, String}
use Rattle.std.specs.declared.alloc.Global.{Global}
use Rattle.std.proofs.lemmas.Bool.{cases_lt}
use Rattle.trees.specs.Judgements.{Judgement}
use Rattle.derivation.proofs.UniqueLaws.{derives_one, no_bad, bad_one}
use Rattle.replay.specs.declared.judging.Verdict.TheVariants.{Yes, No}
use Rattle.host_io.specs.Files.{Held, HoldsAt}
use Rattle.outcomes.specs.declared.outcome.Outcome.{Outcome}
use Rattle.outcomes.specs.declared.outcome.Outcome.TheVariants as outcome
use Rattle.session.specs.Modules.{DifferAt}
use Rattle.outcomes.proofs.ToldLaws.{SameAnswer, same_answer, same_missing}
use Rattle.session.specs.Answers.{IsFound, IsReplayed, OneVerdict}

pub one_verdict : OneVerdict
one_verdict bytes (Yes n k) (Yes m l) a b =
    let d = derives_one bytes n m a.1 b.1 a.2 b.2 in
    let rows : n ≡ m = d.0 in
    let roots : k ≡ l = a.3 ∙ ap length d.1 ∙ sym b.3 in
    cc
one_verdict bytes (Yes n k) (No row) a b = absurd (no_bad bytes row a.0 b)
one_verdict bytes (No row) (Yes m l) a b = absurd (no_bad bytes row b.0 a)
one_verdict bytes (No row) (No other) a b = ap No (bad_one bytes row other a b)

held_once : (path : List ℕ) (held : Held) (xs ys : List ℕ) → HoldsAt (Some held) path (Some xs) → HoldsAt (Some held) path (Some ys) → xs ≡ ys
held_once path held xs ys a b = cc

held_or_not : (path : List ℕ) (held : Held) (xs : List ℕ) → HoldsAt (Some held) path (Some xs) → HoldsAt (Some held) path None → ⊥
held_or_not path held xs a b = cc

-- places where lists differ

get_take : {A : Type 0} (xs : List A) (k n : ℕ) → k < n → slice_get (take n xs) k ≡ slice_get xs k
get_take [] k zero l = absurd (omega arith)
get_take [] k (suc n) l = refl
get_take (x ∷ xs) k zero l = absurd (omega arith)
get_take (x ∷ xs) zero (suc n) l = refl
get_take (x ∷ xs) (suc k) (suc n) l = get_take xs k n (omega arith)

not_first : {A : Type 0} (xs ys : List A) (k l : ℕ) → DifferAt xs ys k → DifferAt xs ys l → k < l → ⊥
not_first xs ys k l a b less = a.differ (sym (get_take xs k l less) ∙ ap (λ zs. slice_get zs k) b.same_before ∙ get_take ys k l less)

differ_once : {A : Type 0} (xs ys : List A) (k l : ℕ) → DifferAt xs ys k → DifferAt xs ys l → k ≡ l
differ_once xs ys k l a b =
    let no : k < l → ⊥ = not_first xs ys k l a b in
    let on : l < k → ⊥ = not_first xs ys l k b a in
    elim (cases_lt k l) [
      | inl less ↦ absurd (no less)
      | inr more ↦ elim (cases_lt l k) [ inl less ↦ absurd (on less) | inr less ↦ omega arith ]
    ]

-- the bytes of a file, whose roots are to be these, are found to be one thing
found_one : (bytes : List ℕ) (Js : List Judgement) (one other : Outcome) → IsFound bytes (Some Js) one → IsFound bytes (Some Js) other → SameAnswer one other
found_one bytes Js (outcome.Judged (Yes n k)) (outcome.Judged (Yes m l)) a b =
    let d = derives_one bytes n m Js Js a.1 b.1 in
    let rows : n ≡ m = d.0 in
    let roots : k ≡ l = a.2 ∙ sym b.2 in
    same_answer (outcome.Judged (Yes n k)) (outcome.Judged (Yes m l)) (ap (λ x. outcome.Judged (Yes x k)) rows ∙ ap (λ x. outcome.Judged (Yes m x)) roots)
found_one bytes Js (outcome.Judged (Yes n k)) (outcome.Judged (No row)) a b = absurd (no_bad bytes row a.0 b)
found_one bytes Js (outcome.Judged (Yes n k)) (outcome.RootDiffers l) a b =
    let f = b.1 in
    let d = derives_one bytes n f.0 Js f.1 a.1 f.2 in
    absurd (f.3.differ (ap (λ Ks. slice_get Ks l) (sym d.1)))
found_one bytes Js (outcome.Judged (No row)) (outcome.Judged (Yes m l)) a b = absurd (no_bad bytes row b.0 a)
found_one bytes Js (outcome.Judged (No row)) (outcome.Judged (No other)) a b =
    same_answer (outcome.Judged (No row)) (outcome.Judged (No other)) (ap (λ r. outcome.Judged (No r)) (bad_one bytes row other a b))
found_one bytes Js (outcome.Judged (No row)) (outcome.RootDiffers l) a b = absurd (no_bad bytes row b.0 a)
found_one bytes Js (outcome.RootDiffers k) (outcome.Judged (Yes m l)) a b =
    let f = a.1 in
    let d = derives_one bytes m f.0 Js f.1 b.1 f.2 in
    absurd (f.3.differ (ap (λ Ks. slice_get Ks k) (sym d.1)))
found_one bytes Js (outcome.RootDiffers k) (outcome.Judged (No row)) a b = absurd (no_bad bytes row a.0 b)
found_one bytes Js (outcome.RootDiffers k) (outcome.RootDiffers l) a b =
    let f = a.1 in
    let g = b.1 in
    let d = derives_one bytes f.0 g.0 f.1 g.1 f.2 g.2 in
    same_answer (outcome.RootDiffers k) (outcome.RootDiffers l) (ap outcome.RootDiffers (differ_once g.1 Js k l (subst (λ Ks. DifferAt Ks Js k) d.1 f.3) g.3))
found_one bytes Js (outcome.Refused r) other a b = absurd a
found_one bytes Js (outcome.Refuted r shown) other a b = absurd a
found_one bytes Js (outcome.Shown text) other a b = absurd a
found_one bytes Js (outcome.Made text ds k) other a b = absurd a
found_one bytes Js (outcome.Spent turns at path) other a b = absurd a
found_one bytes Js (outcome.MissingFile p) other a b = absurd a
found_one bytes Js outcome.ReadFault other a b = absurd a
found_one bytes Js outcome.Usage other a b = absurd a
found_one bytes Js (outcome.Checked n) other a b = absurd a
found_one bytes Js outcome.WriteFault other a b = absurd a
found_one bytes Js (outcome.Judged (Yes n k)) (outcome.Refused r) a b = absurd b
found_one bytes Js (outcome.Judged (Yes n k)) (outcome.Refuted r shown) a b = absurd b
found_one bytes Js (outcome.Judged (Yes n k)) (outcome.Shown text) a b = absurd b
found_one bytes Js (outcome.Judged (Yes n k)) (outcome.Made text ds l) a b = absurd b
found_one bytes Js (outcome.Judged (Yes n k)) (outcome.Spent turns at path) a b = absurd b
found_one bytes Js (outcome.Judged (Yes n k)) (outcome.MissingFile p) a b = absurd b
found_one bytes Js (outcome.Judged (Yes n k)) outcome.ReadFault a b = absurd b
found_one bytes Js (outcome.Judged (Yes n k)) outcome.Usage a b = absurd b
found_one bytes Js (outcome.Judged (Yes n k)) (outcome.Checked i) a b = absurd b
found_one bytes Js (outcome.Judged (Yes n k)) outcome.WriteFault a b = absurd b
found_one bytes Js (outcome.Judged (No row)) (outcome.Refused r) a b = absurd b
found_one bytes Js (outcome.Judged (No row)) (outcome.Refuted r shown) a b = absurd b
found_one bytes Js (outcome.Judged (No row)) (outcome.Shown text) a b = absurd b
found_one bytes Js (outcome.Judged (No row)) (outcome.Made text ds l) a b = absurd b
found_one bytes Js (outcome.Judged (No row)) (outcome.Spent turns at path) a b = absurd b
found_one bytes Js (outcome.Judged (No row)) (outcome.MissingFile p) a b = absurd b
found_one bytes Js (outcome.Judged (No row)) outcome.ReadFault a b = absurd b
found_one bytes Js (outcome.Judged (No row)) outcome.Usage a b = absurd b
found_one bytes Js (outcome.Judged (No row)) (outcome.Checked i) a b = absurd b
found_one bytes Js (outcome.Judged (No row)) outcome.WriteFault a b = absurd b
found_one bytes Js (outcome.RootDiffers k) (outcome.Refused r) a b = absurd b
found_one bytes Js (outcome.RootDiffers k) (outcome.Refuted r shown) a b = absurd b
found_one bytes Js (outcome.RootDiffers k) (outcome.Shown text) a b = absurd b
found_one bytes Js (outcome.RootDiffers k) (outcome.Made text ds l) a b = absurd b
found_one bytes Js (outcome.RootDiffers k) (outcome.Spent turns at path) a b = absurd b
found_one bytes Js (outcome.RootDiffers k) (outcome.MissingFile p) a b = absurd b
found_one bytes Js (outcome.RootDiffers k) outcome.ReadFault a b = absurd b
found_one bytes Js (outcome.RootDiffers k) outcome.Usage a b = absurd b
found_one bytes Js (outcome.RootDiffers k) (outcome.Checked i) a b = absurd b
found_one bytes Js (outcome.RootDiffers k) outcome.WriteFault a b = absurd b

verdict_one : (bytes : List ℕ) (one other : Outcome) → IsFound bytes None one → IsFound bytes None other → SameAnswer one other
verdict_one bytes (outcome.Judged v) (outcome.Judged w) a b = same_answer (outcome.Judged v) (outcome.Judged w) (ap outcome.Judged (one_verdict bytes v w a b))
verdict_one bytes (outcome.RootDiffers k) other a b = absurd a
verdict_one bytes (outcome.Refused r) other a b = absurd a
verdict_one bytes (outcome.Refuted r shown) other a b = absurd a
verdict_one bytes (outcome.Shown text) other a b = absurd a
verdict_one bytes (outcome.Made text ds k) other a b = absurd a
verdict_one bytes (outcome.Spent turns at path) other a b = absurd a
verdict_one bytes (outcome.MissingFile p) other a b = absurd a
verdict_one bytes outcome.ReadFault other a b = absurd a
verdict_one bytes outcome.Usage other a b = absurd a
verdict_one bytes (outcome.Checked n) other a b = absurd a
verdict_one bytes outcome.WriteFault other a b = absurd a
verdict_one bytes (outcome.Judged v) (outcome.RootDiffers k) a b = absurd b
verdict_one bytes (outcome.Judged v) (outcome.Refused r) a b = absurd b
verdict_one bytes (outcome.Judged v) (outcome.Refuted r shown) a b = absurd b
verdict_one bytes (outcome.Judged v) (outcome.Shown text) a b = absurd b
verdict_one bytes (outcome.Judged v) (outcome.Made text ds k) a b = absurd b
verdict_one bytes (outcome.Judged v) (outcome.Spent turns at path) a b = absurd b
verdict_one bytes (outcome.Judged v) (outcome.MissingFile p) a b = absurd b
verdict_one bytes (outcome.Judged v) outcome.ReadFault a b = absurd b
verdict_one bytes (outcome.Judged v) outcome.Usage a b = absurd b
verdict_one bytes (outcome.Judged v) (outcome.Checked i) a b = absurd b
verdict_one bytes (outcome.Judged v) outcome.WriteFault a b = absurd b

either_one : (bytes : List ℕ) (wanted : Option (List Judgement)) (one other : Outcome) → IsFound bytes wanted one → IsFound bytes wanted other → SameAnswer one other
either_one bytes None one other a b = verdict_one bytes one other a b
either_one bytes (Some Js) one other a b = found_one bytes Js one other a b

-- how a replay ends: the path is missing, or what it holds is found to be that
data Ended (held : Held) (path : List ℕ) (wanted : Option (List Judgement)) : Outcome → Type 0 where
  missing : (p : String Global) → string_bytes p ≡ path → HoldsAt (Some held) path None → Ended held path wanted (outcome.MissingFile p)
  found : (told : Outcome) (bytes : List ℕ) → HoldsAt (Some held) path (Some bytes) → IsFound bytes wanted told → Ended held path wanted told

ended : (held : Held) (path : List ℕ) (wanted : Option (List Judgement)) (told : Outcome) → told ≢ outcome.ReadFault → IsReplayed (Some held) path wanted told → Ended held path wanted told
ended held path wanted (outcome.MissingFile p) n a = missing p a.0 a.1
ended held path wanted outcome.ReadFault n a = absurd (n refl)
ended held path wanted (outcome.Judged v) n a = found (outcome.Judged v) a.0 a.1 a.2
ended held path wanted (outcome.RootDiffers k) n a = found (outcome.RootDiffers k) a.0 a.1 a.2
ended held path wanted (outcome.Refused r) n a = found (outcome.Refused r) a.0 a.1 a.2
ended held path wanted (outcome.Refuted r shown) n a = found (outcome.Refuted r shown) a.0 a.1 a.2
ended held path wanted (outcome.Shown text) n a = found (outcome.Shown text) a.0 a.1 a.2
ended held path wanted (outcome.Made text ds k) n a = found (outcome.Made text ds k) a.0 a.1 a.2
ended held path wanted (outcome.Spent turns at told) n a = found (outcome.Spent turns at told) a.0 a.1 a.2
ended held path wanted outcome.Usage n a = found outcome.Usage a.0 a.1 a.2
ended held path wanted (outcome.Checked count) n a = found (outcome.Checked count) a.0 a.1 a.2
ended held path wanted outcome.WriteFault n a = found outcome.WriteFault a.0 a.1 a.2

ended_one : (held : Held) (path : List ℕ) (wanted : Option (List Judgement)) (one other : Outcome) → Ended held path wanted one → Ended held path wanted other → SameAnswer one other
ended_one held path wanted _ _ (missing p e h) (missing q e' h') = same_missing p q (e ∙ sym e')
ended_one held path wanted _ other (missing p e h) (found told bytes h' f) = absurd (held_or_not path held bytes h' h)
ended_one held path wanted one _ (found told bytes h f) (missing q e' h') = absurd (held_or_not path held bytes h h')
ended_one held path wanted one other (found told bytes h f) (found told' bytes' h' f') =
    either_one bytes' wanted one other (subst (λ bs. IsFound bs wanted one) (held_once path held bytes bytes' h h') f) f'

pub replayed_one : (held : Held) (path : List ℕ) (wanted : Option (List Judgement)) (one other : Outcome) → one ≢ outcome.ReadFault → other ≢ outcome.ReadFault → IsReplayed (Some held) path wanted one → IsReplayed (Some held) path wanted other → SameAnswer one other
replayed_one held path wanted one other n n' a b = ended_one held path wanted one other (ended held path wanted one n a) (ended held path wanted other n' b)
