-- Gates evaluated one after another.
use Rattle.std.proofs.Common.{◌≡◌, ◌<◌, ◌≤◌, ◌+◌, ℕ, zero, suc, Bool, false, not, cond, ◌&&◌, List, [], ◌∷◌, ◌++◌, length, length-append, Option, Some, None, inl, inr, refl, sym, ◌∙◌, ap, subst, get_or, arith}
use Rattle.std.specs.List.{All, slice_get}
use Rattle.std.specs.Option.{unwrap_or}
use Rattle.std.proofs.lemmas.Bool.{cases_lt}
use Rattle.std.proofs.lemmas.List.{get_or_append_left, get_or_push}
use Rattle.std.proofs.lemmas.Option.{slice_get-get_or, slice_get_within}
use Rattle.circuits.specs.declared.gates.Gate.{Gate}
use Rattle.circuits.specs.declared.gates.Gate.TheVariants as gate
use Rattle.circuits.specs.declared.gates.Wire.{Wire}
use Rattle.circuits.specs.Circuits.{Labels, wire_truth, AreTrue, Obeys, AreOrdered, IsIn, IsAsGate, IsOver}
use Rattle.circuits.specs.Evaluations.{labels_of, evaluated_gate, IsEvaluated, NoneIsFree}

pub labels_before : (truths : List Bool) (t : Bool) (k : ℕ) → k < length truths → labels_of (truths ++ t ∷ []) k ≡ labels_of truths k
labels_before truths t k lt = get_or_append_left truths (t ∷ []) false k lt

pub labels_at : (truths : List Bool) (t : Bool) → labels_of (truths ++ t ∷ []) (length truths) ≡ t
labels_at truths t = get_or_push truths t false (length truths) refl

-- the truth of a gate depends on its kids alone
pub evaluated_before : (w v : Labels) (known : Option Bool) (n : ℕ) (g : Gate) → ((j : ℕ) → j < n → v j ≡ w j) → IsOver n g → evaluated_gate v known g ≡ evaluated_gate w known g
evaluated_before w v known n gate.Top same over = refl
evaluated_before w v known n gate.Input same over = refl
evaluated_before w v known n (gate.Both l r) same over =
    ap (λ t. cond l.negated (not t) t && wire_truth v r) (same l.gate over.0)
    ∙ ap (λ t. wire_truth w l && cond r.negated (not t) t) (same r.gate over.1)

pub evaluated_none : (gates : List Gate) (known : List (Option Bool)) (truths : List Bool) → truths ≡ [] → IsEvaluated gates known truths 0
evaluated_none gates known truths e = record { all = ap length e; each = λ k g lt is. absurd (omega arith) }

pub evaluated_more : (gates : List Gate) (known : List (Option Bool)) (truths : List Bool) (n : ℕ) (g : Gate) (t : Bool) → AreOrdered gates → IsEvaluated gates known truths n → slice_get gates n ≡ Some g → t ≡ evaluated_gate (labels_of truths) (get_or known n None) g → IsEvaluated gates known (truths ++ t ∷ []) (n + 1)
evaluated_more gates known truths n g t o ev at is = record {
  all = length-append truths (t ∷ []) ∙ ap (λ m. m + 1) ev.all;
  each = λ k h lt here.
      let v = labels_of (truths ++ t ∷ []) in
      let w = labels_of truths in
      let before : (j : ℕ) → j < n → v j ≡ w j = λ j l. let a = ev.all in labels_before truths t j (omega arith) in
      elim (cases_lt k n) [
        | inl l ↦
            let over = o.each k h here in
            before k l ∙ ev.each k h l here ∙ sym (evaluated_before w v (get_or known k None) k h (λ j m. before j (omega arith)) over)
        | inr l ↦
            let same : k ≡ n = omega arith in
            let gate_is : h ≡ g = cc in
            let last : v n ≡ t = subst (λ m. v m ≡ t) ev.all (labels_at truths t) in
            let over : IsOver n g = o.each n g at in
            let now : v n ≡ evaluated_gate v (get_or known n None) g = last ∙ is ∙ sym (evaluated_before w v (get_or known n None) n g before over) in
            subst (λ m. v m ≡ evaluated_gate v (get_or known m None) h) (sym same) (subst (λ x. v n ≡ evaluated_gate v (get_or known n None) x) (sym gate_is) now)
      ];
}

-- what is evaluated is as it has to be
as_evaluated : (w : Labels) (known : Option Bool) (k : ℕ) (g : Gate) → w k ≡ evaluated_gate w known g → IsAsGate w k g
as_evaluated w known k gate.Top e = e
as_evaluated w known k gate.Input e = tt
as_evaluated w known k (gate.Both l r) e = e

pub evaluated_obeys : (gates : List Gate) (known : List (Option Bool)) (truths : List Bool) → IsEvaluated gates known truths (length gates) → Obeys gates (labels_of truths)
evaluated_obeys gates known truths ev = record {
  each = λ k g at. as_evaluated (labels_of truths) (get_or known k None) k g (ev.each k g (slice_get_within gates k g at) at);
}

-- the labels are as they are fixed
abbrev pub FitsKnown : Labels → List (Option Bool) → Type 0
FitsKnown w known = (k : ℕ) (truth : Bool) → slice_get known k ≡ Some (Some truth) → w k ≡ truth

fixed_input : (known : Option Bool) (t : Bool) → (known ≡ None → ⊥) → ((s : Bool) → known ≡ Some s → t ≡ s) → unwrap_or known false ≡ t
fixed_input None t some is = absurd (some refl)
fixed_input (Some s) t some is = sym (is s refl)

agrees_at : (gates : List Gate) (known : List (Option Bool)) (v w : Labels) (n : ℕ) (g : Gate) → AreOrdered gates → length known ≡ length gates → NoneIsFree gates known → Obeys gates w → FitsKnown w known → slice_get gates n ≡ Some g → v n ≡ evaluated_gate v (get_or known n None) g → ((j : ℕ) → j < n → v j ≡ w j) → v n ≡ w n
agrees_at gates known v w n gate.Top o len free obeys fits at is below = is ∙ sym (obeys.each n gate.Top at)
agrees_at gates known v w n gate.Input o len free obeys fits at is below =
    let lt : n < length known = let l = slice_get_within gates n gate.Input at in omega arith in
    let there : slice_get known n ≡ Some (get_or known n None) = slice_get-get_or known n None lt in
    is ∙ fixed_input (get_or known n None) (w n) (λ e. free.each n at (there ∙ ap Some e)) (λ s e. fits n s (there ∙ ap Some e))
agrees_at gates known v w n (gate.Both l r) o len free obeys fits at is below =
    is ∙ evaluated_before w v (get_or known n None) n (gate.Both l r) below (o.each n (gate.Both l r) at) ∙ sym (obeys.each n (gate.Both l r) at)

pub agrees : (gates : List Gate) (known : List (Option Bool)) (truths : List Bool) (w : Labels) → AreOrdered gates → length known ≡ length gates → NoneIsFree gates known → Obeys gates w → FitsKnown w known → IsEvaluated gates known truths (length gates) → (n : ℕ) → n ≤ length gates → (k : ℕ) → k < n → labels_of truths k ≡ w k
agrees gates known truths w o len free obeys fits ev zero le k lt = absurd (omega arith)
agrees gates known truths w o len free obeys fits ev (suc n) le k lt =
    let below = agrees gates known truths w o len free obeys fits ev n (omega arith) in
    elim (cases_lt k n) [
      | inl l ↦ below k l
      | inr l ↦
          let same : k ≡ n = omega arith in
          let within : n < length gates = omega arith in
          let at = slice_get-get_or gates n gate.Top within in
          subst (λ m. labels_of truths m ≡ w m) (sym same) (agrees_at gates known (labels_of truths) w n (get_or gates n gate.Top) o len free obeys fits at (ev.each n (get_or gates n gate.Top) within at) below)
    ]

-- so wires that are true are found true
pub found_true : (gates : List Gate) (known : List (Option Bool)) (truths : List Bool) (w : Labels) (goals : List Wire) → AreOrdered gates → length known ≡ length gates → NoneIsFree gates known → Obeys gates w → FitsKnown w known → IsEvaluated gates known truths (length gates) → All (IsIn gates) goals → AreTrue w goals → AreTrue (labels_of truths) goals
found_true gates known truths w goals o len free obeys fits ev within true_there = λ k d lt.
    let x = get_or goals k d in
    let lies : x.gate < length gates = within k d lt in
    let same = agrees gates known truths w o len free obeys fits ev (length gates) (omega arith) x.gate lies in
    ap (λ t. cond x.negated (not t) t) same ∙ true_there k d lt
