-- Binding a name keeps the text and the code in step.
use Rattle.std.proofs.Common.{◌≡◌, ◌+◌, ◌<◌, ◌≤◌, ◌==◌, ℕ, suc, true, false, List, [], ◌∷◌, refl, sym, ap, ◌∙◌, arith, subst, bytes_eq, if◌then◌else◌}
use Rattle.trees.specs.Trees.{Tree, Var}
use Rattle.trees.specs.Judgements.{WithVar, WithName, WithFace}
use Rattle.translation.specs.Scopes.{Scope, Variable, Interval, Face, Definition}
use Rattle.translation.specs.Terms.{innermost}
use Rattle.translation.specs.Names.{Word, Meaning, Term, Index, BuiltInName, Nothing, nearest as nearest_meaning, deeper as deeper_meaning}
use Rattle.codes.specs.Codes.{body_of}
use Rattle.scopes.specs.declared.names.Binding.{Binding}
use Rattle.scopes.specs.declared.names.Binding.TheVariants as binding
use Rattle.scopes.specs.declared.names.Found.{Found}
use Rattle.scopes.specs.declared.names.Found.TheVariants as found
use Rattle.scopes.specs.Finding.{Named, nearest, deeper, past, bound, outermost}
use Rattle.scopes.specs.Steps.{State, Progress, Agree, meant, bound_to, IsEarlier, AreEarlier, Keeps}

variable_raised : (k : ℕ) → Var (k + 1) ≡ Var (suc k)
variable_raised k = let e : k + 1 ≡ suc k = omega arith in ap Var e

meant_variable : (f : Found) (x : ℕ) (A : Tree) (H : Scope ℕ) → deeper_meaning (meant H f) ≡ meant (Variable x A ∷ H) (deeper f)
meant_variable (found.Variable k) x A H = ap Term (variable_raised k)
meant_variable (found.Interval k) x A H = refl
meant_variable (found.Definition n) x A H = refl
meant_variable (found.BuiltIn b) x A H = refl
meant_variable found.Nothing x A H = refl

meant_interval : (f : Found) (x : ℕ) (H : Scope ℕ) → deeper_meaning (meant H f) ≡ meant (Interval x ∷ H) (deeper f)
meant_interval (found.Variable k) x H = ap Term (variable_raised k)
meant_interval (found.Interval k) x H = refl
meant_interval (found.Definition n) x H = refl
meant_interval (found.BuiltIn b) x H = refl
meant_interval found.Nothing x H = refl

meant_face : (f : Found) (p : Tree) (H : Scope ℕ) → meant H f ≡ meant (Face p ∷ H) f
meant_face (found.Variable k) p H = refl
meant_face (found.Interval k) p H = refl
meant_face (found.Definition n) p H = refl
meant_face (found.BuiltIn b) p H = refl
meant_face found.Nothing p H = refl

-- what is found is a definition of an earlier number, if any
unfoldable pub IsFoundEarlier : ℕ → Found → Type 0
IsFoundEarlier next (found.Definition n) = n < next
IsFoundEarlier next _ = Unit {0}

deeper_earlier : (next : ℕ) (f : Found) → IsFoundEarlier next f → IsFoundEarlier next (deeper f)
unfolding IsFoundEarlier
deeper_earlier next (found.Variable k) h = tt
deeper_earlier next (found.Interval k) h = tt
deeper_earlier next (found.Definition n) h = h
deeper_earlier next (found.BuiltIn b) h = tt
deeper_earlier next found.Nothing h = tt

past_earlier : (next : ℕ) (b : Binding) (f : Found) → IsFoundEarlier next f → IsFoundEarlier next (past b f)
past_earlier next binding.Variable f h = deeper_earlier next f h
past_earlier next binding.Interval f h = deeper_earlier next f h
past_earlier next (binding.Definition n) f h = h

bound_earlier : (next : ℕ) (b : Binding) → IsEarlier next b → IsFoundEarlier next (bound b)
unfolding IsFoundEarlier
bound_earlier next binding.Variable h = tt
bound_earlier next binding.Interval h = tt
bound_earlier next (binding.Definition n) h = h

outermost_earlier : (next : ℕ) (m : Meaning) → IsFoundEarlier next (outermost m)
unfolding IsFoundEarlier
outermost_earlier next (Term t) = tt
outermost_earlier next (Index k) = tt
outermost_earlier next (BuiltInName b) = tt
outermost_earlier next Nothing = tt

pub nearest_earlier : (next : ℕ) (ns : List Named) (x : Word) → AreEarlier next ns → IsFoundEarlier next (nearest ns x)
nearest_earlier next [] x h = outermost_earlier next _
nearest_earlier next (n ∷ ns) x h =
    elim (bytes_eq n.word x) as (λ b. IsFoundEarlier next (if b then bound n.binding else past n.binding (nearest ns x))) [
      | true ↦ bound_earlier next n.binding h.0
      | false ↦ past_earlier next n.binding _ (nearest_earlier next ns x h.1)
    ]

same_number : (n : ℕ) → (n == n) ≡ true
same_number n = grind arith

other_number : (m n : ℕ) → m < n → (n == m) ≡ false
other_number m n h = grind arith

meant_definition : (f : Found) (n : ℕ) (t : Tree) (H : Scope ℕ) → IsFoundEarlier n f → meant H f ≡ meant (Definition n t ∷ H) f
unfolding IsFoundEarlier
meant_definition (found.Variable k) n t H h = refl
meant_definition (found.Interval k) n t H h = refl
meant_definition (found.Definition m) n t H h = ap (λ b. Term (if b then t else body_of H m)) (sym (other_number m n h))
meant_definition (found.BuiltIn b) n t H h = refl
meant_definition found.Nothing n t H h = refl

meant_it : (n : ℕ) (t : Tree) (H : Scope ℕ) → Term t ≡ meant (Definition n t ∷ H) (found.Definition n)
meant_it n t H = ap (λ b. Term (if b then t else body_of H n)) (sym (same_number n))

pub earlier_after : (m n : ℕ) (ns : List Named) → m ≤ n → AreEarlier m ns → AreEarlier n ns
earlier_after m n [] h e = tt
earlier_after m n (x ∷ ns) h e = (one_after x.binding e.0, earlier_after m n ns h e.1)
  where
    one_after : (b : Binding) → IsEarlier m b → IsEarlier n b
    one_after binding.Variable i = tt
    one_after binding.Interval i = tt
    one_after (binding.Definition k) i = omega arith

pub agree_variable : (s : State) (G : Scope Word) (H : Scope ℕ) (x : Word) (A : Tree) → Agree s G H
    → Agree (bound_to s x binding.Variable) (Variable x A ∷ G) (Variable 0 A ∷ H)
agree_variable s G H x A a = record {
  contexts = ap (λ c. WithVar c A) a.contexts;
  words = λ w. elim (bytes_eq x w) as (λ b. (if b then Term innermost else deeper_meaning (nearest_meaning G w)) ≡ meant (Variable 0 A ∷ H) (if b then found.Variable 0 else deeper (nearest s.names w))) [
    | true ↦ refl
    | false ↦ ap deeper_meaning (a.words w) ∙ meant_variable (nearest s.names w) 0 A H
  ];
  definitions = (tt, a.definitions);
}

pub agree_interval : (s : State) (G : Scope Word) (H : Scope ℕ) (x : Word) → Agree s G H
    → Agree (bound_to s x binding.Interval) (Interval x ∷ G) (Interval 0 ∷ H)
agree_interval s G H x a = record {
  contexts = ap WithName a.contexts;
  words = λ w. elim (bytes_eq x w) as (λ b. (if b then Index 0 else deeper_meaning (nearest_meaning G w)) ≡ meant (Interval 0 ∷ H) (if b then found.Interval 0 else deeper (nearest s.names w))) [
    | true ↦ refl
    | false ↦ ap deeper_meaning (a.words w) ∙ meant_interval (nearest s.names w) 0 H
  ];
  definitions = (tt, a.definitions);
}

pub agree_face : (s : State) (G : Scope Word) (H : Scope ℕ) (p : Tree) → Agree s G H
    → Agree s (Face p ∷ G) (Face p ∷ H)
agree_face s G H p a = record {
  contexts = ap (λ c. WithFace c p) a.contexts;
  words = λ w. a.words w ∙ meant_face (nearest s.names w) p H;
  definitions = a.definitions;
}

-- A definition takes the next number.
pub agree_definition : (s : State) (G : Scope Word) (H : Scope ℕ) (x : Word) (t : Tree) (p : Progress) → Agree s G H
    → s.so_far.next < p.next
    → Agree (record { names = record { word = x; binding = binding.Definition s.so_far.next } ∷ s.names; so_far = p })
    (Definition x t ∷ G) (Definition s.so_far.next t ∷ H)
agree_definition s G H x t p a h = record {
  contexts = a.contexts;
  words = λ w. elim (bytes_eq x w) as (λ b. (if b then Term t else nearest_meaning G w) ≡ meant (Definition s.so_far.next t ∷ H) (if b then found.Definition s.so_far.next else nearest s.names w)) [
    | true ↦ meant_it s.so_far.next t H
    | false ↦ a.words w ∙ meant_definition (nearest s.names w) s.so_far.next t H (nearest_earlier s.so_far.next s.names w a.definitions)
  ];
  definitions = (h, earlier_after s.so_far.next p.next s.names (omega arith) a.definitions);
}

pub agree_after : (s t : State) (G : Scope Word) (H : Scope ℕ) → Keeps s t → Agree s G H → Agree t G H
agree_after s t G H k a = record {
  contexts = a.contexts;
  words = λ w. a.words w ∙ ap (λ ns. meant H (nearest ns w)) (sym k.names);
  definitions = subst (AreEarlier t.so_far.next) (sym k.names) (earlier_after s.so_far.next t.so_far.next s.names k.grows a.definitions);
}
