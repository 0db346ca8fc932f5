-- Definitions, and what is resolved after them.
use Rattle.std.proofs.Common.{◌≡◌, ◌+◌, ◌-◌, ◌≤◌, ◌&&◌, ◌||◌, not, ℕ, suc, Bool, true, false, List, [], ◌∷◌, ◌++◌, length, drop, refl, sym, ap, ◌∙◌, arith, subst, bytes_eq, if◌then◌else◌}
use Rattle.std.specs.Bool.{Decides}
use Rattle.std.specs.List.{list_any}
use Rattle.std.proofs.lemmas.Bool.Decides.{nat_tests}
use Rattle.std.proofs.lemmas.Slice.Eq.{bytes_eq-Decides}
use Rattle.trees.specs.Trees.{Tree}
use Rattle.trees.specs.Judgements.{Context}
use Rattle.translation.specs.declared.fault.Cause.{Cause}
use Rattle.translation.specs.declared.fault.Cause.TheVariants.{Twice}
use Rattle.translation.specs.Scopes.{Scope, Definition, context_of}
use Rattle.translation.specs.Translated.{Translated, Stated, done, refused, states, ◌>>=◌, judgements_of}
use Rattle.translation.specs.Forms.{Means, define}
use Rattle.translation.specs.Names.{Word, is_nameless}
use Rattle.translation.specs.Texts.{Written, word, once, block_after}
use Rattle.codes.specs.Codes.{definition, definitions}
use Rattle.codes.specs.declared.code.CodeDef.{CodeDef}
use Rattle.codes.proofs.Logs.{then_same, then_assoc, then_done, earlier_none, length_append}
use Rattle.scopes.specs.declared.names.Binding.TheVariants as binding
use Rattle.scopes.specs.declared.names.Found.{Found}
use Rattle.scopes.specs.declared.names.Found.TheVariants as found
use Rattle.scopes.specs.Finding.{nearest, find, bound}
use Rattle.scopes.specs.Steps.{State, Progress, Agree, Moves, Same, Keeps, Resolves, Opens, Defines, Adds, after_defs, AreEarlier, bound_to, noted, checked, is_newer}
use Rattle.scopes.proofs.Agreeing.{agree_definition, agree_after, IsFoundEarlier, nearest_earlier}
use Rattle.scopes.proofs.Moving.{moves_done, moves_then, moves_same, keeps_same}
use Rattle.scopes.proofs.Binders.{extends_then, extends_kept, keeps_cut}

-- a text that is refused

pub moves_refused : {A B : Type 0} (s : Progress) (R : A → B → Type 0) (at : ℕ) (why : Cause) (a : A) (b : B) → R a b
    → Moves s (noted s at why) R (refused at why a) (done b)
moves_refused s R at why a b h = record { value = h; judgements = refl; numbered = refl; next = omega arith; refusal = refl }

-- a definition that is stated

abbrev AnyTwo : Unit {0} → Unit {0} → Type 0
AnyTwo a b = Unit {0}

moves_stated : (s : Progress) (d : Stated Word) (e : Stated ℕ) → judgements_of (e ∷ []) ≡ judgements_of (d ∷ []) → e.name ≡ s.next
    → Moves s (record s { next = suc s.next }) AnyTwo (states d) (states e)
moves_stated s d e j n = record {
  value = tt;
  judgements = j;
  numbered = ap (λ k. k ∷ []) n;
  next = omega arith;
  refusal = sym (earlier_none s.refusal);
}

judged : (c d : Context) (p q : Tree × Tree) → d ≡ c → q ≡ p
    → judgements_of {N = ℕ} (record { name = 0; context = d; type = q.0; body = q.1 } ∷ []) ≡ judgements_of {N = ℕ} (record { name = 0; context = c; type = p.0; body = p.1 } ∷ [])
judged c d p q e f =
    ap (λ x. judgements_of {N = ℕ} (record { name = 0; context = x; type = q.0; body = q.1 } ∷ [])) e
    ∙ ap (λ r. judgements_of {N = ℕ} (record { name = 0; context = c; type = r.0; body = r.1 } ∷ [])) f

-- definitions that are added

adds_none : (G : Scope Word) (H : Scope ℕ) → Adds G H G H
adds_none G H = record { words = []; numbers = []; bodies = []; named = refl; numbered = refl; spelt = refl; code = refl }

adds_one : (G : Scope Word) (H : Scope ℕ) (x : Word) (n : ℕ) (t u : Tree) → u ≡ t → Adds G H (Definition x t ∷ G) (Definition n u ∷ H)
adds_one G H x n t u e = record {
  words = x ∷ [];
  numbers = n ∷ [];
  bodies = t ∷ [];
  named = refl;
  numbered = refl;
  spelt = refl;
  code = ap (λ b. Definition n b ∷ H) e;
}

after_append : {N : Type 0} (xs ys : List N) (ts us : List Tree) (G : Scope N) → length xs ≡ length ts
    → after_defs (xs ++ ys) (ts ++ us) G ≡ after_defs ys us (after_defs xs ts G)
after_append [] ys [] us G e = refl
after_append [] ys (t ∷ ts) us G e = absurd (omega arith)
after_append (x ∷ xs) ys [] us G e = absurd (omega arith)
after_append (x ∷ xs) ys (t ∷ ts) us G e = after_append xs ys ts us (Definition x t ∷ G) (omega arith)

adds_then : (G : Scope Word) (H : Scope ℕ) (K : Scope Word) (L : Scope ℕ) (G' : Scope Word) (H' : Scope ℕ)
    → Adds G H K L → Adds K L G' H' → Adds G H G' H'
adds_then G H K L G' H' a b = record {
  words = a.words ++ b.words;
  numbers = a.numbers ++ b.numbers;
  bodies = a.bodies ++ b.bodies;
  named = let d = length_append a.words b.words in let e = length_append a.bodies b.bodies in let x = a.named in let y = b.named in omega arith;
  numbered = let d = length_append a.numbers b.numbers in let e = length_append a.bodies b.bodies in let x = a.numbered in let y = b.numbered in omega arith;
  spelt = b.spelt ∙ ap (after_defs b.words b.bodies) a.spelt ∙ sym (after_append a.words b.words a.bodies b.bodies G a.named);
  code = b.code ∙ ap (after_defs b.numbers b.bodies) a.code ∙ sym (after_append a.numbers b.numbers a.bodies b.bodies H a.numbered);
}

-- The definition takes the next number.
pub defines : (s t : State) (m : Means Word (Tree × Tree)) (n : Means ℕ (Tree × Tree)) → Resolves s t m n
    → Defines s (record t { so_far = record t.so_far { next = suc t.so_far.next } }) t.so_far.next m (define t.so_far.next n)
defines s t m n h = record {
  keeps = record { names = h.keeps.names; grows = let g = h.keeps.grows in omega arith };
  later = h.keeps.grows;
  adds = λ x G H a. adds_one G H x t.so_far.next (m G).value.1 (n H).value.1 (ap (λ p. p.1) (h.moving.moves G H a).value);
  moves = λ x G H a.
      let number = t.so_far.next in
      let last : Progress = record t.so_far { next = suc number } in
      let new : State = record t { so_far = last } in
      let here = agree_after s t G H h.keeps a in
      let named : Tree × Tree → Stated Word = λ p. record { name = x; context = context_of G; type = p.0; body = p.1 } in
      let numbered : Tree × Tree → Stated ℕ = λ p. record { name = number; context = context_of H; type = p.0; body = p.1 } in
      moves_then s.so_far t.so_far last Same (Agree (bound_to new x (binding.Definition number))) (m G) (n H)
      (λ p. states (named p) >>= λ _. done (Definition x p.1 ∷ G))
      (λ p. states (numbered p) >>= λ _. done (Definition number p.1 ∷ H))
      (h.moving.moves G H a)
      (λ p q e. moves_then t.so_far last last AnyTwo (Agree (bound_to new x (binding.Definition number)))
      (states (named p))
      (states (numbered q))
      (λ _. done (Definition x p.1 ∷ G)) (λ _. done (Definition number q.1 ∷ H))
      (moves_stated t.so_far (named p) (numbered q) (judged (context_of G) (context_of H) p q a.contexts e) refl)
      (λ _ _ _. moves_done last (Agree (bound_to new x (binding.Definition number))) (Definition x p.1 ∷ G) (Definition number q.1 ∷ H)
      (subst (λ r. Agree (bound_to new x (binding.Definition number)) (Definition x p.1 ∷ G) (Definition number r ∷ H)) (sym (ap (λ r. r.1) e))
      (agree_definition t G H x p.1 last here (omega arith)))));
}

-- a block, and one more definition of it

abbrev pub names_after : List ℕ → List Word → List Written → List Word
names_after bytes seen [] = seen
names_after bytes seen (d ∷ ds) = names_after bytes (word bytes d.name ∷ seen) ds

block_push : (bytes : List ℕ) (seen : List Word) (ds : List Written) (d : Written) (G : Scope Word)
    → (block_after bytes seen ds G >>= λ H. define (word bytes d.name) d.means H >>= λ K. once bytes (names_after bytes seen ds) d.name >>= λ _. done K)
    ≡ block_after bytes seen (ds ++ d ∷ []) G
block_push bytes seen [] d G = refl
block_push bytes seen (e ∷ es) d G =
    let start = define (word bytes e.name) e.means G in
    let check = once bytes seen e.name in
    let more = word bytes e.name ∷ seen in
    let last : Scope Word → Translated Word (Scope Word) =
    λ H. define (word bytes d.name) d.means H >>= λ K. once bytes (names_after bytes more es) d.name >>= λ _. done K in
    then_assoc start (λ H. check >>= λ _. block_after bytes more es H) last
    ∙ then_same start (λ H. (check >>= λ _. block_after bytes more es H) >>= last) (λ H. check >>= λ _. block_after bytes more (es ++ d ∷ []) H)
    (then_assoc check (λ _. block_after bytes more es start.value) last
    ∙ then_same check (λ _. block_after bytes more es start.value >>= last) (λ _. block_after bytes more (es ++ d ∷ []) start.value)
    (block_push bytes more es d start.value))

definitions_push : (cs : List CodeDef) (c : CodeDef) (H : Scope ℕ) → (definitions cs H >>= λ K. definition c K) ≡ definitions (cs ++ c ∷ []) H
definitions_push [] c H = sym (then_done (definition c H))
definitions_push (d ∷ ds) c H =
    then_assoc (definition d H) (λ K. definitions ds K) (λ K. definition c K)
    ∙ then_same (definition d H) (λ K. definitions ds K >>= λ L. definition c L) (λ K. definitions (ds ++ c ∷ []) K)
    (definitions_push ds c (definition d H).value)

pub opens_none : (bytes : List ℕ) (s : State) → Opens s s (block_after bytes [] []) (definitions [])
opens_none bytes s = record {
  extends = extends_kept s s (keeps_same s);
  adds = λ G H a. adds_none G H;
  moves = λ G H a. moves_done s.so_far (Agree s) G H a;
}

abbrev pub is_again : List ℕ → List Word → Written → Bool
is_again bytes seen d = not (is_nameless (word bytes d.name)) && list_any (bytes_eq (word bytes d.name)) seen

moves_once : (bytes : List ℕ) (seen : List Word) (d : Written) (s : Progress) (b : Bool) → b ≡ is_again bytes seen d
    → Moves s (checked s b d.name.start) AnyTwo (once bytes seen d.name) (done tt)
moves_once bytes seen d s b e =
    subst (λ v. Moves s (checked s v d.name.start) AnyTwo (once bytes seen d.name) (done tt)) (sym e)
    (elim (is_again bytes seen d) as (λ v. Moves s (checked s v d.name.start) AnyTwo (if v then refused d.name.start Twice tt else done tt) (done tt)) [
      | true ↦ moves_refused s AnyTwo d.name.start Twice tt tt tt
      | false ↦ moves_done s AnyTwo tt tt tt
    ])

checked_next : (s : Progress) (b : Bool) (at : ℕ) → (checked s b at).next ≡ s.next
checked_next s true at = refl
checked_next s false at = refl

-- the state after a definition is bound, where it was looked for among the names of its block
abbrev pub state_after : List ℕ → State → ℕ → Written → Bool → State
state_after bytes u number d b =
    record { names = record { word = word bytes d.name; binding = binding.Definition number } ∷ u.names; so_far = checked u.so_far b d.name.start }

pub opens_more : (bytes : List ℕ) (s t u : State) (ds : List Written) (d : Written) (cs : List CodeDef) (c : CodeDef) (number : ℕ) (b : Bool)
    → Opens s t (block_after bytes [] ds) (definitions cs) → Defines t u number d.means (definition c)
    → (AreEarlier s.so_far.next s.names → b ≡ is_again bytes (names_after bytes [] ds) d)
    → Opens s (state_after bytes u number d b) (block_after bytes [] (ds ++ d ∷ [])) (definitions (cs ++ c ∷ []))
opens_more bytes s t u ds d cs c number b first def same =
    let w = word bytes d.name in
    let seen = names_after bytes [] ds in
    let mid = bound_to u w (binding.Definition number) in
    let new = state_after bytes u number d b in
    let last = new.so_far in
    let kept : Keeps mid new = record { names = refl; grows = let e = checked_next u.so_far b d.name.start in omega arith } in
    record {
      extends = extends_then s t new first.extends (extends_then t u new (extends_kept t u def.keeps)
          (record { bound = record { word = w; binding = binding.Definition number } ∷ []; names = refl; grows = kept.grows }));
      adds = λ G H a.
          let K = (block_after bytes [] ds G).value in
          let L = (definitions cs H).value in
          let last_one = def.adds w K L (first.moves G H a).value in
          subst (λ x. Adds G H x.value (definitions (cs ++ c ∷ []) H).value) (block_push bytes [] ds d G)
          (subst (λ y. Adds G H (define w d.means K).value y.value) (definitions_push cs c H)
          (adds_then G H K L (define w d.means K).value (definition c L).value (first.adds G H a) last_one));
      moves = λ G H a. moves_same s.so_far last (Agree new) _ _ _ _ (block_push bytes [] ds d G) (definitions_push cs c H)
          (moves_then s.so_far t.so_far last (Agree t) (Agree new) (block_after bytes [] ds G) (definitions cs H)
          (λ K. define w d.means K >>= λ L. once bytes seen d.name >>= λ _. done L) (λ L. definition c L)
          (first.moves G H a)
          (λ K L e. moves_same t.so_far last (Agree new) _ _ _ _ refl (then_done (definition c L))
          (moves_then t.so_far u.so_far last (Agree mid) (Agree new) (define w d.means K) (definition c L)
          (λ M. once bytes seen d.name >>= λ _. done M) (λ M. done M)
          (def.moves w K L e)
          (λ M N f. moves_then u.so_far last last AnyTwo (Agree new) (once bytes seen d.name) (done tt) (λ _. done M) (λ _. done N)
          (moves_once bytes seen d u.so_far b (same a.definitions))
          (λ _ _ _. moves_done last (Agree new) M N (agree_after mid new M N kept f))))));
    }

-- which names a block has defined: those that are found with a number of the block

pub record Seen (bytes : List ℕ) (old new : State) (ds : List Written) : Type 0 where
  pub are : AreEarlier old.so_far.next old.names → (x : Word) → is_newer old.so_far.next (nearest new.names x) ≡ list_any (bytes_eq x) (names_after bytes [] ds)

names_push : (bytes : List ℕ) (seen : List Word) (ds : List Written) (d : Written) → names_after bytes seen (ds ++ d ∷ []) ≡ word bytes d.name ∷ names_after bytes seen ds
names_push bytes seen [] d = refl
names_push bytes seen (e ∷ es) d = names_push bytes (word bytes e.name ∷ seen) es d

older : (first : ℕ) (f : Found) → IsFoundEarlier first f → is_newer first f ≡ false
unfolding IsFoundEarlier
older first (found.Variable k) h = refl
older first (found.Interval k) h = refl
older first (found.Definition n) h = grind (arith, nat_tests)
older first (found.BuiltIn b) h = refl
older first found.Nothing h = refl

pub seen_none : (bytes : List ℕ) (s : State) → Seen bytes s s []
seen_none bytes s = record { are = λ h x. older s.so_far.next (nearest s.names x) (nearest_earlier s.so_far.next s.names x h) }

number_newer : (first n : ℕ) → first ≤ n → is_newer first (found.Definition n) ≡ true
number_newer first n h = grind (arith, nat_tests)

pub bytes_eq_sym : (x y : Word) → bytes_eq x y ≡ bytes_eq y x
bytes_eq_sym x y = same (bytes_eq x y) (bytes_eq y x) (bytes_eq-Decides x y) (bytes_eq-Decides y x)
  where
    same : (a b : Bool) → Decides a (x ≡ y) → Decides b (y ≡ x) → a ≡ b
    same true true d e = refl
    same false false d e = refl
    same true false d e = sym (e.1 (sym (d.0 refl)))
    same false true d e = d.1 (sym (e.0 refl))

pub seen_more : (bytes : List ℕ) (s t u : State) (ds : List Written) (d : Written) (number : ℕ) (b : Bool)
    → Seen bytes s t ds → s.so_far.next ≤ number → u.names ≡ t.names → Seen bytes s (state_after bytes u number d b) (ds ++ d ∷ [])
seen_more bytes s t u ds d number b h later e = record {
  are = λ a x.
      let first = s.so_far.next in
      let w = word bytes d.name in
      let outside : is_newer first (nearest u.names x) ≡ list_any (bytes_eq x) (names_after bytes [] ds) = ap (λ ns. is_newer first (nearest ns x)) e ∙ h.are a x in
      subst (λ ws. is_newer first (nearest (record { word = w; binding = binding.Definition number } ∷ u.names) x) ≡ list_any (bytes_eq x) ws) (sym (names_push bytes [] ds d))
      (subst (λ v. is_newer first (nearest (record { word = w; binding = binding.Definition number } ∷ u.names) x) ≡ (v || list_any (bytes_eq x) (names_after bytes [] ds))) (bytes_eq_sym w x)
      (elim (bytes_eq w x) as (λ v. is_newer first (if v then found.Definition number else nearest u.names x) ≡ (v || list_any (bytes_eq x) (names_after bytes [] ds))) [
        | true ↦ number_newer first number later
        | false ↦ outside
      ]));
}

-- whether the name was defined in the block is what is found of it
pub again_found : (bytes : List ℕ) (s t u : State) (ds : List Written) (d : Written) → Seen bytes s t ds → u.names ≡ t.names
    → AreEarlier s.so_far.next s.names → is_newer s.so_far.next (find u.names (word bytes d.name)) ≡ is_again bytes (names_after bytes [] ds) d
again_found bytes s t u ds d h e a =
    let first = s.so_far.next in
    let w = word bytes d.name in
    elim (is_nameless w) as (λ v. is_newer first (if v then found.Nothing else nearest u.names w) ≡ (not v && list_any (bytes_eq w) (names_after bytes [] ds))) [
      | true ↦ refl
      | false ↦ ap (λ ns. is_newer first (nearest ns w)) e ∙ h.are a w
    ]

-- what stands after a block; then its names are taken away

pub resolves_after : {A : Type 0} (s t u v : State) (f : Means Word (Scope Word)) (g : Means ℕ (Scope ℕ)) (m : Means Word A) (n : Means ℕ A)
    → Opens s t f g → Resolves t u m n → v ≡ record u { names = drop (length u.names - length s.names) u.names }
    → Resolves s v (λ G. f G >>= λ H. m H) (λ G. g G >>= λ H. n H)
resolves_after s t u v f g m n first second e = record {
  keeps = keeps_cut s t u v first.extends second.keeps e;
  moving = record {
    moves = λ G H a. subst (λ x. Moves s.so_far x Same (f G >>= λ K. m K) (g H >>= λ K. n K)) (sym (ap (λ x. x.so_far) e))
        (moves_then s.so_far t.so_far u.so_far (Agree t) Same (f G) (g H) (λ K. m K) (λ K. n K) (first.moves G H a)
        (λ K L b. second.moving.moves K L b));
  };
}
