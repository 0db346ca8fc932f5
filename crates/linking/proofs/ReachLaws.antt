-- Which modules are reached.
use Rattle.std.proofs.Common.{◌≡◌, ◌<◌, ◌≤◌, ◌+◌, ◌||◌, ℕ, zero, suc, Bool, true, false, List, [], ◌∷◌, ◌++◌, map, length, min, take, drop, reverse, get_or, slice_index_or, slice_set, refl, sym, ◌∙◌, ap, subst, arith, append_assoc, bytes_eq, if◌then◌else◌}
use Rattle.std.specs.List.{All, flat_map, list_any}
use Rattle.std.specs.Prelude.{String, string_bytes}
use Rattle.std.specs.declared.alloc.Global.{Global}
use Rattle.std.proofs.lemmas.List.{reverse-append, length-append}
use Rattle.std.proofs.lemmas.List.Concat.{flat_map-append}
use denote.Ref.{Bor}
use Rattle.codes.proofs.Logs.{append_empty, map_append}
use Rattle.scopes.specs.declared.scope.Scope.{Scope as ScopeOf}
use Rattle.scopes.specs.declared.scope.ScopeName.{ScopeName}
use Rattle.linking.specs.declared.known.Known.{Known as Kept}
use Rattle.linking.specs.Modules.{KnownBy, reached}
use Rattle.linking.specs.Reaching.{Numbered, Stand, Finds, Sees, are_among, either, names_of}

-- lists

pub snoc_same : {A : Type 0} (xs ys : List A) (x y : A) → xs ++ x ∷ [] ≡ ys ++ y ∷ [] → (xs ≡ ys) × (x ≡ y)
snoc_same [] [] x y e = (refl, cc)
snoc_same [] (z ∷ ys) x y e = absurd (let l = ap length e in let k = length-append ys (y ∷ []) in omega arith)
snoc_same (z ∷ xs) [] x y e = absurd (let l = ap length e in let k = length-append xs (x ∷ []) in omega arith)
snoc_same (z ∷ xs) (w ∷ ys) x y e =
    let first : z ≡ w = cc in
    let rest : xs ++ x ∷ [] ≡ ys ++ y ∷ [] = cc in
    let h = snoc_same xs ys x y rest in
    (ap (λ v. v ∷ xs) first ∙ ap (λ vs. w ∷ vs) h.0, h.1)

pub all_append : {A : Type 0} (P : A → Type 0) (xs ys : List A) → All P xs → All P ys → All P (xs ++ ys)
all_append P [] ys a b k d l = b k d l
all_append P (x ∷ xs) ys a b zero d l = a 0 d (omega arith)
all_append P (x ∷ xs) ys a b (suc k) d l = all_append P xs ys (λ i e m. a (suc i) e (omega arith)) b k d (omega arith)

pub all_one : {A : Type 0} (P : A → Type 0) (x : A) → P x → All P (x ∷ [])
all_one P x p zero d l = p
all_one P x p (suc k) d l = absurd (omega arith)

-- what is wanted

any_append : (p : List ℕ → Bool) (xs ys : List (List ℕ)) → list_any p (xs ++ ys) ≡ list_any p xs || list_any p ys
any_append p [] ys = refl
any_append p (x ∷ xs) ys = elim (p x) as (λ v. v || list_any p (xs ++ ys) ≡ (v || list_any p xs) || list_any p ys) [
  | true ↦ refl
  | false ↦ any_append p xs ys
]

pub either_among : (ns ms xs : List (List ℕ)) → either (are_among ns xs) (are_among ms xs) ≡ are_among (ns ++ ms) xs
either_among ns ms [] = refl
either_among ns ms (x ∷ xs) =
    ap (λ b. b ∷ either (are_among ns xs) (are_among ms xs)) (sym (any_append (bytes_eq x) ns ms))
    ∙ ap (λ bs. list_any (bytes_eq x) (ns ++ ms) ∷ bs) (either_among ns ms xs)

pub either_length : (ps qs : List Bool) → length (either ps qs) ≡ length ps
either_length [] qs = refl
either_length (p ∷ ps) [] = refl
either_length (p ∷ ps) (q ∷ qs) = let h = either_length ps qs in omega arith

pub either_none : (ps : List Bool) → either ps [] ≡ ps
either_none [] = refl
either_none (p ∷ ps) = refl

or_true : (p : Bool) → p || true ≡ true
or_true true = refl
or_true false = refl

or_false : (p : Bool) → p || false ≡ p
or_false true = refl
or_false false = refl

-- the flags so far, with one more
pub want_more : (ps qs : List Bool) (i : ℕ) (d : Bool) → i < length qs → i < length ps → slice_index_or qs i d ≡ true → slice_set (either ps (take i qs)) i true ≡ either ps (take (i + 1) qs)
want_more [] qs i d l m e = absurd (omega arith)
want_more (p ∷ ps) [] i d l m e = absurd (omega arith)
want_more (p ∷ ps) (q ∷ qs) zero d l m e = ap (λ b. b ∷ ps) (sym (or_true p)) ∙ ap (λ b. (p || b) ∷ ps) (sym e) ∙ ap (λ bs. (p || q) ∷ bs) (sym (either_none ps))
want_more (p ∷ ps) (q ∷ qs) (suc i) d l m e =
    let count : suc i + 1 ≡ suc (i + 1) = omega arith in
    rw count (ap (λ bs. (p || q) ∷ bs) (want_more ps qs i d (omega arith) (omega arith) e))

pub want_less : (ps qs : List Bool) (i : ℕ) (d : Bool) → i < length qs → slice_index_or qs i d ≡ false → either ps (take i qs) ≡ either ps (take (i + 1) qs)
want_less [] qs i d l e = refl
want_less (p ∷ ps) [] i d l e = absurd (omega arith)
want_less (p ∷ ps) (q ∷ qs) zero d l e = ap (λ b. b ∷ ps) (sym (or_false p)) ∙ ap (λ b. (p || b) ∷ ps) (sym e) ∙ ap (λ bs. (p || q) ∷ bs) (sym (either_none ps))
want_less (p ∷ ps) (q ∷ qs) (suc i) d l e =
    let count : suc i + 1 ≡ suc (i + 1) = omega arith in
    rw count (ap (λ bs. (p || q) ∷ bs) (want_less ps qs i d (omega arith) e))

pub want_all : (ps qs : List Bool) (n : ℕ) → min (length qs) (length ps) ≤ n → either ps (take n qs) ≡ either ps qs
want_all [] qs n l = refl
want_all (p ∷ ps) [] zero l = refl
want_all (p ∷ ps) [] (suc n) l = refl
want_all (p ∷ ps) (q ∷ qs) zero l = absurd (omega arith)
want_all (p ∷ ps) (q ∷ qs) (suc n) l = ap (λ bs. (p || q) ∷ bs) (want_all ps qs n (omega arith))

pub written_whole : (n : ℕ) (new ws : List Bool) → n ≡ length new → take n (new ++ drop (length new) ws) ≡ new
written_whole n new ws e = take_first n new (drop (length new) ws) e
  where
    take_first : (n : ℕ) (xs ys : List Bool) → n ≡ length xs → take n (xs ++ ys) ≡ xs
    take_first zero [] ys e = refl
    take_first (suc n) [] ys e = absurd (omega arith)
    take_first zero (x ∷ xs) ys e = absurd (omega arith)
    take_first (suc n) (x ∷ xs) ys e = ap (λ zs. x ∷ zs) (take_first n xs ys (omega arith))

pub names_push : {A : Type 0} (m : KnownBy A) (ms : List (KnownBy A)) → names_of (m ∷ ms) ≡ names_of ms ++ m.name ∷ []
names_push {A} m ms = ap (map (λ (x : KnownBy A). x.name)) (reverse-append (m ∷ []) ms) ∙ map_append (λ (x : KnownBy A). x.name) (reverse ms) (m ∷ [])

among_push : (names : List (List ℕ)) (m : Numbered) (ms : List Numbered) → are_among names (names_of (m ∷ ms)) ≡ are_among names (names_of ms) ++ list_any (bytes_eq m.name) names ∷ []
among_push names m ms = ap (are_among names) (names_push m ms) ∙ map_append (λ x. list_any (bytes_eq x) names) (names_of ms) (m.name ∷ [])

-- the definitions of modules
abbrev pub all_names : List (Bor Kept) → List ScopeName
all_names = flat_map (λ (k : Bor Kept). reverse k.now.names)

-- Of modules that are wanted some were found; with those that the others reach they are all.
pub record Left (known : List Kept) (wanted : List Bool) (found : List (Bor Kept)) (ms : List Numbered) (names : List (List ℕ)) : Type 0 where
  pub rest : List Numbered
  pub wants : List (List ℕ)
  pub stand : Stand rest (reverse (take (length wanted) known))
  pub wanted_are : wanted ≡ are_among wants (names_of rest)
  pub all : all_names found ++ reached rest wants ≡ reached ms names

pub record Goes (known : List Kept) (first : List Bool) (wanted : List Bool) (found : List (Bor Kept)) : Type 0 where
  pub within : length wanted ≤ length known
  pub left : (ms : List Numbered) (names : List (List ℕ))
      → Stand ms (reverse known) → first ≡ are_among names (names_of ms)
      → Left known wanted found ms names

take_all : {A : Type 0} (xs : List A) (n : ℕ) → n ≡ length xs → take n xs ≡ xs
take_all [] zero e = refl
take_all [] (suc n) e = refl
take_all (x ∷ xs) zero e = absurd (omega arith)
take_all (x ∷ xs) (suc n) e = ap (λ ys. x ∷ ys) (take_all xs n (omega arith))

pub take_more : {A : Type 0} (xs : List A) (n : ℕ) (d : A) → n < length xs → take (suc n) xs ≡ take n xs ++ get_or xs n d ∷ []
take_more [] n d l = absurd (omega arith)
take_more (x ∷ xs) zero d l = refl
take_more (x ∷ xs) (suc n) d l = ap (λ ys. x ∷ ys) (take_more xs n d (omega arith))

no_more : {A : Type 0} (xs : List A) (n : ℕ) → n ≡ 0 → take n xs ≡ []
no_more xs zero e = refl
no_more xs (suc n) e = absurd (omega arith)

pub goes_start : (known : List Kept) (wanted : List Bool) → length wanted ≡ length known → Goes known wanted wanted []
goes_start known wanted e = record {
  within = omega arith;
  left = λ ms names stand are. record {
    rest = ms;
    wants = names;
    stand = subst (λ ks. Stand ms (reverse ks)) (sym (take_all known (length wanted) e)) stand;
    wanted_are = are;
    all = refl;
  };
}

-- a module that stands last, and those before it
record Split (rest : List Numbered) (k : Kept) (ks : List Kept) : Type 0 where
  last : Numbered
  before : List Numbered
  are : rest ≡ last ∷ before
  imports : k.imports.items ≡ are_among last.imports (names_of before)
  defs : last.defs ≡ reverse k.names
  stand : Stand before ks

split : (rest : List Numbered) (k : Kept) (ks : List Kept) → Stand rest (k ∷ ks) → Split rest k ks
split [] k ks h = absurd h
split (m ∷ ms) k ks h = record { last = m; before = ms; are = refl; imports = h.0; defs = h.1; stand = h.2 }

module _ (known : List Kept) (first wanted : List Bool) (found : List (Bor Kept)) (ws : List Bool) (b : Bool) (popped : wanted ≡ ws ++ b ∷ []) (k : Kept) (d : Kept)
    (here : k ≡ get_or known (length ws) d) (g : Goes known first wanted found) where
  count : length wanted ≡ suc (length ws)
  count = let e = ap length popped in let l = length-append ws (b ∷ []) in omega arith

  reversed : reverse (take (length wanted) known) ≡ k ∷ reverse (take (length ws) known)
  reversed =
      let inside : length ws < length known = let w = g.within in let c = count in omega arith in
      ap (λ n. reverse (take n known)) count ∙ ap reverse (take_more known (length ws) d inside)
      ∙ reverse-append (take (length ws) known) (get_or known (length ws) d ∷ []) ∙ ap (λ x. x ∷ reverse (take (length ws) known)) (sym here)

  module _ (ms : List Numbered) (names : List (List ℕ)) (l : Left known wanted found ms names) where
    parts : Split l.rest k (reverse (take (length ws) known))
    parts = split l.rest k (reverse (take (length ws) known)) (subst (Stand l.rest) reversed l.stand)

    ends : ws ++ b ∷ [] ≡ are_among l.wants (names_of parts.before) ++ list_any (bytes_eq parts.last.name) l.wants ∷ []
    ends = sym popped ∙ l.wanted_are ∙ ap (λ r. are_among l.wants (names_of r)) parts.are ∙ among_push l.wants parts.last parts.before

    others : ws ≡ are_among l.wants (names_of parts.before)
    others = (snoc_same ws _ b _ ends).0

    is_last : b ≡ list_any (bytes_eq parts.last.name) l.wants
    is_last = (snoc_same ws _ b _ ends).1

    then_reached : reached l.rest l.wants ≡ (if b then parts.last.defs ++ reached parts.before (l.wants ++ parts.last.imports) else reached parts.before l.wants)
    then_reached =
        ap (λ r. reached r l.wants) parts.are
        ∙ ap (λ v. if v then parts.last.defs ++ reached parts.before (l.wants ++ parts.last.imports) else reached parts.before l.wants) (sym is_last)

    passed : b ≡ false → Left known ws found ms names
    passed not = record {
      rest = parts.before;
      wants = l.wants;
      stand = parts.stand;
      wanted_are = others;
      all = ap (λ r. all_names found ++ r) (sym (then_reached ∙ ap (λ v. if v then parts.last.defs ++ reached parts.before (l.wants ++ parts.last.imports) else reached parts.before l.wants) not)) ∙ l.all;
    }

    taken : (new : List Bool) (kept : Bor Kept) → b ≡ true → kept.now ≡ k → new ≡ either ws k.imports.items → Left known new (found ++ kept ∷ []) ms names
    taken new kept wanted_too is e =
        let are : new ≡ are_among (l.wants ++ parts.last.imports) (names_of parts.before) =
        e ∙ ap (λ xs. either xs k.imports.items) others ∙ ap (either (are_among l.wants (names_of parts.before))) parts.imports
        ∙ either_among l.wants parts.last.imports (names_of parts.before) in
        let long : length new ≡ length ws = ap length e ∙ either_length ws k.imports.items in
        record {
          rest = parts.before;
          wants = l.wants ++ parts.last.imports;
          stand = subst (λ n. Stand parts.before (reverse (take n known))) (sym long) parts.stand;
          wanted_are = are;
          all = ap (λ xs. xs ++ reached parts.before (l.wants ++ parts.last.imports)) (found_more kept is)
              ∙ append_assoc (all_names found) parts.last.defs (reached parts.before (l.wants ++ parts.last.imports))
              ∙ ap (λ r. all_names found ++ r) (sym (then_reached ∙ ap (λ v. if v then parts.last.defs ++ reached parts.before (l.wants ++ parts.last.imports) else reached parts.before l.wants) wanted_too)) ∙ l.all;
        }
      where
        found_more : (kept : Bor Kept) → kept.now ≡ k → all_names (found ++ kept ∷ []) ≡ all_names found ++ parts.last.defs
        found_more kept is =
            flat_map-append (λ (x : Bor Kept). reverse x.now.names) found (kept ∷ [])
            ∙ ap (λ xs. all_names found ++ xs) (append_empty (reverse kept.now.names) ∙ ap (λ x. reverse x.names) is ∙ sym parts.defs)

  goes_past : b ≡ false → Goes known first ws found
  goes_past not = record {
    within = let w = g.within in let c = count in omega arith;
    left = λ ms names stand are. passed ms names (g.left ms names stand are) not;
  }

  pub goes_on : (new : List Bool) (kept : Bor Kept) → b ≡ true → kept.now ≡ k → new ≡ either ws k.imports.items → Goes known first new (found ++ kept ∷ [])
  goes_on new kept wanted_too is e = record {
    within = let w = g.within in let c = count in let n = ap length e in let m = either_length ws k.imports.items in omega arith;
    left = λ ms names stand are. taken ms names (g.left ms names stand are) new kept wanted_too is e;
  }

pub goes_without : (known : List Kept) (first wanted : List Bool) (found : List (Bor Kept)) (ws : List Bool) (b : Bool) → wanted ≡ ws ++ b ∷ [] → b ≡ false
    → Goes known first wanted found → Goes known first ws found
goes_without [] first wanted found ws b popped not g = absurd (let w = g.within in let e = ap length popped in let l = length-append ws (b ∷ []) in omega arith)
goes_without (k ∷ ks) first wanted found ws b popped not g = goes_past (k ∷ ks) first wanted found ws b popped (get_or (k ∷ ks) (length ws) k) k refl g not

pub goes_end : (known : List Kept) (first wanted : List Bool) (found : List (Bor Kept)) → wanted ≡ [] → Goes known first wanted found → Finds known first found
goes_end known first wanted found none g = record {
  finds = λ ms names stand are. let l = g.left ms names stand are in sym (nothing ms names l) ∙ l.all;
}
  where
    is_empty : (rest : List Numbered) → Stand rest [] → rest ≡ []
    is_empty [] h = refl
    is_empty (m ∷ rest) h = absurd h

    nothing : (ms : List Numbered) (names : List (List ℕ)) (l : Left known wanted found ms names) → all_names found ++ reached l.rest l.wants ≡ all_names found
    nothing ms names l =
        let gone : reverse (take (length wanted) known) ≡ [] = ap reverse (no_more known (length wanted) (ap length none)) in
        ap (λ r. all_names found ++ reached r l.wants) (is_empty l.rest (subst (Stand l.rest) gone l.stand)) ∙ append_empty (all_names found)

-- Names were gathered of some of the modules that were found; those that are left stand before them.
pub record Gathers (known : List Kept) (imports : List Bool) (found : List (Bor Kept)) (names : List ScopeName) : Type 0 where
  pub gathers : (ms : List Numbered) (wanted : List (List ℕ))
      → Stand ms (reverse known) → imports ≡ are_among wanted (names_of ms)
      → all_names found ++ reverse names ≡ reached ms wanted

pub gathers_none : (known : List Kept) (imports wanted : List Bool) (found : List (Bor Kept)) (names : List ScopeName) → wanted ≡ imports → names ≡ [] → Finds known wanted found
    → Gathers known imports found names
gathers_none known imports wanted found names same none f = record {
  gathers = λ ms wants stand are.
      ap (λ ns. all_names found ++ reverse ns) none ∙ append_empty (all_names found) ∙ f.finds ms wants stand (same ∙ are);
}

pub gathers_more : (known : List Kept) (imports : List Bool) (found fs : List (Bor Kept)) (k : Bor Kept) (names more : List ScopeName) → found ≡ fs ++ k ∷ [] → more ≡ names ++ k.now.names
    → Gathers known imports found names → Gathers known imports fs more
gathers_more known imports found fs k names more popped e g = record {
  gathers = λ ms wants stand are.
      ap (λ ns. all_names fs ++ reverse ns) e ∙ ap (λ ns. all_names fs ++ ns) (reverse-append names k.now.names)
      ∙ sym (append_assoc (all_names fs) (reverse k.now.names) (reverse names))
      ∙ ap (λ ns. ns ++ reverse names) (ap (λ ns. all_names fs ++ ns) (sym (append_empty (reverse k.now.names))) ∙ sym (flat_map-append (λ (x : Bor Kept). reverse x.now.names) fs (k ∷ [])))
      ∙ ap (λ ks. all_names ks ++ reverse names) (sym popped) ∙ g.gathers ms wants stand are;
}

pub gathers_end : (known : List Kept) (imports : List Bool) (found : List (Bor Kept)) (names : List ScopeName) (next : ℕ) (scope : ScopeOf) → found ≡ [] → scope.names ≡ names → scope.next ≡ next
    → Gathers known imports found names → Sees known imports next scope
gathers_end known imports found names next scope none named counted g = record {
  next_is = counted;
  sees = λ ms wants stand are.
      ap reverse named ∙ ap (λ ks. all_names ks ++ reverse names) (sym none) ∙ g.gathers ms wants stand are;
}

-- a name that is found
pub any_found : (names : List (String Global)) (name : List ℕ) (i : ℕ) (s : String Global) {text : List ℕ} → i < length names → s ≡ slice_index_or names i s → bytes_eq name text ≡ true → text ≡ string_bytes s
    → true ≡ list_any (bytes_eq name) (map string_bytes names)
any_found [] name i s l is e t = absurd (omega arith)
any_found (n ∷ ns) name zero s l is e t = here ∙ ap (λ v. v || list_any (bytes_eq name) (map string_bytes ns)) (sym (ap (bytes_eq name) (sym (t ∙ ap string_bytes is)) ∙ e))
  where
    here : true ≡ true || list_any (bytes_eq name) (map string_bytes ns)
    here = refl
any_found (n ∷ ns) name (suc i) s l is e t =
    elim (bytes_eq name (string_bytes n)) as (λ v. true ≡ v || list_any (bytes_eq name) (map string_bytes ns)) [
      | true ↦ refl
      | false ↦ any_found ns name i s (omega arith) is e t
    ]
