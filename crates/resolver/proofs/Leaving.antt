-- The scope after the definitions of a module.
use Rattle.std.proofs.Common.{◌≡◌, ◌+◌, ◌-◌, ◌<◌, ◌≤◌, ◌==◌, ℕ, zero, suc, Bool, true, false, List, [], ◌∷◌, ◌++◌, map, length, reverse, get_or, refl, sym, ap, ◌∙◌, arith, subst, append_assoc, if◌then◌else◌, eqb-true}
use Rattle.std.proofs.lemmas.List.{get_or-reverse, length-map, length-reverse, reverse-append}
use Rattle.trees.specs.Trees.{Tree}
use Rattle.trees.specs.Judgements.{Nil}
use Rattle.layout_lexer.specs.declared.token.Span.{Span}
use Rattle.translation.specs.Scopes.{Scope, Definition, context_of}
use Rattle.translation.specs.Translated.{Stated}
use Rattle.translation.specs.Names.{Word}
use Rattle.translation.specs.Texts.{Written, block, block_after, word}
use Rattle.codes.specs.declared.code.CodeDef.{CodeDef, CodeDef', out-CodeDef}
use Rattle.codes.specs.Codes.{body_of, definition, definitions}
use Rattle.codes.proofs.Logs.{map_append, length_append}
use Rattle.scopes.specs.declared.scope.ScopeName.{ScopeName}
use Rattle.scopes.specs.Steps.{Adds, AreEarlier as AreEarlierNames, after_defs, count_from, named_of}
use Rattle.resolver.specs.Resolved.{AreEarlier, Leaves, bound_by, entry, words}

-- lists of definitions

abbrev numbers_of : List CodeDef → List ℕ
numbers_of = map (λ c. (out-CodeDef c).number)

abbrev spans_of : List CodeDef → List Span
spans_of = map (λ c. (out-CodeDef c).name)

abbrev name : Stated ℕ → ℕ
name d = d.name

after_length : {N : Type 0} (xs : List N) (ts : List Tree) (G : Scope N) → length xs ≡ length ts → length (after_defs xs ts G) ≡ length xs + length G
after_length [] ts G e = omega arith
after_length (x ∷ xs) [] G e = absurd (omega arith)
after_length (x ∷ xs) (t ∷ ts) G e = let h = after_length xs ts (Definition x t ∷ G) (omega arith) in omega arith

after_context : {N : Type 0} (xs : List N) (ts : List Tree) (G : Scope N) → context_of (after_defs xs ts G) ≡ context_of G
after_context [] ts G = refl
after_context (x ∷ xs) [] G = refl
after_context (x ∷ xs) (t ∷ ts) G = after_context xs ts (Definition x t ∷ G)

-- as many definitions after the same scope have the same bodies
after_same : {N : Type 0} (xs ys : List N) (ts us : List Tree) (G K : Scope N) → length xs ≡ length ys → length xs ≡ length ts → length ys ≡ length us
    → after_defs xs ts G ≡ after_defs ys us K → (ts ≡ us) × (G ≡ K)
after_same [] [] [] [] G K a b c e = (refl, e)
after_same [] [] (t ∷ ts) us G K a b c e = absurd (omega arith)
after_same [] [] [] (u ∷ us) G K a b c e = absurd (omega arith)
after_same [] (y ∷ ys) ts us G K a b c e = absurd (omega arith)
after_same (x ∷ xs) [] ts us G K a b c e = absurd (omega arith)
after_same (x ∷ xs) (y ∷ ys) [] us G K a b c e = absurd (omega arith)
after_same (x ∷ xs) (y ∷ ys) (t ∷ ts) [] G K a b c e = absurd (omega arith)
after_same (x ∷ xs) (y ∷ ys) (t ∷ ts) (u ∷ us) G K a b c e =
    let h = after_same xs ys ts us (Definition x t ∷ G) (Definition y u ∷ K) (omega arith) (omega arith) (omega arith) e in
    let first : t ≡ u = let d = h.1 in cc in
    let rest : G ≡ K = let d = h.1 in cc in
    (ap (λ v. v ∷ ts) first ∙ ap (λ vs. u ∷ vs) h.0, rest)

-- what a text and a code add

pub text_adds : (bytes : List ℕ) (seen : List Word) (ds : List Written) (G : Scope Word)
    → (ts : List Tree) × (length ds ≡ length ts) × ((block_after bytes seen ds G).value ≡ after_defs (map (word bytes) (map (λ d. d.name) ds)) ts G)
text_adds bytes seen [] G = ([], refl, refl)
text_adds bytes seen (d ∷ ds) G =
    let t = (d.means G).value.1 in
    let w = word bytes d.name in
    let h = text_adds bytes (w ∷ seen) ds (Definition w t ∷ G) in
    (t ∷ h.0, let e = h.1 in omega arith, h.2)

-- one definition, and what it states last
record Last (c : CodeDef) (H : Scope ℕ) : Type 0 where
  body : Tree
  value : (definition c H).value ≡ Definition (out-CodeDef c).number body ∷ H
  before : List (Stated ℕ)
  last : Stated ℕ
  stated : (definition c H).stated ≡ before ++ last ∷ []
  numbered : last.name ≡ (out-CodeDef c).number

last_of : (c : CodeDef) (H : Scope ℕ) → Last c H
unfolding out-CodeDef denote.Hole.Carrier.out
last_of (CodeDef' x n shape bs t b) H = record { body = _; value = refl; before = _; last = _; stated = refl; numbered = refl }

code_adds : (cs : List CodeDef) (H : Scope ℕ)
    → (us : List Tree) × (length cs ≡ length us) × ((definitions cs H).value ≡ after_defs (numbers_of cs) us H)
code_adds [] H = ([], refl, refl)
code_adds (c ∷ cs) H =
    let l = last_of c H in
    let h = code_adds cs (Definition (out-CodeDef c).number l.body ∷ H) in
    (l.body ∷ h.0, let e = h.1 in omega arith, ap (λ K. (definitions cs K).value) l.value ∙ h.2)

-- numbers that rise, from one on and up to another

abbrev Rise : ℕ → List ℕ → ℕ → Type 0
Rise k [] m = k ≤ m
Rise k (n ∷ ns) m = (k ≤ n) × Rise (suc n) ns m

count_split : (xs ys : List (Stated ℕ)) (k : ℕ) → map name (xs ++ ys) ≡ count_from (length (xs ++ ys)) k
    → (map name xs ≡ count_from (length xs) k) × (map name ys ≡ count_from (length ys) (k + length xs))
count_split [] ys k e = (refl, let z : k + 0 ≡ k = omega arith in rw z e)
count_split (x ∷ xs) ys k e =
    let first : x.name ≡ k = cc in
    let rest : map name (xs ++ ys) ≡ count_from (length (xs ++ ys)) (suc k) = cc in
    let h = count_split xs ys (suc k) rest in
    let z : k + suc (length xs) ≡ suc k + length xs = omega arith in
    (ap (λ n. n ∷ map name xs) first ∙ ap (λ ns. k ∷ ns) h.0, rw z h.1)

last_number : (before : List (Stated ℕ)) (d : Stated ℕ) (k : ℕ) → map name (before ++ d ∷ []) ≡ count_from (length (before ++ d ∷ [])) k → d.name ≡ k + length before
last_number before d k e = let h = (count_split before (d ∷ []) k e).1 in cc

numbers_rise : (cs : List CodeDef) (H : Scope ℕ) (k : ℕ) → let ds = (definitions cs H).stated in
    map name ds ≡ count_from (length ds) k → Rise k (numbers_of cs) (k + length ds)
numbers_rise [] H k e = omega arith
numbers_rise (c ∷ cs) H k e =
    let l = last_of c H in
    let first = (definition c H).stated in
    let K = (definition c H).value in
    let rest = (definitions cs K).stated in
    let h = count_split first rest k e in
    let n = (out-CodeDef c).number in
    let here : l.last.name ≡ k + length l.before = last_number l.before l.last k (subst (λ xs. map name xs ≡ count_from (length xs) k) l.stated h.0) in
    let count : length first ≡ length l.before + 1 = ap length l.stated ∙ length_append l.before (l.last ∷ []) in
    let next : k + length first ≡ suc n = let a = here in let b = l.numbered in let d = count in omega arith in
    let total : k + length first + length rest ≡ k + length (first ++ rest) = let d = length_append first rest in omega arith in (
      let a = here in let b = l.numbered in omega arith,
      subst (λ m. Rise m (numbers_of cs) (k + length (first ++ rest))) next (subst (λ m. Rise (k + length first) (numbers_of cs) m) total (numbers_rise cs K (k + length first) h.1)),
    )

-- bodies by their numbers

body_past : (n m : ℕ) (t : Tree) (H : Scope ℕ) → m < n → body_of (Definition n t ∷ H) m ≡ body_of H m
body_past n m t H l = here (n == m) refl
  where
    here : (v : Bool) → (n == m) ≡ v → (if v then t else body_of H m) ≡ body_of H m
    here true e = absurd (let d = eqb-true n m e in omega arith)
    here false e = refl

body_here : (n : ℕ) (t : Tree) (H : Scope ℕ) → body_of (Definition n t ∷ H) n ≡ t
body_here n t H = here (n == n) refl
  where
    here : (v : Bool) → (n == n) ≡ v → (if v then t else body_of H n) ≡ t
    here true e = refl
    here false e = absurd (grind arith)

body_kept : (ns : List ℕ) (ts : List Tree) (H : Scope ℕ) (k m n : ℕ) → Rise k ns m → n < k → body_of (after_defs ns ts H) n ≡ body_of H n
body_kept [] ts H k m n r l = refl
body_kept (x ∷ ns) [] H k m n r l = refl
body_kept (x ∷ ns) (t ∷ ts) H k m n r l =
    let a = r.0 in
    body_kept ns ts (Definition x t ∷ H) (suc x) m n r.1 (omega arith) ∙ body_past x n t H (omega arith)

-- names with the bodies of their numbers

spelt_by_numbers : (bytes : List ℕ) (cs : List CodeDef) (ts : List Tree) (H : Scope ℕ) (k m : ℕ) (G : Scope Word) → length cs ≡ length ts → Rise k (numbers_of cs) m
    → after_defs (map (word bytes) (spans_of cs)) ts G ≡ map (entry (after_defs (numbers_of cs) ts H)) (reverse (bound_by bytes cs)) ++ G
spelt_by_numbers bytes [] [] H k m G e r = refl
spelt_by_numbers bytes [] (t ∷ ts) H k m G e r = absurd (omega arith)
spelt_by_numbers bytes (c ∷ cs) [] H k m G e r = absurd (omega arith)
spelt_by_numbers bytes (c ∷ cs) (t ∷ ts) H k m G e r =
    let d = out-CodeDef c in
    let w = word bytes d.name in
    let b : ScopeName = record { name = w; def = d.number } in
    let K = after_defs (numbers_of cs) ts (Definition d.number t ∷ H) in
    let bs = bound_by bytes cs in
    let here : body_of K d.number ≡ t = body_kept (numbers_of cs) ts (Definition d.number t ∷ H) (suc d.number) m d.number r.1 (omega arith) ∙ body_here d.number t H in
    spelt_by_numbers bytes cs ts (Definition d.number t ∷ H) (suc d.number) m (Definition w t ∷ G) (omega arith) r.1
    ∙ ap (λ u. map (entry K) (reverse bs) ++ (Definition w u ∷ G)) (sym here)
    ∙ sym (append_assoc (map (entry K) (reverse bs)) (entry K b ∷ []) G)
    ∙ ap (λ xs. xs ++ G) (sym (map_append (entry K) (reverse bs) (b ∷ [])))
    ∙ ap (λ xs. map (entry K) xs ++ G) (sym (reverse-append (b ∷ []) bs))

same_entries : (H K : Scope ℕ) (next : ℕ) (ns : List ScopeName) → ((n : ℕ) → n < next → body_of K n ≡ body_of H n) → AreEarlierNames next (map named_of ns)
    → map (entry H) ns ≡ map (entry K) ns
same_entries H K next [] h a = refl
same_entries H K next (n ∷ ns) h a =
    ap (λ t. Definition n.name t ∷ map (entry H) ns) (sym (h n.def a.0)) ∙ ap (λ xs. entry K n ∷ xs) (same_entries H K next ns h a.1)

-- names in scope, the last first

earlier_names : (next : ℕ) (xs : List ScopeName) → ((k : ℕ) (d : ScopeName) → k < length xs → (get_or xs k d).def < next) → AreEarlierNames next (map named_of xs)
earlier_names next [] h = tt
earlier_names next (x ∷ xs) h = (h 0 x (omega arith), earlier_names next xs (λ k d l. h (suc k) d (omega arith)))

pub earlier_reversed : (next : ℕ) (xs : List ScopeName) → AreEarlier next xs → AreEarlierNames next (map named_of (reverse xs))
earlier_reversed next xs h = earlier_names next (reverse xs) (λ k d l.
    let within : k < length xs = subst (λ n. k < n) (length-reverse xs) l in
    subst (λ x. x.def < next) (sym (get_or-reverse xs k d within)) (h (length xs - 1 - k) d (omega arith)))

pub words_append : (H : Scope ℕ) (xs ys : List ScopeName) → words H (xs ++ ys) ≡ words H ys ++ words H xs
words_append H xs ys = ap (map (entry H)) (reverse-append xs ys) ∙ map_append (entry H) (reverse ys) (reverse xs)

pub words_kept : (H K : Scope ℕ) (next : ℕ) (names : List ScopeName) → ((n : ℕ) → n < next → body_of K n ≡ body_of H n) → AreEarlier next names → words H names ≡ words K names
words_kept H K next names kept h = same_entries H K next (reverse names) kept (earlier_reversed next names h)

rise_within : (k : ℕ) (ns : List ℕ) (m : ℕ) → Rise k ns m → k ≤ m
rise_within k [] m r = r
rise_within k (n ∷ ns) m r = let a = r.0 in let h = rise_within (suc n) ns m r.1 in omega arith

rise_below : (bytes : List ℕ) (cs : List CodeDef) (k m : ℕ) → Rise k (numbers_of cs) m
    → (i : ℕ) (d : ScopeName) → i < length (bound_by bytes cs) → (get_or (bound_by bytes cs) i d).def < m
rise_below bytes [] k m r i d l = absurd (omega arith)
rise_below bytes (c ∷ cs) k m r zero d l = let h = rise_within (suc (out-CodeDef c).number) (numbers_of cs) m r.1 in omega arith
rise_below bytes (c ∷ cs) k m r (suc i) d l = rise_below bytes cs (suc (out-CodeDef c).number) m r.1 i d (omega arith)

-- the scopes after the definitions
pub leaves : (bytes : List ℕ) (names : List ScopeName) (next count : ℕ) (ds : List Written) (cs : List CodeDef) (H : Scope ℕ)
    → context_of H ≡ Nil → AreEarlier next names → spans_of cs ≡ map (λ d. d.name) ds
    → map name (definitions cs H).stated ≡ count_from (length (definitions cs H).stated) next → count ≡ length (definitions cs H).stated
    → Adds (words H names) H (block bytes ds (words H names)).value (definitions cs H).value
    → Leaves names (bound_by bytes cs) next count H (block bytes ds (words H names)).value (definitions cs H).value
leaves bytes names next count ds cs H top earlier named numbered counted a =
    let G = words H names in
    let G' = (block bytes ds G).value in
    let H' = (definitions cs H).value in
    let x = text_adds bytes [] ds G in
    let y = code_adds cs H in
    let ws = map (word bytes) (map (λ (d : Written). d.name) ds) in
    let ns = numbers_of cs in
    let m = next + length (definitions cs H).stated in
    let rise : Rise next ns m = numbers_rise cs H next numbered in
    let a1 = a.named in
    let a2 = a.numbered in
    let x1 = x.1 in
    let y1 = y.1 in
    let ws_long : length ws ≡ length ds = length-map (map (λ (d : Written). d.name) ds) (word bytes) ∙ length-map ds (λ (d : Written). d.name) in
    let ns_long : length ns ≡ length cs = length-map cs (λ c. (out-CodeDef c).number) in
    let texts : after_defs ws x.0 G ≡ after_defs a.words a.bodies G = sym x.2 ∙ a.spelt in
    let codes : after_defs ns y.0 H ≡ after_defs a.numbers a.bodies H = sym y.2 ∙ a.code in
    let text_count : length ws ≡ length a.words =
    let p = after_length ws x.0 G (omega arith) in let q = after_length a.words a.bodies G a1 in let e = ap length texts in omega arith in
    let code_count : length ns ≡ length a.numbers =
    let p = after_length ns y.0 H (omega arith) in let q = after_length a.numbers a.bodies H a2 in let e = ap length codes in omega arith in
    let text_bodies : x.0 ≡ a.bodies = (after_same ws a.words x.0 a.bodies G G text_count (omega arith) a1 texts).0 in
    let code_bodies : y.0 ≡ a.bodies = (after_same ns a.numbers y.0 a.bodies H H code_count (omega arith) a2 codes).0 in
    let is_code : H' ≡ after_defs ns y.0 H = y.2 in
    let kept : (n : ℕ) → n < next → body_of H' n ≡ body_of H n =
    λ n l. ap (λ K. body_of K n) is_code ∙ body_kept ns y.0 H next m n rise l in
    record {
      top = ap context_of is_code ∙ after_context ns y.0 H ∙ top;
      named = x.2 ∙ ap (λ ts. after_defs ws ts G) (text_bodies ∙ sym code_bodies) ∙ ap (λ xs. after_defs (map (word bytes) xs) y.0 G) (sym named)
          ∙ spelt_by_numbers bytes cs y.0 H next m G (omega arith) rise
          ∙ ap (λ K. map (entry K) (reverse (bound_by bytes cs)) ++ G) (sym is_code)
          ∙ ap (λ xs. words H' (bound_by bytes cs) ++ xs) (words_kept H H' next names kept earlier)
          ∙ sym (words_append H' names (bound_by bytes cs));
      kept = kept;
      below = λ i d l. subst (λ c. (get_or (bound_by bytes cs) i d).def < next + c) (sym counted) (rise_below bytes cs next m rise i d l);
    }
