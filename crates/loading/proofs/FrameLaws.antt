-- The state of loading: from it on, what is left to be done ends or is refused as the whole does.
use Rattle.std.proofs.Common.{◌≡◌, ◌<◌, ◌≤◌, ◌+◌, ◌-◌, ◌*◌, ◌^◌, ◌⊎◌, ⊎_elim, inl, inr, ℕ, zero, suc, List, [], ◌∷◌, ◌++◌, map, length, drop, refl, sym, ◌∙◌, ap, ap₂, subst, arith, Option, None, Some, length-append, add-mul}
use Rattle.std.specs.Prelude.{reverse, slice_index_or, String, string_bytes, Result, Ok, Err, IfOk, IfErr}
use Rattle.std.specs.declared.alloc.Global.{Global}
use Rattle.std.specs.List.{Any, Contains}
use Rattle.std.proofs.lemmas.List.{get_or-map, get_or-reverse, length-reverse, map_push, reverse-append, reverse-reverse, length-map}
use Rattle.host_io.specs.Files.{Held}
use Rattle.module_texts.specs.declared.text.ModuleText.{ModuleText}
use Rattle.loading.specs.declared.text.LoadFault.{LoadFault}
use Rattle.loading.specs.declared.text.LoadFault.TheVariants as fault
use Rattle.loading.specs.declared.begun.Begun.{Begun}
use Rattle.loading.specs.Texts.{IsText, FailsAt}
use Rattle.module_texts.specs.Texts.{Text, imports_of, name_at, text_of}
use Rattle.loading.specs.Loading.{Loads, Refuses, none, known, anew, here, within, after_known, after_new, IsLoaded, IsAnother, IsNew, RefusesOne, most_modules}
use Rattle.loading.specs.Frames.{begun_text, begun_name, names_of, left_of, Passes}

-- the names of modules of which the innermost stands first
abbrev pub inner_names : List Begun → List (List ℕ)
inner_names = map begun_name

-- with these modules loaded and these begun, the innermost first, these modules are loaded in the end
abbrev pub Ends : Option Held → List Text → List Begun → List Text → Type 0
Ends held loaded [] after = loaded ≡ after
Ends held loaded (b ∷ bs) after =
    (between : List Text) × Loads held loaded (inner_names (b ∷ bs)) (left_of b) between
    × Ends held (between ++ begun_text b ∷ []) bs after

-- and there this is the first refusal
abbrev pub Stops : Option Held → List Text → List Begun → LoadFault → Type 0
Stops held loaded [] f = ⊥
Stops held loaded (b ∷ bs) f =
    Refuses held loaded (inner_names (b ∷ bs)) (left_of b) f
    ⊎ ((between : List Text) × Loads held loaded (inner_names (b ∷ bs)) (left_of b) between
    × Stops held (between ++ begun_text b ∷ []) bs f)

-- the whole ends and is refused as what is left
pub record Goes (held : Option Held) (name : List ℕ) (loaded : List Text) (begun : List Begun) : Type 0 where
  pub ends : (after : List Text) → Ends held loaded begun after → Loads held [] [] (name ∷ []) after
  pub stops : (f : LoadFault) → Stops held loaded begun f → Refuses held [] [] (name ∷ []) f

no_name : {X : Type 0} (x : X) → Contains [] x → ⊥
no_name x c = omega (arith, c.1)

none_loaded : (name : List ℕ) → IsLoaded [] name → ⊥
none_loaded name a = omega (arith, a.2)

another_first : (name : List ℕ) → IsAnother 0 [] name
another_first name = (no_name name, omega arith)

first_new : (name : List ℕ) → IsNew [] [] name
first_new name = record { not_loaded = none_loaded name; another = another_first name }

-- the first module was read
pub goes-first : (held : Option Held) (name : List ℕ) (b : Begun) → IsText held name (begun_text b) → b.next ≡ 0 → Goes held name [] (b ∷ [])
goes-first held name b is first =
    let all : left_of b ≡ imports_of (begun_text b) = ap (λ n. drop n (imports_of (begun_text b))) first in
    let L : List (List ℕ) → List (List ℕ) → List Text → Type 0 = λ ns is m. Loads held [] ns is m in
    record {
      ends = λ after e.
          anew (begun_text b) (first_new name) is
          (subst (λ ns. Loads held [] (ns ∷ []) (imports_of (begun_text b)) e.0) is.named (subst (λ is. Loads held [] (inner_names (b ∷ [])) is e.0) all e.1))
          (subst (λ m. Loads held (e.0 ++ begun_text b ∷ []) [] [] m) e.2 none);
      stops = λ f s. ⊎_elim
          (λ r. within (begun_text b) (first_new name) is
          (subst (λ ns. Refuses held [] (ns ∷ []) (imports_of (begun_text b)) f) is.named (subst (λ is. Refuses held [] (inner_names (b ∷ [])) is f) all r)))
          (λ e. absurd e.2) s;
    }

-- a module that can't be read is refused so
pub own : (held : Option Held) (loaded : ℕ) (begun : List (List ℕ)) (name : List ℕ) (f : LoadFault) → IsAnother loaded begun name → FailsAt held name f → RefusesOne held loaded begun name f
own held loaded begun name (fault.Missing path) a h = (a, h)
own held loaded begun name fault.Unreadable a h = (a, h)
own held loaded begun name (fault.NoTokens g path) a h = (a, h)
own held loaded begun name (fault.NoModule g path) a h = (a, h)
own held loaded begun name (fault.Cycle path) a h = absurd h.2
own held loaded begun name (fault.TooMany path) a h = absurd h.2
own held loaded begun name fault.Memory a h = (a, h)

-- the first module is refused
pub first-refused : (held : Option Held) (name : List ℕ) (bs : List Begun) (f : LoadFault) → bs ≡ [] → RefusesOne held 0 (names_of bs) name f → Refuses held [] [] (name ∷ []) f
first-refused held name bs f empty r =
    here (none_loaded name) (subst (λ b. RefusesOne held 0 (names_of b) name f) empty r)

-- all imports of the innermost are loaded
pub goes-done : {held : Option Held} {name : List ℕ} {loaded : List Text} {b : Begun} {bs : List Begun} → left_of b ≡ [] → Goes held name loaded (b ∷ bs) → Goes held name (loaded ++ begun_text b ∷ []) bs
goes-done {held} {name} {loaded} {b} {bs} done g =
    let here : Loads held loaded (inner_names (b ∷ bs)) (left_of b) loaded = subst (λ is. Loads held loaded (inner_names (b ∷ bs)) is loaded) (sym done) none in
    record {
      ends = λ after e. g.ends after (loaded, here, e);
      stops = λ f s. g.stops f (inr (loaded, here, s));
    }

-- of a module that was begun this import is passed
pub record Passed (b b' : Begun) (n : List ℕ) : Type 0 where
  pub left : left_of b ≡ n ∷ left_of b'
  pub text : begun_text b' ≡ begun_text b

-- a module whose imports begin
begins : {held : Option Held} {loaded : List Text} (c : Begun) (bs : List Begun) (n : List ℕ) {m : List Text} → IsText held n (begun_text c) → c.next ≡ 0 → Loads held loaded (inner_names (c ∷ bs)) (left_of c) m → Loads held loaded (n ∷ inner_names bs) (imports_of (begun_text c)) m
begins {held} {loaded} c bs n {m} is first l =
    let all : left_of c ≡ imports_of (begun_text c) = ap (λ k. drop k (imports_of (begun_text c))) first in
    subst (λ k. Loads held loaded (k ∷ inner_names bs) (imports_of (begun_text c)) m) is.named (subst (λ is. Loads held loaded (inner_names (c ∷ bs)) is m) all l)

begins-refused : {held : Option Held} {loaded : List Text} (c : Begun) (bs : List Begun) (n : List ℕ) {f : LoadFault} → IsText held n (begun_text c) → c.next ≡ 0 → Refuses held loaded (inner_names (c ∷ bs)) (left_of c) f → Refuses held loaded (n ∷ inner_names bs) (imports_of (begun_text c)) f
begins-refused {held} {loaded} c bs n {f} is first r =
    let all : left_of c ≡ imports_of (begun_text c) = ap (λ k. drop k (imports_of (begun_text c))) first in
    subst (λ k. Refuses held loaded (k ∷ inner_names bs) (imports_of (begun_text c)) f) is.named (subst (λ is. Refuses held loaded (inner_names (c ∷ bs)) is f) all r)

module _ {held : Option Held} {loaded : List Text} {b b' : Begun} {n : List ℕ} (bs : List Begun) (p : Passed b b' n) where
  back : {m : List Text} → Loads held loaded (inner_names (b' ∷ bs)) (n ∷ left_of b') m → Loads held loaded (inner_names (b ∷ bs)) (left_of b) m
  back {m} l = subst (λ is. Loads held loaded (inner_names (b ∷ bs)) is m) (sym p.left) (subst (λ ns. Loads held loaded ns (n ∷ left_of b') m) (ap (λ x. x.name ∷ inner_names bs) p.text) l)

  back-refused : {f : LoadFault} → Refuses held loaded (inner_names (b' ∷ bs)) (n ∷ left_of b') f → Refuses held loaded (inner_names (b ∷ bs)) (left_of b) f
  back-refused {f} r = subst (λ is. Refuses held loaded (inner_names (b ∷ bs)) is f) (sym p.left) (subst (λ ns. Refuses held loaded ns (n ∷ left_of b') f) (ap (λ x. x.name ∷ inner_names bs) p.text) r)

  -- the import was loaded before
  pub goes-known : {name : List ℕ} → IsLoaded loaded n → Goes held name loaded (b ∷ bs) → Goes held name loaded (b' ∷ bs)
  goes-known {name} k g = record {
    ends = λ after e. g.ends after (e.0, back (known k e.1), subst (λ x. Ends held (e.0 ++ x ∷ []) bs after) p.text e.2);
    stops = λ f s. g.stops f (⊎_elim
        (λ r. inl (back-refused (after_known k r)))
        (λ e. inr (e.0, back (known k e.1), subst (λ x. Stops held (e.0 ++ x ∷ []) bs f) p.text e.2)) s);
  }

  -- the import is refused
  pub stops-here : {name : List ℕ} {f : LoadFault} → (IsLoaded loaded n → ⊥) → RefusesOne held (length loaded) (inner_names (b' ∷ bs)) n f → Goes held name loaded (b ∷ bs) → Refuses held [] [] (name ∷ []) f
  stops-here {name} {f} not r g = g.stops f (inl (back-refused (here not r)))

  -- the import was read, and begins
  pub goes-new : {name : List ℕ} (c : Begun) → (IsLoaded loaded n → ⊥) → IsAnother (length loaded) (inner_names (b' ∷ bs)) n → IsText held n (begun_text c) → c.next ≡ 0 → Goes held name loaded (b ∷ bs) → Goes held name loaded (c ∷ b' ∷ bs)
  goes-new {name} c not another is first g =
      let new : IsNew loaded (inner_names (b' ∷ bs)) n = record { not_loaded = not; another = another } in
      record {
        ends = λ after e.
            g.ends after (e.2.0, back (anew (begun_text c) new is (begins c (b' ∷ bs) n is first e.1) e.2.1), subst (λ x. Ends held (e.2.0 ++ x ∷ []) bs after) p.text e.2.2);
        stops = λ f s. g.stops f (⊎_elim
            (λ r. inl (back-refused (within (begun_text c) new is (begins-refused c (b' ∷ bs) n is first r))))
            (λ e. ⊎_elim
            (λ r. inl (back-refused (after_new (begun_text c) new is (begins c (b' ∷ bs) n is first e.1) r)))
            (λ d. inr (d.0, back (anew (begun_text c) new is (begins c (b' ∷ bs) n is first e.1) d.1), subst (λ x. Stops held (d.0 ++ x ∷ []) bs f) p.text d.2))
            e.2) s);
      }

-- what holds of one of a list, and of what one of it is seen as

pub any-map : {X Y : Type 0} (f : X → Y) (P : Y → Type 0) (xs : List X) → Any (λ x. P (f x)) xs → Any P (map f xs)
any-map f P xs (k, x, lt, at, is) = (k, f x, subst (λ n. k < n) (sym (length-map xs f)) lt, get_or-map f xs k x (f x) lt ∙ ap f at, is)

pub any-from_map : {X Y : Type 0} (f : X → Y) (P : Y → Type 0) (xs : List X) → Any P (map f xs) → Any (λ x. P (f x)) xs
any-from_map f P [] a = absurd (omega (arith, a.2))
any-from_map f P (x ∷ xs) (zero, y, lt, at, is) = (zero, x, omega arith, refl, subst P (sym at) is)
any-from_map f P (x ∷ xs) (suc k, y, lt, at, is) =
    let a = any-from_map f P xs (k, y, omega arith, at, is) in (suc a.0, a.1, omega (arith, a.2), a.3, a.4)

-- a list and the same backwards have the same names
contains-reverse : {X : Type 0} (xs : List X) (x : X) → Contains xs x → Contains (reverse xs) x
contains-reverse xs x c =
    let l = length-reverse xs in
    let there : length xs - 1 - c.0 < length (reverse xs) = omega (arith, c.1) in
    let at : length xs - 1 - (length xs - 1 - c.0) ≡ c.0 = omega (arith, c.1) in
    (length xs - 1 - c.0, there, get_or-reverse xs (length xs - 1 - c.0) x (omega (arith, c.1)) ∙ ap (λ k. slice_index_or xs k x) at ∙ c.2)

contains-from_any : {X : Type 0} (f : X → List ℕ) (xs : List X) (name : List ℕ) → Any (λ x. f x ≡ name) xs → Contains (map f xs) name
contains-from_any f [] name a = absurd (omega (arith, a.2))
contains-from_any f (x ∷ xs) name (zero, y, lt, at, is) = (zero, omega arith, ap f at ∙ is)
contains-from_any f (x ∷ xs) name (suc k, y, lt, at, is) =
    let c = contains-from_any f xs name (k, y, omega arith, at, is) in (suc c.0, omega (arith, c.1), c.2)

any-from_contains : {X : Type 0} (f : X → List ℕ) (xs : List X) (name : List ℕ) → Contains (map f xs) name → Any (λ x. f x ≡ name) xs
any-from_contains f [] name c = absurd (omega (arith, c.1))
any-from_contains f (x ∷ xs) name (zero, lt, is) = (zero, x, omega arith, refl, is)
any-from_contains f (x ∷ xs) name (suc k, lt, is) =
    let a = any-from_contains f xs name (k, omega (arith, lt), is) in (suc a.0, a.1, omega (arith, a.2), a.3, a.4)

any-reverse : {X : Type 0} (f : X → List ℕ) (xs : List X) (name : List ℕ) → Any (λ x. f x ≡ name) xs → Any (λ x. f x ≡ name) (reverse xs)
any-reverse f xs name (k, x, lt, at, is) =
    let c = contains-reverse xs x (k, lt, at) in (c.0, x, c.1, c.2, is)

-- the names of those that were begun, of which the innermost stands last
module _ (bs : List Begun) (name : List ℕ) where
  pub has-begun : Any (λ b. begun_name b ≡ name) bs → Contains (names_of bs) name
  has-begun a = contains-from_any begun_name (reverse bs) name (any-reverse begun_name bs name a)

  pub has-not_begun : (Any (λ b. begun_name b ≡ name) bs → ⊥) → Contains (names_of bs) name → ⊥
  has-not_begun not c =
      let a = any-reverse begun_name (reverse bs) name (any-from_contains begun_name (reverse bs) name c) in
      not (subst (Any (λ b. begun_name b ≡ name)) (reverse-reverse bs) a)

pub length-names_of : (bs : List Begun) → length (names_of bs) ≡ length bs
length-names_of bs = length-map (reverse bs) begun_name ∙ length-reverse bs

-- the imports that are left, after the one at n
pub next-left : {X : Type 0} (f : X → List ℕ) (xs : List X) (n : ℕ) (x : X) → n < length xs → x ≡ slice_index_or xs n x → drop n (map f xs) ≡ f x ∷ drop (n + 1) (map f xs)
next-left f [] n x lt at = absurd (omega arith)
next-left f (y ∷ ys) zero x lt at = ap (λ z. f z ∷ map f ys) (sym at)
next-left f (y ∷ ys) (suc n) x lt at =
    next-left f ys n x (omega arith) at ∙ ap (λ k. f x ∷ drop k (map f (y ∷ ys))) (let k : suc (n + 1) ≡ suc n + 1 = omega arith in k)

-- what is left to be done
abbrev pub weights : List Begun → ℕ
weights [] = 0
weights (b ∷ bs) = suc (length (left_of b)) + weights bs

abbrev pub measure : ℕ → List Begun → ℕ
measure modules begun = (most_modules - modules) * 2 ^ 65 + weights begun

less-new : (n u v w : ℕ) → suc n < most_modules → v < 2 ^ 64 → (most_modules - (n + 2)) * 2 ^ 65 + (suc v + (suc u + w)) < (most_modules - (n + 1)) * 2 ^ 65 + (suc (suc u) + w)
less-new n u v w lt few =
    let t = most_modules - (n + 2) in
    let more : most_modules - (n + 1) ≡ t + 1 = omega (arith, lt) in
    let times : (most_modules - (n + 1)) * 2 ^ 65 ≡ t * 2 ^ 65 + 2 ^ 65 = ap (λ k. k * 2 ^ 65) more ∙ add-mul t 1 (2 ^ 65) in
    omega (arith, times, few)

-- the loop begins with the first module
pub goes-start : (held : Option Held) (name : List ℕ) (b : Begun) (old items : List Begun) (loaded : List ModuleText) → loaded ≡ [] → old ≡ [] → items ≡ old ++ b ∷ [] → IsText held name (begun_text b) → b.next ≡ 0 → Goes held name (map text_of loaded) (reverse items)
goes-start held name b old items loaded unloaded empty is text next =
    let one : items ≡ b ∷ [] = is ∙ ap (λ bs. bs ++ b ∷ []) empty in
    let g = goes-first held name b text next in
    subst (λ l. Goes held name (map text_of l) (reverse items)) (sym unloaded) (subst (λ bs. Goes held name [] (reverse bs)) (sym one) g)

last-first : {X : Type 0} (items rest : List X) (x : X) → items ≡ rest ++ x ∷ [] → reverse items ≡ x ∷ reverse rest
last-first items rest x is = ap reverse is ∙ reverse-append rest (x ∷ [])

one-more : {X : Type 0} (items rest : List X) (x : X) → items ≡ rest ++ x ∷ [] → length items ≡ length rest + 1
one-more items rest x is = ap length is ∙ length-append rest (x ∷ [])

-- the innermost has no import left
pub turn-done : {held : Option Held} {name : List ℕ} (loaded after : List ModuleText) (items rest : List Begun) (b b' : Begun) (o : Option (String Global)) → items ≡ rest ++ b ∷ [] → Passes b b' o → o ≡ None → after ≡ loaded ++ b'.text ∷ [] → Goes held name (map text_of loaded) (reverse items) → Goes held name (map text_of after) (reverse rest)
turn-done {held} {name} loaded after items rest b b' o popped passes no_import is g =
    let p = subst (Passes b b') no_import passes in
    let here = goes-done p.0 (subst (Goes held name (map text_of loaded)) (last-first items rest b popped) g) in
    subst (λ l. Goes held name l (reverse rest)) (ap (λ x. map text_of loaded ++ begun_text x ∷ []) (sym p.1) ∙ sym (ap (map text_of) is ∙ map_push text_of loaded b'.text)) here

pub turn-count : (loaded after : List ModuleText) (items rest : List Begun) (b b' : Begun) → items ≡ rest ++ b ∷ [] → after ≡ loaded ++ b'.text ∷ [] → length after + length rest ≡ length loaded + length items
turn-count loaded after items rest b b' popped is = omega (arith, one-more items rest b popped, one-more after loaded b'.text is)

-- the innermost has an import
module _ {held : Option Held} {name : List ℕ} (loaded : List ModuleText) (items rest new : List Begun) (b b' : Begun) (o : Option (String Global)) (import : String Global) (n : List ℕ) (named : n ≡ string_bytes import) (popped : items ≡ rest ++ b ∷ []) (passes : Passes b b' o) (some : o ≡ Some import) (pushed : new ≡ rest ++ b' ∷ []) (g : Goes held name (map text_of loaded) (reverse items)) where
  passed : Passed b b' n
  passed = let p = subst (Passes b b') some passes in record { left = p.0 ∙ ap (λ k. k ∷ left_of b') (sym named); text = ap text_of p.1 }

  before : Goes held name (map text_of loaded) (b ∷ reverse rest)
  before = subst (Goes held name (map text_of loaded)) (last-first items rest b popped) g

  order : reverse new ≡ b' ∷ reverse rest
  order = last-first new rest b' pushed

  count : length loaded ≡ length (map text_of loaded)
  count = sym (length-map loaded text_of)

  pub turn-known : IsLoaded (map text_of loaded) n → Goes held name (map text_of loaded) (reverse new)
  turn-known k = subst (Goes held name (map text_of loaded)) (sym order) (goes-known (reverse rest) passed k before)

  pub turn-refused : (f : LoadFault) → (IsLoaded (map text_of loaded) n → ⊥) → RefusesOne held (length loaded) (names_of new) n f → Refuses held [] [] (name ∷ []) f
  turn-refused f not r = stops-here (reverse rest) passed not (subst (λ k. RefusesOne held k (inner_names (b' ∷ reverse rest)) n f) count (subst (λ bs. RefusesOne held (length loaded) (inner_names bs) n f) order r)) before

  pub turn-new : (c : Begun) (longer : List Begun) → longer ≡ new ++ c ∷ [] → (IsLoaded (map text_of loaded) n → ⊥) → IsAnother (length loaded) (names_of new) n → IsText held n (begun_text c) → c.next ≡ 0 → Goes held name (map text_of loaded) (reverse longer)
  turn-new c longer is not another text next =
      let there = subst (λ k. IsAnother k (inner_names (b' ∷ reverse rest)) n) count (subst (λ bs. IsAnother (length loaded) (inner_names bs) n) order another) in
      let whole : reverse longer ≡ c ∷ b' ∷ reverse rest = last-first longer new c is ∙ ap (λ bs. c ∷ bs) order in
      subst (Goes held name (map text_of loaded)) (sym whole) (goes-new (reverse rest) passed c not there text next before)

  pub turn-less : (c : Begun) (longer : List Begun) → longer ≡ new ++ c ∷ [] → IsAnother (length loaded) (names_of new) n → c.next ≡ 0 → length c.text.module.imports < 2 ^ 64 → measure (length loaded + length longer) (reverse longer) < measure (length loaded + length items) (reverse items)
  turn-less c longer is another next few =
      let done = length loaded + length rest in
      let all : length (left_of c) ≡ length c.text.module.imports = ap (λ k. length (drop k (imports_of (begun_text c)))) next ∙ length-map c.text.module.imports (name_at c.text.bytes.items) in
      let whole : reverse longer ≡ c ∷ b' ∷ reverse rest = last-first longer new c is ∙ ap (λ bs. c ∷ bs) order in
      let w : weights (reverse longer) ≡ suc (length (left_of c)) + (suc (length (left_of b')) + weights (reverse rest)) = ap weights whole in
      let v : weights (reverse items) ≡ suc (length (left_of b)) + weights (reverse rest) = ap weights (last-first items rest b popped) in
      let u : length (left_of b) ≡ suc (length (left_of b')) = ap length passed.left in
      let a : length items ≡ length rest + 1 = one-more items rest b popped in
      let d : length new ≡ length rest + 1 = one-more new rest b' pushed in
      let e : length longer ≡ length new + 1 = one-more longer new c is in
      let m : length loaded + length longer ≡ done + 2 = omega (arith, d, e) in
      let k : length loaded + length items ≡ done + 1 = omega (arith, a) in
      let room : suc done < most_modules = omega (arith, another.1, length-names_of new, d) in
      let less = less-new done (length (left_of b')) (length (left_of c)) (weights (reverse rest)) room (omega (arith, all, few)) in
      subst (λ x. x < (most_modules - (length loaded + length items)) * 2 ^ 65 + weights (reverse items))
      (ap₂ (λ x y. (most_modules - x) * 2 ^ 65 + y) (sym m) (sym w))
      (subst (λ y. (most_modules - (done + 2)) * 2 ^ 65 + (suc (length (left_of c)) + (suc (length (left_of b')) + weights (reverse rest))) < y)
      (ap₂ (λ x y. (most_modules - x) * 2 ^ 65 + y) (sym k) (ap (λ z. suc z + weights (reverse rest)) (sym u) ∙ sym v))
      less)

  pub turn-room : (c : Begun) (longer : List Begun) → longer ≡ new ++ c ∷ [] → IsAnother (length loaded) (names_of new) n → length loaded + length longer ≤ most_modules
  turn-room c longer is another = omega (arith, another.1, length-names_of new, one-more longer new c is)

  pub turn-same : length new ≡ length items
  turn-same = one-more new rest b' pushed ∙ sym (one-more items rest b popped)

-- what holds whatever the answer, and what follows of an error

pub always_ok : {X E : Type 0} {P : Type 0} (r : Result X E) → P → IfOk r (λ x. P)
always_ok (Ok x) p = p
always_ok (Err e) p = tt

pub other_error : {X E : Type 0} {P Q : E → Type 0} (r : Result X E) → ((e : E) → P e → Q e) → IfErr r P → IfErr r Q
other_error (Ok x) h p = tt
other_error (Err e) h p = h e p
