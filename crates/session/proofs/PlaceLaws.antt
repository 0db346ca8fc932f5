-- Definitions of several modules, by their places among all.
use Rattle.std.proofs.Common.{◌≡◌, ◌<◌, ◌≤◌, ◌+◌, ◌-◌, ℕ, zero, suc, List, [], ◌∷◌, ◌++◌, map, length, drop, slice_get, slice_index_or, refl, sym, ◌∙◌, ap, subst, arith, Option, Some, None, inl, inr, Bool, false, IsTrue, ◌↔◌, true≢false}
use Rattle.std.specs.List.{flat_map}
use Rattle.std.specs.Option.{option_map}
use Rattle.std.proofs.lemmas.Bool.{cases_lt}
use Rattle.std.proofs.lemmas.Option.{slice_get_past}
use Rattle.std.proofs.lemmas.List.{length-append, length-map}
use Rattle.layout_lexer.specs.declared.token.Span.{Span}
use Rattle.syntax.specs.View.{def_items}
use Rattle.syntax.specs.declared.exp.Def.{out-Def}
use Rattle.syntax.proofs.Rows.{defs_of_items}
use Rattle.translation.specs.Texts.{Written, defs}
use Rattle.codes.specs.declared.code.CodeDef.{CodeDef, out-CodeDef}
use Rattle.codes.proofs.Logs.{map_append}
use Rattle.resolved_forms.specs.Spelt.{written_in, def_names}
use Rattle.resolved_forms.proofs.Spelling.{names_written}
use Rattle.resolver.specs.declared.resolving.Codes.{Codes}
use Rattle.resolver.specs.Resolved.{defs_in}
use Rattle.module_texts.specs.declared.text.ModuleText.{ModuleText}
use Rattle.module_texts.specs.Texts.{Text, text_of, name_at as name_in}
use Rattle.linking.specs.Modules.{names_in}
use Rattle.linking.specs.Linked.{IsLinked}
use Rattle.direct.specs.Known.{Known}
use Rattle.direct.specs.Direct.{def_typing, other_place, place_after}
use Rattle.session.specs.Places.{Named, called, names, places, places_in}

-- lists

pub get_map : {A B : Type 0} (f : A → B) (xs : List A) (k : ℕ) → slice_get (map f xs) k ≡ option_map f (slice_get xs k)
get_map f [] k = refl
get_map f (x ∷ xs) zero = refl
get_map f (x ∷ xs) (suc k) = get_map f xs k

get_front : {A : Type 0} (xs ys : List A) (k : ℕ) → k < length xs → slice_get (xs ++ ys) k ≡ slice_get xs k
get_front [] ys k l = absurd (omega arith)
get_front (x ∷ xs) ys zero l = refl
get_front (x ∷ xs) ys (suc k) l = get_front xs ys k (omega arith)

get_behind : {A : Type 0} (xs ys : List A) (k : ℕ) → length xs ≤ k → slice_get (xs ++ ys) k ≡ slice_get ys (k - length xs)
get_behind [] ys k l = ap (slice_get ys) (omega arith)
get_behind (x ∷ xs) ys zero l = absurd (omega arith)
get_behind (x ∷ xs) ys (suc k) l = get_behind xs ys k (omega arith) ∙ ap (slice_get ys) (let e : k - length xs ≡ suc k - suc (length xs) = omega arith in e)

get_within : {A : Type 0} (xs : List A) (k : ℕ) → k < length xs → (x : A) × (slice_get xs k ≡ Some x)
get_within [] k l = absurd (omega arith)
get_within (x ∷ xs) zero l = (x, refl)
get_within (x ∷ xs) (suc k) l = get_within xs k (omega arith)

pub get_read : {A : Type 0} (xs : List A) (k : ℕ) (x : A) → k < length xs → x ≡ slice_index_or xs k x → slice_get xs k ≡ Some x
get_read [] k x l e = absurd (omega arith)
get_read (y ∷ xs) zero x l e = ap Some (sym e)
get_read (y ∷ xs) (suc k) x l e = get_read xs k x (omega arith) e

-- what is read in a list that is another
pub read_in : {A : Type 0} {ys : List A} (xs : List A) (k : ℕ) (x : A) → xs ≡ ys → x ≡ slice_index_or xs k x → x ≡ slice_index_or ys k x
read_in {A} {ys} xs k x same e = subst (λ zs. x ≡ slice_index_or zs k x) same e

-- what is read twice at a place is one
pub one_read : {A : Type 0} (xs : List A) (k : ℕ) (x y : A) → k < length xs → x ≡ slice_index_or xs k x → y ≡ slice_index_or xs k y → x ≡ y
one_read xs k x y l e f = let p : Some x ≡ Some y = sym (get_read xs k x l e) ∙ get_read xs k y l f in cc

drop_all : {A : Type 0} (xs : List A) (k : ℕ) → length xs ≤ k → drop k xs ≡ []
drop_all [] zero l = refl
drop_all [] (suc k) l = refl
drop_all (x ∷ xs) zero l = absurd (omega arith)
drop_all (x ∷ xs) (suc k) l = drop_all xs k (omega arith)

drop_one : {A : Type 0} (xs : List A) (k : ℕ) (x : A) → k < length xs → x ≡ slice_index_or xs k x → drop k xs ≡ x ∷ drop (k + 1) xs
drop_one [] k x l e = absurd (omega arith)
drop_one (y ∷ xs) zero x l e = ap (λ z. z ∷ xs) (sym e)
drop_one (y ∷ xs) (suc k) x l e = drop_one xs k x (omega arith) e ∙ ap (λ n. x ∷ drop n (y ∷ xs)) (let s : suc (k + 1) ≡ suc k + 1 = omega arith in s)

-- the definitions of one module

names_spelt : (x : ModuleText) → names_in (text_of x) ≡ def_names (def_items x.module.defs)
unfolding written_in
names_spelt x =
    ap (λ ts. map (λ (w : Written). w.name) (defs x.bytes.items ts)) (defs_of_items x.module.defs)
    ∙ names_written x.bytes.items (def_items x.module.defs)

pub count_in : (x : ModuleText) → length (def_items x.module.defs) ≡ length (places_in (text_of x))
count_in x =
    sym (length-map (def_items x.module.defs) (λ d. (out-Def d).name)) ∙ sym (ap length (names_spelt x))
    ∙ sym (length-map (names_in (text_of x)) (λ s. let p : Named = record { holder = text_of x; name = s } in p))

-- those of all modules are named as their codes are

name_at : Named → Span
name_at p = p.name

names_of_one : (x : Text) (ss : List Span) → map (λ (p : Named). p.name) (map (λ s. record { holder = x; name = s }) ss) ≡ ss
names_of_one x [] = refl
names_of_one x (s ∷ ss) = ap (λ ns. s ∷ ns) (names_of_one x ss)

names_of_places : (xs : List Text) → map (λ (p : Named). p.name) (places xs) ≡ flat_map names_in xs
names_of_places [] = refl
names_of_places (x ∷ xs) =
    map_append (λ (p : Named). p.name) (places_in x) (places xs) ∙ ap (λ ns. ns ++ map (λ (p : Named). p.name) (places xs)) (names_of_one x (names_in x))
    ∙ ap (λ ns. names_in x ++ ns) (names_of_places xs)

module _ (texts : List Text) (codes : Codes) (linked : IsLinked texts codes) where
  pub count_of_places : length (defs_in codes) ≡ length (places texts)
  count_of_places =
      sym (length-map (defs_in codes) (λ c. (out-CodeDef c).name)) ∙ ap length (linked.named ∙ sym (names_of_places texts))
      ∙ length-map (places texts) (λ (p : Named). p.name)

  pub name_of_place : (k : ℕ) (d : CodeDef) (at : Named) → k < length (defs_in codes) → d ≡ slice_index_or (defs_in codes) k d → slice_get (places texts) k ≡ Some at → at.name ≡ (out-CodeDef d).name
  name_of_place k d at l is there =
      let of_code : slice_get (map (λ c. (out-CodeDef c).name) (defs_in codes)) k ≡ Some (out-CodeDef d).name =
      get_map (λ c. (out-CodeDef c).name) (defs_in codes) k ∙ ap (option_map (λ c. (out-CodeDef c).name)) (get_read (defs_in codes) k d l is) in
      let of_place : slice_get (map (λ (p : Named). p.name) (places texts)) k ≡ Some at.name =
      get_map (λ (p : Named). p.name) (places texts) k ∙ ap (option_map (λ (p : Named). p.name)) there in
      let same : Some at.name ≡ Some (out-CodeDef d).name =
      sym of_place ∙ ap (λ ns. slice_get ns k) (names_of_places texts ∙ sym linked.named) ∙ of_code in
      cc

-- the module that holds a definition

-- All modules before one are passed, and the definition is the so-many-th of those that are left.
pub record Looks (texts : List Text) (place number left : ℕ) : Type 0 where
  pub same : slice_get (places texts) place ≡ slice_get (places (drop number texts)) left
  pub within : left < length (places (drop number texts))

pub looks_first : (texts : List Text) (place : ℕ) → place < length (places texts) → Looks texts place 0 place
looks_first texts place l = record { same = refl; within = l }

pub looks_inside : (texts : List Text) (place number left : ℕ) → Looks texts place number left → number < length texts
looks_inside texts place number left looks = elim (cases_lt number (length texts)) [
  | inl less ↦ less
  | inr more ↦
      let none : length (places (drop number texts)) ≡ 0 = ap (λ xs. length (places xs)) (drop_all texts number (omega arith)) in
      let l = looks.within in
      absurd (omega arith)
]

module _ (texts : List Text) (place number left count : ℕ) (x : Text) (looks : Looks texts place number left) (inside : number < length texts)
    (is : x ≡ slice_index_or texts number x) (counted : count ≡ length (places_in x)) where
  rest : List Text
  rest = drop (number + 1) texts

  here : places (drop number texts) ≡ places_in x ++ places (drop (number + 1) texts)
  here = ap places (drop_one texts number x inside is)

  pub looks_on : count ≤ left → Looks texts place (number + 1) (left - count)
  looks_on l =
      let long = ap length here ∙ length-append (places_in x) (places (drop (number + 1) texts)) in
      let within = looks.within in
      record {
        same = looks.same ∙ ap (λ ps. slice_get ps left) here ∙ get_behind (places_in x) (places (drop (number + 1) texts)) left (omega (arith, l, counted))
            ∙ ap (λ n. slice_get (places (drop (number + 1) texts)) (left - n)) (sym counted);
        within = omega (arith, long, within, l, counted);
      }

  pub looks_found : left < count → (at : Named) × (slice_get (places texts) place ≡ Some at) × (at.holder ≡ x)
  looks_found l =
      let less : left < length (names_in x) = omega (arith, l, counted, length-map (names_in x) (λ s. let p : Named = record { holder = x; name = s } in p)) in
      let found = get_within (names_in x) left less in (
        record { holder = x; name = found.0 },
        looks.same ∙ ap (λ ps. slice_get ps left) here ∙ get_front (places_in x) (places (drop (number + 1) texts)) left (omega (arith, l, counted))
            ∙ get_map (λ s. record { holder = x; name = s }) (names_in x) left ∙ ap (option_map (λ s. let p : Named = record { holder = x; name = s } in p)) found.1,
        refl,
      )

-- the first that is not direct is one of the definitions

inside_after : (ds : List CodeDef) (o : Option Known) (k : ℕ) → ((H : Known) (j : ℕ) → other_place ds H ≡ Some j → j < length ds) → place_after (other_place ds) o ≡ Some k → k < suc (length ds)
inside_after ds None k rest e = let first : 0 ≡ k = cc in omega arith
inside_after ds (Some H) k rest e = later (other_place ds H) refl e
  where
    later : (p : Option ℕ) → other_place ds H ≡ p → option_map (λ j. j + 1) p ≡ Some k → k < suc (length ds)
    later None is none = absurd (cc none)
    later (Some j) is more = let next : j + 1 ≡ k = cc in let l = rest H j is in omega arith

pub other_inside : (ds : List CodeDef) (G : Known) (k : ℕ) → other_place ds G ≡ Some k → k < length ds
other_inside [] G k e = absurd (cc e)
other_inside (d ∷ ds) G k e = inside_after ds (def_typing d G) k (λ H j f. other_inside ds H j f) e

-- what the definitions are called

pub spelt_as : (texts : List Text) (codes : Codes) → IsLinked texts codes → (k : ℕ) (d : CodeDef) (at : Named) (x : ModuleText) (spelt : List ℕ) → k < length (defs_in codes) → d ≡ slice_index_or (defs_in codes) k d → slice_get (places texts) k ≡ Some at → at.holder ≡ text_of x
    → spelt ≡ name_in x.bytes.items (out-CodeDef d).name → slice_get (names texts) k ≡ Some spelt
spelt_as texts codes linked k d at x spelt l is there holder e =
    let named = name_of_place texts codes linked k d at l is there in
    let read : called at ≡ spelt = ap (λ (t : Text). name_in t.bytes at.name) holder ∙ ap (name_in x.bytes.items) named ∙ sym e in
    get_map called (places texts) k ∙ ap (option_map called) there ∙ ap Some read

-- whether it is the name
pub is_the_name : (texts : List Text) (k : ℕ) (spelt name : List ℕ) (result : Bool) → slice_get (names texts) k ≡ Some spelt → IsTrue result ↔ (spelt ≡ name) → IsTrue result ↔ (slice_get (names texts) k ≡ Some name)
is_the_name texts k spelt name result here both = (
  λ yes. here ∙ ap Some (both.0 yes),
  λ is. both.1 (let same : Some spelt ≡ Some name = sym here ∙ is in let e : spelt ≡ name = cc in e),
)

-- what is called so is a definition
pub called_inside : (texts : List Text) (codes : Codes) → IsLinked texts codes → (k : ℕ) (name : List ℕ) → slice_get (names texts) k ≡ Some name → k < length (defs_in codes)
called_inside texts codes linked k name is = elim (cases_lt k (length (defs_in codes))) [
  | inl less ↦ less
  | inr more ↦
      let long : length (names texts) ≡ length (places texts) = length-map (places texts) called in
      let count = count_of_places texts codes linked in
      let past : slice_get (names texts) k ≡ None = slice_get_past (names texts) k (omega arith) in
      let no_name : None ≡ Some name = sym past ∙ is in
      absurd cc
]

-- none from a place on has the name
abbrev pub NoneFrom : List Text → List ℕ → ℕ → Type 0
NoneFrom texts name k = (j : ℕ) → k ≤ j → slice_get (names texts) j ≡ Some name → ⊥

pub none_at_end : (texts : List Text) (codes : Codes) → IsLinked texts codes → (name : List ℕ) (k : ℕ) → k ≡ length (defs_in codes) → NoneFrom texts name k
none_at_end texts codes linked name k end j l is =
    let long : length (names texts) ≡ length (places texts) = length-map (places texts) called in
    let count = count_of_places texts codes linked in
    let past : slice_get (names texts) j ≡ None = slice_get_past (names texts) j (omega arith) in
    let no_name : None ≡ Some name = sym past ∙ is in
    cc

pub none_before : (texts : List Text) (name : List ℕ) (k j : ℕ) (result : Bool) → j + 1 ≡ k → result ≡ false → IsTrue result ↔ (slice_get (names texts) j ≡ Some name) → NoneFrom texts name k → NoneFrom texts name j
none_before texts name k j result next is both none i l there = elim (cases_lt j i) [
  | inl less ↦ none i (omega arith) there
  | inr more ↦
      let same : i ≡ j = omega arith in
      let here = subst (λ n. slice_get (names texts) n ≡ Some name) same there in
      true≢false (sym (both.1 here) ∙ is)
]
