-- Members that are put in the order of their names stand in that order.
use Rattle.std.proofs.Common.{◌≡◌, ◌&&◌, ℕ, Bool, true, false, List, [], ◌∷◌, ◌++◌, Option, Some, None, refl, sym, ◌∙◌, ap, true≢false, append-nil, append_assoc, Ordering, Less, Equal, Greater, Result, Ok, Err, IfOk, IfSome, Bor, BTreeMap, String, Global, string_bytes}
use Rattle.std.specs.List.{list_all}
use Rattle.std.specs.Ordering.{match_ordering, nat_cmp}
use Rattle.std.specs.Cmp.Lexicographic.{slice_cmp}
use Rattle.std.specs.declared.alloc.AllocError.{AllocError}
use Rattle.serde_json.specs.Data.{Data, Members, member, no_members, object, put}
use Rattle.serde_json.specs.View.{members_view, view}
use Rattle.serde_json.specs.Written.{compact_text, has_float, members_have_float}
use Rattle.serde_json.specs.declared.value.Value.{Value, Object}
use Rattle.serde_json.proofs.Views.{view-Object}
use Rattle.answer_json.specs.declared.answers.AnswerMembers.{AnswerMembers}
use Rattle.answer_json.specs.Members.{Maybe, all_of, given, if_given, number_if, object_of, put_each, put_if, text_if}

both : (a b : Bool) → (a && b) ≡ true → (a ≡ true) × (b ≡ true)
both true b e = (refl, e)
both false b e = absurd (true≢false (sym e))

is_greater : Ordering → Bool
is_greater Less = false
is_greater Equal = false
is_greater Greater = true

-- the name stands after all of these
abbrev is_after : List ℕ → List Maybe → Bool
is_after name = list_all (λ m. is_greater (slice_cmp nat_cmp name m.name))

-- each of the names stands after those before it
abbrev in_order : List Maybe → List Maybe → Bool
in_order done [] = true
in_order done (m ∷ rest) = is_after m.name done && in_order (done ++ m ∷ []) rest

later : (o : Ordering) (a b c : Members) → is_greater o ≡ true → match_ordering o a b c ≡ c
unfolding is_greater
later Less a b c e = absurd (true≢false (sym e))
later Equal a b c e = absurd (true≢false (sym e))
later Greater a b c e = refl

put_last : (name : List ℕ) (value : Data) (done : List Maybe) → is_after name done ≡ true → put name value (given done) ≡ given (done ++ (record { name = name; value = Some value }) ∷ [])
put_last name value [] e = refl
put_last name value (m ∷ done) e =
    let parts = both _ _ e in
    elim m.value as (λ v. put name value (if_given m.name v (given done)) ≡ if_given m.name v (given (done ++ (record { name = name; value = Some value }) ∷ []))) [
      | None ↦ put_last name value done parts.1
      | Some d ↦ later (slice_cmp nat_cmp name m.name) _ _ _ parts.0 ∙ ap (member m.name d) (put_last name value done parts.1)
    ]

same_given : (name : List ℕ) (done : List Maybe) → given done ≡ given (done ++ (record { name = name; value = None }) ∷ [])
same_given name [] = refl
same_given name (m ∷ done) = ap (if_given m.name m.value) (same_given name done)

put_next : (m : Maybe) (done : List Maybe) → is_after m.name done ≡ true → put_if m.name m.value (given done) ≡ given (done ++ m ∷ [])
put_next m done e =
    elim m.value as (λ v. put_if m.name v (given done) ≡ given (done ++ (record { name = m.name; value = v }) ∷ [])) [
      | None ↦ same_given m.name done
      | Some d ↦ put_last m.name d done e
    ]

all_put : (done rest : List Maybe) → in_order done rest ≡ true → put_each rest (given done) ≡ given (done ++ rest)
all_put done [] e = ap given (sym (append-nil done))
all_put done (m ∷ rest) e =
    let parts = both _ _ e in
    ap (put_each rest) (put_next m done parts.0) ∙ (all_put (done ++ m ∷ []) rest parts.1 ∙ ap given (append_assoc done (m ∷ []) rest))

-- all members, put one after another, are those of the object
pub members_in_order : (a : AnswerMembers) → put_each (all_of a) no_members ≡ given (all_of a)
unfolding is_greater
members_in_order a = all_put [] (all_of a) refl

abbrev HasNoFloat : List Maybe → Type 0
HasNoFloat [] = Unit {0}
HasNoFloat (m ∷ rest) = IfSome m.value (λ v. has_float v ≡ false) × HasNoFloat rest

no_float_if : (name : List ℕ) (value : Option Data) (rest : Members) → IfSome value (λ v. has_float v ≡ false) → members_have_float rest ≡ false → members_have_float (if_given name value rest) ≡ false
no_float_if name None rest h e = e
no_float_if name (Some v) rest h e = rw (h, e) refl

no_float_given : (ms : List Maybe) → HasNoFloat ms → members_have_float (given ms) ≡ false
no_float_given [] h = refl
no_float_given (m ∷ rest) h = no_float_if m.name m.value (given rest) h.0 (no_float_given rest h.1)

of_number : (o : Option ℕ) → IfSome (number_if o) (λ v. has_float v ≡ false)
of_number None = tt
of_number (Some n) = refl

of_text : (o : Option (Bor (List ℕ))) → IfSome (text_if o) (λ v. has_float v ≡ false)
of_text None = tt
of_text (Some s) = refl

no_float : (a : AnswerMembers) → has_float (object_of a) ≡ false
no_float a = no_float_given (all_of a) (
  refl,
  (of_number a.at, (of_text a.cause, (of_number a.definitions, (of_text a.face, (of_text a.found, (of_text a.path, (of_number a.turns, (of_text a.type_text, (of_text a.wanted, tt))))))))),
)

text_as : (r : Result (String Global) AllocError) (v d : Data) → v ≡ d → has_float d ≡ false → IfOk r (λ s. has_float v ≡ false → string_bytes s ≡ compact_text v) → IfOk r (λ s. string_bytes s ≡ compact_text d)
text_as (Ok s) v d e none h = h (ap has_float e ∙ none) ∙ ap compact_text e
text_as (Err x) v d e none h = tt

-- the text of a map that holds all members is that of the object
pub object_text : (r : Result (String Global) AllocError) (m : BTreeMap (String Global) Value) (a : AnswerMembers) → members_view m.entries ≡ put_each (all_of a) no_members
    → IfOk r (λ s. has_float (view (Object m)) ≡ false → string_bytes s ≡ compact_text (view (Object m))) → IfOk r (λ s. string_bytes s ≡ compact_text (object_of a))
object_text r m a e h = text_as r (view (Object m)) (object_of a) (view-Object m ∙ ap object (e ∙ members_in_order a)) (no_float a) h
