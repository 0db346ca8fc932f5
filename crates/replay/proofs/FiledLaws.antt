-- What the rows of a file mean, place by place, and when the store grows.
use Rattle.std.proofs.Common.{◌≡◌, ℕ, suc, ◌<◌, List, [], ◌∷◌, length, take, refl, sym, ◌∙◌, ap, Option, Some, None, IsSome, true}
use Rattle.std.specs.Prelude.{slice_get, is_some, unwrap_or, option_and_then}
use Rattle.std.proofs.lemmas.List.Sums.{AllPass-from_list_all}
use Rattle.std.specs.Option.{option_map}
use Rattle.std.proofs.lemmas.Option.{slice_get-map, slice_get_within, get_or_from_slice_get}
use Rattle.trees.specs.declared.claim.Claim.{Claim}
use Rattle.trees.specs.Judgements.{Judgement}
use Rattle.trees.specs.Claims.{form_of, rows_of}
use Rattle.trees.specs.Things.{Thing, Meanings, Kept, meanings}
use Rattle.trees.proofs.Meanings.{meanings-kept}
use Rattle.trees.specs.Claimed.{said}
use Rattle.trees.specs.Claimed.{claimed}
use Rattle.derivation.specs.Meanings.{Meaning, Means, Concludes, Nothing, thing_of, conclusion_of, thing_at, conclusion_at}
use Rattle.replay.specs.declared.filed.Filed.{Filed}
use Rattle.replay.specs.declared.filed.Filed.TheVariants as filed
use Rattle.replay.proofs.EachLaws.{later}
use Rattle.replay.specs.Filed.{filed_meaning, file_meanings, AllFiled}

abbrev meaning_of : List Thing → Filed → Meaning
meaning_of xs e = unwrap_or (filed_meaning xs e) Nothing

filed-at : (xs : List Thing) (es : List Filed) (k : ℕ) (e : Filed) → slice_get es k ≡ Some e → slice_get (file_meanings xs es) k ≡ Some (meaning_of xs e)
filed-at xs es k e is = slice_get-map (meaning_of xs) es k ∙ ap (option_map (meaning_of xs)) is

-- what stands at a place, by the kind of what is kept there

pub record Stands (xs : List Thing) (es : List Filed) (k : ℕ) (thing : Option Thing) (conclusion : Option Judgement) : Type 0 where
  pub thing_is : thing_at (file_meanings xs es) k ≡ thing
  pub conclusion_is : conclusion_at (file_meanings xs es) k ≡ conclusion

thing_there : (o : Option Thing) → (option_and_then thing_of (Some (unwrap_or (option_and_then (λ x. Some (Means x)) o) Nothing)) ≡ o) × (option_and_then conclusion_of (Some (unwrap_or (option_and_then (λ x. Some (Means x)) o) Nothing)) ≡ None)
thing_there None = (refl, refl)
thing_there (Some x) = (refl, refl)

node_there : (o : Option Judgement) → (option_and_then thing_of (Some (unwrap_or (option_and_then (λ J. Some (Concludes J)) o) Nothing)) ≡ None) × (option_and_then conclusion_of (Some (unwrap_or (option_and_then (λ J. Some (Concludes J)) o) Nothing)) ≡ o)
node_there None = (refl, refl)
node_there (Some J) = (refl, refl)

pub at_thing : (xs : List Thing) (es : List Filed) (k row : ℕ) → slice_get es k ≡ Some (filed.Thing row) → Stands xs es k (slice_get xs row) None
at_thing xs es k row e =
    let f = filed-at xs es k (filed.Thing row) e in
    let t = thing_there (slice_get xs row) in
    record { thing_is = ap (option_and_then thing_of) f ∙ t.0; conclusion_is = ap (option_and_then conclusion_of) f ∙ t.1 }

pub at_node : (xs : List Thing) (es : List Filed) (k : ℕ) (claim : Claim) → slice_get es k ≡ Some (filed.Node claim) → Stands xs es k None (claimed (slice_get xs) claim)
at_node xs es k claim e =
    let f = filed-at xs es k (filed.Node claim) e in
    let t = node_there (claimed (slice_get xs) claim) in
    record { thing_is = ap (option_and_then thing_of) f ∙ t.0; conclusion_is = ap (option_and_then conclusion_of) f ∙ t.1 }

pub at_nothing : (xs : List Thing) (es : List Filed) (k : ℕ) → slice_get es k ≡ Some filed.Nothing → Stands xs es k None None
at_nothing xs es k e =
    let f = filed-at xs es k filed.Nothing e in
    record { thing_is = ap (option_and_then thing_of) f; conclusion_is = ap (option_and_then conclusion_of) f }

-- every row means something

means_some : (xs : List Thing) (es : List Filed) (k : ℕ) (e : Filed) → AllFiled xs es → slice_get es k ≡ Some e → is_some (filed_meaning xs e) ≡ true
means_some xs es k e all is = rw (get_or_from_slice_get es k e e is) at (AllPass-from_list_all (λ e. is_some (filed_meaning xs e)) es all k e (slice_get_within es k e is))

thing_some : (o : Option Thing) → is_some (option_and_then (λ x. Some (Means x)) o) ≡ true → IsSome o
thing_some None e = e
thing_some (Some x) e = refl

node_some : (o : Option Judgement) → is_some (option_and_then (λ J. Some (Concludes J)) o) ≡ true → IsSome o
node_some None e = e
node_some (Some J) e = refl

pub live_thing : (xs : List Thing) (es : List Filed) (k row : ℕ) → AllFiled xs es → slice_get es k ≡ Some (filed.Thing row) → IsSome (slice_get xs row)
live_thing xs es k row all e = thing_some (slice_get xs row) (means_some xs es k (filed.Thing row) all e)

pub live_node : (xs : List Thing) (es : List Filed) (k : ℕ) (claim : Claim) → AllFiled xs es → slice_get es k ≡ Some (filed.Node claim) → IsSome (claimed (slice_get xs) claim)
live_node xs es k claim all e = node_some (claimed (slice_get xs) claim) (means_some xs es k (filed.Node claim) all e)

pub row_within : (xs : List Thing) (row : ℕ) → IsSome (slice_get xs row) → row < length xs
row_within xs row some = from (slice_get xs row) refl some
  where
    from : (o : Option Thing) → slice_get xs row ≡ o → IsSome o → row < length xs
    from None e some = cc
    from (Some x) e some = slice_get_within xs row x e

-- when the store grows

pub claimed-kept : (f g : Meanings) → Kept f g → (claim : Claim) (J : Judgement) → claimed f claim ≡ Some J → claimed g claim ≡ Some J
claimed-kept f g kept claim J e = from (meanings f (rows_of claim)) refl e
  where
    from : (r : Option (List Thing)) → meanings f (rows_of claim) ≡ r → said (form_of claim) r ≡ Some J → claimed g claim ≡ Some J
    from None er e = cc
    from (Some xs) er e = ap (said (form_of claim)) (meanings-kept f g kept (rows_of claim) xs er) ∙ e

pub claimed-later : (f g : Meanings) → Kept f g → (claim : Claim) → IsSome (claimed f claim) → claimed g claim ≡ claimed f claim
claimed-later f g kept claim some = from (claimed f claim) refl some
  where
    from : (o : Option Judgement) → claimed f claim ≡ o → IsSome o → claimed g claim ≡ o
    from None e some = cc
    from (Some J) e some = claimed-kept f g kept claim J e

row-later : (xs ys : List Thing) → Kept (slice_get xs) (slice_get ys) → (e : Filed) → is_some (filed_meaning xs e) ≡ true → filed_meaning ys e ≡ filed_meaning xs e
row-later xs ys kept (filed.Thing row) some = from (slice_get xs row) refl (thing_some (slice_get xs row) some)
  where
    from : (o : Option Thing) → slice_get xs row ≡ o → IsSome o → filed_meaning ys (filed.Thing row) ≡ filed_meaning xs (filed.Thing row)
    from None e some = cc
    from (Some x) e some = ap (option_and_then (λ x. Some (Means x))) (kept.keeps row x e ∙ sym e)
row-later xs ys kept (filed.Node claim) some =
    ap (option_and_then (λ J. Some (Concludes J))) (claimed-later (slice_get xs) (slice_get ys) kept claim (node_some (claimed (slice_get xs) claim) some))
row-later xs ys kept filed.Nothing some = refl

pub filed-later : (xs ys : List Thing) → Kept (slice_get xs) (slice_get ys) → (es : List Filed) → AllFiled xs es → file_meanings ys es ≡ file_meanings xs es
filed-later xs ys kept es all = (later (filed_meaning xs) (filed_meaning ys) Nothing (row-later xs ys kept) es all).same

pub all-later : (xs ys : List Thing) → Kept (slice_get xs) (slice_get ys) → (es : List Filed) → AllFiled xs es → AllFiled ys es
all-later xs ys kept es all = (later (filed_meaning xs) (filed_meaning ys) Nothing (row-later xs ys kept) es all).all

-- cut back to what was kept, the store is what it was
pub take-kept : (xs ys : List Thing) → Kept (slice_get xs) (slice_get ys) → take (length xs) ys ≡ xs
take-kept [] ys kept = take_zero ys
  where
    take_zero : (ys : List Thing) → take 0 ys ≡ []
    take_zero ys = refl
take-kept (x ∷ xs) [] kept = let e : slice_get {X = Thing} [] 0 ≡ Some x = kept.keeps 0 x refl in cc
take-kept (x ∷ xs) (y ∷ ys) kept =
    let e : Some y ≡ Some x = kept.keeps 0 x refl in
    let p : y ≡ x = cc in
    rw (p, take-kept xs ys (record { keeps = λ k z h. kept.keeps (suc k) z h })) refl
