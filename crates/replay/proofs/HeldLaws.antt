-- Rows as they are held, when there are more of them.
use Rattle.std.proofs.Common.{◌≡◌, ℕ, List, [], ◌∷◌, ◌++◌, sym, ◌∙◌, ap, Option, Some, None, Bool, true, false, refl, length, get_or, ◌<◌, arith}
use Rattle.std.specs.Prelude.{slice_get, is_some, unwrap_or, if◌then◌else◌, option_and_then}
use Rattle.std.specs.Option.{option_map}
use Rattle.std.proofs.lemmas.List.{append-nil, length-map}
use Rattle.std.proofs.lemmas.List.Sums.{AllPass-from_list_all}
use Rattle.std.proofs.lemmas.Option.{slice_get_read, slice_get_within, slice_get-map}
use Rattle.trees.specs.declared.claim.Claim.{Claim}
use Rattle.rows.proofs.TableLaws.{slice_get-prefix}
use Rattle.replay.specs.declared.filed.Filed.{Filed}
use Rattle.replay.specs.declared.filed.Filed.TheVariants as filed
use Rattle.replay.specs.declared.filed_rows.Held.{Held}
use Rattle.replay.specs.declared.filed_rows.Held.TheVariants as held
use Rattle.replay.specs.Held.{filed_as, filed_list, AllHeld, Longer}
use Rattle.replay.proofs.EachLaws.{later, Later}

filed_as-kept : (old new : List Claim) → Longer old new → (p : Held) → is_some (filed_as old p) ≡ true → filed_as new p ≡ filed_as old p
filed_as-kept old new l (held.Thing row) some = refl
filed_as-kept old new l (held.Node at) some = from (slice_get old at) refl some
  where
    from : (o : Option Claim) → slice_get old at ≡ o → is_some (option_and_then (λ claim. Some (filed.Node claim)) o) ≡ true → filed_as new (held.Node at) ≡ filed_as old (held.Node at)
    from None e some = cc
    from (Some claim) e some = ap (option_and_then (λ claim. Some (filed.Node claim))) (rw l.1 (slice_get-prefix old l.0 at claim e) ∙ sym e)
filed_as-kept old new l held.Nothing some = refl

-- with more claims the rows are as before
pub filed_as-later : (old new : List Claim) → Longer old new → (rows : List Held) → AllHeld old rows → Later (filed_as old) (filed_as new) filed.Nothing rows
filed_as-later old new l rows all = later (filed_as old) (filed_as new) filed.Nothing (filed_as-kept old new l) rows all

-- one more claim, or none where memory ran out
pub longer_pushed : (b : Bool) (old new : List Claim) (claim : Claim) → new ≡ (if b then old ++ claim ∷ [] else old) → Longer old new
longer_pushed true old new claim e = (claim ∷ [], e)
longer_pushed false old new claim e = ([], e ∙ sym (append-nil old))

-- what stands at a place

length-filed_list : (claims : List Claim) (rows : List Held) → length (filed_list claims rows) ≡ length rows
length-filed_list claims rows = length-map rows (λ p. unwrap_or (filed_as claims p) filed.Nothing)

pub there : (claims : List Claim) (rows : List Held) (filed_rows : List Filed) (k : ℕ) (p : Held) (e : Filed) → filed_list claims rows ≡ filed_rows → k < length filed_rows → p ≡ get_or rows k p → filed_as claims p ≡ Some e → slice_get filed_rows k ≡ Some e
there claims rows filed_rows k p e is lt at whole =
    let within : k < length rows = omega (arith, ap length is, length-filed_list claims rows) in
    let there : slice_get rows k ≡ Some p = slice_get_read rows (length rows) k p refl within at in
    rw (sym is) (slice_get-map (λ p. unwrap_or (filed_as claims p) filed.Nothing) rows k ∙ ap (option_map (λ p. unwrap_or (filed_as claims p) filed.Nothing)) there ∙ ap (λ o. Some (unwrap_or o filed.Nothing)) whole)

pub node_there : (claims : List Claim) (at : ℕ) (claim : Claim) → at < length claims → claim ≡ get_or claims at claim → filed_as claims (held.Node at) ≡ Some (filed.Node claim)
node_there claims at claim lt is = ap (option_and_then (λ claim. Some (filed.Node claim))) (slice_get_read claims (length claims) at claim refl lt is)

pub claim_within : (claims : List Claim) (rows : List Held) (filed_rows : List Filed) (k at : ℕ) (d : Held) → filed_list claims rows ≡ filed_rows → AllHeld claims rows → k < length filed_rows → get_or rows k d ≡ held.Node at → at < length claims
claim_within claims rows filed_rows k at d is all lt e =
    let within : k < length rows = omega (arith, ap length is, length-filed_list claims rows) in
    from (slice_get claims at) refl (rw e at (AllPass-from_list_all (λ p. is_some (filed_as claims p)) rows all k d within))
  where
    from : (o : Option Claim) → slice_get claims at ≡ o → is_some (option_and_then (λ claim. Some (filed.Node claim)) o) ≡ true → at < length claims
    from None eo some = cc
    from (Some claim) eo some = slice_get_within claims at claim eo
