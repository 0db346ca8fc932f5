-- What a map from paths to bytes holds, before and after a change.
use Rattle.std.proofs.Common.{◌≡◌, ◌≢◌, rules, ℕ, Bool, true, false, cond, List, [], ◌∷◌, map, ap, refl, sym, ◌∙◌, None, Some, Option, String, Vec, string_bytes}
use Rattle.std.specs.declared.alloc.Global.{Global}
use Rattle.std.specs.Option.{option_map, option_copied, MatchOption, IsSomeAnd}
use denote.Ref.{Bor}
use Rattle.std.specs.Ordering.{nat_cmp, eq_by_cmp}
use Rattle.std.specs.Cmp.{eq_by_cmp_equiv}
use Rattle.std.specs.Cmp.Lexicographic.{slice_cmp, nat_list_cmp_total}
use Rattle.std.specs.Str.{bytes_eq}
use Rattle.std.specs.String.{string_cmp}
use Rattle.std.specs.Map.{lookup}
use Rattle.std.specs.BTreeMap.{BTreeMap, is_at, UpdatesBy}
use Rattle.std.specs.FinMap.{get, insert, from_entries, find, get-from_entries, get-insert, same_map, nat_cmp-IsAntisymmetric, slice_cmp-IsAntisymmetric, gets}
use Rattle.std.proofs.lemmas.Map.Text.{btree_map_updates_text, is_eq-slice_cmp}
use Rattle.host_io.specs.Files.{Held}
use Rattle.host_io.specs.Memory.{entry, held_in}

abbrev pub Entries : Type 0
Entries = List (String Global × Vec ℕ Global)

abbrev pub items : Vec ℕ Global → List ℕ
items v = v.items

chosen : (b : Bool) (v : Vec ℕ Global) (f : Option (List ℕ)) (l : Option (Vec ℕ Global)) → f ≡ option_map items l → cond b (Some v.items) f ≡ option_map items (cond b (Some v) l)
chosen true v f l e = refl
chosen false v f l e = e

found : (es : Entries) (q : List ℕ) → find (slice_cmp nat_cmp) q (map entry es) ≡ option_map items (lookup (is_at (λ k. slice_cmp nat_cmp q (string_bytes k))) es)
found [] q = refl
found (e ∷ es) q = chosen (is_at (λ k. slice_cmp nat_cmp q (string_bytes k)) e.0) e.1 _ _ (found es q)

-- what is held at a path
pub get_held : (es : Entries) (q : List ℕ) → get (from_entries {R = slice_cmp nat_cmp} (map entry es)) q ≡ option_map items (lookup (is_at (λ k. slice_cmp nat_cmp q (string_bytes k))) es)
get_held es q = get-from_entries nat_list_cmp_total (map entry es) q ∙ found es q

same_test : (bs q : List ℕ) → bytes_eq bs q ≡ eq_by_cmp (slice_cmp nat_cmp) q bs
same_test bs q = sym (is_eq-slice_cmp bs q) ∙ (eq_by_cmp_equiv nat_list_cmp_total).symm bs q

-- a change at one path is an insert
pub put_held : (m n : BTreeMap (String Global) (Vec ℕ Global)) (bs : List ℕ) (v : Vec ℕ Global) → UpdatesBy string_cmp (λ k. slice_cmp nat_cmp bs (string_bytes k)) m n (Some v) → held_in n ≡ insert (held_in m) bs v.items
put_held m n bs v u = same_map nat_list_cmp_total (slice_cmp-IsAntisymmetric nat_cmp-IsAntisymmetric) (held_in n) (insert (held_in m) bs v.items) (λ q.
    get_held n.entries q
    ∙ ap (option_map items) (btree_map_updates_text bs m n (Some v) u q)
    ∙ sym (chosen (bytes_eq bs q) v _ _ (get_held m.entries q))
    ∙ ap (λ b. cond b (Some v.items) (get (held_in m) q)) (same_test bs q)
    ∙ sym (get-insert nat_list_cmp_total (held_in m) bs v.items q))

-- the path holds what was inserted
pub insert_holds : (m : Held) (path bytes : List ℕ) → get (insert m path bytes) path ≡ Some bytes
insert_holds m path bytes = grind (gets, rules)

-- another path holds what it did
pub insert_keeps : (m : Held) (path bytes other : List ℕ) → other ≢ path → get (insert m path bytes) other ≡ get m other
insert_keeps m path bytes other apart =
    grind (gets, rules, slice_cmp-IsAntisymmetric nat_cmp-IsAntisymmetric other path)

-- the slice of a vector that was found has its items
pub slice_of : (found : Option (Bor (Vec ℕ Global))) (slice : Option (Bor (List ℕ))) → MatchOption found (slice ≡ None) (λ v. IsSomeAnd slice (λ s. s.now ≡ v.now.items)) → option_map (λ s. s.now) slice ≡ option_map items (option_copied found)
slice_of None slice none = ap (option_map (λ s. s.now)) none
slice_of (Some v) None some = absurd some
slice_of (Some v) (Some s) same = ap Some same
