-- When the newest name is taken away, what it hid is its newest binding.
use Rattle.std.proofs.Common.{◌≡◌, ◌+◌, ◌-◌, ◌<◌, ℕ, Bool, true, false, cond, List, [], ◌∷◌, ◌++◌, length, drop, reverse, Option, Some, None, refl, ap, ◌∙◌, arith, bytes_eq, if◌then◌else◌}
use Rattle.std.specs.Borrow.{Bor}
use Rattle.std.specs.Option.{option_flatten}
use Rattle.std.proofs.lemmas.List.{drop-drop, length-drop, reverse-append}
use Rattle.std.proofs.lemmas.Slice.Eq.{bytes_eq-Decides}
use Rattle.translation.specs.Names.{Word}
use Rattle.scopes.specs.declared.names.Bound.{Bound}
use Rattle.scopes.specs.declared.names.Entry.{Entry}
use Rattle.scopes.specs.Linked.{newest}

restored : (v : Bool) (e : Entry) (es : List Entry) (x : Word) (old : Option (Option Bound)) → (v ≡ true → e.name.now ≡ x)
    → option_flatten old ≡ (if v then Some e.bound else newest es x) → e.hidden ≡ newest es e.name.now
    → option_flatten (cond v (Some e.hidden) old) ≡ newest es x
restored true e es x old same was hid = hid ∙ ap (newest es) (same refl)
restored false e es x old same was hid = was

-- f is the kept binding of each word, and g the same where the hidden one is put back
pub put_back : (es : List Entry) (e : Entry) (f g : Bor (List ℕ) → Option (Option Bound))
    → ((x : Bor (List ℕ)) → option_flatten (f x) ≡ newest (e ∷ es) x.now) → e.hidden ≡ newest es e.name.now
    → ((x : Bor (List ℕ)) → g x ≡ cond (bytes_eq e.name.now x.now) (Some e.hidden) (f x))
    → (x : Bor (List ℕ)) → option_flatten (g x) ≡ newest es x.now
put_back es e f g before hid after x =
    ap option_flatten (after x)
    ∙ restored (bytes_eq e.name.now x.now) e es x.now (f x) (bytes_eq-Decides e.name.now x.now).0 (before x) hid

pub newest_itself : (es : List Entry) (e : Entry) → newest (e ∷ es) e.name.now ≡ Some e.bound
newest_itself es e = let same : bytes_eq e.name.now e.name.now ≡ true = (bytes_eq-Decides e.name.now e.name.now).1 refl in rw same refl

pub not_none : {A : Type 0} {x : A} → None ≡ Some x → ⊥
not_none e = cc

pub reversed : {A : Type 0} (xs ys : List A) (x : A) → xs ≡ ys ++ x ∷ [] → reverse xs ≡ x ∷ reverse ys
reversed xs ys x e = ap reverse e ∙ reverse-append ys (x ∷ [])

pub cut_more : {A : Type 0} (old cur new : List A) → cur ≡ drop (length old - length cur) old → new ≡ drop 1 cur → 0 < length cur
    → new ≡ drop (length old - length new) old
cut_more old cur new e d h =
    let k = length old - length cur in
    let whole : length cur ≡ length old - k = ap length e ∙ length-drop k old in
    let less : length new ≡ length cur - 1 = ap length d ∙ length-drop 1 cur in
    let count : length old - length new ≡ k + 1 = omega arith in
    rw count (d ∙ ap (drop 1) e ∙ drop-drop 1 k old)
