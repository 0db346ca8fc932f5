-- What characters begin names, and what begins with them.
use Rattle.std.proofs.Common.{◌≡◌, ℕ, ◌<◌, Bool, true, false, not, ◌&&◌, ◌||◌, ◌==◌, nat_lt, List, [], ◌∷◌, refl, sym, ◌∙◌, ap, true≢false, None, ltb-true}
use Rattle.std.proofs.lemmas.Bool.{eqb-true}
use Rattle.std.specs.Char.{is_ascii_alphabetic}
use Rattle.std.specs.List.{list_all}
use Rattle.std.specs.Str.{bytes_eq}
use Rattle.unicode_ident.proofs.IdentLemmas.{is_xid_start-ascii}
use Rattle.layout_lexer.specs.declared.token.Kind.{Kind}
use Rattle.layout_lexer.specs.Words.{spelling, signs}
use Rattle.layout_lexer.specs.Pieces.{starts_name, spelled_in}

-- on ASCII a letter or an underscore begins a name
pub starts_name-ascii : (c : ℕ) → c < 128 → starts_name c ≡ (is_ascii_alphabetic c || c == 95)
starts_name-ascii c h = ap (λ b. b || c == 95) (is_xid_start-ascii c h)

-- what begins no name isn't what does
pub differs : (c k : ℕ) → starts_name c ≡ true → starts_name k ≡ false → (c == k) ≡ false
differs c k starts other = by (c == k) refl
  where
    by : (b : Bool) → (c == k) ≡ b → b ≡ false
    by false e = refl
    by true e = absurd (true≢false (sym starts ∙ ap starts_name (eqb-true c k e) ∙ other))

-- Of these kinds none is so spelled.
pub none-spelled : (text : List ℕ) (test : Kind → Bool) (kinds : List Kind) → list_all test kinds ≡ true → ((kind : Kind) → test kind ≡ true → bytes_eq text (spelling kind) ≡ false) → spelled_in kinds text ≡ None
none-spelled text test [] all differ = refl
none-spelled text test (kind ∷ kinds) all differ =
    by (test kind) refl all (λ more. none-spelled text test kinds more differ)
  where
    by : (b : Bool) → test kind ≡ b → (b && list_all test kinds) ≡ true → (list_all test kinds ≡ true → spelled_in kinds text ≡ None) → spelled_in (kind ∷ kinds) text ≡ None
    by true e h rest = rw (differ kind e) (rest h)
    by false e h rest = absurd (true≢false (sym h))

-- a spelling that begins with no letter and no underscore
abbrev is_sign : List ℕ → Bool
is_sign [] = false
is_sign (c ∷ cs) = nat_lt c 128 && not (is_ascii_alphabetic c || c == 95)

-- a spelling of one or two characters
abbrev is_short : List ℕ → Bool
is_short [] = true
is_short (c ∷ []) = true
is_short (c ∷ d ∷ []) = true
is_short (c ∷ d ∷ e ∷ es) = false

and-split : (a b : Bool) → (a && b) ≡ true → (a ≡ true) × (b ≡ true)
and-split true b h = (refl, h)
and-split false b h = absurd (true≢false (sym h))

not-true : (b : Bool) → not b ≡ true → b ≡ false
not-true false h = refl
not-true true h = absurd (true≢false (sym h))

other_sign : (c : ℕ) (cs sign : List ℕ) → starts_name c ≡ true → is_sign sign ≡ true → bytes_eq (c ∷ cs) sign ≡ false
other_sign c cs [] starts h = refl
other_sign c cs (k ∷ ks) starts h =
    let parts : (nat_lt k 128 ≡ true) × (not (is_ascii_alphabetic k || k == 95) ≡ true) = and-split _ _ h in
    let below : k < 128 = ltb-true k 128 parts.0 in
    let other : starts_name k ≡ false = starts_name-ascii k below ∙ not-true _ parts.1 in
    rw (differs c k starts other)

longer_sign : (a b c : ℕ) (cs sign : List ℕ) → is_short sign ≡ true → bytes_eq (a ∷ b ∷ c ∷ cs) sign ≡ false
longer_sign a b c cs [] h = refl
longer_sign a b c cs (x ∷ []) h = by (a == x)
  where
    by : (t : Bool) → (t && false) ≡ false
    by true = refl
    by false = refl
longer_sign a b c cs (x ∷ y ∷ []) h = by (a == x) (b == y)
  where
    by : (s t : Bool) → (s && (t && false)) ≡ false
    by true true = refl
    by true false = refl
    by false t = refl
longer_sign a b c cs (x ∷ y ∷ z ∷ zs) h = absurd (true≢false (sym h))

-- no sign begins as names do
pub no_sign : (c : ℕ) (cs : List ℕ) → starts_name c ≡ true → spelled_in signs (c ∷ cs) ≡ None
no_sign c cs starts =
    none-spelled (c ∷ cs) (λ kind. is_sign (spelling kind)) signs refl (λ kind. other_sign c cs (spelling kind) starts)

-- no sign has three characters
pub no_long_sign : (a b c : ℕ) (cs : List ℕ) → spelled_in signs (a ∷ b ∷ c ∷ cs) ≡ None
no_long_sign a b c cs =
    none-spelled (a ∷ b ∷ c ∷ cs) (λ kind. is_short (spelling kind)) signs refl (λ kind. longer_sign a b c cs (spelling kind))
