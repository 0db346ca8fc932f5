-- Moving through a text.
use Rattle.std.proofs.Common.{◌≡◌, ℕ, zero, suc, ◌+◌, Bool, true, false, cond, ◌||◌, List, [], ◌∷◌, take, drop, refl, sym, ◌∙◌, ap, arith, Some, None, Option, option_map}
use Rattle.std.specs.List.{prefix_len, list_any}
use Rattle.layout_lexer.specs.Places.{Place, Reading, past, past_all, is_newline, step, moved}
use Rattle.layout_lexer.specs.Pieces.{begins}
use Rattle.layout_lexer.specs.Scanning.{close_len, closed}

abbrev pub reading : Place → Bool → List ℕ → Reading
reading place fresh rest = record { place = place; fresh = fresh; rest = rest }

pub moved-rest : (n : ℕ) (place : Place) (fresh : Bool) (cs : List ℕ) → (moved n (reading place fresh cs)).rest ≡ drop n cs
moved-rest zero place fresh cs = refl
moved-rest (suc n) place fresh [] = refl
moved-rest (suc n) place fresh (c ∷ cs) = moved-rest n (past c place) (fresh || is_newline c) cs

pub moved-place : (n : ℕ) (place : Place) (fresh : Bool) (cs : List ℕ) → (moved n (reading place fresh cs)).place ≡ past_all (take n cs) place
moved-place zero place fresh cs = refl
moved-place (suc n) place fresh [] = refl
moved-place (suc n) place fresh (c ∷ cs) = moved-place n (past c place) (fresh || is_newline c) cs

or-false : (b : Bool) → (b || false) ≡ b
or-false true = refl
or-false false = refl

or-assoc : (a b c : Bool) → ((a || b) || c) ≡ (a || (b || c))
or-assoc true b c = refl
or-assoc false b c = refl

pub moved-fresh : (n : ℕ) (place : Place) (fresh : Bool) (cs : List ℕ) → (moved n (reading place fresh cs)).fresh ≡ (fresh || list_any is_newline (take n cs))
moved-fresh zero place fresh cs = sym (or-false fresh)
moved-fresh (suc n) place fresh [] = sym (or-false fresh)
moved-fresh (suc n) place fresh (c ∷ cs) =
    moved-fresh n (past c place) (fresh || is_newline c) cs ∙ or-assoc fresh (is_newline c) (list_any is_newline (take n cs))

-- the place where the text ends stays
pub moved-end : (n : ℕ) (place : Place) (fresh : Bool) (cs : List ℕ) → past_all (moved n (reading place fresh cs)).rest (moved n (reading place fresh cs)).place ≡ past_all cs place
moved-end zero place fresh cs = refl
moved-end (suc n) place fresh [] = refl
moved-end (suc n) place fresh (c ∷ cs) = moved-end n (past c place) (fresh || is_newline c) cs

-- one step, and n more
pub moved-step : (n : ℕ) (old : Reading) (c : ℕ) (cs : List ℕ) → old.rest ≡ c ∷ cs → moved (suc n) old ≡ moved n (step old c cs)
moved-step n old c cs e = rw e

-- a step within a run
pub moved-run : (p : ℕ → Bool) (old new : Reading) (c : ℕ) → old.rest ≡ c ∷ new.rest → new ≡ step old c new.rest → p c ≡ true → moved (prefix_len p new.rest) new ≡ moved (prefix_len p old.rest) old
moved-run p old new c e s passes =
    let run : prefix_len p old.rest ≡ suc (prefix_len p new.rest) =
    ap (prefix_len p) e ∙ ap (λ b. cond b (1 + prefix_len p new.rest) 0) passes ∙ omega arith in
    sym (ap (λ n. moved n old) run ∙ moved-step (prefix_len p new.rest) old c new.rest e ∙ ap (moved (prefix_len p new.rest)) (sym s))

-- the end of a run
pub moved-stop : (p : ℕ → Bool) (old : Reading) (c : ℕ) (cs : List ℕ) → old.rest ≡ c ∷ cs → p c ≡ false → moved (prefix_len p old.rest) old ≡ old
moved-stop p old c cs e fails = ap (λ n. moved n old) (ap (prefix_len p) e ∙ ap (λ b. cond b (1 + prefix_len p cs) 0) fails)

pub moved-stop-end : (p : ℕ → Bool) (old : Reading) → old.rest ≡ [] → moved (prefix_len p old.rest) old ≡ old
moved-stop-end p old e = ap (λ n. moved n old) (ap (prefix_len p) e)

-- a step before the first `-}`
pub closed-step : (old new : Reading) (c : ℕ) → old.rest ≡ c ∷ new.rest → new ≡ step old c new.rest → begins 45 125 (c ∷ new.rest) ≡ false → closed old ≡ closed new
closed-step old new c e s other =
    let len : close_len old.rest ≡ option_map suc (close_len new.rest) =
    ap close_len e ∙ ap (λ b. cond b (Some 2) (option_map suc (close_len new.rest))) other in
    ap (option_map (λ n. moved n old)) len ∙ by (close_len new.rest)
  where
    by : (len : Option ℕ) → option_map (λ n. moved n old) (option_map suc len) ≡ option_map (λ n. moved n new) len
    by None = refl
    by (Some n) = ap Some (moved-step n old c new.rest e ∙ ap (moved n) (sym s))

-- two steps over the first `-}`
pub closed-here : (old mid new : Reading) → old.rest ≡ 45 ∷ mid.rest → mid ≡ step old 45 mid.rest → mid.rest ≡ 125 ∷ new.rest → new ≡ step mid 125 new.rest → closed old ≡ Some new
closed-here old mid new e s f t =
    let len : close_len old.rest ≡ Some 2 = ap close_len (e ∙ ap (λ cs. 45 ∷ cs) f) in
    ap (option_map (λ n. moved n old)) len
    ∙ ap Some (moved-step 1 old 45 mid.rest e ∙ ap (moved 1) (sym s) ∙ moved-step 0 mid 125 new.rest f ∙ sym t)

pub closed-end : (old : Reading) → old.rest ≡ [] → closed old ≡ None
closed-end old e = ap (λ cs. option_map (λ n. moved n old) (close_len cs)) e
