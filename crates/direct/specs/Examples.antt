-- Some codes that are direct, and some that are not.
use Rattle.std.specs.Prelude.{◌≡◌, ℕ, true, false, [], ◌∷◌, None, Some}
use Rattle.layout_lexer.specs.declared.token.Span.{Span}
use Rattle.syntax.specs.declared.formula.Projection.TheVariants as projection
use Rattle.trees.specs.Trees.{Var}
use Rattle.codes.specs.declared.code.Code.{Bound, Universe, Nat, Zero}
use Rattle.translation.specs.Terms.{universe, nat, zero, suc, pi, sig, pathp, fst, i0}
use Rattle.translation.specs.Translated.{done}
use Rattle.translation.specs.Forms.{one}
use Rattle.direct.specs.Known.{Known, Variable, Interval}
use Rattle.direct.specs.Typings.{Typing, BinderTyping, Argument, At, where_checked}
use Rattle.direct.specs.Typings.{lambda_infer, lambda_check, tuple_check, names_check, applied}
use Rattle.direct.specs.Typings.{projected, transport_typing, under_entry, applied_to_name}
use Rattle.direct.specs.Typings.{recursion_typing, family_typing}
use Rattle.direct.specs.Direct.{typing}

abbrev place : Span
place = record { start = 0; end = 0 }

abbrev variable : ℕ → Typing
variable k = typing (Bound place k)

abbrev numbers : Typing
numbers = typing (Nat place)

abbrev types : Typing
types = typing (Universe place)

abbrev nought : Typing
nought = typing (Zero place)

abbrev successor : Typing → Typing
successor n = where_checked (one suc n.tree) n nat nat

abbrev over : Typing → BinderTyping
over a = record { count = 1; type = a }

-- `\(x : nat) -> suc x : nat -> nat`, and it is inferred to have this type; its domain is not U
abbrev pub Functions : Type 0
Functions =
    (lambda_check (over numbers ∷ []) (successor (variable 0)) [] (pi nat nat) ≡ true)
    × (lambda_infer (over numbers ∷ []) (successor (variable 0)) [] ≡ Some (pi nat nat))
    × (lambda_check (over types ∷ []) nought [] (pi nat nat) ≡ false)
    × (lambda_check (over numbers ∷ []) nought [] nat ≡ false)

-- `f zero`, `f f`, and `f` at a formula, for f of the type `nat -> nat`
abbrev pub Applications : Type 0
Applications =
    let G : Known = Variable (pi nat nat) ∷ [] in
    (applied (Argument nought ∷ []) G (pi nat nat) ≡ Some nat)
    × (applied (Argument (variable 0) ∷ []) G (pi nat nat) ≡ None)
    × (applied (At (λ H. done i0) ∷ []) G (pi nat nat) ≡ None)

-- `(zero, zero)` is a pair of numbers, and no function; of a pair the type of the second component
-- stands at the first
abbrev pub Pairs : Type 0
Pairs =
    (tuple_check (nought ∷ nought ∷ []) [] (sig nat nat) ≡ true)
    × (tuple_check (nought ∷ nought ∷ []) [] (pi nat nat) ≡ false)
    × (projected (projection.Second place ∷ []) (Var 3) (sig universe (Var 0))
    ≡ Some (fst (Var 3)))

-- `<i> zero` is a path from zero to zero, and to no other end
abbrev pub Paths : Type 0
Paths =
    (names_check 1 nought [] (pathp nat zero zero) ≡ true)
    × (names_check 1 nought [] (pathp nat zero (suc zero)) ≡ false)
    × (applied (At (λ H. done (Var 0)) ∷ []) (Interval ∷ []) (pathp nat zero zero) ≡ Some nat)

-- the universe is a type, and no term; functions of numbers are a type and a term of it
abbrev pub Universes : Type 0
Universes =
    (types.is_type [] ≡ true) × (types.check [] universe ≡ false)
    × ((family_typing (λ G. done (pi nat nat)) (over numbers ∷ []) numbers).is_type [] ≡ true)
    × ((family_typing (λ G. done (pi nat nat)) (over numbers ∷ []) numbers).infer []
    ≡ Some universe)
    × ((family_typing (λ G. done (pi universe nat)) (over types ∷ []) numbers).infer [] ≡ None)

-- `transport (<i> nat) zero : nat`, and along a path p in the universe `transport p zero`
abbrev pub Transports : Type 0
Transports =
    ((transport_typing (λ G. done zero) (under_entry Interval numbers.tree numbers) nought).infer []
    ≡ Some nat)
    × ((transport_typing (λ G. done zero)
    (applied_to_name (variable 0).tree (variable 0)) nought).infer
    (Variable (pathp nat nat nat) ∷ []) ≡ None)

-- `natrec (\(x : nat) -> nat) zero (\(x y : nat) -> suc y) zero : nat`
abbrev pub Recursions : Type 0
Recursions =
    let step : Typing = record {
      tree = λ G. done zero;
      infer = lambda_infer (record { count = 2; type = numbers } ∷ []) (successor (variable 0));
      check = lambda_check (record { count = 2; type = numbers } ∷ []) (successor (variable 0));
      is_type = λ G. false;
    } in
    (recursion_typing (λ G. done zero) (under_entry (Variable nat) numbers.tree numbers)
    nought step nought).infer [] ≡ Some nat
