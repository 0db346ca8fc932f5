-- A conjunction without a name at both ends is true at a point of its own, where only conjunctions within it are.
use Rattle.std.proofs.Common.{◌≡◌, ℕ, ⊎_elim, Bool, true, List, [], ◌∷◌, refl, sym, ◌∙◌, ap, Ordering}
use Rattle.std.specs.List.{All, Contains}
use Rattle.std.specs.List.Sorted.{IsStrictlySortedBy}
use Rattle.std.specs.declared.cmp.Ordering.TheVariants.{Less, Equal, Greater}
use Rattle.std.specs.Cmp.{IsTotalOrder, bool_cmp_total}
use Rattle.std.specs.Ordering.{ordering_then}
use Rattle.std.proofs.lemmas.Bool.{cases_eq}
use Rattle.std.proofs.lemmas.Cmp.{nat_cmp_total, on_total, then_total}
use Rattle.std.proofs.lemmas.List.Elements.{All-contains}
use Rattle.std.proofs.lemmas.Map.Lookups.{exact_unsigned}
use Rattle.antichains.specs.Antichains.{IsWithin, IsNormal}
use Rattle.antichains.proofs.Members.{Contains-head, Contains-rest, Contains-none, Contains-cons_cases, All-from_contains}
use Rattle.antichains.proofs.Ordered.{sorted_nil, sorted_cons, sorted_head, sorted_rest, never_below_itself}
use Rattle.antichains.proofs.Truth.{passes_at, passes_from, passes_within, some_passes, some_from}
use Rattle.points.specs.Points.{Point, coordinate_at, with_end}
use Rattle.faces.specs.declared.equations.Equation.{Equation}
use Rattle.faces.specs.Equations.{name_cmp, equation_cmp, is_at, equation_truth}
use Rattle.faces.specs.Faces.{conj_truth, face_truth, IsConsistent, HasRisingNames, IsIrredundant}
use Rattle.points.proofs.PointLaws.{with_end_same, with_end_other}
use Rattle.faces.proofs.Coordinates.{is_at_its_end, true_at_end}

-- the point that a conjunction names
abbrev pub own_point : List Equation → Point
own_point [] = []
own_point (e ∷ rest) = with_end e.name e.end (own_point rest)

pub consistent_within : (conj rest : List Equation) → IsWithin rest conj → IsConsistent conj → IsConsistent rest
consistent_within conj rest w k = record { one_end = λ e f c d n. k.one_end e f (w.each e c) (w.each f d) n }

consistent_rest : (e : Equation) (rest : List Equation) → IsConsistent (e ∷ rest) → IsConsistent rest
consistent_rest e rest = consistent_within (e ∷ rest) rest (record { each = λ f c. Contains-rest e rest f c })

pub consistent_none : IsConsistent []
consistent_none = record { one_end = λ e f c d n. absurd (Contains-none e c) }

pub only_one : (e f : Equation) → Contains (e ∷ []) f → e ≡ f
only_one e f c = ⊎_elim (λ p. p) (λ h. absurd (Contains-none f h)) (Contains-cons_cases e [] f c)

pub consistent_one : (e : Equation) → IsConsistent (e ∷ [])
consistent_one e = record { one_end = λ f g c d n. sym (only_one e f c) ∙ only_one e g d }

own_equation : (conj : List Equation) → IsConsistent conj → (f : Equation) → Contains conj f → equation_truth f (own_point conj) ≡ true
own_equation [] k f c = absurd (Contains-none f c)
own_equation (e ∷ rest) k f c =
    ⊎_elim
    (λ n.
    ap (λ (g : Equation). equation_truth g (own_point (e ∷ rest))) (k.one_end f e c (Contains-head e rest) n)
    ∙ ap (λ z. is_at z e.end) (with_end_same e.name e.end (own_point rest))
    ∙ is_at_its_end e.end)
    (λ n.
    ap (λ z. is_at z f.end) (with_end_other e.name e.end (own_point rest) f.name n)
    ∙ ⊎_elim
    (λ p. absurd (n (ap (λ (g : Equation). g.name) (sym p))))
    (own_equation rest (consistent_rest e rest k) f)
    (Contains-cons_cases e rest f c))
    (cases_eq f.name e.name)

only_equation : (conj : List Equation) (f : Equation) → equation_truth f (own_point conj) ≡ true → Contains conj f
only_equation [] f h = absurd (nowhere f.name h)
  where
    nowhere : (name : ℕ) → is_at (coordinate_at [] name) f.end ≡ true → ⊥
    nowhere name h = cc
only_equation (e ∷ rest) f h =
    ⊎_elim
    (λ n.
    let Named : ℕ → Equation = λ name. record { name = name; end = f.end } in
    let Ended : Bool → Equation = λ end. record { name = e.name; end = end } in
    let here = ap (coordinate_at (own_point (e ∷ rest))) n ∙ with_end_same e.name e.end (own_point rest) in
    let same : f ≡ e = ap Named n ∙ ap Ended (true_at_end f (own_point (e ∷ rest)) e.end here h) in
    rw same (Contains-head e rest))
    (λ n.
    Contains-rest e rest f
    (only_equation rest f (sym (ap (λ z. is_at z f.end) (with_end_other e.name e.end (own_point rest) f.name n)) ∙ h)))
    (cases_eq f.name e.name)

pub true_at_own_point : (conj : List Equation) → IsConsistent conj → conj_truth conj (own_point conj) ≡ true
true_at_own_point conj k = passes_from (λ e. equation_truth e (own_point conj)) conj (own_equation conj k)

-- what is true at the point that a conjunction names is within it
pub within_own_point : (conj other : List Equation) → conj_truth other (own_point conj) ≡ true → IsWithin other conj
within_own_point conj other h = record {
  each = λ e c. only_equation conj e (passes_at (λ f. equation_truth f (own_point conj)) other e h c);
}

-- a conjunction is true wherever one is that has it within it
pub true_within : (conj other : List Equation) (x : Point) → IsWithin other conj → conj_truth conj x ≡ true → conj_truth other x ≡ true
true_within conj other x w h = passes_within (λ e. equation_truth e x) other conj w h

-- and so is a face that has one
pub face_from : (face : List (List Equation)) (conj : List Equation) (x : Point) → Contains face conj → conj_truth conj x ≡ true → face_truth face x ≡ true
face_from face conj x c h = some_from (λ d. conj_truth d x) face conj c h

pub face_has : (face : List (List Equation)) (x : Point) → face_truth face x ≡ true → (conj : List Equation) × Contains face conj × (conj_truth conj x ≡ true)
face_has face x h = some_passes (λ d. conj_truth d x) face h

pub irredundant_at_points : (face : List (List Equation)) → IsNormal equation_cmp face → All IsConsistent face → IsIrredundant face
irredundant_at_points face n k = record {
  apart = λ c d in_c in_d implies.
      let own = true_at_own_point c (All-contains IsConsistent face c k in_c) in
      sym (n.irredundant.apart d c in_d in_c (within_own_point c d (implies (own_point c) own)));
}

equation_order : IsTotalOrder equation_cmp
equation_order = then_total (on_total (λ e. e.name) nat_cmp_total) (on_total (λ e. e.end) bool_cmp_total)

rising_less : (a b : Ordering) → ordering_then a b ≡ Less → (a ≡ Equal → ⊥) → a ≡ Less
rising_less Less b h n = refl
rising_less Equal b h n = absurd (n refl)
rising_less Greater b h n = cc

-- in order and without a name at both ends, the names rise
pub rising_names : (conj : List Equation) → IsStrictlySortedBy equation_cmp conj → IsConsistent conj → HasRisingNames conj
rising_names [] s k = sorted_nil name_cmp
rising_names (e ∷ rest) s k =
    sorted_cons name_cmp e rest
    (λ f c.
    let less = sorted_head equation_cmp e rest s f c in
    rising_less (name_cmp e f) _ less
    (λ tie.
    let same = k.one_end e f (Contains-head e rest) (Contains-rest e rest f c) (exact_unsigned e.name f.name tie) in
    never_below_itself equation_order e (rw (← same) at less)))
    (rising_names rest (sorted_rest equation_cmp e rest s) (consistent_rest e rest k))

pub all_rising : (face : List (List Equation)) → All (IsStrictlySortedBy equation_cmp) face → All IsConsistent face → All HasRisingNames face
all_rising face s k =
    All-from_contains HasRisingNames face
    (λ conj c. rising_names conj (All-contains (IsStrictlySortedBy equation_cmp) face conj s c) (All-contains IsConsistent face conj k c))
