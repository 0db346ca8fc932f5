-- Whether faces and formulas with unknown parts agree at all values of their atoms. An atom is a
-- name, a part under a substitution, or an `all` of a face.
use Rattle.std.specs.Prelude.{ℕ, suc, List, [], ◌∷◌, ◌++◌, map, Bool, true, false, not}
use Rattle.std.specs.Prelude.{◌&&◌, ◌||◌, cond, Option, Some, None, option_map}
use Rattle.std.specs.List.{list_all, list_any}
use Rattle.trees.specs.declared.op.Op.TheVariants as op
use Rattle.trees.specs.Things.{both}
use Rattle.points.specs.Values.{Value, zero_value, one_value, free_value, negation, meet, join}
use Rattle.patterns.specs.Patterns.{ContextPart, Empty, AddVar, AddName, AddFace}
use Rattle.patterns.specs.Normals.{Normal, NormalSubst, NormalContext, NVar, NMake, NPart}
use Rattle.patterns.specs.Normals.{NoNormals, MoreNormals, NShift, NPush, NRest}
use Rattle.patterns.specs.Normals.{same_normal, apply_normal}
use Rattle.patterns.specs.Tests.{NormalCondition, same_normal_context}
use Rattle.trees.specs.Language.{Holds}

-- before these, the faces that conditions say to hold in the context
abbrev pub with_held : NormalContext → List NormalCondition → List Normal → List Normal
with_held G [] ps = ps
with_held G (Holds H p ∷ cs) ps =
    cond (same_normal_context H G) (p ∷ with_held G cs ps) (with_held G cs ps)
with_held G (c ∷ cs) ps = with_held G cs ps

-- the faces of a context past its base, and those that conditions say to hold in it or in what it
-- begins with, seen from its end
abbrev pub faces_of : List NormalCondition → NormalContext → List Normal
faces_of facts (ContextPart k) = with_held (ContextPart k) facts []
faces_of facts Empty = with_held Empty facts []
faces_of facts (AddVar G A) =
    with_held (AddVar G A) facts (map (apply_normal (NShift 1)) (faces_of facts G))
faces_of facts (AddName G) =
    with_held (AddName G) facts (map (apply_normal (NShift 1)) (faces_of facts G))
faces_of facts (AddFace G p) = with_held (AddFace G p) facts (p ∷ faces_of facts G)

-- what is told of some atoms
abbrev pub Told : Type 0 → Type 0
Told X = Normal → Option X

abbrev pub some_meet : Value → Value → Option Value
some_meet a b = Some (meet a b)

abbrev pub some_join : Value → Value → Option Value
some_join a b = Some (join a b)

abbrev pub some_and : Bool → Bool → Option Bool
some_and a b = Some (a && b)

abbrev pub some_or : Bool → Bool → Option Bool
some_or a b = Some (a || b)

abbrev pub fails_of : Value → Bool
fails_of w = w.fails

abbrev pub holds_of : Value → Bool
holds_of w = w.holds

-- the value of a formula, where its atoms tell it
abbrev pub value_told : Told Value → Normal → Option Value
value_told f (NMake op.I0 NoNormals) = Some zero_value
value_told f (NMake op.I1 NoNormals) = Some one_value
value_told f (NMake op.Neg (MoreNormals r NoNormals)) = option_map negation (value_told f r)
value_told f (NMake op.Min (MoreNormals r (MoreNormals s NoNormals))) =
    both some_meet (value_told f r) (value_told f s)
value_told f (NMake op.Max (MoreNormals r (MoreNormals s NoNormals))) =
    both some_join (value_told f r) (value_told f s)
value_told f t = f t

-- whether a face is true, where its atoms tell it
abbrev pub truth_told : Told Value → Told Bool → Normal → Option Bool
truth_told f g (NMake op.F0 NoNormals) = Some false
truth_told f g (NMake op.F1 NoNormals) = Some true
truth_told f g (NMake op.Eq0 (MoreNormals r NoNormals)) = option_map fails_of (value_told f r)
truth_told f g (NMake op.Eq1 (MoreNormals r NoNormals)) = option_map holds_of (value_told f r)
truth_told f g (NMake op.Meet (MoreNormals p (MoreNormals q NoNormals))) =
    both some_and (truth_told f g p) (truth_told f g q)
truth_told f g (NMake op.Join (MoreNormals p (MoreNormals q NoNormals))) =
    both some_or (truth_told f g p) (truth_told f g q)
truth_told f g t = g t

-- the atoms of a formula
abbrev pub formula_atoms : Normal → List Normal
formula_atoms (NMake op.I0 NoNormals) = []
formula_atoms (NMake op.I1 NoNormals) = []
formula_atoms (NMake op.Neg (MoreNormals r NoNormals)) = formula_atoms r
formula_atoms (NMake op.Min (MoreNormals r (MoreNormals s NoNormals))) =
    formula_atoms r ++ formula_atoms s
formula_atoms (NMake op.Max (MoreNormals r (MoreNormals s NoNormals))) =
    formula_atoms r ++ formula_atoms s
formula_atoms t = t ∷ []

-- the atoms of the formulas in a face
abbrev pub value_atoms : Normal → List Normal
value_atoms (NMake op.Eq0 (MoreNormals r NoNormals)) = formula_atoms r
value_atoms (NMake op.Eq1 (MoreNormals r NoNormals)) = formula_atoms r
value_atoms (NMake op.Meet (MoreNormals p (MoreNormals q NoNormals))) =
    value_atoms p ++ value_atoms q
value_atoms (NMake op.Join (MoreNormals p (MoreNormals q NoNormals))) =
    value_atoms p ++ value_atoms q
value_atoms t = []

-- the atoms of a face that are faces
abbrev pub face_atoms : Normal → List Normal
face_atoms (NMake op.F0 NoNormals) = []
face_atoms (NMake op.F1 NoNormals) = []
face_atoms (NMake op.Eq0 (MoreNormals r NoNormals)) = []
face_atoms (NMake op.Eq1 (MoreNormals r NoNormals)) = []
face_atoms (NMake op.Meet (MoreNormals p (MoreNormals q NoNormals))) = face_atoms p ++ face_atoms q
face_atoms (NMake op.Join (MoreNormals p (MoreNormals q NoNormals))) = face_atoms p ++ face_atoms q
face_atoms t = t ∷ []

abbrev pub all_atoms : (Normal → List Normal) → List Normal → List Normal
all_atoms f [] = []
all_atoms f (p ∷ ps) = f p ++ all_atoms f ps

abbrev pub with_one : Normal → List Normal → List Normal
with_one t ts = cond (list_any (same_normal t) ts) ts (t ∷ ts)

-- each once
abbrev pub distinct : List Normal → List Normal
distinct [] = []
distinct (t ∷ ts) = with_one t (distinct ts)

-- an atom, and what it is
pub record Entry (X : Type 0) : Type 0 where
  pub atom : Normal
  pub is : X

abbrev pub told : {X : Type 0} → List (Entry X) → Told X
told [] t = None
told (e ∷ es) t = cond (same_normal e.atom t) (Some e.is) (told es t)

-- the test says yes, whichever of these each of the atoms is
abbrev pub at_all : {X : Type 0} → List X → List Normal → List (Entry X)
    → (List (Entry X) → Bool) → Bool
at_all xs [] es test = test es
at_all xs (t ∷ ts) es test = list_all (λ x. at_all xs ts (record { atom = t; is = x } ∷ es) test) xs

abbrev pub told_false : Option Bool → Bool
told_false (Some false) = true
told_false _ = false

abbrev pub told_true : Option Bool → Bool
told_true (Some true) = true
told_true _ = false

-- of a face: true at the points of a name or of an atom, and not
abbrev pub truths : List Bool
truths = true ∷ false ∷ []

-- what a formula may be worth at a point
abbrev pub point_values : List Value
point_values = zero_value ∷ one_value ∷ free_value ∷ []

-- `all i.q`, and q at a formula, which is true wherever that is
pub record Instance : Type 0 where
  pub of_all : Normal
  pub is : Normal

-- before these, those of the first, which is `all i.q`, at formulas
abbrev pub with_instances : Normal → Normal → List Normal → List Instance → List Instance
with_instances t q [] more = more
with_instances t q (r ∷ rs) more =
    record { of_all = t; is = apply_normal (NPush (NShift 0) r) q } ∷ with_instances t q rs more

-- those of each that is an `all`
abbrev pub instances_at : List Normal → List Normal → List Instance
instances_at rs [] = []
instances_at rs (NMake op.All (MoreNormals q NoNormals) ∷ ts) =
    with_instances (NMake op.All (MoreNormals q NoNormals)) q rs (instances_at rs ts)
instances_at rs (t ∷ ts) = instances_at rs ts

-- the names among indices from k on
abbrev pub names_from : ℕ → List Bool → List Normal
names_from k [] = []
names_from k (is ∷ more) = cond is (NVar k ∷ names_from (suc k) more) (names_from (suc k) more)

abbrev pub pushed_by : NormalSubst → List Normal
pushed_by (NShift n) = []
pushed_by (NPush s t) = t ∷ pushed_by s
pushed_by (NRest n k s) = pushed_by s

-- what stands under a part
abbrev pub pushed_in : Normal → List Normal
pushed_in (NPart k s) = pushed_by s
pushed_in t = []

-- at the ends, at names, at atoms of formulas, and at what is pushed in atoms of faces
abbrev pub instances_of : List Bool → List Normal → List Normal → List Instance
instances_of names values faces =
    let ends = NMake op.I0 NoNormals ∷ NMake op.I1 NoNormals ∷ names_from 0 names in
    instances_at (distinct (ends ++ (values ++ all_atoms pushed_in faces))) faces

-- it is told false, where its `all` is told true
abbrev pub is_broken : Told Value → Told Bool → Instance → Bool
is_broken f g i = told_true (truth_told f g i.of_all) && told_false (truth_told f g i.is)

-- one of these faces is told false, or one that follows from them
abbrev pub are_refuted : List Instance → List Normal → Told Value → Told Bool → Bool
are_refuted is faces f g =
    list_any (λ q. told_false (truth_told f g q)) faces || list_any (is_broken f g) is

-- the face is told true where these are not refuted
abbrev pub is_implied : List Instance → List Normal → Normal → Told Value → Told Bool → Bool
is_implied is faces p f g = are_refuted is faces f g || told_true (truth_told f g p)

-- the face is true wherever all of these are, over these atoms
abbrev pub follows_over : List Bool → List Normal → List Normal → List Normal → Normal → Bool
follows_over names values truth faces p =
    at_all point_values values []
    (λ vs. at_all truths truth []
    (λ ts. is_implied (instances_of names values truth) faces p (told vs) (told ts)))

-- the face is true wherever all of these are
abbrev pub follows_from : List Bool → List Normal → Normal → Bool
follows_from names faces p =
    follows_over names
    (distinct (all_atoms value_atoms (p ∷ faces)))
    (distinct (all_atoms face_atoms (p ∷ faces)))
    faces p

-- what a formula may be worth at a point, and under a valuation over it
pub record TwoValues : Type 0 where
  pub at_point : Value
  pub over_it : Value

abbrev pub two : Value → Value → TwoValues
two a b = record { at_point = a; over_it = b }

abbrev pub both_value : Value
both_value = record { holds = true; fails = true }

abbrev pub values_over : List TwoValues
values_over =
    two zero_value zero_value
    ∷ two one_value one_value
    ∷ two free_value zero_value
    ∷ two free_value one_value
    ∷ two free_value free_value
    ∷ two free_value both_value
    ∷ []

abbrev pub at_point_of : Told TwoValues → Told Value
at_point_of f t = option_map (λ w. w.at_point) (f t)

abbrev pub over_it_of : Told TwoValues → Told Value
over_it_of f t = option_map (λ w. w.over_it) (f t)

abbrev pub same_bool : Bool → Bool → Bool
same_bool true b = b
same_bool false b = not b

abbrev pub told_same : Option Value → Option Value → Bool
told_same (Some a) (Some b) = same_bool a.holds b.holds && same_bool a.fails b.fails
told_same _ _ = false

abbrev pub are_equal : List Instance → List Normal → Normal → Normal
    → Told TwoValues → Told Bool → Bool
are_equal is faces r s f g =
    are_refuted is faces (at_point_of f) g
    || told_same (value_told (over_it_of f) r) (value_told (over_it_of f) s)

abbrev pub agree_over : List Bool → List Normal → List Normal → List Normal
    → Normal → Normal → Bool
agree_over names values truth faces r s =
    at_all values_over values []
    (λ vs. at_all truths truth []
    (λ ts. are_equal (instances_of names values truth) faces r s (told vs) (told ts)))

-- the formulas have one value under every valuation over a point at which all of these are true
abbrev pub agree_under : List Bool → List Normal → Normal → Normal → Bool
agree_under names faces r s =
    agree_over names
    (distinct (formula_atoms r ++ (formula_atoms s ++ all_atoms value_atoms faces)))
    (distinct (all_atoms face_atoms faces))
    faces r s
