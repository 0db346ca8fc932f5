-- The reading of a shape, by those of its kids.
use Rattle.std.proofs.Common.{◌≡◌, ℕ, suc, ◌+◌, ◌-◌, ◌<◌, Bool, true, false, ◌&&◌, ◌||◌, length, get_or, Option, Some, None, refl, sym, ◌∙◌, ap, subst, arith}
use Rattle.std.proofs.lemmas.Bool.{and_parts}
use Rattle.std.specs.Prelude.{IsTrue}
use Rattle.trees.specs.Trees.{Tree, Var, Make, NoTrees, More}
use Rattle.trees.specs.Judgements.{Context}
use Rattle.side_conditions.specs.declared.subtree.Subtree.{Subtree}
use Rattle.side_conditions.specs.declared.shapes.Nullary.{Nullary}
use Rattle.side_conditions.specs.declared.shapes.Unary.{Unary}
use Rattle.side_conditions.specs.declared.shapes.Unary.TheVariants as unary
use Rattle.side_conditions.specs.declared.shapes.Binary.{Binary}
use Rattle.side_conditions.specs.declared.shapes.Binary.TheVariants as binary
use Rattle.side_conditions.specs.declared.shapes.Shape.TheVariants as shape
use Rattle.side_conditions.specs.declared.reading.Reading.{Reading}
use Rattle.conditions.specs.Sides.{is_name, is_formula, is_face}
use Rattle.side_conditions.specs.Levels.{indices, count_indices, with_names}
use Rattle.side_conditions.specs.Readings.{IsReadingOf, Reads, is_readable}
use Rattle.side_conditions.specs.Shapes.{nullary_op, unary_op, binary_op, bound_by, within, with_bound}
use Rattle.side_conditions.specs.Tables.{Table}
use Rattle.side_conditions.specs.Walks.{IsCombined}
use Rattle.side_conditions.proofs.OpeningLaws.{is_name-indices, indices-with_names, length-with_bound}

pub count-with_names : (n : ℕ) (G : Context) → count_indices (with_names n G) ≡ n + length (indices G)
count-with_names n G = ap length (indices-with_names n G) ∙ length-with_bound n (indices G)

pub name_combined : (Valued : Type 0) (table : Table) (count level : ℕ) (r : Reading) → ((G : Context) (k : ℕ) → count_indices G ≡ suc (level + k) → IsTrue (is_name G k) → IsReadingOf Valued G (Var k) r) → IsCombined Valued table count (shape.Name level) (Some r)
name_combined Valued table count level r read G depth at e fits right =
    let H = with_names depth G in
    let k = count - suc level in
    let n = count-with_names depth G in
    let lt = fits.0 in
    let place : count_indices H ≡ suc (level + k) = counted (count_indices H) (depth + length (indices G)) n e lt in
    read H k place
    (is_name-indices H k
    ∙ ap (λ ns. get_or ns k false) (indices-with_names depth G)
    ∙ ap (λ m. get_or (with_bound depth (indices G)) (m - suc level) false) e
    ∙ fits.1)
  where
    counted : (here all : ℕ) → here ≡ all → count ≡ all → level < all → here ≡ suc (level + (count - suc level))
    counted here all p q lt = omega arith

pub nullary_combined : (Valued : Type 0) (table : Table) (count : ℕ) (c : Nullary) (r : Reading) → ((G : Context) → IsReadingOf Valued G (Make (nullary_op c) NoTrees) r) → IsCombined Valued table count (shape.Nullary c) (Some r)
nullary_combined Valued table count c r read G depth at e fits right = read (with_names depth G)

within-depth : (G : Context) (c : Unary) (depth here : ℕ) → here ≡ bound_by c + depth → with_names here G ≡ within c (with_names depth G)
within-depth G unary.Neg depth here e = let s : here ≡ depth = omega arith in ap (λ n. with_names n G) s
within-depth G unary.IsZero depth here e = let s : here ≡ depth = omega arith in ap (λ n. with_names n G) s
within-depth G unary.IsOne depth here e = let s : here ≡ depth = omega arith in ap (λ n. with_names n G) s
within-depth G unary.All depth here e = let s : here ≡ suc depth = omega arith in ap (λ n. with_names n G) s

-- kids of what can be read

first_or : (a : Bool) → (a || false) ≡ true → a ≡ true
first_or true h = refl
first_or false h = h

or_left : (a b : Bool) → a ≡ true → (a || b) ≡ true
or_left true b h = refl
or_left false b h = cc

or_right : (a b : Bool) → b ≡ true → (a || b) ≡ true
or_right true b h = refl
or_right false b h = h

pub formula_readable : (G : Context) (t : Tree) → is_formula G t ≡ true → IsTrue (is_readable G t)
formula_readable G t h = or_left (is_formula G t) (is_face G t) h

pub face_readable : (G : Context) (t : Tree) → is_face G t ≡ true → IsTrue (is_readable G t)
face_readable G t h = or_right (is_formula G t) (is_face G t) h

abbrev ReadableKid : Context → (Subtree → Tree) → Subtree → Type 0
ReadableKid G at k = IsTrue (is_readable (with_names k.depth G) (at k))

at_depth : (G : Context) (at : Subtree → Tree) (k : Subtree) (depth : ℕ) → k.depth ≡ depth → IsTrue (is_readable (with_names depth G) (at k)) → ReadableKid G at k
at_depth G at k depth e h = ap (λ n. is_readable (with_names n G) (at k)) e ∙ h

readable_unary : (G : Context) (at : Subtree → Tree) (depth : ℕ) (c : Unary) (k : Subtree) → k.depth ≡ bound_by c + depth → IsTrue (is_readable (with_names depth G) (Make (unary_op c) (More (at k) NoTrees))) → ReadableKid G at k
readable_unary G at depth unary.Neg k e h =
    at_depth G at k depth (omega arith) (formula_readable (with_names depth G) (at k) (first_or (is_formula (with_names depth G) (at k)) h))
readable_unary G at depth unary.IsZero k e h = at_depth G at k depth (omega arith) (formula_readable (with_names depth G) (at k) h)
readable_unary G at depth unary.IsOne k e h = at_depth G at k depth (omega arith) (formula_readable (with_names depth G) (at k) h)
readable_unary G at depth unary.All k e h = at_depth G at k (suc depth) (omega arith) (face_readable (with_names (suc depth) G) (at k) h)

both_formulas : (H : Context) (s t : Tree) → (is_formula H s && is_formula H t) ≡ true → IsTrue (is_readable H s) × IsTrue (is_readable H t)
both_formulas H s t h = let p = and_parts (is_formula H s) (is_formula H t) h in (formula_readable H s p.0, formula_readable H t p.1)

both_faces : (H : Context) (s t : Tree) → (is_face H s && is_face H t) ≡ true → IsTrue (is_readable H s) × IsTrue (is_readable H t)
both_faces H s t h = let p = and_parts (is_face H s) (is_face H t) h in (face_readable H s p.0, face_readable H t p.1)

readable_binary : (G : Context) (at : Subtree → Tree) (depth : ℕ) (c : Binary) (k l : Subtree) → IsTrue (is_readable (with_names depth G) (Make (binary_op c) (More (at k) (More (at l) NoTrees)))) → IsTrue (is_readable (with_names depth G) (at k)) × IsTrue (is_readable (with_names depth G) (at l))
readable_binary G at depth binary.Min k l h =
    let H = with_names depth G in both_formulas H (at k) (at l) (first_or (is_formula H (at k) && is_formula H (at l)) h)
readable_binary G at depth binary.Max k l h =
    let H = with_names depth G in both_formulas H (at k) (at l) (first_or (is_formula H (at k) && is_formula H (at l)) h)
readable_binary G at depth binary.Meet k l h = both_faces (with_names depth G) (at k) (at l) h
readable_binary G at depth binary.Join k l h = both_faces (with_names depth G) (at k) (at l) h

-- the shapes with kids

pub unary_combined : (Valued : Type 0) (table : Table) (count : ℕ) (c : Unary) (k : Subtree) (o : Option Reading) (kid : Reading) (found : Option Reading) → Some o ≡ table k → o ≡ Some kid → ((G : Context) (t : Tree) → count ≡ count_indices G → IsReadingOf Valued (within c G) t kid → Reads Valued G (Make (unary_op c) (More t NoTrees)) found) → IsCombined Valued table count (shape.Unary c k) found
unary_combined Valued table count c k o kid found there is read G depth at e fits right =
    read (with_names depth G) (at k) (e ∙ sym (count-with_names depth G))
    (subst (λ H. IsReadingOf Valued H (at k) kid) (within-depth G c depth k.depth fits) (right k (Some kid) (sym there ∙ ap Some is)))

pub unary_unread : (Valued : Type 0) (table : Table) (count : ℕ) (c : Unary) (k : Subtree) (o : Option Reading) → Some o ≡ table k → o ≡ None → IsCombined Valued table count (shape.Unary c k) None
unary_unread Valued table count c k o there is G depth at e fits right h = right k None (sym there ∙ ap Some is) (readable_unary G at depth c k fits h)

pub binary_combined : (Valued : Type 0) (table : Table) (count : ℕ) (c : Binary) (k l : Subtree) (o p : Option Reading) (left right : Reading) (found : Option Reading) → Some o ≡ table k → o ≡ Some left → Some p ≡ table l → p ≡ Some right → ((G : Context) (s t : Tree) → IsReadingOf Valued G s left → IsReadingOf Valued G t right → Reads Valued G (Make (binary_op c) (More s (More t NoTrees))) found) → IsCombined Valued table count (shape.Binary c k l) found
binary_combined Valued table count c k l o p left right found there is also other read G depth at e fits rights =
    read (with_names depth G) (at k) (at l)
    (subst (λ n. IsReadingOf Valued (with_names n G) (at k) left) fits.0 (rights k (Some left) (sym there ∙ ap Some is)))
    (subst (λ n. IsReadingOf Valued (with_names n G) (at l) right) fits.1 (rights l (Some right) (sym also ∙ ap Some other)))

pub left_unread : (Valued : Type 0) (table : Table) (count : ℕ) (c : Binary) (k l : Subtree) (o : Option Reading) → Some o ≡ table k → o ≡ None → IsCombined Valued table count (shape.Binary c k l) None
left_unread Valued table count c k l o there is G depth at e fits rights h =
    rights k None (sym there ∙ ap Some is) (at_depth G at k depth fits.0 (readable_binary G at depth c k l h).0)

pub right_unread : (Valued : Type 0) (table : Table) (count : ℕ) (c : Binary) (k l : Subtree) (o : Option Reading) → Some o ≡ table l → o ≡ None → IsCombined Valued table count (shape.Binary c k l) None
right_unread Valued table count c k l o there is G depth at e fits rights h =
    rights l None (sym there ∙ ap Some is) (at_depth G at l depth fits.1 (readable_binary G at depth c k l h).1)
