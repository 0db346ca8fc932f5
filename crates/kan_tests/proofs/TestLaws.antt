-- The parts and premises of calls.
use Rattle.std.proofs.Common.{◌≡◌, ℕ, suc, ◌<◌, List, [], ◌∷◌, length, map, refl, sym, ap, arith, Some, IsSome}
use Rattle.std.proofs.lemmas.List.Elements.{All-nil, All-cons}
use Rattle.std.specs.List.{All}
use Rattle.std.specs.Prelude.{slice_index}
use Rattle.conditions.specs.Sides.{SideHolds}
use Rattle.trees.specs.Language.{IsFormula, IsFace, Ctx}
use Rattle.trees.specs.Judgements.{Judgement, Context, Nil, WithName, trees}
use Rattle.trees.specs.Trees.{Tree, Var}
use Rattle.trees.specs.Things.{Thing, AContext, ATree, Meanings, meanings}
use Rattle.trees.proofs.Meanings.{meanings-length, meanings-cons, meanings-at, meanings-kept}
use Rattle.rules.specs.Table.{eq0, lam, nat, zero}
use Rattle.book.specs.Contents.{Contents}
use Rattle.book.specs.Shown.{book_means, book_nodes, book_concludes, Extends}
use Rattle.kan_fill.specs.Statements.{fill_statement, contr_statement, pres_statement, ext_statement}
use Rattle.kan_calls.specs.Calls.{MayCall}
use Rattle.kan_tests.specs.Fillings.{premises_statement, filling_parts, moved_statement, preservation_parts}
use Rattle.kan_tests.specs.Fillings.{contracted_statement, contraction_parts, contractible}
use Rattle.kan_tests.specs.Fillings.{raised_statement, extension_parts, of_fiber}
use Rattle.recipes.specs.Statements.{Statement}
use Rattle.recipes.specs.Made.{ShiftIsAtMost, greatest_part_shift}
use Rattle.recipes.specs.Derivations.{MayStandAt, premises_at, conclusions_at}
use Rattle.book.proofs.BookLaws.{node-there}

-- a context and trees have no shifts
trees-fit : (ts : List Tree) → All (ShiftIsAtMost greatest_part_shift) (map ATree ts)
trees-fit [] = All-nil (ShiftIsAtMost greatest_part_shift)
trees-fit (t ∷ ts) = All-cons (ShiftIsAtMost greatest_part_shift) (ATree t) (map ATree ts) tt (trees-fit ts)

pub parts-fit : (G : Context) (ts : List Tree) → All (ShiftIsAtMost greatest_part_shift) (AContext G ∷ map ATree ts)
parts-fit G ts = All-cons (ShiftIsAtMost greatest_part_shift) (AContext G) (map ATree ts) tt (trees-fit ts)

-- the parts of a filling

pub parts-are : (f : Meanings) (ctx line face base end : ℕ) → f ctx ≡ Some (AContext (WithName Nil)) → f line ≡ Some (ATree (nat trees)) → f face ≡ Some (ATree (eq0 trees (Var 0))) → f base ≡ Some (ATree (zero trees)) → f end ≡ Some (ATree (Var 0)) → meanings f (ctx ∷ line ∷ face ∷ base ∷ base ∷ end ∷ []) ≡ Some filling_parts
parts-are f ctx line face base end e1 e2 e3 e4 e5 = rw (e1, e2, e3, e4, e5) refl

pub filling-stands : MayStandAt fill_statement filling_parts
filling-stands = record {
  kinds = refl;
  shifts = parts-fit (WithName Nil) (nat trees ∷ eq0 trees (Var 0) ∷ zero trees ∷ zero trees ∷ Var 0 ∷ []);
  sides = All-cons SideHolds (IsFace (WithName Nil) (eq0 trees (Var 0))) (IsFormula (WithName Nil) (Var 0) ∷ []) refl (All-cons SideHolds (IsFormula (WithName Nil) (Var 0)) [] refl (All-nil SideHolds));
}

pub may-fill : (b : Contents) (ctx : ℕ) (parts premises : List ℕ) → meanings (book_means b) parts ≡ Some filling_parts → meanings (book_concludes b) (ctx ∷ premises) ≡ Some (conclusions_at premises_statement []) → MayCall fill_statement b ctx parts premises filling_parts
may-fill b ctx parts premises e f = record { parts_are = e; premises_are = f; may_stand = filling-stands }

-- a list of nodes that conclude something
pub some-nodes : (b : Contents) (ks : List ℕ) (J : Judgement) (Js : List Judgement) → meanings (book_concludes b) ks ≡ Some (J ∷ Js) → 0 < length ks
some-nodes b ks J Js e =
    let count : length ks ≡ suc (length Js) = meanings-length (book_concludes b) ks (J ∷ Js) e in
    omega (arith, count)

-- the parts of a preservation

pub moved-parts-are : (f : Meanings) (ctx line same face base : ℕ) → f ctx ≡ Some (AContext (WithName Nil)) → f line ≡ Some (ATree (nat trees)) → f same ≡ Some (ATree (lam trees (nat trees) (Var 0))) → f face ≡ Some (ATree (eq0 trees (Var 0))) → f base ≡ Some (ATree (zero trees)) → meanings f (ctx ∷ line ∷ line ∷ same ∷ face ∷ base ∷ base ∷ []) ≡ Some preservation_parts
moved-parts-are f ctx line same face base e1 e2 e3 e4 e5 = rw (e1, e2, e3, e4, e5) refl

pub preservation-stands : MayStandAt pres_statement preservation_parts
preservation-stands = record {
  kinds = refl;
  shifts = parts-fit (WithName Nil) (nat trees ∷ nat trees ∷ lam trees (nat trees) (Var 0) ∷ eq0 trees (Var 0) ∷ zero trees ∷ zero trees ∷ []);
  sides = All-cons SideHolds (IsFace (WithName Nil) (eq0 trees (Var 0))) [] refl (All-nil SideHolds);
}

pub may-preserve : (b : Contents) (ctx : ℕ) (parts premises : List ℕ) → meanings (book_means b) parts ≡ Some preservation_parts → meanings (book_concludes b) (ctx ∷ premises) ≡ Some (conclusions_at moved_statement []) → MayCall pres_statement b ctx parts premises preservation_parts
may-preserve b ctx parts premises e f = record { parts_are = e; premises_are = f; may_stand = preservation-stands }

-- the context of a list of nodes

pub record FirstSays (b : Contents) (ks : List ℕ) (G : Context) : Type 0 where
  pub some : 0 < length ks
  pub there : IsSome (book_nodes b (slice_index ks 0))
  pub concludes : book_concludes b (slice_index ks 0) ≡ Some (Ctx G)

pub first-says : (b : Contents) (ks : List ℕ) (G : Context) (Js : List Judgement) → meanings (book_concludes b) ks ≡ Some (Ctx G ∷ Js) → FirstSays b ks G
first-says b ks G Js e =
    let is : book_concludes b (slice_index ks 0) ≡ Some (Ctx G) = meanings-at (book_concludes b) ks (Ctx G ∷ Js) e 0 (Ctx G) refl in
    record {
      some = some-nodes b ks (Ctx G) Js e;
      there = node-there b (slice_index ks 0) (Ctx G) is;
      concludes = is;
    }

-- nodes go on to conclude what they conclude
pub conclusions-later : (b c : Contents) → Extends b c → (ks : List ℕ) (Js : List Judgement) → meanings (book_concludes b) ks ≡ Some Js → meanings (book_concludes c) ks ≡ Some Js
conclusions-later b c more [] Js e = e
conclusions-later b c more (k ∷ ks) Js e =
    let m = meanings-cons (book_concludes b) k ks Js e in
    rw (more.conclusions k m.first m.first_is, conclusions-later b c more ks m.rest m.rest_is) (ap Some (sym m.whole))

pub may-call-later : (s : Statement) (b c : Contents) → Extends b c → (ctx : ℕ) (parts premises : List ℕ) (things : List Thing) → MayCall s b ctx parts premises things → MayCall s c ctx parts premises things
may-call-later s b c more ctx parts premises things h = record {
  parts_are = meanings-kept (book_means b) (book_means c) more.rows parts things h.parts_are;
  premises_are = conclusions-later b c more (ctx ∷ premises) (premises_at s things) h.premises_are;
  may_stand = h.may_stand;
}

-- the parts of a contraction

pub contracted-parts-are : (f : Meanings) (ctx ty centre face element : ℕ) → f ctx ≡ Some (AContext (contractible trees)) → f ty ≡ Some (ATree (Var 2)) → f centre ≡ Some (ATree (Var 1)) → f face ≡ Some (ATree (eq0 trees (Var 3))) → f element ≡ Some (ATree (Var 0)) → meanings f (ctx ∷ ty ∷ centre ∷ face ∷ element ∷ []) ≡ Some contraction_parts
contracted-parts-are f ctx ty centre face element e1 e2 e3 e4 e5 = rw (e1, e2, e3, e4, e5) refl

contraction-stands : MayStandAt contr_statement contraction_parts
contraction-stands = record {
  kinds = refl;
  shifts = parts-fit (contractible trees) (Var 2 ∷ Var 1 ∷ eq0 trees (Var 3) ∷ Var 0 ∷ []);
  sides = All-cons SideHolds (IsFace (contractible trees) (eq0 trees (Var 3))) [] refl (All-nil SideHolds);
}

pub may-contract : (b : Contents) (ctx : ℕ) (parts premises : List ℕ) → meanings (book_means b) parts ≡ Some contraction_parts → meanings (book_concludes b) (ctx ∷ premises) ≡ Some (conclusions_at contracted_statement []) → MayCall contr_statement b ctx parts premises contraction_parts
may-contract b ctx parts premises e f = record { parts_are = e; premises_are = f; may_stand = contraction-stands }

-- the parts of an extension

pub raised-parts-are : (f : Meanings) (ctx ty equivalence face element point : ℕ) → f ctx ≡ Some (AContext (of_fiber trees)) → f ty ≡ Some (ATree (nat trees)) → f equivalence ≡ Some (ATree (Var 1)) → f face ≡ Some (ATree (eq0 trees (Var 2))) → f element ≡ Some (ATree (Var 0)) → f point ≡ Some (ATree (zero trees)) → meanings f (ctx ∷ ty ∷ ty ∷ equivalence ∷ face ∷ element ∷ point ∷ []) ≡ Some extension_parts
raised-parts-are f ctx ty equivalence face element point e1 e2 e3 e4 e5 e6 = rw (e1, e2, e3, e4, e5, e6) refl

extension-stands : MayStandAt ext_statement extension_parts
extension-stands = record {
  kinds = refl;
  shifts = parts-fit (of_fiber trees) (nat trees ∷ nat trees ∷ Var 1 ∷ eq0 trees (Var 2) ∷ Var 0 ∷ zero trees ∷ []);
  sides = All-cons SideHolds (IsFace (of_fiber trees) (eq0 trees (Var 2))) [] refl (All-nil SideHolds);
}

pub may-extend : (b : Contents) (ctx : ℕ) (parts premises : List ℕ) → meanings (book_means b) parts ≡ Some extension_parts → meanings (book_concludes b) (ctx ∷ premises) ≡ Some (conclusions_at raised_statement []) → MayCall ext_statement b ctx parts premises extension_parts
may-extend b ctx parts premises e f = record { parts_are = e; premises_are = f; may_stand = extension-stands }
