-- Where a statement may be called: its parts are of its kinds, their shifts are small, its side
-- conditions hold, and the premises conclude what it claims to want; and what nodes conclude then.
use Rattle.std.proofs.Common.{◌≡◌, ◌≤◌, ◌^◌, ℕ, List, [], ◌∷◌, map, take, length, sym, ◌∙◌, ap, subst, arith, Some}
use Rattle.std.specs.List.{All, AllZip}
use Rattle.std.proofs.lemmas.List.Elements.{All-nil, All-cons}
use Rattle.trees.specs.Judgements.{Judgement, trees}
use Rattle.trees.specs.Things.{Thing, ATree, ASubst, AContext, meanings, kind_of}
use Rattle.conditions.specs.Sides.{SideHolds}
use Rattle.book.specs.Contents.{Contents}
use Rattle.book.specs.Shown.{book_means, book_concludes}
use Rattle.recipes.specs.Made.{ShiftIsAtMost, greatest_part_shift}
use Rattle.recipes.specs.Statements.{Statement, Claimed}
use Rattle.recipes.specs.Derivations.{StatesAt}
use Rattle.typed_nodes.specs.Calls.{MayCall, Gives}
use Rattle.typed_nodes.proofs.CallLaws.{all_said, each_said}

-- the shifts of the substitutions among these are those of a book
abbrev pub AreShort : List Thing → Type 0
AreShort [] = Unit {0}
AreShort (ASubst d ∷ xs) = (d.shift ≤ 2 ^ 48) × AreShort xs
AreShort (ATree t ∷ xs) = AreShort xs
AreShort (AContext G ∷ xs) = AreShort xs

shifts_fit : (xs : List Thing) → AreShort xs → All (ShiftIsAtMost greatest_part_shift) xs
shifts_fit [] h = All-nil (ShiftIsAtMost greatest_part_shift)
shifts_fit (ASubst d ∷ xs) h = All-cons (ShiftIsAtMost greatest_part_shift) (ASubst d) xs (let le = h.0 in omega (arith, le)) (shifts_fit xs h.1)
shifts_fit (ATree t ∷ xs) h = All-cons (ShiftIsAtMost greatest_part_shift) (ATree t) xs tt (shifts_fit xs h)
shifts_fit (AContext G ∷ xs) h = All-cons (ShiftIsAtMost greatest_part_shift) (AContext G) xs tt (shifts_fit xs h)

-- each node concludes what stands at its place
abbrev pub AllConclude : Contents → List ℕ → List Judgement → Type 0
AllConclude b = AllZip (λ k J. book_concludes b k ≡ Some J)

pub may_call : (s : Statement) (b : Contents) (parts premises : List ℕ) (things : List Thing) (claimed : Claimed trees) → StatesAt s things claimed → map kind_of things ≡ s.kinds → AreShort things → All SideHolds claimed.sides → meanings (book_means b) parts ≡ Some (take (length parts) things) → AllConclude b premises claimed.wants → MayCall s b parts premises things
may_call s b parts premises things claimed states kinds short sides mean said = record {
  parts_are = mean;
  premises_are = all_said (book_concludes b) premises claimed.wants said ∙ ap Some (sym states.wants);
  may_stand = record {
    kinds = kinds;
    shifts = shifts_fit things short;
    sides = subst (All SideHolds) (sym states.sides) sides;
  };
}

pub given : {s : Statement} {old : Contents} {parts premises : List ℕ} {things : List Thing} {claimed : Claimed trees} (new : Contents) (nodes : List ℕ) → Gives s old new parts premises nodes → MayCall s old parts premises things → StatesAt s things claimed → AllConclude new nodes claimed.gives
given {s} {old} {parts} {premises} {things} {claimed} new nodes gives call states = each_said (book_concludes new) nodes claimed.gives (gives things call ∙ ap Some states.gives)
