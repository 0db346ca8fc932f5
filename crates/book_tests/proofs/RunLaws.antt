-- What wants nothing may be run over each book, and nodes are read.
use Rattle.std.proofs.Common.{◌≡◌, ℕ, ◌<◌, List, [], ◌∷◌, length, map, take, refl, sym, ap, subst, arith, Some}
use Rattle.std.proofs.lemmas.List.Elements.{All-nil, All-cons}
use Rattle.std.specs.List.{All}
use Rattle.std.specs.Prelude.{slice_index, option_and_then}
use Rattle.trees.specs.declared.op.Op.{Op}
use Rattle.trees.specs.Judgements.{Judgement, trees}
use Rattle.trees.specs.Things.{Thing, AContext, ASubst, Meanings, made, meanings}
use Rattle.trees.specs.Claimed.{claimed}
use Rattle.trees.specs.Claims.{rows_of}
use Rattle.trees.specs.declared.claim.Claim.{Claim}
use Rattle.trees.proofs.Meanings.{meanings-length, meanings-at}
use Rattle.patterns.specs.Values.{parts_of, judgement_of, condition_of}
use Rattle.conditions.specs.Sides.{SideHolds}
use Rattle.book.specs.Contents.{Contents}
use Rattle.book.specs.Shown.{book_means, book_concludes}
use Rattle.recipes.specs.declared.row.Row.{Row}
use Rattle.recipes.specs.Checks.{no_sides, IsSound}
use Rattle.recipes.specs.Made.{ShiftIsAtMost, greatest_part_shift}
use Rattle.recipes.specs.Statements.{Statement}
use Rattle.recipes.specs.Derivations.{Derives, MayStandAt, conclusions_at}
use Rattle.recipe_runner.specs.Running.{MayRun}
use Rattle.recipe_runner.proofs.RunLaws.{may-run}
use Rattle.book.specs.Tests.{things_in}
use Rattle.book.proofs.TestLaws.{claim-things, meanings-take}
use Rattle.book_tests.specs.Stated.{twice_statement, zeroing, zeroing_parts, number, to_zero}

pub no-sides-sound : IsSound no_sides
no-sides-sound v facts all c e = absurd (cc e)

pub may-try : (earlier : List Statement) (s : Statement) (rows : List Row) (outs : List ℕ) → s.kinds ≡ [] → s.wants ≡ [] → s.sides ≡ [] → Derives earlier s rows outs → (b : Contents) → MayRun earlier b rows outs [] [] (conclusions_at s [])
may-try earlier s rows outs kinds wants sides d b =
    may-run earlier b s rows outs [] [] [] d refl
    (record {
      kinds = sym kinds;
      shifts = All-nil (ShiftIsAtMost greatest_part_shift);
      sides = subst (λ cs. All SideHolds (map (condition_of (parts_of [])) cs)) (sym sides) (All-nil SideHolds);
    })
    (ap (λ js. Some (map (judgement_of (parts_of [])) js)) (sym wants))

-- an operator over one row or two

pub made-of-one : (f : Meanings) (op : Op) (k : ℕ) (x : Thing) → f k ≡ Some x → option_and_then (made op) (meanings f (k ∷ [])) ≡ made op (x ∷ [])
made-of-one f op k x e = rw e refl

pub made-of-two : (f : Meanings) (op : Op) (j k : ℕ) (x y : Thing) → f j ≡ Some x → f k ≡ Some y → option_and_then (made op) (meanings f (j ∷ k ∷ [])) ≡ made op (x ∷ y ∷ [])
made-of-two f op j k x y d e = rw (d, e) refl

-- a list of nodes that conclude something

pub record First (b : Contents) (ks : List ℕ) (J : Judgement) : Type 0 where
  pub some : 0 < length ks
  pub concludes : book_concludes b (slice_index ks 0) ≡ Some J

pub first : (b : Contents) (ks : List ℕ) (J : Judgement) → meanings (book_concludes b) ks ≡ Some (J ∷ []) → First b ks J
first b ks J e =
    let count : length ks ≡ 1 = meanings-length (book_concludes b) ks (J ∷ []) e in
    record {
      some = omega (arith, count);
      concludes = meanings-at (book_concludes b) ks (J ∷ []) e 0 J refl;
    }

-- the parts of a substitution that is done twice: the first two rows of its claim
pub parts-there : (b : Contents) (claim : Claim) → claimed (book_means b) claim ≡ Some zeroing → meanings (book_means b) (take 2 (rows_of claim)) ≡ Some zeroing_parts
parts-there b claim e = meanings-take (book_means b) 2 (rows_of claim) (things_in zeroing) (claim-things (book_means b) claim zeroing e)

pub claim-places : (b : Contents) (claim : Claim) (J : Judgement) → claimed (book_means b) claim ≡ Some J → length (rows_of claim) ≡ length (things_in J)
claim-places b claim J e = meanings-length (book_means b) (rows_of claim) (things_in J) (claim-things (book_means b) claim J e)

small-shift : ShiftIsAtMost greatest_part_shift (ASubst (to_zero trees))
small-shift = let e : (to_zero trees).shift ≡ 1 = refl in omega (arith, e)

twice-stands : MayStandAt twice_statement zeroing_parts
twice-stands = record {
  kinds = refl;
  shifts = All-cons (ShiftIsAtMost greatest_part_shift) (AContext (number trees)) (ASubst (to_zero trees) ∷ []) tt (All-cons (ShiftIsAtMost greatest_part_shift) (ASubst (to_zero trees)) [] small-shift (All-nil (ShiftIsAtMost greatest_part_shift)));
  sides = All-nil SideHolds;
}

pub may-do-twice : (b : Contents) (earlier : List Statement) (rows : List Row) (outs ks : List ℕ) (node : ℕ) → Derives earlier twice_statement rows outs → meanings (book_means b) ks ≡ Some zeroing_parts → book_concludes b node ≡ Some zeroing → MayRun earlier b rows outs ks (node ∷ []) (zeroing ∷ [])
may-do-twice b earlier rows outs ks node d parts_are concludes =
    may-run earlier b twice_statement rows outs ks (node ∷ []) zeroing_parts d parts_are twice-stands (rw concludes refl)
