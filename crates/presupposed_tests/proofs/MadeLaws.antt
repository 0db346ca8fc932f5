-- What derivations without parts give.
use Rattle.std.proofs.Common.{◌≡◌, ◌<◌, ◌+◌, ℕ, zero, suc, List, [], refl, arith, Some}
use Rattle.std.specs.Prelude.{slice_index, slice_get}
use Rattle.std.proofs.lemmas.List.Elements.{All-nil}
use Rattle.trees.specs.Judgements.{Judgement, trees}
use Rattle.trees.specs.Language.{Tm}
use Rattle.trees.specs.Things.{meanings}
use Rattle.trees.proofs.Meanings.{meanings-at}
use Rattle.conditions.specs.Sides.{SideHolds}
use Rattle.recipes.specs.Derivations.{StatesAt}
use Rattle.book.specs.Contents.{Contents}
use Rattle.book.specs.Shown.{book_concludes}
use Rattle.typed_nodes.specs.Calls.{MayCall}
use Rattle.typed_nodes.proofs.StandLaws.{may_call}
use Rattle.presupposed_tests.specs.Derived.{conversions, conversions_statement, equal_numbers, equal_numbers_statement, made_and_used, made_and_used_statement, pushed_entry, pushed_entry_statement}
use Rattle.presupposed_tests.specs.Grown.{IsForm, IsTerm}

pub conversions_call : (b : Contents) → StatesAt conversions_statement [] (conversions trees) → MayCall conversions_statement b [] [] []
conversions_call b states = may_call conversions_statement b [] [] [] (conversions trees) states refl tt (All-nil SideHolds) refl tt

pub pushed_entry_call : (b : Contents) → StatesAt pushed_entry_statement [] (pushed_entry trees) → MayCall pushed_entry_statement b [] [] []
pushed_entry_call b states = may_call pushed_entry_statement b [] [] [] (pushed_entry trees) states refl tt (All-nil SideHolds) refl tt

pub made_and_used_call : (b : Contents) → StatesAt made_and_used_statement [] (made_and_used trees) → MayCall made_and_used_statement b [] [] []
made_and_used_call b states = may_call made_and_used_statement b [] [] [] (made_and_used trees) states refl tt (All-nil SideHolds) refl tt

pub equal_numbers_call : (b : Contents) → StatesAt equal_numbers_statement [] (equal_numbers trees) → MayCall equal_numbers_statement b [] [] []
equal_numbers_call b states = may_call equal_numbers_statement b [] [] [] (equal_numbers trees) states refl tt (All-nil SideHolds) refl tt

-- the terms that are forms, and those that use them, by place

at : (b : Contents) (ks : List ℕ) (k : ℕ) (J : Judgement) → meanings (book_concludes b) ks ≡ Some ((made_and_used trees).gives) → slice_get ((made_and_used trees).gives) k ≡ Some J → book_concludes b (slice_index ks k) ≡ Some J
at b ks k J e there = meanings-at (book_concludes b) ks ((made_and_used trees).gives) e k J there

pub made_at : (b : Contents) (ks : List ℕ) (k : ℕ) → meanings (book_concludes b) ks ≡ Some ((made_and_used trees).gives) → k < 3 → IsForm b (record { 0 = slice_index ks k })
made_at b ks zero e lt = (_, _, at b ks 0 (Tm _ _ _) e refl, refl)
made_at b ks (suc zero) e lt = (_, _, at b ks 1 (Tm _ _ _) e refl, refl)
made_at b ks (suc (suc zero)) e lt = (_, _, at b ks 2 (Tm _ _ _) e refl, refl)
made_at b ks (suc (suc (suc k))) e lt = absurd (omega (arith, lt))

pub used_at : (b : Contents) (ks : List ℕ) (k : ℕ) → meanings (book_concludes b) ks ≡ Some ((made_and_used trees).gives) → k < 4 → IsTerm b (record { 0 = slice_index ks (3 + k) })
used_at b ks zero e lt = (_, _, at b ks 3 (Tm _ _ _) e refl)
used_at b ks (suc zero) e lt = (_, _, at b ks 4 (Tm _ _ _) e refl)
used_at b ks (suc (suc zero)) e lt = (_, _, at b ks 5 (Tm _ _ _) e refl)
used_at b ks (suc (suc (suc zero))) e lt = (_, _, at b ks 6 (Tm _ _ _) e refl)
used_at b ks (suc (suc (suc (suc k)))) e lt = absurd (omega (arith, lt))
