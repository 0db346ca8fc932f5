-- Uses of the rules by which derivations grow.
use Rattle.std.proofs.Common.{◌≡◌, ℕ, List, [], ◌∷◌, length, refl, sym, ◌∙◌, ap, subst, Some}
use Rattle.std.specs.Prelude.{slice_index}
use Rattle.std.proofs.lemmas.List.Elements.{All-nil, All-cons}
use Rattle.theory.specs.declared.rule.RuleName.TheVariants.{Pi}
use Rattle.theory.specs.declared.rule.PiRule.TheVariants.{App}
use Rattle.conditions.specs.Sides.{SideHolds}
use Rattle.trees.specs.Trees.{Tree, Var}
use Rattle.trees.specs.Judgements.{Judgement, trees}
use Rattle.trees.specs.Things.{Thing, ATree, AContext, meanings}
use Rattle.trees.proofs.Meanings.{meanings-length, meanings-at}
use Rattle.rules.specs.Rules.{rule_at}
use Rattle.rules.specs.Shifts.{ShiftFits, ShiftsFit}
use Rattle.rules.specs.Table.{nat, app}
use Rattle.book.specs.Contents.{Contents}
use Rattle.book.specs.Right.{IsUse}
use Rattle.book.specs.Shown.{book_means, book_concludes}
use Rattle.book_tests.specs.Stated.{of_variables, function_said, number_said}

-- a list of two nodes

pub record Two (b : Contents) (ks : List ℕ) (J K : Judgement) : Type 0 where
  pub count : length ks ≡ 2
  pub first : book_concludes b (slice_index ks 0) ≡ Some J
  pub second : book_concludes b (slice_index ks 1) ≡ Some K

pub two : (b : Contents) (ks : List ℕ) (J K : Judgement) → meanings (book_concludes b) ks ≡ Some (J ∷ K ∷ []) → Two b ks J K
two b ks J K e = record {
  count = meanings-length (book_concludes b) ks (J ∷ K ∷ []) e;
  first = meanings-at (book_concludes b) ks (J ∷ K ∷ []) e 0 J refl;
  second = meanings-at (book_concludes b) ks (J ∷ K ∷ []) e 1 K refl;
}

-- a function at a number

module _ (b : Contents) (function number : ℕ) (t : Tree) (g h n ty : ℕ) (g_is : book_means b g ≡ Some (AContext (of_variables trees))) (h_is : book_means b h ≡ Some (ATree (Var 1))) (n_is : book_means b n ≡ Some (ATree t)) (ty_is : book_means b ty ≡ Some (ATree (nat trees))) (parts : List ℕ) (are : parts ≡ g ∷ h ∷ n ∷ ty ∷ ty ∷ []) where
  parts-are : meanings (book_means b) parts ≡ Some (AContext (of_variables trees) ∷ ATree (Var 1) ∷ ATree t ∷ ATree (nat trees) ∷ ATree (nat trees) ∷ [])
  parts-are = ap (meanings (book_means b)) are ∙ rw (g_is, h_is, n_is, ty_is) refl

  pub app-use : (premises : List ℕ) → premises ≡ function ∷ number ∷ [] → book_concludes b function ≡ Some function_said → book_concludes b number ≡ Some (number_said t) → IsUse (book_means b) (book_concludes b) (Pi App) parts premises (number_said (app trees (Var 1) t))
  unfolding rule_at
  app-use premises ones d e = record {
    things = AContext (of_variables trees) ∷ ATree (Var 1) ∷ ATree t ∷ ATree (nat trees) ∷ ATree (nat trees) ∷ [];
    judgements = function_said ∷ number_said t ∷ [];
    parts_are = parts-are;
    premises_are = ap (meanings (book_concludes b)) ones ∙ rw (d, e) refl;
    instance = record { rule = _; is = refl; wants = refl; sides = All-nil SideHolds; gives = refl };
  }

  pub app-shifts : ShiftsFit (meanings (book_means b) parts)
  app-shifts =
      let A : Thing = ATree (nat trees) in
      subst ShiftsFit (sym parts-are) (All-cons ShiftFits (AContext (of_variables trees)) (ATree (Var 1) ∷ ATree t ∷ A ∷ A ∷ []) tt (All-cons ShiftFits (ATree (Var 1)) (ATree t ∷ A ∷ A ∷ []) tt (All-cons ShiftFits (ATree t) (A ∷ A ∷ []) tt (All-cons ShiftFits A (A ∷ []) tt (All-cons ShiftFits A [] tt (All-nil ShiftFits))))))
