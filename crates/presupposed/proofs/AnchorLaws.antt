-- Uses of the rules of equality at rows.
use Rattle.std.proofs.Common.{◌≡◌, ℕ, List, [], ◌∷◌, refl, ◌∙◌, ap, subst, sym, Some}
use Rattle.std.proofs.lemmas.List.Elements.{All-nil, All-cons}
use Rattle.theory.specs.declared.rule.RuleName.TheVariants.{Equality}
use Rattle.theory.specs.declared.rule.EqualityRule.TheVariants.{TmConv, TyEqRefl}
use Rattle.conditions.specs.Sides.{SideHolds}
use Rattle.trees.specs.Trees.{Tree}
use Rattle.trees.specs.Judgements.{Context}
use Rattle.trees.specs.Language.{Ty, TyEq, Tm}
use Rattle.trees.specs.Things.{ATree, AContext, meanings}
use Rattle.rules.specs.Rules.{rule_at}
use Rattle.rules.specs.Shifts.{ShiftFits, ShiftsFit}
use Rattle.book.specs.Contents.{Contents}
use Rattle.book.specs.Right.{IsUse}
use Rattle.book.specs.Shown.{Extends, book_means, book_concludes}
use Rattle.book.specs.declared.kernel.NodeId.{NodeId}
use Rattle.typed_nodes.proofs.CallLaws.{all_said}
use Rattle.presupposed.specs.Anchors.{IsReflexive}

module _ (b : Contents) (ctx tree : ℕ) (G : Context) (A : Tree) (is_ctx : book_means b ctx ≡ Some (AContext G)) (is_tree : book_means b tree ≡ Some (ATree A)) where
  two_parts : (parts : List ℕ) → parts ≡ ctx ∷ tree ∷ [] → meanings (book_means b) parts ≡ Some (AContext G ∷ ATree A ∷ [])
  two_parts parts are = ap (meanings (book_means b)) are ∙ all_said (book_means b) (ctx ∷ tree ∷ []) (AContext G ∷ ATree A ∷ []) (is_ctx, (is_tree, tt))

  pub refl-use : (parts premises : List ℕ) (ty : ℕ) → parts ≡ ctx ∷ tree ∷ [] → premises ≡ ty ∷ [] → book_concludes b ty ≡ Some (Ty G A) → IsUse (book_means b) (book_concludes b) (Equality TyEqRefl) parts premises (TyEq G A A)
  unfolding rule_at
  refl-use parts premises ty are of says = record {
    things = AContext G ∷ ATree A ∷ [];
    judgements = Ty G A ∷ [];
    parts_are = two_parts parts are;
    premises_are = ap (meanings (book_concludes b)) of ∙ all_said (book_concludes b) (ty ∷ []) (Ty G A ∷ []) (says, tt);
    instance = record { rule = _; is = refl; wants = refl; sides = All-nil SideHolds; gives = refl };
  }

  pub refl-shifts : (parts : List ℕ) → parts ≡ ctx ∷ tree ∷ [] → ShiftsFit (meanings (book_means b) parts)
  refl-shifts parts are = subst ShiftsFit (sym (two_parts parts are)) (All-cons ShiftFits (AContext G) (ATree A ∷ []) tt (All-cons ShiftFits (ATree A) [] tt (All-nil ShiftFits)))

module _ (b : Contents) (ctx term tree : ℕ) (G : Context) (a A : Tree) (is_ctx : book_means b ctx ≡ Some (AContext G)) (is_term : book_means b term ≡ Some (ATree a)) (is_tree : book_means b tree ≡ Some (ATree A)) where
  four_parts : (parts : List ℕ) → parts ≡ ctx ∷ term ∷ tree ∷ tree ∷ [] → meanings (book_means b) parts ≡ Some (AContext G ∷ ATree a ∷ ATree A ∷ ATree A ∷ [])
  four_parts parts are = ap (meanings (book_means b)) are ∙ all_said (book_means b) (ctx ∷ term ∷ tree ∷ tree ∷ []) (AContext G ∷ ATree a ∷ ATree A ∷ ATree A ∷ []) (is_ctx, (is_term, (is_tree, (is_tree, tt))))

  pub conv-use : (parts premises : List ℕ) (typing same : ℕ) → parts ≡ ctx ∷ term ∷ tree ∷ tree ∷ [] → premises ≡ typing ∷ same ∷ [] → book_concludes b typing ≡ Some (Tm G a A) → book_concludes b same ≡ Some (TyEq G A A) → IsUse (book_means b) (book_concludes b) (Equality TmConv) parts premises (Tm G a A)
  unfolding rule_at
  conv-use parts premises typing same are of says equal = record {
    things = AContext G ∷ ATree a ∷ ATree A ∷ ATree A ∷ [];
    judgements = Tm G a A ∷ TyEq G A A ∷ [];
    parts_are = four_parts parts are;
    premises_are = ap (meanings (book_concludes b)) of ∙ all_said (book_concludes b) (typing ∷ same ∷ []) (Tm G a A ∷ TyEq G A A ∷ []) (says, (equal, tt));
    instance = record { rule = _; is = refl; wants = refl; sides = All-nil SideHolds; gives = refl };
  }

  pub conv-shifts : (parts : List ℕ) → parts ≡ ctx ∷ term ∷ tree ∷ tree ∷ [] → ShiftsFit (meanings (book_means b) parts)
  conv-shifts parts are =
      subst ShiftsFit (sym (four_parts parts are)) (All-cons ShiftFits (AContext G) (ATree a ∷ ATree A ∷ ATree A ∷ []) tt (All-cons ShiftFits (ATree a) (ATree A ∷ ATree A ∷ []) tt (All-cons ShiftFits (ATree A) (ATree A ∷ []) tt (All-cons ShiftFits (ATree A) [] tt (All-nil ShiftFits)))))

-- what made a node made it where the book has grown
pub reflexive_grows : (b c : Contents) (node ty : NodeId) → Extends b c → IsReflexive b node ty → IsReflexive c node ty
reflexive_grows b c node ty grown is =
    let (parts, m) = is in
    (parts, record { node = m.node; is = grown.nodes node.0 m.node m.is; rule_is = m.rule_is; parts_are = m.parts_are; premises_are = m.premises_are })
