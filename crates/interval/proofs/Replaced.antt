-- A name replaced by an end.
use Rattle.std.proofs.Common.{◌≡◌, ◌≢◌, ℕ, ◌<◌, ◌+◌, ◌⊎◌, ⊎_elim, inl, inr, Bool, true, false, not, ◌||◌, List, [], ◌∷◌, ◌++◌, length, take, get_or, refl, sym, ◌∙◌, ap}
use Rattle.std.specs.List.{All, Contains, list_all}
use Rattle.std.proofs.lemmas.Bool.{false_from_ne_true, both_ways, cases_eq}
use Rattle.std.proofs.lemmas.List.Elements.{All-nil, All-push, All-contains}
use Rattle.std.proofs.lemmas.List.Folds.{list_any_more}
use Rattle.antichains.specs.Antichains.{IsWithin, IsWithout, some_all}
use Rattle.antichains.proofs.Members.{All-from_contains}
use Rattle.antichains.proofs.Truth.{same_truth, passes_at, passes_from, some_all-append}
use Rattle.points.specs.Values.{Valuation, with_value, end_value}
use Rattle.points.proofs.Valuations.{with_value_same, with_value_other}
use Rattle.interval.specs.declared.literals.Literal.{Literal}
use Rattle.interval.specs.Literals.{signed}
use Rattle.interval.specs.Forms.{form_value, LacksName}
use Rattle.interval.proofs.Laws.{or_false}
use Rattle.interval.proofs.Truths.{holds_under, stands_under, value_by_truths}

-- the literal of the name that is 1 at the end, and the one that is 0
abbrev pub one_at : ℕ → Bool → Literal
one_at name end = record { name = name; negated = not end }

abbrev pub zero_at : ℕ → Bool → Literal
zero_at name end = record { name = name; negated = end }

two_signs : (name : ℕ) (negated end : Bool) → (record { name = name; negated = negated } ≡ one_at name end) ⊎ (record { name = name; negated = negated } ≡ zero_at name end)
two_signs name true true = inr refl
two_signs name true false = inl refl
two_signs name false true = inl refl
two_signs name false false = inr refl

of_name : (literal : Literal) (name : ℕ) (end : Bool) → literal.name ≡ name → (literal ≡ one_at name end) ⊎ (literal ≡ zero_at name end)
of_name literal name end e =
    ⊎_elim
    (λ p. inl (p ∙ ap (λ n. one_at n end) e))
    (λ p. inr (p ∙ ap (λ n. zero_at n end) e))
    (two_signs literal.name literal.negated end)

-- the second test is the first with the name at the end
pub record Replaces (name : ℕ) (end : Bool) (before after : Literal → Bool) : Type 0 where
  pub one : after (one_at name end) ≡ true
  pub zero : after (zero_at name end) ≡ false
  pub others : (literal : Literal) → literal.name ≢ name → after literal ≡ before literal

replaces_holds : (name : ℕ) (end : Bool) (valuation : Valuation) → Replaces name end (holds_under valuation) (holds_under (with_value name (end_value end) valuation))
replaces_holds name end valuation = record {
  one = ap (λ v. (signed (not end) v).holds) (with_value_same name (end_value end) valuation) ∙ one_holds end;
  zero = ap (λ v. (signed end v).holds) (with_value_same name (end_value end) valuation) ∙ zero_holds end;
  others = λ literal n. ap (λ v. (signed literal.negated v).holds) (with_value_other name (end_value end) valuation literal.name n);
}
  where
    one_holds : (b : Bool) → (signed (not b) (end_value b)).holds ≡ true
    one_holds true = refl
    one_holds false = refl

    zero_holds : (b : Bool) → (signed b (end_value b)).holds ≡ false
    zero_holds true = refl
    zero_holds false = refl

replaces_stands : (name : ℕ) (end : Bool) (valuation : Valuation) → Replaces name end (stands_under valuation) (stands_under (with_value name (end_value end) valuation))
replaces_stands name end valuation = record {
  one = ap (λ v. not (signed (not end) v).fails) (with_value_same name (end_value end) valuation) ∙ one_stands end;
  zero = ap (λ v. not (signed end v).fails) (with_value_same name (end_value end) valuation) ∙ zero_fails end;
  others = λ literal n. ap (λ v. not (signed literal.negated v).fails) (with_value_other name (end_value end) valuation literal.name n);
}
  where
    one_stands : (b : Bool) → not (signed (not b) (end_value b)).fails ≡ true
    one_stands true = refl
    one_stands false = refl

    zero_fails : (b : Bool) → not (signed b (end_value b)).fails ≡ false
    zero_fails true = refl
    zero_fails false = refl

module _ (name : ℕ) (end : Bool) where
  -- what is left of a product without the literal that is 1 has the name no more
  rest_lacks : (product rest : List Literal) → IsWithout product (one_at name end) rest → (Contains product (zero_at name end) → ⊥) → (literal : Literal) → Contains rest literal → literal.name ≢ name
  rest_lacks product rest w none literal c e =
      ⊎_elim
      (λ o. w.gone (rw o at c))
      (λ z. none (rw z at (w.from.each literal c)))
      (of_name literal name end e)

  kept_product : (before after : Literal → Bool) → Replaces name end before after → (product rest : List Literal) → IsWithout product (one_at name end) rest → (Contains product (zero_at name end) → ⊥) → list_all before rest ≡ list_all after product
  kept_product before after r product rest w none =
      same_truth (list_all before rest) (list_all after product)
      (λ h. passes_from after product (λ literal c.
      ⊎_elim
      (λ e.
      ⊎_elim
      (λ o. ap after o ∙ r.one)
      (λ z. absurd (none (rw z at c)))
      (of_name literal name end e))
      (λ n. r.others literal n ∙ passes_at before rest literal h (w.kept literal c (λ o. n (ap (λ (l : Literal). l.name) o))))
      (cases_eq literal.name name)))
      (λ h. passes_from before rest (λ literal c. sym (r.others literal (rest_lacks product rest w none literal c)) ∙ passes_at after product literal h (w.from.each literal c)))

  lost_product : (before after : Literal → Bool) → Replaces name end before after → (product : List Literal) → Contains product (zero_at name end) → list_all after product ≡ false
  lost_product before after r product c =
      false_from_ne_true (list_all after product) (λ h. both_ways (after (zero_at name end)) r.zero (passes_at after product (zero_at name end) h c))

  -- the products so far say what the first ones say with the name at the end
  pub record IsReplacing (done form : List (List Literal)) : Type 0 where
    pub truth : (before after : Literal → Bool) → Replaces name end before after → some_all before done ≡ some_all after form
    pub lacks : LacksName name done

  pub replacing_none : IsReplacing [] []
  replacing_none = record { truth = λ before after r. refl; lacks = All-nil (All (λ literal. literal.name ≢ name)) }

  pub replacing_kept : (done new form : List (List Literal)) (i : ℕ) (product rest : List Literal) → IsReplacing done (take i form) → i < length form → product ≡ get_or form i product → IsWithout product (one_at name end) rest → (Contains product (zero_at name end) → ⊥) → new ≡ done ++ rest ∷ [] → IsReplacing new (take (i + 1) form)
  replacing_kept done new form i product rest p l e w none n = record {
    truth = λ before after r.
        ap (some_all before) n
        ∙ some_all-append before done (rest ∷ [])
        ∙ ap (λ b. some_all before done || b) (or_false (list_all before rest))
        ∙ ap (λ b. b || list_all before rest) (p.truth before after r)
        ∙ ap (λ b. some_all after (take i form) || b) (kept_product before after r product rest w none ∙ ap (list_all after) e)
        ∙ sym (list_any_more (list_all after) form i product l);
    lacks = rw n
        (All-push (All (λ literal. literal.name ≢ name)) done rest p.lacks
        (All-from_contains (λ literal. literal.name ≢ name) rest (rest_lacks product rest w none)));
  }

  pub replacing_lost : (done form : List (List Literal)) (i : ℕ) (product : List Literal) → IsReplacing done (take i form) → i < length form → product ≡ get_or form i product → Contains product (zero_at name end) → IsReplacing done (take (i + 1) form)
  replacing_lost done form i product p l e c = record {
    truth = λ before after r.
        p.truth before after r
        ∙ sym (or_false (some_all after (take i form)))
        ∙ ap (λ b. some_all after (take i form) || b) (sym (lost_product before after r product c) ∙ ap (list_all after) e)
        ∙ sym (list_any_more (list_all after) form i product l);
    lacks = p.lacks;
  }

  pub replaced_value : (done form : List (List Literal)) (valuation : Valuation) → IsReplacing done form → form_value done valuation ≡ form_value form (with_value name (end_value end) valuation)
  replaced_value done form valuation p =
      value_by_truths done form valuation (with_value name (end_value end) valuation)
      (p.truth (holds_under valuation) (holds_under (with_value name (end_value end) valuation)) (replaces_holds name end valuation))
      (p.truth (stands_under valuation) (stands_under (with_value name (end_value end) valuation)) (replaces_stands name end valuation))

pub LacksName-within : (name : ℕ) (form done : List (List Literal)) → IsWithin form done → LacksName name done → LacksName name form
LacksName-within name form done w h =
    All-from_contains (All (λ literal. literal.name ≢ name)) form
    (λ product c. All-contains (All (λ literal. literal.name ≢ name)) done product h (w.each product c))
