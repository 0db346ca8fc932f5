-- The two parts of a form's value as truths of its list of products.
use Rattle.std.proofs.Common.{◌≡◌, Bool, true, false, not, ◌&&◌, ◌||◌, List, [], ◌∷◌, refl, sym, ◌∙◌, ap}
use Rattle.std.specs.List.{list_all}
use Rattle.antichains.specs.Antichains.{some_all, HaveSameTruth}
use Rattle.points.specs.Values.{Valuation, meet, join}
use Rattle.interval.specs.declared.literals.Literal.{Literal}
use Rattle.interval.specs.Literals.{literal_value}
use Rattle.interval.specs.Forms.{product_value, form_value}
use Rattle.interval.proofs.Laws.{same_value}

-- whether a literal holds, and whether it does not fail
abbrev pub holds_under : Valuation → Literal → Bool
holds_under valuation literal = (literal_value literal valuation).holds

abbrev pub stands_under : Valuation → Literal → Bool
stands_under valuation literal = not (literal_value literal valuation).fails

not-or : (a b : Bool) → not (a || b) ≡ (not a && not b)
not-or true b = refl
not-or false b = refl

not-and : (a b : Bool) → not (a && b) ≡ (not a || not b)
not-and true b = refl
not-and false b = refl

not-not : (b : Bool) → not (not b) ≡ b
not-not true = refl
not-not false = refl

product_holds : (product : List Literal) (valuation : Valuation) → (product_value product valuation).holds ≡ list_all (holds_under valuation) product
product_holds [] valuation = refl
product_holds (l ∷ rest) valuation = ap (λ b. holds_under valuation l && b) (product_holds rest valuation)

product_fails : (product : List Literal) (valuation : Valuation) → (product_value product valuation).fails ≡ not (list_all (stands_under valuation) product)
product_fails [] valuation = refl
product_fails (l ∷ rest) valuation =
    ap (λ b. (literal_value l valuation).fails || b) (product_fails rest valuation)
    ∙ ap (λ b. b || not (list_all (stands_under valuation) rest)) (sym (not-not (literal_value l valuation).fails))
    ∙ sym (not-and (stands_under valuation l) (list_all (stands_under valuation) rest))

pub form_holds : (form : List (List Literal)) (valuation : Valuation) → (form_value form valuation).holds ≡ some_all (holds_under valuation) form
form_holds [] valuation = refl
form_holds (p ∷ rest) valuation =
    ap (λ b. b || (form_value rest valuation).holds) (product_holds p valuation)
    ∙ ap (λ b. list_all (holds_under valuation) p || b) (form_holds rest valuation)

pub form_fails : (form : List (List Literal)) (valuation : Valuation) → (form_value form valuation).fails ≡ not (some_all (stands_under valuation) form)
form_fails [] valuation = refl
form_fails (p ∷ rest) valuation =
    ap (λ b. b && (form_value rest valuation).fails) (product_fails p valuation)
    ∙ ap (λ b. not (list_all (stands_under valuation) p) && b) (form_fails rest valuation)
    ∙ sym (not-or (list_all (stands_under valuation) p) (some_all (stands_under valuation) rest))

-- a value told by the truths of another list, under tests that may be others
pub value_by_truths : (form other : List (List Literal)) (valuation under : Valuation) → some_all (holds_under valuation) form ≡ some_all (holds_under under) other → some_all (stands_under valuation) form ≡ some_all (stands_under under) other → form_value form valuation ≡ form_value other under
value_by_truths form other valuation under h s =
    same_value (form_value form valuation) (form_value other under)
    (form_holds form valuation ∙ h ∙ sym (form_holds other under))
    (form_fails form valuation ∙ ap not s ∙ sym (form_fails other under))

pub value_from_truth : (form other : List (List Literal)) (valuation : Valuation) → HaveSameTruth form other → form_value form valuation ≡ form_value other valuation
value_from_truth form other valuation same =
    value_by_truths form other valuation valuation (same (holds_under valuation)) (same (stands_under valuation))

pub join_value : (form left right : List (List Literal)) (valuation : Valuation) → ((test : Literal → Bool) → some_all test form ≡ (some_all test left || some_all test right)) → form_value form valuation ≡ join (form_value left valuation) (form_value right valuation)
join_value form left right valuation both =
    same_value (form_value form valuation) (join (form_value left valuation) (form_value right valuation))
    (rw (form_holds left valuation, form_holds right valuation) (form_holds form valuation ∙ both (holds_under valuation)))
    (rw (form_fails left valuation, form_fails right valuation)
    (form_fails form valuation
    ∙ ap not (both (stands_under valuation))
    ∙ not-or (some_all (stands_under valuation) left) (some_all (stands_under valuation) right)))

pub meet_value : (form left right : List (List Literal)) (valuation : Valuation) → ((test : Literal → Bool) → some_all test form ≡ (some_all test left && some_all test right)) → form_value form valuation ≡ meet (form_value left valuation) (form_value right valuation)
meet_value form left right valuation both =
    same_value (form_value form valuation) (meet (form_value left valuation) (form_value right valuation))
    (rw (form_holds left valuation, form_holds right valuation) (form_holds form valuation ∙ both (holds_under valuation)))
    (rw (form_fails left valuation, form_fails right valuation)
    (form_fails form valuation
    ∙ ap not (both (stands_under valuation))
    ∙ not-and (some_all (stands_under valuation) left) (some_all (stands_under valuation) right)))
