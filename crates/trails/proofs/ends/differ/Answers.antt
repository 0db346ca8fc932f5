use Rattle.std.proofs.Common.{◌≡◌, Bool, true, false, not, IsTrue, Some, refl, sym, ◌∙◌, rules}
use Rattle.book.proofs.FitLaws.{extends-trans}
use Rattle.trails.specs.declared.ends.Form.{Form}
use Rattle.trails.specs.contracts.ends.FormPartialEq.TheImpl.{eq-value}
use Rattle.trails.specs.Trails.{form_of}
use Rattle.trails.proofs.EndLaws.{forms-differ, differ-from}
use Rattle.trails.proofs.ends.differ.Goals as goal

equal : (x y : Form) → eq-value.it x y ≡ true → x ≡ y
equal = search rules

alike : (x y : Form) → x ≡ y → eq-value.it x y ≡ true
alike = search rules

told : (x y : Form) (b : Bool) → b ≡ not (eq-value.it x y) → (IsTrue b → x ≡ y → ⊥) × ((x ≡ y → ⊥) → IsTrue b)
told x y b e = from (eq-value.it x y) refl e
  where
    from : (v : Bool) → eq-value.it x y ≡ v → b ≡ not v → (IsTrue b → x ≡ y → ⊥) × ((x ≡ y → ⊥) → IsTrue b)
    from true is off = (λ yes same. cc, λ differ. absurd (differ (equal x y is)))
    from false is on = (λ yes same. let wrong = alike x y same in cc, λ differ. on)

pub returns-in_default-2-clause-extends : goal.returns-in_default-2-clause-extends
returns-in_default-2-clause-extends c = extends-trans _ _ _ c.in_ok-left.ensures.extends c.in_ok-right.ensures.extends

pub returns-clause-extends : goal.returns-clause-extends
returns-clause-extends c = extends-trans _ _ _ c.in_ok-left.ensures.extends c.in_ok-right.ensures.extends

pub returns-clause-differ : goal.returns-clause-differ
returns-clause-differ c = λ t u left right.
    let l : form_of t ≡ Some c.in-Some.left = sym (c.in_ok-left.ensures.form t left) ∙ c.in-Some.is in
    let r : form_of u ≡ Some c.in-Some-2.right = sym (c.in_ok-right.ensures.form u (c.in_ok-left.ensures.extends.rows.keeps _ _ right)) ∙ c.in-Some-2.is in
    let says = told c.in-Some.left c.in-Some-2.right c.ne.result c.ne.ensures in
    (λ yes. differ-from t u c.in-Some.left c.in-Some-2.right l r (says.0 yes), λ d. says.1 (forms-differ t u c.in-Some.left c.in-Some-2.right l r d))
