-- What a yes or no tells.
use Rattle.std.proofs.Common.{◌≡◌, ◌↔◌, Bool, true, false, IsTrue, refl, sym, ◌∙◌}

true-false : true ≡ false → ⊥
true-false e = cc

pub false-true : false ≡ true → ⊥
false-true e = cc

pub yes-is : {X : Type 0} (b : Bool) → IsTrue b ↔ X → b ≡ true → X
yes-is b tells told = tells.0 told

pub no-is : {X : Type 0} (b : Bool) → IsTrue b ↔ X → b ≡ false → X → ⊥
no-is b tells never x = true-false (sym (tells.1 x) ∙ never)

pub is-no : {X : Type 0} → (X → ⊥) → IsTrue false ↔ X
is-no never = (λ h. absurd (true-false (sym h)), λ x. absurd (never x))

pub is-yes : {X : Type 0} → X → IsTrue true ↔ X
is-yes x = (λ h. x, λ y. refl)

pub for-both : {X Y : Type 0} (b : Bool) → (X → Y) → (Y → X) → IsTrue b ↔ X → IsTrue b ↔ Y
for-both b to from tells = (λ h. to (tells.0 h), λ y. tells.1 (from y))
