-- What an option that is there gives.
use Rattle.std.proofs.Common.{◌≡◌, Option, Some, None, IsSome, refl}
use Rattle.trees.specs.Things.{both}

pub record SomeOf {A : Type 0} (o : Option A) : Type 0 where
  pub value : A
  pub is : o ≡ Some value

-- an option that is Some gives its value
pub some_of : {A : Type 0} (o : Option A) → IsSome o → SomeOf o
some_of None some = cc
some_of (Some x) some = record { value = x; is = refl }

pub record BothOf {A B C : Type 0} (f : A → B → Option C) (o : Option A) (p : Option B) (z : C) : Type 0 where
  pub left : A
  pub right : B
  pub left_is : o ≡ Some left
  pub right_is : p ≡ Some right
  pub gives : f left right ≡ Some z

-- what is made of two options gives both values
pub both_of_some : {A B C : Type 0} (f : A → B → Option C) (o : Option A) (p : Option B) (z : C) → both f o p ≡ Some z → BothOf f o p z
both_of_some f None p z e = cc
both_of_some f (Some x) None z e = cc
both_of_some f (Some x) (Some y) z e = record { left = x; right = y; left_is = refl; right_is = refl; gives = e }
