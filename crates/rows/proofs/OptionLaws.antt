-- Values that are there where what they are made of is there.
use Rattle.std.specs.Prelude.{option_and_then}
use Rattle.std.proofs.Common.{◌≡◌, refl, Option, Some, None}
use Rattle.trees.specs.Things.{both}

-- both are there
pub record Both {A B C : Type 0} (h : A → B → Option C) (o : Option A) (p : Option B) (x : C) : Type 0 where
  pub first : A
  pub second : B
  pub first_is : o ≡ Some first
  pub second_is : p ≡ Some second
  pub whole : h first second ≡ Some x

pub both-some : {A B C : Type 0} (h : A → B → Option C) (o : Option A) (p : Option B) (x : C) → both h o p ≡ Some x → Both h o p x
both-some h None p x e = cc
both-some h (Some a) None x e = cc
both-some h (Some a) (Some b) x e = record { first = a; second = b; first_is = refl; second_is = refl; whole = e }

pub record One {A B : Type 0} (h : A → Option B) (o : Option A) (x : B) : Type 0 where
  pub first : A
  pub first_is : o ≡ Some first
  pub whole : h first ≡ Some x

pub one-some : {A B : Type 0} (h : A → Option B) (o : Option A) (x : B) → option_and_then h o ≡ Some x → One h o x
one-some h None x e = cc
one-some h (Some a) x e = record { first = a; first_is = refl; whole = e }
