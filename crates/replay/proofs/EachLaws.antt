-- Lists of which each item means something, when more is known and when they grow.
use Rattle.std.proofs.Common.{◌≡◌, List, [], ◌∷◌, ◌++◌, refl, ap, Option, Some, map, Bool, true, false, ◌&&◌}
use Rattle.std.specs.Prelude.{is_some, unwrap_or}
use Rattle.std.specs.List.{list_all}

pub both_true : (a b : Bool) → (a && b) ≡ true → (a ≡ true) × (b ≡ true)
both_true true b e = (refl, e)
both_true false b e = cc

pub record Later {A B : Type 0} (f g : A → Option B) (d : B) (items : List A) : Type 0 where
  pub same : map (λ a. unwrap_or (g a) d) items ≡ map (λ a. unwrap_or (f a) d) items
  pub all : list_all (λ a. is_some (g a)) items ≡ true

-- what means something goes on to mean it
pub later : {A B : Type 0} (f g : A → Option B) (d : B) → ((a : A) → is_some (f a) ≡ true → g a ≡ f a) → (items : List A) → list_all (λ a. is_some (f a)) items ≡ true → Later f g d items
later f g d kept [] all = record { same = refl; all = refl }
later f g d kept (a ∷ items) all =
    let b = both_true (is_some (f a)) (list_all (λ a. is_some (f a)) items) all in
    let rest = later f g d kept items b.1 in
    record { same = rw (kept a b.0, rest.same) refl; all = rw (kept a b.0, b.0) rest.all }

-- one more
pub each_push : {A B : Type 0} (f : A → Option B) (d : B) (items : List A) (a : A) (b : B) → f a ≡ Some b → map (λ a. unwrap_or (f a) d) (items ++ a ∷ []) ≡ map (λ a. unwrap_or (f a) d) items ++ b ∷ []
each_push f d [] a b is = rw is refl
each_push f d (x ∷ items) a b is = ap (λ bs. unwrap_or (f x) d ∷ bs) (each_push f d items a b is)

pub all_push : {A B : Type 0} (f : A → Option B) (items : List A) (a : A) (b : B) → list_all (λ a. is_some (f a)) items ≡ true → f a ≡ Some b → list_all (λ a. is_some (f a)) (items ++ a ∷ []) ≡ true
all_push f [] a b all is = rw is refl
all_push f (x ∷ items) a b all is =
    let t = both_true (is_some (f x)) (list_all (λ a. is_some (f a)) items) all in
    rw t.0 (all_push f items a b t.1 is)
