-- What numbered rows mean: each a tree, a substitution or a context, or nothing.
use Rattle.std.specs.Prelude.{◌≡◌, ◌==◌, ℕ, List, [], ◌∷◌, length, Option}
use Rattle.std.specs.Prelude.{Some, None, option_and_then, cond}
use Rattle.trees.specs.declared.op.Op.{Op}
use Rattle.trees.specs.Operators.{kids_of}
use Rattle.trees.specs.declared.kind.PartKind.{PartKind}
use Rattle.trees.specs.declared.kind.PartKind.TheVariants as part
use Rattle.trees.specs.Trees.{Tree, Subst, Make, trees_of, apply, push, then}
use Rattle.trees.specs.Judgements.{Context, WithVar, WithName, WithFace}

pub data Thing : Type 0 where
  ATree : Tree → Thing
  ASubst : Subst → Thing
  AContext : Context → Thing

abbrev pub kind_of : Thing → PartKind
kind_of (ATree t) = part.Term
kind_of (ASubst d) = part.Subst
kind_of (AContext G) = part.Context

-- what each number means, where it means something
abbrev pub Meanings : Type 0
Meanings = ℕ → Option Thing

-- what a number means it goes on to mean
pub record Kept (old new : Meanings) : Type 0 where
  pub keeps : (k : ℕ) (x : Thing) → old k ≡ Some x → new k ≡ Some x

-- both, where both are there
abbrev pub both : {A B C : Type 0} → (A → B → Option C) → Option A → Option B → Option C
both f None y = None
both f (Some a) None = None
both f (Some a) (Some b) = f a b

abbrev pub consed : {A : Type 0} → A → List A → Option (List A)
consed a as' = Some (a ∷ as')

-- what all the numbers mean, where each means something
abbrev pub meanings : {A : Type 0} → (ℕ → Option A) → List ℕ → Option (List A)
meanings f [] = Some []
meanings f (k ∷ ks) = both consed (f k) (meanings f ks)

-- the trees among them, where all are trees
abbrev pub only_trees : List Thing → Option (List Tree)
only_trees [] = Some []
only_trees (ATree t ∷ xs) = option_and_then (λ ts. Some (t ∷ ts)) (only_trees xs)
only_trees (ASubst d ∷ xs) = None
only_trees (AContext G ∷ xs) = None

-- the operator over trees, where they are as many as its kids
abbrev pub over_kids : Op → List Tree → Option Thing
over_kids op ts = cond (length ts == kids_of op) (Some (ATree (Make op (trees_of ts)))) None

abbrev pub made : Op → List Thing → Option Thing
made op xs = option_and_then (over_kids op) (only_trees xs)

abbrev pub instance_of : Thing → Thing → Option Thing
instance_of (ATree t) (ASubst d) = Some (ATree (apply t d))
instance_of _ _ = None

abbrev pub pushed_on : Thing → Thing → Option Thing
pushed_on (ASubst d) (ATree t) = Some (ASubst (push d t))
pushed_on _ _ = None

abbrev pub then_of : Thing → Thing → Option Thing
then_of (ASubst d) (ASubst e) = Some (ASubst (then d e))
then_of _ _ = None

abbrev pub with_variable : Thing → Thing → Option Thing
with_variable (AContext G) (ATree t) = Some (AContext (WithVar G t))
with_variable _ _ = None

abbrev pub with_a_name : Thing → Option Thing
with_a_name (AContext G) = Some (AContext (WithName G))
with_a_name _ = None

abbrev pub with_a_face : Thing → Thing → Option Thing
with_a_face (AContext G) (ATree t) = Some (AContext (WithFace G t))
with_a_face _ _ = None
