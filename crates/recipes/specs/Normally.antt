-- What the rows of a recipe make at parts of which nothing is known: things in normal form, and
-- what nodes conclude.
use Rattle.std.specs.Prelude.{ℕ, zero, suc, List, [], ◌∷◌, take, length, ◌==◌, cond}
use Rattle.std.specs.Prelude.{slice_get, Option, Some, None, option_and_then}
use Rattle.trees.specs.declared.op.Op.{Op}
use Rattle.trees.specs.Operators.{kids_of}
use Rattle.trees.specs.declared.kind.PartKind.{PartKind}
use Rattle.trees.specs.declared.kind.PartKind.TheVariants as part
use Rattle.trees.specs.Language.{Ctx, Ty, TyEq, Tm, TmEq, Sb}
use Rattle.trees.specs.Things.{both, meanings}
use Rattle.patterns.specs.Patterns.{ContextPart, Empty, AddVar, AddName, AddFace}
use Rattle.patterns.specs.Values.{Parts}
use Rattle.patterns.specs.Normals.{Normal, NormalSubst, NormalContext, NVar, NMake, NPart}
use Rattle.patterns.specs.Normals.{NShift, NPush, NRest, normals, normals_of, apply_normal, after}
use Rattle.patterns.specs.Tests.{NormalJudgement}
use Rattle.recipes.specs.declared.row.Row.{Row}
use Rattle.recipes.specs.declared.row.Row.TheVariants as row

pub data NormalThing : Type 0 where
  NTree : Normal → NormalThing
  NSubst : NormalSubst → NormalThing
  NContext : NormalContext → NormalThing

pub data NormalMade : Type 0 where
  NThing : NormalThing → NormalMade
  NNode : NormalJudgement → NormalMade

abbrev pub normal_kind : NormalThing → PartKind
normal_kind (NTree t) = part.Term
normal_kind (NSubst d) = part.Subst
normal_kind (NContext G) = part.Context

-- parts of these kinds from k on, of which nothing is known
abbrev pub unknown_from : ℕ → List PartKind → List NormalThing
unknown_from k [] = []
unknown_from k (part.Term ∷ kinds) = NTree (NPart k (NShift 0)) ∷ unknown_from (suc k) kinds
unknown_from k (part.Subst ∷ kinds) = NSubst (NRest 0 k (NShift 0)) ∷ unknown_from (suc k) kinds
unknown_from k (part.Context ∷ kinds) = NContext (ContextPart k) ∷ unknown_from (suc k) kinds

-- these things as parts, by their places

abbrev pub normal_tree_at : List NormalThing → ℕ → Normal
normal_tree_at (NTree t ∷ xs) zero = t
normal_tree_at (x ∷ xs) (suc k) = normal_tree_at xs k
normal_tree_at _ _ = NVar 0

abbrev pub normal_subst_at : List NormalThing → ℕ → NormalSubst
normal_subst_at (NSubst d ∷ xs) zero = d
normal_subst_at (x ∷ xs) (suc k) = normal_subst_at xs k
normal_subst_at _ _ = NShift 0

abbrev pub normal_context_at : List NormalThing → ℕ → NormalContext
normal_context_at (NContext G ∷ xs) zero = G
normal_context_at (x ∷ xs) (suc k) = normal_context_at xs k
normal_context_at _ _ = Empty

abbrev pub normal_parts : List NormalThing → Parts normals
normal_parts xs = record {
  tree = normal_tree_at xs;
  subst = normal_subst_at xs;
  context = normal_context_at xs;
}

abbrev pub only_normal_thing : NormalMade → Option NormalThing
only_normal_thing (NThing x) = Some x
only_normal_thing (NNode J) = None

abbrev pub only_normal_node : NormalMade → Option NormalJudgement
only_normal_node (NThing x) = None
only_normal_node (NNode J) = Some J

abbrev pub normal_at : List NormalMade → ℕ → Option NormalThing
normal_at known n = option_and_then only_normal_thing (slice_get known n)

abbrev pub normal_node_at : List NormalMade → ℕ → Option NormalJudgement
normal_node_at known n = option_and_then only_normal_node (slice_get known n)

abbrev pub normal_fields : NormalJudgement → List NormalThing
normal_fields (Ctx G) = NContext G ∷ []
normal_fields (Ty G A) = NContext G ∷ NTree A ∷ []
normal_fields (TyEq G A B) = NContext G ∷ NTree A ∷ NTree B ∷ []
normal_fields (Tm G a A) = NContext G ∷ NTree a ∷ NTree A ∷ []
normal_fields (TmEq G a b A) = NContext G ∷ NTree a ∷ NTree b ∷ NTree A ∷ []
normal_fields (Sb H d G) = NContext H ∷ NSubst d ∷ NContext G ∷ []

abbrev pub normal_field : ℕ → NormalJudgement → Option NormalThing
normal_field k J = slice_get (normal_fields J) k

-- the trees among them, where all are trees
abbrev pub only_normal_trees : List NormalThing → Option (List Normal)
only_normal_trees [] = Some []
only_normal_trees (NTree t ∷ xs) = option_and_then (λ ts. Some (t ∷ ts)) (only_normal_trees xs)
only_normal_trees (NSubst d ∷ xs) = None
only_normal_trees (NContext G ∷ xs) = None

abbrev pub over_normal_kids : Op → List Normal → Option NormalThing
over_normal_kids op ts =
    cond (length ts == kids_of op) (Some (NTree (NMake op (normals_of ts)))) None

abbrev pub normal_made : Op → List NormalThing → Option NormalThing
normal_made op xs = option_and_then (over_normal_kids op) (only_normal_trees xs)

abbrev pub normal_instance : NormalThing → NormalThing → Option NormalThing
normal_instance (NTree t) (NSubst d) = Some (NTree (apply_normal d t))
normal_instance _ _ = None

abbrev pub normal_pushed : NormalThing → NormalThing → Option NormalThing
normal_pushed (NSubst d) (NTree t) = Some (NSubst (NPush d t))
normal_pushed _ _ = None

abbrev pub normal_then : NormalThing → NormalThing → Option NormalThing
normal_then (NSubst d) (NSubst e) = Some (NSubst (after e d))
normal_then _ _ = None

abbrev pub normal_with_variable : NormalThing → NormalThing → Option NormalThing
normal_with_variable (NContext G) (NTree t) = Some (NContext (AddVar G t))
normal_with_variable _ _ = None

abbrev pub normal_with_name : NormalThing → Option NormalThing
normal_with_name (NContext G) = Some (NContext (AddName G))
normal_with_name _ = None

abbrev pub normal_with_face : NormalThing → NormalThing → Option NormalThing
normal_with_face (NContext G) (NTree t) = Some (NContext (AddFace G t))
normal_with_face _ _ = None

-- the thing that a row makes
abbrev pub built_normally : List NormalThing → List NormalMade → Row → Option NormalThing
built_normally parts known (row.Part k) = slice_get parts k
built_normally parts known (row.Field n k) =
    option_and_then (normal_field k) (normal_node_at known n)
built_normally parts known (row.Var k) = Some (NTree (NVar k))
built_normally parts known (row.Make op ks) =
    option_and_then (normal_made op) (meanings (normal_at known) (take (kids_of op) ks))
built_normally parts known (row.Instance t d) =
    both normal_instance (normal_at known t) (normal_at known d)
built_normally parts known (row.Shift n) = Some (NSubst (NShift n))
built_normally parts known (row.Push d t) =
    both normal_pushed (normal_at known d) (normal_at known t)
built_normally parts known (row.Then d e) =
    both normal_then (normal_at known d) (normal_at known e)
built_normally parts known row.Nil = Some (NContext Empty)
built_normally parts known (row.WithVar G t) =
    both normal_with_variable (normal_at known G) (normal_at known t)
built_normally parts known (row.WithName G) =
    option_and_then normal_with_name (normal_at known G)
built_normally parts known (row.WithFace G p) =
    both normal_with_face (normal_at known G) (normal_at known p)
built_normally parts known _ = None
