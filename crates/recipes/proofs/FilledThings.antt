-- What rows make in normal form, filled in at parts, is what they make at these parts.
use Rattle.std.proofs.Common.{◌≡◌, ℕ, zero, suc, ◌+◌, ◌==◌, List, [], ◌∷◌, map, take, length, Bool, true, false, cond, refl, sym, ◌∙◌, ap, ap₂, add-zero, arith, Option, Some, None}
use Rattle.std.specs.Prelude.{slice_get, option_map, option_and_then}
use Rattle.std.proofs.lemmas.List.{length-map}
use Rattle.std.proofs.lemmas.Option.{slice_get-map}
use Rattle.trees.specs.declared.op.Op.{Op}
use Rattle.trees.specs.Operators.{kids_of}
use Rattle.trees.specs.declared.kind.PartKind.{PartKind}
use Rattle.trees.specs.declared.kind.PartKind.TheVariants as part
use Rattle.trees.specs.Language.{Ctx, Ty, TyEq, Tm, TmEq, Sb}
use Rattle.trees.specs.Trees.{Tree, Make as MakeTree, More, trees_of}
use Rattle.trees.specs.Judgements.{trees}
use Rattle.trees.specs.Things.{Thing, ATree, ASubst, AContext, kind_of, both, consed, meanings, only_trees, over_kids, made, instance_of, pushed_on, then_of, with_variable, with_a_name, with_a_face}
use Rattle.patterns.specs.Values.{Parts, parts_of, tree_at, subst_at, context_at}
use Rattle.patterns.specs.Normals.{Normal, NMake, normals_of}
use Rattle.patterns.specs.Fillings.{Fits, filled, filled_kids, filled_subst, filled_context, filled_judgement}
use Rattle.patterns.specs.Tests.{NormalJudgement}
use Rattle.patterns.proofs.NormalLaws.{filled-apply_normal, filled-after}
use Rattle.patterns.proofs.Soundness.{unknown-fits}
use Rattle.recipes.specs.declared.row.Row.{Row}
use Rattle.recipes.specs.declared.row.Row.TheVariants as row
use Rattle.recipes.specs.Made.{Made, AThing, ANode, only_thing, only_node, thing_at, node_at, fields_of, field_at, built_by}
use Rattle.recipes.specs.Normally.{NormalThing, NTree, NSubst, NContext, NormalMade, NThing, NNode, normal_kind, unknown_from, normal_tree_at, normal_subst_at, normal_context_at, normal_parts, only_normal_thing, only_normal_node, normal_at, normal_node_at, normal_fields, normal_field, only_normal_trees, over_normal_kids, normal_made, normal_instance, normal_pushed, normal_then, normal_with_variable, normal_with_name, normal_with_face, built_normally}

-- options that are mapped

consed-mapped : {A B : Type 0} (g : A → B) (o : Option A) (p : Option (List A)) → both consed (option_map g o) (option_map (map g) p) ≡ option_map (map g) (both consed o p)
consed-mapped g None p = refl
consed-mapped g (Some x) None = refl
consed-mapped g (Some x) (Some xs) = refl

pub meanings-mapped : {A B : Type 0} (g : A → B) (f : ℕ → Option A) (h : ℕ → Option B) → ((k : ℕ) → h k ≡ option_map g (f k)) → (ks : List ℕ) → meanings h ks ≡ option_map (map g) (meanings f ks)
meanings-mapped g f h e [] = refl
meanings-mapped g f h e (k ∷ ks) =
    ap₂ (both consed) (e k) (meanings-mapped g f h e ks) ∙ consed-mapped g (f k) (meanings f ks)

both-mapped : {A B : Type 0} (g : A → B) (F : A → A → Option A) (G : B → B → Option B) → ((x y : A) → G (g x) (g y) ≡ option_map g (F x y)) → (o p : Option A) → both G (option_map g o) (option_map g p) ≡ option_map g (both F o p)
both-mapped g F G e None p = refl
both-mapped g F G e (Some x) None = refl
both-mapped g F G e (Some x) (Some y) = e x y

then-mapped : {A B C D : Type 0} (g : A → B) (k : C → D) (F : A → Option C) (G : B → Option D) → ((x : A) → G (g x) ≡ option_map k (F x)) → (o : Option A) → option_and_then G (option_map g o) ≡ option_map k (option_and_then F o)
then-mapped g k F G e None = refl
then-mapped g k F G e (Some x) = e x

cond-mapped : {A B : Type 0} (g : A → B) (b : Bool) (o : Option A) → cond b (option_map g o) None ≡ option_map g (cond b o None)
cond-mapped g true o = refl
cond-mapped g false o = refl

module _ (v : Parts trees) where
  abbrev pub filled_thing : NormalThing → Thing
  filled_thing (NTree t) = ATree (filled v t)
  filled_thing (NSubst d) = ASubst (filled_subst v d)
  filled_thing (NContext G) = AContext (filled_context v G)

  abbrev pub filled_made : NormalMade → Made
  filled_made (NThing x) = AThing (filled_thing x)
  filled_made (NNode J) = ANode (filled_judgement v J)

  -- what earlier rows made

  only_thing-filled : (m : NormalMade) → only_thing (filled_made m) ≡ option_map filled_thing (only_normal_thing m)
  only_thing-filled (NThing x) = refl
  only_thing-filled (NNode J) = refl

  only_node-filled : (m : NormalMade) → only_node (filled_made m) ≡ option_map (filled_judgement v) (only_normal_node m)
  only_node-filled (NThing x) = refl
  only_node-filled (NNode J) = refl

  pub thing_at-filled : (known : List NormalMade) (n : ℕ) → thing_at (map filled_made known) n ≡ option_map filled_thing (normal_at known n)
  thing_at-filled known n =
      ap (option_and_then only_thing) (slice_get-map filled_made known n)
      ∙ then-mapped filled_made filled_thing only_normal_thing only_thing only_thing-filled (slice_get known n)

  pub node_at-filled : (known : List NormalMade) (n : ℕ) → node_at (map filled_made known) n ≡ option_map (filled_judgement v) (normal_node_at known n)
  node_at-filled known n =
      ap (option_and_then only_node) (slice_get-map filled_made known n)
      ∙ then-mapped filled_made (filled_judgement v) only_normal_node only_node only_node-filled (slice_get known n)

  pub things_at-filled : (known : List NormalMade) (ns : List ℕ) → meanings (thing_at (map filled_made known)) ns ≡ option_map (map filled_thing) (meanings (normal_at known) ns)
  things_at-filled known = meanings-mapped filled_thing (normal_at known) (thing_at (map filled_made known)) (thing_at-filled known)

  pub nodes_at-filled : (known : List NormalMade) (ns : List ℕ) → meanings (node_at (map filled_made known)) ns ≡ option_map (map (filled_judgement v)) (meanings (normal_node_at known) ns)
  nodes_at-filled known = meanings-mapped (filled_judgement v) (normal_node_at known) (node_at (map filled_made known)) (node_at-filled known)

  -- what is built of things

  fields-filled : (J : NormalJudgement) → fields_of (filled_judgement v J) ≡ map filled_thing (normal_fields J)
  fields-filled (Ctx G) = refl
  fields-filled (Ty G A) = refl
  fields-filled (TyEq G A B) = refl
  fields-filled (Tm G a A) = refl
  fields-filled (TmEq G a b A) = refl
  fields-filled (Sb H d G) = refl

  field-filled : (k : ℕ) (J : NormalJudgement) → field_at k (filled_judgement v J) ≡ option_map filled_thing (normal_field k J)
  field-filled k J = ap (λ xs. slice_get xs k) (fields-filled J) ∙ slice_get-map filled_thing (normal_fields J) k

  trees_of-filled : (ts : List Normal) → trees_of (map (filled v) ts) ≡ filled_kids v (normals_of ts)
  trees_of-filled [] = refl
  trees_of-filled (t ∷ ts) = ap (More (filled v t)) (trees_of-filled ts)

  only_trees-filled : (xs : List NormalThing) → only_trees (map filled_thing xs) ≡ option_map (map (filled v)) (only_normal_trees xs)
  only_trees-filled [] = refl
  only_trees-filled (NTree t ∷ xs) =
      ap (option_and_then (λ (ts : List Tree). Some (filled v t ∷ ts))) (only_trees-filled xs)
      ∙ then-mapped (map (filled v)) (map (filled v)) (λ (ts : List Normal). Some (t ∷ ts)) (λ (ts : List Tree). Some (filled v t ∷ ts)) (λ ts. refl) (only_normal_trees xs)
  only_trees-filled (NSubst d ∷ xs) = refl
  only_trees-filled (NContext G ∷ xs) = refl

  over_kids-filled : (op : Op) (ts : List Normal) → over_kids op (map (filled v) ts) ≡ option_map filled_thing (over_normal_kids op ts)
  over_kids-filled op ts =
      ap₂ (λ n us. cond (n == kids_of op) (Some (ATree (MakeTree op us))) None) (length-map ts (filled v)) (trees_of-filled ts)
      ∙ cond-mapped filled_thing (length ts == kids_of op) (Some (NTree (NMake op (normals_of ts))))

  made-filled : (op : Op) (xs : List NormalThing) → made op (map filled_thing xs) ≡ option_map filled_thing (normal_made op xs)
  made-filled op xs =
      ap (option_and_then (over_kids op)) (only_trees-filled xs)
      ∙ then-mapped (map (filled v)) filled_thing (over_normal_kids op) (over_kids op) (over_kids-filled op) (only_normal_trees xs)

  instance-filled : (x y : NormalThing) → instance_of (filled_thing x) (filled_thing y) ≡ option_map filled_thing (normal_instance x y)
  instance-filled (NTree t) (NTree u) = refl
  instance-filled (NTree t) (NSubst d) = ap (λ u. Some (ATree u)) (sym (filled-apply_normal v d t))
  instance-filled (NTree t) (NContext G) = refl
  instance-filled (NSubst d) y = refl
  instance-filled (NContext G) y = refl

  pushed-filled : (x y : NormalThing) → pushed_on (filled_thing x) (filled_thing y) ≡ option_map filled_thing (normal_pushed x y)
  pushed-filled (NSubst d) (NTree t) = refl
  pushed-filled (NSubst d) (NSubst e) = refl
  pushed-filled (NSubst d) (NContext G) = refl
  pushed-filled (NTree t) y = refl
  pushed-filled (NContext G) y = refl

  then-filled : (x y : NormalThing) → then_of (filled_thing x) (filled_thing y) ≡ option_map filled_thing (normal_then x y)
  then-filled (NSubst d) (NTree t) = refl
  then-filled (NSubst d) (NSubst e) = ap (λ f. Some (ASubst f)) (sym (filled-after v e d))
  then-filled (NSubst d) (NContext G) = refl
  then-filled (NTree t) y = refl
  then-filled (NContext G) y = refl

  variable-filled : (x y : NormalThing) → with_variable (filled_thing x) (filled_thing y) ≡ option_map filled_thing (normal_with_variable x y)
  variable-filled (NContext G) (NTree t) = refl
  variable-filled (NContext G) (NSubst d) = refl
  variable-filled (NContext G) (NContext H) = refl
  variable-filled (NTree t) y = refl
  variable-filled (NSubst d) y = refl

  name-filled : (x : NormalThing) → with_a_name (filled_thing x) ≡ option_map filled_thing (normal_with_name x)
  name-filled (NContext G) = refl
  name-filled (NTree t) = refl
  name-filled (NSubst d) = refl

  face-filled : (x y : NormalThing) → with_a_face (filled_thing x) (filled_thing y) ≡ option_map filled_thing (normal_with_face x y)
  face-filled (NContext G) (NTree t) = refl
  face-filled (NContext G) (NSubst d) = refl
  face-filled (NContext G) (NContext H) = refl
  face-filled (NTree t) y = refl
  face-filled (NSubst d) y = refl

  -- of two things that earlier rows made
  of_two : (F : NormalThing → NormalThing → Option NormalThing) (G : Thing → Thing → Option Thing) → ((x y : NormalThing) → G (filled_thing x) (filled_thing y) ≡ option_map filled_thing (F x y)) → (known : List NormalMade) (m n : ℕ) → both G (thing_at (map filled_made known) m) (thing_at (map filled_made known) n) ≡ option_map filled_thing (both F (normal_at known m) (normal_at known n))
  of_two F G e known m n =
      ap₂ (both G) (thing_at-filled known m) (thing_at-filled known n) ∙ both-mapped filled_thing F G e (normal_at known m) (normal_at known n)

  pub built-filled : (parts : List NormalThing) (known : List NormalMade) (r : Row) → built_by (map filled_thing parts) (map filled_made known) r ≡ option_map filled_thing (built_normally parts known r)
  built-filled parts known (row.Premise k) = refl
  built-filled parts known (row.Part k) = slice_get-map filled_thing parts k
  built-filled parts known (row.Field n k) =
      ap (option_and_then (field_at k)) (node_at-filled known n)
      ∙ then-mapped (filled_judgement v) filled_thing (normal_field k) (field_at k) (field-filled k) (normal_node_at known n)
  built-filled parts known (row.Var k) = refl
  built-filled parts known (row.Make op ks) =
      ap (option_and_then (made op)) (things_at-filled known (take (kids_of op) ks))
      ∙ then-mapped (map filled_thing) filled_thing (normal_made op) (made op) (made-filled op) (meanings (normal_at known) (take (kids_of op) ks))
  built-filled parts known (row.Instance t d) = of_two normal_instance instance_of instance-filled known t d
  built-filled parts known (row.Shift n) = refl
  built-filled parts known (row.Push d t) = of_two normal_pushed pushed_on pushed-filled known d t
  built-filled parts known (row.Then d e) = of_two normal_then then_of then-filled known d e
  built-filled parts known row.Nil = refl
  built-filled parts known (row.WithVar G t) = of_two normal_with_variable with_variable variable-filled known G t
  built-filled parts known (row.WithName G) =
      ap (option_and_then with_a_name) (thing_at-filled known G)
      ∙ then-mapped filled_thing filled_thing normal_with_name with_a_name name-filled (normal_at known G)
  built-filled parts known (row.WithFace G p) = of_two normal_with_face with_a_face face-filled known G p
  built-filled parts known (row.Conclude name ps ns) = refl
  built-filled parts known (row.Derive k ps ns) = refl

  -- things as parts

  parts-tree : (xs : List NormalThing) (k : ℕ) → filled v (normal_tree_at xs k) ≡ tree_at (map filled_thing xs) k
  parts-tree [] k = refl
  parts-tree (NTree t ∷ xs) zero = refl
  parts-tree (NSubst d ∷ xs) zero = refl
  parts-tree (NContext G ∷ xs) zero = refl
  parts-tree (NTree t ∷ xs) (suc k) = parts-tree xs k
  parts-tree (NSubst d ∷ xs) (suc k) = parts-tree xs k
  parts-tree (NContext G ∷ xs) (suc k) = parts-tree xs k

  parts-subst : (xs : List NormalThing) (k : ℕ) → filled_subst v (normal_subst_at xs k) ≡ subst_at (map filled_thing xs) k
  parts-subst [] k = refl
  parts-subst (NTree t ∷ xs) zero = refl
  parts-subst (NSubst d ∷ xs) zero = refl
  parts-subst (NContext G ∷ xs) zero = refl
  parts-subst (NTree t ∷ xs) (suc k) = parts-subst xs k
  parts-subst (NSubst d ∷ xs) (suc k) = parts-subst xs k
  parts-subst (NContext G ∷ xs) (suc k) = parts-subst xs k

  parts-context : (xs : List NormalThing) (k : ℕ) → filled_context v (normal_context_at xs k) ≡ context_at (map filled_thing xs) k
  parts-context [] k = refl
  parts-context (NTree t ∷ xs) zero = refl
  parts-context (NSubst d ∷ xs) zero = refl
  parts-context (NContext G ∷ xs) zero = refl
  parts-context (NTree t ∷ xs) (suc k) = parts-context xs k
  parts-context (NSubst d ∷ xs) (suc k) = parts-context xs k
  parts-context (NContext G ∷ xs) (suc k) = parts-context xs k

  pub parts-fit : (xs : List NormalThing) → Fits v (normal_parts xs) (parts_of (map filled_thing xs))
  parts-fit xs = record { tree = parts-tree xs; subst = parts-subst xs; context = parts-context xs }

  pub kinds-filled : (xs : List NormalThing) → map kind_of (map filled_thing xs) ≡ map normal_kind xs
  kinds-filled [] = refl
  kinds-filled (NTree t ∷ xs) = ap (λ ks. part.Term ∷ ks) (kinds-filled xs)
  kinds-filled (NSubst d ∷ xs) = ap (λ ks. part.Subst ∷ ks) (kinds-filled xs)
  kinds-filled (NContext G ∷ xs) = ap (λ ks. part.Context ∷ ks) (kinds-filled xs)

zero-plus : (k : ℕ) → 0 + k ≡ k
zero-plus k = omega arith

further : (i k : ℕ) → i + suc k ≡ suc i + k
further i k = omega arith

-- the parts from k on are these things
record IsFrom (v : Parts trees) (k : ℕ) (rest : List Thing) : Type 0 where
  tree : (i : ℕ) → v.tree (i + k) ≡ tree_at rest i
  subst : (i : ℕ) → v.subst (i + k) ≡ subst_at rest i
  context : (i : ℕ) → v.context (i + k) ≡ context_at rest i

unknown-from : (v : Parts trees) (k : ℕ) (kinds : List PartKind) (rest : List Thing) → map kind_of rest ≡ kinds → IsFrom v k rest → map (filled_thing v) (unknown_from k kinds) ≡ rest
unknown-from v k [] [] e from = refl
unknown-from v k [] (x ∷ rest) e from = cc
unknown-from v k (kind ∷ kinds) [] e from = cc
unknown-from v k (part.Term ∷ kinds) (ATree t ∷ rest) e from =
    ap₂ (λ u xs. ATree u ∷ xs) ((unknown-fits v).tree k ∙ sym (ap v.tree (zero-plus k)) ∙ from.tree 0)
    (unknown-from v (suc k) kinds rest (cc) (record {
      tree = λ i. ap v.tree (further i k) ∙ from.tree (suc i);
      subst = λ i. ap v.subst (further i k) ∙ from.subst (suc i);
      context = λ i. ap v.context (further i k) ∙ from.context (suc i);
    }))
unknown-from v k (part.Subst ∷ kinds) (ASubst d ∷ rest) e from =
    ap₂ (λ u xs. ASubst u ∷ xs) ((unknown-fits v).subst k ∙ sym (ap v.subst (zero-plus k)) ∙ from.subst 0)
    (unknown-from v (suc k) kinds rest (cc) (record {
      tree = λ i. ap v.tree (further i k) ∙ from.tree (suc i);
      subst = λ i. ap v.subst (further i k) ∙ from.subst (suc i);
      context = λ i. ap v.context (further i k) ∙ from.context (suc i);
    }))
unknown-from v k (part.Context ∷ kinds) (AContext G ∷ rest) e from =
    ap₂ (λ u xs. AContext u ∷ xs) (sym (ap v.context (zero-plus k)) ∙ from.context 0)
    (unknown-from v (suc k) kinds rest (cc) (record {
      tree = λ i. ap v.tree (further i k) ∙ from.tree (suc i);
      subst = λ i. ap v.subst (further i k) ∙ from.subst (suc i);
      context = λ i. ap v.context (further i k) ∙ from.context (suc i);
    }))
unknown-from v k (kind ∷ kinds) (x ∷ rest) e from = cc

pub unknown-filled : (parts : List Thing) (kinds : List PartKind) → map kind_of parts ≡ kinds → map (filled_thing (parts_of parts)) (unknown_from 0 kinds) ≡ parts
unknown-filled parts kinds e = unknown-from (parts_of parts) 0 kinds parts e (record {
  tree = λ i. ap (tree_at parts) (add-zero i);
  subst = λ i. ap (subst_at parts) (add-zero i);
  context = λ i. ap (context_at parts) (add-zero i);
})
