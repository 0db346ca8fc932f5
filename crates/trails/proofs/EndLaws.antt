-- What questions of faces and formulas answer, at trees that rows mean.
use Rattle.std.proofs.Common.{◌≡◌, ◌↔◌, ℕ, cond, Bool, true, false, IsTrue, Option, Some, None, sym, ◌∙◌, ap, subst}
use Rattle.trees.specs.declared.op.Op.{Op}
use Rattle.trees.specs.Trees.{Tree, Trees, Var, Make}
use Rattle.trees.specs.Judgements.{Context, WithFace}
use Rattle.trees.specs.Things.{Thing, ATree, AContext}
use Rattle.conditions.specs.Sides.{is_face, HoldsIn}
use Rattle.side_conditions.specs.Shapes.{tree_of}
use Rattle.side_conditions.specs.Contexts.{context_of}
use Rattle.trails.specs.declared.ends.Form.{Form}
use Rattle.trails.specs.declared.ends.Form.TheVariants as form
use Rattle.trails.specs.Parts.{is_made}
use Rattle.trails.specs.Trails.{form_of, Differ, Follows}

pub follows-from : (b : Bool) (o x : Option Thing) (G : Context) (p q : Tree) → o ≡ Some (AContext (WithFace G p)) → x ≡ Some (ATree q) → (IsTrue b ↔ (IsTrue (is_face (context_of o) (tree_of x)) × HoldsIn (context_of o) (tree_of x))) → IsTrue b ↔ Follows G p q
follows-from b o x G p q ctx face told =
    subst (λ H. IsTrue b ↔ (IsTrue (is_face H q) × HoldsIn H q)) (ap context_of ctx)
    (subst (λ t. IsTrue b ↔ (IsTrue (is_face (context_of o) t) × HoldsIn (context_of o) t)) (ap tree_of face) told)

pub forms-differ : (t u : Tree) (a b : Form) → form_of t ≡ Some a → form_of u ≡ Some b → Differ t u → a ≡ b → ⊥
forms-differ t u a b left right d same =
    let l : a ≡ d.left = cc in
    let r : b ≡ d.right = cc in
    d.differ (sym l ∙ same ∙ r)

pub differ-from : (t u : Tree) (a b : Form) → form_of t ≡ Some a → form_of u ≡ Some b → (a ≡ b → ⊥) → Differ t u
differ-from t u a b left right never = record { left = a; right = b; left_is = left; right_is = right; differ = never }

pub variable-form : (t : Tree) (i : ℕ) → t ≡ Var i → Some (form.Variable i) ≡ form_of t
variable-form t i is = sym (ap form_of is)

pub made-form : (t : Tree) (op : Op) (ts : Trees) → t ≡ Make op ts → is_made op ≡ true → None ≡ form_of t
made-form t op ts is made = sym (ap form_of is ∙ ap (λ b. cond b None (Some (form.Operator op))) made)

pub open-form : (t : Tree) (op : Op) (ts : Trees) → t ≡ Make op ts → is_made op ≡ false → Some (form.Operator op) ≡ form_of t
open-form t op ts is made = sym (ap form_of is ∙ ap (λ b. cond b None (Some (form.Operator op))) made)
