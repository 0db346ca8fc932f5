-- What the rules of nodes say of the terms that they type.
use Rattle.std.specs.Prelude.{◌≡◌, ◌+◌, ℕ, zero, List, Some, slice_get}
use Rattle.trees.specs.Trees.{Tree, Var, Subst, apply}
use Rattle.trees.specs.Judgements.{Context}
use Rattle.trees.specs.Language.{Tm, TyEq, Sb}
use Rattle.book.specs.Contents.{Contents}
use Rattle.typed_nodes.specs.Typed.{Says}
use Rattle.literal_types.specs.Ways.{HasVariable}
use Rattle.literal_types.specs.Openings.{weight}
use Rattle.literal_terms.specs.declared.forms.Glued.{Glued}
use Rattle.literal_terms.specs.declared.origins.Origin.{Origin}
use Rattle.literal_terms.specs.declared.origins.Origin.TheVariants as origin
use Rattle.literal_terms.specs.Forms.{HasOther, IsFormed}

-- the nodes are these premises, in the order of the rule
abbrev pub ArePremises : List ℕ → Glued → Type 0
ArePremises ks g =
    (slice_get ks 0 ≡ Some g.base.0) × (slice_get ks 1 ≡ Some g.side.0)
    × (slice_get ks 2 ≡ Some g.equivalence.0) × (slice_get ks 3 ≡ Some g.inner.0)
    × (slice_get ks 4 ≡ Some g.outer.0) × (slice_get ks 5 ≡ Some g.agrees.0)

-- t of type S, by the rule of its node
abbrev pub Comes : Contents → Origin → Context → Tree → Tree → Type 0
Comes b (origin.Same term) K t S = Says b term (Tm K t S)
Comes b (origin.Converted term equation) K t S =
    (R : Tree) × Says b term (Tm K t R) × Says b equation (TyEq K R S)
Comes b (origin.Instance sub term) K t S =
    (d : Subst) × (G : Context) × (a A : Tree) × Says b sub (Sb K d G) × Says b term (Tm G a A)
    × (t ≡ apply a d) × (S ≡ apply A d)
Comes b origin.Variable K t S = (t ≡ Var zero) × HasVariable K zero S
Comes b (origin.Formed form) K t S = IsFormed b form K t S
Comes b origin.Other K t S = HasOther t

-- what is to be opened next
abbrev pub origin_weight : Origin → ℕ
origin_weight (origin.Same term) = weight term
origin_weight (origin.Converted term equation) = weight term
origin_weight (origin.Instance sub term) = weight sub + weight term
origin_weight origin.Variable = zero
origin_weight (origin.Formed form) = zero
origin_weight origin.Other = zero
