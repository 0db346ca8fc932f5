-- How rules make the trees that they type.
use Rattle.std.specs.Prelude.{◌≡◌, ℕ, zero, suc, List, ◌∷◌, Bool, true, false}
use Rattle.trees.specs.declared.op.Op.{Op}
use Rattle.trees.specs.declared.op.Op.TheVariants as op
use Rattle.trees.specs.Trees.{Tree, Var, Make, Subst, apply}
use Rattle.trees.specs.Judgements.{Context, Nil, WithVar, WithName, WithFace, Judgement}
use Rattle.trees.specs.Judgements.{TreeRule, trees}
use Rattle.trees.specs.Language.{Ty, Tm, Sb}
use Rattle.rules.specs.Table.{at, i0, i1, pathp, weakened}
use Rattle.literal_types.specs.declared.ways.Way.{Way}
use Rattle.literal_types.specs.declared.ways.Way.TheVariants as way
use Rattle.literal_types.specs.Formed.{sized, former_tree}

-- the judgement types that tree in that context, as a type or a term
abbrev pub IsOf : Judgement → Context → Tree → Type 0
IsOf (Ty G A) K B = (G ≡ K) × (A ≡ B)
IsOf (Tm G a A) K B = (G ≡ K) × (a ≡ B)
IsOf _ K B = ⊥

-- P holds of the context and the tree of a typing
abbrev pub OfTyping : Judgement → (Context → Tree → Type 0) → Type 0
OfTyping (Ty G A) P = P G A
OfTyping (Tm G a A) P = P G a
OfTyping _ P = Unit {0}

-- the operator is none of types of functions, pairs and paths
abbrev pub is_other : Op → Bool
is_other op.Pi = false
is_other op.Sig = false
is_other op.PathP = false
is_other _ = true

-- the tree has an operator, and another one
abbrev pub has_other : Tree → Bool
has_other (Var k) = false
has_other (Make op kids) = is_other op

-- The context has a variable of that index, of this type. Variables and names take an index, faces
-- none.
abbrev pub HasVariable : Context → ℕ → Tree → Type 0
HasVariable Nil k B = ⊥
HasVariable (WithVar G A) zero B = B ≡ weakened trees A
HasVariable (WithVar G A) (suc k) B = (C : Tree) × HasVariable G k C × (B ≡ weakened trees C)
HasVariable (WithName G) zero B = ⊥
HasVariable (WithName G) (suc k) B = (C : Tree) × HasVariable G k C × (B ≡ weakened trees C)
HasVariable (WithFace G p) k B = HasVariable G k B

-- the tree of a typing, where a rule wants these premises for it
abbrev pub Follows : Way → List Judgement → Context → Tree → Type 0
Follows way.Same wants K A = (J : Judgement) × (Js : List Judgement) × (wants ≡ J ∷ Js) × IsOf J K A
Follows way.Instance wants K A =
    (d : Subst) × (G : Context) × (B : Tree) × (J : Judgement) × (Js : List Judgement)
    × (wants ≡ Sb K d G ∷ J ∷ Js) × IsOf J G B × (A ≡ apply B d)
Follows way.Variable wants K A = (B : Tree) × (A ≡ Var zero) × HasVariable K zero B
Follows (way.Family f s) wants K A =
    (B C : Tree) × (Js : List Judgement) × (wants ≡ sized s K B ∷ sized s (WithVar K B) C ∷ Js)
    × (A ≡ former_tree f B C)
Follows (way.Line s) wants K A =
    (B u v : Tree) × (Js : List Judgement)
    × (wants ≡ sized s (WithName K) B ∷ Tm K u (at trees B (i0 trees))
    ∷ Tm K v (at trees B (i1 trees)) ∷ Js)
    × (A ≡ pathp trees B u v)
Follows way.Other wants K A = has_other A ≡ true

-- where the rule concludes a typing, its tree is made so
abbrev pub IsWay : Way → TreeRule → Type 0
IsWay w r = OfTyping r.gives (Follows w r.wants)
