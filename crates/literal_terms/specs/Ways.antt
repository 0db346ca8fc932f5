-- How rules make the terms that they type.
use Rattle.std.specs.Prelude.{◌≡◌, zero, List, [], ◌∷◌, true}
use Rattle.trees.specs.Trees.{Tree, Var, Subst, apply}
use Rattle.trees.specs.Judgements.{Context, WithVar, WithName, Judgement, TreeRule, trees}
use Rattle.trees.specs.Language.{Ty, Tm, TyEq, TmEq, Sb, IsFace}
use Rattle.rules.specs.Table.{at, i0, i1, glue, glue_type, glue_wants, lam, pair, pair_wants}
use Rattle.rules.specs.Table.{pathp, pi, plam, sig, universe}
use Rattle.literal_types.specs.Ways.{HasVariable}
use Rattle.literal_terms.specs.declared.ways.Way.{Way}
use Rattle.literal_terms.specs.declared.ways.Way.TheVariants as way
use Rattle.literal_terms.specs.Forms.{HasOther, is_type}

-- P holds of the context, the term and the type of a typing
abbrev pub OfTerm : Judgement → (Context → Tree → Tree → Type 0) → Type 0
OfTerm (Tm G a A) P = P G a A
OfTerm _ P = Unit {0}

-- the premises of plam
abbrev pub path_wants : Context → Tree → Tree → Tree → Tree → List Judgement
path_wants K A s u v =
    Tm (WithName K) s A
    ∷ TmEq K (at trees s (i0 trees)) u (at trees A (i0 trees))
    ∷ TmEq K (at trees s (i1 trees)) v (at trees A (i1 trees))
    ∷ []

-- the term of a typing and its type, where the rule is the one that typed it
abbrev pub Follows : Way → TreeRule → Context → Tree → Tree → Type 0
Follows way.Converted r K t S = (R : Tree) × (r.wants ≡ Tm K t R ∷ TyEq K R S ∷ [])
Follows way.Instance r K t S =
    (d : Subst) × (G : Context) × (a A : Tree) × (r.wants ≡ Sb K d G ∷ Tm G a A ∷ [])
    × (t ≡ apply a d) × (S ≡ apply A d)
Follows way.Variable r K t S = (t ≡ Var zero) × HasVariable K zero S
Follows way.Function r K t S =
    (A s B : Tree) × (r.wants ≡ Ty K A ∷ Tm (WithVar K A) s B ∷ []) × (t ≡ lam trees A s)
    × (S ≡ pi trees A B)
Follows way.Pair r K t S =
    (A B u v : Tree) × (r.wants ≡ pair_wants trees K u v A B) × (t ≡ pair trees u v)
    × (S ≡ sig trees A B)
Follows way.Path r K t S =
    (A s u v : Tree) × (r.wants ≡ path_wants K A s u v) × (t ≡ plam trees s)
    × (S ≡ pathp trees A u v)
Follows way.Glued r K t S =
    (A p T w c a : Tree) × (r.wants ≡ glue_wants trees K A p T w c a) × (r.sides ≡ IsFace K p ∷ [])
    × (t ≡ glue trees p c a) × (S ≡ glue_type trees A p T w)
Follows way.Type r K t S = (is_type t ≡ true) × (S ≡ universe trees)
Follows way.Other r K t S = HasOther t

-- where the rule concludes the typing of a term, the term and its type are made so
abbrev pub IsWay : Way → TreeRule → Type 0
IsWay w r = OfTerm r.gives (Follows w r)
