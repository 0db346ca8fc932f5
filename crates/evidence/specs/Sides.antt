-- Steps of showing evidence.
use Rattle.std.specs.Prelude.{◌≡◌, ℕ, Option, Some}
use Rattle.trees.specs.Trees.{Tree}
use Rattle.trees.specs.Judgements.{Context, Judgement}
use Rattle.trees.specs.Language.{TyEq, TmEq}
use Rattle.trees.specs.Things.{ATree, AContext}
use Rattle.book.specs.Contents.{Contents}
use Rattle.book.specs.Shown.{book_concludes, book_means}
use Rattle.evidence.specs.declared.sides.Sort.{Sort}
use Rattle.evidence.specs.declared.sides.Sort.TheVariants as sort
use Rattle.evidence.specs.declared.sides.Side.{Side}
use Rattle.evidence.specs.declared.sides.Place.{Place}
use Rattle.evidence.specs.declared.aligned.TypesEquation.{TypesEquation}
use Rattle.side_conditions.specs.Levels.{count_indices}
use Rattle.evidence.specs.Contexts.{FixesExactly, IsConsistent}

-- an equation of that sort with that right side
abbrev pub IsEquation : Sort → Context → Tree → Option Judgement → Type 0
IsEquation sort.Types G n J = (S : Tree) × (J ≡ Some (TyEq G S n))
IsEquation sort.Terms G n J = (s : Tree) × (A : Tree) × (J ≡ Some (TmEq G s n A))

pub record IsSide (b : Contents) (equation : ℕ) (s : Side) : Type 0 where
  pub context : Context
  pub tree : Tree
  pub context_is : book_means b s.ctx.0 ≡ Some (AContext context)
  pub tree_is : book_means b s.right.0 ≡ Some (ATree tree)
  pub equation_is : IsEquation s.sort context tree (book_concludes b equation)

-- what is known of a context
pub record IsPlace (G : Context) (p : Place) : Type 0 where
  pub level : p.level ≡ count_indices G
  pub fixed : FixesExactly G p.fixed.items
  pub consistent : IsConsistent G

-- the node concludes that equation of types, by these rows
pub record IsOfTypes (b : Contents) (equation : ℕ) (e : TypesEquation) : Type 0 where
  pub context : Context
  pub left : Tree
  pub right : Tree
  pub context_is : book_means b e.ctx.0 ≡ Some (AContext context)
  pub left_is : book_means b e.left.0 ≡ Some (ATree left)
  pub right_is : book_means b e.right.0 ≡ Some (ATree right)
  pub concluded : book_concludes b equation ≡ Some (TyEq context left right)
