-- What the levels of a place say of its context.
use Rattle.std.specs.Prelude.{◌≡◌, ◌-◌, ◌<◌, ℕ, List, length, slice_get, Some}
use Rattle.trees.specs.Trees.{shift_by, up}
use Rattle.trees.specs.Judgements.{Context, Nil, WithVar, WithName, WithFace}
use Rattle.trees.specs.Language.{Ctx, Ty, Sb}
use Rattle.book.specs.Contents.{Contents}
use Rattle.book.specs.declared.kernel.NodeId.{NodeId}
use Rattle.typed_nodes.specs.Typed.{Says}
use Rattle.typed_contexts.specs.Contexts.{depth_of, outside, at_depth}
use Rattle.typed_contexts.specs.declared.place.Entry.{Entry}
use Rattle.typed_contexts.specs.declared.place.Entry.TheVariants as entry
use Rattle.typed_contexts.specs.declared.place.Level.{Level}
use Rattle.typed_contexts.specs.declared.place.Places.{Places}

-- the node says the weakening between the contexts of these depths, from the deeper one
abbrev pub Weakens : Contents → Context → NodeId → ℕ → ℕ → Type 0
Weakens b H sub from to = Says b sub (Sb (at_depth from H) (shift_by (from - to)) (at_depth to H))

-- the entry is the innermost of the context
abbrev pub IsEntry : Contents → Entry → Context → Type 0
IsEntry b (entry.Variable ty) (WithVar H A) = Says b ty (Ty H A)
IsEntry b entry.Name (WithName H) = Unit {0}
IsEntry b e H = ⊥

-- the level of a context that ends with an entry
pub record IsLevel (b : Contents) (level : Level) (H : Context) : Type 0 where
  pub ctx_is : Says b level.ctx (Ctx H)
  pub entry_is : IsEntry b level.entry H
  pub up_is : Says b level.up (Sb H up (outside 1 H))
  pub jump_before : level.jump.to < depth_of H
  pub jump_is : Weakens b H level.jump.sub (depth_of H) level.jump.to

-- the level of that number is the context's
pub record HasLevel (b : Contents) (levels : List Level) (n : ℕ) (H : Context) : Type 0 where
  pub level : Level
  pub there : slice_get levels n ≡ Some level
  pub is : IsLevel b level H

-- each entry has its level, the outermost the first
abbrev pub LevelsAre : Contents → List Level → Context → Type 0
LevelsAre b levels Nil = Unit {0}
LevelsAre b levels (WithVar H A) =
    HasLevel b levels (depth_of H) (WithVar H A) × LevelsAre b levels H
LevelsAre b levels (WithName H) =
    HasLevel b levels (depth_of H) (WithName H) × LevelsAre b levels H
LevelsAre b levels (WithFace H p) = ⊥

-- these are the levels of the context, which has no faces
pub record IsPlace (b : Contents) (places : Places) (H : Context) : Type 0 where
  pub count : length places.levels.items ≡ depth_of H
  pub empty_is : Says b places.empty (Ctx Nil)
  pub levels_are : LevelsAre b places.levels.items H

-- the nodes of a context that ends with this entry, behind the place
pub record IsNext (b : Contents) (places : Places) (ctx : NodeId) (entry : Entry) (past : NodeId)
    (H : Context) : Type 0 where
  pub place : IsPlace b places (outside 1 H)
  pub ctx_is : Says b ctx (Ctx H)
  pub entry_is : IsEntry b entry H
  pub past_is : Says b past (Sb H up (outside 1 H))
