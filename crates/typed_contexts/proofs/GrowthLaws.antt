-- A place of a book is one of a book that grew.
use Rattle.std.proofs.Common.{ℕ, List}
use Rattle.trees.specs.Trees.{up}
use Rattle.trees.specs.Judgements.{Context, Nil, WithVar, WithName, WithFace}
use Rattle.trees.specs.Language.{Ctx, Ty, Sb}
use Rattle.book.specs.Contents.{Contents}
use Rattle.book.specs.Shown.{Extends}
use Rattle.recipe_runner.proofs.RunLaws.{extends-further}
use Rattle.typed_nodes.proofs.GrowthLaws.{says_later}
use Rattle.typed_contexts.specs.Contexts.{depth_of, outside}
use Rattle.typed_contexts.specs.Places.{IsEntry, IsLevel, HasLevel, LevelsAre, IsPlace}
use Rattle.typed_contexts.specs.declared.place.Entry.{Entry}
use Rattle.typed_contexts.specs.declared.place.Entry.TheVariants as entry
use Rattle.typed_contexts.specs.declared.place.Level.{Level}
use Rattle.typed_contexts.specs.declared.place.Places.{Places}

pub entry_later : {b c : Contents} → Extends b c → (e : Entry) (H : Context) → IsEntry b e H → IsEntry c e H
entry_later ext (entry.Variable ty) (WithVar H A) is = says_later _ _ ty (Ty H A) ext is
entry_later ext (entry.Variable ty) Nil is = absurd is
entry_later ext (entry.Variable ty) (WithName H) is = absurd is
entry_later ext (entry.Variable ty) (WithFace H p) is = absurd is
entry_later ext entry.Name (WithName H) is = is
entry_later ext entry.Name Nil is = absurd is
entry_later ext entry.Name (WithVar H A) is = absurd is
entry_later ext entry.Name (WithFace H p) is = absurd is

level_later : {b c : Contents} → Extends b c → (level : Level) (H : Context) → IsLevel b level H → IsLevel c level H
level_later ext level H is = record {
  ctx_is = says_later _ _ level.ctx (Ctx H) ext is.ctx_is;
  entry_is = entry_later ext level.entry H is.entry_is;
  up_is = says_later _ _ level.up (Sb H up (outside 1 H)) ext is.up_is;
  jump_before = is.jump_before;
  jump_is = says_later _ _ level.jump.sub _ ext is.jump_is;
}

has_later : {b c : Contents} → Extends b c → (levels : List Level) (n : ℕ) (H : Context) → HasLevel b levels n H → HasLevel c levels n H
has_later ext levels n H has = record {
  level = has.level;
  there = has.there;
  is = level_later ext has.level H has.is;
}

levels_later : {b c : Contents} → Extends b c → (levels : List Level) (H : Context) → LevelsAre b levels H → LevelsAre c levels H
levels_later ext levels Nil are = are
levels_later ext levels (WithVar H A) are = (has_later ext levels (depth_of H) (WithVar H A) are.0, levels_later ext levels H are.1)
levels_later ext levels (WithName H) are = (has_later ext levels (depth_of H) (WithName H) are.0, levels_later ext levels H are.1)
levels_later ext levels (WithFace H p) are = are

pub place_later : (old new : Contents) (places : Places) (H : Context) → Extends old new → IsPlace old places H → IsPlace new places H
place_later old new places H grown is = record {
  count = is.count;
  empty_is = says_later old new places.empty (Ctx Nil) grown is.empty_is;
  levels_are = levels_later grown places.levels.items H is.levels_are;
}

pub further : {b c d : Contents} → Extends b c → Extends c d → Extends b d
further {b} {c} {d} f g = extends-further b c d f g
