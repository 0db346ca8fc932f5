-- Places by their levels.
use Rattle.std.proofs.Common.{◌≡◌, ◌+◌, ◌-◌, ◌≤◌, ◌<◌, ℕ, zero, suc, List, [], ◌∷◌, ◌++◌, length, refl, sym, ◌∙◌, ap, subst, arith, Option, Some, slice_get}
use Rattle.trees.specs.Trees.{Tree, Subst, shift_by, then, up}
use Rattle.trees.specs.Judgements.{Context, Nil, WithVar, WithName, WithFace}
use Rattle.trees.specs.Language.{Ctx, Sb, Ty}
use Rattle.substitution.proofs.ThenLaws.{shift_by-then-shift_by}
use Rattle.book.specs.Contents.{Contents}
use Rattle.book.specs.Shown.{Extends}
use Rattle.book.specs.declared.kernel.NodeId.{NodeId}
use Rattle.typed_nodes.specs.Typed.{Says}
use Rattle.typed_nodes.proofs.GrowthLaws.{says_later}
use Rattle.typed_contexts.specs.Contexts.{depth_of, outside, at_depth}
use Rattle.typed_contexts.specs.Places.{Weakens, IsEntry, IsLevel, HasLevel, LevelsAre, IsPlace, IsNext}
use Rattle.typed_contexts.specs.declared.place.Entry.{Entry}
use Rattle.typed_contexts.specs.declared.place.Entry.TheVariants as entry
use Rattle.typed_contexts.specs.declared.place.Level.{Level}
use Rattle.typed_contexts.specs.declared.place.Weakening.{Weakening}
use Rattle.typed_contexts.specs.declared.place.Places.{Places}
use Rattle.typed_contexts.proofs.ContextLaws.{shifts-join, at_depth-whole, outside-outside}
use Rattle.typed_contexts.proofs.GrowthLaws.{entry_later, place_later, further}
use Rattle.typed_contexts.proofs.LevelLaws.{level-read, levels-read, says-sb}

-- lists with one more element

get-before : {X : Type 0} (xs ys : List X) (k : ℕ) → k < length xs → slice_get (xs ++ ys) k ≡ slice_get xs k
get-before [] ys k low = absurd (omega arith)
get-before (x ∷ xs) ys zero low = refl
get-before (x ∷ xs) ys (suc k) low = get-before xs ys k (omega arith)

get-last : {X : Type 0} (xs : List X) (x : X) (n : ℕ) → length xs ≡ n → slice_get (xs ++ x ∷ []) n ≡ Some x
get-last [] x zero e = refl
get-last [] x (suc n) e = absurd (omega arith)
get-last (y ∷ xs) x zero e = absurd (omega arith)
get-last (y ∷ xs) x (suc n) e = get-last xs x n (omega arith)

length-one_more : {X : Type 0} (xs : List X) (x : X) → length (xs ++ x ∷ []) ≡ suc (length xs)
length-one_more [] x = refl
length-one_more (y ∷ xs) x = ap suc (length-one_more xs x)

-- entries

no_face : (b : Contents) (e : Entry) (H : Context) (p : Tree) → IsEntry b e (WithFace H p) → ⊥
no_face b (entry.Variable ty) H p is = is
no_face b entry.Name H p is = is

pub variable-entry : (b : Contents) (e : Entry) (ty : NodeId) (H : Context) (A : Tree) → e ≡ entry.Variable ty → IsEntry b e (WithVar H A) → Says b ty (Ty H A)
variable-entry b e ty H A same is = subst (λ e. IsEntry b e (WithVar H A)) same is

pub name-is_no-variable : (b : Contents) (e : Entry) (H : Context) (A : Tree) → e ≡ entry.Name → IsEntry b e (WithVar H A) → ⊥
name-is_no-variable b e H A same is = subst (λ e. IsEntry b e (WithVar H A)) same is

pub variable-is_no-name : (b : Contents) (e : Entry) (ty : NodeId) (H : Context) → e ≡ entry.Variable ty → IsEntry b e (WithName H) → ⊥
variable-is_no-name b e ty H same is = subst (λ e. IsEntry b e (WithName H)) same is

-- the level that was read

pub place-level : (b : Contents) (places : Places) (H : Context) (n : ℕ) (level : Level) → IsPlace b places H → 0 < n → n ≤ length places.levels.items → slice_get places.levels.items (n - 1) ≡ Some level → IsLevel b level (at_depth n H)
place-level b places H n level is more le read = level-read b places.levels.items n H level more (omega (arith, is.count)) is.levels_are read

-- a place with one more level

grown : (b : Contents) (levels others : List Level) (level : Level) (H : Context) → others ≡ levels ++ level ∷ [] → length levels ≡ depth_of H → LevelsAre b levels H → LevelsAre b others H
grown b levels others level H e count are =
    levels-read b levels others H (λ k low. ap (λ xs. slice_get xs k) e ∙ get-before levels (level ∷ []) k (omega (arith, low, count))) are

added : (b : Contents) (levels others : List Level) (level : Level) (n : ℕ) (G : Context) → others ≡ levels ++ level ∷ [] → length levels ≡ n → IsLevel b level G → HasLevel b others n G
added b levels others level n G e count is = record {
  level = level;
  there = ap (λ xs. slice_get xs n) e ∙ get-last levels level n count;
  is = is;
}

pub levels-next : (b : Contents) (levels others : List Level) (level : Level) (G : Context) → others ≡ levels ++ level ∷ [] → length levels ≡ depth_of (outside 1 G) → LevelsAre b levels (outside 1 G) → IsLevel b level G → (length others ≡ depth_of G) × LevelsAre b others G
levels-next b levels others level Nil e count are is = let low = is.jump_before in absurd (omega arith)
levels-next b levels others level (WithVar H A) e count are is =
    (ap length e ∙ length-one_more levels level ∙ ap suc count, (added b levels others level (depth_of H) (WithVar H A) e count is, grown b levels others level H e count are))
levels-next b levels others level (WithName H) e count are is =
    (ap length e ∙ length-one_more levels level ∙ ap suc count, (added b levels others level (depth_of H) (WithName H) e count is, grown b levels others level H e count are))
levels-next b levels others level (WithFace H p) e count are is = absurd (no_face b level.entry H p is.entry_is)

pub place-next : (b : Contents) (old new : Places) (level : Level) (G : Context) → new.empty ≡ old.empty → new.levels.items ≡ old.levels.items ++ level ∷ [] → IsPlace b old (outside 1 G) → IsLevel b level G → IsPlace b new G
place-next b old new level G same e place is =
    let h = levels-next b old.levels.items new.levels.items level G e place.count place.levels_are is in
    record {
      count = h.0;
      empty_is = subst (λ n. Says b n (Ctx Nil)) (sym same) place.empty_is;
      levels_are = h.1;
    }

-- a place with one level less

fewer : (b : Contents) (levels others : List Level) (level : Level) (H : Context) → levels ≡ others ++ level ∷ [] → length others ≡ depth_of H → LevelsAre b levels H → LevelsAre b others H
fewer b levels others level H e count are =
    levels-read b levels others H (λ k low. sym (ap (λ xs. slice_get xs k) e ∙ get-before others (level ∷ []) k (omega (arith, low, count)))) are

same_one : {X : Type 0} {o : Option X} {x y : X} → o ≡ Some x → o ≡ Some y → x ≡ y
same_one e f = cc

last : (b : Contents) (levels others : List Level) (level : Level) (n : ℕ) (G : Context) → levels ≡ others ++ level ∷ [] → length others ≡ n → HasLevel b levels n G → IsLevel b level G
last b levels others level n G e count has =
    subst (λ l. IsLevel b l G) (same_one has.there (ap (λ xs. slice_get xs n) e ∙ get-last others level n count)) has.is

fewer-count : (levels others : List Level) (level : Level) (n : ℕ) → levels ≡ others ++ level ∷ [] → length levels ≡ suc n → length others ≡ n
fewer-count levels others level n e count = omega (arith, sym (length-one_more others level) ∙ ap length (sym e) ∙ count)

-- what was left, and the place that is left
pub record Left (b : Contents) (new : Places) (level : Level) (G : Context) : Type 0 where
  pub was : IsLevel b level G
  pub place : IsPlace b new (outside 1 G)

pub place-left : (b : Contents) (old new : Places) (level : Level) (G : Context) → new.empty ≡ old.empty → old.levels.items ≡ new.levels.items ++ level ∷ [] → IsPlace b old G → Left b new level G
place-left b old new level Nil same e is = absurd (omega (arith, sym (length-one_more new.levels.items level) ∙ ap length (sym e) ∙ is.count))
place-left b old new level (WithVar H A) same e is =
    let count = fewer-count old.levels.items new.levels.items level (depth_of H) e is.count in
    record {
      was = last b old.levels.items new.levels.items level (depth_of H) (WithVar H A) e count is.levels_are.0;
      place = record {
        count = count;
        empty_is = subst (λ n. Says b n (Ctx Nil)) (sym same) is.empty_is;
        levels_are = fewer b old.levels.items new.levels.items level H e count is.levels_are.1;
      };
    }
place-left b old new level (WithName H) same e is =
    let count = fewer-count old.levels.items new.levels.items level (depth_of H) e is.count in
    record {
      was = last b old.levels.items new.levels.items level (depth_of H) (WithName H) e count is.levels_are.0;
      place = record {
        count = count;
        empty_is = subst (λ n. Says b n (Ctx Nil)) (sym same) is.empty_is;
        levels_are = fewer b old.levels.items new.levels.items level H e count is.levels_are.1;
      };
    }
place-left b old new level (WithFace H p) same e is = absurd is.levels_are

-- one weakening after another
pub weakens-on : (b c : Contents) (H : Context) (sub : NodeId) (from mid to : ℕ) → to ≤ mid → mid ≤ from → Says c sub (Sb (at_depth from H) (then (shift_by (mid - to)) (shift_by (from - mid))) (at_depth to H)) → Weakens c H sub from to
weakens-on b c H sub from mid to le le' says = says-sb refl (shifts-join from mid to le le') refl says

-- the empty context

no-entries : (b : Contents) (levels : List Level) (H : Context) → depth_of H ≡ 0 → LevelsAre b levels H → H ≡ Nil
no-entries b levels Nil e are = refl
no-entries b levels (WithVar H A) e are = absurd (omega arith)
no-entries b levels (WithName H) e are = absurd (omega arith)
no-entries b levels (WithFace H p) e are = absurd are

pub empty-says : (b : Contents) (places : Places) (H : Context) → depth_of H ≡ 0 → IsPlace b places H → Says b places.empty (Ctx H)
empty-says b places H e is = subst (λ G. Says b places.empty (Ctx G)) (sym (no-entries b places.levels.items H e is.levels_are)) is.empty_is

-- past an entry

pub to_whole : (b : Contents) (G H : Context) (sub : NodeId) (d : Subst) (n : ℕ) → n ≡ depth_of H → Says b sub (Sb G d H) → Says b sub (Sb G d (at_depth n H))
to_whole b G H sub d n e says = says-sb refl refl (sym (ap (λ n. at_depth n H) e ∙ at_depth-whole H)) says

pub past-one : (depth to : ℕ) → to ≤ depth → then (shift_by (depth - to)) (shift_by 1) ≡ shift_by (suc depth - to)
past-one depth to le =
    let e : depth - to + 1 ≡ suc depth - to = omega arith in
    shift_by-then-shift_by (depth - to) 1 ∙ ap shift_by e

-- entries to come

pub next-variable : {a b c d : Contents} → Extends a b → Extends b c → Extends c d → (places : Places) (H : Context) (A : Tree) (ty past ctx : NodeId) → IsPlace a places H → Says a ty (Ty H A) → Says c past (Sb (WithVar H A) up H) → Says d ctx (Ctx (WithVar H A)) → IsNext d places ctx (entry.Variable ty) past (WithVar H A)
next-variable f g h places H A ty past ctx place type_is past_is ctx_is =
    let whole = further f (further g h) in
    record {
      place = place_later _ _ _ _ whole place;
      ctx_is = ctx_is;
      entry_is = says_later _ _ ty (Ty H A) whole type_is;
      past_is = says_later _ _ past (Sb (WithVar H A) up H) h past_is;
    }

pub next-name : {a b c d : Contents} → Extends a b → Extends b c → Extends c d → (places : Places) (H : Context) (past ctx : NodeId) → IsPlace a places H → Says c past (Sb (WithName H) up H) → Says d ctx (Ctx (WithName H)) → IsNext d places ctx entry.Name past (WithName H)
next-name f g h places H past ctx place past_is ctx_is =
    record {
      place = place_later _ _ _ _ (further f (further g h)) place;
      ctx_is = ctx_is;
      entry_is = tt;
      past_is = says_later _ _ past (Sb (WithName H) up H) h past_is;
    }

-- the level that a place goes on to

depth-next : (b : Contents) (e : Entry) (G : Context) → IsEntry b e G → depth_of G ≡ suc (depth_of (outside 1 G))
depth-next b (entry.Variable ty) (WithVar H A) is = refl
depth-next b entry.Name (WithName H) is = refl
depth-next b (entry.Variable ty) Nil is = absurd is
depth-next b (entry.Variable ty) (WithName H) is = absurd is
depth-next b (entry.Variable ty) (WithFace H p) is = absurd is
depth-next b entry.Name Nil is = absurd is
depth-next b entry.Name (WithVar H A) is = absurd is
depth-next b entry.Name (WithFace H p) is = absurd is

at_depth-next : (b : Contents) (e : Entry) (G : Context) (n : ℕ) → IsEntry b e G → n ≤ depth_of (outside 1 G) → at_depth n (outside 1 G) ≡ at_depth n G
at_depth-next b e G n is le =
    let more = depth-next b e G is in
    outside-outside (depth_of (outside 1 G) - n) 1 (depth_of G - n) G (omega (arith, more))

pub next-level : {a b : Contents} → Extends a b → (places : Places) (ctx past : NodeId) (e : Entry) (jump : Weakening) (G : Context) → IsNext a places ctx e past G → jump.to ≤ depth_of (outside 1 G) → Says b jump.sub (Sb G (shift_by (suc (depth_of (outside 1 G)) - jump.to)) (at_depth jump.to (outside 1 G))) → IsLevel b (record { ctx = ctx; entry = e; up = past; jump = jump }) G
next-level {a} {b} ext places ctx past e jump G next le says =
    let more = depth-next a e G next.entry_is in
    record {
      ctx_is = says_later _ _ ctx (Ctx G) ext next.ctx_is;
      entry_is = entry_later ext e G next.entry_is;
      up_is = says_later _ _ past (Sb G up (outside 1 G)) ext next.past_is;
      jump_before = omega (arith, more, le);
      jump_is = says-sb (sym (at_depth-whole G)) (ap (λ n. shift_by (n - jump.to)) (sym more)) (at_depth-next a e G jump.to next.entry_is le) says;
    }
