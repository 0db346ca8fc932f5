-- Operators that trees begin with.
use Rattle.std.proofs.Common.{◌≡◌, ◌↔◌, Bool, true, false, ℕ, zero, suc, ◌+◌, ◌<◌, ◌≤◌, List, [], ◌∷◌, refl, sym, ◌∙◌, ap, ap₂, subst, arith}
use Rattle.trees.specs.declared.op.Op.{Op}
use Rattle.trees.specs.declared.op.Op.TheVariants as op
use Rattle.trees.specs.Operators.{kids_of, binds_of}
use Rattle.trees.specs.Trees.{Tree, Trees, Var, Make, NoTrees, More, trees_of}
use Rattle.trees.specs.Things.{Meanings}
use Rattle.rows.specs.Tables.{Grows}
use Rattle.rows.proofs.TableLaws.{grows-same, grows-grows}
use Rattle.closures.specs.declared.closure.Closure.{Closure}
use Rattle.closures.specs.Environments.{Waiting}
use Rattle.closures.specs.Closures.{IsClosure, Stands}
use Rattle.closures.proofs.HeadLaws.{closure-grows}
use Rattle.tree_frames.specs.declared.frames.Frame.{Frame}
use Rattle.tree_frames.specs.Frames.{tree_in, frame_trees, weight, all_weights, FrameStands, IsKidAt, OpensFrame}
use Rattle.tree_frames.proofs.FrameLaws.{tree-grows}
use Rattle.normal_parts.specs.Normal.{Begins, SidesBegin, Computes}
use Rattle.normal_parts.proofs.KidLaws.{count-of, Four, four}

pub op-of : (o q : Op) (ts : Trees) (t : Tree) → t ≡ Make o ts → Begins q t → o ≡ q
op-of o q ts t is b = subst (Begins q) is b

pub true-if : (b : Bool) → (b ≡ false → ⊥) → b ≡ true
true-if true never = refl
true-if false never = absurd (never refl)

pub true-no : (b : Bool) → b ≡ true → b ≡ false → ⊥
true-no true e h = cc
true-no false e h = cc

pub begins-variable : (q : Op) (j : ℕ) (t : Tree) → Var j ≡ t → Begins q t → ⊥
begins-variable q j t is b = subst (Begins q) (sym is) b

pub begins-make : (q o : Op) (ts : Trees) (t : Tree) → t ≡ Make o ts → o ≡ q → Begins q t
begins-make q o ts t is e = subst (Begins q) (sym is) e

pub begins-other : (q o : Op) (ts : Trees) (t : Tree) → t ≡ Make o ts → (o ≡ q → ⊥) → Begins q t → ⊥
begins-other q o ts t is never b = never (op-of o q ts t is b)

-- the sides of a system, one by one

pub sides-variable : (q : Op) (j : ℕ) (t : Tree) → Var j ≡ t → SidesBegin q t
sides-variable q j t is = subst (SidesBegin q) is tt

pub sides-other : (q o : Op) (ts : Trees) (t : Tree) → t ≡ Make o ts → (o ≡ op.Sys → ⊥) → SidesBegin q t
sides-other q o ts t is never = subst (SidesBegin q) (sym is) (by o ts never)
  where
    by : (p : Op) (us : Trees) → (p ≡ op.Sys → ⊥) → SidesBegin q (Make p us)
    by op.Sys us n = absurd (n refl)
    by _ us n = tt

-- the walk along a system that was opened at its first side
pub record Along (f : Meanings) (begin known : List (List Waiting)) (m : ℕ) (q : Op) (body rest : Closure) : Type 0 where
  pub grows : Grows begin known
  pub stands : IsClosure f known m rest
  pub to : SidesBegin q (tree_in f begin body) → SidesBegin q (tree_in f known rest)
  pub from : SidesBegin q (tree_in f known rest) → SidesBegin q (tree_in f begin body)

pub along-begin : (f : Meanings) (begin : List (List Waiting)) (m : ℕ) (q : Op) (body : Closure) → IsClosure f begin m body → Along f begin begin m q body body
along-begin f begin m q body stands = record { grows = grows-same begin; stands = stands; to = λ h. h; from = λ h. h }

module _ (f : Meanings) (begin known now : List (List Waiting)) (m : ℕ) (q : Op) (body rest : Closure) (r : Frame) (a : Along f begin known m q body rest) (o : OpensFrame f known now rest 0 r) where
  pub frame-is : FrameStands f now m r
  frame-is = record { count = o.frame.count; rows = o.frame.rows; environment_stands = o.stands m a.stands }

  module _ (term next : Closure) (is : r.op ≡ op.Sys) (k2 : IsKidAt f now r 2 term) (k3 : IsKidAt f now r 3 next) where
    parts : Four (frame_trees f now r)
    parts = four (frame_trees f now r) (count-of f now m r frame-is ∙ ap kids_of is)

    whole : tree_in f known rest ≡ Make op.Sys (More parts.a (More parts.b (More (tree_in f now term) (More (tree_in f now next) NoTrees))))
    whole =
        let third : tree_in f now term ≡ parts.c = k2.tree (parts.a ∷ parts.b ∷ []) (parts.d ∷ []) parts.c refl parts.whole in
        let fourth : tree_in f now next ≡ parts.d = k3.tree (parts.a ∷ parts.b ∷ parts.c ∷ []) [] parts.d refl parts.whole in
        o.frame.whole ∙ ap₂ (λ x ts. Make x (trees_of ts)) is (parts.whole ∙ ap₂ (λ x y. parts.a ∷ parts.b ∷ x ∷ y ∷ []) (sym third) (sym fourth))

    pub term-stands : IsClosure f now m term
    term-stands = k2.same m frame-is.environment_stands (ap (λ x. binds_of x 2) is)

    next-stands : IsClosure f now m next
    next-stands = k3.same m frame-is.environment_stands (ap (λ x. binds_of x 3) is)

    pub along-no : (Begins q (tree_in f now term) → ⊥) → SidesBegin q (tree_in f begin body) → ⊥
    along-no never h = never (subst (SidesBegin q) whole (a.to h)).0

    pub along-next : (later : List (List Waiting)) → Grows known now → Grows now later → Begins q (tree_in f now term)
        → Along f begin later m q body next × (suc (weight (tree_in f later next)) ≤ weight (tree_in f known rest))
    along-next later g h told =
        let same = tree-grows f now later m next h next-stands in
        let v = ap weight whole in
        let u = ap weight same in (
          record {
            grows = grows-grows begin known later a.grows (grows-grows known now later g h);
            stands = closure-grows f now later m next h next-stands;
            to = λ s. subst (SidesBegin q) (sym same) (subst (SidesBegin q) whole (a.to s)).1;
            from = λ s. a.from (subst (SidesBegin q) (sym whole) (told, subst (SidesBegin q) same s));
          },
          omega (arith, v, u),
        )

-- what all begin with, below environments that were added
pub record SameAll (f : Meanings) (k k' : List (List Waiting)) (q : Op) (body base : Closure) : Type 0 where
  pub to : Begins q (tree_in f k' base) × SidesBegin q (tree_in f k' body) → Begins q (tree_in f k base) × SidesBegin q (tree_in f k body)
  pub from : Begins q (tree_in f k base) × SidesBegin q (tree_in f k body) → Begins q (tree_in f k' base) × SidesBegin q (tree_in f k' body)

pub all-later : (f : Meanings) (k k' : List (List Waiting)) (m : ℕ) (q : Op) (body base : Closure) → Grows k k' → IsClosure f k m body → IsClosure f k m base → SameAll f k k' q body base
all-later f k k' m q body base g body_stands base_stands =
    let eb = tree-grows f k k' m body g body_stands in
    let ea = tree-grows f k k' m base g base_stands in
    record {
      to = λ h. (subst (Begins q) ea h.0, subst (SidesBegin q) eb h.1);
      from = λ h. (subst (Begins q) (sym ea) h.0, subst (SidesBegin q) (sym eb) h.1);
    }

pub computes-later : (f : Meanings) (k k' : List (List Waiting)) (m : ℕ) (line body base : Closure) → Grows k k' → IsClosure f k m line → IsClosure f k m body → IsClosure f k m base
    → Computes (tree_in f k' line) (tree_in f k' body) (tree_in f k' base) ≡ Computes (tree_in f k line) (tree_in f k body) (tree_in f k base)
computes-later f k k' m line body base g line_stands body_stands base_stands =
    ap (λ t. Computes t (tree_in f k' body) (tree_in f k' base)) (tree-grows f k k' m line g line_stands)
    ∙ ap₂ (λ b a. Computes (tree_in f k line) b a) (tree-grows f k k' m body g body_stands) (tree-grows f k k' m base g base_stands)
