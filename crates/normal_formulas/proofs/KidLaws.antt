-- Operators with one kid, two, and four.
use Rattle.std.proofs.Common.{◌≡◌, ℕ, List, [], ◌∷◌, length, refl, sym, ◌∙◌, ap, ap₂, arith}
use Rattle.trees.specs.Operators.{kids_of}
use Rattle.trees.specs.Trees.{Tree, Make, NoTrees, More, trees_of}
use Rattle.trees.specs.Things.{Meanings}
use Rattle.closures.specs.declared.closure.Closure.{Closure}
use Rattle.closures.specs.Environments.{Waiting, listed}
use Rattle.closures.specs.Closures.{IsClosure}
use Rattle.tree_frames.specs.declared.frames.Frame.{Frame}
use Rattle.tree_frames.specs.Frames.{tree_in, frame_trees, IsFrame, IsKidAt, FrameStands, OpensFrame}
use Rattle.tree_frames.proofs.FrameLaws.{length-kid_trees}

count-kids : (f : Meanings) (known : List (List Waiting)) (t : Tree) (r : Frame) (n : ℕ) → IsFrame f known t r → kids_of r.op ≡ n → length (frame_trees f known r) ≡ n
count-kids f known t r n is count = length-kid_trees f (listed known r.environment) r.op 0 r.kids.now ∙ is.count ∙ count

record One (ts : List Tree) : Type 0 where
  pub a : Tree
  pub whole : ts ≡ a ∷ []

one : (ts : List Tree) → length ts ≡ 1 → One ts
one (a ∷ []) e = record { a = a; whole = refl }
one _ e = absurd (omega arith)

record Two (ts : List Tree) : Type 0 where
  pub a : Tree
  pub b : Tree
  pub whole : ts ≡ a ∷ b ∷ []

two : (ts : List Tree) → length ts ≡ 2 → Two ts
two (a ∷ b ∷ []) e = record { a = a; b = b; whole = refl }
two _ e = absurd (omega arith)

record Four (ts : List Tree) : Type 0 where
  pub a : Tree
  pub b : Tree
  pub c : Tree
  pub d : Tree
  pub whole : ts ≡ a ∷ b ∷ c ∷ d ∷ []

four : (ts : List Tree) → length ts ≡ 4 → Four ts
four (a ∷ b ∷ c ∷ d ∷ []) e = record { a = a; b = b; c = c; d = d; whole = refl }
four _ e = absurd (omega arith)

pub over-one : (f : Meanings) (known : List (List Waiting)) (t : Tree) (r : Frame) (a : Closure) → IsFrame f known t r → kids_of r.op ≡ 1 → IsKidAt f known r 0 a → t ≡ Make r.op (More (tree_in f known a) NoTrees)
over-one f known t r a is count k0 =
    let h = one (frame_trees f known r) (count-kids f known t r 1 is count) in
    is.whole ∙ ap (λ ts. Make r.op (trees_of ts)) (h.whole ∙ ap (λ x. x ∷ []) (sym (k0.tree [] [] h.a refl h.whole)))

pub over-two : (f : Meanings) (known : List (List Waiting)) (t : Tree) (r : Frame) (a b : Closure) → IsFrame f known t r → kids_of r.op ≡ 2 → IsKidAt f known r 0 a → IsKidAt f known r 1 b → t ≡ Make r.op (More (tree_in f known a) (More (tree_in f known b) NoTrees))
over-two f known t r a b is count k0 k1 =
    let h = two (frame_trees f known r) (count-kids f known t r 2 is count) in
    is.whole ∙ ap (λ ts. Make r.op (trees_of ts)) (h.whole ∙ ap₂ (λ x y. x ∷ y ∷ []) (sym (k0.tree [] (h.b ∷ []) h.a refl h.whole)) (sym (k1.tree (h.a ∷ []) [] h.b refl h.whole)))

pub over-four : (f : Meanings) (known : List (List Waiting)) (t : Tree) (r : Frame) (a b c d : Closure) → IsFrame f known t r → kids_of r.op ≡ 4 → IsKidAt f known r 0 a → IsKidAt f known r 1 b → IsKidAt f known r 2 c → IsKidAt f known r 3 d
    → t ≡ Make r.op (More (tree_in f known a) (More (tree_in f known b) (More (tree_in f known c) (More (tree_in f known d) NoTrees))))
over-four f known t r a b c d is count k0 k1 k2 k3 =
    let h = four (frame_trees f known r) (count-kids f known t r 4 is count) in
    let e0 : h.a ≡ tree_in f known a = sym (k0.tree [] (h.b ∷ h.c ∷ h.d ∷ []) h.a refl h.whole) in
    let e1 : h.b ≡ tree_in f known b = sym (k1.tree (h.a ∷ []) (h.c ∷ h.d ∷ []) h.b refl h.whole) in
    let e2 : h.c ≡ tree_in f known c = sym (k2.tree (h.a ∷ h.b ∷ []) (h.d ∷ []) h.c refl h.whole) in
    let e3 : h.d ≡ tree_in f known d = sym (k3.tree (h.a ∷ h.b ∷ h.c ∷ []) [] h.d refl h.whole) in
    is.whole ∙ ap (λ ts. Make r.op (trees_of ts)) (h.whole ∙ ap₂ (λ x y. x ∷ y ∷ h.c ∷ h.d ∷ []) e0 e1 ∙ ap₂ (λ x y. tree_in f known a ∷ tree_in f known b ∷ x ∷ y ∷ []) e2 e3)

-- a frame that was opened

pub frame-opened : (f : Meanings) (old new : List (List Waiting)) (c : Closure) (n m : ℕ) (r : Frame) → OpensFrame f old new c n r → IsClosure f old m c → FrameStands f new m r
frame-opened f old new c n m r o stands = record { count = o.frame.count; rows = o.frame.rows; environment_stands = o.stands m stands }

no-trees : (ts : List Tree) → length ts ≡ 0 → ts ≡ []
no-trees [] e = refl
no-trees (t ∷ ts) e = absurd (omega arith)

pub over-none : (f : Meanings) (known : List (List Waiting)) (t : Tree) (r : Frame) → IsFrame f known t r → kids_of r.op ≡ 0 → t ≡ Make r.op NoTrees
over-none f known t r is count = is.whole ∙ ap (λ ts. Make r.op (trees_of ts)) (no-trees (frame_trees f known r) (count-kids f known t r 0 is count))
