-- The kids of an operator, counted.
use Rattle.std.proofs.Common.{◌≡◌, ℕ, List, [], ◌∷◌, length, refl, sym, ◌∙◌, ap, arith}
use Rattle.trees.specs.Operators.{kids_of}
use Rattle.trees.specs.Trees.{Tree}
use Rattle.trees.specs.Things.{Meanings}
use Rattle.closures.specs.declared.closure.Closure.{Closure}
use Rattle.closures.specs.Environments.{Waiting, listed}
use Rattle.tree_frames.specs.declared.frames.Frame.{Frame}
use Rattle.tree_frames.specs.Frames.{tree_in, frame_trees, FrameStands, IsKidAt}
use Rattle.tree_frames.proofs.FrameLaws.{length-kid_trees}

pub count-of : (f : Meanings) (k : List (List Waiting)) (m : ℕ) (r : Frame) → FrameStands f k m r → length (frame_trees f k r) ≡ kids_of r.op
count-of f k m r stands = length-kid_trees f (listed k r.environment) r.op 0 r.kids.now ∙ stands.count

pub record Two (ts : List Tree) : Type 0 where
  pub a : Tree
  pub b : Tree
  pub whole : ts ≡ a ∷ b ∷ []

pub record Three (ts : List Tree) : Type 0 where
  pub a : Tree
  pub b : Tree
  pub c : Tree
  pub whole : ts ≡ a ∷ b ∷ c ∷ []

pub record Four (ts : List Tree) : Type 0 where
  pub a : Tree
  pub b : Tree
  pub c : Tree
  pub d : Tree
  pub whole : ts ≡ a ∷ b ∷ c ∷ d ∷ []

pub two : (ts : List Tree) → length ts ≡ 2 → Two ts
two (a ∷ b ∷ []) e = record { a = a; b = b; whole = refl }
two _ e = absurd (omega arith)

pub three : (ts : List Tree) → length ts ≡ 3 → Three ts
three (a ∷ b ∷ c ∷ []) e = record { a = a; b = b; c = c; whole = refl }
three _ e = absurd (omega arith)

pub four : (ts : List Tree) → length ts ≡ 4 → Four ts
four (a ∷ b ∷ c ∷ d ∷ []) e = record { a = a; b = b; c = c; d = d; whole = refl }
four _ e = absurd (omega arith)

pub two-kids : (f : Meanings) (k : List (List Waiting)) (r : Frame) (a b : Closure) → length (frame_trees f k r) ≡ 2 → IsKidAt f k r 0 a → IsKidAt f k r 1 b → frame_trees f k r ≡ tree_in f k a ∷ tree_in f k b ∷ []
two-kids f k r a b count k0 k1 =
    let q = two (frame_trees f k r) count in
    let first : tree_in f k a ≡ q.a = k0.tree [] (q.b ∷ []) q.a refl q.whole in
    let second : tree_in f k b ≡ q.b = k1.tree (q.a ∷ []) [] q.b refl q.whole in
    cc (q.whole, first, second)

pub three-kids : (f : Meanings) (k : List (List Waiting)) (r : Frame) (a b c : Closure) → length (frame_trees f k r) ≡ 3 → IsKidAt f k r 0 a → IsKidAt f k r 1 b → IsKidAt f k r 2 c
    → frame_trees f k r ≡ tree_in f k a ∷ tree_in f k b ∷ tree_in f k c ∷ []
three-kids f k r a b c count k0 k1 k2 =
    let q = three (frame_trees f k r) count in
    let first : tree_in f k a ≡ q.a = k0.tree [] (q.b ∷ q.c ∷ []) q.a refl q.whole in
    let second : tree_in f k b ≡ q.b = k1.tree (q.a ∷ []) (q.c ∷ []) q.b refl q.whole in
    let third : tree_in f k c ≡ q.c = k2.tree (q.a ∷ q.b ∷ []) [] q.c refl q.whole in
    cc (q.whole, first, second, third)

pub four-kids : (f : Meanings) (k : List (List Waiting)) (r : Frame) (a b c d : Closure) → length (frame_trees f k r) ≡ 4 → IsKidAt f k r 0 a → IsKidAt f k r 1 b → IsKidAt f k r 2 c → IsKidAt f k r 3 d
    → frame_trees f k r ≡ tree_in f k a ∷ tree_in f k b ∷ tree_in f k c ∷ tree_in f k d ∷ []
four-kids f k r a b c d count k0 k1 k2 k3 =
    let q = four (frame_trees f k r) count in
    let first : tree_in f k a ≡ q.a = k0.tree [] (q.b ∷ q.c ∷ q.d ∷ []) q.a refl q.whole in
    let second : tree_in f k b ≡ q.b = k1.tree (q.a ∷ []) (q.c ∷ q.d ∷ []) q.b refl q.whole in
    let third : tree_in f k c ≡ q.c = k2.tree (q.a ∷ q.b ∷ []) (q.d ∷ []) q.c refl q.whole in
    let fourth : tree_in f k d ≡ q.d = k3.tree (q.a ∷ q.b ∷ q.c ∷ []) [] q.d refl q.whole in
    cc (q.whole, first, second, third, fourth)
