-- Systems, which are lists of sides, and filling.
use Rattle.std.specs.Prelude.{List, [], ◌∷◌, map}
use Rattle.trees.specs.Trees.{Tree, apply, push, up}
use Rattle.translation.specs.Terms.{lifted, lifted_line, innermost, f0, f1, eq0, meet, join, min}
use Rattle.translation.specs.Terms.{sys, empty, comp, plam}

-- a face, and what stands on it
pub record On (A : Type 0) : Type 0 where
  pub face : Tree
  pub value : A

abbrev pub on : {A : Type 0} → Tree → A → On A
on p a = record { face = p; value = a }

abbrev pub each : {A B : Type 0} → (A → B) → On A → On B
each f s = on s.face (f s.value)

-- where one of the sides stands
abbrev pub cover : {A : Type 0} → List (On A) → Tree
cover [] = f0
cover (s ∷ ss) = join s.face (cover ss)

-- the tree that is each side on its face
abbrev pub body : List (On Tree) → Tree
body [] = empty
body (s ∷ ss) = sys s.face (cover ss) s.value (body ss)

-- Sides that are lines over a name: the faces stand outside it.
abbrev pub line_body : List (On Tree) → Tree
line_body ss = body (map (λ s. on (lifted s.face) s.value) ss)

-- the meet of faces, nested to the right
abbrev pub meet_of : List Tree → Tree
meet_of [] = f1
meet_of (p ∷ []) = p
meet_of (p ∷ q ∷ ps) = meet p (meet_of (q ∷ ps))

-- the line A over a name, taken at the formula r of a context with one more name
abbrev pub along : Tree → Tree → Tree
along A r = apply A (push up r)

-- `Fill(i.A, p, i.b, a, r) = comp(j.A{min r j}, [p -> b{min r j}, (r=0) -> a], a)`
abbrev pub fill : Tree → Tree → Tree → Tree → Tree → Tree
fill A p b a r =
    let here : Tree = min (lifted r) innermost in
    let sides : List (On Tree) = on p (along b here) ∷ on (eq0 r) (lifted a) ∷ [] in
    comp (along A here) (cover sides) (line_body sides) a

-- the path that filling makes, from a to the composition
abbrev pub filling : Tree → Tree → Tree → Tree → Tree
filling A p b a = plam (fill (lifted_line A) (lifted p) (lifted_line b) (lifted a) innermost)
