-- Pairs of patterns that mean the same at all parts, and that the test finds the same.
use Rattle.std.specs.Prelude.{◌≡◌, ℕ, Bool, List, [], ◌∷◌, ◌++◌, codes}
use Rattle.trees.specs.Language.{Ty, Sb}
use Rattle.trees.specs.Judgements.{trees}
use Rattle.substitution.specs.Forms.{at, weaken, lift}
use Rattle.patterns.specs.Patterns.{Pattern, Part, Index, Under, SubstPattern, SubstPart, ShiftBy}
use Rattle.patterns.specs.Patterns.{Pushed, Then, ContextPattern, ContextPart, AddVar, AddName}
use Rattle.patterns.specs.Patterns.{JudgementPattern, patterns}
use Rattle.patterns.specs.Values.{Parts, judgement_of}
use Rattle.patterns.specs.Tests.{same_judgement}
use Rattle.patterns.specs.Built.{i0, i1, min, univ, lam, fill_line}

pub record Example : Type 0 where
  pub name : List ℕ
  pub left : JudgementPattern
  pub right : JudgementPattern

-- the test finds the two sides the same
abbrev pub is_found_same : Example → Bool
is_found_same e = same_judgement e.left e.right

-- the two sides mean the same, whatever the parts are
abbrev pub HoldsAtAll : Example → Type 0
HoldsAtAll e = (parts : Parts trees) → judgement_of parts e.left ≡ judgement_of parts e.right

-- the parts: contexts G and H, a substitution d : H to G, and trees of G, or of G with one more
-- entry
abbrev G : ContextPattern
G = ContextPart 0

abbrev H : ContextPattern
H = ContextPart 1

abbrev d : SubstPattern
d = SubstPart 2

abbrev A : Pattern
A = Part 3

abbrev a : Pattern
a = Part 4

abbrev r : Pattern
r = Part 5

-- a tree of G under d, and one of G with one more entry
abbrev sub : Pattern → Pattern
sub t = Under t d

abbrev sub1 : Pattern → Pattern
sub1 t = Under t (lift patterns d)

abbrev same_type : List ℕ → ContextPattern → Pattern → Pattern → Example
same_type name K p q = record { name = name; left = Ty K p; right = Ty K q }

abbrev same_list : List ℕ → SubstPattern → SubstPattern → Example
same_list name x y = record { name = name; left = Sb H x G; right = Sb H y G }

abbrev e : SubstPattern
e = SubstPart 6

abbrev f : SubstPattern
f = SubstPart 7

-- the two innermost indices exchanged
abbrev exchange : SubstPattern
exchange = Pushed (Pushed (ShiftBy 2) (Index 0)) (Index 1)

-- the laws of substitution, as equations of trees or, behind `Sb`, of lists and shifts
abbrev pub law_examples : List Example
law_examples =
    same_type (codes "A[id] = A") G (Under A (ShiftBy 0)) A
    ∷ same_type (codes "A[d][e] = A[d then e]") G (Under (Under A d) e) (Under A (Then d e))
    ∷ same_list (codes "(d then e) then f = d then (e then f)")
    (Then (Then d e) f) (Then d (Then e f))
    ∷ same_list (codes "id then d = d") (Then (ShiftBy 0) d) d
    ∷ same_list (codes "d then id = d") (Then d (ShiftBy 0)) d
    ∷ same_list (codes "up then (push d a) = d") (Then (ShiftBy 1) (Pushed d a)) d
    ∷ same_type (codes "push up (var 0) acts as id") G (Under A (Pushed (ShiftBy 1) (Index 0))) A
    ∷ same_type (codes "push (up then d) (0[d]) acts as d") G
    (Under A (Pushed (Then (ShiftBy 1) d) (Under (Index 0) d))) (Under A d)
    ∷ same_type (codes "A+{a} = A") G (at patterns (weaken patterns A) a) A
    ∷ same_type (codes "a function for the index of another") G
    (Under (lam univ (Index 1))
    (Pushed (ShiftBy 0) (lam univ (Index 0))))
    (lam univ (lam univ (Index 0)))
    ∷ same_type (codes "an exchange undoes itself") G (Under (Under A exchange) exchange) A
    ∷ []

-- one face of the name: the innermost index becomes an end
abbrev end : Pattern → SubstPattern
end e = Pushed (ShiftBy 0) e

-- The line `j. A{min r j}` of filling: at the ends of r, where r is the last name of G.I; at the
-- ends of j; and under d.
abbrev pub filling_examples : List Example
filling_examples =
    same_type (codes "r = 0") (AddName G)
    (Under (fill_line (Under A (lift patterns (ShiftBy 1))) (Index 0))
    (lift patterns (end i0)))
    (fill_line A i0)
    ∷ same_type (codes "r = 1") (AddName G)
    (Under (fill_line (Under A (lift patterns (ShiftBy 1))) (Index 0))
    (lift patterns (end i1)))
    (fill_line A i1)
    ∷ same_type (codes "j = 0") G
    (at patterns (fill_line A r) i0)
    (at patterns A (min r i0))
    ∷ same_type (codes "j = 1") G
    (at patterns (fill_line A r) i1)
    (at patterns A (min r i1))
    ∷ same_type (codes "under d") (AddName H)
    (Under (fill_line A r) (lift patterns d))
    (fill_line (sub1 A) (sub r))
    ∷ []

abbrev pub every_example : List Example
every_example = filling_examples ++ law_examples
