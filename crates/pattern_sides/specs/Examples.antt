-- Side conditions that follow from declared ones, and some that do not.
use Rattle.std.specs.Prelude.{List, [], ◌∷◌, map, Bool, not, codes, ℕ}
use Rattle.trees.specs.declared.op.Op.TheVariants as O
use Rattle.trees.specs.Language.{IsFormula, IsFace, Holds, Alike}
use Rattle.patterns.specs.Patterns.{Pattern, Part, Index, Build, Under, ShiftBy, Pushed}
use Rattle.patterns.specs.Patterns.{patterns_of}
use Rattle.patterns.specs.Patterns.{ContextPattern, ContextPart, AddVar, AddName, AddFace}
use Rattle.patterns.specs.Patterns.{ConditionPattern, SubstPattern, SubstPart}
use Rattle.patterns.specs.Values.{tested_of}
use Rattle.patterns.specs.Built.{i0, i1, min}
use Rattle.patterns.specs.Normals.{normals, unknown}
use Rattle.pattern_sides.specs.Follows.{follows}

pub record Example : Type 0 where
  pub name : List ℕ
  pub facts : List ConditionPattern
  pub condition : ConditionPattern

abbrev pub does_follow : Example → Bool
does_follow e =
    follows (map (tested_of normals unknown) e.facts) (tested_of normals unknown e.condition)

abbrev pub does_not_follow : Example → Bool
does_not_follow e = not (does_follow e)

-- a context G, a substitution d, a face p and a formula r of G, and a face q of `G.I`
abbrev G : ContextPattern
G = ContextPart 0

abbrev p : Pattern
p = Part 1

abbrev r : Pattern
r = Part 2

abbrev d : SubstPattern
d = SubstPart 3

abbrev q : Pattern
q = Part 5

abbrev up : Pattern → Pattern
up t = Under t (ShiftBy 1)

abbrev neg : Pattern → Pattern
neg t = Build O.Neg (patterns_of (t ∷ []))

abbrev f0 : Pattern
f0 = Build O.F0 (patterns_of [])

abbrev eq0 : Pattern → Pattern
eq0 t = Build O.Eq0 (patterns_of (t ∷ []))

abbrev eq1 : Pattern → Pattern
eq1 t = Build O.Eq1 (patterns_of (t ∷ []))

abbrev join : Pattern → Pattern → Pattern
join s t = Build O.Join (patterns_of (s ∷ t ∷ []))

abbrev all : Pattern → Pattern
all t = Build O.All (patterns_of (t ∷ []))

-- the name of `G.I`
abbrev j : Pattern
j = Index 0

abbrev declared : List ConditionPattern
declared = IsFace G p ∷ IsFormula G r ∷ IsFace (AddName G) q ∷ []

abbrev example : List ℕ → ConditionPattern → Example
example name c = record { name = name; facts = declared; condition = c }

-- `(r=0)`, and its union with p
abbrev side : Pattern
side = join (eq0 r) f0

abbrev either : Pattern
either = join p side

abbrev pushed : Pattern → SubstPattern
pushed t = Pushed (ShiftBy 0) t

-- q at a formula, and where q is at all of the name
abbrev q_at : Pattern → Pattern
q_at t = Under q (pushed t)

abbrev at_all : ContextPattern
at_all = AddFace G (all q)

-- in G one of p and `(r=0)` holds
abbrev one_of : List ConditionPattern
one_of = Holds G (join p (eq0 r)) ∷ declared

abbrev pub examples : List Example
examples =
    example (codes "p in G.I") (IsFace (AddName G) (up p))
    ∷ example (codes "min r j in G.I") (IsFormula (AddName G) (min (up r) j))
    ∷ example (codes "p over G.I, and then under an end of the name")
    (IsFace G (Under (up p) (pushed i0)))
    ∷ example (codes "all of p and of j = 0, in G")
    (IsFace G (Under (join (up p) (eq0 j)) (pushed r)))
    ∷ example (codes "p where p is") (Holds (AddFace G p) p)
    ∷ example (codes "p or r = 0 where p is") (Holds (AddFace G p) either)
    ∷ example (codes "the same under a name") (Holds (AddName (AddFace G p)) (up either))
    ∷ example (codes "r is not 0 and 1")
    (Holds (AddFace (AddFace G (eq0 r)) (eq1 r)) f0)
    ∷ example (codes "min r 0 is 0")
    (Alike G (pushed (min r i0)) (pushed i0))
    ∷ example (codes "min r 1 is r")
    (Alike G (pushed (min r i1)) (pushed r))
    ∷ example (codes "neg (neg r) is r")
    (Alike G (pushed (neg (neg r))) (pushed r))
    ∷ example (codes "min r j is j where r = 1")
    (Alike (AddName (AddFace G (eq1 r)))
    (Pushed (ShiftBy 1) (min (up r) j)) (Pushed (ShiftBy 1) j))
    ∷ example (codes "all of q gives q at 0") (Holds at_all (q_at i0))
    ∷ example (codes "all of q gives q at 1") (Holds at_all (q_at i1))
    ∷ example (codes "all of q gives q at r") (Holds at_all (q_at r))
    ∷ example (codes "all of q gives q at a name") (Holds (AddName at_all) q)
    ∷ example (codes "all of q, or r = 0, gives q at neg r, or r = 0")
    (Holds (AddFace G (join (all q) (eq0 r))) (join (q_at (neg r)) (eq0 r)))
    ∷ example (codes "all of q or of the name at 0 gives q at 1")
    (Holds (AddFace G (all (join q (eq0 j)))) (q_at i1))
    ∷ example (codes "r is 1 where all of the name at 0 or of r at 1 is")
    (Alike (AddFace G (all (join (eq0 j) (eq1 (up r))))) (pushed r) (pushed i1))
    ∷ record {
      name = codes "what is declared to hold, under a name and a face";
      facts = one_of;
      condition = Holds (AddName (AddFace G p)) (join (up p) (eq0 (up r)));
    }
    ∷ record {
      name = codes "p where r is 1, and p or r = 0 is declared to hold";
      facts = one_of;
      condition = Holds (AddFace G (eq1 r)) p;
    }
    ∷ record {
      name = codes "a face under an abstract substitution, declared";
      facts = IsFace G (Under p d) ∷ [];
      condition = IsFace G (Under p d);
    }
    ∷ record {
      name = codes "the same where it is";
      facts = IsFace G (Under p d) ∷ declared;
      condition = Holds (AddFace G (Under p d)) (join (Under p d) (eq0 r));
    }
    ∷ []

abbrev pub refusals : List Example
refusals =
    example (codes "an unknown tree as a face") (IsFace G (Part 4))
    ∷ example (codes "a face as a formula") (IsFormula G p)
    ∷ example (codes "a variable as a formula") (IsFormula (AddVar G (Part 4)) j)
    ∷ example (codes "an index of the base") (IsFormula G j)
    ∷ example (codes "p under a substitution that moves G") (IsFace G (Under p (ShiftBy 1)))
    ∷ example (codes "p under an abstract substitution") (IsFace G (Under p d))
    ∷ example (codes "p or r = 0 in G") (Holds G either)
    ∷ example (codes "p where p or r = 0 is") (Holds (AddFace G either) p)
    ∷ example (codes "r is 0 or 1")
    (Holds G (join (eq0 r) (eq1 r)))
    ∷ example (codes "min r (neg r) is 0")
    (Alike G (pushed (min r (neg r))) (pushed i0))
    ∷ example (codes "min r j is j")
    (Alike (AddName G) (Pushed (ShiftBy 1) (min (up r) j)) (Pushed (ShiftBy 1) j))
    ∷ example (codes "all of q where q is") (Holds (AddFace (AddName G) q) (up (all q)))
    ∷ example (codes "all of q where q at r is") (Holds (AddFace G (q_at r)) (all q))
    ∷ example (codes "all of q where q is at both ends")
    (Holds (AddFace (AddFace G (q_at i0)) (q_at i1)) (all q))
    ∷ example (codes "q at r where all of q or p is")
    (Holds (AddFace G (join (all q) p)) (q_at r))
    ∷ record {
      name = codes "p, where p or r = 0 is declared to hold";
      facts = one_of;
      condition = Holds G p;
    }
    ∷ record {
      name = codes "what is declared to hold below a face, above it";
      facts = Holds (AddFace G p) (eq0 r) ∷ declared;
      condition = Holds G (eq0 r);
    }
    ∷ record {
      name = codes "a face under an abstract substitution, in another context";
      facts = IsFace G (Under p d) ∷ declared;
      condition = IsFace (AddName G) (Under p d);
    }
    ∷ []
