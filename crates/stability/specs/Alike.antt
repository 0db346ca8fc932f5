-- The trees by which forms of a text are said to mean something, and those of the table of rules.
use Rattle.std.specs.Prelude.{◌≡◌, List, map}
use Rattle.trees.specs.Trees.{Tree}
use Rattle.trees.specs.Judgements.{trees}
use Rattle.translation.specs.Terms as form
use Rattle.translation.specs.Systems as form_of
use Rattle.translation.specs.Systems.{On}
use Rattle.rules.specs.Table as table
use Rattle.rules.specs.Table.{Side}

-- of formulas and faces
pub record SameOperators : Type 0 where
  pub i0 : form.i0 ≡ table.i0 trees
  pub i1 : form.i1 ≡ table.i1 trees
  pub neg : (r : Tree) → form.neg r ≡ table.neg trees r
  pub min : (r s : Tree) → form.min r s ≡ table.min trees r s
  pub f0 : form.f0 ≡ table.f0 trees
  pub eq0 : (r : Tree) → form.eq0 r ≡ table.eq0 trees r
  pub eq1 : (r : Tree) → form.eq1 r ≡ table.eq1 trees r
  pub join : (p q : Tree) → form.join p q ≡ table.join trees p q

-- of types and terms
pub record SameTerms : Type 0 where
  pub universe : form.universe ≡ table.universe trees
  pub pi : (A B : Tree) → form.pi A B ≡ table.pi trees A B
  pub lam : (A b : Tree) → form.lam A b ≡ table.lam trees A b
  pub app : (f a : Tree) → form.app f a ≡ table.app trees f a
  pub sig : (A B : Tree) → form.sig A B ≡ table.sig trees A B
  pub pair : (a b : Tree) → form.pair a b ≡ table.pair trees a b
  pub fst : (c : Tree) → form.fst c ≡ table.fst trees c
  pub snd : (c : Tree) → form.snd c ≡ table.snd trees c
  pub pathp : (A u v : Tree) → form.pathp A u v ≡ table.pathp trees A u v
  pub plam : (b : Tree) → form.plam b ≡ table.plam trees b
  pub papp : (c r : Tree) → form.papp c r ≡ table.papp trees c r
  pub nat : form.nat ≡ table.nat trees
  pub zero : form.zero ≡ table.zero trees
  pub suc : (n : Tree) → form.suc n ≡ table.suc trees n
  pub natrec : (P a b n : Tree) → form.natrec P a b n ≡ table.natrec trees P a b n
  pub sys : (p q a b : Tree) → form.sys p q a b ≡ table.sys trees p q a b
  pub empty : form.empty ≡ table.empty trees
  pub comp : (A p b a : Tree) → form.comp A p b a ≡ table.comp trees A p b a
  pub glue_type : (A p T w : Tree) → form.glue_type A p T w ≡ table.glue_type trees A p T w
  pub glue : (p c a : Tree) → form.glue p c a ≡ table.glue trees p c a
  pub unglue : (p T w b : Tree) → form.unglue p T w b ≡ table.unglue trees p T w b
  pub lifted : (A : Tree) → form.lifted A ≡ table.weakened trees A

-- a side of a text, as one of the table
abbrev pub side_of : On Tree → Side Tree
side_of s = table.side trees s.face s.value

abbrev pub sides_of : List (On Tree) → List (Side Tree)
sides_of = map side_of

-- of systems: the face where some side stands, the sides as a tree, sides over a name, a line along
-- a formula, and filling
pub record SameSystems : Type 0 where
  pub cover : (S : List (On Tree)) → form_of.cover S ≡ table.cover trees (sides_of S)
  pub body : (S : List (On Tree)) → form_of.body S ≡ table.body trees (sides_of S)
  pub line_body : (S : List (On Tree))
      → form_of.line_body S ≡ table.body trees (table.over_name trees (sides_of S))
  pub along : (A r : Tree) → form_of.along A r ≡ table.along trees A r
  pub fill : (A p b a r : Tree) → form_of.fill A p b a r ≡ table.fill trees A p b a r
