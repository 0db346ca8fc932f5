-- Types and terms by their nodes. A type of H stands at home in another context, under a
-- substitution from H.
use Rattle.std.specs.Prelude.{◌≡◌, Option, Some, None}
use Rattle.trees.specs.Trees.{Tree, Subst, apply}
use Rattle.trees.specs.Judgements.{Context, WithVar, WithName, Judgement, trees}
use Rattle.trees.specs.Language.{Ty, Tm, Sb}
use Rattle.substitution.specs.Forms.{lift}
use Rattle.rules.specs.Table.{at, i0, i1}
use Rattle.book.specs.Contents.{Contents}
use Rattle.book.specs.Shown.{book_concludes}
use Rattle.book.specs.declared.kernel.NodeId.{NodeId}
use Rattle.typed_nodes.specs.declared.types.TypeAt.{TypeAt}
use Rattle.typed_nodes.specs.declared.types.Typed.{Typed}
use Rattle.typed_nodes.specs.declared.types.Family.{Family}
use Rattle.typed_nodes.specs.declared.types.Line.{Line}

abbrev pub Says : Contents → NodeId → Judgement → Type 0
Says b n J = book_concludes b n.0 ≡ Some J

-- A of `G >> A`, and a of `G >> a : A`
abbrev pub subject_of : Judgement → Option Tree
subject_of (Ty G A) = Some A
subject_of (Tm G a A) = Some a
subject_of _ = None

-- `H >> A`
pub record IsTypeAt (b : Contents) (ty : TypeAt) (H : Context) (A : Tree) : Type 0 where
  pub home : Context
  pub tree : Tree
  pub sub : Subst
  pub type_is : Says b ty.ty (Ty home tree)
  pub sub_is : Says b ty.sub (Sb H sub home)
  pub is : A ≡ apply tree sub

-- `H >> a : A`
pub record IsTyped (b : Contents) (typed : Typed) (H : Context) (a A : Tree) : Type 0 where
  pub term_is : Says b typed.term (Tm H a A)
  pub type_at : IsTypeAt b typed.ty H A

-- `H >> A` and `H.A >> B`, the parts of a type of functions or pairs
pub record IsFamily (b : Contents) (family : Family) (H : Context) (A B : Tree) : Type 0 where
  pub home : Context
  pub domain : Tree
  pub codomain : Tree
  pub sub : Subst
  pub domain_is : Says b family.domain (Ty home domain)
  pub codomain_is : Says b family.codomain (Ty (WithVar home domain) codomain)
  pub sub_is : Says b family.sub (Sb H sub home)
  pub left : A ≡ apply domain sub
  pub right : B ≡ apply codomain (lift trees sub)

-- `H.I >> A`, `H >> u : A{0}` and `H >> v : A{1}`, the parts of a type of paths
pub record IsLine (b : Contents) (line : Line) (H : Context) (A u v : Tree) : Type 0 where
  pub home : Context
  pub tree : Tree
  pub start : Tree
  pub end : Tree
  pub sub : Subst
  pub line_is : Says b line.ty (Ty (WithName home) tree)
  pub left_is : Says b line.left (Tm home start (at trees tree (i0 trees)))
  pub right_is : Says b line.right (Tm home end (at trees tree (i1 trees)))
  pub sub_is : Says b line.sub (Sb H sub home)
  pub is : A ≡ apply tree (lift trees sub)
  pub left : u ≡ apply start sub
  pub right : v ≡ apply end sub
