-- What is said of nodes of a book is said of them where the book has grown.
use Rattle.trees.specs.Trees.{Tree}
use Rattle.trees.specs.Judgements.{Context, Judgement, WithName, WithVar, trees}
use Rattle.trees.specs.Language.{Ty, Tm, Sb}
use Rattle.rules.specs.Table.{at, i0, i1}
use Rattle.book.specs.Contents.{Contents}
use Rattle.book.specs.Shown.{Extends}
use Rattle.book.specs.declared.kernel.NodeId.{NodeId}
use Rattle.typed_nodes.specs.declared.types.TypeAt.{TypeAt}
use Rattle.typed_nodes.specs.declared.types.Typed.{Typed}
use Rattle.typed_nodes.specs.declared.types.Family.{Family}
use Rattle.typed_nodes.specs.declared.types.Line.{Line}
use Rattle.typed_nodes.specs.Typed.{Says, IsTypeAt, IsTyped, IsFamily, IsLine}

pub says_later : (old new : Contents) (node : NodeId) (J : Judgement) → Extends old new → Says old node J → Says new node J
says_later old new node J grown says = grown.conclusions node.0 J says

pub type_at_later : (old new : Contents) (ty : TypeAt) (H : Context) (A : Tree) → Extends old new → IsTypeAt old ty H A → IsTypeAt new ty H A
type_at_later old new ty H A grown is = record {
  home = is.home;
  tree = is.tree;
  sub = is.sub;
  type_is = says_later old new ty.ty (Ty is.home is.tree) grown is.type_is;
  sub_is = says_later old new ty.sub (Sb H is.sub is.home) grown is.sub_is;
  is = is.is;
}

pub typed_later : (old new : Contents) (typed : Typed) (H : Context) (a A : Tree) → Extends old new → IsTyped old typed H a A → IsTyped new typed H a A
typed_later old new typed H a A grown is = record {
  term_is = says_later old new typed.term (Tm H a A) grown is.term_is;
  type_at = type_at_later old new typed.ty H A grown is.type_at;
}

pub family_later : (old new : Contents) (family : Family) (H : Context) (A B : Tree) → Extends old new → IsFamily old family H A B → IsFamily new family H A B
family_later old new family H A B grown is = record {
  home = is.home;
  domain = is.domain;
  codomain = is.codomain;
  sub = is.sub;
  domain_is = says_later old new family.domain (Ty is.home is.domain) grown is.domain_is;
  codomain_is = says_later old new family.codomain (Ty (WithVar is.home is.domain) is.codomain) grown is.codomain_is;
  sub_is = says_later old new family.sub (Sb H is.sub is.home) grown is.sub_is;
  left = is.left;
  right = is.right;
}

pub line_later : (old new : Contents) (line : Line) (H : Context) (A u v : Tree) → Extends old new → IsLine old line H A u v → IsLine new line H A u v
line_later old new line H A u v grown is = record {
  home = is.home;
  tree = is.tree;
  start = is.start;
  end = is.end;
  sub = is.sub;
  line_is = says_later old new line.ty (Ty (WithName is.home) is.tree) grown is.line_is;
  left_is = says_later old new line.left (Tm is.home is.start (at trees is.tree (i0 trees))) grown is.left_is;
  right_is = says_later old new line.right (Tm is.home is.end (at trees is.tree (i1 trees))) grown is.right_is;
  sub_is = says_later old new line.sub (Sb H is.sub is.home) grown is.sub_is;
  is = is.is;
  left = is.left;
  right = is.right;
}
