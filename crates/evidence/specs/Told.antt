-- What is told of evidence.
use Rattle.std.specs.Prelude.{◌≡◌, ◌≢◌, ℕ, List, [], ◌∷◌, Option, Some, None, IfSome}
use Rattle.trees.specs.declared.op.Op.{Op}
use Rattle.trees.specs.Language.{TyEq}
use Rattle.trees.specs.declared.op.Op.TheVariants as op
use Rattle.normal_parts.specs.Normal.{Begins}
use Rattle.trees.specs.Trees.{Tree, Make, NoTrees}
use Rattle.trees.specs.Judgements.{Context, Judgement}
use Rattle.trees.specs.Things.{ATree}
use Rattle.book.specs.Contents.{Contents}
use Rattle.book.specs.Shown.{book_concludes, book_means}
use Rattle.book_writer.specs.Written.{IsWritten}
use Rattle.rows.specs.declared.views.TermId.{TermId}
use Rattle.evidence.specs.declared.sides.Sort.{Sort}
use Rattle.evidence.specs.declared.aligned.Equated.{Equated}
use Rattle.evidence.specs.declared.lines.Evidence.{Evidence}
use Rattle.evidence.specs.declared.texts.Shown.{Shown}
use Rattle.evidence.specs.declared.texts.Shown.TheVariants as shown
use Rattle.evidence.specs.Contexts.{IsNormalIn}
use Rattle.evidence.specs.Evidence.{ShowsType, ShowsTwo}
use Rattle.evidence.specs.Lines.{lines_of}
use Rattle.evidence.specs.Sides.{IsEquation}
use Rattle.evidence.specs.Texts.{AreTwoTexts, IsTypeText}

-- this is shown, and there is a file with these roots
pub record IsOf (texts : Shown) (Js : List Judgement) (e : Evidence) : Type 0 where
  pub shown_is : e.shown ≡ texts
  pub rows : ℕ
  pub written : IsWritten e.bytes.items rows Js

-- the file derives that a type is equal to a normal one, which does not begin with that operator,
-- if one is named, and is shown
pub record IsTypeShown (unwanted : Option Op) (e : Evidence) : Type 0 where
  pub context : Context
  pub normal : Tree
  pub other : IfSome unwanted (λ o. Begins o normal → ⊥)
  pub roots : List Judgement
  pub rows : ℕ
  pub written : IsWritten e.bytes.items rows roots
  pub shows : ShowsType context normal roots (lines_of e.shown)
  pub text : IsTypeText context normal e.shown

-- it derives that a type is the universe, and nothing is shown
pub record IsUniverse (e : Evidence) : Type 0 where
  pub context : Context
  pub type : Tree
  pub rows : ℕ
  pub written : IsWritten e.bytes.items rows (TyEq context type (Make op.U NoTrees) ∷ [])
  pub shown_is : e.shown ≡ shown.Nothing

-- it derives that two trees are equal to two normal ones, which differ and are shown
pub record TwoShown (face : Option Tree) (e : Evidence) : Type 0 where
  pub roots : List Judgement
  pub rows : ℕ
  pub written : IsWritten e.bytes.items rows roots
  pub shows : ShowsTwo face roots (lines_of e.shown)
  pub texts : AreTwoTexts face shows.context shows.found shows.wanted e.shown

-- on a face, if a row of one is named
abbrev pub AreShown : Option TermId → Evidence → Type 0
AreShown None e = TwoShown None e
AreShown (Some row) e = (p : Tree) × TwoShown (Some p) e

-- it derives that two types are equal, and that they are equal to two normal ones, which differ and
-- are shown
pub record IsUnaligned (e : Evidence) : Type 0 where
  pub context : Context
  pub left : Tree
  pub right : Tree
  pub found : Tree
  pub wanted : Tree
  pub rows : ℕ
  pub written : IsWritten e.bytes.items rows
      (TyEq context left right ∷ TyEq context left found ∷ TyEq context right wanted ∷ [])
  pub found_normal : IsNormalIn context found
  pub wanted_normal : IsNormalIn context wanted
  pub differ : found ≢ wanted
  pub texts : AreTwoTexts None context found wanted e.shown

-- two types that are equal, and what each is equal to
pub record AreEquated (b : Contents) (nodes : Equated) : Type 0 where
  pub context : Context
  pub left : Tree
  pub right : Tree
  pub one : Tree
  pub other : Tree
  pub types_is : book_concludes b nodes.types.0 ≡ Some (TyEq context left right)
  pub found_is : book_concludes b nodes.found.0 ≡ Some (TyEq context left one)
  pub wanted_is : book_concludes b nodes.wanted.0 ≡ Some (TyEq context right other)

-- an equation of types in G, with a right side that is normal
pub record IsNormalType (b : Contents) (G : Context) (equation right : ℕ) : Type 0 where
  pub normal : Tree
  pub right_is : book_means b right ≡ Some (ATree normal)
  pub is_normal : IsNormalIn G normal
  pub type : Tree
  pub equation_is : book_concludes b equation ≡ Some (TyEq G type normal)

-- two equations of one sort in G, with right sides that are normal and differ
pub record AreTwo (b : Contents) (G : Context) (found wanted left right : ℕ) : Type 0 where
  pub sort : Sort
  pub one : Tree
  pub other : Tree
  pub left_is : book_means b left ≡ Some (ATree one)
  pub right_is : book_means b right ≡ Some (ATree other)
  pub left_normal : IsNormalIn G one
  pub right_normal : IsNormalIn G other
  pub differ : one ≢ other
  pub found_is : IsEquation sort G one (book_concludes b found)
  pub wanted_is : IsEquation sort G other (book_concludes b wanted)
