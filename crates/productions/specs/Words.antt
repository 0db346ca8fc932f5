-- Tokens as the grammar sees them.
use Rattle.std.specs.Prelude.{ℕ, List, map}
use Rattle.layout_lexer.specs.declared.token.Kind.{Kind}
use Rattle.layout_lexer.specs.declared.token.Kind.TheVariants as K
use Rattle.layout_lexer.specs.declared.token.Token.{Token}
use Rattle.layout_lexer.specs.declared.token.Span.{Span}
use Rattle.syntax.specs.declared.formula.End.{End}
use Rattle.syntax.specs.declared.formula.End.TheVariants as E

-- ".1" and ".2"
pub data Half : Type 0 where
  First : Half
  Second : Half

-- "comp" and "fill"
pub data Composing : Type 0 where
  Composed : Composing
  Filled : Composing

-- "Glue", "glue" and "unglue"
pub data Gluing : Type 0 where
  GluedType : Gluing
  GluedTerm : Gluing
  Unglued : Gluing

-- the words that begin a form, by what follows them: two expressions or more, or one with a system
pub data Pairing : Type 0 where
  PathWord : Pairing
  ComposingWord : Composing → Pairing
  TransportWord : Pairing

pub data FormWord : Type 0 where
  PairingWord : Pairing → FormWord
  GluingWord : Gluing → FormWord

pub data Word : Type 0 where
  Open : Word
  Next : Word
  Close : Word
  LeftParen : Word
  RightParen : Word
  LeftBracket : Word
  RightBracket : Word
  Comma : Word
  Colon : Word
  Equals : Word
  AtSign : Word
  Star : Word
  Less : Word
  Greater : Word
  Backslash : Word
  Minus : Word
  To : Word
  And : Word
  Or : Word
  Dot : Half → Word
  EndOf : End → Word
  ModuleWord : Word
  WhereWord : Word
  ImportWord : Word
  LetWord : Word
  InWord : Word
  Form : FormWord → Word
  UniverseWord : Word
  Identifier : Word
  -- a word or sign that no module has
  Refused : Word

abbrev pub word_of : Kind → Word
word_of K.Open = Open
word_of K.Next = Next
word_of K.Close = Close
word_of K.LeftParen = LeftParen
word_of K.RightParen = RightParen
word_of K.LeftBracket = LeftBracket
word_of K.RightBracket = RightBracket
word_of K.Comma = Comma
word_of K.Colon = Colon
word_of K.Equals = Equals
word_of K.At = AtSign
word_of K.Star = Star
word_of K.Less = Less
word_of K.Greater = Greater
word_of K.Backslash = Backslash
word_of K.Minus = Minus
word_of K.Arrow = To
word_of K.And = And
word_of K.Or = Or
word_of K.First = Dot First
word_of K.Second = Dot Second
word_of K.Zero = EndOf E.Zero
word_of K.One = EndOf E.One
word_of K.Module = ModuleWord
word_of K.Where = WhereWord
word_of K.Import = ImportWord
word_of K.Let = LetWord
word_of K.In = InWord
word_of K.PathP = Form (PairingWord PathWord)
word_of K.Comp = Form (PairingWord (ComposingWord Composed))
word_of K.Fill = Form (PairingWord (ComposingWord Filled))
word_of K.Transport = Form (PairingWord TransportWord)
word_of K.GlueType = Form (GluingWord GluedType)
word_of K.GlueTerm = Form (GluingWord GluedTerm)
word_of K.Unglue = Form (GluingWord Unglued)
word_of K.U = UniverseWord
word_of K.Identifier = Identifier
word_of K.Question = Refused
word_of K.Bar = Refused
word_of K.Data = Refused
word_of K.Hdata = Refused
word_of K.Split = Refused
word_of K.Mutual = Refused
word_of K.Undefined = Refused
word_of K.Opaque = Refused
word_of K.Transparent = Refused
word_of K.TransparentAll = Refused

-- a token: its word, where it starts and where it ends
pub data Piece : Type 0 where
  piece : Word → ℕ → ℕ → Piece

abbrev pub piece_of : Token → Piece
piece_of t = piece (word_of t.kind) t.start t.end

abbrev pub pieces : List Token → List Piece
pieces = map piece_of

abbrev pub span : ℕ → ℕ → Span
span s e = record { start = s; end = e }
