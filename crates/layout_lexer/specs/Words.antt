-- How the tokens are spelled: one table for signs and words.
use Rattle.std.specs.Prelude.{ℕ, Bool, true, ◌&&◌, nat_le, List, [], ◌∷◌, length, codes}
use Rattle.layout_lexer.specs.declared.token.Kind.{Kind}
use Rattle.layout_lexer.specs.declared.token.Kind.TheVariants.{Open, Next, Close, LeftParen}
use Rattle.layout_lexer.specs.declared.token.Kind.TheVariants.{RightParen, LeftBracket}
use Rattle.layout_lexer.specs.declared.token.Kind.TheVariants.{RightBracket, Comma, Colon, Equals}
use Rattle.layout_lexer.specs.declared.token.Kind.TheVariants.{At, Star, Less, Greater, Question}
use Rattle.layout_lexer.specs.declared.token.Kind.TheVariants.{Bar, Backslash, Minus, Arrow, And}
use Rattle.layout_lexer.specs.declared.token.Kind.TheVariants.{Or, First, Second, Zero, One, Module}
use Rattle.layout_lexer.specs.declared.token.Kind.TheVariants.{Where, Import, Let, In, PathP, Comp}
use Rattle.layout_lexer.specs.declared.token.Kind.TheVariants.{Fill, Transport, GlueType, GlueTerm}
use Rattle.layout_lexer.specs.declared.token.Kind.TheVariants.{Unglue, U, Data, Hdata, Split}
use Rattle.layout_lexer.specs.declared.token.Kind.TheVariants.{Mutual, Undefined, Opaque}
use Rattle.layout_lexer.specs.declared.token.Kind.TheVariants.{Transparent, TransparentAll}
use Rattle.layout_lexer.specs.declared.token.Kind.TheVariants.{Identifier}

-- how each is spelled; no bytes spell a mark, and of names there is no one spelling
abbrev pub spelling : Kind → List ℕ
spelling LeftParen = codes "("
spelling RightParen = codes ")"
spelling LeftBracket = codes "["
spelling RightBracket = codes "]"
spelling Comma = codes ","
spelling Colon = codes ":"
spelling Equals = codes "="
spelling At = codes "@"
spelling Star = codes "*"
spelling Less = codes "<"
spelling Greater = codes ">"
spelling Question = codes "?"
spelling Bar = codes "|"
spelling Backslash = 92 ∷ []  -- \
spelling Minus = codes "-"
spelling Arrow = codes "->"
spelling And = 47 ∷ 92 ∷ []  -- /\
spelling Or = 92 ∷ 47 ∷ []  -- \/
spelling First = codes ".1"
spelling Second = codes ".2"
spelling Zero = codes "0"
spelling One = codes "1"
spelling Module = codes "module"
spelling Where = codes "where"
spelling Import = codes "import"
spelling Let = codes "let"
spelling In = codes "in"
spelling PathP = codes "PathP"
spelling Comp = codes "comp"
spelling Fill = codes "fill"
spelling Transport = codes "transport"
spelling GlueType = codes "Glue"
spelling GlueTerm = codes "glue"
spelling Unglue = codes "unglue"
spelling U = codes "U"
spelling Data = codes "data"
spelling Hdata = codes "hdata"
spelling Split = codes "split"
spelling Mutual = codes "mutual"
spelling Undefined = codes "undefined"
spelling Opaque = codes "opaque"
spelling Transparent = codes "transparent"
spelling TransparentAll = codes "transparent_all"
spelling Open = []
spelling Next = []
spelling Close = []
spelling Identifier = []

-- the signs: tokens that are no names
abbrev pub signs : List Kind
signs =
    LeftParen ∷ RightParen ∷ LeftBracket ∷ RightBracket ∷
    Comma ∷ Colon ∷ Equals ∷ At ∷ Star ∷ Less ∷ Greater ∷
    Question ∷ Bar ∷ Backslash ∷ Minus ∷ Arrow ∷ And ∷ Or ∷ First ∷ Second ∷ Zero ∷ One ∷ []

-- the spellings are at least so long, and none is longer than a later one
abbrev pub rises : ℕ → List Kind → Bool
rises least [] = true
rises least (kind ∷ kinds) =
    nat_le least (length (spelling kind)) && rises (length (spelling kind)) kinds
