-- What the file of one module holds, and how that is read.
use Rattle.std.specs.Prelude.{◌≡◌, ◌≢◌, ℕ, List, length}
use Rattle.std.specs.Prelude.{None, Some, Option, Result, Ok, Err, string_bytes}
use Rattle.host_io.specs.Counts.{FileCounts, counted_fetch}
use Rattle.host_io.specs.Files.{Held, HoldsAt}
use Rattle.host_io.specs.declared.files.Fetched.TheVariants as fetched
use Rattle.layout_lexer.specs.declared.token.Token.{Token}
use Rattle.layout_lexer.specs.declared.fault.LexFault.{LexFault}
use Rattle.layout_lexer.specs.declared.fault.LexFault.TheVariants as lex_fault
use Rattle.layout_lexer.specs.Texts.{tokens_of}
use Rattle.syntax.specs.Tree.{Tree}
use Rattle.productions.specs.Words.{pieces}
use Rattle.productions.specs.Grammar.{IsModule}
use Rattle.grammar.specs.declared.reading.ReadFault.{ReadFault}
use Rattle.grammar.specs.declared.reading.ReadFault.TheVariants as read_fault
use Rattle.grammar.specs.Faults.{IsRead, IsFault}
use Rattle.module_texts.specs.Texts.{Text, path_of}
use Rattle.loading.specs.declared.text.LoadFault.{LoadFault}
use Rattle.loading.specs.declared.text.LoadFault.TheVariants as fault

-- the bytes have these tokens, which are read so
pub record ReadsAs (bytes : List ℕ) (m : Tree) : Type 0 where
  pub tokens : List Token
  pub spelled : tokens_of bytes ≡ Ok tokens
  pub read : IsRead IsModule (pieces tokens) m

-- the bytes have no tokens, since there is that fault
pub record HasNoTokens (bytes : List ℕ) (f : LexFault) : Type 0 where
  pub fails : tokens_of bytes ≡ Err f
  pub known : f ≢ lex_fault.Memory

-- the tokens of the bytes are no module, since there is that fault
pub record IsNoModule (bytes : List ℕ) (f : ReadFault) : Type 0 where
  pub tokens : List Token
  pub spelled : tokens_of bytes ≡ Ok tokens
  pub fails : IsFault IsModule (length bytes) (pieces tokens) f
  pub known : f ≢ read_fault.Memory

-- when bytes that a path holds are no module, with this fault
abbrev pub FailsIn : List ℕ → List ℕ → LoadFault → Type 0
FailsIn bytes path (fault.NoTokens f at) = (string_bytes at ≡ path) × HasNoTokens bytes f
FailsIn bytes path (fault.NoModule f at) = (string_bytes at ≡ path) × IsNoModule bytes f
FailsIn bytes path fault.Memory = Unit {0}
FailsIn bytes path f = ⊥

-- the file of that name holds the module's bytes, which are read so
pub record IsText (held : Option Held) (name : List ℕ) (x : Text) : Type 0 where
  pub named : x.name ≡ name
  pub holds : HoldsAt held (path_of name) (Some x.bytes)
  pub reads : ReadsAs x.bytes x.tree

-- when the module of that name is not read, with this fault
abbrev pub FailsAt : Option Held → List ℕ → LoadFault → Type 0
FailsAt held name (fault.Missing path) =
    (string_bytes path ≡ path_of name) × HoldsAt held (path_of name) None
FailsAt held name fault.Unreadable = Unit {0}
FailsAt held name fault.Memory = Unit {0}
FailsAt held name f =
    (bytes : List ℕ) × HoldsAt held (path_of name) (Some bytes) × FailsIn bytes (path_of name) f

-- what is counted of the fetches: one that ends with Missing or Failed is the last
abbrev pub CountsAfter : {X : Type 0} → Result X LoadFault → FileCounts → FileCounts → Type 0
CountsAfter (Err (fault.Missing path)) old new = new ≡ counted_fetch fetched.Missing old
CountsAfter (Err fault.Unreadable) old new = new ≡ counted_fetch fetched.Failed old
CountsAfter result old new = new ≡ old
