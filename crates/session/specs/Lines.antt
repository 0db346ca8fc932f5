-- What a prompt answers to a line.
use Rattle.std.specs.Prelude.{◌≡◌, ℕ, List, ◌∷◌, [], ◌++◌, codes, drop, length, nat_eq}
use Rattle.std.specs.Prelude.{Option, None, Some, Result, Ok, Err, String, string_bytes}
use Rattle.std.specs.Prelude.{if◌then◌else◌}
use Rattle.std.specs.List.{starts_with}
use Rattle.std.specs.declared.alloc.Global.{Global}
use Rattle.layout_lexer.specs.declared.fault.LexFault.{LexFault}
use Rattle.layout_lexer.specs.declared.token.Token.{Token}
use Rattle.layout_lexer.specs.Texts.{Fails, tokens_of}
use Rattle.syntax.specs.Tree as text
use Rattle.trees.specs.Trees.{Tree}
use Rattle.trees.specs.Judgements.{Nil}
use Rattle.trees.specs.Language.{Tm, TmEq}
use Rattle.translation.specs.declared.fault.ScopeFault.{ScopeFault}
use Rattle.translation.specs.Translated.{Refuses, Translated}
use Rattle.translation.specs.Names.{Word}
use Rattle.translation.specs.Texts.{reading}
use Rattle.codes.specs.declared.code.Code.{Code}
use Rattle.codes.specs.declared.code.CodeDef.{CodeDef}
use Rattle.judgement_rows.specs.After.{term_after}
use Rattle.module_texts.specs.Texts.{Text}
use Rattle.productions.specs.Words.{pieces}
use Rattle.productions.specs.Grammar.{IsWholeExp}
use Rattle.grammar.specs.declared.reading.ReadFault.{ReadFault}
use Rattle.grammar.specs.Faults.{IsFault, IsRead}
use Rattle.derivation.specs.Derivations.{Provable}
use Rattle.normal_parts.specs.Normal.{Normal}
use Rattle.fixed_names.specs.Fixed.{none_fixed}
use Rattle.tree_texts.specs.Show.{shown}
use Rattle.evidence.specs.declared.lines.Evidence.{Evidence}
use Rattle.outcomes.specs.declared.refusal.Cause.{Cause}
use Rattle.outcomes.specs.declared.refusal.Cause.TheVariants as cause
use Rattle.outcomes.specs.declared.outcome.Outcome.{Outcome}
use Rattle.outcomes.specs.declared.outcome.Outcome.TheVariants as outcome
use Rattle.outcomes.specs.Outcomes.{plain_text}
use Rattle.outcomes.specs.Refusals.{refusal, told_lex, told_read, told_scope}
use Rattle.session.specs.Places.{span_of}
use Rattle.session.specs.Refutals.{IsEvidence}
use Rattle.session.specs.Scopes.{scope_behind}

-- The expression of a line, with blanks for a command before it, so that each byte keeps its place.
-- A line that begins with another command has none.
abbrev pub expression_in : List ℕ → Option (List ℕ)
expression_in line =
    if starts_with nat_eq line (codes ":n ") then Some (codes "   " ++ drop 3 line)
    else if starts_with nat_eq line (codes ":") then None else Some line

-- The bytes spell an expression.
pub record IsExpression (bytes : List ℕ) (e : text.Tree) : Type 0 where
  pub tokens : List Token
  pub lexed : tokens_of bytes ≡ Ok tokens
  pub read : IsRead IsWholeExp (pieces tokens) e

-- what an expression means behind all definitions
abbrev pub meant : List Text → List CodeDef → List ℕ → text.Tree → Translated Word Tree
meant texts defs bytes e = (reading bytes e).term (scope_behind texts defs)

-- Why a text is no term behind all definitions, and how that is told.
pub data NoTerm (texts : List Text) (defs : List CodeDef) (bytes : List ℕ) (told : Outcome)
    : Type 0 where
  not_lexed : (fault : LexFault) → Fails (tokens_of bytes) fault → told_lex fault None ≡ Some told
      → NoTerm texts defs bytes told
  not_read : (tokens : List Token) → tokens_of bytes ≡ Ok tokens → (fault : ReadFault)
      → IsFault IsWholeExp (length bytes) (pieces tokens) fault → told_read fault None ≡ Some told
      → NoTerm texts defs bytes told
  not_resolved : (e : text.Tree) → IsExpression bytes e → (fault : ScopeFault)
      → Refuses fault (meant texts defs bytes e).refusal → told_scope fault None ≡ Some told
      → NoTerm texts defs bytes told

-- The text spells a term behind all definitions, and the code is one that means it.
pub record IsTerm (texts : List Text) (defs : List CodeDef) (bytes : List ℕ) (t : Tree) (c : Code)
    : Type 0 where
  pub expression : text.Tree
  pub is_expression : IsExpression bytes expression
  pub fits : (meant texts defs bytes expression).refusal ≡ None
  pub spelt : (meant texts defs bytes expression).value ≡ t
  pub coded : term_after defs c ≡ t

-- The text shows a normal term, to which a closed term of its type can be derived to be equal.
pub record ShowsNormal (t : Tree) (told : List ℕ) : Type 0 where
  pub type : Tree
  pub normal : Tree
  pub is_normal : Normal none_fixed normal
  pub shown : told ≡ shown 0 normal ++ 10 ∷ []
  pub typed : Provable (Tm Nil t type)
  pub equal : Provable (TmEq Nil t normal type)

-- What is told of a closed term of which the code begins at a byte, each question within so many
-- moves.
pub data TellsTerm (turns start : ℕ) (t : Tree) (told : Outcome) : Type 0 where
  normal : (text : String Global) → ShowsNormal t (string_bytes text) → told ≡ outcome.Shown text
      → TellsTerm turns start t told
  refuted : (at : ℕ) (why : Cause) (e : Evidence) → IsEvidence why e
      → told ≡ outcome.Refuted (record { cause = why; at = Some at; path = None }) e.shown
      → TellsTerm turns start t told
  -- a form stands at this byte where a type is to be inferred, and has none of its own
  not_inferred : (at : ℕ) → told ≡ refusal cause.CannotInfer (Some at) None
      → TellsTerm turns start t told
  spent : (at : ℕ) → told ≡ outcome.Spent turns at None → TellsTerm turns start t told
  -- a step was not taken
  not_taken : told ≡ refusal cause.RefusedForm (Some start) None → TellsTerm turns start t told

-- What is told of a line behind all definitions.
pub data Tells (texts : List Text) (defs : List CodeDef) (turns : ℕ) (line : List ℕ)
    (told : Outcome) : Type 0 where
  no_expression : expression_in line ≡ None → told ≡ refusal cause.Unexpected (Some 0) None
      → Tells texts defs turns line told
  no_term : (bytes : List ℕ) → expression_in line ≡ Some bytes → NoTerm texts defs bytes told
      → Tells texts defs turns line told
  a_term : (bytes : List ℕ) → expression_in line ≡ Some bytes → (t : Tree) (c : Code)
      → IsTerm texts defs bytes t c → TellsTerm turns (span_of c).start t told
      → Tells texts defs turns line told

-- the text that answers a line
abbrev pub AnswersLine : List Text → List CodeDef → ℕ → (line text : List ℕ) → Type 0
AnswersLine texts defs turns line text =
    (told : Outcome) × Tells texts defs turns line told × (text ≡ plain_text told)

-- steps of that

-- the code of a text, or how it is told that it has none
abbrev pub CodeOrTold : List Text → List CodeDef → List ℕ → Result Code Outcome → Type 0
CodeOrTold texts defs bytes (Ok c) = (t : Tree) × IsTerm texts defs bytes t c
CodeOrTold texts defs bytes (Err told) = NoTerm texts defs bytes told
