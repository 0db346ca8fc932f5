-- The commands that words are.
use Rattle.std.specs.Prelude.{ℕ, Bool, true, false, ◌==◌, ◌&&◌, nat_lt, nat_le, List, [], ◌∷◌}
use Rattle.std.specs.Prelude.{◌++◌, map, length, if◌then◌else◌, Option, None, Some, is_some, find}
use Rattle.std.specs.Prelude.{Result, Ok, codes, slice_get, String, string_bytes}
use Rattle.std.specs.List.{list_all, list_any}
use Rattle.std.specs.Option.{option_map, option_and_then}
use Rattle.std.specs.Str.{bytes_eq, chars}
use Rattle.std.specs.Str.Parse.{digits_value, without_leading_plus}
use Rattle.std.specs.Char.{digit_value}
use Rattle.std.specs.declared.alloc.Global.{Global}
use Rattle.clap.specs.Lexer.{long_of, short_of}
use Rattle.layout_lexer.specs.declared.token.Kind.{Kind}
use Rattle.layout_lexer.specs.declared.token.Kind.TheVariants.{Identifier, Data, Hdata, Split}
use Rattle.layout_lexer.specs.declared.token.Kind.TheVariants.{Mutual, Undefined, Opaque}
use Rattle.layout_lexer.specs.declared.token.Kind.TheVariants.{Transparent, TransparentAll}
use Rattle.layout_lexer.specs.declared.token.Token.{Token}
use Rattle.layout_lexer.specs.declared.fault.LexFault.{LexFault}
use Rattle.layout_lexer.specs.Texts.{tokens_of}
use Rattle.command_words.specs.Grammar.{Form, check_form, make_form, normal_form, prompt_form}
use Rattle.command_words.specs.Grammar.{replay_form}

-- a command, with its positional words and the values of its options
pub data Command : Type 0 where
  -- a module, which is checked, each question within so many moves, and whether the answer is JSON
  Check : List ℕ → ℕ → Bool → Command
  -- a file, and the module whose derivation it is to be
  Replay : List ℕ → Option (List ℕ) → Command
  -- a module and a name in it, which is normalised, each question within so many moves
  Normal : List ℕ → List ℕ → ℕ → Command
  -- a module, about which questions are answered, each within so many moves
  Prompt : List ℕ → ℕ → Command
  -- how many definitions a module is made of
  Make : ℕ → Command

-- what a word gives, under the name that the form has for it
pub record Part : Type 0 where
  pub name : List ℕ
  pub text : List ℕ

abbrev pub part : List ℕ → List ℕ → Part
part name text = record { name = name; text = text }

abbrev pub is_given : List ℕ → List Part → Bool
is_given name parts = list_any (λ p. bytes_eq p.name name) parts

abbrev pub text_of : List ℕ → List Part → Option (List ℕ)
text_of name parts = option_map (λ p. p.text) (find (λ p. bytes_eq p.name name) parts)

-- what the next word may be: any; the value of this option; or a positional word alone, since there
-- was a word `--`
pub data Mode : Type 0 where
  Any : Mode
  Awaits : List ℕ → Mode
  Only : Mode

-- what is read of the words to come, by what the next one may be, the names of the positional words
-- that have not stood yet, and the parts so far
abbrev pub Next : Type 0
Next = Mode → List (List ℕ) → List Part → Option (List Part)

-- each name stands once at most
abbrev pub and_part : List ℕ → List ℕ → List Part → (List Part → Option (List Part))
    → Option (List Part)
and_part name text parts next =
    if is_given name parts then None else next (parts ++ part name text ∷ [])

abbrev pub positional_read : Mode → List (List ℕ) → List Part → List ℕ → Next → Option (List Part)
positional_read mode [] parts word next = None
positional_read mode (name ∷ left) parts word next = and_part name word parts (next mode left)

-- `--NAME` or `--NAME=VALUE`
abbrev pub option_read : List (List ℕ) → List Part → List ℕ → Option (List ℕ) → Next
    → Option (List Part)
option_read left parts name None next = next (Awaits name) left parts
option_read left parts name (Some value) next = and_part name value parts (next Any left)

abbrev pub flag_read : List (List ℕ) → List Part → List ℕ → Option (List ℕ) → Next
    → Option (List Part)
flag_read left parts name None next = and_part name (codes "true") parts (next Any left)
flag_read left parts name (Some value) next = None

abbrev pub is_option : Form → List ℕ → Bool
is_option f name = list_any (λ o. bytes_eq o name) f.options

abbrev pub is_flag : Form → List ℕ → Bool
is_flag f name = list_any (λ o. bytes_eq o name) f.flags

abbrev pub named_read : Form → List (List ℕ) → List Part → List ℕ → Option (List ℕ) → Next
    → Option (List Part)
named_read f left parts name value next =
    if is_option f name then option_read left parts name value next
    else (if is_flag f name then flag_read left parts name value next else None)

-- what a word is, before any word `--`
pub data Word : Type 0 where
  -- `--`, after which all words are positional
  Dashes : Word
  -- `--NAME` or `--NAME=VALUE`
  Named : List ℕ → Option (List ℕ) → Word
  -- any other that begins with a hyphen, which a character follows
  Unknown : Word
  Plain : Word

abbrev pub has_character : Option (List ℕ) → Bool
has_character None = false
has_character (Some []) = false
has_character (Some (c ∷ rest)) = is_some (slice_get (chars (c ∷ rest)) 0)

-- by whether it is `--`, what follows two hyphens, and what follows one
abbrev pub word_as : Bool → Option (List ℕ × Option (List ℕ)) → Option (List ℕ) → Word
word_as true long short = Dashes
word_as false (Some p) short = Named p.0 p.1
word_as false None short = if has_character short then Unknown else Plain

abbrev pub word_of : List ℕ → Word
word_of word = word_as (bytes_eq word (codes "--")) (long_of word) (short_of word)

-- a word where any may stand, by what it is
abbrev pub any_read : Form → Word → List (List ℕ) → List Part → List ℕ → Next
    → Option (List Part)
any_read f Dashes left parts word next = next Only left parts
any_read f (Named name value) left parts word next = named_read f left parts name value next
any_read f Unknown left parts word next = None
any_read f Plain left parts word next = positional_read Any left parts word next

-- the value of an option
abbrev pub value_read : List ℕ → Word → List (List ℕ) → List Part → List ℕ → Next
    → Option (List Part)
value_read name Plain left parts word next = and_part name word parts (next Any left)
value_read name _ left parts word next = None

abbrev pub word_read : Form → Mode → List (List ℕ) → List Part → List ℕ → Next
    → Option (List Part)
word_read f Any left parts word next = any_read f (word_of word) left parts word next
word_read f (Awaits name) left parts word next = value_read name (word_of word) left parts word next
word_read f Only left parts word next = positional_read Only left parts word next

-- all positional words stood
abbrev pub whole : Form → List Part → Option (List Part)
whole f parts = if list_all (λ name. is_given name parts) f.positionals then Some parts else None

abbrev pub end_read : Form → Mode → List Part → Option (List Part)
end_read f (Awaits name) parts = None
end_read f Any parts = whole f parts
end_read f Only parts = whole f parts

-- the words after a command's name
abbrev pub read : Form → List (List ℕ) → Mode → List (List ℕ) → List Part → Option (List Part)
read f [] mode left parts = end_read f mode parts
read f (word ∷ words) mode left parts = word_read f mode left parts word (read f words)

-- Is it an identifier, and no keyword? Words that texts refuse are.
abbrev pub may_name : Kind → Bool
may_name Identifier = true
may_name Data = true
may_name Hdata = true
may_name Split = true
may_name Mutual = true
may_name Undefined = true
may_name Opaque = true
may_name Transparent = true
may_name TransparentAll = true
may_name kind = false

abbrev pub is_only : ℕ → Result (List Token) LexFault → Bool
is_only end (Ok (t ∷ [])) = may_name t.kind && (t.start == 0) && (t.end == end)
is_only end _ = false

unfoldable pub is_name : List ℕ → Bool
is_name word = is_only (length word) (tokens_of word)

abbrev pub all_digits : List ℕ → Bool
all_digits [] = true
all_digits (c ∷ word) = nat_lt (digit_value c) 10 && all_digits word

-- one decimal digit or more
abbrev pub is_numeral : List ℕ → Bool
is_numeral [] = false
is_numeral (c ∷ word) = all_digits (c ∷ word)

-- the number that digits write, before which a plus may stand, where it lies between these bounds
abbrev pub number_within : ℕ → ℕ → List ℕ → Option ℕ
number_within least most word =
    let digits = without_leading_plus word in
    let number = digits_value 10 digits in
    if is_numeral digits && nat_le least number && nat_le number most then Some number else None

-- the budget of a question: 1,000,000 moves, or so many up to 1,000,000,000
abbrev pub turns_of : Option (List ℕ) → Option ℕ
turns_of None = Some 1000000
turns_of (Some word) = number_within 1 1000000000 word

-- a module, within a budget
abbrev pub check_words : Option (List ℕ) → Option ℕ → Bool → Option Command
check_words (Some module_) (Some turns) json =
    if is_name module_ then Some (Check module_ turns json) else None
check_words _ _ json = None

-- a file that is not empty, and a module if one is named
abbrev pub replay_words : Option (List ℕ) → Option (List ℕ) → Option Command
replay_words (Some (c ∷ file)) None = Some (Replay (c ∷ file) None)
replay_words (Some (c ∷ file)) (Some name) =
    if is_name name then Some (Replay (c ∷ file) (Some name)) else None
replay_words _ _ = None

-- a module and a name, within a budget
abbrev pub normal_words : Option (List ℕ) → Option (List ℕ) → Option ℕ → Option Command
normal_words (Some module_) (Some name) (Some turns) =
    if is_name module_ && is_name name then Some (Normal module_ name turns) else None
normal_words _ _ _ = None

-- a module, within a budget
abbrev pub prompt_words : Option (List ℕ) → Option ℕ → Option Command
prompt_words (Some module_) (Some turns) =
    if is_name module_ then Some (Prompt module_ turns) else None
prompt_words _ _ = None

-- a number, up to 2,000
abbrev pub make_words : Option (List ℕ) → Option Command
make_words None = None
make_words (Some word) = option_map Make (number_within 1 2000 word)

abbrev pub is_true : Option (List ℕ) → Bool
is_true None = false
is_true (Some text) = bytes_eq text (codes "true")

abbrev pub check_of : List Part → Option Command
check_of parts = check_words (text_of (codes "module") parts)
    (turns_of (text_of (codes "turns") parts)) (is_true (text_of (codes "json") parts))

abbrev pub replay_of : List Part → Option Command
replay_of parts = replay_words (text_of (codes "file") parts) (text_of (codes "of") parts)

abbrev pub normal_of : List Part → Option Command
normal_of parts = normal_words (text_of (codes "module") parts) (text_of (codes "name") parts)
    (turns_of (text_of (codes "turns") parts))

abbrev pub prompt_of : List Part → Option Command
prompt_of parts = prompt_words (text_of (codes "module") parts)
    (turns_of (text_of (codes "turns") parts))

abbrev pub make_of : List Part → Option Command
make_of parts = make_words (text_of (codes "count") parts)

-- the command of this name, whose words are read by its form
abbrev pub command_named : List ℕ → (Form → Option (List Part)) → Option Command
command_named name parts =
    if bytes_eq (codes "check") name then option_and_then check_of (parts check_form)
    else if bytes_eq (codes "replay") name then option_and_then replay_of (parts replay_form)
    else if bytes_eq (codes "normal") name then option_and_then normal_of (parts normal_form)
    else if bytes_eq (codes "prompt") name then option_and_then prompt_of (parts prompt_form)
    else if bytes_eq (codes "make") name then option_and_then make_of (parts make_form)
    else None

-- the command of these words
abbrev pub command : List (List ℕ) → Option Command
command [] = None
command (name ∷ words) = command_named name (λ f. read f words Any f.positionals [])

-- the bytes of words
abbrev pub texts : List (String Global) → List (List ℕ)
texts words = map string_bytes words
