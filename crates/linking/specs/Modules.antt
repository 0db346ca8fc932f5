-- What modules mean that are loaded, one after another.
use Rattle.std.specs.Prelude.{◌≡◌, ◌<◌, ◌++◌, ℕ, List, [], ◌∷◌, bytes_eq, length, take, get_or}
use Rattle.std.specs.Prelude.{if◌then◌else◌, None}
use Rattle.std.specs.List.{All, flat_map, list_any}
use Rattle.layout_lexer.specs.declared.token.Span.{Span}
use Rattle.trees.specs.Judgements.{Judgement}
use Rattle.translation.specs.declared.fault.ScopeFault.{ScopeFault}
use Rattle.translation.specs.Scopes.{Entry, Scope}
use Rattle.translation.specs.Translated.{Translated, Refuses, done, judgements_of}
use Rattle.translation.specs.Names.{Word}
use Rattle.translation.specs.Texts.{Written, block}
use Rattle.module_texts.specs.Texts.{Text, imports_of}
use Rattle.resolver.specs.Resolved.{defs_of_module, names_of}

-- a module, with what is known of its definitions, the last first
pub record KnownBy (A : Type 0) : Type 0 where
  pub name : List ℕ
  pub imports : List (List ℕ)
  pub defs : List A

-- a module whose text was translated
abbrev pub Known : Type 0
Known = KnownBy (Entry Word)

-- The definitions of the modules that these names reach, in the order of loading. The modules stand
-- the last first, and each was loaded after its imports.
abbrev pub reached : {A : Type 0} → List (KnownBy A) → List (List ℕ) → List A
reached [] names = []
reached (m ∷ before) names =
    if list_any (bytes_eq m.name) names then m.defs ++ reached before (names ++ m.imports)
    else reached before names

abbrev pub defs_in : Text → List Written
defs_in x = defs_of_module x.bytes x.tree

-- where a module names them
abbrev pub names_in : Text → List Span
names_in x = names_of x.bytes x.tree

-- what a module means after others: its definitions, in the scope that its imports reach
abbrev pub meaning_after : List Known → Text → Translated Word (Scope Word)
meaning_after known x = block x.bytes (defs_in x) (reached known (imports_of x))

abbrev pub known_as : Text → Scope Word → Known
known_as x G =
    record { name = x.name; imports = imports_of x; defs = take (length (defs_in x)) G }

-- one module more
abbrev pub and_known : List Known → Text → List Known
and_known known x = known_as x (meaning_after known x).value ∷ known

-- what each of the modules means
abbrev pub meanings_after : List Known → List Text → List (Translated Word (Scope Word))
meanings_after known [] = []
meanings_after known (x ∷ xs) = meaning_after known x ∷ meanings_after (and_known known x) xs

abbrev pub meanings : List Text → List (Translated Word (Scope Word))
meanings = meanings_after []

-- the judgements that modules spell, in order
abbrev pub judgements : List Text → List Judgement
judgements xs = flat_map (λ m. judgements_of m.stated) (meanings xs)

-- none of these is refused
abbrev pub AreFine : List (Translated Word (Scope Word)) → Type 0
AreFine = All (λ m. m.refusal ≡ None)

-- The module at the place is the first that is refused, and that is its fault.
pub record RefusedFirst (xs : List Text) (at : ℕ) (fault : ScopeFault) : Type 0 where
  pub within : at < length xs
  pub fine : AreFine (take at (meanings xs))
  pub refuses : Refuses fault (get_or (meanings xs) at (done [])).refusal
