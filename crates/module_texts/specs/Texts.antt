-- Modules, and what is named by their texts.
use Rattle.std.specs.Prelude.{ℕ, List, [], ◌++◌, map, slice_range, codes, string_bytes}
use Rattle.std.specs.Str.Lossy.{utf8_lossy}
use Rattle.layout_lexer.specs.declared.token.Span.{Span}
use Rattle.syntax.specs.Tree.{Tree, Module}
use Rattle.syntax.specs.View.{module_of}
use Rattle.module_texts.specs.declared.text.ModuleText.{ModuleText}

-- a module: its name, its bytes, and the tree that they spell
pub record Text : Type 0 where
  pub name : List ℕ
  pub bytes : List ℕ
  pub tree : Tree

-- the path of a module's file
abbrev pub path_of : List ℕ → List ℕ
path_of name = name ++ codes ".ctt"

-- the name that a piece of a text spells; that of a token is UTF-8, so that nothing is replaced
abbrev pub name_at : List ℕ → Span → List ℕ
name_at bytes s = utf8_lossy (slice_range bytes s.start s.end)

-- where the tree of a module names its imports
abbrev pub imports_in : Tree → List Span
imports_in (Module name imports ds) = imports
imports_in _ = []

abbrev pub imports_of : Text → List (List ℕ)
imports_of x = map (name_at x.bytes) (imports_in x.tree)

-- the module that a value of the program holds, and its name
abbrev pub text_of : ModuleText → Text
text_of x =
    record { name = string_bytes x.name; bytes = x.bytes.items; tree = module_of x.module }

abbrev pub name_of : ModuleText → List ℕ
name_of x = string_bytes x.name
