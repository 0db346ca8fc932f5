-- Modules that were resolved.
use Rattle.std.specs.Prelude.{◌≡◌, ◌++◌, ℕ, Bool, List, [], ◌∷◌, length, map, reverse}
use Rattle.std.specs.List.{All, flat_map}
use Rattle.translation.specs.Scopes.{Scope}
use Rattle.translation.specs.Translated.{Translated, judgements_of}
use Rattle.translation.specs.Names.{Word}
use Rattle.codes.specs.declared.code.CodeDef.{CodeDef, out-CodeDef}
use Rattle.codes.specs.Codes.{definitions}
use Rattle.codes.specs.Shapes.{def_shape, listed}
use Rattle.scopes.specs.Steps.{count_from, named_of}
use Rattle.resolved_forms.specs.Shaped.{Become, after_definition}
use Rattle.module_texts.specs.Texts.{Text, imports_of}
use Rattle.resolver.specs.declared.resolving.Codes.{Codes}
use Rattle.resolver.specs.Resolved.{AreEarlier, IsTop, bound_by, definitions_of, defs_in, entry}
use Rattle.linking.specs.declared.known.Known.{Known as Kept}
use Rattle.linking.specs.declared.linked.Linker.{Linker}
use Rattle.linking.specs.Modules.{Known, AreFine, and_known, meaning_after, judgements, meanings}
use Rattle.linking.specs.Modules.{names_in, reached}
use Rattle.linking.specs.Reaching.{Numbered, Stand}

-- what is known after these modules
abbrev pub known_after : List Known → List Text → List Known
known_after known [] = known
known_after known (x ∷ xs) = known_after (and_known known x) xs

-- what the module means that comes after those
abbrev pub meaning_of_next : List Text → Text → Translated Word (Scope Word)
meaning_of_next before x = meaning_after (known_after [] before) x

-- the module, whose definitions have these codes
abbrev pub numbered_as : Text → List CodeDef → Numbered
numbered_as x codes = record {
  name = x.name;
  imports = imports_of x;
  defs = reverse (bound_by x.bytes codes);
}

-- The definitions of the module become these codes, form by form, among the names of definitions
-- that its imports reach.
abbrev pub ModuleBecomes : List Numbered → Text → List CodeDef → Type 0
ModuleBecomes known x codes =
    let names = map named_of (reached known (imports_of x)) in
    let ds = definitions_of x.tree in
    Become x.bytes (after_definition x.bytes) ds names (listed def_shape codes)

-- So do those of modules, one after another; then so many are known.
abbrev pub AllBecome : List Numbered → List Text → List CodeDef → List Numbered → Type 0
AllBecome known [] codes all = (codes ≡ []) × (all ≡ known)
AllBecome known (x ∷ xs) codes all =
    (first : List CodeDef) × (rest : List CodeDef) × (codes ≡ first ++ rest)
    × ModuleBecomes known x first × AllBecome (numbered_as x first ∷ known) xs rest all

-- None of the modules is refused, and these codes spell their judgements. The definitions of the
-- modules, one after another, become the codes; these are named as they are, and numbered in the
-- order of their judgements.
pub record IsLinked (texts : List Text) (codes : Codes) : Type 0 where
  pub fine : AreFine (meanings texts)
  pub judgements_are : judgements_of (definitions (defs_in codes) []).stated ≡ judgements texts
  pub known : List Numbered
  pub spelt : AllBecome [] texts (defs_in codes) known
  pub named : map (λ c. (out-CodeDef c).name) (defs_in codes) ≡ flat_map names_in texts
  pub numbered : let coded = (definitions (defs_in codes) []).stated in
      map (λ d. d.name) coded ≡ count_from (length coded) 0
  pub next_is : codes.next ≡ length (definitions (defs_in codes) []).stated

-- the same module by what its text means, where its numbers have these bodies
abbrev pub with_bodies : Scope ℕ → Numbered → Known
with_bodies H m = record { name = m.name; imports = m.imports; defs = map (entry H) m.defs }

-- These modules were resolved, and none is refused.
pub record HasLinked (texts : List Text) (s : Linker) : Type 0 where
  pub linked : IsLinked texts s.codes
  pub top : IsTop (definitions (defs_in s.codes) []).value
  pub stand : Stand linked.known (reverse s.known.items)
  pub earlier : All (λ m. AreEarlier s.codes.next m.defs) linked.known
  pub known_are : let H = (definitions (defs_in s.codes) []).value in
      known_after [] texts ≡ map (with_bodies H) linked.known

-- A module is kept, with the modules that it imports, and the names that it defines.
pub record Keeps (text : Text) (imports : List Bool) (codes : Codes) (old new : Linker) :
    Type 0 where
  pub known : Kept
  pub imports_are : known.imports.items ≡ imports
  pub names_are : known.names ≡ bound_by text.bytes (defs_in codes)
  pub all_known : new.known.items ≡ old.known.items ++ known ∷ []
  pub defs_are : defs_in new.codes ≡ defs_in old.codes ++ defs_in codes
  pub next_is : new.codes.next ≡ codes.next
