-- The definitions of modules, by their places among all, and what is told of one.
use Rattle.std.specs.Prelude.{◌≡◌, ◌<◌, ℕ, List, map, slice_get, Option, Some, None}
use Rattle.std.specs.Prelude.{String, string_bytes}
use Rattle.std.specs.List.{flat_map}
use Rattle.std.specs.declared.alloc.Global.{Global}
use Rattle.layout_lexer.specs.declared.token.Span.{Span}
use Rattle.codes.specs.declared.code.Code.{Code, Bound, Defined, Let', Universe, Nat, Zero, Suc'}
use Rattle.codes.specs.declared.code.Code.{NatRec', Pi', Sigma', Lambda', PathLambda', Apply'}
use Rattle.codes.specs.declared.code.Code.{Project', Tuple', PathP', Comp', Fill', Transport'}
use Rattle.codes.specs.declared.code.Code.{GlueType', GlueTerm', Unglue'}
use Rattle.codes.specs.declared.code.CodeDef.{CodeDef, out-CodeDef}
use Rattle.module_texts.specs.Texts.{Text, name_at, path_of}
use Rattle.linking.specs.Modules.{names_in}
use Rattle.outcomes.specs.declared.outcome.Outcome.{Outcome}
use Rattle.outcomes.specs.declared.outcome.Outcome.TheVariants as outcome
use Rattle.outcomes.specs.declared.refusal.Cause.{Cause}
use Rattle.outcomes.specs.declared.refusal.Cause.TheVariants as cause
use Rattle.outcomes.specs.declared.refusal.Refusal.{Refusal}
use Rattle.examining.specs.declared.examiner.Place.{Place}
use Rattle.outcomes.specs.Refusals.{refusal}

-- a definition's module, and where it is named there
pub record Named : Type 0 where
  pub holder : Text
  pub name : Span

-- the places of the definitions of modules, in order
abbrev pub places_in : Text → List Named
places_in x = map (λ s. record { holder = x; name = s }) (names_in x)

abbrev pub places : List Text → List Named
places = flat_map places_in

-- what a definition is called, and what all are
abbrev pub called : Named → List ℕ
called p = name_at p.holder.bytes p.name

abbrev pub names : List Text → List (List ℕ)
names texts = map called (places texts)

-- It is the place of the last definition that has the name, or none has it.
abbrev pub IsLastNamed : List Text → List ℕ → Option ℕ → Type 0
IsLastNamed texts name None = (j : ℕ) → slice_get (names texts) j ≡ Some name → ⊥
IsLastNamed texts name (Some k) =
    (slice_get (names texts) k ≡ Some name)
    × ((j : ℕ) → k < j → slice_get (names texts) j ≡ Some name → ⊥)

-- the definition at that place of all is refused, at its name
pub record IsRefusedAt (texts : List Text) (k : ℕ) (told : Outcome) : Type 0 where
  pub place : Named
  pub is : slice_get (places texts) k ≡ Some place
  pub path : String Global
  pub path_is : string_bytes path ≡ path_of place.holder.name
  pub is_told : told ≡ refusal cause.RefusedForm (Some place.name.start) (Some path)

-- What stands at a byte of the definition at that place is refused, for that cause.
pub record IsRefusalIn (texts : List Text) (at : Place) (why : Cause) (told : Refusal) :
    Type 0 where
  pub place : Named
  pub is : slice_get (places texts) at.definition ≡ Some place
  pub cause_is : told.cause ≡ why
  pub at_is : told.at ≡ Some at.at
  pub path : String Global
  pub path_is : string_bytes path ≡ path_of place.holder.name
  pub is_path : told.path ≡ Some path

-- The budget was spent on what stands there.
pub record IsSpentIn (texts : List Text) (at : Place) (turns : ℕ) (told : Outcome) : Type 0 where
  pub place : Named
  pub is : slice_get (places texts) at.definition ≡ Some place
  pub path : String Global
  pub path_is : string_bytes path ≡ path_of place.holder.name
  pub is_told : told ≡ outcome.Spent turns at.at (Some path)

-- the piece of the text that a code spells
abbrev pub span_of : Code → Span
span_of (Bound s k) = s
span_of (Defined s n) = s
span_of (Let' s shape ds p c) = s
span_of (Universe s) = s
span_of (Nat s) = s
span_of (Zero s) = s
span_of (Suc' s p c) = s
span_of (NatRec' s p m q a r b t n) = s
span_of (Pi' s shape bs p c) = s
span_of (Sigma' s shape bs p c) = s
span_of (Lambda' s shape bs p c) = s
span_of (PathLambda' s n p c) = s
span_of (Apply' s p c shape es) = s
span_of (Project' s p c ps) = s
span_of (Tuple' s shape cs) = s
span_of (PathP' s p l q a r b) = s
span_of (Comp' s p l q a shape ss) = s
span_of (Fill' s p l q a shape ss) = s
span_of (Transport' s p l q a) = s
span_of (GlueType' s p a shape ss) = s
span_of (GlueTerm' s p a shape ss) = s
span_of (Unglue' s p a shape ss) = s

-- The budget was spent on the definition at that place of all, of which these are the codes; it is
-- told with the first byte of its body.
pub record IsSpentAt (texts : List Text) (defs : List CodeDef) (k turns : ℕ) (told : Outcome) :
    Type 0 where
  pub place : Named
  pub is : slice_get (places texts) k ≡ Some place
  pub code : CodeDef
  pub code_is : slice_get defs k ≡ Some code
  pub path : String Global
  pub path_is : string_bytes path ≡ path_of place.holder.name
  pub is_told : told ≡ outcome.Spent turns (span_of (out-CodeDef code).body).start (Some path)
