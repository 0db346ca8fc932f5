-- What making a module comes to.
use Rattle.std.specs.Prelude.{◌≡◌, ℕ, ◌*◌, List, length, codes, Some, String, string_bytes}
use Rattle.std.specs.FinMap.{empty, insert}
use Rattle.std.specs.declared.alloc.Global.{Global}
use Rattle.trees.specs.Judgements.{Judgement}
use Rattle.host_io.specs.Files.{Held}
use Rattle.generated_module.specs.Generated.{generated}
use Rattle.outcomes.specs.declared.outcome.Outcome.{Outcome}
use Rattle.outcomes.specs.declared.outcome.Outcome.TheVariants as outcome
use Rattle.outcomes.specs.declared.outcome.Status.TheVariants as status
use Rattle.session.specs.Modules.{Spells}
use Rattle.session.specs.Normals.{AreProved}
use Rattle.outcomes.specs.Outcomes.{status_of}

-- the module of so many definitions, held alone
abbrev pub alone : ℕ → Held
alone count = insert empty (codes "Gen.ctt") (generated count)

-- The module of so many definitions is shown, and each judgement that it spells can be derived: two
-- for each definition, of which as many roots were replayed.
pub record IsMade (count : ℕ) (told : Outcome) : Type 0 where
  pub text : String Global
  pub text_is : string_bytes text ≡ generated count
  pub spelt : List Judgement
  pub spells : Spells (Some (alone count)) (codes "Gen") spelt
  pub proved : AreProved spelt
  pub twice : length spelt ≡ 2 * count
  pub is_told : told ≡ outcome.Made text count (length spelt)

-- a yes is one of that
abbrev pub Makes : ℕ → Outcome → Type 0
Makes count told = status_of told ≡ status.Yes → IsMade count told
