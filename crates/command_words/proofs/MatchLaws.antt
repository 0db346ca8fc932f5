-- What clap's matches show.
use Rattle.std.proofs.Common.{◌≡◌, ◌∙◌, List, Option, Some, None, refl, sym, ap₂, false, true≢false, is_some}
use Rattle.std.specs.Option.{option_map}
use Rattle.std.specs.Prelude.{Box}
use Rattle.clap.specs.Words.{Row, Text, first_of, first_value, has_subcommand, rows_of, subcommand_name_of, subcommand_rows, subcommand_rows_of}
use Rattle.clap.specs.declared.parser.matches.ArgMatches.{ArgMatches}
use Rattle.clap.specs.declared.parser.matches.ArgMatches.TheViews.{out-ArgMatches, out-SubCommand}
use Rattle.std.specs.Box.{box_value}
use Rattle.clap.specs.declared.parser.matches.Found.{Found}
use Rattle.clap.specs.declared.parser.matches.SubCommand.{SubCommand}
use Rattle.clap.proofs.WalkLemmas.{first_value-rows}

-- a text of the matches is that of the rows
pub first_text : (f : Found) (id : Text) → first_value f id ≡ first_of id (rows_of f)
first_text f id = first_value-rows f id

pairs : (o : Option (Text × List Row)) (name : Text) (rows : List Row) → Some name ≡ option_map (λ p. p.0) o → Some rows ≡ option_map (λ p. p.1) o → o ≡ Some (name, rows)
pairs None name rows e f = cc
pairs (Some p) name rows e f =
    let same_name : name ≡ p.0 = cc in
    let same_rows : rows ≡ p.1 = cc in
    ap₂ (λ x y. Some (x, y)) (sym same_name) (sym same_rows)

named : {Z : Type 0} (o : Option (Box SubCommand Z)) → option_map (λ b. (out-SubCommand (box_value b)).name.now) o ≡ option_map (λ p. p.0) (subcommand_rows o)
named None = refl
named (Some b) = refl

-- the subcommand that was met, with its rows
pub subcommand_met : (m : ArgMatches) (name : Text) (rows : List Row) → Some name ≡ subcommand_name_of m → Some rows ≡ option_map (λ p. p.1) (subcommand_rows_of m) → subcommand_rows_of m ≡ Some (name, rows)
subcommand_met m name rows e f = pairs (subcommand_rows_of m) name rows (e ∙ named (out-ArgMatches m).subcommand) f

none_met : {Z : Type 0} (o : Option (Box SubCommand Z)) → false ≡ is_some o → subcommand_rows o ≡ None
none_met None e = refl
none_met (Some b) e = absurd (true≢false (sym e))

-- none was met
pub no_subcommand : (m : ArgMatches) → false ≡ has_subcommand m → subcommand_rows_of m ≡ None
no_subcommand m e = none_met (out-ArgMatches m).subcommand e
