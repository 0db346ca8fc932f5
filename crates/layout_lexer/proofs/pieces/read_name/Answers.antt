use Rattle.std.proofs.Common.{◌∙◌, ap, ◌∷◌, take}
use Rattle.std.specs.Option.{unwrap_or}
use Rattle.std.specs.Str.{chars}
use Rattle.layout_lexer.specs.declared.token.Kind.TheVariants.{Identifier}
use Rattle.layout_lexer.specs.declared.words.TheConstants.{WORDS}
use Rattle.layout_lexer.specs.Pieces.{name_rest, spelled_in}
use Rattle.layout_lexer.proofs.ReadingLaws.{name_split}
use Rattle.layout_lexer.proofs.WordLaws.{word_bytes}
use Rattle.layout_lexer.proofs.pieces.read_name.Goals as goal

pub bytes_between-requires : goal.bytes_between-requires
bytes_between-requires c =
    let n = name_rest c.args.cursor.now.rest in
    (c.args.first ∷ take n c.args.cursor.now.rest, name_split (chars c.args.text.now) (chars c.rest.result.now) c.args.first n c.args.cursor.now c.skip_name.new.cursor c.requires c.skip_name.ensures c.rest.ensures)

pub returns-clause-kind : goal.returns-clause-kind
returns-clause-kind c =
    let n = name_rest c.args.cursor.now.rest in
    let name = c.args.first ∷ take n c.args.cursor.now.rest in
    c.name_kind.ensures
    ∙ ap (λ bytes. unwrap_or (spelled_in WORDS.now bytes) Identifier) (c.bytes_between.ensures name (name_split (chars c.args.text.now) (chars c.rest.result.now) c.args.first n c.args.cursor.now c.skip_name.new.cursor c.requires c.skip_name.ensures c.rest.ensures))
    ∙ ap (λ word. unwrap_or word Identifier) (word_bytes name)
