use Rattle.std.proofs.Common.{◌∙◌, ap, take, length, ◌-◌}
use Rattle.std.specs.Str.{encode_utf8_all}
use Rattle.layout_lexer.proofs.ReadingLaws.{between, between_le, between_take}
use Rattle.layout_lexer.proofs.cursor.bytes_between.Goals as goal

pub slice_bounds-result-count : goal.slice_bounds-result-count
slice_bounds-result-count c =
    between_le c.args.text.now c.args.rest.now (encode_utf8_all c.requires.0)
    (between c.args.text.now c.args.rest.now c.requires.0 c.utf8.text c.utf8.rest c.requires.1)

pub returns : goal.returns
returns c = λ read h.
    ap (take (length c.args.text.now - length c.args.rest.now)) c.as_bytes.ensures.value
    ∙ between_take c.args.text.now c.args.rest.now (encode_utf8_all read)
    (between c.args.text.now c.args.rest.now read c.utf8.text c.utf8.rest h)
