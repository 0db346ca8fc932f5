use Rattle.std.proofs.Common.{◌≡◌, ◌+◌, ◌++◌, ◌||◌, sym, ◌∙◌, ap}
use Rattle.std.specs.Char.{encode_utf8, len_utf8}
use Rattle.std.specs.Str.{chars}
use Rattle.std.proofs.lemmas.Str.{chars_past_char}
use Rattle.layout_lexer.specs.Places.{Reading, column_after, is_newline}
use Rattle.layout_lexer.proofs.ReadingLaws.{stepped}
use Rattle.layout_lexer.proofs.cursor.Cursor.next.Goals as goal

pub returns : goal.returns
returns c =
    let d = c.in_ok-c.c in
    let old = c.args.self.now in
    let rest = c.as_str-self-inside.result.now in
    let bytes : c.self.inside.rest.now ≡ encode_utf8 d ++ rest = sym c.chars-chars.ensures.rest ∙ c.in_ok-c.ensures.steps.0 ∙ ap (λ r. encode_utf8 d ++ r) (sym c.as_str-self-inside.ensures) in
    (sym (ap (λ (r : Reading). r.rest) c.self.view_is) ∙ chars_past_char c.self.inside.rest.now rest d c.self.invariant.0 bytes, stepped old _ _ _ d (chars rest) (ap (λ n. c.self.inside.at + n) c.len_utf8.ensures.value ∙ ap (λ (r : Reading). r.place.at + len_utf8 d) c.self.view_is) (c.column_after-self-inside.ensures.value ∙ ap (λ (r : Reading). column_after d r.place.column) c.self.view_is) (ap (λ (r : Reading). r.fresh || is_newline d) c.self.view_is))
