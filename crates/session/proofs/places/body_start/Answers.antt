use Rattle.std.proofs.Common.{sym, ◌∙◌, ap}
use Rattle.codes.specs.declared.code.CodeDef.{CodeDef, out-CodeDef}
use Rattle.layout_lexer.specs.declared.token.Span.{Span}
use Rattle.session.specs.Places.{span_of}
use Rattle.session.proofs.PlaceLaws.{get_read, read_in}
use Rattle.session.proofs.places.body_start.Goals as goal

pub returns : goal.returns
returns c =
    let d = c.index-as_slice-place.result in
    let is = read_in c.as_slice.result.now c.args.place d c.as_slice.ensures c.index-as_slice-place.is in
    (d, get_read _ c.args.place d c.requires is, ap (λ (s : Span). s.start) (c.span_of.ensures ∙ ap (λ (x : CodeDef). span_of (out-CodeDef x).body) (sym c.index-as_slice-place.is)))
