use Rattle.std.proofs.Common.{◌≡◌, length, map, slice_get, sym, ◌∙◌, ap, subst, Some, arith}
use Rattle.codes.specs.declared.code.CodeDef.{CodeDef, out-CodeDef}
use Rattle.layout_lexer.specs.declared.token.Span.{Span}
use Rattle.module_texts.specs.Texts.{Text, path_of, text_of}
use Rattle.session.specs.Loaded.{texts_of}
use Rattle.session.specs.Places.{places}
use Rattle.outcomes.specs.Refusals.{refusal}
use Rattle.outcomes.specs.declared.refusal.Cause.TheVariants as cause
use Rattle.session.proofs.PlaceLaws.{count_of_places, name_of_place, read_in}
use Rattle.session.proofs.places.refused_at.Goals as goal

pub holder-requires : goal.holder-requires
holder-requires c =
    let long = count_of_places (texts_of c.args.program.now) c.args.program.now.codes c.requires.linked in
    let same = ap (λ xs. length (places (map text_of xs))) c.deref.ensures.value in
    omega (arith, long, same, c.requires.within)

pub returns : goal.returns
returns c =
    let program = c.args.program.now in
    let texts = texts_of program in
    let d = c.index-as_slice-place.result in
    let found = c.holder.ensures in
    let at = found.0 in
    let there = subst (λ xs. slice_get (places (map text_of xs)) c.args.place ≡ Some at) c.deref.ensures.value found.1 in
    let is = read_in c.as_slice.result.now c.args.place d c.as_slice.ensures c.index-as_slice-place.is in
    let named : at.name ≡ (out-CodeDef d).name = name_of_place texts program.codes c.requires.linked c.args.place d at c.requires.within is there in
    record {
      place = at;
      is = there;
      path = c.in_ok-path.path;
      path_is = c.in_ok-path.ensures ∙ ap path_of (c.as_str.ensures.value ∙ ap (λ (x : Text). x.name) (sym found.2));
      is_told = c.refused.ensures ∙ ap (λ (s : Span). refusal cause.RefusedForm (Some s.start) (Some c.in_ok-path.path)) (ap (λ (x : CodeDef). (out-CodeDef x).name) (sym c.index-as_slice-place.is) ∙ sym named);
    }
