use Rattle.std.proofs.Common.{◌≡◌, length, map, slice_get, sym, ◌∙◌, ap, subst, Some, arith}
use Rattle.module_texts.specs.Texts.{Text, path_of, text_of}
use Rattle.outcomes.specs.declared.outcome.Outcome.TheVariants as outcome
use Rattle.session.specs.Loaded.{texts_of}
use Rattle.session.specs.Places.{places}
use Rattle.session.proofs.PlaceLaws.{count_of_places}
use Rattle.session.proofs.places.spent_at.Goals as goal

pub holder-requires : goal.holder-requires
holder-requires c =
    let long = count_of_places (texts_of c.args.program.now) c.args.program.now.codes c.requires.linked in
    let same = ap (λ xs. length (places (map text_of xs))) c.deref.ensures.value in
    omega (arith, long, same, c.requires.within)

pub returns : goal.returns
returns c =
    let program = c.args.program.now in
    let body = c.body_start-at.ensures in
    let found = c.holder.ensures in
    let at = found.0 in
    record {
      place = at;
      is = subst (λ xs. slice_get (places (map text_of xs)) c.args.place ≡ Some at) c.deref.ensures.value found.1;
      code = body.0;
      code_is = body.1;
      path = c.in_ok-path.path;
      path_is = c.in_ok-path.ensures ∙ ap path_of (c.as_str.ensures.value ∙ ap (λ (x : Text). x.name) (sym found.2));
      is_told = ap (λ at. outcome.Spent c.args.turns at (Some c.in_ok-path.path)) body.2;
    }
