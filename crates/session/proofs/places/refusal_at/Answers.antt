use Rattle.std.proofs.Common.{◌≡◌, length, map, slice_get, sym, ◌∙◌, ap, subst, refl, Some, arith}
use Rattle.module_texts.specs.Texts.{Text, path_of, text_of}
use Rattle.session.specs.Loaded.{texts_of}
use Rattle.session.specs.Places.{places}
use Rattle.session.proofs.PlaceLaws.{count_of_places}
use Rattle.session.proofs.places.refusal_at.Goals as goal

pub holder-requires : goal.holder-requires
holder-requires c =
    let long = count_of_places (texts_of c.args.program.now) c.args.program.now.codes c.requires.linked in
    let same = ap (λ xs. length (places (map text_of xs))) c.deref.ensures.value in
    omega (arith, long, same, c.requires.within)

pub returns : goal.returns
returns c =
    let found = c.holder.ensures in
    let at = found.0 in
    record {
      place = at;
      is = subst (λ xs. slice_get (places (map text_of xs)) c.args.place.definition ≡ Some at) c.deref.ensures.value found.1;
      cause_is = refl;
      at_is = refl;
      path = c.in_ok-path.path;
      path_is = c.in_ok-path.ensures ∙ ap path_of (c.as_str.ensures.value ∙ ap (λ (x : Text). x.name) (sym found.2));
      is_path = refl;
    }
