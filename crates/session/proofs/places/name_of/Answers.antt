use Rattle.std.proofs.Common.{◌≡◌, List, ℕ, length, map, slice_get, slice_index_or, string_bytes, sym, ◌∙◌, ap, subst, Some, arith}
use Rattle.codes.specs.declared.code.CodeDef.{CodeDef, out-CodeDef}
use Rattle.module_texts.specs.Texts.{name_at, text_of}
use Rattle.session.specs.Loaded.{texts_of}
use Rattle.session.specs.Places.{places}
use Rattle.session.proofs.PlaceLaws.{count_of_places, read_in, spelt_as}
use Rattle.session.proofs.places.name_of.Goals as goal

pub holder-requires : goal.holder-requires
holder-requires c =
    let long = count_of_places (texts_of c.args.program.now) c.args.program.now.codes c.requires.linked in
    let same = ap (λ xs. length (places (map text_of xs))) c.deref.ensures.value in
    omega (arith, long, same, c.requires.within)

pub returns : goal.returns
returns c =
    let program = c.args.program.now in
    let d = c.index-as_slice-place.result in
    let found = c.holder.ensures in
    let x = c.holder.result.now in
    let there = subst (λ xs. slice_get (places (map text_of xs)) c.args.place ≡ Some found.0) c.deref.ensures.value found.1 in
    let is = read_in c.as_slice.result.now c.args.place d c.as_slice.ensures c.index-as_slice-place.is in
    let name : CodeDef → List ℕ = λ e. name_at x.bytes.items (out-CodeDef e).name in
    let looked = slice_index_or c.as_slice.result.now c.args.place d in
    let read : string_bytes c.in_ok-spelt.spelt ≡ name looked = c.in_ok-spelt.ensures ∙ ap (λ bs. name_at bs (out-CodeDef looked).name) c.deref-2.ensures.value in
    let spelt : string_bytes c.in_ok-spelt.spelt ≡ name d = read ∙ ap name (sym c.index-as_slice-place.is) in
    spelt_as (texts_of program) program.codes c.requires.linked c.args.place d found.0 x (string_bytes c.in_ok-spelt.spelt) c.requires.within is there found.2 spelt
