use Rattle.std.proofs.Common.{◌≡◌, ◌∙◌, ap, slice_get, string_bytes, sym, Some}
use Rattle.codes.specs.declared.code.CodeDef.{CodeDef, out-CodeDef}
use Rattle.resolver.specs.Resolved.{defs_in}
use Rattle.session.specs.Loaded.{texts_of}
use Rattle.session.specs.Places.{names}
use Rattle.session.proofs.PlaceLaws.{get_read, read_in}
use Rattle.session.proofs.places.numbered_name.Goals as goal

pub returns : goal.returns
returns c =
    let program = c.args.program.now in
    let d = c.index-as_slice-place.result in
    let is = read_in c.as_slice.result.now c.args.place d c.as_slice.ensures c.index-as_slice-place.is in
    let name : c.in_ok-name.name ≡ string_bytes c.in_ok-spelt.spelt = c.in_ok-name.ensures ∙ search in
    record {
      name_is = c.in_ok-spelt.ensures ∙ ap Some (sym name);
      code = d;
      code_is = get_read (defs_in program.codes) c.args.place d c.requires.within is;
      number_is = ap (λ e. (out-CodeDef e).number) (sym c.index-as_slice-place.is);
    }
