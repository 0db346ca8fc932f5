use Rattle.std.proofs.Common.{◌≡◌, ◌<◌, ◌∙◌, ap, subst, length, map, slice_get, Some, inl, inr}
use Rattle.std.specs.Option.{option_map}
use Rattle.std.proofs.lemmas.List.{length-map}
use Rattle.host_io.specs.Seen.{seen_files}
use Rattle.module_texts.specs.Texts.{path_of, text_of}
use Rattle.loading.specs.Texts.{CountsAfter}
use Rattle.linking.specs.Modules.{RefusedFirst}
use Rattle.session.proofs.LoadedLaws.{load_counted, scope_counted, is_told, stands_at}
use Rattle.session.proofs.PlaceLaws.{get_map}
use Rattle.session.proofs.program.read_program.Goals as goal

pub returns-in-Err-clause-program : goal.returns-in-Err-clause-program
returns-in-Err-clause-program g c =
    let see = seen_files g.F.Files.held g.F.Files.counts in
    let f = c.in-Err.fault in
    let told = c.in_ok-of_load-in-Err.field-0 in
    let is = c.in_ok-of_load-in-Err.ensures in (
      inl (record { fault = f; refuses = c.in-Err.ensures.err (is_told f told is); is_told = is }),
      load_counted c.load.result (see c.args.files.now) (see c.load.new.files) f told c.in-Err.is c.load.ensures.counted is,
    )

pub returns-in_ok-of_scope-in-Err-link-clause-program : goal.returns-in_ok-of_scope-in-Err-link-clause-program
returns-in_ok-of_scope-in-Err-link-clause-program g c =
    let see = seen_files g.F.Files.held g.F.Files.counts in
    let xs = c.in-Ok.texts.items in
    let f = c.in-Err-link.refused.fault in
    let at = c.in-Err-link.refused.module in
    let told = c.in_ok-of_scope-in-Err-link.field-0 in
    let is = c.in_ok-of_scope-in-Err-link.ensures in
    let path = c.in_ok-path-in-Err-link.path in
    let refuses : RefusedFirst (map text_of xs) at f = subst (λ ts. RefusedFirst (map text_of ts) at f) c.deref.ensures.value c.in-Err-link.ensures.err in
    let within : at < length xs = subst (λ n. at < n) (length-map xs text_of) refuses.within in
    let there : slice_get (map text_of xs) at ≡ Some (text_of c.index.result.now) =
    get_map text_of xs at ∙ ap (option_map text_of) (stands_at xs at c.index.result.now within c.index.ensures) in (
      inr (record {
        texts = map text_of xs;
        loaded = c.in-Ok.ensures.ok;
        refused = text_of c.index.result.now;
        at = at;
        refused_is = there;
        fault = f;
        refuses = refuses;
        path = path;
        path_is = c.in_ok-path-in-Err-link.ensures ∙ ap path_of c.as_str.ensures.value;
        is_told = is;
      }),
      scope_counted (see c.args.files.now) (see c.load.new.files) f (Some path) told
          (subst (λ r. CountsAfter r (g.F.Files.counts c.args.files.now) (g.F.Files.counts c.load.new.files)) c.in-Ok.is c.load.ensures.counted) is,
    )
