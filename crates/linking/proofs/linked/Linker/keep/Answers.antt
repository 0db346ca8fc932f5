use Rattle.std.proofs.Common.{refl, ◌∙◌, ap}
use Rattle.resolver.specs.Resolved.{bound_by}
use Rattle.linking.proofs.linked.Linker.keep.Goals as goal

pub returns : goal.returns
returns c = record {
  known = record { imports = c.args.imports; names = c.in_ok-names.names };
  imports_are = refl;
  names_are = c.in_ok-names.ensures ∙ ap (λ bytes. bound_by bytes c.as_slice.result.now) c.deref.ensures.value ∙ ap (bound_by c.args.text.now.bytes.items) c.as_slice.ensures;
  all_known = c.in_ok-push.ensures.items;
  defs_are = c.in_ok-append.ensures.ok.1;
  next_is = c.in_ok-append.ensures.ok.0;
}
