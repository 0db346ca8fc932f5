use Rattle.std.proofs.Common.{length, map, sym, ◌∙◌, ap, subst}
use Rattle.syntax.specs.View.{module_of}
use Rattle.module_texts.specs.Texts.{imports_of, text_of}
use Rattle.resolver.specs.Resolved.{AreCodes, AreSpelt, IsFaultOf}
use Rattle.linking.proofs.LinkLaws.{among_texts, kept_length, links, refused_next, scope_earlier, seen_of}
use Rattle.linking.proofs.linked.Linker.add.Goals as goal

pub scope_of-requires : goal.scope_of-requires
scope_of-requires c =
    let imports = imports_of (text_of c.args.text.now) in
    ap length (c.deref-2.ensures.value ∙ among_texts imports c.args.before.now c.in-Ok.ensures) ∙ kept_length (map text_of c.args.before.now) c.args.self.now imports c.requires
    ∙ sym (ap length c.deref.ensures.value)

pub resolve-requires : goal.resolve-requires
resolve-requires c =
    scope_earlier (map text_of c.args.before.now) (text_of c.args.text.now) c.args.self.now c.requires c.in-Ok.imports.items c.in-Ok-scope_of.scope
    (among_texts (imports_of (text_of c.args.text.now)) c.args.before.now c.in-Ok.ensures)
    (seen_of c.deref.ensures.value c.deref-2.ensures.value c.next.ensures c.in-Ok-scope_of.ensures)

pub returns-in-Err-clause-err : goal.returns-in-Err-clause-err
returns-in-Err-clause-err c =
    refused_next (map text_of c.args.before.now) (text_of c.args.text.now) c.args.self.now c.requires c.in-Ok.imports.items c.in-Ok-scope_of.scope
    (among_texts (imports_of (text_of c.args.text.now)) c.args.before.now c.in-Ok.ensures)
    (seen_of c.deref.ensures.value c.deref-2.ensures.value c.next.ensures c.in-Ok-scope_of.ensures) c.in-Err.fault
    (subst (λ bytes. IsFaultOf bytes c.in-Ok-scope_of.scope.names (module_of c.args.text.now.module) c.in-Err.fault) c.deref-3.ensures.value c.in-Err.ensures.err)

pub returns-in-Ok-keep-clause-ok : goal.returns-in-Ok-keep-clause-ok
returns-in-Ok-keep-clause-ok c =
    links (map text_of c.args.before.now) (text_of c.args.text.now) c.args.self.now c.requires c.in-Ok.imports.items c.in-Ok-scope_of.scope
    (among_texts (imports_of (text_of c.args.text.now)) c.args.before.now c.in-Ok.ensures)
    (seen_of c.deref.ensures.value c.deref-2.ensures.value c.next.ensures c.in-Ok-scope_of.ensures) c.in-Ok-resolve.codes c.keep.new.self
    (subst (λ bytes. AreCodes bytes c.in-Ok-scope_of.scope.names c.in-Ok-scope_of.scope.next (module_of c.args.text.now.module) c.in-Ok-resolve.codes) c.deref-3.ensures.value c.in-Ok-resolve.ensures.ok)
    (subst (λ bytes. AreSpelt bytes c.in-Ok-scope_of.scope.names (module_of c.args.text.now.module) c.in-Ok-resolve.codes) c.deref-3.ensures.value c.in-Ok-resolve.ensures.spelt)
    c.in-Ok-keep.ensures
