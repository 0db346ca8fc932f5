use Rattle.std.proofs.Common.{rules, ◌++◌, refl, ◌∙◌, ap}
use Rattle.linking.proofs.ReachLaws.{gathers_none, gathers_more, gathers_end}
use Rattle.linking.proofs.reaching.scope_of.Goals as goal

pub loop-module-init : goal.loop-module-init
loop-module-init c =
    gathers_none c.args.known.now c.args.imports.now c.extend_from_slice.new.self.items c.in_ok-found.found.items c.new-names.result
    (c.in_ok-extend_from_slice.ensures.items ∙ ap (λ xs. xs ++ c.args.imports.now) c.new-wanted.ensures.items) c.new-names.ensures c.in_ok-found.ensures

pub loop-module-preserved : goal.loop-module-preserved
loop-module-preserved c =
    gathers_more c.args.known.now c.args.imports.now c.loop-module.found.items c.pop.new.self.items c.in-Some.module c.loop-module.names c.copy_names.new.into c.in-Some.ensures.items
    (c.in_ok-copy_names.ensures ∙ ap (λ ns. c.loop-module.names ++ ns) c.as_slice.ensures) c.loop-module.invariant

pub returns : goal.returns
returns c = gathers_end c.args.known.now c.args.imports.now c.loop-module.found.items c.loop-module.names c.args.next _ (search rules) refl refl c.loop-module.invariant
