use Rattle.std.proofs.Common.{◌≡◌, ◌∙◌, sym, ap, rules, Some}
use Rattle.fixed_names.specs.declared.scopes.Fixing.{Fixing}
use Rattle.fixed_names.specs.contracts.scopes.FixingPartialEq.TheImpl.{ghosts}
use Rattle.fixed_names.proofs.ScopeLaws.{earlier-put, IsPut, is-put}
use Rattle.fixed_names.proofs.scopes.Scopes.fix.Goals as goal
use Rattle.fixed_names.proofs.scopes.Scopes.fix.Goals.{In-Ok}

pub invariant_of-self : goal.invariant_of-self
invariant_of-self c = record {
  earlier = earlier-put ghosts.eq c.insert_full.result c.args.self.now.nodes.keys c.insert_full.new.self.keys (record { index = c.args.index; outer = c.args.scope }) c.args.self.now.earlier c.requires c.insert_full.ensures.keys c.insert_full.ensures.err;
}

put : (c : In-Ok) → IsPut c.args.self.now.nodes.keys c.insert_full.new.self.keys (record { index = c.args.index; outer = c.args.scope }) c.in-Ok.at
put c =
    let node : Fixing = record { index = c.args.index; outer = c.args.scope } in
    let stored = c.in-Ok.ensures.stored in
    let same : node ≡ stored.0 = search rules in
    is-put ghosts.eq c.args.self.now.nodes.keys c.insert_full.new.self.keys node c.in-Ok.at c.args.self.now.earlier c.requires c.in-Ok.ensures.keys (stored.1 ∙ ap Some (sym same))

pub returns-in-Ok-clause-grows : goal.returns-in-Ok-clause-grows
returns-in-Ok-clause-grows c = (put c).grows

pub returns-in-Ok-clause-fixes : goal.returns-in-Ok-clause-fixes
returns-in-Ok-clause-fixes c = (put c).fixes

pub returns-in-Ok-clause-within : goal.returns-in-Ok-clause-within
returns-in-Ok-clause-within c = (put c).within
