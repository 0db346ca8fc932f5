use Rattle.std.proofs.Common.{◌≡◌, ◌∙◌, sym, ap, rules, Some}
use Rattle.closures.specs.declared.environments.Node.{Node}
use Rattle.closures.specs.contracts.environments.NodePartialEq.TheImpl.{ghosts}
use Rattle.closures.proofs.EnvironmentLaws.{earlier-put, few-put, IsPut, is_put}
use Rattle.closures.proofs.environments.Environments.push.Goals as goal
use Rattle.closures.proofs.environments.Environments.push.Goals.{In-Ok}

pub invariant_of-self : goal.invariant_of-self
invariant_of-self c = record {
  earlier = earlier-put ghosts.eq c.insert_full.result c.args.self.now.nodes.keys c.insert_full.new.self.keys (record { delayed = c.args.delayed; rest = c.args.rest }) c.args.self.now.earlier c.requires c.insert_full.ensures.keys c.insert_full.ensures.err;
  few = few-put ghosts.eq c.insert_full.result c.args.self.now.nodes.keys c.insert_full.new.self.keys (record { delayed = c.args.delayed; rest = c.args.rest }) c.args.self.now.few c.insert_full.ensures.keys c.insert_full.ensures.err c.insert_full.ensures.index (search rules);
}

put : (c : In-Ok) → IsPut c.args.self.now.nodes.keys c.insert_full.new.self.keys (record { delayed = c.args.delayed; rest = c.args.rest }) c.in-Ok.at
put c =
    let node : Node = record { delayed = c.args.delayed; rest = c.args.rest } in
    let stored = c.in-Ok.ensures.stored in
    let same : node ≡ stored.0 = search rules in
    is_put ghosts.eq c.args.self.now.nodes.keys c.insert_full.new.self.keys node c.in-Ok.at c.args.self.now.earlier c.requires c.in-Ok.ensures.keys (stored.1 ∙ ap Some (sym same))

pub returns-in-Ok-clause-grows : goal.returns-in-Ok-clause-grows
returns-in-Ok-clause-grows c = (put c).grows

pub returns-in-Ok-clause-list : goal.returns-in-Ok-clause-list
returns-in-Ok-clause-list c = (put c).list

pub returns-in-Ok-clause-within : goal.returns-in-Ok-clause-within
returns-in-Ok-clause-within c = (put c).within
