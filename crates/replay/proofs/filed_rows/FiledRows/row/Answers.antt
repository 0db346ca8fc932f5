use Rattle.std.proofs.Common.{◌<◌, length, ◌∙◌, ap, sym, arith}
use Rattle.replay.specs.Held.{filed_as}
use Rattle.replay.proofs.HeldLaws.{there, node_there, claim_within}
use Rattle.replay.proofs.filed_rows.FiledRows.row.Goals as goal

pub index-requires-in-Node : goal.index-requires-in-Node
index-requires-in-Node c =
    let within : c.in-Node.at < length c.self.inside.claims.items =
    claim_within c.self.inside.claims.items c.self.inside.held.items c.args.self.now c.args.number c.in-Node.at c.index.result.now c.self.view_is c.self.invariant c.requires (sym c.index.ensures ∙ c.in-Node.is) in
    omega (arith, within, c.self.inside.claims.ok.0)

pub returns-in-Thing : goal.returns-in-Thing
returns-in-Thing c =
    rw c.from.ensures (there c.self.inside.claims.items c.self.inside.held.items c.args.self.now c.args.number c.index.result.now _ c.self.view_is c.requires c.index.ensures (ap (filed_as c.self.inside.claims.items) c.in-Thing.is))

pub returns-in-Node : goal.returns-in-Node
returns-in-Node c =
    let claims = c.self.inside.claims.items in
    let within : c.in-Node.at < length claims =
    claim_within claims c.self.inside.held.items c.args.self.now c.args.number c.in-Node.at c.index.result.now c.self.view_is c.self.invariant c.requires (sym c.index.ensures ∙ c.in-Node.is) in
    there claims c.self.inside.held.items c.args.self.now c.args.number c.index.result.now _ c.self.view_is c.requires c.index.ensures (ap (filed_as claims) c.in-Node.is ∙ node_there claims c.in-Node.at c.index-in-Node.result.now within c.index-in-Node.ensures)

pub returns-in-Nothing : goal.returns-in-Nothing
returns-in-Nothing c =
    there c.self.inside.claims.items c.self.inside.held.items c.args.self.now c.args.number c.index.result.now _ c.self.view_is c.requires c.index.ensures (ap (filed_as c.self.inside.claims.items) c.in-Nothing.is)
