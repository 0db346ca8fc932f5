use Rattle.std.proofs.Common.{◌∙◌, sym, ap, subst, ◌+◌, ◌≤◌, arith}
use Rattle.std.specs.List.{All}
use Rattle.closures.specs.Environments.{deepened, deepest, listed, IsWithin}
use Rattle.closures.specs.Shown.{lists}
use Rattle.closures.proofs.EnvironmentLaws.{deepened-deepened, depth-first}
use Rattle.closures.proofs.environments.Environments.deeper.Goals as goal

pub overflow_add-result : goal.overflow_add-result
overflow_add-result c =
    let known = lists c.args.self.now in
    let is = c.in-Node.is in
    let low = depth-first c.args.self.now.nodes.keys c.in-Node.at c.in-Node.lift c.args.by deepest (subst (IsWithin known) is c.requires.within) (subst (λ e. All (λ w. w.depth + c.args.by ≤ deepest) (listed known e)) is c.requires.shallow) in
    omega arith

pub returns-in-Node-clause-list : goal.returns-in-Node-clause-list
returns-in-Node-clause-list c =
    sym (deepened-deepened c.in-Node.lift c.args.by _) ∙ ap (λ e. deepened c.args.by (listed (lists c.args.self.now) e)) (sym c.in-Node.is)
