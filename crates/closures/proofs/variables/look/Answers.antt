use Rattle.std.proofs.Common.{◌≡◌, ◌<◌, ◌≤◌, ◌^◌, sym, subst, ℕ, length, arith}
use Rattle.closures.specs.Shown.{lists}
use Rattle.closures.specs.Environments.{deepest, listed, node_list}
use Rattle.closures.specs.Closures.{Stands, EnteredStands, IsNear, variable_meaning, entered_meaning}
use Rattle.closures.specs.Weights.{weight_of, entered_weight}
use Rattle.closures.specs.declared.environments.Environment.TheVariants as env
use Rattle.rows.proofs.TableLaws.{length-built}
use Rattle.closures.proofs.LookLaws.{Looks, looks-first, looks-fits, looks-past}
use Rattle.closures.proofs.variables.look.Given as given
use Rattle.closures.proofs.variables.look.Goals as goal
use Rattle.closures.proofs.variables.look.Goals.{In-Node}

pub loop-environment-init : goal.loop-environment-init
loop-environment-init g c =
    let same = c.from-index.ensures in
    subst (λ n. Looks (g.R.Rows.means c.args.rows.now) (lists c.args.environments.now) c.args.index c.args.environment (lists c.args.environments.now) n c.args.environment) (sym same)
    (looks-first (g.R.Rows.means c.args.rows.now) (lists c.args.environments.now) c.args.index c.args.environment (omega arith))

-- the invariant at the node that the loop goes on with
at_node : (g : given.Over) (c : In-Node g) → Looks (g.R.Rows.means c.args.rows.now) (lists c.args.environments.now) c.args.index c.args.environment (lists c.loop-environment.environments) c.loop-environment.index (env.Node c.in-Node.at c.in-Node.lift)
at_node g c =
    subst (Looks (g.R.Rows.means c.args.rows.now) (lists c.args.environments.now) c.args.index c.args.environment (lists c.loop-environment.environments) c.loop-environment.index) c.in-Node.is c.loop-environment.invariant

pub pass-requires-clause-stands : goal.pass-requires-clause-stands
pass-requires-clause-stands g c = (at_node g (goal.at.pass-requires-clause-stands g c).In-Node).stands deepest c.requires

pub pass-requires-clause-fits : goal.pass-requires-clause-fits
pass-requires-clause-fits g c =
    let l = at_node g (goal.at.pass-requires-clause-fits g c).In-Node in
    let few : length (lists c.loop-environment.environments) ≤ 2 ^ 64 = let e = length-built node_list c.loop-environment.environments.nodes.keys in let f = c.loop-environment.environments.few in omega arith in
    looks-fits l (l.stands deepest c.requires).within few

pub loop-environment-preserved : goal.loop-environment-preserved
loop-environment-preserved g c =
    let f = g.R.Rows.means c.args.rows.now in
    let known = lists c.loop-environment.environments in
    let newer = lists c.pass.new.environments in
    let node = env.Node c.in-Node.at c.in-Node.lift in
    let l = at_node g (goal.at.loop-environment-preserved g c).In-Node in
    let e = c.in_ok-next.ensures in
    looks-past l (l.stands deepest c.requires).within newer c.in-Past.next c.in-Past.rest c.pass.ensures.grows
    (subst (λ x. entered_meaning f newer x ≡ variable_meaning f (listed known node) c.loop-environment.index) c.in-Past.is e.meaning)
    (subst (λ x. (n : ℕ) → Stands f known n node → EnteredStands f newer n x) c.in-Past.is e.stands)
    (subst (λ x. entered_weight newer x < weight_of (listed known node)) c.in-Past.is e.weight)
    (subst (IsNear c.loop-environment.index) c.in-Past.is e.near)

pub returns-in-Tree-clause-stands : goal.returns-in-Tree-clause-stands
returns-in-Tree-clause-stands g c = λ n s.
    let f = g.R.Rows.means c.args.rows.now in
    let known = lists c.loop-environment.environments in
    let newer = lists c.pass.new.environments in
    let node = env.Node c.in-Node.at c.in-Node.lift in
    let l = at_node g (goal.at.returns-in-Tree-clause-stands g c).In-Node in
    subst (EnteredStands f newer n) c.in-Tree.is (c.in_ok-next.ensures.stands n (l.stands n s))
