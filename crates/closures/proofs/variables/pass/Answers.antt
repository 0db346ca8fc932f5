use Rattle.std.proofs.Common.{◌+◌, ◌∙◌, sym, ap, subst, arith}
use Rattle.closures.specs.Shown.{lists}
use Rattle.closures.specs.Environments.{deepest, deepened, listed}
use Rattle.closures.specs.Closures.{IsDelayed, variable_meaning}
use Rattle.closures.specs.Weights.{delayed_weight}
use Rattle.closures.proofs.EnvironmentLaws.{AtNode}
use Rattle.closures.proofs.NodeLaws.{weight_of-node, is_delayed-node, stands-node, meaning-below, meaning-raised, meaning-under, weight-past, stands-past_node}
use Rattle.closures.proofs.variables.pass.Given as given
use Rattle.closures.proofs.variables.pass.Goals as goal
use Rattle.closures.proofs.variables.pass.Goals.{After-node-node}

here : (g : given.Over) (c : After-node-node g) → AtNode (lists c.args.environments.now) c.args.at c.node-node.result
here g c = record { list = c.node-node.ensures.list; within = c.node-node.ensures.within }

pub deeper-requires-clause-shallow : goal.deeper-requires-clause-shallow
deeper-requires-clause-shallow g c =
    (stands-node (here g (goal.at.deeper-requires-clause-shallow g c).After-node-node) c.args.lift (g.R.Rows.means c.args.rows.now) deepest c.requires.stands).shallow

pub returns-then-index-from-clause-meaning : goal.returns-then-index-from-clause-meaning
returns-then-index-from-clause-meaning g c =
    meaning-below (here g (goal.at.returns-then-index-from-clause-meaning g c).After-node-node) c.args.lift c.deeper.result c.deeper.ensures.list (g.R.Rows.means c.args.rows.now) c.args.index (omega arith)

pub returns-then-index-from-clause-stands : goal.returns-then-index-from-clause-stands
returns-then-index-from-clause-stands g c =
    stands-past_node (here g (goal.at.returns-then-index-from-clause-stands g c).After-node-node) c.args.lift c.deeper.result c.deeper.ensures.list c.deeper.ensures.within (g.R.Rows.means c.args.rows.now)

pub returns-then-index-from-clause-weight : goal.returns-then-index-from-clause-weight
returns-then-index-from-clause-weight g c =
    weight-past (here g (goal.at.returns-then-index-from-clause-weight g c).After-node-node) c.args.lift c.deeper.result c.deeper.ensures.list

pub deeper-rest-requires-clause-shallow : goal.deeper-rest-requires-clause-shallow
deeper-rest-requires-clause-shallow g c =
    (stands-node (here g (goal.at.deeper-rest-requires-clause-shallow g c).After-node-node) c.args.lift (g.R.Rows.means c.args.rows.now) deepest c.requires.stands).shallow

pub enter-requires-clause-subst : goal.enter-requires-clause-subst
enter-requires-clause-subst g c =
    let f = g.R.Rows.means c.args.rows.now in
    subst (IsDelayed f) c.in-Under.is (is_delayed-node (here g (goal.at.enter-requires-clause-subst g c).After-node-node) c.args.lift f deepest c.requires.stands)

pub enter-requires-clause-stands : goal.enter-requires-clause-stands
enter-requires-clause-stands g c =
    stands-node (here g (goal.at.enter-requires-clause-stands g c).After-node-node) c.args.lift (g.R.Rows.means c.args.rows.now) deepest c.requires.stands

pub returns-in-Raised-clause-meaning : goal.returns-in-Raised-clause-meaning
returns-in-Raised-clause-meaning g c =
    let f = g.R.Rows.means c.args.rows.now in
    let by = c.from-in-Raised.ensures in
    ap (λ n. variable_meaning f (listed (lists c.args.environments.now) c.deeper-rest.result) (c.args.index + n)) by
    ∙ meaning-raised (here g (goal.at.returns-in-Raised-clause-meaning g c).After-node-node) c.args.lift c.deeper-rest.result c.deeper-rest.ensures.list f c.args.index c.in-Raised.by (omega arith) c.in-Raised.is

pub returns-in-Raised-clause-stands : goal.returns-in-Raised-clause-stands
returns-in-Raised-clause-stands g c =
    stands-past_node (here g (goal.at.returns-in-Raised-clause-stands g c).After-node-node) c.args.lift c.deeper-rest.result c.deeper-rest.ensures.list c.deeper-rest.ensures.within (g.R.Rows.means c.args.rows.now)

pub returns-in-Raised-clause-weight : goal.returns-in-Raised-clause-weight
returns-in-Raised-clause-weight g c =
    weight-past (here g (goal.at.returns-in-Raised-clause-weight g c).After-node-node) c.args.lift c.deeper-rest.result c.deeper-rest.ensures.list

pub returns-in_ok-enter-in-Under-clause-meaning : goal.returns-in_ok-enter-in-Under-clause-meaning
returns-in_ok-enter-in-Under-clause-meaning g c =
    let node = here g (goal.at.returns-in_ok-enter-in-Under-clause-meaning g c).After-node-node in
    c.in_ok-enter-in-Under.ensures.meaning
    ∙ meaning-under node c.args.lift (g.R.Rows.means c.args.rows.now) c.in-Under.subst c.args.index c.in-Under.is

pub returns-in_ok-enter-in-Under-clause-stands : goal.returns-in_ok-enter-in-Under-clause-stands
returns-in_ok-enter-in-Under-clause-stands g c = λ n s.
    let node = here g (goal.at.returns-in_ok-enter-in-Under-clause-stands g c).After-node-node in
    c.in_ok-enter-in-Under.ensures.stands n (stands-node node c.args.lift (g.R.Rows.means c.args.rows.now) n s)

pub returns-in_ok-enter-in-Under-clause-weight : goal.returns-in_ok-enter-in-Under-clause-weight
returns-in_ok-enter-in-Under-clause-weight g c =
    let e = weight_of-node (here g (goal.at.returns-in_ok-enter-in-Under-clause-weight g c).After-node-node) c.args.lift in
    let s = ap delayed_weight c.in-Under.is in
    let less = c.in_ok-enter-in-Under.ensures.weight in
    omega arith

pub chained-requires-clause-subst : goal.chained-requires-clause-subst
chained-requires-clause-subst g c =
    let f = g.R.Rows.means c.args.rows.now in
    subst (IsDelayed f) c.in-Under.is (is_delayed-node (here g (goal.at.chained-requires-clause-subst g c).After-node-node) c.args.lift f deepest c.requires.stands)

pub deeper-requires-in-Some-clause-shallow : goal.deeper-requires-in-Some-clause-shallow
deeper-requires-in-Some-clause-shallow g c =
    (stands-node (here g (goal.at.deeper-requires-in-Some-clause-shallow g c).After-node-node) c.args.lift (g.R.Rows.means c.args.rows.now) deepest c.requires.stands).shallow

pub returns-in-Some-clause-meaning : goal.returns-in-Some-clause-meaning
returns-in-Some-clause-meaning g c =
    let f = g.R.Rows.means c.args.rows.now in
    let past = rw c.in-Some.is at c.in_ok-past-in-Under.ensures.meaning in
    ap (λ ws. variable_meaning f ws c.in-Some.past) c.deeper-in-Some.ensures.list
    ∙ sym (past (deepened c.args.lift (listed (lists c.args.environments.now) c.node-node.result.rest)))
    ∙ meaning-under (here g (goal.at.returns-in-Some-clause-meaning g c).After-node-node) c.args.lift f c.in-Under.subst c.args.index c.in-Under.is

pub returns-in-Some-clause-stands : goal.returns-in-Some-clause-stands
returns-in-Some-clause-stands g c =
    stands-past_node (here g (goal.at.returns-in-Some-clause-stands g c).After-node-node) c.args.lift c.deeper-in-Some.result c.deeper-in-Some.ensures.list c.deeper-in-Some.ensures.within (g.R.Rows.means c.args.rows.now)

pub returns-in-Some-clause-weight : goal.returns-in-Some-clause-weight
returns-in-Some-clause-weight g c =
    weight-past (here g (goal.at.returns-in-Some-clause-weight g c).After-node-node) c.args.lift c.deeper-in-Some.result c.deeper-in-Some.ensures.list
