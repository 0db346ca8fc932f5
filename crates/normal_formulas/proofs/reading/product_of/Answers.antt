use Rattle.std.proofs.Common.{◌-◌, sym, subst}
use Rattle.rows.proofs.TableLaws.{grows-grows}
use Rattle.closures.specs.Environments.{deepest}
use Rattle.closures.specs.Shown.{lists}
use Rattle.tree_frames.specs.Frames.{tree_in}
use Rattle.normal_formulas.specs.Atoms.{atom_tree, joiner_of, none_of}
use Rattle.normal_formulas.specs.Reads.{Reads, AreParts}
use Rattle.normal_formulas.proofs.ReadLaws.{exact-atoms}
use Rattle.normal_formulas.proofs.PartLaws.{part-later, reading-none, reading-next, reading-end}
use Rattle.normal_formulas.proofs.reading.product_of.Goals as goal

pub atom_of-requires : goal.atom_of-requires
atom_of-requires g c =
    let f = g.R.Rows.means c.args.rows.now in
    let begin = lists c.parts.new.environments in
    let p : AreParts f begin (deepest - 1) (joiner_of c.args.sort) (none_of c.args.sort) (tree_in f (lists c.args.environments.now) c.args.closure) c.deref-part-items.result.now = subst (λ o. AreParts f begin (deepest - 1) o (none_of c.args.sort) (tree_in f (lists c.args.environments.now) c.args.closure) c.deref-part-items.result.now) c.joiner_of.ensures (subst (λ o. AreParts f begin (deepest - 1) c.joiner_of.result o (tree_in f (lists c.args.environments.now) c.args.closure) c.deref-part-items.result.now) c.none_of.ensures (subst (AreParts f begin (deepest - 1) c.joiner_of.result c.none_of.result (tree_in f (lists c.args.environments.now) c.args.closure)) (sym c.deref-part-items.ensures.value) c.in_ok-parts.ensures.parts)) in
    part-later f begin (lists c.loop-part.environments) (deepest - 1) (joiner_of c.args.sort) (none_of c.args.sort) _ c.deref-part-items.result.now c.loop-part.part-index _ p c.loop-part.invariant.0 c.loop-part-test.true

pub returns-in_default-clause-reads : goal.returns-in_default-clause-reads
returns-in_default-clause-reads g c =
    let f = g.R.Rows.means c.args.rows.now in
    let begin = lists c.parts.new.environments in
    let p : AreParts f begin (deepest - 1) (joiner_of c.args.sort) (none_of c.args.sort) (tree_in f (lists c.args.environments.now) c.args.closure) c.deref-part-items.result.now = subst (λ o. AreParts f begin (deepest - 1) o (none_of c.args.sort) (tree_in f (lists c.args.environments.now) c.args.closure) c.deref-part-items.result.now) c.joiner_of.ensures (subst (λ o. AreParts f begin (deepest - 1) c.joiner_of.result o (tree_in f (lists c.args.environments.now) c.args.closure) c.deref-part-items.result.now) c.none_of.ensures (subst (AreParts f begin (deepest - 1) c.joiner_of.result c.none_of.result (tree_in f (lists c.args.environments.now) c.args.closure)) (sym c.deref-part-items.ensures.value) c.in_ok-parts.ensures.parts)) in
    reading-none (exact-atoms c.args.sort) f begin (lists c.loop-part.environments) (deepest - 1) (tree_in f (lists c.args.environments.now) c.args.closure) c.deref-part-items.result.now c.loop-part.part-index _ p c.loop-part.invariant.0 c.loop-part-test.true (subst (Reads (atom_tree c.args.sort) _) c.in_default.is c.in_ok-atom.ensures.reads)

pub loop-part-preserved : goal.loop-part-preserved
loop-part-preserved g c =
    let f = g.R.Rows.means c.args.rows.now in
    let begin = lists c.parts.new.environments in
    let p : AreParts f begin (deepest - 1) (joiner_of c.args.sort) (none_of c.args.sort) (tree_in f (lists c.args.environments.now) c.args.closure) c.deref-part-items.result.now = subst (λ o. AreParts f begin (deepest - 1) o (none_of c.args.sort) (tree_in f (lists c.args.environments.now) c.args.closure) c.deref-part-items.result.now) c.joiner_of.ensures (subst (λ o. AreParts f begin (deepest - 1) c.joiner_of.result o (tree_in f (lists c.args.environments.now) c.args.closure) c.deref-part-items.result.now) c.none_of.ensures (subst (AreParts f begin (deepest - 1) c.joiner_of.result c.none_of.result (tree_in f (lists c.args.environments.now) c.args.closure)) (sym c.deref-part-items.ensures.value) c.in_ok-parts.ensures.parts)) in (
      grows-grows begin (lists c.loop-part.environments) (lists c.atom_of.new.environments) c.loop-part.invariant.0 c.atom_of.ensures.grows,
      reading-next (atom_tree c.args.sort) f begin (lists c.loop-part.environments) (deepest - 1) (joiner_of c.args.sort) (none_of c.args.sort) (tree_in f (lists c.args.environments.now) c.args.closure) c.deref-part-items.result.now c.loop-part.part-index _ c.loop-part.atoms.items c.push.new.self.items c.in-Some.atom
          p c.loop-part.invariant.0 c.loop-part-test.true (subst (Reads (atom_tree c.args.sort) _) c.in-Some.is c.in_ok-atom.ensures.reads) c.in_ok-push.ensures.items c.loop-part.invariant.1,
    )

pub returns-clause-reads : goal.returns-clause-reads
returns-clause-reads g c =
    let f = g.R.Rows.means c.args.rows.now in
    let begin = lists c.parts.new.environments in
    let p : AreParts f begin (deepest - 1) (joiner_of c.args.sort) (none_of c.args.sort) (tree_in f (lists c.args.environments.now) c.args.closure) c.deref-part-items.result.now = subst (λ o. AreParts f begin (deepest - 1) o (none_of c.args.sort) (tree_in f (lists c.args.environments.now) c.args.closure) c.deref-part-items.result.now) c.joiner_of.ensures (subst (λ o. AreParts f begin (deepest - 1) c.joiner_of.result o (tree_in f (lists c.args.environments.now) c.args.closure) c.deref-part-items.result.now) c.none_of.ensures (subst (AreParts f begin (deepest - 1) c.joiner_of.result c.none_of.result (tree_in f (lists c.args.environments.now) c.args.closure)) (sym c.deref-part-items.ensures.value) c.in_ok-parts.ensures.parts)) in
    reading-end (exact-atoms c.args.sort) f begin (deepest - 1) (tree_in f (lists c.args.environments.now) c.args.closure) c.deref-part-items.result.now c.loop-part.part-index c.loop-part.atoms.items p c.loop-part-test.false c.loop-part.invariant.1
