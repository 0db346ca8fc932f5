use Rattle.std.proofs.Common.{◌-◌, ◌∷◌, [], Vec, Global, get_or, sym, ◌∙◌, ap, subst}
use Rattle.std.specs.Prelude.{option_map}
use Rattle.std.proofs.lemmas.List.{map-append}
use Rattle.trees.specs.declared.op.Op.TheVariants as op
use Rattle.rows.proofs.TableLaws.{grows-grows}
use Rattle.closures.specs.declared.closure.Closure.{Closure}
use Rattle.closures.specs.declared.environments.Environment.TheVariants as env
use Rattle.closures.specs.Environments.{deepest}
use Rattle.closures.specs.Shown.{lists}
use Rattle.tree_frames.specs.Frames.{tree_in}
use Rattle.normal_formulas.specs.declared.atoms.Atom.{Atom}
use Rattle.normal_formulas.specs.declared.atoms.Sort.TheVariants as sort
use Rattle.normal_formulas.specs.Atoms.{product, lists_of}
use Rattle.normal_formulas.specs.Reads.{Reads, AreParts}
use Rattle.normal_formulas.proofs.ReadLaws.{exact-products}
use Rattle.normal_formulas.proofs.PartLaws.{part-later, reading-none, reading-next, reading-end}
use Rattle.normal_formulas.proofs.reading.sum_of.Goals as goal

abbrev first : Closure
first = record { row = record { 0 = 0 }; environment = env.Empty }

pub product_of-requires : goal.product_of-requires
product_of-requires g c =
    let f = g.R.Rows.means c.args.rows.now in
    let begin = lists c.parts.new.environments in
    let p : AreParts f begin (deepest - 1) op.Max op.I0 (tree_in f (lists c.args.environments.now) c.args.closure) c.deref-part-items.result.now = subst (AreParts f begin (deepest - 1) op.Max op.I0 (tree_in f (lists c.args.environments.now) c.args.closure)) (sym c.deref-part-items.ensures.value) c.in_ok-parts.ensures.parts in
    part-later f begin (lists c.loop-part.environments) (deepest - 1) op.Max op.I0 _ c.deref-part-items.result.now c.loop-part.part-index first p c.loop-part.invariant.0 c.loop-part-test.true

pub returns-in_default-clause-reads : goal.returns-in_default-clause-reads
returns-in_default-clause-reads g c =
    let f = g.R.Rows.means c.args.rows.now in
    let begin = lists c.parts.new.environments in
    let p : AreParts f begin (deepest - 1) op.Max op.I0 (tree_in f (lists c.args.environments.now) c.args.closure) c.deref-part-items.result.now = subst (AreParts f begin (deepest - 1) op.Max op.I0 (tree_in f (lists c.args.environments.now) c.args.closure)) (sym c.deref-part-items.ensures.value) c.in_ok-parts.ensures.parts in
    reading-none exact-products f begin (lists c.loop-part.environments) (deepest - 1) (tree_in f (lists c.args.environments.now) c.args.closure) c.deref-part-items.result.now c.loop-part.part-index first p c.loop-part.invariant.0 c.loop-part-test.true (subst (λ found. Reads (product sort.Literals) (tree_in f (lists c.loop-part.environments) (get_or c.deref-part-items.result.now c.loop-part.part-index first)) (option_map (λ (v : Vec Atom Global). v.items) found)) c.in_default.is c.in_ok-product.ensures.reads)

pub loop-part-preserved : goal.loop-part-preserved
loop-part-preserved g c =
    let f = g.R.Rows.means c.args.rows.now in
    let begin = lists c.parts.new.environments in
    let p : AreParts f begin (deepest - 1) op.Max op.I0 (tree_in f (lists c.args.environments.now) c.args.closure) c.deref-part-items.result.now = subst (AreParts f begin (deepest - 1) op.Max op.I0 (tree_in f (lists c.args.environments.now) c.args.closure)) (sym c.deref-part-items.ensures.value) c.in_ok-parts.ensures.parts in (
      grows-grows begin (lists c.loop-part.environments) (lists c.product_of.new.environments) c.loop-part.invariant.0 c.product_of.ensures.grows,
      reading-next (product sort.Literals) f begin (lists c.loop-part.environments) (deepest - 1) op.Max op.I0 (tree_in f (lists c.args.environments.now) c.args.closure) c.deref-part-items.result.now c.loop-part.part-index first (lists_of c.loop-part.products.items) (lists_of c.push.new.self.items) c.in-Some.product.items
          p c.loop-part.invariant.0 c.loop-part-test.true (subst (λ found. Reads (product sort.Literals) (tree_in f (lists c.loop-part.environments) (get_or c.deref-part-items.result.now c.loop-part.part-index first)) (option_map (λ (v : Vec Atom Global). v.items) found)) c.in-Some.is c.in_ok-product.ensures.reads) (ap lists_of c.in_ok-push.ensures.items ∙ map-append (λ (v : Vec Atom Global). v.items) c.loop-part.products.items (c.in-Some.product ∷ [])) c.loop-part.invariant.1,
    )

pub returns-clause-reads : goal.returns-clause-reads
returns-clause-reads g c =
    let f = g.R.Rows.means c.args.rows.now in
    let begin = lists c.parts.new.environments in
    let p : AreParts f begin (deepest - 1) op.Max op.I0 (tree_in f (lists c.args.environments.now) c.args.closure) c.deref-part-items.result.now = subst (AreParts f begin (deepest - 1) op.Max op.I0 (tree_in f (lists c.args.environments.now) c.args.closure)) (sym c.deref-part-items.ensures.value) c.in_ok-parts.ensures.parts in
    reading-end exact-products f begin (deepest - 1) (tree_in f (lists c.args.environments.now) c.args.closure) c.deref-part-items.result.now c.loop-part.part-index (lists_of c.loop-part.products.items) p c.loop-part-test.false c.loop-part.invariant.1
