use Rattle.std.proofs.Common.{◌≡◌, ap, sym, ◌∙◌, subst}
use Rattle.rows.specs.declared.views.TermId.{TermId}
use Rattle.closures.specs.Shown.{lists}
use Rattle.closures.specs.declared.closure.Closure.{Closure}
use Rattle.closures.specs.declared.environments.Environment.TheVariants as env
use Rattle.side_conditions.specs.declared.readings.Readings.{Readings}
use Rattle.side_conditions.specs.Readings.{IsValued}
use Rattle.side_conditions.specs.Remembered.{AreKept}
use Rattle.side_conditions.specs.Shown.{reading_at}
use Rattle.side_conditions.specs.Walks.{Remembers}
use Rattle.side_conditions.proofs.RememberedLaws.{kept-remembers, kept-fewer, forgotten-kept, row-reads}
use Rattle.side_conditions.proofs.asked.read_tree.Goals as goal
use Rattle.side_conditions.proofs.asked.read_tree.Goals.{then-not-contains+in_ok-read, else-not-contains}

pub read-requires-clause-remembers : goal.read-requires-clause-remembers
read-requires-clause-remembers g c =
    let f = g.R.Rows.means c.args.rows.now in
    let known = lists c.new-environments.result in
    let r = c.remember_below.new.self in
    let names = c.args.faces.now.names.items in
    subst (λ ns. Remembers (IsValued c.args.detail) f known ns (reading_at r)) (sym c.names.ensures)
    (kept-remembers (IsValued c.args.detail) f known names r
    (kept-fewer (IsValued c.args.detail) f names c.args.readings.now r c.requires.kept c.remember_below.ensures.forgets))

-- what stands in the readings then, whether the tree was read or had been
pub returns-clause-reads : goal.returns-clause-reads
returns-clause-reads g c =
    let f = g.R.Rows.means c.args.rows.now in
    let V = IsValued c.args.detail in
    let names = c.args.faces.now.names.items in
    let root = c.outermost-root.result in
    let row : root.closure.row.0 ≡ c.args.tree.0 = ap (λ (x : Closure). x.row.0) c.outermost-root.ensures.closure ∙ ap (λ (r : TermId). r.0) c.of_row.ensures.row in
    let none : root.closure.environment ≡ env.Empty = ap (λ (x : Closure). x.environment) c.outermost-root.ensures.closure ∙ c.of_row.ensures.environment in
    elim c.if-not-contains.branch [
      | then-not-contains+in_ok-read w ↦
          let known = lists w.read.new.environments in
          let r : Remembers V f known names (reading_at c.if-not-contains.readings) =
          subst (λ (x : Readings). Remembers V f known names (reading_at x)) (sym w.readings-is)
          (subst (λ ns. Remembers V f known ns (reading_at w.read.new.readings)) w.names.ensures w.in_ok-read.ensures.remembers) in
          row-reads V f known names c.if-not-contains.readings c.args.tree.0 root c.requires.tree row none c.outermost-root.ensures.depth r
      | else-not-contains w ↦
          let known = lists c.new-environments.result in
          let kept = kept-fewer V f names c.args.readings.now c.remember_below.new.self c.requires.kept c.remember_below.ensures.forgets in
          let r : Remembers V f known names (reading_at c.if-not-contains.readings) =
          subst (λ (x : Readings). Remembers V f known names (reading_at x)) (sym w.readings-is)
          (kept-remembers V f known names c.remember_below.new.self kept) in
          row-reads V f known names c.if-not-contains.readings c.args.tree.0 root c.requires.tree row none c.outermost-root.ensures.depth r
    ]

pub returns-clause-keeps : goal.returns-clause-keeps
returns-clause-keeps g c = λ after forgotten.
    let f = g.R.Rows.means c.args.rows.now in
    let V = IsValued c.args.detail in
    let names = c.args.faces.now.names.items in
    elim c.if-not-contains.branch [
      | then-not-contains+in_ok-read w ↦
          let known = lists w.read.new.environments in
          let r : Remembers V f known names (reading_at c.if-not-contains.readings) =
          subst (λ (x : Readings). Remembers V f known names (reading_at x)) (sym w.readings-is)
          (subst (λ ns. Remembers V f known ns (reading_at w.read.new.readings)) w.names.ensures w.in_ok-read.ensures.remembers) in
          forgotten-kept V f known names c.if-not-contains.readings after r forgotten
      | else-not-contains w ↦
          let kept = kept-fewer V f names c.args.readings.now c.remember_below.new.self c.requires.kept c.remember_below.ensures.forgets in
          kept-fewer V f names c.if-not-contains.readings after
          (subst (AreKept V f names) (sym w.readings-is) kept) forgotten
    ]
