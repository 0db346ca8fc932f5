use Rattle.std.proofs.Common.{◌≡◌, ◌-◌, true, false, ◌∙◌, sym, arith}
use Rattle.std.proofs.lemmas.Bool.{lt-ltb}
use Rattle.std.proofs.lemmas.List.{get_or_past}
use Rattle.side_conditions.specs.Shapes.{with_bound}
use Rattle.side_conditions.proofs.OpeningLaws.{length-with_bound, bound_below, bound_above}
use Rattle.side_conditions.proofs.opening.level_of.Goals as goal
use Rattle.side_conditions.proofs.opening.level_of.Goals.{then-index-depth, else-index-depth}

pub returns-then-index-from : goal.returns-then-index-from
returns-then-index-from c =
    get_or_past (with_bound c.args.depth c.args.names.now) c.args.index false
    (let l = length-with_bound c.args.depth c.args.names.now in let t = c.if-index-from.true in omega arith)

pub returns-then-names-index : goal.returns-then-names-index
returns-then-names-index c = (
  omega arith,
  elim c.if-index-depth.branch [
    | then-index-depth w ↦ bound_below c.args.depth c.args.names.now c.args.index w.if-index-depth.true
    | else-index-depth w ↦
        bound_above c.args.depth c.args.names.now c.args.index (c.args.index - c.args.depth) (omega arith)
        ∙ sym w.value-is
        ∙ c.if-names-index.true
  ],
)

pub returns-else-names-index : goal.returns-else-names-index
returns-else-names-index c =
    elim c.if-index-depth.branch [
      | then-index-depth w ↦ (let wrong : true ≡ false = sym (lt-ltb c.args.index c.args.depth w.if-index-depth.true) ∙ sym w.value-is ∙ c.if-names-index.false in cc)
      | else-index-depth w ↦
          bound_above c.args.depth c.args.names.now c.args.index (c.args.index - c.args.depth) (omega arith)
          ∙ sym w.value-is
          ∙ c.if-names-index.false
    ]
