use Rattle.std.proofs.Common.{option_copied, refl, sym, ◌∙◌, arith}
use Rattle.side_conditions.specs.declared.reading.Detail.TheVariants as detail
use Rattle.side_conditions.specs.Contexts.{context_of}
use Rattle.side_conditions.specs.Readings.{IsValued}
use Rattle.side_conditions.specs.Shapes.{tree_of}
use Rattle.side_conditions.proofs.FormulaLaws.{face-or}
use Rattle.side_conditions.proofs.asked.Asked.follows.Goals as goal

pub returns-clause-next : goal.returns-clause-next
returns-clause-next g c = record {
  asked = record {
    stands = c.requires.asked.stands;
    kinds = c.requires.asked.kinds;
    values = c.in_ok-root.ensures.keeps c.forget.new.self c.forget.ensures.forgets;
  };
  ctx = refl;
  stays = λ stays. record {
    ctx = stays.ctx;
    kinds = stays.kinds;
    values = let mark = c.forget.ensures.mark ∙ c.in_ok-root.ensures.mark in omega arith;
  };
}

pub returns-clause-follows : goal.returns-clause-follows
returns-clause-follows g c =
    let f = g.R.Rows.means c.args.rows.now in
    let G = context_of (f c.args.self.now.faces.ctx.0) in
    let t = tree_of (f c.args.tree.0) in
    c.in_ok-follows.ensures f c.requires.asked.stands t
    (face-or (IsValued detail.Value) G t c.read_tree.new.readings c.in_ok-root.root c.in_ok-root.ensures.there
    (λ found is. c.in_ok-root.ensures.reads found is G (sym c.requires.asked.stands.names_are)) refl (option_copied c.face.result) c.face.ensures)
