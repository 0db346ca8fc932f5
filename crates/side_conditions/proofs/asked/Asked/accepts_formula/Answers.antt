use Rattle.std.proofs.Common.{◌↔◌, IsTrue, option_copied, refl, sym, ◌∙◌, subst, arith}
use Rattle.conditions.specs.Sides.{is_formula}
use Rattle.side_conditions.specs.declared.reading.Detail.TheVariants as detail
use Rattle.side_conditions.specs.Contexts.{context_of}
use Rattle.side_conditions.specs.Readings.{IsValued}
use Rattle.side_conditions.specs.Shapes.{tree_of}
use Rattle.side_conditions.proofs.FormulaLaws.{copied-some, formula-accepted}
use Rattle.side_conditions.proofs.asked.Asked.accepts_formula.Goals as goal

pub returns-clause-next : goal.returns-clause-next
returns-clause-next g c = record {
  asked = record {
    stands = c.requires.asked.stands;
    kinds = c.in_ok-root.ensures.keeps c.forget.new.self c.forget.ensures.forgets;
    values = c.requires.asked.values;
  };
  ctx = refl;
  stays = λ stays. record {
    ctx = stays.ctx;
    kinds = let mark = c.forget.ensures.mark ∙ c.in_ok-root.ensures.mark in omega arith;
    values = stays.values;
  };
}

pub returns-clause-accepts : goal.returns-clause-accepts
returns-clause-accepts g c =
    let f = g.R.Rows.means c.args.rows.now in
    let G = context_of (f c.args.self.now.faces.ctx.0) in
    let t = tree_of (f c.args.tree.0) in
    subst (λ b. IsTrue b ↔ IsTrue (is_formula G t)) (copied-some c.form.result ∙ sym c.is_some-accepts.ensures)
    (formula-accepted (IsValued detail.Kind) G t c.read_tree.new.readings c.in_ok-root.root c.in_ok-root.ensures.there
    (λ found is. c.in_ok-root.ensures.reads found is G (sym c.requires.asked.stands.names_are)) (option_copied c.form.result) c.form.ensures)
