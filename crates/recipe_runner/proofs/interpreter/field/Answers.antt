use Rattle.std.proofs.Common.{◌<◌, ◌∙◌, sym, ap, subst, length}
use Rattle.std.specs.Prelude.{slice_index}
use Rattle.book.specs.Shown.{book_means}
use Rattle.recipe_runner.proofs.BuildLaws.{field-there, claim-field}
use Rattle.recipe_runner.proofs.interpreter.field.Goals as goal

pub bounds-made-node : goal.bounds-made-node
bounds-made-node c = (field-there c.args.book.now c.args.made.now c.args.node c.args.at c.requires.0 c.requires.1).within

pub conclusion-requires : goal.conclusion-requires
conclusion-requires c = (field-there c.args.book.now c.args.made.now c.args.node c.args.at c.requires.0 c.requires.1).node

pub bounds-as_slice-at : goal.bounds-as_slice-at
bounds-as_slice-at c =
    let f = field-there c.args.book.now c.args.made.now c.args.node c.args.at c.requires.0 c.requires.1 in
    let t = claim-field c.args.book.now c.conclusion.result f.judgement c.args.at c.requires.0 (c.conclusion.ensures ∙ f.concludes) f.field in
    subst (λ ns. c.args.at < length ns) (sym (c.as_slice.ensures ∙ c.rows-rows.ensures)) t.within

pub returns : goal.returns
returns c = λ x h.
    let f = field-there c.args.book.now c.args.made.now c.args.node c.args.at x h in
    let t = claim-field c.args.book.now c.conclusion.result f.judgement c.args.at x (c.conclusion.ensures ∙ f.concludes) f.field in
    ap (λ ns. book_means c.args.book.now (slice_index ns c.args.at)) (c.as_slice.ensures ∙ c.rows-rows.ensures) ∙ t.is
