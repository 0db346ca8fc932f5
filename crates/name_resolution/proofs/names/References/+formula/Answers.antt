use Rattle.std.proofs.Common.{ap, sym, ◌∙◌}
use Rattle.syntax.specs.View.{formula_of}
use Rattle.codes.specs.FormulaShapes as shape
use Rattle.codes.specs.FormulaShapes.{formula_shape}
use Rattle.name_resolution.specs.Named.{formula_in}
use Rattle.translation.specs.Forms.{one, two}
use Rattle.translation.specs.Terms.{neg, min, max}
use Rattle.translation.specs.Texts.{formula as the_formula}
use Rattle.scopes.proofs.Moving.{resolves_one, resolves_two}
use Rattle.name_resolution.proofs.Parts.{returned, shaped_as, among_same}
use Rattle.name_resolution.proofs.names.References.+formula.Goals as goal

pub returns-in_ok-formula-in-Negate-clause-resolves : goal.returns-in_ok-formula-in-Negate-clause-resolves
returns-in_ok-formula-in-Negate-clause-resolves t c =
    let bytes = c.args.self.now.bytes.now in
    returned c.negate.result c.negate.ensures.means
    (ap (λ f. the_formula bytes (formula_of f)) c.in-Negate.is ∙ ap (λ f. one neg (the_formula bytes (formula_of f))) (sym c.deref.ensures))
    (resolves_one neg _ _ _ _ c.in_ok-formula-in-Negate.ensures.resolves)

pub returns-in_ok-right-in-Meet-clause-resolves : goal.returns-in_ok-right-in-Meet-clause-resolves
returns-in_ok-right-in-Meet-clause-resolves t c =
    let bytes = c.args.self.now.bytes.now in
    returned c.meet.result c.meet.ensures.means
    (ap (λ f. the_formula bytes (formula_of f)) c.in-Meet.is
    ∙ ap (λ f. two min (the_formula bytes (formula_of f)) (the_formula bytes (formula_of c.in-Meet.right.value))) (sym c.deref-in-Meet.ensures)
    ∙ ap (λ f. two min (the_formula bytes (formula_of c.deref-in-Meet.result.now)) (the_formula bytes (formula_of f))) (sym c.deref-in-Meet-2.ensures))
    (resolves_two min _ _ _ _ _ _ _ c.in_ok-left-in-Meet.ensures.resolves c.in_ok-right-in-Meet.ensures.resolves)

pub returns-in_ok-right-in-Join-clause-resolves : goal.returns-in_ok-right-in-Join-clause-resolves
returns-in_ok-right-in-Join-clause-resolves t c =
    let bytes = c.args.self.now.bytes.now in
    returned c.join.result c.join.ensures.means
    (ap (λ f. the_formula bytes (formula_of f)) c.in-Join.is
    ∙ ap (λ f. two max (the_formula bytes (formula_of f)) (the_formula bytes (formula_of c.in-Join.right.value))) (sym c.deref-in-Join.ensures)
    ∙ ap (λ f. two max (the_formula bytes (formula_of c.deref-in-Join.result.now)) (the_formula bytes (formula_of f))) (sym c.deref-in-Join-2.ensures))
    (resolves_two max _ _ _ _ _ _ _ c.in_ok-left-in-Join.ensures.resolves c.in_ok-right-in-Join.ensures.resolves)

pub returns-in-Name-clause-shaped : goal.returns-in-Name-clause-shaped
returns-in-Name-clause-shaped t c =
    let bytes = c.args.self.now.bytes.now in
    let names = c.args.place.now.names in
    ap (shape.Bound c.in-Name.span) c.interval.ensures.named ∙ sym (ap (λ f. formula_in bytes names (formula_of f)) c.in-Name.is)

pub returns-in_ok-formula-in-Negate-clause-shaped : goal.returns-in_ok-formula-in-Negate-clause-shaped
returns-in_ok-formula-in-Negate-clause-shaped t c =
    let bytes = c.args.self.now.bytes.now in
    let names = c.args.place.now.names in
    shaped_as c.negate.result c.negate.ensures.shaped
    (ap (shape.Negate c.in-Negate.span) (c.in_ok-formula-in-Negate.ensures.shaped ∙ ap (λ f. formula_in bytes names (formula_of f)) c.deref.ensures)
    ∙ sym (ap (λ f. formula_in bytes names (formula_of f)) c.in-Negate.is))

pub returns-in_ok-right-in-Meet-clause-shaped : goal.returns-in_ok-right-in-Meet-clause-shaped
returns-in_ok-right-in-Meet-clause-shaped t c =
    let bytes = c.args.self.now.bytes.now in
    let names = c.args.place.now.names in
    shaped_as c.meet.result c.meet.ensures.shaped
    (ap (shape.Meet c.in-Meet.span (formula_shape c.in_ok-left-in-Meet.left))
    (c.in_ok-right-in-Meet.ensures.shaped ∙ among_same bytes c.in_ok-left-in-Meet.ensures.resolves.keeps _ ∙ ap (λ f. formula_in bytes names (formula_of f)) c.deref-in-Meet-2.ensures)
    ∙ ap (λ f. shape.Meet c.in-Meet.span f (formula_in bytes names (formula_of c.in-Meet.right.value))) (c.in_ok-left-in-Meet.ensures.shaped ∙ ap (λ f. formula_in bytes names (formula_of f)) c.deref-in-Meet.ensures)
    ∙ sym (ap (λ f. formula_in bytes names (formula_of f)) c.in-Meet.is))

pub returns-in_ok-right-in-Join-clause-shaped : goal.returns-in_ok-right-in-Join-clause-shaped
returns-in_ok-right-in-Join-clause-shaped t c =
    let bytes = c.args.self.now.bytes.now in
    let names = c.args.place.now.names in
    shaped_as c.join.result c.join.ensures.shaped
    (ap (shape.Join c.in-Join.span (formula_shape c.in_ok-left-in-Join.left))
    (c.in_ok-right-in-Join.ensures.shaped ∙ among_same bytes c.in_ok-left-in-Join.ensures.resolves.keeps _ ∙ ap (λ f. formula_in bytes names (formula_of f)) c.deref-in-Join-2.ensures)
    ∙ ap (λ f. shape.Join c.in-Join.span f (formula_in bytes names (formula_of c.in-Join.right.value))) (c.in_ok-left-in-Join.ensures.shaped ∙ ap (λ f. formula_in bytes names (formula_of f)) c.deref-in-Join.ensures)
    ∙ sym (ap (λ f. formula_in bytes names (formula_of f)) c.in-Join.is))
