use Rattle.std.proofs.Common.{◌<◌, ◌∙◌, sym, ap, subst, length, take}
use Rattle.std.proofs.lemmas.List.Elements.{All-same}
use Rattle.theory.specs.RuleNames.{kinds_of, premises_of}
use Rattle.trees.specs.Things.{meanings}
use Rattle.rules.specs.Shifts.{ShiftsFit}
use Rattle.book.specs.Shown.{book_means}
use Rattle.recipe_runner.specs.Running.{numbers_at}
use Rattle.recipe_runner.proofs.BuildLaws.{rule-there, cut-as, use-along}
use Rattle.recipe_runner.proofs.interpreter.infer.Goals as goal

pub picked-parts-requires-clause-within : goal.picked-parts-requires-clause-within
picked-parts-requires-clause-within c =
    let made = c.args.made.now in
    let r = rule-there c.args.book.now made c.args.rule c.args.parts.now c.args.nodes.now c.requires.0 c.requires.1 in
    All-same (λ n. n < length made) c.split_at.result.0.now (take (length (kinds_of c.args.rule)) c.args.parts.now) (cut-as c.args.parts.now c.split_at.result.0.now _ _ c.split_at.ensures.front c.count_parts.ensures) r.parts_in

pub picked-premises-requires-clause-within : goal.picked-premises-requires-clause-within
picked-premises-requires-clause-within c =
    let made = c.args.made.now in
    let r = rule-there c.args.book.now made c.args.rule c.args.parts.now c.args.nodes.now c.requires.0 c.requires.1 in
    All-same (λ n. n < length made) c.split_at-2.result.0.now (take (premises_of c.args.rule) c.args.nodes.now) (cut-as c.args.nodes.now c.split_at-2.result.0.now _ _ c.split_at-2.ensures.front c.count_premises.ensures) r.nodes_in

pub conclude-requires-clause-right : goal.conclude-requires-clause-right
conclude-requires-clause-right c =
    let made = c.args.made.now in
    let r = rule-there c.args.book.now made c.args.rule c.args.parts.now c.args.nodes.now c.requires.0 c.requires.1 in
    let parts = c.picked-parts.ensures ∙ ap (numbers_at made) (cut-as c.args.parts.now c.split_at.result.0.now _ _ c.split_at.ensures.front c.count_parts.ensures) in
    let nodes = c.picked-premises.ensures ∙ ap (numbers_at made) (cut-as c.args.nodes.now c.split_at-2.result.0.now _ _ c.split_at-2.ensures.front c.count_premises.ensures) in
    (c.requires.0, use-along c.args.book.now c.args.rule c.picked-parts.result c.picked-premises.result _ _ c.requires.0 parts nodes r.use_is)

pub conclude-requires-clause-shifts : goal.conclude-requires-clause-shifts
conclude-requires-clause-shifts c =
    let made = c.args.made.now in
    let r = rule-there c.args.book.now made c.args.rule c.args.parts.now c.args.nodes.now c.requires.0 c.requires.1 in
    let parts = c.picked-parts.ensures ∙ ap (numbers_at made) (cut-as c.args.parts.now c.split_at.result.0.now _ _ c.split_at.ensures.front c.count_parts.ensures) in
    subst (λ xs. ShiftsFit (meanings (book_means c.args.book.now) xs)) (sym parts) r.shifts

pub returns-clause-concludes : goal.returns-clause-concludes
returns-clause-concludes c = λ J h.
    let made = c.args.made.now in
    let r = rule-there c.args.book.now made c.args.rule c.args.parts.now c.args.nodes.now J h in
    let parts = c.picked-parts.ensures ∙ ap (numbers_at made) (cut-as c.args.parts.now c.split_at.result.0.now _ _ c.split_at.ensures.front c.count_parts.ensures) in
    let nodes = c.picked-premises.ensures ∙ ap (numbers_at made) (cut-as c.args.nodes.now c.split_at-2.result.0.now _ _ c.split_at-2.ensures.front c.count_premises.ensures) in
    c.in_ok-node.ensures.concludes J (use-along c.args.book.now c.args.rule c.picked-parts.result c.picked-premises.result _ _ J parts nodes r.use_is)
