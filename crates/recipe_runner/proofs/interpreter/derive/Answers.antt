use Rattle.std.proofs.Common.{◌<◌, ◌∙◌, ap, length, take}
use Rattle.std.proofs.lemmas.List.Elements.{All-same}
use Rattle.recipe_runner.specs.Running.{numbers_at}
use Rattle.recipe_runner.proofs.BuildLaws.{earlier-there, cut-as, derive-along}
use Rattle.recipe_runner.proofs.interpreter.derive.Goals as goal

pub picked-parts-requires-clause-within : goal.picked-parts-requires-clause-within
picked-parts-requires-clause-within g c =
    let a = c.args in
    let made = a.made.now in
    let t = earlier-there (g.E.Earlier.states a.earlier.now) a.book.now made a.recipe a.parts.now a.nodes.now c.requires.0 c.requires.1 in
    All-same (λ n. n < length made) c.split_at.result.0.now (take (length t.statement.kinds) a.parts.now) (cut-as a.parts.now c.split_at.result.0.now _ _ c.split_at.ensures.front (c.count_parts.ensures.count t.statement t.is)) t.parts_in

pub picked-premises-requires-clause-within : goal.picked-premises-requires-clause-within
picked-premises-requires-clause-within g c =
    let a = c.args in
    let made = a.made.now in
    let t = earlier-there (g.E.Earlier.states a.earlier.now) a.book.now made a.recipe a.parts.now a.nodes.now c.requires.0 c.requires.1 in
    All-same (λ n. n < length made) c.split_at-2.result.0.now (take (length t.statement.wants) a.nodes.now) (cut-as a.nodes.now c.split_at-2.result.0.now _ _ c.split_at-2.ensures.front (c.count_premises.ensures.count t.statement t.is)) t.nodes_in

pub derive-requires : goal.derive-requires
derive-requires g c =
    let a = c.args in
    let made = a.made.now in
    let ss = g.E.Earlier.states a.earlier.now in
    let t = earlier-there ss a.book.now made a.recipe a.parts.now a.nodes.now c.requires.0 c.requires.1 in
    let parts = c.as_slice.ensures.value ∙ c.picked-parts.ensures ∙ ap (numbers_at made) (cut-as a.parts.now c.split_at.result.0.now _ _ c.split_at.ensures.front (c.count_parts.ensures.count t.statement t.is)) in
    let nodes = c.as_slice-2.ensures.value ∙ c.picked-premises.ensures ∙ ap (numbers_at made) (cut-as a.nodes.now c.split_at-2.result.0.now _ _ c.split_at-2.ensures.front (c.count_premises.ensures.count t.statement t.is)) in
    (c.requires.0, derive-along ss a.book.now a.recipe _ _ _ _ c.requires.0 parts nodes t.may)

pub returns-clause-concludes : goal.returns-clause-concludes
returns-clause-concludes g c = λ gives h.
    let a = c.args in
    let made = a.made.now in
    let ss = g.E.Earlier.states a.earlier.now in
    let t = earlier-there ss a.book.now made a.recipe a.parts.now a.nodes.now gives h in
    let parts = c.as_slice.ensures.value ∙ c.picked-parts.ensures ∙ ap (numbers_at made) (cut-as a.parts.now c.split_at.result.0.now _ _ c.split_at.ensures.front (c.count_parts.ensures.count t.statement t.is)) in
    let nodes = c.as_slice-2.ensures.value ∙ c.picked-premises.ensures ∙ ap (numbers_at made) (cut-as a.nodes.now c.split_at-2.result.0.now _ _ c.split_at-2.ensures.front (c.count_premises.ensures.count t.statement t.is)) in
    c.in_ok-derive.ensures.concludes gives (derive-along ss a.book.now a.recipe _ _ _ _ gives parts nodes t.may)
