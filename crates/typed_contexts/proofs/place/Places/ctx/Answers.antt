use Rattle.std.proofs.Common.{sym, ◌∙◌, ap, subst, arith}
use Rattle.trees.specs.Language.{Ctx}
use Rattle.typed_nodes.specs.Typed.{Says}
use Rattle.typed_contexts.specs.Contexts.{at_depth}
use Rattle.typed_contexts.proofs.ContextLaws.{at_depth-whole}
use Rattle.typed_contexts.proofs.PlaceLaws.{empty-says}
use Rattle.typed_contexts.proofs.place.Places.ctx.Goals as goal

pub level-requires-clause-within : goal.level-requires-clause-within
level-requires-clause-within c = omega (arith, c.depth-depth.ensures.levels)

pub returns-then-depth-eq0 : goal.returns-then-depth-eq0
returns-then-depth-eq0 c = λ b H is.
    empty-says b c.args.self.now H (sym (c.depth-depth.ensures.place b H is) ∙ c.if-depth-eq0.true) is

pub returns-else-depth-eq0 : goal.returns-else-depth-eq0
returns-else-depth-eq0 c = λ b H is.
    let whole = ap (λ n. at_depth n H) (c.depth-depth.ensures.place b H is) ∙ at_depth-whole H in
    subst (λ G. Says b c.level.result.ctx (Ctx G)) whole (c.level.ensures b H is).ctx_is
