use Rattle.std.proofs.Common.{◌<◌, ◌∙◌, subst}
use Rattle.layout_lexer.specs.Layouts.{start_of}
use Rattle.layout_lexer.proofs.LayoutLaws.{right_step}
use Rattle.layout_lexer.proofs.layout.Layout.end_right_of.Goals as goal

pub loop-token-preserved : goal.loop-token-preserved
loop-token-preserved c =
    right_step c.loop-token.self c.push_mark.new.self (start_of c.args.token) c.args.token.column c.pop.new.self c.pop.result
    (subst (λ n. c.args.token.column < n) c.top.ensures c.loop-token-test.true) c.pop.ensures c.in_ok-push_mark.ensures
    ∙ c.loop-token.invariant
