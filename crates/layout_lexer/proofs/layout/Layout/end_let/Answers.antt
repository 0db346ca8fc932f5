use Rattle.std.proofs.Common.{true≢false, refl, sym, ◌∙◌, ap, cond}
use Rattle.std.specs.List.{list_any}
use Rattle.layout_lexer.specs.declared.blocks.Block.{Block}
use Rattle.layout_lexer.specs.Layouts.{ending, let_depth, start_of}
use Rattle.layout_lexer.proofs.LayoutLaws.{let_ends, let_waits, fewer}
use Rattle.layout_lexer.proofs.layout.Layout.end_let.Goals as goal

pub loop-block-init : goal.loop-block-init
loop-block-init c = record { has_let = sym c.if-not-has_let.ensures; same = refl }

pub returns-then-block : goal.returns-then-block
returns-then-block c =
    sym (let_ends c.loop-block.self c.push_mark.new.self (start_of c.args.token) c.in-Some.block c.pop.new.self c.in-Some.ensures c.in_ok-push_mark.ensures c.if-block.true)
    ∙ c.loop-block.invariant.same
    ∙ ap (λ t. ending (cond t 0 (let_depth c.args.self.now.blocks)) c.args.self.now (start_of c.args.token)) c.if-is_let.ensures

pub loop-block-smaller : goal.loop-block-smaller
loop-block-smaller c = fewer c.loop-block.self c.push_mark.new.self (start_of c.args.token) c.in-Some.block c.pop.new.self c.in-Some.ensures c.in_ok-push_mark.ensures

pub loop-block-preserved : goal.loop-block-preserved
loop-block-preserved c =
    let next = let_waits c.loop-block.self c.push_mark.new.self (start_of c.args.token) c.in-Some.block c.pop.new.self c.in-Some.ensures c.in_ok-push_mark.ensures c.if-block.false c.loop-block.invariant.has_let in
    record { has_let = next.0; same = next.1 ∙ c.loop-block.invariant.same }

pub returns : goal.returns
returns c =
    absurd (true≢false (sym c.loop-block.invariant.has_let ∙ ap (list_any (λ (b : Block). b.by_let)) c.in_default.ensures.0))
