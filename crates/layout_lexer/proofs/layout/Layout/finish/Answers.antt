use Rattle.std.proofs.Common.{sym, ◌∙◌, ap, List, ◌++◌, map, replicate, length, append-nil}
use Rattle.layout_lexer.specs.declared.blocks.Block.{Block}
use Rattle.layout_lexer.specs.declared.token.Kind.TheVariants.{Close}
use Rattle.layout_lexer.specs.Places.{Place}
use Rattle.layout_lexer.specs.Layouts.{mark}
use Rattle.layout_lexer.proofs.LayoutLaws.{finish_begins, finish_step, fewer}
use Rattle.layout_lexer.proofs.layout.Layout.finish.Goals as goal

pub loop-self-init : goal.loop-self-init
loop-self-init c = finish_begins c.args.self.now c.empty_block.new.self (record { at = c.args.at; column = c.args.column }) c.in_ok-empty_block.ensures

pub loop-self-smaller : goal.loop-self-smaller
loop-self-smaller c = fewer c.loop-self.self c.push_mark.new.self (record { at = c.args.at; column = c.args.column }) c.in-Some.field-0 c.pop.new.self c.in-Some.ensures c.in_ok-push_mark.ensures

pub loop-self-preserved : goal.loop-self-preserved
loop-self-preserved c =
    c.loop-self.invariant ∙ finish_step c.loop-self.self c.push_mark.new.self (record { at = c.args.at; column = c.args.column }) c.in-Some.field-0 c.pop.new.self c.in-Some.ensures c.in_ok-push_mark.ensures

pub returns : goal.returns
returns c =
    let place : Place = record { at = c.args.at; column = c.args.column } in
    sym (c.loop-self.invariant ∙ ap (λ (blocks : List Block). c.loop-self.self.tokens ++ map (mark place) (replicate (length blocks) Close)) c.in_default.ensures.0 ∙ append-nil c.loop-self.self.tokens)
