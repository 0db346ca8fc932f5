use Rattle.std.proofs.Common.{◌≡◌, ◌∙◌, ap, [], ◌<◌, length, take, get_or, arith}
use Rattle.std.proofs.lemmas.List.{take_all, length-map}
use Rattle.layout_lexer.specs.declared.token.Token.{Token}
use Rattle.layout_lexer.specs.declared.token.Kind.TheVariants.{Open}
use Rattle.productions.specs.Words.{piece_of, pieces}
use Rattle.productions.specs.Grammar.{nothing}
use Rattle.productions.specs.Machine.{and_step, run, to}
use Rattle.parser_states.specs.View.{top_of, view}
use Rattle.productions.proofs.Exact.{run_more}
use Rattle.grammar.proofs.Ends.{end_outcome, more_pieces, step_outcome}
use Rattle.grammar.proofs.reading.run.Goals as goal

pub loop-token-preserved : goal.loop-token-preserved
loop-token-preserved c =
    let ts = c.args.tokens.now in
    let k = c.loop-token.token-index in
    let d : Token = record { kind = Open; start = 0; end = 0; column = 0 } in
    let begun = to (top_of c.args.top) nothing [] in
    let t = piece_of (get_or ts k d) in
    let lt : k < length ts = c.loop-token-test.true in
    ap (run begun) (more_pieces ts k d lt) ∙ run_more begun (take k (pieces ts)) t ∙ ap (λ o. and_step o t) c.loop-token.invariant ∙ c.in-Ok.ensures

pub returns-in-Err : goal.returns-in-Err
returns-in-Err c =
    let ts = c.args.tokens.now in
    let k = c.loop-token.token-index in
    let d : Token = record { kind = Open; start = 0; end = 0; column = 0 } in
    let lt : k < length ts = c.loop-token-test.true in
    step_outcome (to (top_of c.args.top) nothing []) c.args.size ts k d (view c.loop-token.parser) c.in-Err.fault lt c.requires c.loop-token.invariant c.in-Err.ensures

pub returns : goal.returns
returns c =
    let ts = c.args.tokens.now in
    let begun = to (top_of c.args.top) nothing [] in
    let all : take c.loop-token.token-index (pieces ts) ≡ pieces ts =
    take_all c.loop-token.token-index (pieces ts) (omega (arith, length-map ts piece_of, c.loop-token-test.false)) in
    end_outcome begun c.args.size (pieces ts) (view c.loop-token.parser) c.end_at.result c.requires (rw all at c.loop-token.invariant) c.end_at.ensures
