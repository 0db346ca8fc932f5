use Rattle.std.proofs.Common.{◌≡◌, ◌∙◌, sym, ◌<◌, length, take, arith}
use Rattle.std.proofs.lemmas.List.{take_all, length-map}
use Rattle.layout_lexer.specs.declared.token.Token.{Token}
use Rattle.layout_lexer.specs.declared.token.Kind.TheVariants.{Open}
use Rattle.productions.specs.Words.{piece_of, pieces}
use Rattle.grammar.proofs.Ends.{refused_found, refused_take}
use Rattle.grammar.proofs.reading.first_refused.Goals as goal

pub loop-token-preserved : goal.loop-token-preserved
loop-token-preserved c =
    let d : Token = record { kind = Open; start = 0; end = 0; column = 0 } in
    let lt : c.loop-token.token-index < length c.args.tokens.now = c.loop-token-test.true in
    refused_take c.args.tokens.now c.loop-token.token-index d lt c.loop-token.invariant (sym c.is_refused.ensures ∙ c.if-is_refused.false)

pub returns-then-is_refused : goal.returns-then-is_refused
returns-then-is_refused c =
    let d : Token = record { kind = Open; start = 0; end = 0; column = 0 } in
    let lt : c.loop-token.token-index < length c.args.tokens.now = c.loop-token-test.true in
    sym (refused_found c.args.tokens.now c.loop-token.token-index d lt c.loop-token.invariant (sym c.is_refused.ensures ∙ c.if-is_refused.true))

pub returns : goal.returns
returns c =
    let ts = c.args.tokens.now in
    let all : take c.loop-token.token-index (pieces ts) ≡ pieces ts =
    take_all c.loop-token.token-index (pieces ts) (omega (arith, length-map ts piece_of, c.loop-token-test.false)) in
    sym (rw all at c.loop-token.invariant)
