use Rattle.std.proofs.Common.{◌≡◌, Some, chars, rules, subst}
use Rattle.layout_lexer.specs.Layouts.{appended}
use Rattle.layout_lexer.specs.Scanning.{TokenRead}
use Rattle.layout_lexer.proofs.TextLaws.{text_goes_on}
use Rattle.layout_lexer.proofs.lexer.spelled_tokens.Goals as goal

pub loop-layout-preserved : goal.loop-layout-preserved
loop-layout-preserved c =
    let old = c.loop-layout.cursor in
    let new = c.next_token.new.cursor in
    let read : TokenRead old new (Some c.in-Some.plain) = subst (TokenRead old new) c.in-Some.is c.in_ok-plain.ensures in
    let pushed : c.push.new.self ≡ appended c.loop-layout.layout c.in-Some.plain = search rules in
    text_goes_on (chars c.args.text.now) old new c.loop-layout.layout c.push.new.self c.in-Some.plain c.loop-layout.invariant read pushed
