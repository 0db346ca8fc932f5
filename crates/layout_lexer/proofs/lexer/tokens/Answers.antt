use Rattle.std.proofs.Common.{◌≡◌, ◌≢◌, ◌∙◌, subst, List, IfOk, IfErr, Result, Ok, Err}
use Rattle.layout_lexer.specs.declared.fault.LexFault.{LexFault}
use Rattle.layout_lexer.specs.declared.fault.LexFault.TheVariants.{Memory}
use Rattle.layout_lexer.specs.declared.token.Token.{Token}
use Rattle.layout_lexer.proofs.SliceLaws.{ok_in_text}
use Rattle.layout_lexer.proofs.TextLaws.{of_text, of_no_text}
use Rattle.layout_lexer.proofs.lexer.tokens.Goals as goal

pub returns-in-Ok-clause-ok : goal.returns-in-Ok-clause-ok
returns-in-Ok-clause-ok c =
    subst (λ (answer : Result (List Token) LexFault). IfOk c.spelled_tokens.result (λ tokens. answer ≡ Ok tokens))
    (of_text c.in-Ok.text.now c.args.bytes.now c.if-bytes-gt-MAX_LEN.false c.in-Ok.ensures.cases)
    c.spelled_tokens.ensures.ok

pub returns-in-Ok-clause-err : goal.returns-in-Ok-clause-err
returns-in-Ok-clause-err c =
    subst (λ (answer : Result (List Token) LexFault). IfErr c.spelled_tokens.result (λ fault. fault ≢ Memory → answer ≡ Err fault))
    (of_text c.in-Ok.text.now c.args.bytes.now c.if-bytes-gt-MAX_LEN.false c.in-Ok.ensures.cases)
    c.spelled_tokens.ensures.err

pub returns-in-Err-clause-err : goal.returns-in-Err-clause-err
returns-in-Err-clause-err c = λ _.
    of_no_text c.args.bytes.now c.valid_up_to.result c.if-bytes-gt-MAX_LEN.false c.in-Err.ensures.cases.0
    (c.valid_up_to.ensures ∙ c.in-Err.ensures.valid_len)

pub returns-in-Ok-clause-in_text : goal.returns-in-Ok-clause-in_text
returns-in-Ok-clause-in_text c = ok_in_text c.args.bytes.now c.spelled_tokens.result (returns-in-Ok-clause-ok c)
