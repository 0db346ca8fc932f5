use Rattle.syntax.specs.View.{tree_of}
use Rattle.resolver.specs.Resolved.{defs_in}
use Rattle.session.specs.Lines.{IsExpression, not_lexed, not_read}
use Rattle.session.specs.Loaded.{texts_of}
use Rattle.session.proofs.LineLaws.{is_refused, is_term}
use Rattle.session.proofs.prompted.Prompt.code_of.Goals as goal
use Rattle.session.proofs.prompted.Prompt.code_of.Goals.{In-Ok-read_exp}

-- the text is an expression
read : (c : In-Ok-read_exp) → IsExpression c.args.bytes.now (tree_of c.in-Ok-read_exp.expression)
read c = record { tokens = c.in-Ok.tokens; lexed = c.in-Ok.ensures.ok; read = c.in-Ok-read_exp.ensures.ok }

pub returns-in-Err : goal.returns-in-Err
returns-in-Err c = not_lexed c.in-Err.fault c.in-Err.ensures.err c.in_ok-of_lex-in-Err.ensures

pub returns-in-Err-read_exp : goal.returns-in-Err-read_exp
returns-in-Err-read_exp c =
    not_read c.in-Ok.tokens c.in-Ok.ensures.ok c.in-Err-read_exp.fault c.in-Err-read_exp.ensures.err c.in_ok-of_read-in-Err-read_exp.ensures

pub returns-in-Ok-resolve_exp : goal.returns-in-Ok-resolve_exp
returns-in-Ok-resolve_exp c =
    let p = c.args.self.now in
    let e = tree_of c.in-Ok-read_exp.expression in
    is_term (texts_of p.program.now) (defs_in p.program.now.codes) c.args.bytes.now p.scope.names p.scope.next p.names e c.in-Ok-resolve_exp.code
    (read ((goal.at.returns-in-Ok-resolve_exp c).In-Ok-read_exp)) c.in-Ok-resolve_exp.ensures.ok

pub returns : goal.returns
returns c =
    let p = c.args.self.now in
    let e = tree_of c.in-Ok-read_exp.expression in
    is_refused (texts_of p.program.now) (defs_in p.program.now.codes) c.args.bytes.now p.scope.names p.scope.next p.names e c.in-Err-resolve_exp.fault c.in_ok-of_scope-in-Err-resolve_exp.field-0
    (read ((goal.at.returns c).In-Ok-read_exp)) c.in-Err-resolve_exp.ensures.err c.in_ok-of_scope-in-Err-resolve_exp.ensures
