use Rattle.std.proofs.Common.{◌≡◌, ◌∙◌, ℕ, List, Vec, Global, Option, Some, Err, ap, subst, sym}
use Rattle.std.specs.Option.{option_map}
use Rattle.resolver.specs.Resolved.{defs_in}
use Rattle.session.specs.Lines.{CodeOrTold, IsTerm, expression_in}
use Rattle.session.specs.Loaded.{texts_of}
use Rattle.session.proofs.LineLaws.{tells_none, tells_term}
use Rattle.session.proofs.prompted.Prompt.told.Goals as goal
use Rattle.session.proofs.prompted.Prompt.told.Goals.{In-Some}

-- the line has this expression
expression : (c : In-Some) → expression_in c.args.line.now ≡ Some c.in-Some.bytes.items
expression c = sym c.in_ok-bytes.ensures ∙ ap (option_map (λ (v : Vec ℕ Global). v.items)) c.in-Some.is

pub returns-in-Ok-clause-told : goal.returns-in-Ok-clause-told
returns-in-Ok-clause-told c =
    let p = c.args.self.now in
    let found = subst (CodeOrTold (texts_of p.program.now) (defs_in p.program.now.codes) c.deref.result.now) c.in-Ok.is c.in_ok-code.ensures in
    let is = subst (λ bs. IsTerm (texts_of p.program.now) (defs_in p.program.now.codes) bs found.0 c.in-Ok.code) c.deref.ensures.value found.1 in
    tells_term (texts_of p.program.now) (defs_in p.program.now.codes) p.turns c.args.line.now c.in-Some.bytes.items found.0 c.in-Ok.code c.told_of.result
    (expression ((goal.at.returns-in-Ok-clause-told c).In-Some)) is (c.told_of.ensures.told c.in-Some.bytes.items found.0 is)

pub returns-clause-told : goal.returns-clause-told
returns-clause-told c =
    let p = c.args.self.now in
    let found = subst (CodeOrTold (texts_of p.program.now) (defs_in p.program.now.codes) c.deref.result.now) c.in-Err.is c.in_ok-code.ensures in
    tells_none (texts_of p.program.now) (defs_in p.program.now.codes) p.turns c.args.line.now c.in-Some.bytes.items c.in-Err.told
    (expression ((goal.at.returns-clause-told c).In-Some)) (subst (λ bs. CodeOrTold (texts_of p.program.now) (defs_in p.program.now.codes) bs (Err c.in-Err.told)) c.deref.ensures.value found)
