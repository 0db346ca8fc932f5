use Rattle.std.proofs.Common.{refl, string_bytes}
use Rattle.judgement_rows.specs.After.{term_after}
use Rattle.session.specs.Lines.{normal, spent}
use Rattle.session.proofs.LineLaws.{shows_normal}
use Rattle.session.proofs.terms.Asked.normal.Goals as goal

pub returns-in-Spent : goal.returns-in-Spent
returns-in-Spent c = spent c.start.result c.spent.ensures

pub returns-in-Unaligned : goal.returns-in-Unaligned
returns-in-Unaligned c = c.in_ok-unaligned-in-Unaligned.ensures (term_after c.args.self.now.defs.now c.args.self.now.code.now)

pub returns-in-Some : goal.returns-in-Some
returns-in-Some c =
    let t = term_after c.args.self.now.defs.now c.args.self.now.code.now in
    normal c.in-Some.text
    (shows_normal c.types_term.new.book c.in-Normal.part.equal.0 c.args.node.0 t (string_bytes c.in-Some.text) c.laws_of_nodes.ensures
    (c.in_ok-types_term.ensures.types c.if-not-branch.false) (c.in_ok-text.ensures c.in-Some.text c.in-Some.is)) refl
