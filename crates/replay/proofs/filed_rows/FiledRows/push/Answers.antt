use Rattle.std.proofs.Common.{◌∷◌, [], ◌++◌, ◌∙◌, ap}
use Rattle.replay.specs.declared.filed.Filed.TheVariants as filed
use Rattle.replay.specs.Held.{filed_as, filed_list}
use Rattle.replay.proofs.EachLaws.{each_push, all_push}
use Rattle.replay.proofs.Equality.{on_err}
use Rattle.replay.proofs.HeldLaws.{filed_as-later}
use Rattle.replay.proofs.filed_rows.FiledRows.push.Goals as goal

pub invariant_of-self : goal.invariant_of-self
invariant_of-self c = (filed_as-later c.self.inside.claims.items c.held_as.new.claims.items c.held_as.ensures.longer c.self.inside.held.items c.self.invariant).all

pub returns-in_err-held-clause-err : goal.returns-in_err-held-clause-err
returns-in_err-held-clause-err c =
    on_err c.from_residual.result ((filed_as-later c.self.inside.claims.items c.held_as.new.claims.items c.held_as.ensures.longer c.self.inside.held.items c.self.invariant).same ∙ c.self.view_is)

pub invariant_of-self-in_err-push : goal.invariant_of-self-in_err-push
invariant_of-self-in_err-push c =
    rw c.in_err-push.ensures.items (filed_as-later c.self.inside.claims.items c.held_as.new.claims.items c.held_as.ensures.longer c.self.inside.held.items c.self.invariant).all

pub returns-in_err-push-clause-err : goal.returns-in_err-push-clause-err
returns-in_err-push-clause-err c =
    let claims = c.held_as.new.claims.items in
    on_err c.from_residual-in_err-push.result (ap (filed_list claims) c.in_err-push.ensures.items ∙ (filed_as-later c.self.inside.claims.items claims c.held_as.ensures.longer c.self.inside.held.items c.self.invariant).same ∙ c.self.view_is)

pub invariant_of-self-2 : goal.invariant_of-self-2
invariant_of-self-2 c =
    let claims = c.held_as.new.claims.items in
    let rows = c.self.inside.held.items in
    let all = (filed_as-later c.self.inside.claims.items claims c.held_as.ensures.longer rows c.self.invariant).all in
    rw c.in_ok-push.ensures.items (all_push (filed_as claims) rows c.in_ok-held.held c.args.row all c.in_ok-held.ensures.held)

pub returns-clause-ok : goal.returns-clause-ok
returns-clause-ok c =
    let claims = c.held_as.new.claims.items in
    let rows = c.self.inside.held.items in
    let same = (filed_as-later c.self.inside.claims.items claims c.held_as.ensures.longer rows c.self.invariant).same in
    ap (filed_list claims) c.in_ok-push.ensures.items ∙ each_push (filed_as claims) filed.Nothing rows c.in_ok-held.held c.args.row c.in_ok-held.ensures.held ∙ ap (λ es. es ++ c.args.row ∷ []) (same ∙ c.self.view_is)
