use Rattle.std.proofs.Common.{sym, subst}
use Rattle.translation.specs.Translated.{judgements_of}
use Rattle.replay.specs.Shown.{root_judgements, rows_mean}
use Rattle.session.specs.Loaded.{stated_by}
use Rattle.session.proofs.RootLaws.{Claim_all, all_judged, compares_claims, kept_all}
use Rattle.session.proofs.roots.first_other.Goals as goal
use Rattle.session.proofs.roots.first_other.Goals.{After-deref-2}

roots_are : (c : After-deref-2) → Claim_all (rows_mean c.claims_of.new.maker) c.deref.result.now (root_judgements c.args.rows.now)
roots_are c =
    let Ks = root_judgements c.args.rows.now in
    let f = rows_mean c.args.rows.now in
    let g = rows_mean c.claims_of.new.maker in
    subst (λ cs. Claim_all g cs Ks) (sym c.deref.ensures.value) (kept_all f g c.in_ok-claims.ensures.kept c.in_ok-roots.roots.items Ks c.in_ok-roots.ensures)

claims_are : (c : After-deref-2) → Claim_all (rows_mean c.claims_of.new.maker) c.deref-2.result.now (judgements_of (stated_by c.args.defs.now))
claims_are c =
    let Js = judgements_of (stated_by c.args.defs.now) in
    subst (λ cs. Claim_all (rows_mean c.claims_of.new.maker) cs Js) (sym c.deref-2.ensures.value) c.in_ok-claims.ensures.claims

pub first_difference-requires-clause-roots : goal.first_difference-requires-clause-roots
first_difference-requires-clause-roots c =
    all_judged (rows_mean c.claims_of.new.maker) c.deref.result.now (root_judgements c.args.rows.now) (roots_are (goal.at.first_difference-requires-clause-roots c).After-deref-2)

pub first_difference-requires-clause-claims : goal.first_difference-requires-clause-claims
first_difference-requires-clause-claims c =
    all_judged (rows_mean c.claims_of.new.maker) c.deref-2.result.now (judgements_of (stated_by c.args.defs.now)) (claims_are (goal.at.first_difference-requires-clause-claims c).After-deref-2)

pub returns : goal.returns
returns c =
    let d = (goal.at.returns c).After-deref-2 in
    compares_claims (rows_mean c.claims_of.new.maker) c.deref.result.now c.deref-2.result.now (root_judgements c.args.rows.now) (judgements_of (stated_by c.args.defs.now)) c.first_difference.result
    (roots_are d) (claims_are d) c.first_difference.ensures
