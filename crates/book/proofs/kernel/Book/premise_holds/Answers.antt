use Rattle.std.proofs.Common.{◌≡◌, ◌∙◌, ◌↔◌, IsSome, IsTrue, sym, subst}
use Rattle.trees.specs.Things.{meanings}
use Rattle.trees.specs.Claimed.{claimed}
use Rattle.rules.specs.Claims.{rule_over, premise_at}
use Rattle.book.specs.Contents.{Contents}
use Rattle.book.specs.Shown.{book_means, book_concludes}
use Rattle.book.proofs.PremiseLaws.{premise_some}
use Rattle.book.proofs.FitLaws.{no-premise, same-premise, node-later, conclusions-same}
use Rattle.book.proofs.kernel.Book.premise_holds.Goals as goal

pub returns-then-not-is_node-clause-holds : goal.returns-then-not-is_node-clause-holds
returns-then-not-is_node-clause-holds c =
    no-premise _ _ (premise_some c.args.rule (meanings (book_means c.args.self.now) c.args.parts.now) c.args.at c.requires.parts c.requires.within)
    (λ some. let there = c.is_node.ensures.concludes.1 some in let not = c.if-not-is_node.true in cc)

pub conclusion-concluded-requires : goal.conclusion-concluded-requires
conclusion-concluded-requires c = node-later c.args.self.now c.wanted_at.new.self c.wanted_at.ensures.adds.extends c.args.premise (c.is_node.ensures.there.0 c.if-not-is_node.false)

pub same_claim-requires-clause-left : goal.same_claim-requires-clause-left
same_claim-requires-clause-left c =
    let p = premise_at c.args.at (rule_over c.args.rule (meanings (book_means c.args.self.now) c.args.parts.now)) in
    let some : IsSome p = premise_some c.args.rule (meanings (book_means c.args.self.now) c.args.parts.now) c.args.at c.requires.parts c.requires.within in
    subst (λ (b : Contents). IsSome (claimed (book_means b) c.in_ok-wanted.wanted)) (sym c.self.view_is) (subst IsSome (sym c.in_ok-wanted.ensures.claim) some)

pub same_claim-requires-clause-right : goal.same_claim-requires-clause-right
same_claim-requires-clause-right c =
    let a = c.args.self.now in
    let some : IsSome (book_concludes a c.args.premise) = c.is_node.ensures.concludes.0 c.if-not-is_node.false in
    let later = c.conclusion-concluded.ensures ∙ conclusions-same a c.wanted_at.new.self c.wanted_at.ensures.adds c.args.premise in
    subst (λ (b : Contents). IsSome (claimed (book_means b) c.conclusion-concluded.result)) (sym c.self.view_is) (subst IsSome (sym later) some)

pub returns-clause-holds : goal.returns-clause-holds
returns-clause-holds c =
    let a = c.args.self.now in
    let later = c.conclusion-concluded.ensures ∙ conclusions-same a c.wanted_at.new.self c.wanted_at.ensures.adds c.args.premise in
    same-premise c.in_ok-same_claim.field-0 (claimed (book_means c.wanted_at.new.self) c.in_ok-wanted.wanted) (claimed (book_means c.wanted_at.new.self) c.conclusion-concluded.result) _ _
    (subst (λ (b : Contents). IsTrue c.in_ok-same_claim.field-0 ↔ (claimed (book_means b) c.in_ok-wanted.wanted ≡ claimed (book_means b) c.conclusion-concluded.result)) c.self.view_is c.in_ok-same_claim.ensures)
    c.in_ok-wanted.ensures.claim later
