use Rattle.std.proofs.Common.{◌∷◌, refl, ap, subst}
use Rattle.typed_nodes.specs.Typed.{Says}
use Rattle.typing_tasks.specs.Outcomes.{formed, former_of}
use Rattle.typing_tasks.specs.States.{place, place_of, finding, with_found, with_known}
use Rattle.typing_steps.proofs.ClosingLaws.{two_taken}
use Rattle.typing_steps.proofs.GrowthLaws.{state_later}
use Rattle.typing_steps.proofs.state.CheckState.close_family.Goals as goal

pub take_node-codomain-requires : goal.take_node-codomain-requires
take_node-codomain-requires c =
    let (S, M, is, does) = c.requires in
    let (G, A, B, js, known, found, made) = does in
    (c.args.book.now, S, formed c.args.sort (place S) B, formed c.args.sort (place_of G) A ∷ js, is, found)

pub take_node-domain-requires : goal.take_node-domain-requires
take_node-domain-requires c =
    let (S, M, is, does) = c.requires in
    let (G, A, B, js, known, found, made) = does in
    let J = formed c.args.sort (place_of G) A in
    let (over, left) = c.take_node-codomain.ensures c.args.book.now S (formed c.args.sort (place S) B) (J ∷ js) is found in
    (c.args.book.now, with_found (J ∷ js) S, J, js, left, refl)

pub family_of-requires : goal.family_of-requires
family_of-requires c =
    let (S, M, is, does) = c.requires in
    let (G, A, B, js, known, found, made) = does in
    let (over, domain, before) = two_taken c.args.book.now c.args.self.now c.take_node-codomain.new.self c.take_node-domain.new.self c.leave.new.self
    c.take_node-codomain.result c.take_node-domain.result c.take_node-codomain.ensures c.take_node-domain.ensures c.leave.ensures
    S G A (formed c.args.sort (place S) B) (formed c.args.sort (place_of G) A) js is known found in
    (place_of G, A, B, domain, subst (λ H. Says c.args.book.now c.take_node-codomain.result (formed c.args.sort H B)) (ap place_of known) over)

pub returns-clause-closes : goal.returns-clause-closes
returns-clause-closes c = λ S M is (G, A, B, js, known, found, made).
    let (over, domain, before) = two_taken c.args.book.now c.args.self.now c.take_node-codomain.new.self c.take_node-domain.new.self c.leave.new.self
    c.take_node-codomain.result c.take_node-domain.result c.take_node-codomain.ensures c.take_node-domain.ensures c.leave.ensures
    S G A (formed c.args.sort (place S) B) (formed c.args.sort (place_of G) A) js is known found in
    let codomain = subst (λ H. Says c.args.book.now c.take_node-codomain.result (formed c.args.sort H B)) (ap place_of known) over in
    let T = with_known G (with_found js S) in
    let J = formed c.args.sort (place_of G) (former_of c.args.former A B) in (
      finding J T,
      c.in_ok-found.ensures c.family_of.new.book T J (state_later c.in_ok-node.ensures.extends c.leave.new.self T before)
          (c.in_ok-node.ensures.typed (place_of G) A B domain codomain),
      made,
    )
