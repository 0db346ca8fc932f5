use Rattle.std.proofs.Common.{◌≡◌, ◌<◌, ◌∙◌, [], ◌∷◌, length, take, refl, sym, ap, subst, arith}
use Rattle.std.specs.Prelude.{slice_index}
use Rattle.trees.specs.Things.{meanings}
use Rattle.book.specs.Shown.{book_means, book_concludes}
use Rattle.book.specs.Tests.{things_in}
use Rattle.book.proofs.BookLaws.{node-there}
use Rattle.book_tests.specs.Stated.{earlier, zeroing}
use Rattle.book_tests.specs.declared.twice.TheConstants.{TWICE, TWICE_GIVES}
use Rattle.book_tests.proofs.RunLaws.{parts-there, claim-places, may-do-twice, first}
use Rattle.book_tests.proofs.runs.again.Goals as goal

pub conclusion-requires : goal.conclusion-requires
conclusion-requires c = node-there c.args.book.now c.args.node.0 zeroing c.requires

pub split_at-requires : goal.split_at-requires
split_at-requires c =
    let three : length (things_in zeroing) ≡ 3 = refl in
    omega (arith, three, claim-places c.args.book.now c.conclusion.result zeroing (c.conclusion.ensures ∙ c.requires), ap length (c.as_slice.ensures ∙ c.rows-rows.ensures))

pub run-requires-clause-right : goal.run-requires-clause-right
run-requires-clause-right c =
    let b = c.args.book.now in
    let parts = ap (meanings (book_means b)) (c.split_at.ensures.front ∙ ap (take 2) (c.as_slice.ensures ∙ c.rows-rows.ensures)) ∙ parts-there b c.conclusion.result (c.conclusion.ensures ∙ c.requires) in
    (zeroing ∷ [], may-do-twice b earlier TWICE.now TWICE_GIVES.now c.split_at.result.0.now c.args.node.0 c.twice_is_derived.ensures parts c.requires)

pub bounds-as_slice-0 : goal.bounds-as_slice-0
bounds-as_slice-0 c =
    let b = c.args.book.now in
    let parts = ap (meanings (book_means b)) (c.split_at.ensures.front ∙ ap (take 2) (c.as_slice.ensures ∙ c.rows-rows.ensures)) ∙ parts-there b c.conclusion.result (c.conclusion.ensures ∙ c.requires) in
    let gives = c.in_ok-nodes.ensures.concludes (zeroing ∷ []) (may-do-twice b earlier TWICE.now TWICE_GIVES.now c.split_at.result.0.now c.args.node.0 c.twice_is_derived.ensures parts c.requires) in
    subst (λ ks. 0 < length ks) (sym c.as_slice-2.ensures.value) (first c.run.new.book c.in_ok-nodes.nodes zeroing gives).some

pub returns : goal.returns
returns c =
    let b = c.args.book.now in
    let parts = ap (meanings (book_means b)) (c.split_at.ensures.front ∙ ap (take 2) (c.as_slice.ensures ∙ c.rows-rows.ensures)) ∙ parts-there b c.conclusion.result (c.conclusion.ensures ∙ c.requires) in
    let gives = c.in_ok-nodes.ensures.concludes (zeroing ∷ []) (may-do-twice b earlier TWICE.now TWICE_GIVES.now c.split_at.result.0.now c.args.node.0 c.twice_is_derived.ensures parts c.requires) in
    ap (λ ks. book_concludes c.run.new.book (slice_index ks 0)) c.as_slice-2.ensures.value ∙ (first c.run.new.book c.in_ok-nodes.nodes zeroing gives).concludes
