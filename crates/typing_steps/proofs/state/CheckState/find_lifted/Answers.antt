use Rattle.std.proofs.Common.{sym, ap, subst}
use Rattle.translation.specs.Terms.{universe, lifted}
use Rattle.book.specs.Shown.{Extends}
use Rattle.typed_nodes.specs.Typed.{Says}
use Rattle.typing_tasks.specs.declared.tasks.Sort.TheVariants.{Large, Small}
use Rattle.typing_tasks.specs.Outcomes.{formed}
use Rattle.typing_tasks.specs.States.{place, place_of}
use Rattle.typing_steps.proofs.GrowthLaws.{state_later}
use Rattle.typing_steps.proofs.PlaceLaws.{at_least_one, within_one, type_before, term_before, type_lifted, term_lifted}
use Rattle.typing_tasks.proofs.SortLaws.{of_one_sort}
use Rattle.typing_steps.proofs.state.CheckState.find_lifted.Goals as goal
use Rattle.typing_steps.proofs.state.CheckState.find_lifted.Goals.{in-Large+in_ok-lifted-in-Large, in-Small+in_ok-lifted-in-Small}

pub last_node-node-requires : goal.last_node-node-requires
last_node-node-requires c =
    let (S, G, A, B, js, is, known, found) = c.requires in
    (c.args.book.now, S, formed c.args.sort (place_of G) A, js, is, found)

pub overflow_sub-level : goal.overflow_sub-level
overflow_sub-level c =
    let (S, G, A, B, js, is, known, found) = c.requires in
    at_least_one (place S) (place_of G) B c.depth-level.result (ap place_of known) (c.depth-level.ensures.place c.args.book.now (place S) is.at)

pub type_from-requires : goal.type_from-requires
type_from-requires c =
    let (S, G, A, B, js, is, known, found) = c.requires in
    let n = c.depth-level.result in
    let under = ap place_of known in
    let deep = c.depth-level.ensures.place c.args.book.now (place S) is.at in
    let says = c.last_node-node.ensures c.args.book.now S (formed c.args.sort (place_of G) A) js is found in (
      place S,
      A,
      is.at,
      within_one (place S) (place_of G) B n under deep,
      type_before (place S) (place_of G) B n under deep c.args.book.now c.last_node-node.result A
          (of_one_sort c.args.book.now c.last_node-node.result (place_of G) A c.args.sort Large c.in-Large.is says),
    )

pub term_from-requires : goal.term_from-requires
term_from-requires c =
    let (S, G, A, B, js, is, known, found) = c.requires in
    let n = c.depth-level.result in
    let under = ap place_of known in
    let deep = c.depth-level.ensures.place c.args.book.now (place S) is.at in
    let says = c.last_node-node.ensures c.args.book.now S (formed c.args.sort (place_of G) A) js is found in (
      place S,
      A,
      universe,
      is.at,
      within_one (place S) (place_of G) B n under deep,
      term_before (place S) (place_of G) B n under deep c.args.book.now c.last_node-node.result A
          (of_one_sort c.args.book.now c.last_node-node.result (place_of G) A c.args.sort Small c.in-Small.is says),
    )

pub returns-in_err-found-clause-extends : goal.returns-in_err-found-clause-extends
returns-in_err-found-clause-extends c =
    elim c.match-sort.branch [
      | in-Large+in_ok-lifted-in-Large w ↦ subst (λ d. Extends c.args.book.now d) (sym w.book-is) w.in_ok-lifted-in-Large.ensures.extends
      | in-Small+in_ok-lifted-in-Small w ↦ subst (λ d. Extends c.args.book.now d) (sym w.book-is) w.in_ok-lifted-in-Small.ensures.extends
    ]

pub returns-clause-extends : goal.returns-clause-extends
returns-clause-extends c =
    elim c.match-sort.branch [
      | in-Large+in_ok-lifted-in-Large w ↦ subst (λ d. Extends c.args.book.now d) (sym w.book-is) w.in_ok-lifted-in-Large.ensures.extends
      | in-Small+in_ok-lifted-in-Small w ↦ subst (λ d. Extends c.args.book.now d) (sym w.book-is) w.in_ok-lifted-in-Small.ensures.extends
    ]

pub returns-clause-finds : goal.returns-clause-finds
returns-clause-finds c = λ S G A B js is known found.
    let n = c.depth-level.result in
    let under = ap place_of known in
    let deep = c.depth-level.ensures.place c.args.book.now (place S) is.at in
    let says = c.last_node-node.ensures c.args.book.now S (formed c.args.sort (place_of G) A) js is found in
    let J = formed c.args.sort (place S) (lifted A) in
    elim c.match-sort.branch [
      | in-Large+in_ok-lifted-in-Large w ↦
          let extends = subst (λ d. Extends c.args.book.now d) (sym w.book-is) w.in_ok-lifted-in-Large.ensures.extends in
          let there = type_before (place S) (place_of G) B n under deep c.args.book.now c.last_node-node.result A
          (of_one_sort c.args.book.now c.last_node-node.result (place_of G) A c.args.sort Large w.in-Large.is says) in
          let here = of_one_sort w.type_from.new.book _ (place S) (lifted A) Large c.args.sort (sym w.in-Large.is)
          (type_lifted (place S) (place_of G) B n under deep w.type_from.new.book _ A (w.in_ok-lifted-in-Large.ensures.typed (place S) A is.at there)) in
          c.in_ok-found.ensures c.match-sort.book S J (state_later extends c.args.self.now S is)
          (subst (λ d. Says d c.match-sort.lifted J) (sym w.book-is) (subst (λ node. Says w.type_from.new.book node J) (sym w.lifted-is) here))
      | in-Small+in_ok-lifted-in-Small w ↦
          let extends = subst (λ d. Extends c.args.book.now d) (sym w.book-is) w.in_ok-lifted-in-Small.ensures.extends in
          let there = term_before (place S) (place_of G) B n under deep c.args.book.now c.last_node-node.result A
          (of_one_sort c.args.book.now c.last_node-node.result (place_of G) A c.args.sort Small w.in-Small.is says) in
          let here = of_one_sort w.term_from.new.book _ (place S) (lifted A) Small c.args.sort (sym w.in-Small.is)
          (term_lifted (place S) (place_of G) B n under deep w.term_from.new.book _ A (w.in_ok-lifted-in-Small.ensures.typed (place S) A universe is.at there)) in
          c.in_ok-found.ensures c.match-sort.book S J (state_later extends c.args.self.now S is)
          (subst (λ d. Says d c.match-sort.lifted J) (sym w.book-is) (subst (λ node. Says w.term_from.new.book node J) (sym w.lifted-is) here))
    ]
