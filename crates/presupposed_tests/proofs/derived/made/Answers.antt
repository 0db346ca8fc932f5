use Rattle.std.proofs.Common.{length, sym, ap, subst, arith}
use Rattle.std.specs.Prelude.{slice_index}
use Rattle.trees.specs.Judgements.{trees}
use Rattle.trees.proofs.Meanings.{meanings-length}
use Rattle.book.specs.Shown.{book_concludes}
use Rattle.presupposed_tests.specs.Derived.{made_and_used}
use Rattle.presupposed_tests.specs.Grown.{IsForm}
use Rattle.presupposed_tests.proofs.MadeLaws.{made_at}
use Rattle.presupposed_tests.proofs.derived.made.Goals as goal

pub bounds-as_slice-place : goal.bounds-as_slice-place
bounds-as_slice-place c =
    let count = meanings-length (book_concludes c.made_and_used.new.book) c.in_ok-nodes.nodes ((made_and_used trees).gives) c.in_ok-nodes.ensures in
    let same = ap length c.as_slice.ensures.value in
    let few = c.requires in
    omega (arith, count, same, few)

pub returns : goal.returns
returns c = subst (λ ks. IsForm c.made_and_used.new.book (record { 0 = slice_index ks c.args.place })) (sym c.as_slice.ensures.value) (made_at c.made_and_used.new.book c.in_ok-nodes.nodes c.args.place c.in_ok-nodes.ensures c.requires)
