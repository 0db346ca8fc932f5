use Rattle.std.proofs.Common.{◌∙◌, ap, sym, subst, List, Option, IsSome}
use Rattle.trees.specs.Judgements.{Judgement}
use Rattle.trees.specs.Things.{meanings}
use Rattle.book.specs.Shown.{book_concludes}
use Rattle.book_writer.specs.Written.{concluded_by}
use Rattle.kan_tests.proofs.call_tests.verdict.Goals as goal

pub judged-requires : goal.judged-requires
judged-requires g c =
    let book = c.called.new.book in
    subst (λ (o : Option (List Judgement)). IsSome o) (sym (ap (concluded_by book) c.as_slice.ensures.value ∙ ap (meanings (book_concludes book)) c.in_ok-roots.ensures)) c.in_ok-derived.ensures
