use Rattle.std.proofs.Common.{ap₂, ◌∙◌}
use Rattle.trees.specs.Things.{both, with_a_face}
use Rattle.book.specs.Shown.{book_means}
use Rattle.trails.proofs.EndLaws.{follows-from}
use Rattle.trails.proofs.ends.follows.Goals as goal

pub returns-clause-follows : goal.returns-clause-follows
returns-clause-follows c = λ G p q ctx face other.
    let f = book_means c.try_with_face.new.book in
    follows-from c.in_ok-holds.field-0 (f c.in_ok-there.there) (f c.args.other) G p q
    (c.in_ok-there.ensures.means ∙ ap₂ (both with_a_face) ctx face) (c.in_ok-there.ensures.extends.rows.keeps _ _ other) c.in_ok-holds.ensures
