use Rattle.std.proofs.Common.{subst, sym}
use Rattle.book.specs.Shown.{book_means, Extends}
use Rattle.book.proofs.FitLaws.{extends-refl, extends-trans}
use Rattle.trails.specs.Openings.{IsHere, IsInstance, IsMet}
use Rattle.trails.proofs.OpeningLaws.{itself}
use Rattle.trails.proofs.open.open_tree.Goals as goal
use Rattle.trails.proofs.open.open_tree.Goals.{in-Tree+in_ok-here-in-Tree, in-Index+in_ok-here-in-Index}

pub loop-turn-init : goal.loop-turn-init
loop-turn-init c = record {
  extends = extends-refl c.args.book.now;
  here = λ t is. itself (book_means c.args.book.now) c.args.tree t is;
}

pub returns-in-Opened-clause-opens : goal.returns-in-Opened-clause-opens
returns-in-Opened-clause-opens c = λ t is. subst (λ h. IsHere (book_means c.loop-turn.book) h t) c.in-Opened.is (c.loop-turn.invariant.here t is)

pub loop-turn-preserved : goal.loop-turn-preserved
loop-turn-preserved c =
    let f = book_means c.loop-turn.book in
    elim c.match-here.branch [
      | in-Tree+in_ok-here-in-Tree w ↦
          let given = w.in_ok-here-in-Tree.ensures in record {
            extends = subst (Extends c.args.book.now) (sym w.book-is) (extends-trans _ _ _ c.loop-turn.invariant.extends given.extends);
            here = λ t is.
                let i : IsInstance f w.in-Tree.tree w.in-Tree.sub t = subst (λ h. IsHere f h t) w.in-Tree.is (c.loop-turn.invariant.here t is) in
                let made = subst (IsHere (book_means w.turned.new.book) _) (sym i.whole) (given.means i.tree i.subst i.row_is i.sub_is) in
                subst (λ b. IsHere (book_means b) c.match-here.here t) (sym w.book-is) (subst (λ h. IsHere (book_means w.turned.new.book) h t) (sym w.here-is) made);
          }
      | in-Index+in_ok-here-in-Index w ↦
          let given = w.in_ok-here-in-Index.ensures in record {
            extends = subst (Extends c.args.book.now) (sym w.book-is) (extends-trans _ _ _ c.loop-turn.invariant.extends given.extends);
            here = λ t is.
                let i : IsMet f w.in-Index.index w.in-Index.sub w.in-Index.rest t = subst (λ h. IsHere f h t) w.in-Index.is (c.loop-turn.invariant.here t is) in
                let made = subst (IsHere (book_means w.met.new.book) _) (sym i.whole) (given.means i.first i.second i.sub_is i.rest_is) in
                subst (λ b. IsHere (book_means b) c.match-here.here t) (sym w.book-is) (subst (λ h. IsHere (book_means w.met.new.book) h t) (sym w.here-is) made);
          }
    ]
