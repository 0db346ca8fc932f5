use Rattle.std.proofs.Common.{◌≡◌, ◌+◌, suc, Some, subst, arith}
use Rattle.trees.specs.Trees.{Tree}
use Rattle.trees.specs.Things.{ATree}
use Rattle.book.specs.Shown.{book_means}
use Rattle.book.proofs.FitLaws.{extends-refl, extends-trans}
use Rattle.trails.specs.Kids.{HasKid, kid}
use Rattle.trails.specs.Openings.{Finds}
use Rattle.trails.specs.Trails.{behind, HasBehind}
use Rattle.trails.proofs.StationLaws.{behind-below}
use Rattle.trails.proofs.kids.behind.Goals as goal

pub loop-n-init : goal.loop-n-init
loop-n-init c = record { extends = extends-refl c.args.book.now; has = λ t is. tt; is = λ t is. is }

pub loop-n-preserved : goal.loop-n-preserved
loop-n-preserved c =
    let g = book_means c.kid_of.new.book in
    let more : suc c.loop-n.n ≡ c.loop-n.n + 1 = omega arith in
    let finds : (t : Tree) → book_means c.args.book.now c.args.tree ≡ Some (ATree t) → Finds g (Some c.in-Some.kid) (HasKid c.args.op c.args.place (behind c.args.place c.loop-n.n t)) (kid c.args.place (behind c.args.place c.loop-n.n t)) = λ t is. subst (λ o. Finds g o (HasKid c.args.op c.args.place (behind c.args.place c.loop-n.n t)) (kid c.args.place (behind c.args.place c.loop-n.n t))) c.in-Some.is (c.in_ok-kid.ensures.kid (behind c.args.place c.loop-n.n t) (c.loop-n.invariant.is t is)) in
    record {
      extends = extends-trans _ _ _ c.loop-n.invariant.extends c.in_ok-kid.ensures.extends;
      has = λ t is. subst (λ k. HasBehind c.args.op c.args.place k t) more (c.loop-n.invariant.has t is, (finds t is).0);
      is = λ t is. subst (λ k. g c.in-Some.kid ≡ Some (ATree (behind c.args.place k t))) more (finds t is).1;
    }

pub returns-in-None-clause-extends : goal.returns-in-None-clause-extends
returns-in-None-clause-extends c = extends-trans _ _ _ c.loop-n.invariant.extends c.in_ok-kid.ensures.extends

pub returns-in-None-clause-finds : goal.returns-in-None-clause-finds
returns-in-None-clause-finds c = λ t is has.
    let here = behind c.args.place c.loop-n.n t in
    let none = subst (λ o. Finds (book_means c.kid_of.new.book) o (HasKid c.args.op c.args.place here) (kid c.args.place here)) c.in-None.is (c.in_ok-kid.ensures.kid here (c.loop-n.invariant.is t is)) in
    none (behind-below c.args.op c.args.place c.args.count c.loop-n.n t c.loop-n-test.true has)
