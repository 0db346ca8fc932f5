use Rattle.std.proofs.Common.{◌≡◌, ◌-◌, suc, length, refl, arith}
use Rattle.std.proofs.lemmas.Grind.{common_steps}
use Rattle.book_writer.specs.Means.{lines_mean}
use Rattle.book_writer.proofs.PushLaws.{two-there, left-all, next-instance, next-push, left-on, left-none}
use Rattle.book_writer.proofs.makes.LinesMaker.then.Goals as goal

pub loop-left-init : goal.loop-left-init
loop-left-init c =
    let f = lines_mean c.args.self.now in
    let t = two-there (f c.args.first) (f c.args.second) c.requires.kinds in
    let p = c.in_ok-trees.field-0 in
    let all : c.len-left.result ≡ length p.trees.items = grind (arith, common_steps) in
    left-all f (lines_mean c.without.new.self) p.trees.items p.shift c.len-left.result c.in_ok-sub.sub c.args.first c.args.second c.without.ensures.kept all t (c.in_ok-trees.ensures t.first t.first_is) (c.in_ok-sub.ensures.meaning t.second t.second_is)

pub instance-requires : goal.instance-requires
instance-requires c =
    let l = c.loop-left in
    let more : l.left ≡ suc (l.left - 1) = omega (arith, c.loop-left-test.true) in
    let e = next-instance (lines_mean c.args.self.now) (lines_mean l.self) c.in_ok-trees.field-0.trees.items l.left l.sub c.args.first c.args.second l.invariant (l.left - 1) c.index.result.now more c.index.ensures in
    rw e refl

pub push-requires : goal.push-requires
push-requires c =
    let l = c.loop-left in
    let more : l.left ≡ suc (l.left - 1) = omega (arith, c.loop-left-test.true) in
    let e = next-push (lines_mean c.args.self.now) (lines_mean l.self) c.in_ok-trees.field-0.trees.items l.left l.sub c.args.first c.args.second l.invariant (l.left - 1) c.index.result.now more c.index.ensures (lines_mean c.instance.new.self) c.instance.ensures.kept c.in_ok-under.under c.in_ok-under.ensures.meaning in
    rw e refl

pub loop-left-preserved : goal.loop-left-preserved
loop-left-preserved c =
    let l = c.loop-left in
    let more : l.left ≡ suc (l.left - 1) = omega (arith, c.loop-left-test.true) in
    left-on (lines_mean c.args.self.now) (lines_mean l.self) c.in_ok-trees.field-0.trees.items l.left l.sub c.args.first c.args.second l.invariant (l.left - 1) c.index.result.now more c.index.ensures (lines_mean c.instance.new.self) c.instance.ensures.kept c.in_ok-under.under c.in_ok-under.ensures.meaning (lines_mean c.push.new.self) c.push.ensures.kept c.in_ok-sub-2.sub c.in_ok-sub-2.ensures.meaning

pub returns-clause-meaning : goal.returns-clause-meaning
returns-clause-meaning c =
    let l = c.loop-left in
    left-none (lines_mean c.args.self.now) (lines_mean l.self) c.in_ok-trees.field-0.trees.items l.left l.sub c.args.first c.args.second l.invariant (omega (arith, c.loop-left-test.false))
