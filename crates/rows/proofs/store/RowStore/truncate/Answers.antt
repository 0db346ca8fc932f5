use Rattle.std.proofs.Common.{◌≡◌, ◌<◌, ◌-◌, take, length, sym, ◌∙◌, ap, arith}
use Rattle.std.proofs.lemmas.List.{take-take, take_all, length-take-le}
use Rattle.rows.specs.Held.{thing_of}
use Rattle.rows.specs.Shown.{things}
use Rattle.rows.specs.declared.store.RowStore.{RowStore}
use Rattle.rows.proofs.TableLaws.{length-built}
use Rattle.rows.proofs.store.RowStore.truncate.Goals as goal

count : (s : RowStore) → length (things s) ≡ length s.rows.items
count s = length-built (thing_of s.kids.items s.subs.items) s.rows.items

pub loop-self-preserved : goal.loop-self-preserved
loop-self-preserved c =
    let s = c.loop-self.self in
    ap (take c.args.len) c.drop_last.ensures
    ∙ take-take c.args.len (length (things s) - 1) (things s) (omega (arith, count s, s.rows.ok.0))
    ∙ c.loop-self.invariant

pub loop-self-smaller : goal.loop-self-smaller
loop-self-smaller c =
    let s = c.loop-self.self in
    let cut = ap length c.drop_last.ensures in
    let taken = length-take-le (length (things s) - 1) (things s) (omega arith) in
    let some : 0 < length (things s) = omega (arith, count s, s.rows.ok.0) in
    omega arith

pub returns : goal.returns
returns c =
    let s = c.loop-self.self in
    sym (take_all c.args.len (things s) (omega (arith, count s, s.rows.ok.0))) ∙ c.loop-self.invariant
