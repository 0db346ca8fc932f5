use Rattle.std.proofs.Common.{◌≤◌, length, take, arith}
use Rattle.rows.specs.Shown.{things}
use Rattle.replay.specs.declared.thing.TheConstants.{TERMS}
use Rattle.replay.specs.Named.{Names, NamesNone}
use Rattle.replay.proofs.ThingLaws.{few_kids, kids_live, kids_made, no_kids}
use Rattle.replay.proofs.thing.made_row.Goals as goal

pub returns-in_default-clause-made : goal.returns-in_default-clause-made
returns-in_default-clause-made c =
    let xs = things c.args.store.now in
    let few : length c.args.kids.now ≤ 4 = omega (arith, c.requires.count, few_kids c.args.op) in
    let none : NamesNone xs c.args.filed.now c.args.kids.now (take (length c.args.kids.now) TERMS) = rw c.in_default.is at c.in_ok-rows.ensures.none in
    no_kids xs c.args.filed.now c.args.op c.args.kids.now few xs none

pub make-requires : goal.make-requires
make-requires c =
    let xs = things c.args.store.now in
    let few : length c.args.kids.now ≤ 4 = omega (arith, c.requires.count, few_kids c.args.op) in
    let names : Names xs c.args.filed.now c.args.kids.now (take (length c.args.kids.now) TERMS) c.in-Some.rows.items = rw c.in-Some.is at c.in_ok-rows.ensures.some in
    rw c.deref.ensures.value (kids_live xs c.args.filed.now c.args.op c.args.kids.now few c.in-Some.rows.items c.requires.count names)

pub returns-clause-made : goal.returns-clause-made
returns-clause-made c =
    let xs = things c.args.store.now in
    let few : length c.args.kids.now ≤ 4 = omega (arith, c.requires.count, few_kids c.args.op) in
    let names : Names xs c.args.filed.now c.args.kids.now (take (length c.args.kids.now) TERMS) c.in-Some.rows.items = rw c.in-Some.is at c.in_ok-rows.ensures.some in
    let at = rw c.deref.ensures.value at c.in_ok-make.ensures.meaning in
    kids_made xs c.args.filed.now c.args.op c.args.kids.now few (things c.make.new.self) c.in-Some.rows.items _ c.requires.count names at
