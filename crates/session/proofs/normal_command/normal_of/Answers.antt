use Rattle.std.proofs.Common.{◌≡◌, ◌+◌, ◌*◌, sym, subst, length, slice_get, slice_index_or, Some}
use Rattle.std.proofs.lemmas.Bool.{ltb-true}
use Rattle.codes.specs.declared.code.CodeDef.{CodeDef, out-CodeDef}
use Rattle.translation.specs.Translated.{judgements_of}
use Rattle.session.specs.Loaded.{stated_by}
use Rattle.session.proofs.PlaceLaws.{get_read}
use Rattle.session.proofs.NormalLaws.{normalises}
use Rattle.session.proofs.normal_command.normal_of.Goals as goal

pub returns-in-Unaligned : goal.returns-in-Unaligned
returns-in-Unaligned c = c.in_ok-unaligned_at-in-Unaligned.ensures c.args.defs.now

pub returns-in-Some-2 : goal.returns-in-Some-2
returns-in-Some-2 c =
    let d = c.index-defs-place.result in
    let shown = c.in_ok-shown.ensures c.in-Some-2.shown c.in-Some-2.is in
    let all = c.in_ok-are_stated.ensures c.if-not-branch.false in
    let looked = slice_index_or c.args.defs.now c.args.place d in
    let read : slice_get c.args.nodes.now (2 * (out-CodeDef looked).number + 1) ≡ Some c.in-Some.body.now =
    get_read c.args.nodes.now (2 * (out-CodeDef looked).number + 1) c.in-Some.body.now (ltb-true (2 * (out-CodeDef looked).number + 1) (length c.args.nodes.now) (sym c.in-Some.ensures.lookup.0)) c.in-Some.ensures.lookup.1 in
    let there = subst (λ (e : CodeDef). slice_get c.args.nodes.now (2 * (out-CodeDef e).number + 1) ≡ Some c.in-Some.body.now) (sym c.index-defs-place.is) read in
    (d, get_read c.args.defs.now c.args.place d c.requires c.index-defs-place.is, normalises c.are_stated.new.book c.args.nodes.now (judgements_of (stated_by c.args.defs.now)) (out-CodeDef d).number c.in-Some.body.now c.in-Some-2.shown all there shown)
