use Rattle.std.proofs.Common.{◌∙◌, ap, Some}
use Rattle.interned.proofs.CodedLaws.{row_interned, added-means}
use Rattle.interned.proofs.interned_rows.InternedRows.add.Goals as goal

pub invariant_of-self : goal.invariant_of-self
invariant_of-self c =
    let s = c.args.self.now in
    record { coded = (row_interned c.intern.result s.region.rows s.coded c.args.words c.as_slice.result.now c.intern.new.self.rows c.requires.means c.requires.sized c.as_slice.ensures.value c.intern.ensures.new c.intern.ensures.err).coded }

pub returns-clause-kept : goal.returns-clause-kept
returns-clause-kept c =
    let s = c.args.self.now in
    (row_interned c.intern.result s.region.rows s.coded c.args.words c.as_slice.result.now c.intern.new.self.rows c.requires.means c.requires.sized c.as_slice.ensures.value c.intern.ensures.new c.intern.ensures.err).kept

pub returns-clause-meaning : goal.returns-clause-meaning
returns-clause-meaning c =
    let s = c.args.self.now in
    added-means s.region.rows c.args.words c.intern.new.self.rows c.in_ok-at.field-0.0 c.requires.means
    (row_interned c.intern.result s.region.rows s.coded c.args.words c.as_slice.result.now c.intern.new.self.rows c.requires.means c.requires.sized c.as_slice.ensures.value c.intern.ensures.new c.intern.ensures.err)
    (c.in_ok-at.ensures.ok ∙ ap Some c.as_slice.ensures.value)
