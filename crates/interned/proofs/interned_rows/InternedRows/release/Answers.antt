use Rattle.std.proofs.Common.{◌≤◌, ◌∙◌, length, sym, ap, subst, arith, ℕ, List}
use Rattle.rows.proofs.TableLaws.{length-built}
use Rattle.interned.specs.Coded.{thing_of, things_coded, AreCoded}
use Rattle.interned.proofs.CodedLaws.{things-cut, coded-cut}
use Rattle.interned.proofs.interned_rows.InternedRows.release.Goals as goal

within : (rows : List (List ℕ)) (n : ℕ) → n ≤ length (things_coded rows) → n ≤ length rows
within rows n le = omega (arith, length-built thing_of rows)

pub release-requires : goal.release-requires
release-requires c = within c.args.self.now.region.rows c.args.mark.0 c.requires

pub invariant_of-self : goal.invariant_of-self
invariant_of-self c =
    let s = c.args.self.now in
    record { coded = subst AreCoded (sym c.release.ensures.rows) (coded-cut s.region.rows s.coded c.args.mark.0 (within s.region.rows c.args.mark.0 c.requires)) }

pub returns-clause-rows : goal.returns-clause-rows
returns-clause-rows c =
    let s = c.args.self.now in
    ap things_coded c.release.ensures.rows ∙ things-cut s.region.rows c.args.mark.0 (within s.region.rows c.args.mark.0 c.requires)
