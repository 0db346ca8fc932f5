use Rattle.std.proofs.Common.{refl, sym, subst}
use Rattle.trees.specs.Trees.{apply, shift_by}
use Rattle.form_rows.specs.Meant.{Is}
use Rattle.trees.specs.declared.op.Op.TheVariants as op
use Rattle.codes.specs.Codes.{body_of}
use Rattle.form_rows.proofs.RowLaws.{are_none, is_made}
use Rattle.judgement_rows.proofs.Wholes.{found_row, found_tree, missing_row}
use Rattle.judgement_rows.proofs.terms.Spelling.defined.Goals as goal

pub lifted-requires : goal.lifted-requires
lifted-requires g c =
    found_tree (g.M.Rows.means c.args.maker.now) (body_of c.requires.0 c.args.number) c.args.place.depth c.args.number c.args.self.now.bodies.items.items c.in-Some.body (sym c.in-Some.ensures) (c.requires.1.bodies c.args.number)

pub returns-in_ok-lifted-in-Some-clause-body : goal.returns-in_ok-lifted-in-Some-clause-body
returns-in_ok-lifted-in-Some-clause-body g c H fits =
    found_row c.args.place.depth c.args.number c.args.self.now.bodies.items.items c.in-Some.body (body_of H c.args.number) (sym c.in-Some.ensures) (fits.bodies c.args.number)
    (λ u a. subst (λ k. Is (g.M.Rows.means c.lifted.new.maker) c.in_ok-lifted-in-Some.field-0 (apply u (shift_by k))) c.saturating_sub-by.ensures (c.in_ok-lifted-in-Some.ensures.lifted u a))

pub returns-in_ok-make-in-None-clause-body : goal.returns-in_ok-make-in-None-clause-body
returns-in_ok-make-in-None-clause-body g c H fits =
    missing_row (g.M.Rows.means c.args.maker.now) c.args.place.depth c.args.number c.args.self.now.bodies.items.items (body_of H c.args.number) (sym c.in-None.ensures) (fits.bodies c.args.number)
    (is_made op.U refl (are_none (g.M.Rows.means c.args.maker.now)) c.in_ok-make-in-None.ensures.meaning)
