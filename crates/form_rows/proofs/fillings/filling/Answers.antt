use Rattle.form_rows.proofs.RowLaws.{is_kept, is_of, kept_then, one_fits, tree_kept, tree_of_is}
use Rattle.trees.specs.declared.op.Op.TheVariants as op
use Rattle.std.proofs.Common.{refl}
use Rattle.form_rows.proofs.FillLaws.{closed_filling, is_instance, may_instance}
use Rattle.form_rows.proofs.fillings.filling.Goals as goal

pub instance-requires : goal.instance-requires
instance-requires g c =
    may_instance (is_kept c.slant.ensures.kept (is_of (g.M.Rows.means c.args.maker.now) c.args.line c.requires.line)) c.in_ok-slant.ensures.slants

pub instance-requires-2 : goal.instance-requires-2
instance-requires-2 g c =
    may_instance (is_kept (kept_then c.slant.ensures.kept c.instance.ensures.kept) (is_of (g.M.Rows.means c.args.maker.now) c.args.body c.requires.body)) (c.instance.ensures.kept.keeps _ _ c.in_ok-slant.ensures.slants)

pub filled-requires-clause-face : goal.filled-requires-clause-face
filled-requires-clause-face g c = tree_kept (g.M.Rows.means c.args.maker.now) (g.M.Rows.means c.instance-2.new.self) c.args.cover (kept_then c.slant.ensures.kept (kept_then c.instance.ensures.kept c.instance-2.ensures.kept)) c.requires.cover

pub filled-requires-clause-base : goal.filled-requires-clause-base
filled-requires-clause-base g c = tree_kept (g.M.Rows.means c.args.maker.now) (g.M.Rows.means c.instance-2.new.self) c.args.base (kept_then c.slant.ensures.kept (kept_then c.instance.ensures.kept c.instance-2.ensures.kept)) c.requires.base

pub filled-requires-clause-line : goal.filled-requires-clause-line
filled-requires-clause-line g c =
    let start = g.M.Rows.means c.args.maker.now in
    let line = is_kept c.slant.ensures.kept (is_of start c.args.line c.requires.line) in
    tree_kept (g.M.Rows.means c.instance.new.self) (g.M.Rows.means c.instance-2.new.self) c.in_ok-line.line c.instance-2.ensures.kept
    (tree_of_is (g.M.Rows.means c.instance.new.self) c.in_ok-line.line (is_instance line c.in_ok-slant.ensures.slants c.in_ok-line.ensures.meaning))

pub filled-requires-clause-body : goal.filled-requires-clause-body
filled-requires-clause-body g c =
    let start = g.M.Rows.means c.args.maker.now in
    let body = is_kept (kept_then c.slant.ensures.kept c.instance.ensures.kept) (is_of start c.args.body c.requires.body) in
    tree_of_is (g.M.Rows.means c.instance-2.new.self) c.in_ok-body.body (is_instance body (c.instance.ensures.kept.keeps _ _ c.in_ok-slant.ensures.slants) c.in_ok-body.ensures.meaning)

pub make-requires : goal.make-requires
make-requires g c =
    let start = g.M.Rows.means c.args.maker.now in
    let third = kept_then c.slant.ensures.kept (kept_then c.instance.ensures.kept c.instance-2.ensures.kept) in
    let line = is_kept c.slant.ensures.kept (is_of start c.args.line c.requires.line) in
    let body = is_kept (kept_then c.slant.ensures.kept c.instance.ensures.kept) (is_of start c.args.body c.requires.body) in
    one_fits (g.M.Rows.means c.filled.new.maker) c.in_ok-filled.filled op.PLam refl
    (tree_of_is (g.M.Rows.means c.filled.new.maker) c.in_ok-filled.filled
    (c.in_ok-filled.ensures.filled _ _ _ _
    (is_kept c.instance-2.ensures.kept (is_instance line c.in_ok-slant.ensures.slants c.in_ok-line.ensures.meaning))
    (is_kept third (is_of start c.args.cover c.requires.cover))
    (is_instance body (c.instance.ensures.kept.keeps _ _ c.in_ok-slant.ensures.slants) c.in_ok-body.ensures.meaning)
    (is_kept third (is_of start c.args.base c.requires.base))))

pub returns-clause-kept : goal.returns-clause-kept
returns-clause-kept g c =
    kept_then c.slant.ensures.kept (kept_then c.instance.ensures.kept (kept_then c.instance-2.ensures.kept (kept_then c.filled.ensures.kept c.make.ensures.kept)))

pub returns-clause-fills : goal.returns-clause-fills
returns-clause-fills g c A p b a l q m n =
    let third = kept_then c.slant.ensures.kept (kept_then c.instance.ensures.kept c.instance-2.ensures.kept) in
    let line = is_kept c.slant.ensures.kept l in
    let body = is_kept (kept_then c.slant.ensures.kept c.instance.ensures.kept) m in
    closed_filling A p b a
    (c.in_ok-filled.ensures.filled _ _ _ _
    (is_kept c.instance-2.ensures.kept (is_instance line c.in_ok-slant.ensures.slants c.in_ok-line.ensures.meaning))
    (is_kept third q)
    (is_instance body (c.instance.ensures.kept.keeps _ _ c.in_ok-slant.ensures.slants) c.in_ok-body.ensures.meaning)
    (is_kept third n))
    c.in_ok-make.ensures.meaning
