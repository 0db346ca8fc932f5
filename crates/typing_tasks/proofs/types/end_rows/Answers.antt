use Rattle.std.proofs.Common.{◌∙◌, refl}
use Rattle.trees.specs.Judgements.{trees}
use Rattle.trees.specs.Language.{Tm}
use Rattle.trees.specs.Things.{ATree, ASubst}
use Rattle.rules.specs.Table.{at, i0, i1}
use Rattle.recipe_runner.proofs.BuildLaws.{some-is}
use Rattle.typed_nodes.proofs.GrowthLaws.{says_later}
use Rattle.typed_nodes.proofs.TypeLaws.{tree_here}
use Rattle.typed_contexts.proofs.GrowthLaws.{further}
use Rattle.typing_tasks.proofs.types.end_rows.Goals as goal

pub substitution_row-sub-requires : goal.substitution_row-sub-requires
substitution_row-sub-requires c =
    let (H, A, u, v, is) = c.requires in
    (H, is.home, is.sub, is.sub_is)

pub subject_row-requires : goal.subject_row-requires
subject_row-requires c =
    let (H, A, u, v, is) = c.requires in
    (Tm is.home is.start (at trees is.tree (i0 trees)), is.start, is.left_is, refl)

pub instance-requires : goal.instance-requires
instance-requires c =
    let (H, A, u, v, is) = c.requires in
    let at_tree = c.subject_row.ensures (Tm is.home is.start (at trees is.tree (i0 trees))) is.start is.left_is refl in
    let at_sub = c.substitution_row-sub.ensures H is.home is.sub is.sub_is in
    some-is _ (ATree u) (tree_here _ _ u is.start is.sub at_tree at_sub is.left)

pub subject_row-requires-2 : goal.subject_row-requires-2
subject_row-requires-2 c =
    let (H, A, u, v, is) = c.requires in (
      Tm is.home is.end (at trees is.tree (i1 trees)),
      is.end,
      says_later c.args.book.now c.instance.new.self c.args.line.right (Tm is.home is.end (at trees is.tree (i1 trees))) c.in_ok-left.ensures.extends is.right_is,
      refl,
    )

pub instance-requires-2 : goal.instance-requires-2
instance-requires-2 c =
    let (H, A, u, v, is) = c.requires in
    let says = says_later c.args.book.now c.instance.new.self c.args.line.right (Tm is.home is.end (at trees is.tree (i1 trees))) c.in_ok-left.ensures.extends is.right_is in
    let at_tree = c.subject_row-2.ensures (Tm is.home is.end (at trees is.tree (i1 trees))) is.end says refl in
    let at_sub = c.in_ok-left.ensures.extends.rows.keeps c.substitution_row-sub.result (ASubst is.sub) (c.substitution_row-sub.ensures H is.home is.sub is.sub_is) in
    some-is _ (ATree v) (tree_here _ _ v is.end is.sub at_tree at_sub is.right)

pub returns-in_err-right-clause-extends : goal.returns-in_err-right-clause-extends
returns-in_err-right-clause-extends c = further c.in_ok-left.ensures.extends c.instance-2.ensures.extends

pub returns-clause-extends : goal.returns-clause-extends
returns-clause-extends c = further c.in_ok-left.ensures.extends c.in_ok-right.ensures.extends

pub returns-clause-rows : goal.returns-clause-rows
returns-clause-rows c = λ H A u v is.
    let start_tree = c.subject_row.ensures (Tm is.home is.start (at trees is.tree (i0 trees))) is.start is.left_is refl in
    let start_sub = c.substitution_row-sub.ensures H is.home is.sub is.sub_is in
    let says = says_later c.args.book.now c.instance.new.self c.args.line.right (Tm is.home is.end (at trees is.tree (i1 trees))) c.in_ok-left.ensures.extends is.right_is in
    let end_tree = c.subject_row-2.ensures (Tm is.home is.end (at trees is.tree (i1 trees))) is.end says refl in
    let end_sub = c.in_ok-left.ensures.extends.rows.keeps c.substitution_row-sub.result (ASubst is.sub) start_sub in (
      c.in_ok-right.ensures.extends.rows.keeps c.in_ok-left.left (ATree u) (c.in_ok-left.ensures.meaning ∙ tree_here _ _ u is.start is.sub start_tree start_sub is.left),
      c.in_ok-right.ensures.meaning ∙ tree_here _ _ v is.end is.sub end_tree end_sub is.right,
    )
