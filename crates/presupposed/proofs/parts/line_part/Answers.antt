use Rattle.std.proofs.Common.{◌∙◌, sym, ap, subst, Some}
use Rattle.trees.specs.Judgements.{WithName, trees}
use Rattle.rules.specs.Table.{at, i0, i1}
use Rattle.literal_types.proofs.GrowthLaws.{extends_extends}
use Rattle.presupposed.specs.Parts.{LineHas}
use Rattle.presupposed.proofs.PartLaws.{left_at, line_at, right_at}
use Rattle.presupposed.proofs.parts.line_part.Goals as goal

pub node-requires : goal.node-requires
node-requires c =
    let (G, A, u, v, J, is, has) = c.requires in
    let s = c.in_ok-sub-in-Line in
    (WithName G, A, line_at c.args.book.now c.under_name.new.book s.ensures.extends c.args.line s.sub G A u v is (s.ensures.typed G is.home is.sub is.sub_is))

pub returns-in_err-node-in-Line-clause-extends : goal.returns-in_err-node-in-Line-clause-extends
returns-in_err-node-in-Line-clause-extends c = extends_extends c.in_ok-sub-in-Line.ensures.extends c.in_err-node-in-Line.ensures.extends

pub returns-in_ok-node-in-Line-clause-extends : goal.returns-in_ok-node-in-Line-clause-extends
returns-in_ok-node-in-Line-clause-extends c = extends_extends c.in_ok-sub-in-Line.ensures.extends c.in_ok-node-in-Line.ensures.extends

pub returns-in_ok-node-in-Line-clause-typed : goal.returns-in_ok-node-in-Line-clause-typed
returns-in_ok-node-in-Line-clause-typed c = λ G A u v J is has.
    let s = c.in_ok-sub-in-Line in
    let same = subst (λ l. LineHas l G A u v J) c.in-Line.is has in
    c.in_ok-node-in-Line.ensures.typed (WithName G) A (line_at c.args.book.now c.under_name.new.book s.ensures.extends c.args.line s.sub G A u v is (s.ensures.typed G is.home is.sub is.sub_is)) ∙ ap Some (sym same)

pub returns-in_ok-term_instance-in-LeftEnd-clause-typed : goal.returns-in_ok-term_instance-in-LeftEnd-clause-typed
returns-in_ok-term_instance-in-LeftEnd-clause-typed c = λ G A u v J is has.
    let same = subst (λ l. LineHas l G A u v J) c.in-LeftEnd.is has in
    let typed = c.in_ok-term_instance-in-LeftEnd.ensures.typed G is.home is.sub is.start (at trees is.tree (i0 trees)) is.sub_is is.left_is in
    left_at c.args.book.now c.args.line c.in_ok-term_instance-in-LeftEnd.field-0 G A u v is c.term_instance.new.book typed ∙ ap Some (sym same)

pub returns-in_ok-term_instance-in-RightEnd-clause-typed : goal.returns-in_ok-term_instance-in-RightEnd-clause-typed
returns-in_ok-term_instance-in-RightEnd-clause-typed c = λ G A u v J is has.
    let same = subst (λ l. LineHas l G A u v J) c.in-RightEnd.is has in
    let typed = c.in_ok-term_instance-in-RightEnd.ensures.typed G is.home is.sub is.end (at trees is.tree (i1 trees)) is.sub_is is.right_is in
    right_at c.args.book.now c.args.line c.in_ok-term_instance-in-RightEnd.field-0 G A u v is c.term_instance-in-RightEnd.new.book typed ∙ ap Some (sym same)
