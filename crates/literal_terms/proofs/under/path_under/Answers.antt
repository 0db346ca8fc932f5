use Rattle.std.proofs.Common.{◌≤◌, ◌^◌, [], ◌∷◌, refl, ◌∙◌, ap, arith}
use Rattle.std.proofs.lemmas.List.Elements.{All-nil}
use Rattle.trees.specs.Judgements.{Context, WithName, trees}
use Rattle.trees.specs.Trees.{Tree, Subst, apply, push}
use Rattle.trees.specs.Language.{Tm, TmEq, Sb}
use Rattle.trees.specs.Things.{ATree, ASubst, AContext}
use Rattle.substitution.specs.Forms.{lift}
use Rattle.conditions.specs.Sides.{SideHolds}
use Rattle.rules.specs.Table.{at, i0, i1}
use Rattle.recipes.specs.Derivations.{StatesAt}
use Rattle.book.specs.Contents.{Contents}
use Rattle.book.specs.declared.kernel.NodeId.{NodeId}
use Rattle.inversion_rules.specs.Statements.{open_plam, open_plam_statement}
use Rattle.typed_nodes.specs.Calls.{MayCall}
use Rattle.typed_nodes.specs.Typed.{Says}
use Rattle.typed_nodes.proofs.StandLaws.{may_call}
use Rattle.literal_terms.proofs.UnderLaws.{end_under, given_at, given_count, pathp_under, plam_under}
use Rattle.literal_terms.proofs.under.path_under.Goals as goal

call : (book : Contents) (sub body left right : NodeId) (H G : Context) (d : Subst) (A s u v : Tree)
    → d.shift ≤ 2 ^ 48
    → StatesAt open_plam_statement (AContext H ∷ ASubst d ∷ AContext G ∷ ATree A ∷ ATree s ∷ ATree u ∷ ATree v ∷ []) (open_plam trees H d G A s u v)
    → Says book sub (Sb H d G) → Says book body (Tm (WithName G) s A)
    → Says book left (TmEq G (at trees s (i0 trees)) u (at trees A (i0 trees))) → Says book right (TmEq G (at trees s (i1 trees)) v (at trees A (i1 trees)))
    → MayCall open_plam_statement book [] (sub.0 ∷ body.0 ∷ left.0 ∷ right.0 ∷ []) (AContext H ∷ ASubst d ∷ AContext G ∷ ATree A ∷ ATree s ∷ ATree u ∷ ATree v ∷ [])
call book sub body left right H G d A s u v short states is_sub is_body is_left is_right =
    may_call open_plam_statement book [] (sub.0 ∷ body.0 ∷ left.0 ∷ right.0 ∷ [])
    (AContext H ∷ ASubst d ∷ AContext G ∷ ATree A ∷ ATree s ∷ ATree u ∷ ATree v ∷ []) (open_plam trees H d G A s u v)
    states refl (short, tt) (All-nil SideHolds) refl
    (is_sub, (is_body, (is_left, (is_right, tt))))

pub derived-requires-clause-may : goal.derived-requires-clause-may
derived-requires-clause-may c =
    let (H, G, d, t, S, is_sub, formed) = c.requires in
    let (A, s, u, v, tree, type, is_body, is_left, is_right) = formed in (
      open_plam_statement,
      AContext H ∷ ASubst d ∷ AContext G ∷ ATree A ∷ ATree s ∷ ATree u ∷ ATree v ∷ [],
      record { derives = c.forms_are_opened.ensures.open_plam; first = refl },
      call c.args.book.now c.args.sub c.args.body c.args.left c.args.right H G d A s u v (c.laws_of_shifts.ensures.shifts c.args.sub.0 H d G is_sub) (c.statements_at_trees.ensures.open_plam H d G A s u v) is_sub is_body is_left is_right,
    )

pub returns-clause-formed : goal.returns-clause-formed
returns-clause-formed c = λ H G d t S is_sub formed.
    let (A, s, u, v, tree, type, is_body, is_left, is_right) = formed in
    let new = c.derived.new.book in
    let states = c.statements_at_trees.ensures.open_plam H d G A s u v in
    let gives = c.in_ok-nodes.ensures.gives open_plam_statement (record { derives = c.forms_are_opened.ensures.open_plam; first = refl }) in
    let may = call c.args.book.now c.args.sub c.args.body c.args.left c.args.right H G d A s u v (c.laws_of_shifts.ensures.shifts c.args.sub.0 H d G is_sub) states is_sub is_body is_left is_right in (
      apply A (lift trees d),
      apply s (lift trees d),
      apply u d,
      apply v d,
      ap (λ x. apply x d) tree ∙ plam_under s d,
      ap (λ x. apply x d) type ∙ pathp_under A u v d,
      given_at new c.in_ok-nodes.nodes gives may states 0 c.node_at-body.result.0 (Tm (WithName H) (apply s (lift trees d)) (apply A (lift trees d))) c.node_at-body.ensures refl,
      end_under H s (apply u d) A (i0 trees) d (given_at new c.in_ok-nodes.nodes gives may states 1 c.node_at-left.result.0 (TmEq H (apply s (push d (i0 trees))) (apply u d) (apply A (push d (i0 trees)))) c.node_at-left.ensures refl),
      end_under H s (apply v d) A (i1 trees) d (given_at new c.in_ok-nodes.nodes gives may states 2 c.node_at-right.result.0 (TmEq H (apply s (push d (i1 trees))) (apply v d) (apply A (push d (i1 trees)))) c.node_at-right.ensures refl),
    )

pub node_at-body-requires : goal.node_at-body-requires
node_at-body-requires c =
    let (H, G, d, t, S, is_sub, formed) = c.requires in
    let (A, s, u, v, tree, type, is_body, is_left, is_right) = formed in
    let states = c.statements_at_trees.ensures.open_plam H d G A s u v in
    let gives = c.in_ok-nodes.ensures.gives open_plam_statement (record { derives = c.forms_are_opened.ensures.open_plam; first = refl }) in
    let may = call c.args.book.now c.args.sub c.args.body c.args.left c.args.right H G d A s u v (c.laws_of_shifts.ensures.shifts c.args.sub.0 H d G is_sub) states is_sub is_body is_left is_right in
    given_count c.derived.new.book c.in_ok-nodes.nodes gives may states 0 (omega arith)

pub node_at-left-requires : goal.node_at-left-requires
node_at-left-requires c =
    let (H, G, d, t, S, is_sub, formed) = c.requires in
    let (A, s, u, v, tree, type, is_body, is_left, is_right) = formed in
    let states = c.statements_at_trees.ensures.open_plam H d G A s u v in
    let gives = c.in_ok-nodes.ensures.gives open_plam_statement (record { derives = c.forms_are_opened.ensures.open_plam; first = refl }) in
    let may = call c.args.book.now c.args.sub c.args.body c.args.left c.args.right H G d A s u v (c.laws_of_shifts.ensures.shifts c.args.sub.0 H d G is_sub) states is_sub is_body is_left is_right in
    given_count c.derived.new.book c.in_ok-nodes.nodes gives may states 1 (omega arith)

pub node_at-right-requires : goal.node_at-right-requires
node_at-right-requires c =
    let (H, G, d, t, S, is_sub, formed) = c.requires in
    let (A, s, u, v, tree, type, is_body, is_left, is_right) = formed in
    let states = c.statements_at_trees.ensures.open_plam H d G A s u v in
    let gives = c.in_ok-nodes.ensures.gives open_plam_statement (record { derives = c.forms_are_opened.ensures.open_plam; first = refl }) in
    let may = call c.args.book.now c.args.sub c.args.body c.args.left c.args.right H G d A s u v (c.laws_of_shifts.ensures.shifts c.args.sub.0 H d G is_sub) states is_sub is_body is_left is_right in
    given_count c.derived.new.book c.in_ok-nodes.nodes gives may states 2 (omega arith)
