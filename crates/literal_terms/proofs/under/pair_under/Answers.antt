use Rattle.std.proofs.Common.{◌≤◌, ◌^◌, [], ◌∷◌, refl, ◌∙◌, ap, arith}
use Rattle.std.proofs.lemmas.List.Elements.{All-nil}
use Rattle.trees.specs.Judgements.{Context, WithVar, trees}
use Rattle.trees.specs.Trees.{Tree, Subst, apply, push}
use Rattle.trees.specs.Language.{Ty, Tm, Sb}
use Rattle.trees.specs.Things.{ATree, ASubst, AContext}
use Rattle.substitution.specs.Forms.{lift}
use Rattle.conditions.specs.Sides.{SideHolds}
use Rattle.rules.specs.Table.{at}
use Rattle.recipes.specs.Derivations.{StatesAt}
use Rattle.book.specs.Contents.{Contents}
use Rattle.book.specs.declared.kernel.NodeId.{NodeId}
use Rattle.inversion_rules.specs.Statements.{open_pair, open_pair_statement}
use Rattle.typed_nodes.specs.Calls.{MayCall}
use Rattle.typed_nodes.specs.Typed.{Says}
use Rattle.typed_nodes.proofs.StandLaws.{may_call}
use Rattle.literal_terms.proofs.UnderLaws.{given_at, given_count, sig_under, value_under}
use Rattle.literal_terms.proofs.under.pair_under.Goals as goal
use Rattle.literal_terms.specs.declared.forms.Paired.{Paired}

call : (book : Contents) (sub : NodeId) (p : Paired) (H G : Context) (d : Subst) (A B u v : Tree)
    → d.shift ≤ 2 ^ 48
    → StatesAt open_pair_statement (AContext H ∷ ASubst d ∷ AContext G ∷ ATree u ∷ ATree v ∷ ATree A ∷ ATree B ∷ []) (open_pair trees H d G u v A B)
    → Says book sub (Sb H d G) → Says book p.domain (Ty G A) → Says book p.codomain (Ty (WithVar G A) B)
    → Says book p.left (Tm G u A) → Says book p.right (Tm G v (at trees B u))
    → MayCall open_pair_statement book [] (sub.0 ∷ p.domain.0 ∷ p.codomain.0 ∷ p.left.0 ∷ p.right.0 ∷ []) (AContext H ∷ ASubst d ∷ AContext G ∷ ATree u ∷ ATree v ∷ ATree A ∷ ATree B ∷ [])
call book sub p H G d A B u v short states is_sub is_domain is_codomain is_left is_right =
    may_call open_pair_statement book [] (sub.0 ∷ p.domain.0 ∷ p.codomain.0 ∷ p.left.0 ∷ p.right.0 ∷ [])
    (AContext H ∷ ASubst d ∷ AContext G ∷ ATree u ∷ ATree v ∷ ATree A ∷ ATree B ∷ []) (open_pair trees H d G u v A B)
    states refl (short, tt) (All-nil SideHolds) refl
    (is_sub, (is_domain, (is_codomain, (is_left, (is_right, tt)))))

pub derived-requires-clause-may : goal.derived-requires-clause-may
derived-requires-clause-may c =
    let (H, G, d, t, S, is_sub, formed) = c.requires in
    let (A, B, u, v, tree, type, is_domain, is_codomain, is_left, is_right) = formed in (
      open_pair_statement,
      AContext H ∷ ASubst d ∷ AContext G ∷ ATree u ∷ ATree v ∷ ATree A ∷ ATree B ∷ [],
      record { derives = c.forms_are_opened.ensures.open_pair; first = refl },
      call c.args.book.now c.args.sub c.args.pair H G d A B u v (c.laws_of_shifts.ensures.shifts c.args.sub.0 H d G is_sub) (c.statements_at_trees.ensures.open_pair H d G u v A B) is_sub is_domain is_codomain is_left is_right,
    )

pub returns-clause-formed : goal.returns-clause-formed
returns-clause-formed c = λ H G d t S is_sub formed.
    let (A, B, u, v, tree, type, is_domain, is_codomain, is_left, is_right) = formed in
    let new = c.derived.new.book in
    let nodes = c.in_ok-nodes.nodes in
    let states = c.statements_at_trees.ensures.open_pair H d G u v A B in
    let gives = c.in_ok-nodes.ensures.gives open_pair_statement (record { derives = c.forms_are_opened.ensures.open_pair; first = refl }) in
    let may = call c.args.book.now c.args.sub c.args.pair H G d A B u v (c.laws_of_shifts.ensures.shifts c.args.sub.0 H d G is_sub) states is_sub is_domain is_codomain is_left is_right in (
      apply A d,
      apply B (lift trees d),
      apply u d,
      apply v d,
      ap (λ x. apply x d) tree,
      ap (λ x. apply x d) type ∙ sig_under A B d,
      given_at new nodes gives may states 0 c.node_at-domain.result.0 (Ty H (apply A d)) c.node_at-domain.ensures refl,
      given_at new nodes gives may states 1 c.node_at-codomain.result.0 (Ty (WithVar H (apply A d)) (apply B (lift trees d))) c.node_at-codomain.ensures refl,
      given_at new nodes gives may states 2 c.node_at-left.result.0 (Tm H (apply u d) (apply A d)) c.node_at-left.ensures refl,
      value_under H (apply v d) B (apply u d) d (given_at new nodes gives may states 3 c.node_at-right.result.0 (Tm H (apply v d) (apply B (push d (apply u d)))) c.node_at-right.ensures refl),
    )

pub node_at-domain-requires : goal.node_at-domain-requires
node_at-domain-requires c =
    let (H, G, d, t, S, is_sub, formed) = c.requires in
    let (A, B, u, v, tree, type, is_domain, is_codomain, is_left, is_right) = formed in
    let states = c.statements_at_trees.ensures.open_pair H d G u v A B in
    let gives = c.in_ok-nodes.ensures.gives open_pair_statement (record { derives = c.forms_are_opened.ensures.open_pair; first = refl }) in
    let may = call c.args.book.now c.args.sub c.args.pair H G d A B u v (c.laws_of_shifts.ensures.shifts c.args.sub.0 H d G is_sub) states is_sub is_domain is_codomain is_left is_right in
    given_count c.derived.new.book c.in_ok-nodes.nodes gives may states 0 (omega arith)

pub node_at-codomain-requires : goal.node_at-codomain-requires
node_at-codomain-requires c =
    let (H, G, d, t, S, is_sub, formed) = c.requires in
    let (A, B, u, v, tree, type, is_domain, is_codomain, is_left, is_right) = formed in
    let states = c.statements_at_trees.ensures.open_pair H d G u v A B in
    let gives = c.in_ok-nodes.ensures.gives open_pair_statement (record { derives = c.forms_are_opened.ensures.open_pair; first = refl }) in
    let may = call c.args.book.now c.args.sub c.args.pair H G d A B u v (c.laws_of_shifts.ensures.shifts c.args.sub.0 H d G is_sub) states is_sub is_domain is_codomain is_left is_right in
    given_count c.derived.new.book c.in_ok-nodes.nodes gives may states 1 (omega arith)

pub node_at-left-requires : goal.node_at-left-requires
node_at-left-requires c =
    let (H, G, d, t, S, is_sub, formed) = c.requires in
    let (A, B, u, v, tree, type, is_domain, is_codomain, is_left, is_right) = formed in
    let states = c.statements_at_trees.ensures.open_pair H d G u v A B in
    let gives = c.in_ok-nodes.ensures.gives open_pair_statement (record { derives = c.forms_are_opened.ensures.open_pair; first = refl }) in
    let may = call c.args.book.now c.args.sub c.args.pair H G d A B u v (c.laws_of_shifts.ensures.shifts c.args.sub.0 H d G is_sub) states is_sub is_domain is_codomain is_left is_right in
    given_count c.derived.new.book c.in_ok-nodes.nodes gives may states 2 (omega arith)

pub node_at-right-requires : goal.node_at-right-requires
node_at-right-requires c =
    let (H, G, d, t, S, is_sub, formed) = c.requires in
    let (A, B, u, v, tree, type, is_domain, is_codomain, is_left, is_right) = formed in
    let states = c.statements_at_trees.ensures.open_pair H d G u v A B in
    let gives = c.in_ok-nodes.ensures.gives open_pair_statement (record { derives = c.forms_are_opened.ensures.open_pair; first = refl }) in
    let may = call c.args.book.now c.args.sub c.args.pair H G d A B u v (c.laws_of_shifts.ensures.shifts c.args.sub.0 H d G is_sub) states is_sub is_domain is_codomain is_left is_right in
    given_count c.derived.new.book c.in_ok-nodes.nodes gives may states 3 (omega arith)
