use Rattle.std.proofs.Common.{◌≤◌, ◌^◌, [], ◌∷◌, refl, ◌∙◌, ap}
use Rattle.std.proofs.lemmas.List.Elements.{All-nil}
use Rattle.trees.specs.Judgements.{Context, WithVar, trees}
use Rattle.trees.specs.Trees.{Tree, Subst, apply}
use Rattle.trees.specs.Language.{Ty, Tm, Sb}
use Rattle.trees.specs.Things.{ATree, ASubst, AContext}
use Rattle.substitution.specs.Forms.{lift}
use Rattle.conditions.specs.Sides.{SideHolds}
use Rattle.recipes.specs.Derivations.{StatesAt}
use Rattle.book.specs.Contents.{Contents}
use Rattle.book.specs.declared.kernel.NodeId.{NodeId}
use Rattle.inversion_rules.specs.Statements.{open_lam, open_lam_statement}
use Rattle.typed_nodes.specs.Calls.{MayCall}
use Rattle.typed_nodes.specs.Typed.{Says}
use Rattle.typed_nodes.proofs.StandLaws.{may_call, given}
use Rattle.literal_terms.proofs.UnderLaws.{lam_under, pi_under}
use Rattle.literal_terms.proofs.under.function_under.Goals as goal

call : (book : Contents) (sub domain body : NodeId) (H G : Context) (d : Subst) (A s B : Tree)
    → d.shift ≤ 2 ^ 48
    → StatesAt open_lam_statement (AContext H ∷ ASubst d ∷ AContext G ∷ ATree A ∷ ATree s ∷ ATree B ∷ []) (open_lam trees H d G A s B)
    → Says book sub (Sb H d G) → Says book domain (Ty G A) → Says book body (Tm (WithVar G A) s B)
    → MayCall open_lam_statement book [] (sub.0 ∷ domain.0 ∷ body.0 ∷ []) (AContext H ∷ ASubst d ∷ AContext G ∷ ATree A ∷ ATree s ∷ ATree B ∷ [])
call book sub domain body H G d A s B short states is_sub is_domain is_body =
    may_call open_lam_statement book [] (sub.0 ∷ domain.0 ∷ body.0 ∷ [])
    (AContext H ∷ ASubst d ∷ AContext G ∷ ATree A ∷ ATree s ∷ ATree B ∷ []) (open_lam trees H d G A s B)
    states refl (short, tt) (All-nil SideHolds) refl
    (is_sub, (is_domain, (is_body, tt)))

pub derive_two-requires-clause-may : goal.derive_two-requires-clause-may
derive_two-requires-clause-may c =
    let (H, G, d, t, S, is_sub, formed) = c.requires in
    let (A, s, B, tree, type, is_domain, is_body) = formed in (
      open_lam_statement,
      AContext H ∷ ASubst d ∷ AContext G ∷ ATree A ∷ ATree s ∷ ATree B ∷ [],
      record { derives = c.forms_are_opened.ensures.open_lam; first = refl },
      call c.args.book.now c.args.sub c.args.domain c.args.body H G d A s B (c.laws_of_shifts.ensures.shifts c.args.sub.0 H d G is_sub) (c.statements_at_trees.ensures.open_lam H d G A s B) is_sub is_domain is_body,
    )

pub returns-clause-formed : goal.returns-clause-formed
returns-clause-formed c = λ H G d t S is_sub formed.
    let (A, s, B, tree, type, is_domain, is_body) = formed in
    let states = c.statements_at_trees.ensures.open_lam H d G A s B in
    let said = given c.derive_two.new.book (c.in_ok-derive_two.field-0.0.0 ∷ c.in_ok-derive_two.field-0.1.0 ∷ []) (c.in_ok-derive_two.ensures.gives open_lam_statement (record { derives = c.forms_are_opened.ensures.open_lam; first = refl }))
    (call c.args.book.now c.args.sub c.args.domain c.args.body H G d A s B (c.laws_of_shifts.ensures.shifts c.args.sub.0 H d G is_sub) states is_sub is_domain is_body) states in
    (apply A d, apply s (lift trees d), apply B (lift trees d), ap (λ x. apply x d) tree ∙ lam_under A s d, ap (λ x. apply x d) type ∙ pi_under A B d, said.0, said.1.0)
