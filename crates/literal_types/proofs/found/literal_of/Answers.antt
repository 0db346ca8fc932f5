use Rattle.std.proofs.Common.{◌∙◌, ap, subst}
use Rattle.trees.specs.Judgements.{WithVar, WithName, trees}
use Rattle.trees.specs.Language.{Ty, Tm, Sb}
use Rattle.rules.specs.Table.{at, i0, i1}
use Rattle.typed_nodes.proofs.GrowthLaws.{says_later}
use Rattle.literal_types.specs.Formed.{IsFormed, former_tree, sized}
use Rattle.literal_types.proofs.GrowthLaws.{extends_extends}
use Rattle.literal_types.proofs.LiteralLaws.{pi_under, sigma_under, path_under}
use Rattle.literal_types.proofs.found.literal_of.Goals as goal

pub large-requires : goal.large-requires
large-requires c =
    let (H, T, from, (K, A, formed, waits)) = c.requires in
    let (B, C, is, domain, codomain) = subst (λ x. IsFormed c.args.book.now x K A) c.in-Family.is formed in
    (K, B, says_later _ _ c.in-Family.domain (sized c.in-Family.size K B) c.in_ok-sub.ensures.extends domain)

pub returns-in_err-domain-in-Family-clause-extends : goal.returns-in_err-domain-in-Family-clause-extends
returns-in_err-domain-in-Family-clause-extends c = extends_extends c.in_ok-sub.ensures.extends c.in_err-domain-in-Family.ensures.extends

pub large-requires-in-Family : goal.large-requires-in-Family
large-requires-in-Family c =
    let (H, T, from, (K, A, formed, waits)) = c.requires in
    let (B, C, is, domain, codomain) = subst (λ x. IsFormed c.args.book.now x K A) c.in-Family.is formed in
    let extends = extends_extends c.in_ok-sub.ensures.extends c.in_ok-domain-in-Family.ensures.extends in
    (WithVar K B, C, says_later _ _ c.in-Family.codomain (sized c.in-Family.size (WithVar K B) C) extends codomain)

pub returns-in_err-codomain-in-Family-clause-extends : goal.returns-in_err-codomain-in-Family-clause-extends
returns-in_err-codomain-in-Family-clause-extends c = extends_extends (extends_extends c.in_ok-sub.ensures.extends c.in_ok-domain-in-Family.ensures.extends) c.in_err-codomain-in-Family.ensures.extends

pub large-requires-in-Line : goal.large-requires-in-Line
large-requires-in-Line c =
    let (H, T, from, (K, A, formed, waits)) = c.requires in
    let (B, u, v, is, line, left, right) = subst (λ x. IsFormed c.args.book.now x K A) c.in-Line.is formed in
    (WithName K, B, says_later _ _ c.in-Line.ty (sized c.in-Line.size (WithName K) B) c.in_ok-sub.ensures.extends line)

pub returns-in_err-ty-in-Line-clause-extends : goal.returns-in_err-ty-in-Line-clause-extends
returns-in_err-ty-in-Line-clause-extends c = extends_extends c.in_ok-sub.ensures.extends c.in_err-ty-in-Line.ensures.extends

pub returns-in_ok-ty-in-Line-clause-extends : goal.returns-in_ok-ty-in-Line-clause-extends
returns-in_ok-ty-in-Line-clause-extends c = extends_extends c.in_ok-sub.ensures.extends c.in_ok-ty-in-Line.ensures.extends

pub returns-in_ok-ty-in-Line-clause-literal : goal.returns-in_ok-ty-in-Line-clause-literal
returns-in_ok-ty-in-Line-clause-literal c = λ H T from stands.
    let (K, A, formed, waits) = stands in
    let (B, u, v, is, line, left, right) = subst (λ x. IsFormed c.args.book.now x K A) c.in-Line.is formed in
    let (d, sub, tree) = c.in_ok-sub.ensures.joins H T K A from waits in
    let typed = c.in_ok-ty-in-Line.ensures in
    let extends = extends_extends c.in_ok-sub.ensures.extends typed.extends in
    path_under _ H T K d (record { ty = c.in_ok-ty-in-Line.ty; left = c.in-Line.left; right = c.in-Line.right; sub = c.in_ok-sub.sub }) A B u v tree is
    (typed.typed (WithName K) B (says_later _ _ c.in-Line.ty (sized c.in-Line.size (WithName K) B) c.in_ok-sub.ensures.extends line))
    (says_later _ _ c.in-Line.left (Tm K u (at trees B (i0 trees))) extends left)
    (says_later _ _ c.in-Line.right (Tm K v (at trees B (i1 trees))) extends right)
    (says_later _ _ c.in_ok-sub.sub (Sb H d K) typed.extends sub)

pub returns-in-Pi-clause-extends : goal.returns-in-Pi-clause-extends
returns-in-Pi-clause-extends c = extends_extends (extends_extends c.in_ok-sub.ensures.extends c.in_ok-domain-in-Family.ensures.extends) c.in_ok-codomain-in-Family.ensures.extends

pub returns-in-Pi-clause-literal : goal.returns-in-Pi-clause-literal
returns-in-Pi-clause-literal c = λ H T from stands.
    let (K, A, formed, waits) = stands in
    let (B, C, is, domain, codomain) = subst (λ x. IsFormed c.args.book.now x K A) c.in-Family.is formed in
    let (d, sub, tree) = c.in_ok-sub.ensures.joins H T K A from waits in
    let first = c.in_ok-domain-in-Family.ensures in
    let second = c.in_ok-codomain-in-Family.ensures in
    pi_under _ H T K d (record { domain = c.in_ok-domain-in-Family.domain; codomain = c.in_ok-codomain-in-Family.codomain; sub = c.in_ok-sub.sub }) A B C tree (is ∙ ap (λ f. former_tree f B C) c.in-Pi.is)
    (says_later _ _ c.in_ok-domain-in-Family.domain (Ty K B) second.extends (first.typed K B (says_later _ _ c.in-Family.domain (sized c.in-Family.size K B) c.in_ok-sub.ensures.extends domain)))
    (second.typed (WithVar K B) C (says_later _ _ c.in-Family.codomain (sized c.in-Family.size (WithVar K B) C) (extends_extends c.in_ok-sub.ensures.extends first.extends) codomain))
    (says_later _ _ c.in_ok-sub.sub (Sb H d K) (extends_extends first.extends second.extends) sub)

pub returns-in-Sigma-clause-extends : goal.returns-in-Sigma-clause-extends
returns-in-Sigma-clause-extends c = extends_extends (extends_extends c.in_ok-sub.ensures.extends c.in_ok-domain-in-Family.ensures.extends) c.in_ok-codomain-in-Family.ensures.extends

pub returns-in-Sigma-clause-literal : goal.returns-in-Sigma-clause-literal
returns-in-Sigma-clause-literal c = λ H T from stands.
    let (K, A, formed, waits) = stands in
    let (B, C, is, domain, codomain) = subst (λ x. IsFormed c.args.book.now x K A) c.in-Family.is formed in
    let (d, sub, tree) = c.in_ok-sub.ensures.joins H T K A from waits in
    let first = c.in_ok-domain-in-Family.ensures in
    let second = c.in_ok-codomain-in-Family.ensures in
    sigma_under _ H T K d (record { domain = c.in_ok-domain-in-Family.domain; codomain = c.in_ok-codomain-in-Family.codomain; sub = c.in_ok-sub.sub }) A B C tree (is ∙ ap (λ f. former_tree f B C) c.in-Sigma.is)
    (says_later _ _ c.in_ok-domain-in-Family.domain (Ty K B) second.extends (first.typed K B (says_later _ _ c.in-Family.domain (sized c.in-Family.size K B) c.in_ok-sub.ensures.extends domain)))
    (second.typed (WithVar K B) C (says_later _ _ c.in-Family.codomain (sized c.in-Family.size (WithVar K B) C) (extends_extends c.in_ok-sub.ensures.extends first.extends) codomain))
    (says_later _ _ c.in_ok-sub.sub (Sb H d K) (extends_extends first.extends second.extends) sub)
