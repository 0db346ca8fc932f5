use Rattle.std.proofs.Common.{◌∙◌, sym, ap, subst, Some}
use Rattle.trees.specs.Judgements.{WithVar}
use Rattle.literal_types.proofs.GrowthLaws.{extends_extends}
use Rattle.presupposed.specs.Parts.{FamilyHas}
use Rattle.presupposed.proofs.PartLaws.{codomain_at, domain_at}
use Rattle.presupposed.proofs.parts.family_part.Goals as goal

pub node-requires : goal.node-requires
node-requires c =
    let (G, A, B, J, is, has) = c.requires in
    (G, A, domain_at c.args.book.now c.args.family G A B is)

pub node-requires-in-Codomain : goal.node-requires-in-Codomain
node-requires-in-Codomain c =
    let (G, A, B, J, is, has) = c.requires in
    let s = c.in_ok-sub-in-Codomain in
    (WithVar G A, B, codomain_at c.args.book.now c.under_variable.new.book s.ensures.extends c.args.family s.sub G A B is (s.ensures.typed G is.home is.sub is.domain is.sub_is is.domain_is))

pub returns-in_err-node-in-Codomain-clause-extends : goal.returns-in_err-node-in-Codomain-clause-extends
returns-in_err-node-in-Codomain-clause-extends c = extends_extends c.in_ok-sub-in-Codomain.ensures.extends c.in_err-node-in-Codomain.ensures.extends

pub returns-in_ok-node-in-Domain-clause-typed : goal.returns-in_ok-node-in-Domain-clause-typed
returns-in_ok-node-in-Domain-clause-typed c = λ G A B J is has.
    let same = subst (λ l. FamilyHas l G A B J) c.in-Domain.is has in
    c.in_ok-node-in-Domain.ensures.typed G A (domain_at c.args.book.now c.args.family G A B is) ∙ ap Some (sym same)

pub returns-in_ok-node-in-Codomain-clause-extends : goal.returns-in_ok-node-in-Codomain-clause-extends
returns-in_ok-node-in-Codomain-clause-extends c = extends_extends c.in_ok-sub-in-Codomain.ensures.extends c.in_ok-node-in-Codomain.ensures.extends

pub returns-in_ok-node-in-Codomain-clause-typed : goal.returns-in_ok-node-in-Codomain-clause-typed
returns-in_ok-node-in-Codomain-clause-typed c = λ G A B J is has.
    let s = c.in_ok-sub-in-Codomain in
    let same = subst (λ l. FamilyHas l G A B J) c.in-Codomain.is has in
    c.in_ok-node-in-Codomain.ensures.typed (WithVar G A) B (codomain_at c.args.book.now c.under_variable.new.book s.ensures.extends c.args.family s.sub G A B is (s.ensures.typed G is.home is.sub is.domain is.sub_is is.domain_is)) ∙ ap Some (sym same)
