use Rattle.std.proofs.Common.{subst, ap}
use Rattle.trees.specs.Trees.{apply}
use Rattle.trees.specs.Language.{Sb}
use Rattle.typed_nodes.proofs.GrowthLaws.{says_later}
use Rattle.literal_types.proofs.GrowthLaws.{extends_extends}
use Rattle.literal_terms.specs.Forms.{IsFormed}
use Rattle.presupposed.proofs.KidLaws.{paired_whole, type_stays}
use Rattle.presupposed.proofs.terms.kids_under.Goals as goal

pub function_under-requires : goal.function_under-requires
function_under-requires c =
    let (H, G, d, t, S, sub, formed) = c.requires in
    (H, G, d, t, S, sub, subst (λ x. IsFormed c.args.book.now x G t S) c.in-Function.is formed)

pub with_domain-requires : goal.with_domain-requires
with_domain-requires c =
    let (H, G, d, t, S, sub, formed) = c.requires in
    let f = subst (λ x. IsFormed c.args.book.now x G t S) c.in-Pair.is formed in
    (G, f.0, f.1, f.6)

pub pair_under-requires : goal.pair_under-requires
pair_under-requires c =
    let b = c.args.book.now in
    let (H, G, d, t, S, sub, formed) = c.requires in
    let f = subst (λ x. IsFormed b x G t S) c.in-Pair.is formed in
    let e = c.in_ok-pair-in-Pair.ensures in
    (H, G, d, t, S, says_later _ _ c.args.sub (Sb H d G) e.extends sub, paired_whole b c.with_domain.new.book e.extends c.in_ok-pair-in-Pair.pair c.in-Pair.codomain c.in-Pair.left c.in-Pair.right G t S f (e.domain G) e.others.0 e.others.1 e.others.2)

pub returns-in_err-pair_under-in-Pair-clause-extends : goal.returns-in_err-pair_under-in-Pair-clause-extends
returns-in_err-pair_under-in-Pair-clause-extends c = extends_extends c.in_ok-pair-in-Pair.ensures.extends c.in_err-pair_under-in-Pair.ensures.extends

pub path_under-requires : goal.path_under-requires
path_under-requires c =
    let (H, G, d, t, S, sub, formed) = c.requires in
    (H, G, d, t, S, sub, subst (λ x. IsFormed c.args.book.now x G t S) c.in-Path.is formed)

pub term_instance-requires : goal.term_instance-requires
term_instance-requires c =
    let (H, G, d, t, S, sub, formed) = c.requires in
    let f = subst (λ x. IsFormed c.args.book.now x G t S) c.in-Type.is formed in
    (H, G, d, t, S, sub, f.2)

pub returns-in_ok-domain-in-Function-clause-kids : goal.returns-in_ok-domain-in-Function-clause-kids
returns-in_ok-domain-in-Function-clause-kids c = λ H G d t S sub formed.
    c.in_ok-domain-in-Function.ensures.formed H G d t S sub (subst (λ x. IsFormed c.args.book.now x G t S) c.in-Function.is formed)

pub returns-in_ok-pair_under-in-Pair-clause-extends : goal.returns-in_ok-pair_under-in-Pair-clause-extends
returns-in_ok-pair_under-in-Pair-clause-extends c = extends_extends c.in_ok-pair-in-Pair.ensures.extends c.in_ok-pair_under-in-Pair.ensures.extends

pub returns-in_ok-pair_under-in-Pair-clause-kids : goal.returns-in_ok-pair_under-in-Pair-clause-kids
returns-in_ok-pair_under-in-Pair-clause-kids c = λ H G d t S sub formed.
    let b = c.args.book.now in
    let f = subst (λ x. IsFormed b x G t S) c.in-Pair.is formed in
    let e = c.in_ok-pair-in-Pair.ensures in
    c.in_ok-pair_under-in-Pair.ensures.formed H G d t S (says_later _ _ c.args.sub (Sb H d G) e.extends sub)
    (paired_whole b c.with_domain.new.book e.extends c.in_ok-pair-in-Pair.pair c.in-Pair.codomain c.in-Pair.left c.in-Pair.right G t S f (e.domain G) e.others.0 e.others.1 e.others.2)

pub returns-in_ok-body-in-Path-clause-kids : goal.returns-in_ok-body-in-Path-clause-kids
returns-in_ok-body-in-Path-clause-kids c = λ H G d t S sub formed.
    c.in_ok-body-in-Path.ensures.formed H G d t S sub (subst (λ x. IsFormed c.args.book.now x G t S) c.in-Path.is formed)

pub returns-in_ok-term_instance-in-Type-clause-kids : goal.returns-in_ok-term_instance-in-Type-clause-kids
returns-in_ok-term_instance-in-Type-clause-kids c = λ H G d t S sub formed.
    let f = subst (λ x. IsFormed c.args.book.now x G t S) c.in-Type.is formed in
    (type_stays t d f.0, ap (λ T. apply T d) f.1, c.in_ok-term_instance-in-Type.ensures.typed H G d t S sub f.2)
