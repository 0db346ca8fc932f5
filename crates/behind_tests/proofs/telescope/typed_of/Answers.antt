use Rattle.std.proofs.Common.{refl, sym}
use Rattle.trees.specs.Trees.{id}
use Rattle.trees.specs.Judgements.{Nil}
use Rattle.trees.specs.Language.{Sb, Tm}
use Rattle.substitution.proofs.ThenLaws.{apply-id}
use Rattle.typed_nodes.proofs.GrowthLaws.{says_later}
use Rattle.literal_types.proofs.GrowthLaws.{extends_extends}
use Rattle.behind_tests.proofs.telescope.typed_of.Goals as goal

pub type_of-requires : goal.type_of-requires
type_of-requires c =
    let (t, T, says) = c.requires in
    let before = extends_extends c.in_ok-ctx.ensures.extends c.in_ok-sub.ensures.extends in
    (Nil, T, (Tm Nil t T, says_later _ _ c.args.term (Tm Nil t T) before says, (refl, refl)))

pub returns-clause-extends : goal.returns-clause-extends
returns-clause-extends c = extends_extends (extends_extends c.in_ok-ctx.ensures.extends c.in_ok-sub.ensures.extends) c.in_ok-ty.ensures.extends

pub returns-clause-typed : goal.returns-clause-typed
returns-clause-typed c =
    let (t, T, says) = c.requires in
    let e = c.in_ok-ty.ensures in
    let then = says_later _ _ c.args.term (Tm Nil t T) (extends_extends c.in_ok-ctx.ensures.extends c.in_ok-sub.ensures.extends) says in
    let found = e.typed Nil T (Tm Nil t T, then, (refl, refl)) in
    let here = says_later _ _ c.in_ok-sub.sub (Sb Nil id Nil) e.extends (c.in_ok-sub.ensures.typed Nil c.in_ok-ctx.ensures.typed) in
    (t, T, record { term_is = says_later _ _ c.args.term (Tm Nil t T) e.extends then; type_at = record { home = Nil; tree = T; sub = id; type_is = found; sub_is = here; is = sym (apply-id T) } })
