use Rattle.std.proofs.Common.{refl}
use Rattle.trees.specs.Language.{Tm}
use Rattle.typed_nodes.proofs.GrowthLaws.{says_later}
use Rattle.literal_types.proofs.GrowthLaws.{extends_extends}
use Rattle.behind_tests.proofs.AskLaws.{claim_later}
use Rattle.behind_tests.proofs.answers.anchored_is.Goals as goal

pub type_of-requires : goal.type_of-requires
type_of-requires c =
    let (G, a, A, says, is) = c.requires in
    (G, A, (Tm G a A, says, (refl, refl)))

pub anchor-requires : goal.anchor-requires
anchor-requires c =
    let (G, a, A, says, is) = c.requires in
    let e = c.in_ok-ty.ensures in
    (G, a, A, says_later _ _ c.args.typing (Tm G a A) e.extends says, e.typed G A (Tm G a A, says, (refl, refl)))

pub returns-in_err-anchored : goal.returns-in_err-anchored
returns-in_err-anchored c = extends_extends c.in_ok-ty.ensures.extends c.in_err-anchored.ensures.extends

pub concludes-requires : goal.concludes-requires
concludes-requires c =
    let (G, a, A, says, is) = c.requires in
    let e = c.in_ok-ty.ensures in
    let anchored = c.in_ok-anchored.ensures.typed G a A (says_later _ _ c.args.typing (Tm G a A) e.extends says) (e.typed G A (Tm G a A, says, (refl, refl))) in
    (Tm G a A, Tm G a A, anchored, claim_later (extends_extends e.extends c.in_ok-anchored.ensures.extends) c.args.claim (Tm G a A) is)

pub returns-in_err-concludes : goal.returns-in_err-concludes
returns-in_err-concludes c = extends_extends c.in_ok-ty.ensures.extends c.in_ok-anchored.ensures.extends

pub returns : goal.returns
returns c = extends_extends c.in_ok-ty.ensures.extends c.in_ok-anchored.ensures.extends
