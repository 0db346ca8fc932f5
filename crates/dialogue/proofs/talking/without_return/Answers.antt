use Rattle.std.proofs.Common.{List, ℕ, ◌∙◌, ap, refl, Bor}
use Rattle.std.proofs.lemmas.Bool.Decides.{Decides-eqb}
use Rattle.std.proofs.lemmas.Slice.Eq.{strip_suffix_is}
use Rattle.dialogue.proofs.LineLaws.{stripped}
use Rattle.dialogue.proofs.talking.without_return.Goals as goal

pub returns : goal.returns
returns c =
    ap (λ (r : Bor (List ℕ)). r.now) c.unwrap_or.ensures
    ∙ stripped c.args.line.now c.as_slice.result.now c.strip_suffix.result c.args.line refl c.as_slice.ensures
    (strip_suffix_is Decides-eqb c.args.line.now c.as_slice.result.now c.strip_suffix.result c.strip_suffix.ensures.cases)
