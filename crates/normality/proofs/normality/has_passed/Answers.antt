use Rattle.std.proofs.Common.{◌≡◌, true, sym, ◌∙◌, rules}
use Rattle.indexmap.proofs.CallerLemmas.{Contains-list_any}
use Rattle.normality.specs.declared.tests.Part.{Part}
use Rattle.normality.specs.contracts.tests.PartPartialEq.TheImpl.{eq-value}
use Rattle.normality.proofs.normality.has_passed.Goals as goal

equal : (x y : Part) → eq-value.it x y ≡ true → x ≡ y
equal = search rules

pub returns : goal.returns
returns c = λ yes. Contains-list_any eq-value.it equal c.args.passed.now.keys c.args.part (sym c.contains.ensures ∙ yes)
