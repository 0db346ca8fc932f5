use Rattle.trees.specs.Judgements.{Nil}
use Rattle.literal_types.proofs.GrowthLaws.{extends_extends}
use Rattle.behind_tests.proofs.TelescopeLaws.{term_later}
use Rattle.behind_tests.proofs.telescope.applied_to_both.Goals as goal

pub applied_to-requires-in-Some-clause-argument : goal.applied_to-requires-in-Some-clause-argument
applied_to-requires-in-Some-clause-argument c = term_later _ _ c.args.element Nil c.in_ok-family.ensures.extends c.requires.element

pub returns-in_ok-applied_to-in-Some-clause-extends : goal.returns-in_ok-applied_to-in-Some-clause-extends
returns-in_ok-applied_to-in-Some-clause-extends c = extends_extends c.in_ok-family.ensures.extends c.in_ok-applied_to-in-Some.ensures.extends
