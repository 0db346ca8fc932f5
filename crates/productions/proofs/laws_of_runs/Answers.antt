use Rattle.productions.proofs.Exact.{module_exact, exp_exact}
use Rattle.productions.proofs.laws_of_runs.Goals as goal

pub returns : goal.returns
returns c = record { of_modules = module_exact; of_expressions = exp_exact }
