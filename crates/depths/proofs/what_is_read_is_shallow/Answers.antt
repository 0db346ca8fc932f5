use Rattle.depths.proofs.DepthLaws.{module-fits, whole_exp-fits}
use Rattle.depths.proofs.what_is_read_is_shallow.Goals as goal

pub returns : goal.returns
returns c = record { modules = λ ts m q is. module-fits is; expressions = λ ts e q is. whole_exp-fits is }
