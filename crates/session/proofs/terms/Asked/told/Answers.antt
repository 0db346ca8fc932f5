use Rattle.session.specs.Lines.{spent}
use Rattle.session.proofs.terms.Asked.told.Goals as goal

pub returns-in-Spent : goal.returns-in-Spent
returns-in-Spent c = spent c.in-Spent.at c.spent.ensures
