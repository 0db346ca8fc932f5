use Rattle.std.proofs.Common.{◌+◌, refl, sym, ◌∙◌, ap}
use Rattle.fixed_names.specs.Fixed.{bound}
use Rattle.fixed_names.specs.Scopes.{fixed_in}
use Rattle.fixed_names.specs.Shown.{fixed_by}
use Rattle.fixed_names.proofs.ScopeLaws.{bound-none, bound-bound}
use Rattle.fixed_names.proofs.scopes.Scopes.below.Goals as goal

pub returns-in-Open-clause-fixes : goal.returns-in-Open-clause-fixes
returns-in-Open-clause-fixes c =
    bound-none c.args.by ∙ ap (λ s. bound c.args.by (fixed_in (fixed_by c.args.self.now) s)) (sym c.in-Open.is)

pub returns-in-Node-clause-fixes : goal.returns-in-Node-clause-fixes
returns-in-Node-clause-fixes c =
    sym (bound-bound c.in-Node.depth c.args.by _ (c.in-Node.depth + c.args.by) refl)
    ∙ ap (λ s. bound c.args.by (fixed_in (fixed_by c.args.self.now) s)) (sym c.in-Node.is)
