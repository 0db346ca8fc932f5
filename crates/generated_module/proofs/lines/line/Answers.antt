use Rattle.std.proofs.Common.{sym}
use Rattle.generated_module.proofs.LineLaws.{of_composition, of_number, of_path}
use Rattle.generated_module.proofs.lines.line.Goals as goal

pub returns-in_ok-format-in-Some : goal.returns-in_ok-format-in-Some
returns-in_ok-format-in-Some c = of_number c.args.k c.in-Some.before _ c.in-0.is c.in-Some.ensures.0 c.in-Some.ensures.1 c.in_ok-format-in-Some.ensures.ok

pub returns-in_ok-format-in-1 : goal.returns-in_ok-format-in-1
returns-in_ok-format-in-1 c = of_composition c.args.k _ c.in-1.is c.in_ok-format-in-1.ensures.ok

pub returns-in_ok-format-in-2 : goal.returns-in_ok-format-in-2
returns-in_ok-format-in-2 c = of_path c.args.k _ c.in-2.is c.in_ok-format-in-2.ensures.ok
