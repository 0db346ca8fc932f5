use Rattle.side_conditions.proofs.CombineLaws.{name_reading}
use Rattle.side_conditions.proofs.reading.Reading.of_name.Goals as goal

pub returns-in_ok-zero-in-Kind : goal.returns-in_ok-zero-in-Kind
returns-in_ok-zero-in-Kind c = λ G k e name. (name, λ v. let not = c.in-Kind.is in cc)

pub returns-in_ok-name-in-Value : goal.returns-in_ok-name-in-Value
returns-in_ok-name-in-Value c = λ G k e name. (name, λ v. name_reading G k c.args.level c.in_ok-name-in-Value.field-0 c.in_ok-name-in-Value.ensures e name)
