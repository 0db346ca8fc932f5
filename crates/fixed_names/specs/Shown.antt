-- What contracts see of scopes.
use Rattle.std.specs.Prelude.{List}
use Rattle.fixed_names.specs.Fixed.{Fixed}
use Rattle.fixed_names.specs.Scopes.{all_fixed}
use Rattle.fixed_names.specs.declared.scopes.Scopes.{Scopes}

-- what each node fixes
abbrev pub fixed_by : Scopes → List Fixed
fixed_by s = all_fixed s.nodes.keys
