-- What contracts see of environments.
use Rattle.std.specs.Prelude.{List}
use Rattle.closures.specs.Environments.{Waiting, lists_of}
use Rattle.closures.specs.declared.environments.Environments.{Environments}

-- the list of each node
abbrev pub lists : Environments → List (List Waiting)
lists e = lists_of e.nodes.keys
