-- What the names in scope stand for.
use Rattle.std.specs.Prelude.{suc, List, [], ◌∷◌, bytes_eq, if◌then◌else◌}
use Rattle.translation.specs.Names.{Word, Meaning, BuiltInName, built_in_name, is_nameless}
use Rattle.scopes.specs.declared.names.Binding.{Binding}
use Rattle.scopes.specs.declared.names.Binding.TheVariants as binding
use Rattle.scopes.specs.declared.names.Found.{Found}
use Rattle.scopes.specs.declared.names.Found.TheVariants as found

-- a name that is bound
pub record Named : Type 0 where
  pub word : Word
  pub binding : Binding

-- the same under one more variable or name of the interval
abbrev pub deeper : Found → Found
deeper (found.Variable k) = found.Variable (suc k)
deeper (found.Interval k) = found.Interval (suc k)
deeper (found.Definition n) = found.Definition n
deeper (found.BuiltIn b) = found.BuiltIn b
deeper found.Nothing = found.Nothing

abbrev pub bound : Binding → Found
bound binding.Variable = found.Variable 0
bound binding.Interval = found.Interval 0
bound (binding.Definition n) = found.Definition n

-- what was found outside a binding
abbrev pub past : Binding → Found → Found
past binding.Variable outside = deeper outside
past binding.Interval outside = deeper outside
past (binding.Definition n) outside = outside

abbrev pub outermost : Meaning → Found
outermost (BuiltInName b) = found.BuiltIn b
outermost _ = found.Nothing

-- what a word stands for among the names in scope, the innermost first
abbrev pub nearest : List Named → Word → Found
nearest [] x = outermost (built_in_name x)
nearest (n ∷ ns) x = if bytes_eq n.word x then bound n.binding else past n.binding (nearest ns x)

-- `_` stands for nothing
abbrev pub find : List Named → Word → Found
find ns x = if is_nameless x then found.Nothing else nearest ns x
