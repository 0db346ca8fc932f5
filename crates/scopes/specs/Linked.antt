-- How names are kept, so that they are found by one search.
use Rattle.std.specs.Prelude.{◌≡◌, ℕ, suc, List, [], ◌∷◌, bytes_eq, if◌then◌else◌}
use Rattle.std.specs.Prelude.{Option, Some, None}
use Rattle.translation.specs.Names.{Word}
use Rattle.scopes.specs.declared.names.Binding.{Binding}
use Rattle.scopes.specs.declared.names.Binding.TheVariants as binding
use Rattle.scopes.specs.declared.names.Bound.{Bound}
use Rattle.scopes.specs.declared.names.Entry.{Entry}
use Rattle.scopes.specs.Finding.{Named}

-- the entries, the newest first, as names
abbrev pub named : Entry → Named
named e = record { word = e.name.now; binding = e.bound.binding }

-- how many variables and names of the interval there are, with one more binding
abbrev pub under : Binding → ℕ → ℕ
under binding.Variable depth = suc depth
under binding.Interval depth = suc depth
under (binding.Definition n) depth = depth

abbrev pub depth_of : List Entry → ℕ
depth_of [] = 0
depth_of (e ∷ es) = under e.bound.binding (depth_of es)

-- the newest binding of a word
abbrev pub newest : List Entry → Word → Option Bound
newest [] x = None
newest (e ∷ es) x = if bytes_eq e.name.now x then Some e.bound else newest es x

-- Each entry has the depth outside it, and the binding that it hides.
abbrev pub IsLinked : List Entry → Type 0
IsLinked [] = Unit {0}
IsLinked (e ∷ es) = (e.bound.level ≡ depth_of es) × (e.hidden ≡ newest es e.name.now) × IsLinked es
