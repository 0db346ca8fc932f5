-- Which trees are variables.
use Rattle.std.specs.Prelude.{◌≡◌, ℕ, ◌+◌, List, [], ◌∷◌, Option, Some, None}
use Rattle.trees.specs.Things.{Meanings}
use Rattle.rows.specs.declared.views.SubId.{SubId}
use Rattle.rows.specs.declared.views.TermId.{TermId}
use Rattle.rows.specs.Views.{IsSubst, IsTree}
use Rattle.closures.specs.Environments.{Waiting, waiting}
use Rattle.closures.specs.Closures.{variable_meaning, under, delays}
use Rattle.closures.specs.declared.environments.Delayed.TheVariants.{Under}
use Rattle.closures.specs.declared.notes.Source.{Source}
use Rattle.closures.specs.declared.notes.Source.TheVariants as source
use Rattle.closures.specs.declared.notes.Notes.{Notes}
use Rattle.closures.specs.Notes.{noted}
use Rattle.closures.specs.declared.chains.Wait.{Wait}
use Rattle.closures.specs.declared.chains.Wait.TheVariants as wait
use Rattle.closures.specs.declared.chains.Sent.{Sent}
use Rattle.closures.specs.declared.chains.Sent.TheVariants as sent

-- the substitution sends the variable of one index to that of another, under any binders, before
-- whatever waits after it
pub record Sends (f : Meanings) (row : SubId) (i j : ℕ) : Type 0 where
  pub sends : (n : ℕ) (ws : List Waiting)
      → variable_meaning f (waiting n (Under row) ∷ ws) (n + i) ≡ variable_meaning f ws (n + j)

-- the tree of the row is the variable of an index, whatever waits before it
pub record IsVariable (f : Meanings) (tree : TermId) (j : ℕ) : Type 0 where
  pub is : (ws : List Waiting) → under (f tree.0) (delays f ws) ≡ variable_meaning f ws j

abbrev pub Becomes : Meanings → Source → ℕ → Type 0
Becomes f (source.Entry row i) j = Sends f row i j
Becomes f (source.Tree tree) j = IsVariable f tree j

-- the rows are those of a substitution and of a tree
abbrev pub IsSource : Meanings → Source → Type 0
IsSource f (source.Entry row i) = IsSubst (f row.0)
IsSource f (source.Tree tree) = IsTree (f tree.0)

-- what was noted is right
abbrev pub AreRight : Meanings → Notes → Type 0
AreRight f notes = (s : Source) (j : ℕ) → noted notes s ≡ Some j → Becomes f s j

-- once a variable is known to be this one, what waits, the next first, tells which one the root is
abbrev pub Ends : Meanings → Source → List Wait → ℕ → Type 0
Ends f root [] j = Becomes f root j
Ends f root (wait.Next row ∷ ws) j =
    IsSubst (f row.0) × ((k : ℕ) → Sends f row j k → Ends f root ws k)
Ends f root (wait.Note m ∷ ws) j = Becomes f m j × Ends f root ws j

-- and so once it is known which variable this is
pub record Leads (f : Meanings) (root : Source) (ws : List Wait) (at : Source) : Type 0 where
  pub stands : IsSource f at
  pub ends : (j : ℕ) → Becomes f at j → Ends f root ws j

-- what is known of a tree, where these wait before and after
abbrev pub SentFrom : Meanings → Source → List Wait → List Wait → Source → Sent → Type 0
SentFrom f root old new at (sent.To j) = (new ≡ old) × Becomes f at j
SentFrom f root old new at (sent.On next) = Leads f root old at → Leads f root new next
SentFrom f root old new at sent.Unknown = Unit {0}

-- what is known of the root, where these wait
abbrev pub SentBack : Meanings → Source → List Wait → Sent → Type 0
SentBack f root new (sent.To j) = Becomes f root j
SentBack f root new (sent.On next) = Leads f root new next
SentBack f root new sent.Unknown = Unit {0}

abbrev pub IsSent : Meanings → Source → Option ℕ → Type 0
IsSent f m None = Unit {0}
IsSent f m (Some j) = Becomes f m j
