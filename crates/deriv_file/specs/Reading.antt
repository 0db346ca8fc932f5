-- Where a reader of rows stands.
use Rattle.std.specs.Prelude.{ℕ, List}

-- the bytes that are left, the number of the row that comes, and the version of the rules there
pub record Reading : Type 0 where
  pub rest : List ℕ
  pub at : ℕ
  pub version : ℕ
