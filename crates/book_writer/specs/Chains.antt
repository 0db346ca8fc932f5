-- Substitutions in a file: rows of pushed trees over the row of a shift.
use Rattle.std.specs.Prelude.{◌≡◌, ◌<◌, ◌≤◌, ◌^◌, ℕ, zero, suc, ◌+◌, List, [], ◌∷◌, ◌++◌, length}
use Rattle.trees.specs.Trees.{greatest_shift}
use Rattle.deriv_file.specs.declared.row.Row.{Row}
use Rattle.deriv_file.specs.declared.row.Row.TheVariants as row
use Rattle.deriv_file.specs.Spelling.{newest}

-- a row of the newest version of the rules, whose numbers a file may have
abbrev pub IsSpellable : Row → Type 0
IsSpellable (row.Header v) = v ≡ newest
IsSpellable (row.Var k) = k < 2 ^ 32
IsSpellable (row.Shift n) = n ≤ greatest_shift
IsSpellable _ = Unit {0}

-- the same, of a row that is no root
abbrev pub IsPlain : Row → Type 0
IsPlain (row.Root node) = ⊥
IsPlain r = IsSpellable r

-- a pushed tree: the row of the substitution with it, and the row of the tree
pub record Link : Type 0 where
  pub sub : ℕ
  pub tree : ℕ

-- a link for each tree, the one pushed last first, over the row of a shift
pub record Chain : Type 0 where
  pub links : List Link
  pub base : ℕ
  pub shift : ℕ

abbrev pub first_of : List Link → ℕ → ℕ
first_of [] base = base
first_of (link ∷ links) base = link.sub

-- the row of the substitution
abbrev pub top_of : Chain → ℕ
top_of c = first_of c.links c.base

-- What a row of a book becomes: rows of the file, and where it stands there. A row that is no
-- substitution is the base of its chain, without links.
pub record Spelt : Type 0 where
  pub rows : List Row
  pub chain : Chain

abbrev pub alone : ℕ → Row → Spelt
alone next r = record { rows = r ∷ []; chain = record { links = []; base = next; shift = 0 } }

abbrev pub shifted : ℕ → ℕ → Spelt
shifted next n = record {
  rows = row.Shift n ∷ [];
  chain = record { links = []; base = next; shift = n };
}

-- after these rows, of which the first is row `next`: the tree of row `tree` pushed on the chain
abbrev pub linked : ℕ → Chain → ℕ → Chain
linked sub c tree = record {
  links = record { sub = sub; tree = tree } ∷ c.links;
  base = c.base;
  shift = c.shift;
}

abbrev pub pushed : ℕ → Chain → ℕ → Spelt
pushed next c tree = record { rows = row.Push (top_of c) tree ∷ []; chain = linked next c tree }

-- the chain of these links without the first n of them; past the links the shift grows
abbrev pub cut : ℕ → ℕ → List Link → ℕ → ℕ → Spelt
cut next zero links base shift = record {
  rows = [];
  chain = record { links = links; base = base; shift = shift };
}
cut next (suc n) [] base shift = shifted next (shift + suc n)
cut next (suc n) (link ∷ links) base shift = cut next n links base shift

-- with one tree more: it under the substitution of row `second`, pushed
abbrev pub then_link : ℕ → Link → ℕ → Spelt → Spelt
then_link next link second s =
    let at = next + length s.rows in
    record {
      rows = s.rows ++ row.Instance link.tree second ∷ row.Push (top_of s.chain) at ∷ [];
      chain = linked (at + 1) s.chain at;
    }

-- first a chain of these links, then the substitution of row `second`, where that one without the
-- shift of the first is spelt so
abbrev pub then_links : ℕ → List Link → ℕ → Spelt → Spelt
then_links next [] second start = start
then_links next (link ∷ links) second start =
    then_link next link second (then_links next links second start)

abbrev pub thens : ℕ → Chain → Chain → Spelt
thens next first second =
    then_links next first.links (top_of second)
    (cut next first.shift second.links second.base second.shift)
