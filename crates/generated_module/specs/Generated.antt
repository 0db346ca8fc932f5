-- The text of generated modules.
use Rattle.std.specs.Prelude.{ℕ, zero, suc, ◌-◌, ◌%◌, ◌==◌, List, [], ◌++◌, codes, decimal}
use Rattle.std.specs.Prelude.{if◌then◌else◌}

-- a definition is `d` with its number; a number is followed by what comes next
abbrev pub d : ℕ → List ℕ → List ℕ
d k next = codes "d" ++ (decimal k ++ next)

abbrev pub number : ℕ → List ℕ
number k =
    if k == 0 then d k (codes " : nat = zero\n")
    else d k (codes " : nat = suc " ++ d (k - 4) (codes "\n"))

abbrev pub composition : ℕ → List ℕ
composition k = d k (codes " : nat = comp (<_> nat) (suc " ++ d (k - 1) (codes ") []\n"))

abbrev pub path : ℕ → List ℕ
path k =
    d k (codes " : PathP (<_> nat) " ++ d (k - 2) (codes " " ++ d (k - 2) (codes " = <_> "
    ++ d (k - 2) (codes "\n"))))

abbrev pub pair : ℕ → List ℕ
pair k =
    d k (codes " : (_ : nat) * nat = (" ++ d (k - 2) (codes "," ++ d (k - 3) (codes ")\n")))

-- they come in turn
abbrev pub line : ℕ → List ℕ
line k =
    if k % 4 == 0 then number k
    else if k % 4 == 1 then composition k
    else if k % 4 == 2 then path k
    else pair k

abbrev pub lines : ℕ → List ℕ
lines zero = []
lines (suc k) = lines k ++ line k

-- the module of so many definitions
abbrev pub generated : ℕ → List ℕ
generated size = codes "module Gen where\n" ++ lines size
