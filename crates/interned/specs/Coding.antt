-- What a row of words means.
use Rattle.std.specs.Prelude.{ℕ, ◌+◌, ◌*◌, ◌^◌, ◌≤◌, nat_lt, nat_le, cond, List, [], ◌∷◌, length}
use Rattle.std.specs.Prelude.{Option, Some, None, option_and_then}
use Rattle.trees.specs.Trees.{Var, shift_by, greatest_shift}
use Rattle.trees.specs.Judgements.{Nil}
use Rattle.trees.specs.Things.{Thing, ATree, ASubst, AContext, Meanings, both, meanings, made}
use Rattle.trees.specs.Things.{instance_of, pushed_on, then_of, with_variable, with_a_name}
use Rattle.trees.specs.Things.{with_a_face}
use Rattle.rows.specs.declared.views.TermRow.{TermRow}
use Rattle.rows.specs.declared.views.TermRow.TheVariants as term
use Rattle.rows.specs.declared.views.SubRow.{SubRow}
use Rattle.rows.specs.declared.views.SubRow.TheVariants as sub
use Rattle.interned.specs.declared.heads.Head.{Head}
use Rattle.interned.specs.declared.heads.Head.TheVariants as head
use Rattle.interned.specs.Heads.{head_coded}

-- What a head means with the cells behind it. Those of a substitution begin with its size, which is
-- three of them.
abbrev pub thing_after : Meanings → Head → List ℕ → Option Thing
thing_after f head.Var (k ∷ []) = cond (nat_lt k (2 ^ 32)) (Some (ATree (Var k))) None
thing_after f head.Instance (t ∷ d ∷ []) = both instance_of (f t) (f d)
thing_after f head.Shift (high ∷ low ∷ shift ∷ n ∷ []) =
    cond (nat_le n greatest_shift) (Some (ASubst (shift_by n))) None
thing_after f head.Push (high ∷ low ∷ shift ∷ d ∷ a ∷ []) = both pushed_on (f d) (f a)
thing_after f head.Then (high ∷ low ∷ shift ∷ d ∷ e ∷ []) = both then_of (f d) (f e)
thing_after f head.CtxNil [] = Some (AContext Nil)
thing_after f head.CtxVar (G ∷ A ∷ []) = both with_variable (f G) (f A)
thing_after f head.CtxName (G ∷ []) = option_and_then with_a_name (f G)
thing_after f head.CtxFace (G ∷ p ∷ []) = both with_a_face (f G) (f p)
thing_after f (head.Make op) kids = option_and_then (made op) (meanings f kids)
thing_after f _ _ = None

-- what words mean, where rows mean these things
abbrev pub thing_coded : Meanings → List ℕ → Option Thing
thing_coded f [] = None
thing_coded f (word ∷ cells) =
    option_and_then (λ h. thing_after f h cells) (head_coded (word ∷ cells))

-- how many trees a substitution pushes, and its shift, as its words say
abbrev pub pushed_coded : List ℕ → ℕ
pushed_coded (word ∷ high ∷ low ∷ rest) = high * 2 ^ 64 + low
pushed_coded _ = 0

abbrev pub shift_coded : List ℕ → ℕ
shift_coded (word ∷ high ∷ low ∷ shift ∷ rest) = shift
shift_coded _ = 0

-- what can be coded

abbrev pub IsTermFit : TermRow → Type 0
IsTermFit (term.Make op kids) = length kids.now ≤ 7
IsTermFit _ = Unit {0}

abbrev pub IsShiftFit : SubRow → Type 0
IsShiftFit (sub.Shift n) = n ≤ greatest_shift
IsShiftFit _ = Unit {0}
