-- What a row means that names others, where these mean something.
use Rattle.std.specs.Prelude.{◌≡◌, ◌≤◌, ◌^◌, ℕ, List, [], ◌∷◌, Option}
use Rattle.std.specs.Prelude.{Some, None, IsSome, option_and_then}
use Rattle.trees.specs.declared.kind.PartKind.{PartKind}
use Rattle.trees.specs.declared.kind.PartKind.TheVariants as part
use Rattle.trees.specs.Trees.{Tree, Subst, Var, shift_by, count_of, greatest_shift}
use Rattle.trees.specs.Judgements.{Context, Nil}
use Rattle.trees.specs.Things.{Thing, ATree, ASubst, AContext, Meanings, both, meanings, made}
use Rattle.trees.specs.Things.{instance_of, pushed_on, then_of, with_variable, with_a_name}
use Rattle.trees.specs.Things.{with_a_face}
use Rattle.rows.specs.declared.views.TermRow.{TermRow}
use Rattle.rows.specs.declared.views.TermRow.TheVariants as term
use Rattle.rows.specs.declared.views.SubRow.{SubRow}
use Rattle.rows.specs.declared.views.SubRow.TheVariants as sub
use Rattle.rows.specs.declared.views.CtxRow.{CtxRow}
use Rattle.rows.specs.declared.views.CtxRow.TheVariants as ctx
use Rattle.rows.specs.declared.views.SubSize.{SubSize}
use Rattle.rows.specs.declared.views.Row.{Row}
use Rattle.rows.specs.declared.views.Row.TheVariants as row

abbrev pub IsTree : Option Thing → Type 0
IsTree x = (t : Tree) × (x ≡ Some (ATree t))

abbrev pub IsSubst : Option Thing → Type 0
IsSubst x = (d : Subst) × (x ≡ Some (ASubst d))

abbrev pub IsContext : Option Thing → Type 0
IsContext x = (G : Context) × (x ≡ Some (AContext G))

abbrev pub IsOfKind : PartKind → Option Thing → Type 0
IsOfKind part.Term = IsTree
IsOfKind part.Subst = IsSubst
IsOfKind part.Context = IsContext

abbrev pub term_meaning : Meanings → TermRow → Option Thing
term_meaning f (term.Var k) = Some (ATree (Var k))
term_meaning f (term.Make op kids) = option_and_then (made op) (meanings f kids.now)
term_meaning f (term.Instance t d) = both instance_of (f t.0) (f d.0)

abbrev pub sub_meaning : Meanings → SubRow → Option Thing
sub_meaning f (sub.Shift n) = Some (ASubst (shift_by n))
sub_meaning f (sub.Push d a) = both pushed_on (f d.0) (f a.0)
sub_meaning f (sub.Then d e) = both then_of (f d.0) (f e.0)

abbrev pub ctx_meaning : Meanings → CtxRow → Option Thing
ctx_meaning f ctx.Nil = Some (AContext Nil)
ctx_meaning f (ctx.Var G A) = both with_variable (f G.0) (f A.0)
ctx_meaning f (ctx.Name G) = option_and_then with_a_name (f G.0)
ctx_meaning f (ctx.Face G p) = both with_a_face (f G.0) (f p.0)

-- the rows that a row names
abbrev pub term_names : TermRow → List ℕ
term_names (term.Var k) = []
term_names (term.Make op kids) = kids.now
term_names (term.Instance t d) = t.0 ∷ d.0 ∷ []

abbrev pub sub_names : SubRow → List ℕ
sub_names (sub.Shift n) = []
sub_names (sub.Push d a) = d.0 ∷ a.0 ∷ []
sub_names (sub.Then d e) = d.0 ∷ e.0 ∷ []

abbrev pub ctx_names : CtxRow → List ℕ
ctx_names ctx.Nil = []
ctx_names (ctx.Var G A) = G.0 ∷ A.0 ∷ []
ctx_names (ctx.Name G) = G.0 ∷ []
ctx_names (ctx.Face G p) = G.0 ∷ p.0 ∷ []

-- a number of trees, told where it is below 2^64
abbrev pub IsPushed : ℕ → Option ℕ → Type 0
IsPushed count (Some n) = count ≡ n
IsPushed count None = 2 ^ 64 ≤ count

-- how many trees the substitution pushes, and its shift
abbrev pub IsSizeOf : Option Thing → SubSize → Type 0
IsSizeOf (Some (ASubst d)) size = IsPushed (count_of d.pushed) size.pushed × (d.shift ≡ size.shift)
IsSizeOf _ size = ⊥

-- it is a substitution, and its shift is at most that
abbrev pub ShiftAtMost : ℕ → Option Thing → Type 0
ShiftAtMost most (Some (ASubst d)) = d.shift ≤ most
ShiftAtMost most _ = ⊥

abbrev pub row_meaning : Meanings → Row → Option Thing
row_meaning f (row.Term r) = term_meaning f r
row_meaning f (row.Subst r) = sub_meaning f r
row_meaning f (row.Context r) = ctx_meaning f r

-- a row of a substitution may be made
abbrev pub IsSubFit : Meanings → SubRow → Type 0
IsSubFit f (sub.Shift n) = n ≤ greatest_shift
IsSubFit f (sub.Push d a) = IsSome (both pushed_on (f d.0) (f a.0))
IsSubFit f (sub.Then d e) = ShiftAtMost greatest_shift (f d.0) × ShiftAtMost greatest_shift (f e.0)

-- a row may be made
abbrev pub IsFit : Meanings → Row → Type 0
IsFit f (row.Term r) = IsSome (term_meaning f r)
IsFit f (row.Subst r) = IsSubFit f r
IsFit f (row.Context r) = IsSome (ctx_meaning f r)
