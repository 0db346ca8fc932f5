-- Trees by their operators, and what is done to them.
use Rattle.std.specs.Prelude.{[], ◌∷◌}
use Rattle.trees.specs.declared.op.Op.TheVariants as op
use Rattle.trees.specs.Trees.{Tree, Var, Make, trees_of, apply, apply_under, up}

-- the innermost variable or name
abbrev pub innermost : Tree
innermost = Var 0

-- `A+`
abbrev pub lifted : Tree → Tree
lifted A = apply A up

-- the same of a tree over a name, which stays innermost
abbrev pub lifted_line : Tree → Tree
lifted_line A = apply_under A 1 up

-- formulas and faces

abbrev pub i0 : Tree
i0 = Make op.I0 (trees_of [])

abbrev pub i1 : Tree
i1 = Make op.I1 (trees_of [])

abbrev pub neg : Tree → Tree
neg r = Make op.Neg (trees_of (r ∷ []))

abbrev pub min : Tree → Tree → Tree
min r s = Make op.Min (trees_of (r ∷ s ∷ []))

abbrev pub max : Tree → Tree → Tree
max r s = Make op.Max (trees_of (r ∷ s ∷ []))

abbrev pub f0 : Tree
f0 = Make op.F0 (trees_of [])

abbrev pub f1 : Tree
f1 = Make op.F1 (trees_of [])

abbrev pub eq0 : Tree → Tree
eq0 r = Make op.Eq0 (trees_of (r ∷ []))

abbrev pub eq1 : Tree → Tree
eq1 r = Make op.Eq1 (trees_of (r ∷ []))

abbrev pub meet : Tree → Tree → Tree
meet p q = Make op.Meet (trees_of (p ∷ q ∷ []))

abbrev pub join : Tree → Tree → Tree
join p q = Make op.Join (trees_of (p ∷ q ∷ []))

-- types and terms

abbrev pub universe : Tree
universe = Make op.U (trees_of [])

abbrev pub pi : Tree → Tree → Tree
pi A B = Make op.Pi (trees_of (A ∷ B ∷ []))

abbrev pub lam : Tree → Tree → Tree
lam A b = Make op.Lam (trees_of (A ∷ b ∷ []))

abbrev pub app : Tree → Tree → Tree
app f a = Make op.App (trees_of (f ∷ a ∷ []))

abbrev pub sig : Tree → Tree → Tree
sig A B = Make op.Sig (trees_of (A ∷ B ∷ []))

abbrev pub pair : Tree → Tree → Tree
pair a b = Make op.Pair (trees_of (a ∷ b ∷ []))

abbrev pub fst : Tree → Tree
fst c = Make op.Fst (trees_of (c ∷ []))

abbrev pub snd : Tree → Tree
snd c = Make op.Snd (trees_of (c ∷ []))

abbrev pub pathp : Tree → Tree → Tree → Tree
pathp A a b = Make op.PathP (trees_of (A ∷ a ∷ b ∷ []))

abbrev pub plam : Tree → Tree
plam b = Make op.PLam (trees_of (b ∷ []))

abbrev pub papp : Tree → Tree → Tree
papp c r = Make op.PApp (trees_of (c ∷ r ∷ []))

abbrev pub nat : Tree
nat = Make op.Nat (trees_of [])

abbrev pub zero : Tree
zero = Make op.Zero (trees_of [])

abbrev pub suc : Tree → Tree
suc n = Make op.Suc (trees_of (n ∷ []))

-- `\(x : nat) -> suc x`
abbrev pub successor : Tree
successor = lam nat (suc innermost)

abbrev pub natrec : Tree → Tree → Tree → Tree → Tree
natrec P a b n = Make op.NatRec (trees_of (P ∷ a ∷ b ∷ n ∷ []))

abbrev pub sys : Tree → Tree → Tree → Tree → Tree
sys p q a b = Make op.Sys (trees_of (p ∷ q ∷ a ∷ b ∷ []))

abbrev pub empty : Tree
empty = Make op.Empty (trees_of [])

abbrev pub comp : Tree → Tree → Tree → Tree → Tree
comp A p b a = Make op.Comp (trees_of (A ∷ p ∷ b ∷ a ∷ []))

abbrev pub glue_type : Tree → Tree → Tree → Tree → Tree
glue_type A p T w = Make op.GlueType (trees_of (A ∷ p ∷ T ∷ w ∷ []))

abbrev pub glue : Tree → Tree → Tree → Tree
glue p c a = Make op.Glue (trees_of (p ∷ c ∷ a ∷ []))

abbrev pub unglue : Tree → Tree → Tree → Tree → Tree
unglue p T w b = Make op.Unglue (trees_of (p ∷ T ∷ w ∷ b ∷ []))
