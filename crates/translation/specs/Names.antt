-- What the names of a text stand for.
use Rattle.std.specs.Prelude.{ℕ, suc, Bool, true, false, List, [], ◌∷◌, codes, bytes_eq}
use Rattle.std.specs.Prelude.{if◌then◌else◌}
use Rattle.trees.specs.Trees.{Tree}
use Rattle.translation.specs.declared.fault.Cause.TheVariants.{Unbound, NameKind}
use Rattle.translation.specs.declared.built_in.BuiltIn.{BuiltIn}
use Rattle.translation.specs.declared.built_in.BuiltIn.TheVariants as built_in
use Rattle.translation.specs.Terms.{innermost, lifted, universe, nat, zero, successor}
use Rattle.translation.specs.Scopes.{Variable, Interval, Face, Definition, Scope}
use Rattle.translation.specs.Translated.{Translated, done, refused}

-- a name is its bytes
abbrev pub Word : Type 0
Word = List ℕ

pub data Meaning : Type 0 where
  -- a variable, or the body of a definition
  Term : Tree → Meaning
  -- a name of the interval, by its index
  Index : ℕ → Meaning
  BuiltInName : BuiltIn → Meaning
  Nothing : Meaning

-- the same under one more variable or name
abbrev pub deeper : Meaning → Meaning
deeper (Term t) = Term (lifted t)
deeper (Index k) = Index (suc k)
deeper (BuiltInName b) = BuiltInName b
deeper Nothing = Nothing

-- the outermost scope
abbrev pub built_in_name : Word → Meaning
built_in_name x =
    if bytes_eq x (codes "nat") then BuiltInName built_in.Nat
    else if bytes_eq x (codes "zero") then BuiltInName built_in.Zero
    else if bytes_eq x (codes "suc") then BuiltInName built_in.Suc
    else if bytes_eq x (codes "natrec") then BuiltInName built_in.NatRec
    else Nothing

-- the nearest binder or definition of that name
abbrev pub nearest : Scope Word → Word → Meaning
nearest [] x = built_in_name x
nearest (Variable y A ∷ G) x = if bytes_eq y x then Term innermost else deeper (nearest G x)
nearest (Interval y ∷ G) x = if bytes_eq y x then Index 0 else deeper (nearest G x)
nearest (Face p ∷ G) x = nearest G x
nearest (Definition y t ∷ G) x = if bytes_eq y x then Term t else nearest G x

abbrev pub is_nameless : Word → Bool
is_nameless x = bytes_eq x (codes "_")

-- `_` binds without a name
abbrev pub meaning : Scope Word → Word → Meaning
meaning G x = if is_nameless x then Nothing else nearest G x

-- the name at a place where a term is wanted
abbrev pub as_term : ℕ → Meaning → Translated Word Tree
as_term at (Term t) = done t
as_term at (Index k) = refused at NameKind universe
as_term at (BuiltInName built_in.Nat) = done nat
as_term at (BuiltInName built_in.Zero) = done zero
as_term at (BuiltInName built_in.Suc) = done successor
as_term at (BuiltInName built_in.NatRec) = refused at NameKind universe
as_term at Nothing = refused at Unbound universe

-- the name at a place where a name of the interval is wanted
abbrev pub as_name : ℕ → Meaning → Translated Word ℕ
as_name at (Term t) = refused at NameKind 0
as_name at (Index k) = done k
as_name at (BuiltInName b) = refused at NameKind 0
as_name at Nothing = refused at Unbound 0

abbrev pub is_built_in_nat : Meaning → Bool
is_built_in_nat (BuiltInName built_in.Nat) = true
is_built_in_nat _ = false
