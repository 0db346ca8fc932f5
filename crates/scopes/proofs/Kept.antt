-- The newest binding of a word, with the depth outside it, says what the word stands for.
use Rattle.std.proofs.Common.{◌≡◌, ◌-◌, ◌<◌, ℕ, suc, true, false, List, [], ◌∷◌, map, Option, Some, None, refl, ap, ◌∙◌, arith, subst, bytes_eq, if◌then◌else◌}
use Rattle.translation.specs.Names.{Word, Meaning, Term, Index, BuiltInName, Nothing, built_in_name, is_nameless}
use Rattle.scopes.specs.declared.names.Binding.{Binding}
use Rattle.scopes.specs.declared.names.Binding.TheVariants as binding
use Rattle.scopes.specs.declared.names.Bound.{Bound}
use Rattle.scopes.specs.declared.names.Entry.{Entry}
use Rattle.scopes.specs.declared.names.Found.{Found}
use Rattle.scopes.specs.declared.names.Found.TheVariants as found
use Rattle.scopes.specs.Finding.{nearest, find, deeper, past, bound, outermost}
use Rattle.scopes.specs.Linked.{named, under, depth_of, newest, IsLinked}

-- a binding that was made at that level, seen at the depth
abbrev pub seen : ℕ → ℕ → Binding → Found
seen depth level binding.Variable = found.Variable (depth - 1 - level)
seen depth level binding.Interval = found.Interval (depth - 1 - level)
seen depth level (binding.Definition n) = found.Definition n

abbrev pub found_at : ℕ → Word → Option Bound → Found
found_at depth x None = outermost (built_in_name x)
found_at depth x (Some b) = seen depth b.level b.binding

abbrev pub IsBelow : ℕ → ℕ → Binding → Type 0
IsBelow level depth binding.Variable = level < depth
IsBelow level depth binding.Interval = level < depth
IsBelow level depth (binding.Definition n) = Unit {0}

below_under : (c b : Binding) (level depth : ℕ) → IsBelow level depth b → IsBelow level (under c depth) b
below_under binding.Variable binding.Variable l d h = omega arith
below_under binding.Variable binding.Interval l d h = omega arith
below_under binding.Variable (binding.Definition n) l d h = tt
below_under binding.Interval binding.Variable l d h = omega arith
below_under binding.Interval binding.Interval l d h = omega arith
below_under binding.Interval (binding.Definition n) l d h = tt
below_under (binding.Definition m) b l d h = h

below_itself : (b : Binding) (level depth : ℕ) → level ≡ depth → IsBelow level (under b depth) b
below_itself binding.Variable l d e = omega arith
below_itself binding.Interval l d e = omega arith
below_itself (binding.Definition n) l d e = tt

pub newest_below : (es : List Entry) (x : Word) (b : Bound) → IsLinked es → newest es x ≡ Some b → IsBelow b.level (depth_of es) b.binding
newest_below [] x b h e = absurd (cc)
newest_below (n ∷ ns) x b h was =
    (elim (bytes_eq n.name.now x) as (λ v. (if v then Some n.bound else newest ns x) ≡ Some b → IsBelow b.level (under n.bound.binding (depth_of ns)) b.binding) [
      | true ↦ λ e. let same : n.bound ≡ b = cc in subst (λ c. IsBelow c.level (under n.bound.binding (depth_of ns)) c.binding) same (below_itself n.bound.binding n.bound.level (depth_of ns) h.0)
      | false ↦ λ e. below_under n.bound.binding b.binding b.level (depth_of ns) (newest_below ns x b h.2 e)
    ]) was

seen_itself : (b : Binding) (level depth : ℕ) → level ≡ depth → bound b ≡ seen (under b depth) level b
seen_itself binding.Variable l d e = let z : 0 ≡ suc d - 1 - l = omega arith in ap found.Variable z
seen_itself binding.Interval l d e = let z : 0 ≡ suc d - 1 - l = omega arith in ap found.Interval z
seen_itself (binding.Definition n) l d e = refl

seen_deeper : (b : Binding) (level depth : ℕ) → IsBelow level depth b → deeper (seen depth level b) ≡ seen (suc depth) level b
seen_deeper binding.Variable l d h = let z : suc (d - 1 - l) ≡ suc d - 1 - l = omega arith in ap found.Variable z
seen_deeper binding.Interval l d h = let z : suc (d - 1 - l) ≡ suc d - 1 - l = omega arith in ap found.Interval z
seen_deeper (binding.Definition n) l d h = refl

seen_past : (c b : Binding) (level depth : ℕ) → IsBelow level depth b → past c (seen depth level b) ≡ seen (under c depth) level b
seen_past binding.Variable b l d h = seen_deeper b l d h
seen_past binding.Interval b l d h = seen_deeper b l d h
seen_past (binding.Definition n) b l d h = refl

outermost_past : (c : Binding) (m : Meaning) → past c (outermost m) ≡ outermost m
outermost_past binding.Variable (Term t) = refl
outermost_past binding.Variable (Index k) = refl
outermost_past binding.Variable (BuiltInName b) = refl
outermost_past binding.Variable Nothing = refl
outermost_past binding.Interval (Term t) = refl
outermost_past binding.Interval (Index k) = refl
outermost_past binding.Interval (BuiltInName b) = refl
outermost_past binding.Interval Nothing = refl
outermost_past (binding.Definition n) m = refl

found_past : (c : Binding) (depth : ℕ) (x : Word) (o : Option Bound) → ((b : Bound) → o ≡ Some b → IsBelow b.level depth b.binding)
    → past c (found_at depth x o) ≡ found_at (under c depth) x o
found_past c d x None h = outermost_past c (built_in_name x)
found_past c d x (Some b) h = seen_past c b.binding b.level d (h b refl)

pub finds : (es : List Entry) (x : Word) → IsLinked es → nearest (map named es) x ≡ found_at (depth_of es) x (newest es x)
finds [] x h = refl
finds (e ∷ es) x h =
    elim (bytes_eq e.name.now x) as (λ v. (if v then bound e.bound.binding else past e.bound.binding (nearest (map named es) x)) ≡ found_at (under e.bound.binding (depth_of es)) x (if v then Some e.bound else newest es x)) [
      | true ↦ seen_itself e.bound.binding e.bound.level (depth_of es) h.0
      | false ↦ ap (past e.bound.binding) (finds es x h.2) ∙ found_past e.bound.binding (depth_of es) x (newest es x) (λ b. newest_below es x b h.2)
    ]

-- what the kept binding of a word says

pub found_bound : (es : List Entry) (x : Word) (b : Bound) → IsLinked es → is_nameless x ≡ false → newest es x ≡ Some b
    → find (map named es) x ≡ seen (depth_of es) b.level b.binding
found_bound es x b h plain e = rw plain (finds es x h ∙ ap (found_at (depth_of es) x) e)

pub found_none : (es : List Entry) (x : Word) → IsLinked es → is_nameless x ≡ false → newest es x ≡ None
    → find (map named es) x ≡ outermost (built_in_name x)
found_none es x h plain e = rw plain (finds es x h ∙ ap (found_at (depth_of es) x) e)
