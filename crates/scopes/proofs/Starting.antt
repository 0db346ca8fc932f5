-- The names of other modules stand for the same in the text and in the code.
use Rattle.std.proofs.Common.{◌≡◌, ℕ, Bool, true, false, List, [], ◌∷◌, map, refl, sym, ◌∙◌, bytes_eq, codes, if◌then◌else◌}
use Rattle.trees.specs.Judgements.{Nil}
use Rattle.translation.specs.Scopes.{Scope, Definition, context_of}
use Rattle.translation.specs.Names.{Word, Meaning, Term, BuiltInName, Nothing, nearest as nearest_meaning, built_in_name}
use Rattle.translation.specs.declared.built_in.BuiltIn.{BuiltIn}
use Rattle.translation.specs.declared.built_in.BuiltIn.TheVariants as builtin
use Rattle.codes.specs.Codes.{body_of}
use Rattle.scopes.specs.declared.names.Found.TheVariants as found
use Rattle.scopes.specs.declared.scope.ScopeName.{ScopeName}
use Rattle.scopes.specs.Finding.{nearest, outermost}
use Rattle.scopes.specs.Steps.{Progress, Agree, meant, AreEarlier, named_of}

-- a word that stands for something built in, or for nothing
IsOutermost : Scope ℕ → Meaning → Type 0
IsOutermost H m = m ≡ meant H (outermost m)

outermost_if : (H : Scope ℕ) (v : Bool) (b : BuiltIn) (m : Meaning) → IsOutermost H m → IsOutermost H (if v then BuiltInName b else m)
unfolding IsOutermost
outermost_if H true b m h = refl
outermost_if H false b m h = h

built_in : (H : Scope ℕ) (x : Word) → IsOutermost H (built_in_name x)
unfolding IsOutermost
built_in H x =
    let last = if bytes_eq x (codes "natrec") then BuiltInName builtin.NatRec else Nothing in
    let third = if bytes_eq x (codes "suc") then BuiltInName builtin.Suc else last in
    let second = if bytes_eq x (codes "zero") then BuiltInName builtin.Zero else third in
    outermost_if H (bytes_eq x (codes "nat")) builtin.Nat second
    (outermost_if H (bytes_eq x (codes "zero")) builtin.Zero third
    (outermost_if H (bytes_eq x (codes "suc")) builtin.Suc last
    (outermost_if H (bytes_eq x (codes "natrec")) builtin.NatRec Nothing refl)))

module _ (H : Scope ℕ) where
  -- each name with the body that its number has
  spelt : List ScopeName → Scope Word
  spelt = map (λ n. Definition n.name (body_of H n.def))

  same_words : (ns : List ScopeName) (x : Word) → nearest_meaning (spelt ns) x ≡ meant H (nearest (map named_of ns) x)
  unfolding spelt IsOutermost
  same_words [] x = built_in H x
  same_words (n ∷ ns) x =
      elim (bytes_eq n.name x) as (λ v. (if v then Term (body_of H n.def) else nearest_meaning (spelt ns) x) ≡ meant H (if v then found.Definition n.def else nearest (map named_of ns) x)) [
        | true ↦ refl
        | false ↦ same_words ns x
      ]

  no_context : (ns : List ScopeName) → context_of (spelt ns) ≡ Nil
  unfolding spelt
  no_context [] = refl
  no_context (n ∷ ns) = no_context ns

  pub agree_start : context_of H ≡ Nil → (ns : List ScopeName) (p : Progress) → AreEarlier p.next (map named_of ns)
      → Agree (record { names = map named_of ns; so_far = p }) (map (λ n. Definition n.name (body_of H n.def)) ns) H
  unfolding spelt
  agree_start top ns p h = record {
    contexts = top ∙ sym (no_context ns);
    words = same_words ns;
    definitions = h;
  }
