use Rattle.std.proofs.Common.{◌≡◌, ℕ, Bool, List, ap, sym, ◌∙◌, subst, reverse, ◌∷◌, None, IsSome, nat_eq, refl}
use Rattle.std.specs.Cmp.Lexicographic.{pointwise}
use Rattle.std.specs.Borrow.{Bor}
use Rattle.std.specs.HashMap.{get}
use Rattle.std.specs.Option.{option_copied_mut, option_flatten}
use Rattle.scopes.specs.Linked.{newest, IsLinked}
use Rattle.scopes.proofs.Unbinding.{put_back, newest_itself, not_none, reversed}
use Rattle.scopes.proofs.names.Names.unbind.Goals as goal
use Rattle.scopes.proofs.names.Names.unbind.Goals.{in-Some-get_mut, in_default-get_mut}

pub invariant_of-self-2 : goal.invariant_of-self-2
invariant_of-self-2 c =
    let es = reverse c.pop.new.self.items in
    let e = c.in-Some.entry in
    let order : reverse c.self.inside.entries.items ≡ e ∷ es = reversed c.self.inside.entries.items c.pop.new.self.items e c.in-Some.ensures.items in
    let linked : IsLinked (e ∷ es) = subst IsLinked order c.self.invariant.1 in
    let R : Bor (List ℕ) → Bor (List ℕ) → Bool = λ x y. pointwise nat_eq x.now y.now in
    let kept : (x : Bor (List ℕ)) → option_flatten (get R c.self.inside.newest x) ≡ newest (e ∷ es) x.now = λ x. c.self.invariant.2 x ∙ ap (λ l. newest l x.now) order in
    elim c.match-get_mut.branch [
      | in-Some-get_mut w ↦
          let found = subst IsSome c.get_mut.ensures.value (subst (λ r. IsSome (option_copied_mut r)) (sym w.in-Some-get_mut.is) refl) in
          rw w.self-inside-is (linked.0, linked.2, put_back es e (get R c.self.inside.newest) (get R (c.get_mut.follows.lender e.hidden)) kept linked.1 ((c.get_mut.follows.holds e.hidden).3 found).0)
      | in_default-get_mut w ↦
          let none : get R c.self.inside.newest e.name ≡ None = sym c.get_mut.ensures.value ∙ ap option_copied_mut w.in_default-get_mut.is in
          absurd (not_none (ap option_flatten (sym none) ∙ kept e.name ∙ newest_itself es e))
    ]
