-- Lists of pairs, each of which stands once.
use Rattle.std.proofs.Common.{◌≡◌, Bool, true, false, if◌then◌else◌, List, [], ◌∷◌, ◌++◌, refl, ◌∙◌, ap}
use Rattle.std.specs.List.{list_any}
use Rattle.indexmap.specs.IndexSet.{insert_key}
use Rattle.indexmap.proofs.CallerLemmas.{Contains-list_any}
use Rattle.compare.specs.Pairs.{Adds, IsThere, IsNew}
use Rattle.compare.specs.declared.pairs.Pair.{Pair}

pub adds : (eq : Pair → Pair → Bool) → ((x y : Pair) → eq x y ≡ true → x ≡ y) → (p : Pair) (old new : List Pair) → new ≡ insert_key eq old p → Adds p old new
adds eq exact p old new e = from (list_any (eq p) old) refl
  where
    from : (b : Bool) → list_any (eq p) old ≡ b → Adds p old new
    from true h = IsThere (Contains-list_any eq exact old p h) (e ∙ ap (λ b. if b then old else old ++ p ∷ []) h)
    from false h = IsNew (e ∙ ap (λ b. if b then old else old ++ p ∷ []) h)
