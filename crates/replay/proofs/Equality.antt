-- Facts on tests.
use Rattle.std.specs.Prelude.{Result, Ok, Err}
use Rattle.std.specs.Result.{OnErr}
use Rattle.std.proofs.Common.{◌≡◌, Bool, true, false, not, IsTrue, ◌↔◌}

-- what `!=` says of `==`

pub differs : (same test : Bool) → test ≡ not same → test ≡ true → same ≡ false
differs true test e t = cc
differs false test e t = cc

pub agrees : (same test : Bool) → test ≡ not same → test ≡ false → same ≡ true
agrees true test e t = cc
agrees false test e t = cc

never : IsTrue false → ⊥
never h = cc

-- a test that fails refutes what would make it pass
pub refuted : (b : Bool) (X : Type 0) → (X → IsTrue b) → b ≡ false → IsTrue false ↔ X
refuted true X f e = cc
refuted false X f e = (λ h. absurd (never h), f)

-- out of memory
pub on_err : {T E P : Type 0} (r : Result T E) → P → OnErr r P
on_err (Ok x) p = tt
on_err (Err e) p = p
