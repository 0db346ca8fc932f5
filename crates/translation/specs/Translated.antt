-- What a text is translated to.
use Rattle.std.specs.Prelude.{◌≡◌, ◌&&◌, ◌||◌, ◌==◌, ℕ, Bool, List, [], ◌∷◌, ◌++◌}
use Rattle.std.specs.Prelude.{nat_lt, if◌then◌else◌, Option, Some, None}
use Rattle.trees.specs.Trees.{Tree}
use Rattle.trees.specs.Judgements.{Context, Judgement}
use Rattle.trees.specs.Language.{Ty, Tm}
use Rattle.translation.specs.declared.fault.Cause.{Cause}
use Rattle.translation.specs.declared.fault.Cause.TheVariants as cause
use Rattle.translation.specs.declared.fault.Refusal.{Refusal}
use Rattle.translation.specs.declared.fault.ScopeFault.{ScopeFault}
use Rattle.translation.specs.declared.fault.ScopeFault.TheVariants.{Unbound, Twice, NameKind}
use Rattle.translation.specs.declared.fault.ScopeFault.TheVariants.{GlueSide, Memory}

-- the order of causes at one place
abbrev pub rank_of : Cause → ℕ
rank_of cause.Unbound = 0
rank_of cause.Twice = 1
rank_of cause.NameKind = 2
rank_of cause.GlueSide = 3

abbrev pub is_before : Refusal → Refusal → Bool
is_before a b = nat_lt a.at b.at || ((a.at == b.at) && nat_lt (rank_of a.cause) (rank_of b.cause))

-- which of two refusals is named: that of the first place, and at one place that of the first cause
abbrev pub earlier : Option Refusal → Option Refusal → Option Refusal
earlier None y = y
earlier (Some a) None = Some a
earlier (Some a) (Some b) = if is_before b a then Some b else Some a

-- a definition, in the context of its place
pub record Stated (N : Type 0) : Type 0 where
  pub name : N
  pub context : Context
  pub type : Tree
  pub body : Tree

-- its two judgements
abbrev pub judgements_of : {N : Type 0} → List (Stated N) → List Judgement
judgements_of [] = []
judgements_of (d ∷ ds) = Ty d.context d.type ∷ Tm d.context d.body d.type ∷ judgements_of ds

-- A value, the definitions that the text holds, in the order of their judgements, and the refusal
-- that is named, if there is one. A value stands where the text is refused too, but says nothing.
pub record Translated (N A : Type 0) : Type 0 where
  pub value : A
  pub stated : List (Stated N)
  pub refusal : Option Refusal

abbrev pub done : {N A : Type 0} → A → Translated N A
done a = record { value = a; stated = []; refusal = None }

infixr 20 ◌>>=◌
infixr 20 ◌>>◌
-- one text after another
abbrev pub ◌>>=◌ : {N A B : Type 0} → Translated N A → (A → Translated N B) → Translated N B
◌>>=◌ x f =
    let y = f x.value in
    record {
      value = y.value;
      stated = x.stated ++ y.stated;
      refusal = earlier x.refusal y.refusal;
    }

abbrev pub ◌>>◌ : {N A B : Type 0} → Translated N A → Translated N B → Translated N B
◌>>◌ x y = x >>= λ _. y

abbrev pub with : {N A B : Type 0} → (A → B) → Translated N A → Translated N B
with f x = x >>= λ a. done (f a)

-- the text at the place is refused; the value says nothing
abbrev pub refused : {N A : Type 0} → ℕ → Cause → A → Translated N A
refused at why a =
    record { value = a; stated = []; refusal = Some (record { at = at; cause = why }) }

abbrev pub states : {N : Type 0} → Stated N → Translated N (Unit {0})
states d = record { value = tt; stated = d ∷ []; refusal = None }

-- the fault is the refusal that is named
abbrev pub Refuses : ScopeFault → Option Refusal → Type 0
Refuses (Unbound p) r = r ≡ Some (record { at = p; cause = cause.Unbound })
Refuses (Twice p) r = r ≡ Some (record { at = p; cause = cause.Twice })
Refuses (NameKind p) r = r ≡ Some (record { at = p; cause = cause.NameKind })
Refuses (GlueSide p) r = r ≡ Some (record { at = p; cause = cause.GlueSide })
Refuses Memory r = Unit {0}
