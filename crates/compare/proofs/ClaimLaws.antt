-- Claims of one form say the same exactly where their rows mean the same.
use Rattle.std.proofs.Common.{◌≡◌, ℕ, zero, suc, ◌<◌, ◌≤◌, List, [], ◌∷◌, length, get_or, map, refl, sym, ◌∙◌, ap, ap₂, arith, Option, Some, None, IsSome}
use Rattle.trees.specs.Language.{Ctx, Ty, TyEq, Tm, TmEq, Sb}
use Rattle.trees.specs.Judgements.{Judgement}
use Rattle.trees.specs.Things.{Thing, ATree, ASubst, AContext, Meanings, both, consed, meanings}
use Rattle.trees.specs.declared.claim.JudgementForm.{JudgementForm}
use Rattle.trees.specs.declared.claim.JudgementForm.TheVariants as form
use Rattle.trees.specs.declared.claim.Claim.{Claim}
use Rattle.trees.specs.declared.claim.Claim.TheVariants as claim
use Rattle.trees.specs.declared.kind.PartKind.{PartKind}
use Rattle.trees.specs.Claims.{form_of as form_of_claim, rows_of}
use Rattle.trees.specs.Claimed.{judged, said}
use Rattle.trees.specs.Claimed.{claimed}
use Rattle.rows.proofs.OptionLaws.{one-some, both-some}
use Rattle.rows.specs.Views.{IsOfKind}
use Rattle.compare.specs.Kinds.{AreOfKinds}

-- the form and the things of a judgement
abbrev pub form_of : Judgement → JudgementForm
form_of (Ctx G) = form.Ctx
form_of (Ty G A) = form.Ty
form_of (TyEq G A B) = form.TyEq
form_of (Tm G a A) = form.Tm
form_of (TmEq G a b A) = form.TmEq
form_of (Sb H d G) = form.Sb

abbrev pub things_of : Judgement → List Thing
things_of (Ctx G) = AContext G ∷ []
things_of (Ty G A) = AContext G ∷ ATree A ∷ []
things_of (TyEq G A B) = AContext G ∷ ATree A ∷ ATree B ∷ []
things_of (Tm G a A) = AContext G ∷ ATree a ∷ ATree A ∷ []
things_of (TmEq G a b A) = AContext G ∷ ATree a ∷ ATree b ∷ ATree A ∷ []
things_of (Sb H d G) = AContext H ∷ ASubst d ∷ AContext G ∷ []

pub record IsOf (f : JudgementForm) (xs : List Thing) (J : Judgement) : Type 0 where
  pub form : form_of J ≡ f
  pub things : things_of J ≡ xs

is_of : (f : JudgementForm) (xs : List Thing) (J : Judgement) → judged f xs ≡ Some J → IsOf f xs J
is_of form.Ctx (AContext G ∷ []) J e = let p : Ctx G ≡ J = cc in rw (sym p) (record { form = refl; things = refl })
is_of form.Ty (AContext G ∷ ATree A ∷ []) J e = let p : Ty G A ≡ J = cc in rw (sym p) (record { form = refl; things = refl })
is_of form.TyEq (AContext G ∷ ATree A ∷ ATree B ∷ []) J e = let p : TyEq G A B ≡ J = cc in rw (sym p) (record { form = refl; things = refl })
is_of form.Tm (AContext G ∷ ATree a ∷ ATree A ∷ []) J e = let p : Tm G a A ≡ J = cc in rw (sym p) (record { form = refl; things = refl })
is_of form.TmEq (AContext G ∷ ATree a ∷ ATree b ∷ ATree A ∷ []) J e = let p : TmEq G a b A ≡ J = cc in rw (sym p) (record { form = refl; things = refl })
is_of form.Sb (AContext H ∷ ASubst d ∷ AContext G ∷ []) J e = let p : Sb H d G ≡ J = cc in rw (sym p) (record { form = refl; things = refl })
is_of f xs J e = cc

-- what the rows of a claim mean that means a judgement
pub record Said (m : Meanings) (c : Claim) : Type 0 where
  pub things : List Thing
  pub judgement : Judgement
  pub means : meanings m (rows_of c) ≡ Some things
  pub says : claimed m c ≡ Some judgement
  pub is : IsOf (form_of_claim c) things judgement

pub said_of : (m : Meanings) (c : Claim) → IsSome (claimed m c) → Said m c
said_of m c some = from (claimed m c) refl some
  where
    from : (o : Option Judgement) → claimed m c ≡ o → IsSome o → Said m c
    from None e some = cc
    from (Some J) e some =
        let o = one-some (judged (form_of_claim c)) (meanings m (rows_of c)) J e in
        record { things = o.first; judgement = J; means = o.first_is; says = e; is = is_of (form_of_claim c) o.first J o.whole }

-- rows mean these things exactly where each means its own
each-means : (m : Meanings) (ks : List ℕ) (xs : List Thing) → meanings m ks ≡ Some xs → map m ks ≡ map Some xs
each-means m [] [] e = refl
each-means m [] (x ∷ xs) e = cc
each-means m (k ∷ ks) xs e =
    let b = both-some consed (m k) (meanings m ks) xs e in
    let whole : b.first ∷ b.second ≡ xs = cc in
    ap₂ (λ o os. o ∷ os) b.first_is (each-means m ks b.second b.second_is) ∙ ap (map Some) whole

abbrev all_there : List (Option Thing) → Option (List Thing)
all_there [] = Some []
all_there (o ∷ os) = both consed o (all_there os)

meanings-map : (m : Meanings) (ks : List ℕ) → meanings m ks ≡ all_there (map m ks)
meanings-map m [] = refl
meanings-map m (k ∷ ks) = ap (both consed (m k)) (meanings-map m ks)

-- of one form: the same exactly where the rows mean the same

pub rows-same : (m : Meanings) (c d : Claim) → IsSome (claimed m c) → IsSome (claimed m d) → claimed m c ≡ claimed m d → map m (rows_of c) ≡ map m (rows_of d)
rows-same m c d some other e =
    let a = said_of m c some in
    let b = said_of m d other in
    let p : Some a.judgement ≡ Some b.judgement = sym a.says ∙ e ∙ b.says in
    let q : a.judgement ≡ b.judgement = cc in
    each-means m (rows_of c) a.things a.means
    ∙ ap (map Some) (sym a.is.things ∙ ap things_of q ∙ b.is.things)
    ∙ sym (each-means m (rows_of d) b.things b.means)

pub claims-same : (m : Meanings) (c d : Claim) → form_of_claim c ≡ form_of_claim d → map m (rows_of c) ≡ map m (rows_of d) → claimed m c ≡ claimed m d
claims-same m c d form same = ap₂ said form (meanings-map m (rows_of c) ∙ ap all_there same ∙ sym (meanings-map m (rows_of d)))

-- of two forms: never the same
pub other-forms : (m : Meanings) (c d : Claim) → (form_of_claim c ≡ form_of_claim d → ⊥) → IsSome (claimed m c) → IsSome (claimed m d) → claimed m c ≡ claimed m d → ⊥
other-forms m c d apart some other e =
    let a = said_of m c some in
    let b = said_of m d other in
    let p : Some a.judgement ≡ Some b.judgement = sym a.says ∙ e ∙ b.says in
    let q : a.judgement ≡ b.judgement = cc in
    apart (sym a.is.form ∙ ap form_of q ∙ b.is.form)

-- rows of kinds

pub few-rows : (c : Claim) → length (rows_of c) ≤ 4
few-rows (claim.Ctx G) = omega arith
few-rows (claim.Ty G A) = omega arith
few-rows (claim.TyEq G A B) = omega arith
few-rows (claim.Tm G a A) = omega arith
few-rows (claim.TmEq G a b A) = omega arith
few-rows (claim.Sb H d G) = omega arith

pub kinds-length : (m : Meanings) (kinds : List PartKind) (ks : List ℕ) → AreOfKinds m kinds ks → length kinds ≡ length ks
kinds-length m [] [] all = refl
kinds-length m [] (k ∷ ks) all = absurd all
kinds-length m (kind ∷ kinds) [] all = absurd all
kinds-length m (kind ∷ kinds) (k ∷ ks) all = ap suc (kinds-length m kinds ks all.1)

pub kind-at : (m : Meanings) (kinds : List PartKind) (ks : List ℕ) (at : ℕ) (kind : PartKind) (k : ℕ) → AreOfKinds m kinds ks → at < length kinds → IsOfKind (get_or kinds at kind) (m (get_or ks at k))
kind-at m [] ks at kind k all below = absurd (omega arith)
kind-at m (first ∷ kinds) [] at kind k all below = absurd all
kind-at m (first ∷ kinds) (j ∷ ks) zero kind k all below = all.0
kind-at m (first ∷ kinds) (j ∷ ks) (suc at) kind k all below = kind-at m kinds ks at kind k all.1 (omega arith)
