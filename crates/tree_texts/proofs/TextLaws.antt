-- What operators are shown as.
use Rattle.std.proofs.Common.{◌≡◌, ℕ, List, [], ◌∷◌, length, refl, subst, append_assoc, append-nil, arith}
use Rattle.trees.specs.declared.op.Op.{Op}
use Rattle.trees.specs.declared.op.Op.TheVariants as op
use Rattle.trees.specs.Operators.{kids_of}
use Rattle.trees.specs.Trees.{Tree, Trees, Make, trees_of}
use Rattle.tree_texts.specs.declared.words.Sort.{Sort}
use Rattle.tree_texts.specs.declared.words.Sort.TheVariants as sort
use Rattle.tree_texts.specs.declared.words.Form.{Form}
use Rattle.tree_texts.specs.declared.words.Form.TheVariants as form
use Rattle.tree_texts.specs.Layouts.{text_as, form_of, begun, kids_text}

abbrev IsPlain : Form → Op → ℕ → List Tree → Type 0
IsPlain (form.Plain s) o n ts = text_as s n (Make o (trees_of ts)) ≡ begun o n (kids_text n o 0 ts)
IsPlain form.WithSystem o n ts = Unit {0}
IsPlain form.Hidden o n ts = Unit {0}

plain : (o : Op) (n : ℕ) (ts : List Tree) → length ts ≡ kids_of o → IsPlain (form_of o) o n ts
plain op.I0 n [] count = refl
plain op.I1 n [] count = refl
plain op.Neg n (r ∷ []) count = simp append-nil
plain op.Min n (r ∷ s ∷ []) count = simp append_assoc
plain op.Max n (r ∷ s ∷ []) count = simp append_assoc
plain op.F0 n ts count = tt
plain op.F1 n [] count = refl
plain op.Eq0 n (r ∷ []) count = simp append_assoc
plain op.Eq1 n (r ∷ []) count = simp append_assoc
plain op.Meet n (p ∷ q ∷ []) count = simp append-nil
plain op.Join n ts count = tt
plain op.All n ts count = tt
plain op.U n [] count = refl
plain op.Pi n (A ∷ B ∷ []) count = simp append_assoc
plain op.Lam n (A ∷ b ∷ []) count = simp append_assoc
plain op.App n (f ∷ a ∷ []) count = simp append_assoc
plain op.Sig n (A ∷ B ∷ []) count = simp append_assoc
plain op.Pair n (a ∷ b ∷ []) count = simp append_assoc
plain op.Fst n (c ∷ []) count = refl
plain op.Snd n (c ∷ []) count = refl
plain op.PathP n (A ∷ a ∷ b ∷ []) count = simp append_assoc
plain op.PLam n (b ∷ []) count = simp append_assoc
plain op.PApp n (c ∷ r ∷ []) count = simp append_assoc
plain op.Nat n [] count = refl
plain op.Zero n [] count = refl
plain op.Suc n (m ∷ []) count = simp append_assoc
plain op.NatRec n (P ∷ a ∷ b ∷ m ∷ []) count = simp append_assoc
plain op.Sys n ts count = tt
plain op.Empty n ts count = tt
plain op.Comp n ts count = tt
plain op.GlueType n ts count = tt
plain op.Glue n ts count = tt
plain op.Unglue n ts count = tt
plain _ n _ count = absurd (omega arith)

pub plain-text : (o : Op) (s : Sort) (n : ℕ) (ts : List Tree) → form_of o ≡ form.Plain s → length ts ≡ kids_of o → text_as s n (Make o (trees_of ts)) ≡ begun o n (kids_text n o 0 ts)
plain-text o s n ts e count = subst (λ x. IsPlain x o n ts) e (plain o n ts count)

-- an operator has no text of another sort
pub other-text : (o : Op) (s : Sort) (n : ℕ) (ts : Trees) → (form_of o ≡ form.Plain s → ⊥) → (form_of o ≡ form.WithSystem → ⊥) → text_as s n (Make o ts) ≡ []
other-text op.I0 sort.Term n ts unlike system = refl
other-text op.I0 sort.Formula n ts unlike system = absurd (unlike refl)
other-text op.I0 sort.Conjunction n ts unlike system = refl
other-text op.I1 sort.Term n ts unlike system = refl
other-text op.I1 sort.Formula n ts unlike system = absurd (unlike refl)
other-text op.I1 sort.Conjunction n ts unlike system = refl
other-text op.Neg sort.Term n ts unlike system = refl
other-text op.Neg sort.Formula n ts unlike system = absurd (unlike refl)
other-text op.Neg sort.Conjunction n ts unlike system = refl
other-text op.Min sort.Term n ts unlike system = refl
other-text op.Min sort.Formula n ts unlike system = absurd (unlike refl)
other-text op.Min sort.Conjunction n ts unlike system = refl
other-text op.Max sort.Term n ts unlike system = refl
other-text op.Max sort.Formula n ts unlike system = absurd (unlike refl)
other-text op.Max sort.Conjunction n ts unlike system = refl
other-text op.F0 sort.Term n ts unlike system = refl
other-text op.F0 sort.Formula n ts unlike system = refl
other-text op.F0 sort.Conjunction n ts unlike system = refl
other-text op.F1 sort.Term n ts unlike system = refl
other-text op.F1 sort.Formula n ts unlike system = refl
other-text op.F1 sort.Conjunction n ts unlike system = absurd (unlike refl)
other-text op.Eq0 sort.Term n ts unlike system = refl
other-text op.Eq0 sort.Formula n ts unlike system = refl
other-text op.Eq0 sort.Conjunction n ts unlike system = absurd (unlike refl)
other-text op.Eq1 sort.Term n ts unlike system = refl
other-text op.Eq1 sort.Formula n ts unlike system = refl
other-text op.Eq1 sort.Conjunction n ts unlike system = absurd (unlike refl)
other-text op.Meet sort.Term n ts unlike system = refl
other-text op.Meet sort.Formula n ts unlike system = refl
other-text op.Meet sort.Conjunction n ts unlike system = absurd (unlike refl)
other-text op.Join sort.Term n ts unlike system = refl
other-text op.Join sort.Formula n ts unlike system = refl
other-text op.Join sort.Conjunction n ts unlike system = refl
other-text op.All sort.Term n ts unlike system = refl
other-text op.All sort.Formula n ts unlike system = refl
other-text op.All sort.Conjunction n ts unlike system = refl
other-text op.U sort.Term n ts unlike system = absurd (unlike refl)
other-text op.U sort.Formula n ts unlike system = refl
other-text op.U sort.Conjunction n ts unlike system = refl
other-text op.Pi sort.Term n ts unlike system = absurd (unlike refl)
other-text op.Pi sort.Formula n ts unlike system = refl
other-text op.Pi sort.Conjunction n ts unlike system = refl
other-text op.Lam sort.Term n ts unlike system = absurd (unlike refl)
other-text op.Lam sort.Formula n ts unlike system = refl
other-text op.Lam sort.Conjunction n ts unlike system = refl
other-text op.App sort.Term n ts unlike system = absurd (unlike refl)
other-text op.App sort.Formula n ts unlike system = refl
other-text op.App sort.Conjunction n ts unlike system = refl
other-text op.Sig sort.Term n ts unlike system = absurd (unlike refl)
other-text op.Sig sort.Formula n ts unlike system = refl
other-text op.Sig sort.Conjunction n ts unlike system = refl
other-text op.Pair sort.Term n ts unlike system = absurd (unlike refl)
other-text op.Pair sort.Formula n ts unlike system = refl
other-text op.Pair sort.Conjunction n ts unlike system = refl
other-text op.Fst sort.Term n ts unlike system = absurd (unlike refl)
other-text op.Fst sort.Formula n ts unlike system = refl
other-text op.Fst sort.Conjunction n ts unlike system = refl
other-text op.Snd sort.Term n ts unlike system = absurd (unlike refl)
other-text op.Snd sort.Formula n ts unlike system = refl
other-text op.Snd sort.Conjunction n ts unlike system = refl
other-text op.PathP sort.Term n ts unlike system = absurd (unlike refl)
other-text op.PathP sort.Formula n ts unlike system = refl
other-text op.PathP sort.Conjunction n ts unlike system = refl
other-text op.PLam sort.Term n ts unlike system = absurd (unlike refl)
other-text op.PLam sort.Formula n ts unlike system = refl
other-text op.PLam sort.Conjunction n ts unlike system = refl
other-text op.PApp sort.Term n ts unlike system = absurd (unlike refl)
other-text op.PApp sort.Formula n ts unlike system = refl
other-text op.PApp sort.Conjunction n ts unlike system = refl
other-text op.Nat sort.Term n ts unlike system = absurd (unlike refl)
other-text op.Nat sort.Formula n ts unlike system = refl
other-text op.Nat sort.Conjunction n ts unlike system = refl
other-text op.Zero sort.Term n ts unlike system = absurd (unlike refl)
other-text op.Zero sort.Formula n ts unlike system = refl
other-text op.Zero sort.Conjunction n ts unlike system = refl
other-text op.Suc sort.Term n ts unlike system = absurd (unlike refl)
other-text op.Suc sort.Formula n ts unlike system = refl
other-text op.Suc sort.Conjunction n ts unlike system = refl
other-text op.NatRec sort.Term n ts unlike system = absurd (unlike refl)
other-text op.NatRec sort.Formula n ts unlike system = refl
other-text op.NatRec sort.Conjunction n ts unlike system = refl
other-text op.Sys sort.Term n ts unlike system = refl
other-text op.Sys sort.Formula n ts unlike system = refl
other-text op.Sys sort.Conjunction n ts unlike system = refl
other-text op.Empty sort.Term n ts unlike system = refl
other-text op.Empty sort.Formula n ts unlike system = refl
other-text op.Empty sort.Conjunction n ts unlike system = refl
other-text op.Comp sort.Term n ts unlike system = absurd (system refl)
other-text op.Comp sort.Formula n ts unlike system = absurd (system refl)
other-text op.Comp sort.Conjunction n ts unlike system = absurd (system refl)
other-text op.GlueType sort.Term n ts unlike system = absurd (system refl)
other-text op.GlueType sort.Formula n ts unlike system = absurd (system refl)
other-text op.GlueType sort.Conjunction n ts unlike system = absurd (system refl)
other-text op.Glue sort.Term n ts unlike system = absurd (system refl)
other-text op.Glue sort.Formula n ts unlike system = absurd (system refl)
other-text op.Glue sort.Conjunction n ts unlike system = absurd (system refl)
other-text op.Unglue sort.Term n ts unlike system = absurd (system refl)
other-text op.Unglue sort.Formula n ts unlike system = absurd (system refl)
other-text op.Unglue sort.Conjunction n ts unlike system = absurd (system refl)

-- a term with a system has no text of another sort
pub unlike-text : (o : Op) (s : Sort) (n : ℕ) (ts : Trees) → form_of o ≡ form.WithSystem → (s ≡ sort.Term → ⊥) → text_as s n (Make o ts) ≡ []
unlike-text _ sort.Term n ts system unlike = absurd (unlike refl)
unlike-text op.Comp sort.Formula n ts system unlike = refl
unlike-text op.Comp sort.Conjunction n ts system unlike = refl
unlike-text op.GlueType sort.Formula n ts system unlike = refl
unlike-text op.GlueType sort.Conjunction n ts system unlike = refl
unlike-text op.Glue sort.Formula n ts system unlike = refl
unlike-text op.Glue sort.Conjunction n ts system unlike = refl
unlike-text op.Unglue sort.Formula n ts system unlike = refl
unlike-text op.Unglue sort.Conjunction n ts system unlike = refl
unlike-text _ _ n ts system unlike = cc
