-- Normal trees, by their kids.
use Rattle.std.proofs.Common.{◌≡◌, ◌↔◌, ◌⊎◌, inl, inr, ℕ, zero, suc, ◌+◌, Bool, true, false, List, [], ◌∷◌, length, map, refl, sym, ◌∙◌, ap, ap₂, subst, arith}
use Rattle.trees.specs.declared.op.Op.{Op}
use Rattle.trees.specs.declared.op.Op.TheVariants as op
use Rattle.trees.specs.Operators.{kids_of}
use Rattle.trees.specs.Trees.{Tree, Trees, Var, Make, NoTrees, More, trees_of}
use Rattle.normal_formulas.specs.declared.atoms.Atom.{Atom}
use Rattle.normal_formulas.specs.Atoms.{conjunction, cover}
use Rattle.normal_formulas.proofs.ReadLaws.{same-conjunctions, same-covers}
use Rattle.fixed_names.specs.Fixed.{Fixed, bind}
use Rattle.normal_parts.specs.Normal.{IsNormalFace, Computes, Normal, AreSides, fix_all, raised}
use Rattle.normal_parts.specs.Parts.{HasNormalFace, all_written, written_for, MayApply}
use Rattle.normality.specs.declared.places.Place.{Place}
use Rattle.normality.specs.declared.places.Place.TheVariants as place
use Rattle.normality.specs.declared.places.Kind.TheVariants as kind
use Rattle.normality.specs.Places.{kind_of, MayStand}
use Rattle.normality.specs.Tests.{PassesAt, KidsPass, SidesPass}

-- faces as they are written

same-list : (atoms : List Atom) → map (written_for false) atoms ≡ atoms
same-list [] = refl
same-list (a ∷ atoms) = ap (λ xs. a ∷ xs) (same-list atoms)

pub same-written : (lists : List (List Atom)) → map (all_written false) lists ≡ lists
same-written [] = refl
same-written (c ∷ cs) = ap₂ (λ x xs. x ∷ xs) (same-list c) (same-written cs)

-- a system of sides passes over the face that it has

pub to-sides : (z : Fixed) (p b : Tree) (cs : List (List Atom)) → p ≡ cover cs → AreSides z cs b → SidesPass z false p b
to-sides z p b cs is sides = (cs, is, subst (λ ds. AreSides z ds b) (sym (same-written cs)) sides)

pub from-sides : (z : Fixed) (p b : Tree) (cs : List (List Atom)) → p ≡ cover cs → SidesPass z false p b → AreSides z cs b
from-sides z p b cs is s =
    let same : s.0 ≡ cs = same-covers s.0 cs (sym s.1 ∙ is) in
    subst (λ ds. AreSides z ds b) (same-written s.0 ∙ same) s.2

pub from-raised : (z : Fixed) (p b : Tree) (cs : List (List Atom)) → p ≡ cover cs → SidesPass z true p b → AreSides z (map raised cs) b
from-raised z p b cs is s =
    let same : s.0 ≡ cs = same-covers s.0 cs (sym s.1 ∙ is) in
    subst (λ ds. AreSides z (map raised ds) b) same s.2

-- operators that are tested by their kids

pub record ByKids (z : Fixed) (o : Op) (ts : List Tree) : Type 0 where
  pub to : Normal z (Make o (trees_of ts)) → KidsPass z o 0 ts
  pub from : KidsPass z o 0 ts → Normal z (Make o (trees_of ts))

pub by-kids : (z : Fixed) (o : Op) (ts : List Tree) → kind_of o ≡ kind.ByKids → length ts ≡ kids_of o → ByKids z o ts
by-kids z op.U [] e count = record { to = λ h. tt; from = λ h. tt }
by-kids z op.Pi (A ∷ B ∷ []) e count = record { to = λ h. ((tt, h.0), ((tt, h.1), tt)); from = λ h. (h.0.1, h.1.0.1) }
by-kids z op.Lam (A ∷ b ∷ []) e count = record { to = λ h. ((tt, h.0), ((tt, h.1), tt)); from = λ h. (h.0.1, h.1.0.1) }
by-kids z op.App (f ∷ a ∷ []) e count = record { to = λ h. ((h.0, h.1), ((tt, h.2), tt)); from = λ h. (h.0.0, h.0.1, h.1.0.1) }
by-kids z op.Sig (A ∷ B ∷ []) e count = record { to = λ h. ((tt, h.0), ((tt, h.1), tt)); from = λ h. (h.0.1, h.1.0.1) }
by-kids z op.Pair (a ∷ b ∷ []) e count = record { to = λ h. ((tt, h.0), ((tt, h.1), tt)); from = λ h. (h.0.1, h.1.0.1) }
by-kids z op.Fst (c ∷ []) e count = record { to = λ h. ((h.0, h.1), tt); from = λ h. (h.0.0, h.0.1) }
by-kids z op.Snd (c ∷ []) e count = record { to = λ h. ((h.0, h.1), tt); from = λ h. (h.0.0, h.0.1) }
by-kids z op.PathP (A ∷ a ∷ b ∷ []) e count = record { to = λ h. ((tt, h.0), ((tt, h.1), ((tt, h.2), tt))); from = λ h. (h.0.1, h.1.0.1, h.1.1.0.1) }
by-kids z op.PLam (b ∷ []) e count = record { to = λ h. ((tt, h), tt); from = λ h. h.0.1 }
by-kids z op.Nat [] e count = record { to = λ h. tt; from = λ h. tt }
by-kids z op.Zero [] e count = record { to = λ h. tt; from = λ h. tt }
by-kids z op.Suc (m ∷ []) e count = record { to = λ h. ((tt, h), tt); from = λ h. h.0.1 }
by-kids z op.NatRec (P ∷ a ∷ b ∷ m ∷ []) e count = record { to = λ h. ((tt, h.0), ((tt, h.1), ((tt, h.2), (((h.3, h.4), h.5), tt)))); from = λ h. (h.0.1, h.1.0.1, h.1.1.0.1, h.1.1.1.0.0.0, h.1.1.1.0.0.1, h.1.1.1.0.1) }
by-kids z _ _ e count = first_of (cc, grind arith)

pub never-normal : (z : Fixed) (o : Op) (ts : Trees) → kind_of o ≡ kind.Never → Normal z (Make o ts) → ⊥
never-normal z op.I0 ts e h = h
never-normal z op.I1 ts e h = h
never-normal z op.Neg ts e h = h
never-normal z op.Min ts e h = h
never-normal z op.Max ts e h = h
never-normal z op.F0 ts e h = h
never-normal z op.F1 ts e h = h
never-normal z op.Eq0 ts e h = h
never-normal z op.Eq1 ts e h = h
never-normal z op.Meet ts e h = h
never-normal z op.Join ts e h = h
never-normal z op.All ts e h = h
never-normal z op.Sys ts e h = h
never-normal z op.Empty ts e h = h
never-normal z _ ts e h = cc

pub is-path-application : (o : Op) → kind_of o ≡ kind.PathApplication → o ≡ op.PApp
is-path-application op.PApp e = refl
is-path-application _ e = cc

pub is-composition : (o : Op) → kind_of o ≡ kind.Composition → o ≡ op.Comp
is-composition op.Comp e = refl
is-composition _ e = cc

pub is-glue-type : (o : Op) → kind_of o ≡ kind.GlueType → o ≡ op.GlueType
is-glue-type op.GlueType e = refl
is-glue-type _ e = cc

pub is-glue : (o : Op) → kind_of o ≡ kind.Glue → o ≡ op.Glue
is-glue op.Glue e = refl
is-glue _ e = cc

pub is-unglue : (o : Op) → kind_of o ≡ kind.Unglue → o ≡ op.Unglue
is-unglue op.Unglue e = refl
is-unglue _ e = cc

-- those that are not

pub record Same (X Y : Type 0) : Type 0 where
  pub to : X → Y
  pub from : Y → X

pub record Both (X Y : Type 0) : Type 0 where
  pub first : X
  pub second : Y

pub record Each (X Y Z : Type 0) : Type 0 where
  pub first : X
  pub second : Y
  pub third : Z

pub by-path : (z : Fixed) (c r : Tree) → MayApply z r → Same (Normal z (Make op.PApp (More c (More r NoTrees)))) (PassesAt z place.Path c)
by-path z c r may = record { to = λ h. (h.0, h.1); from = λ h. (h.0, h.1, may.0, may.1, may.2) }

pub no-path : (z : Fixed) (c r : Tree) → (MayApply z r → ⊥) → Normal z (Make op.PApp (More c (More r NoTrees))) → ⊥
no-path z c r never h = never (h.2, h.3, h.4)

pub by-comp : (z below : Fixed) (A p b a : Tree) → below ≡ bind z → HasNormalFace z p → (Computes A b a → ⊥)
    → Same (Normal z (Make op.Comp (More A (More p (More b (More a NoTrees)))))) (Each (PassesAt below place.Line A) (SidesPass below true p b) (PassesAt z place.Anywhere a))
by-comp z below A p b a is face never =
    subst (λ y. Same (Normal z (Make op.Comp (More A (More p (More b (More a NoTrees)))))) (Each (PassesAt y place.Line A) (SidesPass y true p b) (PassesAt z place.Anywhere a))) (sym is) record {
      to = λ h. record { first = (h.2, h.3); second = (h.0, h.1.is, h.4); third = (tt, h.5) };
      from = λ h. (face.0, face.1, h.first.0, h.first.1, from-raised (bind z) p b face.0 face.1.is h.second, h.third.1, never);
    }

pub no-comp-face : (z : Fixed) (A p b a : Tree) → (HasNormalFace z p → ⊥) → Normal z (Make op.Comp (More A (More p (More b (More a NoTrees))))) → ⊥
no-comp-face z A p b a never h = never (h.0, h.1)

pub no-comp : (z : Fixed) (A p b a : Tree) → Computes A b a → Normal z (Make op.Comp (More A (More p (More b (More a NoTrees))))) → ⊥
no-comp z A p b a told h = h.6 told

pub by-glue-type : (z : Fixed) (A p T w : Tree) → HasNormalFace z p
    → Same (Normal z (Make op.GlueType (More A (More p (More T (More w NoTrees)))))) (Each (PassesAt z place.Anywhere A) (SidesPass z false p T) (SidesPass z false p w))
by-glue-type z A p T w face = record {
  to = λ h. record { first = (tt, h.2); second = to-sides z p T h.0 h.1.is h.3; third = to-sides z p w h.0 h.1.is h.4 };
  from = λ h. (face.0, face.1, h.first.1, from-sides z p T face.0 face.1.is h.second, from-sides z p w face.0 face.1.is h.third);
}

pub no-glue-type : (z : Fixed) (A p T w : Tree) → (HasNormalFace z p → ⊥) → Normal z (Make op.GlueType (More A (More p (More T (More w NoTrees))))) → ⊥
no-glue-type z A p T w never h = never (h.0, h.1)

pub by-glue : (z : Fixed) (p c a : Tree) → HasNormalFace z p
    → Same (Normal z (Make op.Glue (More p (More c (More a NoTrees))))) (Both (PassesAt z place.Anywhere a) (SidesPass z false p c))
by-glue z p c a face = record {
  to = λ h. record { first = (tt, h.3); second = to-sides z p c h.0 h.1.is h.2 };
  from = λ h. (face.0, face.1, from-sides z p c face.0 face.1.is h.second, h.first.1);
}

pub no-glue : (z : Fixed) (p c a : Tree) → (HasNormalFace z p → ⊥) → Normal z (Make op.Glue (More p (More c (More a NoTrees)))) → ⊥
no-glue z p c a never h = never (h.0, h.1)

pub by-unglue : (z : Fixed) (p T w b : Tree) → HasNormalFace z p
    → Same (Normal z (Make op.Unglue (More p (More T (More w (More b NoTrees)))))) (Each (PassesAt z place.Glued b) (SidesPass z false p T) (SidesPass z false p w))
by-unglue z p T w b face = record {
  to = λ h. record { first = (h.4, h.5); second = to-sides z p T h.0 h.1.is h.2; third = to-sides z p w h.0 h.1.is h.3 };
  from = λ h. (face.0, face.1, from-sides z p T face.0 face.1.is h.second, from-sides z p w face.0 face.1.is h.third, h.first.0, h.first.1);
}

pub no-unglue : (z : Fixed) (p T w b : Tree) → (HasNormalFace z p → ⊥) → Normal z (Make op.Unglue (More p (More T (More w (More b NoTrees))))) → ⊥
no-unglue z p T w b never h = never (h.0, h.1)
