-- Things that are made of named things.
use Rattle.std.proofs.Common.{◌≡◌, ℕ, zero, suc, ◌≤◌, List, [], ◌∷◌, length, take, true, ◌==◌, eq-eqb, refl, sym, ◌∙◌, ap, arith, Option, Some, None, IsSome, map}
use Rattle.std.specs.Prelude.{slice_get, replicate, option_and_then}
use Rattle.trees.specs.declared.op.Op.{Op}
use Rattle.trees.specs.declared.kind.PartKind.TheVariants as part
use Rattle.trees.specs.Operators.{kids_of}
use Rattle.trees.specs.Trees.{Tree}
use Rattle.trees.specs.Things.{Thing, ATree, ASubst, AContext, meanings, made, only_trees, over_kids, kind_of}
use Rattle.trees.proofs.Meanings.{meanings-length}
use Rattle.derivation.specs.Meanings.{thing_at, things_at}
use Rattle.replay.specs.declared.filed.Filed.{Filed}
use Rattle.replay.specs.declared.thing.TheConstants.{TERMS}
use Rattle.replay.specs.Filed.{file_meanings, MadeAs}
use Rattle.replay.specs.Named.{Names, NamesNone}

-- kids are trees

terms-take : (n : ℕ) → n ≤ 4 → take n TERMS ≡ replicate n part.Term
terms-take zero le = refl
terms-take (suc zero) le = refl
terms-take (suc (suc zero)) le = refl
terms-take (suc (suc (suc zero))) le = refl
terms-take (suc (suc (suc (suc zero)))) le = refl
terms-take (suc (suc (suc (suc (suc n))))) le = absurd (omega arith)

trees_there : (xs : List Thing) (n : ℕ) → map kind_of xs ≡ replicate n part.Term → IsSome (only_trees xs)
trees_there [] n e = refl
trees_there (x ∷ xs) zero e = cc
trees_there (ATree t ∷ xs) (suc n) e = let p : map kind_of xs ≡ replicate n part.Term = cc in more (only_trees xs) (trees_there xs n p)
  where
    more : (o : Option (List Tree)) → IsSome o → IsSome (option_and_then (λ ts. Some (t ∷ ts)) o)
    more None some = cc
    more (Some ts) some = refl
trees_there (ASubst d ∷ xs) (suc n) e = cc
trees_there (AContext G ∷ xs) (suc n) e = cc

trees_kinds : (xs : List Thing) → IsSome (only_trees xs) → map kind_of xs ≡ replicate (length xs) part.Term
trees_kinds [] some = refl
trees_kinds (ATree t ∷ xs) some = ap (λ ks. part.Term ∷ ks) (trees_kinds xs (less (only_trees xs) some))
  where
    less : (o : Option (List Tree)) → IsSome (option_and_then (λ ts. Some (t ∷ ts)) o) → IsSome o
    less None some = cc
    less (Some ts) some = refl
trees_kinds (ASubst d ∷ xs) some = cc
trees_kinds (AContext G ∷ xs) some = cc

only_trees-length : (xs : List Thing) (ts : List Tree) → only_trees xs ≡ Some ts → length ts ≡ length xs
only_trees-length [] ts e = let none : [] ≡ ts = cc in ap length (sym none)
only_trees-length (ATree t ∷ xs) ts e = from (only_trees xs) (λ us eo. only_trees-length xs us eo) e
  where
    from : (o : Option (List Tree)) → ((us : List Tree) → o ≡ Some us → length us ≡ length xs) → option_and_then (λ us. Some (t ∷ us)) o ≡ Some ts → length ts ≡ suc (length xs)
    from None more e = cc
    from (Some us) more e = let whole : t ∷ us ≡ ts = cc in ap length (sym whole) ∙ ap suc (more us refl)
only_trees-length (ASubst d ∷ xs) ts e = cc
only_trees-length (AContext G ∷ xs) ts e = cc

made_some : (op : Op) (xs : List Thing) → length xs ≡ kids_of op → IsSome (only_trees xs) → IsSome (made op xs)
made_some op xs n some = from (only_trees xs) refl some
  where
    from : (o : Option (List Tree)) → only_trees xs ≡ o → IsSome o → IsSome (option_and_then (over_kids op) o)
    from None e some = cc
    from (Some ts) e some =
        let count : (length ts == kids_of op) ≡ true = eq-eqb (length ts) (kids_of op) (only_trees-length xs ts e ∙ n) in
        rw count refl

some_made : (op : Op) (xs : List Thing) (x : Thing) → made op xs ≡ Some x → IsSome (only_trees xs)
some_made op xs x e = from (only_trees xs) e
  where
    from : (o : Option (List Tree)) → option_and_then (over_kids op) o ≡ Some x → IsSome o
    from None e = cc
    from (Some ts) e = refl

module _ (xs : List Thing) (es : List Filed) (op : Op) (kids : List ℕ) (le : length kids ≤ 4) where
  -- over kids that name trees there is a tree
  pub kids_live : (rows : List ℕ) → length kids ≡ kids_of op → Names xs es kids (take (length kids) TERMS) rows → IsSome (option_and_then (made op) (meanings (slice_get xs) rows))
  kids_live rows count n =
      let many : length n.named ≡ kids_of op = sym (meanings-length (thing_at (file_meanings xs es)) kids n.named n.numbers_mean) ∙ count in
      rw n.rows_mean (made_some op n.named many (trees_there n.named (length kids) (n.kinds_are ∙ terms-take (length kids) le)))

  pub kids_made : (ys : List Thing) (rows : List ℕ) (at : ℕ) → length kids ≡ kids_of op → Names xs es kids (take (length kids) TERMS) rows → slice_get ys at ≡ option_and_then (made op) (meanings (slice_get xs) rows) → MadeAs (option_and_then (made op) (things_at (file_meanings xs es) kids)) ys (Some at)
  kids_made ys rows at count n is =
      let same : things_at (file_meanings xs es) kids ≡ meanings (slice_get xs) rows = n.numbers_mean ∙ sym n.rows_mean in
      rw same (kids_live rows count n, is)

  pub no_kids : (ys : List Thing) → NamesNone xs es kids (take (length kids) TERMS) → MadeAs (option_and_then (made op) (things_at (file_meanings xs es) kids)) ys None
  no_kids ys none = from (things_at (file_meanings xs es) kids) refl
    where
      from : (r : Option (List Thing)) → things_at (file_meanings xs es) kids ≡ r → option_and_then (made op) r ≡ None
      from None er = refl
      from (Some named) er = over (made op named) refl
        where
          over : (o : Option Thing) → made op named ≡ o → o ≡ None
          over None eo = refl
          over (Some x) eo =
              let n : length kids ≡ length named = meanings-length (thing_at (file_meanings xs es)) kids named er in
              absurd (none named er (trees_kinds named (some_made op named x eo) ∙ ap (λ k. replicate k part.Term) (sym n) ∙ sym (terms-take (length kids) le)))

pub few_kids : (op : Op) → kids_of op ≤ 4
few_kids op = grind arith
