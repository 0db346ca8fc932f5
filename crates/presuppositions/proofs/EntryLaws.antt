-- What the test of entries accepts is one, and what is so of each of some rules or labels.
use Rattle.std.proofs.Common.{◌≡◌, ℕ, List, [], ◌∷◌, Bool, true, false, not, ◌⊎◌, inl, inr, refl, sym, ◌∙◌, ap, subst, Option, Some, None, length, nat_le, leb-true}
use Rattle.std.specs.Prelude.{sum_by}
use Rattle.std.specs.List.{list_all}
use Rattle.theory.specs.declared.rule.RuleName.{RuleName}
use Rattle.patterns.proofs.SameLaws.{both}
use Rattle.pattern_sides.specs.Follows.{follows}
use Rattle.pattern_sides.proofs.SideLaws.{follows-sound}
use Rattle.recipes.specs.declared.row.Row.{Row}
use Rattle.recipes.specs.Statements.{Statement}
use Rattle.recipes.proofs.Soundness.{derives-sound}
use Rattle.presuppositions.specs.declared.source.Entry.{Entry}
use Rattle.presuppositions.specs.declared.source.Label.{Label}
use Rattle.presuppositions.specs.declared.source.Source.{Source}
use Rattle.presuppositions.specs.Sought.{numbers_made}
use Rattle.presuppositions.specs.Entries.{IsEntry, Answers, Has, entry_statement, has_none, is_entry, is_derived_where, is_walked}

not-true : (b : Bool) → not b ≡ true → b ≡ false
not-true false h = refl
not-true true h = absurd (cc h)

stated : (earlier : List Statement) (name : RuleName) (l : Label) (sources : List Source) (rows : List Row) (last : ℕ) (o : Option Statement) → entry_statement name l sources ≡ o → is_derived_where earlier rows last o ≡ true → has_none name l ≡ false → is_walked name l sources rows ≡ true → IsEntry earlier name l sources rows last
stated earlier name l sources rows last None is h due walked = absurd (cc h)
stated earlier name l sources rows last (Some s) is h due walked =
    let few = both (nat_le (length sources) 16) _ walked in
    let rest = both (nat_le (sum_by numbers_made rows) 512) _ few.1 in
    record {
      statement = s;
      is = is;
      derives = derives-sound follows follows-sound earlier s rows (last ∷ []) h;
      due = due;
      few_sources = leb-true (length sources) 16 few.0;
      few_numbers = leb-true (sum_by numbers_made rows) 512 rest.0;
      sought = rest.1;
    }

pub entry-derived : (earlier : List Statement) (name : RuleName) (l : Label) (sources : List Source) (rows : List Row) (last : ℕ) → is_entry earlier name l sources rows last ≡ true → IsEntry earlier name l sources rows last
entry-derived earlier name l sources rows last h =
    let f = both (not (has_none name l)) _ h in
    let g = both (is_walked name l sources rows) _ f.1 in
    stated earlier name l sources rows last (entry_statement name l sources) refl g.1 (not-true (has_none name l) f.0) g.0

had : (earlier : List Statement) (name : RuleName) (l : Label) (sources : List Source) (rows : List Row) (last : ℕ) (o : Option Entry) → Has sources rows last o → is_entry earlier name l sources rows last ≡ true → Answers earlier name l o
had earlier name l sources rows last None has h = absurd has
had earlier name l sources rows last (Some e) has h =
    let made = entry-derived earlier name l sources rows last h in
    let at_sources = subst (λ z. IsEntry earlier name l z rows last) (sym has.0) made in
    let at_rows = subst (λ z. IsEntry earlier name l e.sources.now z last) (sym has.1) at_sources in
    subst (λ z. IsEntry earlier name l e.sources.now e.rows.now z) (sym has.2) at_rows

-- the entry of a rule of a family
pub answers : {R : Type 0} (family : R → RuleName) (earlier : List Statement) (l : Label) (shown r : R) → shown ≡ r → (sources : List Source) (rows : List Row) (last : ℕ) (o : Option Entry) → Has sources rows last o → is_entry earlier (family r) l sources rows last ≡ true → Answers earlier (family shown) l o
answers family earlier l shown r is sources rows last o has h =
    subst (λ z. Answers earlier (family z) l o) (sym is) (had earlier (family r) l sources rows last o has h)

-- x is one of these
abbrev IsOneOf : {A : Type 0} → A → List A → Type 0
IsOneOf x [] = ⊥
IsOneOf x (y ∷ []) = x ≡ y
IsOneOf x (y ∷ z ∷ zs) = (x ≡ y) ⊎ IsOneOf x (z ∷ zs)

pub one-of : {A : Type 0} (f : A → Bool) (x : A) (ys : List A) → IsOneOf x ys → list_all f ys ≡ true → f x ≡ true
one-of f x [] is all = absurd is
one-of f x (y ∷ []) is all = ap f is ∙ (both (f y) _ all).0
one-of f x (y ∷ z ∷ zs) (inl is) all = ap f is ∙ (both (f y) _ all).0
one-of f x (y ∷ z ∷ zs) (inr is) all = one-of f x (z ∷ zs) is (both (f y) _ all).1
