-- What a row of a book becomes is right, and means what the row does.
use Rattle.std.proofs.Common.{◌≡◌, ℕ, ◌^◌, ◌<◌, nat_lt, nat_le, Bool, true, false, cond, List, [], ◌∷◌, ◌++◌, length, map, refl, sym, ◌∙◌, ap, ap₂, subst, Option, Some, None}
use Rattle.std.specs.Prelude.{option_and_then}
use Rattle.std.proofs.lemmas.Bool.{leb-true}
use borrow.Author.Tests.{ltb-true}
use Rattle.trees.specs.declared.kind.PartKind.TheVariants as part
use Rattle.trees.specs.Trees.{Tree, Subst, Var, shift_by, push, then, greatest_shift}
use Rattle.trees.specs.Judgements.{Nil}
use Rattle.trees.specs.Things.{Thing, ATree, ASubst, AContext, Meanings, kind_of, both, consed, made, meanings, instance_of, pushed_on, then_of, with_variable, with_a_name, with_a_face}
use Rattle.trees.proofs.Meanings.{meanings-cons}
use Rattle.rows.proofs.OptionLaws.{one-some, both-some}
use Rattle.rows.proofs.MeaningLaws.{both-kind, instance_of-kind, with_variable-kind, with_a_name-kind, with_a_face-kind}
use Rattle.rules.specs.Shifts.{ShiftFits}
use Rattle.deriv_file.specs.declared.row.Row.{Row}
use Rattle.deriv_file.specs.declared.row.Row.TheVariants as row
use Rattle.derivation.specs.Meanings.{Meaning, thing_at}
use Rattle.derivation.specs.Right.{thing_made}
use Rattle.interned.specs.declared.heads.Head.{Head}
use Rattle.interned.specs.declared.heads.Head.TheVariants as head
use Rattle.interned.specs.Heads.{IsHeaded}
use Rattle.interned.specs.Coding.{thing_after, thing_coded}
use Rattle.interned.proofs.CodingLaws.{opened-coded, made-kind}
use Rattle.book_writer.specs.Chains.{IsPlain, Chain, Spelt, top_of, alone, shifted, pushed, thens}
use Rattle.book_writer.specs.Spelling.{file_of, chain_at, place, spelt_as, spelt_row}
use Rattle.book_writer.proofs.ChainLaws.{thing-kept, thing-next, Added, one-added, IsChain, chained-kept, chain-top, ChainAdded, shift-added, push-added, thens-added}

-- a thing stands in a file where its chain says
pub record Placed (all : List Meaning) (c : Chain) (x : Thing) : Type 0 where
  pub at : thing_at all (top_of c) ≡ Some x
  pub chain : (d : Subst) → x ≡ ASubst d → IsChain all c d

pub placed-kept : (all more : List Meaning) (c : Chain) (x : Thing) → Placed all c x → Placed (all ++ more) c x
placed-kept all more c x p = record {
  at = thing-kept all more (top_of c) x p.at;
  chain = λ d e. chained-kept all more c.links c.base c.shift d.pushed d.shift (p.chain d e);
}

-- rows of a file, the last of which means a thing
pub record RowSpelt (all : List Meaning) (s : Spelt) (x : Thing) : Type 0 where
  pub added : Added all s.rows
  pub placed : Placed (all ++ added.more) s.chain x

chain-spelt : (all : List Meaning) (s : Spelt) (d : Subst) → ChainAdded all s d → RowSpelt all s (ASubst d)
chain-spelt all s d h = record {
  added = h.added;
  placed = record {
    at = chain-top (all ++ h.added.more) s.chain.links s.chain.base s.chain.shift d.pushed d.shift h.chain;
    chain = λ e same. let is : d ≡ e = cc in subst (IsChain (all ++ h.added.more) s.chain) is h.chain;
  };
}

alone-spelt : (all : List Meaning) → 0 < length all → (r : Row) (x : Thing) → thing_made (thing_at all) r ≡ Some x → IsPlain r → (kind_of x ≡ part.Subst → ⊥) → RowSpelt all (alone (length all) r) x
unfolding one-added
alone-spelt all some r x is fit other = record {
  added = one-added all some r x is fit;
  placed = record { at = thing-next all x; chain = λ d e. absurd (other (ap kind_of e)) };
}

cond-some : (b : Bool) (y x : Thing) → cond b (Some y) None ≡ Some x → (b ≡ true) × (y ≡ x)
cond-some true y x e = (refl, cc)
cond-some false y x e = cc

pub record IsPush (a b x : Thing) : Type 0 where
  pub sub : Subst
  pub tree : Tree
  pub sub_is : a ≡ ASubst sub
  pub tree_is : b ≡ ATree tree
  pub whole : ASubst (push sub tree) ≡ x

pub is-push : (a b x : Thing) → pushed_on a b ≡ Some x → IsPush a b x
is-push (ASubst d) (ATree t) x e = record { sub = d; tree = t; sub_is = refl; tree_is = refl; whole = cc }
is-push _ _ x e = cc

pub record IsThen (a b x : Thing) : Type 0 where
  pub first : Subst
  pub second : Subst
  pub first_is : a ≡ ASubst first
  pub second_is : b ≡ ASubst second
  pub whole : ASubst (then first second) ≡ x

is-then : (a b x : Thing) → then_of a b ≡ Some x → IsThen a b x
is-then (ASubst d) (ASubst e) x is = record { first = d; second = e; first_is = refl; second_is = refl; whole = cc }
is-then _ _ x e = cc

headed-row : (known : List Spelt) (h : Head) (cells words : List ℕ) → IsHeaded h cells words → spelt_row known words ≡ spelt_as known (length (file_of known)) h cells
headed-row known h cells words i = rw (i.is, i.says) refl

-- rows of a book whose meanings stand in a file
module _ (all : List Meaning) (some : 0 < length all) (known : List Spelt) (g : Meanings) (are : (k : ℕ) (x : Thing) → g k ≡ Some x → Placed all (chain_at known k) x) where
  abbrev pub at : ℕ → ℕ
  at = place known

  both-placed : (h : Thing → Thing → Option Thing) (j k : ℕ) (x : Thing) → both h (g j) (g k) ≡ Some x → both h (thing_at all (at j)) (thing_at all (at k)) ≡ Some x
  both-placed h j k x e =
      let b = both-some h (g j) (g k) x e in
      ap₂ (both h) (are j b.first b.first_is).at (are k b.second b.second_is).at ∙ b.whole

  pub all-placed : (ks : List ℕ) (xs : List Thing) → meanings g ks ≡ Some xs → meanings (thing_at all) (map at ks) ≡ Some xs
  all-placed [] xs e = e
  all-placed (k ∷ ks) xs e =
      let m = meanings-cons g k ks xs e in
      ap₂ (both consed) (are k m.first m.first_is).at (all-placed ks m.rest m.rest_is) ∙ ap Some (sym m.whole)

  no-tree : (x : Thing) → kind_of x ≡ part.Term → kind_of x ≡ part.Subst → ⊥
  no-tree x is other = cc

  no-context : (x : Thing) → kind_of x ≡ part.Context → kind_of x ≡ part.Subst → ⊥
  no-context x is other = cc

  as-spelt : (h : Head) (cells : List ℕ) (x : Thing) → thing_after g h cells ≡ Some x → ShiftFits x → RowSpelt all (spelt_as known (length all) h cells) x
  as-spelt head.Var (k ∷ []) x e fits =
      let y = cond-some (nat_lt k (2 ^ 32)) (ATree (Var k)) x e in
      subst (RowSpelt all (alone (length all) (row.Var k))) y.1 (alone-spelt all some (row.Var k) (ATree (Var k)) refl (ltb-true k (2 ^ 32) y.0) (λ is. cc))
  as-spelt head.Instance (t ∷ d ∷ []) x e fits = alone-spelt all some (row.Instance (at t) (at d)) x (both-placed instance_of t d x e) tt (no-tree x (both-kind g instance_of part.Term instance_of-kind t d x e))
  as-spelt head.Shift (high ∷ low ∷ shift ∷ n ∷ []) x e fits =
      let y = cond-some (nat_le n greatest_shift) (ASubst (shift_by n)) x e in
      subst (RowSpelt all (shifted (length all) n)) y.1 (chain-spelt all (shifted (length all) n) (shift_by n) (shift-added all some n (leb-true n greatest_shift y.0)))
  as-spelt head.Push (high ∷ low ∷ shift ∷ d ∷ a ∷ []) x e fits =
      let b = both-some pushed_on (g d) (g a) x e in
      let p = is-push b.first b.second x b.whole in
      let s : Spelt = pushed (length all) (chain_at known d) (at a) in
      let chain = (are d b.first b.first_is).chain p.sub p.sub_is in
      let tree : thing_at all (at a) ≡ Some (ATree p.tree) = (are a b.second b.second_is).at ∙ ap Some p.tree_is in
      subst (RowSpelt all s) p.whole (chain-spelt all s (push p.sub p.tree) (push-added all some (chain_at known d) p.sub chain (at a) p.tree tree))
  as-spelt head.Then (high ∷ low ∷ shift ∷ d ∷ e ∷ []) x is fits =
      let b = both-some then_of (g d) (g e) x is in
      let p = is-then b.first b.second x b.whole in
      let s : Spelt = thens (length all) (chain_at known d) (chain_at known e) in
      let first = (are d b.first b.first_is).chain p.first p.first_is in
      let second = (are e b.second b.second_is).chain p.second p.second_is in
      subst (RowSpelt all s) p.whole (chain-spelt all s (then p.first p.second) (thens-added all some (chain_at known d) (chain_at known e) p.first p.second first second (let R : Thing → Type 0 = ShiftFits in subst R (sym p.whole) fits)))
  as-spelt head.CtxNil [] x e fits = alone-spelt all some row.CtxNil x e tt (no-context x (let same : AContext Nil ≡ x = cc in ap kind_of (sym same)))
  as-spelt head.CtxVar (G ∷ A ∷ []) x e fits = alone-spelt all some (row.CtxVar (at G) (at A)) x (both-placed with_variable G A x e) tt (no-context x (both-kind g with_variable part.Context with_variable-kind G A x e))
  as-spelt head.CtxName (G ∷ []) x e fits =
      let o = one-some with_a_name (g G) x e in
      alone-spelt all some (row.CtxName (at G)) x (ap (option_and_then with_a_name) (are G o.first o.first_is).at ∙ o.whole) tt (no-context x (with_a_name-kind o.first x o.whole))
  as-spelt head.CtxFace (G ∷ p ∷ []) x e fits = alone-spelt all some (row.CtxFace (at G) (at p)) x (both-placed with_a_face G p x e) tt (no-context x (both-kind g with_a_face part.Context with_a_face-kind G p x e))
  as-spelt (head.Make op) kids x e fits =
      let o = one-some (made op) (meanings g kids) x e in
      alone-spelt all some (row.Make op (map at kids)) x (ap (option_and_then (made op)) (all-placed kids o.first o.first_is) ∙ o.whole) tt (no-tree x (made-kind g op kids x e))
  as-spelt _ _ x e fits = cc

  pub row-spelt : length all ≡ length (file_of known) → (words : List ℕ) (x : Thing) → thing_coded g words ≡ Some x → ShiftFits x → RowSpelt all (spelt_row known words) x
  row-spelt count words x e fits =
      let o = opened-coded g words x e in
      let same : spelt_row known words ≡ spelt_as known (length all) o.head o.cells = headed-row known o.head o.cells words o.headed ∙ ap (λ n. spelt_as known n o.head o.cells) (sym count) in
      subst (λ (s : Spelt). RowSpelt all s x) (sym same) (as-spelt o.head o.cells x o.after fits)
