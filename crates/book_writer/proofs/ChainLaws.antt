-- What the rows of a substitution in a file mean, and that they are right.
use Rattle.std.proofs.Common.{◌≡◌, ℕ, zero, suc, ◌+◌, ◌<◌, ◌≤◌, List, [], ◌∷◌, ◌++◌, length, refl, sym, ◌∙◌, ap, ap₂, subst, arith, Some, length-append, append_assoc}
use Rattle.std.specs.Prelude.{slice_get, option_and_then}
use Rattle.std.specs.List.{All}
use Rattle.std.proofs.lemmas.List.{append-nil}
use Rattle.std.proofs.lemmas.List.Elements.{All-nil, All-cons, All-append}
use Rattle.trees.specs.Trees.{Tree, Trees, NoTrees, More, Subst, apply, shift_by, push, then, then_from, without, greatest_shift}
use Rattle.trees.specs.Things.{Thing, ATree, ASubst, both, instance_of, pushed_on}
use Rattle.rows.proofs.TableLaws.{slice_get-prefix, slice_get-next}
use Rattle.rows.proofs.OptionLaws.{one-some}
use Rattle.deriv_file.specs.declared.row.Row.{Row}
use Rattle.deriv_file.specs.declared.row.Row.TheVariants as row
use Rattle.derivation.specs.Meanings.{Meaning, Means, thing_of, thing_at}
use Rattle.derivation.specs.Right.{thing_made, RightRow, RightRows}
use Rattle.derivation.proofs.PrefixLaws.{rows_whole}
use Rattle.book_writer.specs.Chains.{IsPlain, Link, Chain, Spelt, first_of, top_of, shifted, pushed, linked, cut, then_link, then_links, thens}

-- rows of a file, and what they mean

pub thing-kept : (all more : List Meaning) (k : ℕ) (x : Thing) → thing_at all k ≡ Some x → thing_at (all ++ more) k ≡ Some x
thing-kept all more k x e =
    let o = one-some thing_of (slice_get all k) x e in
    ap (option_and_then thing_of) (slice_get-prefix all more k o.first o.first_is) ∙ o.whole

pub thing-next : (all : List Meaning) (x : Thing) → thing_at (all ++ Means x ∷ []) (length all) ≡ Some x
thing-next all x = ap (option_and_then thing_of) (slice_get-next all [] (Means x))

-- a row of a tree, a substitution or a context is right where it means something
pub thing-right : (all : List Meaning) → 0 < length all → (r : Row) (x : Thing) → thing_made (thing_at all) r ≡ Some x → RightRow all r (Means x)
thing-right [] some r x e = absurd (omega arith)
thing-right (m ∷ all) some (row.Header v) x e = cc
thing-right (m ∷ all) some (row.Node rule parts premises) x e = cc
thing-right (m ∷ all) some (row.Root node) x e = cc
thing-right (m ∷ all) some _ x e = (x, e, refl)

-- rows that are right after these, and what they mean
pub record Added (all : List Meaning) (rows : List Row) : Type 0 where
  pub more : List Meaning
  pub right : RightRows all rows (all ++ more)
  pub count : length more ≡ length rows
  pub fit : All IsPlain rows

pub nothing-added : (all : List Meaning) → Added all []
nothing-added all = record { more = []; right = append-nil all; count = refl; fit = All-nil IsPlain }

unfoldable pub one-added : (all : List Meaning) → 0 < length all → (r : Row) (x : Thing) → thing_made (thing_at all) r ≡ Some x → IsPlain r → Added all (r ∷ [])
one-added all some r x e fit = record {
  more = Means x ∷ [];
  right = (Means x, thing-right all some r x e, refl);
  count = refl;
  fit = All-cons IsPlain r [] fit (All-nil IsPlain);
}

pub added-after : (all : List Meaning) (rows others : List Row) (a : Added all rows) → Added (all ++ a.more) others → Added all (rows ++ others)
added-after all rows others a b = record {
  more = a.more ++ b.more;
  right = rows_whole all rows others (all ++ a.more) (all ++ (a.more ++ b.more)) a.right (subst (RightRows (all ++ a.more) others) (append_assoc all a.more b.more) b.right);
  count = length-append a.more b.more ∙ ap₂ (λ m n. m + n) a.count b.count ∙ sym (length-append rows others);
  fit = All-append IsPlain rows others a.fit b.fit;
}

-- A chain means the substitution of these trees and that shift: so does each of its rows.
abbrev pub Chained : List Meaning → List Link → ℕ → ℕ → Trees → ℕ → Type 0
Chained all [] base shift NoTrees n = (n ≡ shift) × (thing_at all base ≡ Some (ASubst (shift_by shift)))
Chained all (l ∷ links) base shift (More t rest) n =
    (thing_at all l.sub ≡ Some (ASubst (record { pushed = More t rest; shift = n }))) ×
    (thing_at all l.tree ≡ Some (ATree t)) × Chained all links base shift rest n
Chained all _ base shift _ n = ⊥

abbrev pub IsChain : List Meaning → Chain → Subst → Type 0
IsChain all c d = Chained all c.links c.base c.shift d.pushed d.shift

pub chained-kept : (all more : List Meaning) (links : List Link) (base shift : ℕ) (ts : Trees) (n : ℕ) → Chained all links base shift ts n → Chained (all ++ more) links base shift ts n
chained-kept all more [] base shift NoTrees n c = (c.0, thing-kept all more base (ASubst (shift_by shift)) c.1)
chained-kept all more [] base shift (More t rest) n c = absurd c
chained-kept all more (l ∷ links) base shift NoTrees n c = absurd c
chained-kept all more (l ∷ links) base shift (More t rest) n c = (
  thing-kept all more l.sub (ASubst (record { pushed = More t rest; shift = n })) c.0,
  thing-kept all more l.tree (ATree t) c.1,
  chained-kept all more links base shift rest n c.2,
)

pub chain-top : (all : List Meaning) (links : List Link) (base shift : ℕ) (ts : Trees) (n : ℕ) → Chained all links base shift ts n → thing_at all (first_of links base) ≡ Some (ASubst (record { pushed = ts; shift = n }))
chain-top all [] base shift NoTrees n c = c.1 ∙ ap (λ k. Some (ASubst (shift_by k))) (sym c.0)
chain-top all [] base shift (More t rest) n c = absurd c
chain-top all (l ∷ links) base shift NoTrees n c = absurd c
chain-top all (l ∷ links) base shift (More t rest) n c = c.0

-- the shift of a chain is that of the substitution
chain-shift : (all : List Meaning) (links : List Link) (base shift : ℕ) (ts : Trees) (n : ℕ) → Chained all links base shift ts n → n ≡ shift
chain-shift all [] base shift NoTrees n c = c.0
chain-shift all [] base shift (More t rest) n c = absurd c
chain-shift all (l ∷ links) base shift NoTrees n c = absurd c
chain-shift all (l ∷ links) base shift (More t rest) n c = chain-shift all links base shift rest n c.2

-- rows that are right, with a chain that means a substitution
pub record ChainAdded (all : List Meaning) (s : Spelt) (d : Subst) : Type 0 where
  pub added : Added all s.rows
  pub chain : IsChain (all ++ added.more) s.chain d

pub shift-added : (all : List Meaning) → 0 < length all → (n : ℕ) → n ≤ greatest_shift → ChainAdded all (shifted (length all) n) (shift_by n)
unfolding one-added
shift-added all some n fit = record {
  added = one-added all some (row.Shift n) (ASubst (shift_by n)) refl fit;
  chain = (refl, thing-next all (ASubst (shift_by n)));
}

pub push-added : (all : List Meaning) → 0 < length all → (c : Chain) (d : Subst) → IsChain all c d → (tree : ℕ) (t : Tree) → thing_at all tree ≡ Some (ATree t) → ChainAdded all (pushed (length all) c tree) (push d t)
unfolding one-added
push-added all some c d is tree t tree_is =
    let y : Thing = ASubst (push d t) in
    let top = chain-top all c.links c.base c.shift d.pushed d.shift is in
    let made : thing_made (thing_at all) (row.Push (top_of c) tree) ≡ Some y = ap₂ (both pushed_on) top tree_is in
    record {
      added = one-added all some (row.Push (top_of c) tree) y made tt;
      chain = (
        thing-next all y,
        thing-kept all (Means y ∷ []) tree (ATree t) tree_is,
        chained-kept all (Means y ∷ []) c.links c.base c.shift d.pushed d.shift is,
      );
    }

pub cut-added : (all : List Meaning) → 0 < length all → (n : ℕ) (links : List Link) (base shift : ℕ) (ts : Trees) (k : ℕ) → Chained all links base shift ts k → (without n ts k).shift ≤ greatest_shift → ChainAdded all (cut (length all) n links base shift) (without n ts k)
unfolding nothing-added
cut-added all some zero [] base shift NoTrees k c few = record {
  added = nothing-added all;
  chain = subst (λ ms. Chained ms [] base shift NoTrees (k + 0)) (sym (append-nil all)) (omega (arith, c.0), c.1);
}
cut-added all some zero [] base shift (More t rest) k c few = absurd c
cut-added all some zero (l ∷ links) base shift NoTrees k c few = absurd c
cut-added all some zero (l ∷ links) base shift (More t rest) k c few = record {
  added = nothing-added all;
  chain = subst (λ ms. Chained ms (l ∷ links) base shift (More t rest) k) (sym (append-nil all)) c;
}
cut-added all some (suc n) [] base shift NoTrees k c few = subst (λ m. ChainAdded all (cut (length all) (suc n) [] base shift) (shift_by (m + suc n))) (sym c.0) (shift-added all some (shift + suc n) (omega (arith, c.0)))
cut-added all some (suc n) [] base shift (More t rest) k c few = absurd c
cut-added all some (suc n) (l ∷ links) base shift NoTrees k c few = absurd c
cut-added all some (suc n) (l ∷ links) base shift (More t rest) k c few = cut-added all some n links base shift rest k c.2 few

-- a tree more, under the second substitution
module _ (all : List Meaning) (some : 0 < length all) (second : ℕ) (e : Subst) (second_is : thing_at all second ≡ Some (ASubst e)) where
  then-link-added : (link : Link) (t : Tree) → thing_at all link.tree ≡ Some (ATree t) → (s : Spelt) (d : Subst) → ChainAdded all s d → ChainAdded all (then_link (length all) link second s) (push d (apply t e))
  unfolding one-added added-after
  then-link-added link t tree_is s d h =
      let ms : List Meaning = all ++ h.added.more in
      let at : ℕ = length all + length s.rows in
      let at_is : length ms ≡ at = omega (arith, length-append all h.added.more, h.added.count) in
      let x : Thing = ATree (apply t e) in
      let y : Thing = ASubst (push d (apply t e)) in
      let first : Row = row.Instance link.tree second in
      let last : Row = row.Push (top_of s.chain) at in
      let some_ms : 0 < length ms = omega (arith, length-append all h.added.more) in
      let made : thing_made (thing_at ms) first ≡ Some x = ap₂ (both instance_of) (thing-kept all h.added.more link.tree (ATree t) tree_is) (thing-kept all h.added.more second (ASubst e) second_is) in
      let here : thing_at (ms ++ Means x ∷ []) at ≡ Some x = ap (thing_at (ms ++ Means x ∷ [])) (sym at_is) ∙ thing-next ms x in
      let top : thing_at (ms ++ Means x ∷ []) (top_of s.chain) ≡ Some (ASubst d) = thing-kept ms (Means x ∷ []) (top_of s.chain) (ASubst d) (chain-top ms s.chain.links s.chain.base s.chain.shift d.pushed d.shift h.chain) in
      let pushed : thing_made (thing_at (ms ++ Means x ∷ [])) last ≡ Some y = ap₂ (both pushed_on) top here in
      let one = one-added ms some_ms first x made tt in
      let two = one-added (ms ++ Means x ∷ []) (omega (arith, length-append ms (Means x ∷ []))) last y pushed tt in
      let both_rows : Added ms (first ∷ last ∷ []) = added-after ms (first ∷ []) (last ∷ []) one two in
      let place : length (ms ++ Means x ∷ []) ≡ at + 1 = length-append ms (Means x ∷ []) ∙ ap (λ n. n + 1) at_is in
      let end : List Meaning = (ms ++ Means x ∷ []) ++ Means y ∷ [] in
      let sub_is : thing_at end (at + 1) ≡ Some y = ap (thing_at end) (sym place) ∙ thing-next (ms ++ Means x ∷ []) y in
      let same : all ++ (h.added.more ++ (Means x ∷ Means y ∷ [])) ≡ end = sym (append_assoc all h.added.more (Means x ∷ Means y ∷ [])) ∙ sym (append_assoc ms (Means x ∷ []) (Means y ∷ [])) in
      record {
        added = added-after all s.rows (first ∷ last ∷ []) h.added both_rows;
        chain =
            subst (λ (es : List Meaning). Chained es (linked (at + 1) s.chain at).links s.chain.base s.chain.shift (More (apply t e) d.pushed) d.shift) (sym same) (
              sub_is,
              thing-kept (ms ++ Means x ∷ []) (Means y ∷ []) at x here,
              chained-kept (ms ++ Means x ∷ []) (Means y ∷ []) s.chain.links s.chain.base s.chain.shift d.pushed d.shift
                  (chained-kept ms (Means x ∷ []) s.chain.links s.chain.base s.chain.shift d.pushed d.shift h.chain),
            );
      }

  pub then-links-added : (links : List Link) (base shift : ℕ) (ts : Trees) (n : ℕ) → Chained all links base shift ts n → (start : Spelt) → ChainAdded all start (without n e.pushed e.shift) → ChainAdded all (then_links (length all) links second start) (then_from ts n e)
  then-links-added [] base shift NoTrees n c start h = h
  then-links-added [] base shift (More t rest) n c start h = absurd c
  then-links-added (l ∷ links) base shift NoTrees n c start h = absurd c
  then-links-added (l ∷ links) base shift (More t rest) n c start h =
      then-link-added l t c.1 (then_links (length all) links second start) (then_from rest n e) (then-links-added links base shift rest n c.2 start h)

then-shift : (ts : Trees) (n : ℕ) (e : Subst) → (then_from ts n e).shift ≡ (without n e.pushed e.shift).shift
then-shift NoTrees n e = refl
then-shift (More t rest) n e = then-shift rest n e

pub thens-added : (all : List Meaning) → 0 < length all → (first second : Chain) (d e : Subst) → IsChain all first d → IsChain all second e → (then d e).shift ≤ greatest_shift → ChainAdded all (thens (length all) first second) (then d e)
thens-added all some first second d e is_first is_second few =
    let c = is_first in
    let shift_is : d.shift ≡ first.shift = chain-shift all first.links first.base first.shift d.pushed d.shift c in
    let start : ChainAdded all (cut (length all) first.shift second.links second.base second.shift) (without d.shift e.pushed e.shift) = subst (λ n. ChainAdded all (cut (length all) n second.links second.base second.shift) (without d.shift e.pushed e.shift)) shift_is (cut-added all some d.shift second.links second.base second.shift e.pushed e.shift is_second (omega (arith, then-shift d.pushed d.shift e))) in
    then-links-added all some (top_of second) e (chain-top all second.links second.base second.shift e.pushed e.shift is_second) first.links first.base first.shift d.pushed d.shift c (cut (length all) first.shift second.links second.base second.shift) start
