-- A context that a row means has no more entries than there are rows before it.
use Rattle.std.proofs.Common.{◌≡◌, ◌<◌, ◌≤◌, ℕ, zero, suc, List, [], ◌∷◌, length, take, refl, sym, ◌∙◌, ap, subst, arith, Some, None}
use Rattle.std.specs.Prelude.{slice_get, nat_lt, nat_le, cond, Bool, true, false}
use Rattle.std.proofs.lemmas.Option.{slice_get_within}
use Rattle.trees.specs.Trees.{Tree, Subst}
use Rattle.trees.specs.Judgements.{Context, Nil, WithVar, WithName, WithFace}
use Rattle.trees.specs.declared.kind.PartKind.TheVariants as part
use Rattle.trees.specs.Things.{Thing, ATree, ASubst, AContext, Meanings, kind_of, instance_of, pushed_on, then_of, with_variable, with_a_name, with_a_face}
use Rattle.rows.proofs.OptionLaws.{both-some, one-some}
use Rattle.rows.proofs.TableLaws.{slice_get-take, length-built}
use Rattle.interned.specs.declared.heads.Head.{Head}
use Rattle.interned.specs.declared.heads.Head.TheVariants as head
use Rattle.interned.specs.Coding.{thing_after}
use Rattle.interned.specs.Coded.{AreCoded, things_coded, thing_of}
use Rattle.interned.proofs.CodingLaws.{opened-coded, made-kind}
use Rattle.interned.proofs.CodedLaws.{row_there}
use Rattle.substitution_laws.specs.Spans.{size_of}

-- contexts among these are no longer than their places
Short : ℕ → Meanings → Type 0
Short k f = (j : ℕ) (G : Context) → f j ≡ Some (AContext G) → size_of G < k

no_context : (x : Thing) (G : Context) → kind_of x ≡ part.Term → x ≡ AContext G → ⊥
no_context (ATree t) G h e = cc
no_context (ASubst d) G h e = cc
no_context (AContext H) G h e = cc

conditional_tree : (b : Bool) (t : Tree) (G : Context) → cond b (Some (ATree t)) None ≡ Some (AContext G) → ⊥
conditional_tree true t G e = cc
conditional_tree false t G e = cc

conditional_subst : (b : Bool) (d : Subst) (G : Context) → cond b (Some (ASubst d)) None ≡ Some (AContext G) → ⊥
conditional_subst true d G e = cc
conditional_subst false d G e = cc

no_instance : (x y : Thing) (G : Context) → instance_of x y ≡ Some (AContext G) → ⊥
no_instance (ATree t) (ASubst d) G e = cc
no_instance (ATree t) (ATree u) G e = cc
no_instance (ATree t) (AContext H) G e = cc
no_instance (ASubst d) y G e = cc
no_instance (AContext H) y G e = cc

no_push : (x y : Thing) (G : Context) → pushed_on x y ≡ Some (AContext G) → ⊥
no_push (ASubst d) (ATree t) G e = cc
no_push (ASubst d) (ASubst f) G e = cc
no_push (ASubst d) (AContext H) G e = cc
no_push (ATree t) y G e = cc
no_push (AContext H) y G e = cc

no_then : (x y : Thing) (G : Context) → then_of x y ≡ Some (AContext G) → ⊥
no_then (ASubst d) (ASubst f) G e = cc
no_then (ASubst d) (ATree t) G e = cc
no_then (ASubst d) (AContext H) G e = cc
no_then (ATree t) y G e = cc
no_then (AContext H) y G e = cc

-- one entry more, on a context that is shorter
Shorter : ℕ → Thing → Type 0
Shorter k x = (H : Context) → x ≡ AContext H → size_of H < k

one_variable : (k : ℕ) (x y : Thing) (G : Context) → Shorter k x → with_variable x y ≡ Some (AContext G) → size_of G ≤ k
unfolding Shorter
one_variable k (AContext H) (ATree t) G h e =
    let same : WithVar H t ≡ G = cc in
    let less = h H refl in
    subst (λ K. size_of K ≤ k) same (omega (arith, less))
one_variable k (AContext H) (ASubst d) G h e = cc
one_variable k (AContext H) (AContext K) G h e = cc
one_variable k (ATree t) y G h e = cc
one_variable k (ASubst d) y G h e = cc

one_name : (k : ℕ) (x : Thing) (G : Context) → Shorter k x → with_a_name x ≡ Some (AContext G) → size_of G ≤ k
unfolding Shorter
one_name k (AContext H) G h e =
    let same : WithName H ≡ G = cc in
    let less = h H refl in
    subst (λ K. size_of K ≤ k) same (omega (arith, less))
one_name k (ATree t) G h e = cc
one_name k (ASubst d) G h e = cc

one_face : (k : ℕ) (x y : Thing) (G : Context) → Shorter k x → with_a_face x y ≡ Some (AContext G) → size_of G ≤ k
unfolding Shorter
one_face k (AContext H) (ATree t) G h e =
    let same : WithFace H t ≡ G = cc in
    let less = h H refl in
    subst (λ K. size_of K ≤ k) same (omega (arith, less))
one_face k (AContext H) (ASubst d) G h e = cc
one_face k (AContext H) (AContext K) G h e = cc
one_face k (ATree t) y G h e = cc
one_face k (ASubst d) y G h e = cc

shorter_at : (k : ℕ) (f : Meanings) (j : ℕ) (x : Thing) → Short k f → f j ≡ Some x → Shorter k x
unfolding Short Shorter
shorter_at k f j x h e = λ H same. h j H (e ∙ ap Some same)

size_after : (k : ℕ) (f : Meanings) → Short k f → (h : Head) (cells : List ℕ) (G : Context) → thing_after f h cells ≡ Some (AContext G) → size_of G ≤ k
size_after k f short head.Var (i ∷ []) G e = absurd (conditional_tree (nat_lt i _) _ G e)
size_after k f short head.Instance (t ∷ d ∷ []) G e =
    let b = both-some instance_of (f t) (f d) (AContext G) e in absurd (no_instance b.first b.second G b.whole)
size_after k f short head.Shift (high ∷ low ∷ shift ∷ n ∷ []) G e = absurd (conditional_subst (nat_le n _) _ G e)
size_after k f short head.Push (high ∷ low ∷ shift ∷ d ∷ a ∷ []) G e =
    let b = both-some pushed_on (f d) (f a) (AContext G) e in absurd (no_push b.first b.second G b.whole)
size_after k f short head.Then (high ∷ low ∷ shift ∷ d ∷ s ∷ []) G e =
    let b = both-some then_of (f d) (f s) (AContext G) e in absurd (no_then b.first b.second G b.whole)
size_after k f short head.CtxNil [] G e = let same : Nil ≡ G = cc in subst (λ K. size_of K ≤ k) same (omega arith)
size_after k f short head.CtxVar (g ∷ a ∷ []) G e =
    let b = both-some with_variable (f g) (f a) (AContext G) e in one_variable k b.first b.second G (shorter_at k f g b.first short b.first_is) b.whole
size_after k f short head.CtxName (g ∷ []) G e =
    let b = one-some with_a_name (f g) (AContext G) e in one_name k b.first G (shorter_at k f g b.first short b.first_is) b.whole
size_after k f short head.CtxFace (g ∷ p ∷ []) G e =
    let b = both-some with_a_face (f g) (f p) (AContext G) e in one_face k b.first b.second G (shorter_at k f g b.first short b.first_is) b.whole
size_after k f short (head.Make op) kids G e = absurd (no_context (AContext G) G (made-kind f op kids (AContext G) e) refl)
size_after k f short _ _ G e = cc

words_at : (rows : List (List ℕ)) (k : ℕ) → k < length rows → (words : List ℕ) × (slice_get rows k ≡ Some words)
words_at [] k lt = absurd (omega arith)
words_at (row ∷ rows) zero lt = (row, refl)
words_at (row ∷ rows) (suc k) lt = words_at rows k (omega arith)

sizes : (rows : List (List ℕ)) → AreCoded rows → (n k : ℕ) (G : Context) → k < n → slice_get (things_coded rows) k ≡ Some (AContext G) → size_of G ≤ k
unfolding Short
sizes rows coded zero k G lt e = absurd (omega arith)
sizes rows coded (suc n) k G lt e =
    let xs = things_coded rows in
    let inside = slice_get_within xs k (AContext G) e in
    let w = words_at rows k (omega (arith, inside, length-built thing_of rows)) in
    let row = row_there rows coded k w.0 w.1 in
    let both : Some row.thing ≡ Some (AContext G) = sym row.is ∙ e in
    let same : row.thing ≡ AContext G = cc in
    let opened = opened-coded (slice_get (take k xs)) w.0 row.thing row.before in
    size_after k (slice_get (take k xs))
    (λ j H there. let t = slice_get-take k xs j (AContext H) there in let le = sizes rows coded n j H (omega (arith, t.0)) t.1 in let less = t.0 in omega (arith, le, less))
    opened.head opened.cells G (opened.after ∙ ap Some same)

pub context_size : (rows : List (List ℕ)) → AreCoded rows → (most k : ℕ) (G : Context) → length rows ≤ most → slice_get (things_coded rows) k ≡ Some (AContext G) → size_of G ≤ most
context_size rows coded most k G few e =
    let inside = slice_get_within (things_coded rows) k (AContext G) e in
    let le = sizes rows coded (suc k) k G (omega arith) e in
    let same = length-built thing_of rows in
    omega (arith, inside, le, same, few)
