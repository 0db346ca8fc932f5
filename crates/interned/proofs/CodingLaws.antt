-- What coded rows mean: it stays as rows come in, and it is what the row says from which the words were made.
use Rattle.std.proofs.Common.{◌≡◌, ℕ, ◌^◌, ◌<◌, nat_lt, List, [], ◌∷◌, length, refl, ◌∙◌, ap, arith, Some}
use Rattle.std.specs.Prelude.{option_and_then}
use Rattle.std.specs.List.{All}
use Rattle.std.proofs.lemmas.List.Elements.{All-nil}
use Rattle.std.proofs.lemmas.Option.{cond_some}
use Rattle.trees.specs.declared.kind.PartKind.TheVariants as part
use Rattle.trees.specs.declared.op.Op.{Op}
use Rattle.trees.specs.Trees.{Var}
use Rattle.trees.specs.Things.{Thing, ATree, ASubst, AContext, Meanings, Kept, kind_of, made, meanings, over_kids, only_trees, instance_of, pushed_on, then_of, with_variable, with_a_name, with_a_face}
use Rattle.trees.proofs.Meanings.{meanings-kept}
use Rattle.rows.specs.Views.{IsSubst, IsContext, term_meaning, ctx_meaning, row_meaning, term_names}
use Rattle.rows.specs.declared.views.TermRow.{TermRow}
use Rattle.rows.specs.declared.views.TermRow.TheVariants as term
use Rattle.rows.specs.declared.views.SubRow.TheVariants as sub
use Rattle.rows.specs.declared.views.CtxRow.{CtxRow}
use Rattle.rows.specs.declared.views.CtxRow.TheVariants as ctx
use Rattle.rows.specs.declared.views.Row.{Row}
use Rattle.rows.specs.declared.views.Row.TheVariants as row
use Rattle.rows.proofs.OptionLaws.{one-some}
use Rattle.rows.proofs.MeaningLaws.{Mean, both-kept, one-kept, meanings-mean, both-mean, kind-same, both-kind, over_kids-kind, instance_of-kind, pushed_on-kind, then_of-kind, with_variable-kind, with_a_name-kind, with_a_face-kind}
use Rattle.interned.specs.declared.heads.Head.{Head}
use Rattle.interned.specs.declared.heads.Head.TheVariants as head
use Rattle.interned.specs.Heads.{head_coded, IsHeaded}
use Rattle.interned.specs.Coding.{thing_after, thing_coded}

-- words with a head mean what the head means with the cells behind it

pub thing_headed : (f : Meanings) (h : Head) (cells words : List ℕ) → IsHeaded h cells words → thing_coded f words ≡ thing_after f h cells
thing_headed f h cells words headed = rw (headed.is, headed.says) refl

-- the head and the cells of words that mean something
pub record Opened (f : Meanings) (words : List ℕ) (x : Thing) : Type 0 where
  pub head : Head
  pub cells : List ℕ
  pub headed : IsHeaded head cells words
  pub after : thing_after f head cells ≡ Some x

pub opened-coded : (f : Meanings) (words : List ℕ) (x : Thing) → thing_coded f words ≡ Some x → Opened f words x
opened-coded f [] x e = cc
opened-coded f (word ∷ cells) x e =
    let o = one-some (λ h. thing_after f h cells) (head_coded (word ∷ cells)) x e in
    record { head = o.first; cells = cells; headed = record { word = word; is = refl; says = o.first_is }; after = o.whole }

-- it stays as rows come in

thing_after-kept : (f g : Meanings) → Kept f g → (h : Head) (cells : List ℕ) (x : Thing) → thing_after f h cells ≡ Some x → thing_after g h cells ≡ Some x
thing_after-kept f g kept head.Var (k ∷ []) x e = e
thing_after-kept f g kept head.Instance (t ∷ d ∷ []) x e = both-kept f g kept instance_of t d x e
thing_after-kept f g kept head.Shift (high ∷ low ∷ shift ∷ n ∷ []) x e = e
thing_after-kept f g kept head.Push (high ∷ low ∷ shift ∷ d ∷ a ∷ []) x e = both-kept f g kept pushed_on d a x e
thing_after-kept f g kept head.Then (high ∷ low ∷ shift ∷ d ∷ e ∷ []) x is = both-kept f g kept then_of d e x is
thing_after-kept f g kept head.CtxNil [] x e = e
thing_after-kept f g kept head.CtxVar (G ∷ A ∷ []) x e = both-kept f g kept with_variable G A x e
thing_after-kept f g kept head.CtxName (G ∷ []) x e = one-kept f g kept with_a_name G x e
thing_after-kept f g kept head.CtxFace (G ∷ p ∷ []) x e = both-kept f g kept with_a_face G p x e
thing_after-kept f g kept (head.Make op) kids x e =
    let o = one-some (made op) (meanings f kids) x e in
    ap (option_and_then (made op)) (meanings-kept f g kept kids o.first o.first_is) ∙ o.whole
thing_after-kept f g kept _ _ x e = cc

pub thing_coded-kept : (f g : Meanings) → Kept f g → (words : List ℕ) (x : Thing) → thing_coded f words ≡ Some x → thing_coded g words ≡ Some x
thing_coded-kept f g kept words x e =
    let o = opened-coded f words x e in
    thing_headed g o.head o.cells words o.headed ∙ thing_after-kept f g kept o.head o.cells x o.after

-- the rows that are named mean something

pub term_names-mean : (f : Meanings) (r : TermRow) (x : Thing) → term_meaning f r ≡ Some x → All (Mean f) (term_names r)
term_names-mean f (term.Var k) x e = All-nil (Mean f)
term_names-mean f (term.Make op kids) x e =
    let o = one-some (made op) (meanings f kids.now) x e in
    meanings-mean f kids.now o.first o.first_is
term_names-mean f (term.Instance t d) x e = both-mean f instance_of t.0 d.0 x e

-- rows tell the kind of what they mean

pub made-kind : (f : Meanings) (op : Op) (kids : List ℕ) (x : Thing) → option_and_then (made op) (meanings f kids) ≡ Some x → kind_of x ≡ part.Term
made-kind f op kids x e =
    let o = one-some (made op) (meanings f kids) x e in
    let t = one-some (over_kids op) (only_trees o.first) x o.whole in
    over_kids-kind op t.first x t.whole

pub term_meaning-kind : (f : Meanings) (r : TermRow) (x : Thing) → term_meaning f r ≡ Some x → kind_of x ≡ part.Term
term_meaning-kind f (term.Var k) x e = kind-same _ x e
term_meaning-kind f (term.Make op kids) x e = made-kind f op kids.now x e
term_meaning-kind f (term.Instance t d) x e = both-kind f instance_of part.Term instance_of-kind t.0 d.0 x e

pub ctx_meaning-kind : (f : Meanings) (r : CtxRow) (x : Thing) → ctx_meaning f r ≡ Some x → kind_of x ≡ part.Context
ctx_meaning-kind f ctx.Nil x e = kind-same _ x e
ctx_meaning-kind f (ctx.Var G A) x e = both-kind f with_variable part.Context with_variable-kind G.0 A.0 x e
ctx_meaning-kind f (ctx.Name G) x e = let o = one-some with_a_name (f G.0) x e in with_a_name-kind o.first x o.whole
ctx_meaning-kind f (ctx.Face G p) x e = both-kind f with_a_face part.Context with_a_face-kind G.0 p.0 x e

-- a row that means a context is a row of a context
pub row_of_context : (f : Meanings) (r : Row) → IsContext (row_meaning f r) → (x : CtxRow) × (r ≡ row.Context x)
row_of_context f (row.Term r) (G, e) = let kind = term_meaning-kind f r (AContext G) e in cc
row_of_context f (row.Subst (sub.Shift n)) (G, e) = cc
row_of_context f (row.Subst (sub.Push d a)) (G, e) = let kind = both-kind f pushed_on part.Subst pushed_on-kind d.0 a.0 (AContext G) e in cc
row_of_context f (row.Subst (sub.Then d e)) (G, is) = let kind = both-kind f then_of part.Subst then_of-kind d.0 e.0 (AContext G) is in cc
row_of_context f (row.Context r) (G, e) = (r, refl)

-- a head of a substitution has the cells of its size behind it
cells_of_subst : (f : Meanings) (h : Head) (cells : List ℕ) → IsSubst (thing_after f h cells) → 2 < length cells
cells_of_subst f head.Shift (high ∷ low ∷ shift ∷ rest) (d, e) = omega arith
cells_of_subst f head.Push (high ∷ low ∷ shift ∷ rest) (d, e) = omega arith
cells_of_subst f head.Then (high ∷ low ∷ shift ∷ rest) (d, e) = omega arith
cells_of_subst f head.Var (k ∷ []) (d, e) = let y = cond_some (nat_lt k (2 ^ 32)) (ATree (Var k)) (ASubst d) e in cc
cells_of_subst f (head.Make op) kids (d, e) = let kind = made-kind f op kids (ASubst d) e in cc
cells_of_subst f head.Instance (t ∷ s ∷ []) (d, e) = let kind = both-kind f instance_of part.Term instance_of-kind t s (ASubst d) e in cc
cells_of_subst f head.CtxNil [] (d, e) = cc
cells_of_subst f head.CtxVar (G ∷ A ∷ []) (d, e) = let kind = both-kind f with_variable part.Context with_variable-kind G A (ASubst d) e in cc
cells_of_subst f head.CtxName (G ∷ []) (d, e) = let o = one-some with_a_name (f G) (ASubst d) e in let kind = with_a_name-kind o.first (ASubst d) o.whole in cc
cells_of_subst f head.CtxFace (G ∷ p ∷ []) (d, e) = let kind = both-kind f with_a_face part.Context with_a_face-kind G p (ASubst d) e in cc
cells_of_subst f _ _ (d, e) = cc

-- the words of a substitution are its head, its size and more
pub words_of_subst : (f : Meanings) (words : List ℕ) → IsSubst (thing_coded f words) → 3 < length words
words_of_subst f [] (d, e) = cc
words_of_subst f (word ∷ cells) (d, e) =
    let o = one-some (λ h. thing_after f h cells) (head_coded (word ∷ cells)) (ASubst d) e in
    omega (arith, cells_of_subst f o.first cells (d, o.whole))
