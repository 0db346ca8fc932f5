-- Terms that are traced.
use Rattle.std.proofs.Common.{◌≡◌, ℕ, List, [], ◌∷◌, refl, sym, ◌∙◌, ap, subst, Option, None, Some, false}
use Rattle.trees.specs.Trees.{Tree, Subst, Var, Make, apply, then, id}
use Rattle.trees.specs.Judgements.{Context, WithVar, WithName, WithFace, trees}
use Rattle.trees.specs.Language.{Ty, TyEq, Tm, TmEq, Sb}
use Rattle.substitution.proofs.ThenLaws.{apply-then, apply-id}
use Rattle.rules.specs.Table.{at, i0, i1, app, equiv, fst}
use Rattle.book.specs.Contents.{Contents}
use Rattle.book.specs.Shown.{Extends}
use Rattle.book.specs.declared.kernel.NodeId.{NodeId}
use Rattle.typed_nodes.specs.Typed.{Says}
use Rattle.literal_types.specs.declared.entries.Entry.{Entry}
use Rattle.literal_types.specs.declared.entries.Entry.TheVariants as entry
use Rattle.literal_types.specs.declared.waiting.Waiting.{Waiting}
use Rattle.literal_types.specs.declared.waiting.Waiting.TheVariants as waiting
use Rattle.literal_types.specs.Substitutions.{IsFrom, past_entry}
use Rattle.literal_types.specs.Ways.{HasVariable}
use Rattle.literal_types.specs.Waits.{IsEntered, StandsTyped, Waits}
use Rattle.literal_types.proofs.GrowthLaws.{entry_grows}
use Rattle.literal_types.proofs.WaitLaws.{same_sub, waits_all, waits_same}
use Rattle.literal_terms.specs.declared.forms.TermForm.{TermForm}
use Rattle.literal_terms.specs.declared.forms.TermForm.TheVariants as form
use Rattle.literal_terms.specs.declared.traces.Trace.{Trace}
use Rattle.literal_terms.specs.Forms.{HasOther, IsFormed, is_literal}
use Rattle.literal_terms.specs.Traces.{Fits, IsJoined, IsTraced}

-- trees that are no literal form

other_is_none : (t : Tree) → HasOther t → is_literal t ≡ false
other_is_none (Var k) h = absurd h
other_is_none (Make op kids) h = h

other_under : (a : Tree) (d : Subst) → HasOther a → HasOther (apply a d)
other_under (Var k) d h = absurd h
other_under (Make op kids) d h = h

other_past : (e : Entry) (a : Tree) → HasOther a → HasOther (past_entry e a)
other_past (entry.Variable ty) a h = other_under a _ h
other_past entry.Name a h = other_under a _ h
other_past (entry.Face row) a h = h

pub other_waits : (b : Contents) (ws : List Waiting) (H : Context) (T : Tree) (K : Context) (A : Tree) → HasOther A → Waits b ws H T K A → is_literal T ≡ false
other_waits b [] H T K A h w = other_is_none T (subst HasOther (sym w.1) h)
other_waits b (waiting.Sub node ∷ ws) H T K A h w = let (M, d, says, rest) = w in other_waits b ws H T M (apply A d) (other_under A d h) rest
other_waits b (waiting.Past below e ∷ ws) H T K A h w = let (M, is, from, rest) = w in other_waits b ws H T M (past_entry e A) (other_past e A h) rest

-- what was said of a book is said of those that extend it

pub waits_grow : {b c : Contents} → Extends b c → (ws : List Waiting) (H : Context) (T : Tree) (K : Context) (A : Tree) → Waits b ws H T K A → Waits c ws H T K A
waits_grow e [] H T K A w = w
waits_grow e (waiting.Sub node ∷ ws) H T K A w =
    let (M, d, says, rest) = w in
    (M, d, e.conclusions node.0 (Sb M d K) says, waits_grow e ws H T M (apply A d) rest)
waits_grow e (waiting.Past below x ∷ ws) H T K A w =
    let (M, is, from, rest) = w in (
      M,
      entry_grows x K M e is,
      record { sub = from.sub; target = from.target; says = e.conclusions below.0 (Sb K from.sub from.target) from.says },
      waits_grow e ws H T M (past_entry x A) rest,
    )

abbrev pub joined_grows : {b c : Contents} → Extends b c → (sub : Option NodeId) (ws : List Waiting) (H K : Context) → IsJoined b sub ws H K → IsJoined c sub ws H K
joined_grows e None ws H K j = j
joined_grows e (Some node) ws H K j = (j.0, e.conclusions node.0 (Sb H j.0 K) j.1, λ A. waits_grow e ws H (apply A j.0) K A (j.2 A))

pub fits_grow : {b c : Contents} → Extends b c → (fits : Option NodeId) (H : Context) (S T : Tree) → Fits b fits H S T → Fits c fits H S T
fits_grow e None H S T f = f
fits_grow e (Some node) H S T f = e.conclusions node.0 (TyEq H S T) f

pub formed_grows : {b c : Contents} → Extends b c → (x : TermForm) (K : Context) (t S : Tree) → IsFormed b x K t S → IsFormed c x K t S
formed_grows e (form.Function domain body) K t S is =
    let (A, s, B, tree, of, first, second) = is in
    (A, s, B, tree, of, e.conclusions domain.0 (Ty K A) first, e.conclusions body.0 (Tm (WithVar K A) s B) second)
formed_grows e (form.Pair codomain left right) K t S is =
    let (A, B, u, v, tree, of, first, second, third) = is in
    (A, B, u, v, tree, of, e.conclusions codomain.0 (Ty (WithVar K A) B) first, e.conclusions left.0 (Tm K u A) second, e.conclusions right.0 (Tm K v (at trees B u)) third)
formed_grows e (form.Path body left right) K t S is =
    let (A, s, u, v, tree, of, first, second, third) = is in (
      A,
      s,
      u,
      v,
      tree,
      of,
      e.conclusions body.0 (Tm (WithName K) s A) first,
      e.conclusions left.0 (TmEq K (at trees s (i0 trees)) u (at trees A (i0 trees))) second,
      e.conclusions right.0 (TmEq K (at trees s (i1 trees)) v (at trees A (i1 trees))) third,
    )
formed_grows e (form.Glued g) K t S is =
    let (A, p, T, w, c, a, tree, of, face, base, side, equivalence, inner, outer, agrees) = is in (
      A,
      p,
      T,
      w,
      c,
      a,
      tree,
      of,
      face,
      e.conclusions g.base.0 (Ty K A) base,
      e.conclusions g.side.0 (Ty (WithFace K p) T) side,
      e.conclusions g.equivalence.0 (Tm (WithFace K p) w (equiv trees T A)) equivalence,
      e.conclusions g.inner.0 (Tm (WithFace K p) c T) inner,
      e.conclusions g.outer.0 (Tm K a A) outer,
      e.conclusions g.agrees.0 (TmEq (WithFace K p) (app trees (fst trees w) c) a A) agrees,
    )
formed_grows e (form.Type node) K t S is = (is.0, is.1, e.conclusions node.0 (Tm K t S) is.2)

-- what waits, joined

pub joined_all : {b c : Contents} → Extends b c → (node here : NodeId) (ws : List Waiting) (H : Context) (T : Tree) (K : Context) (A : Tree) → IsFrom b here H → Waits b ws H T K A → ((G : Context) (S : Tree) (L : Context) (B : Tree) → IsFrom b here G → Waits b ws G S L B → (d : Subst) × Says c node (Sb G d L) × (S ≡ apply B d)) → IsJoined c (Some node) ws H K
joined_all {b} {c} grown node here ws H T K A from w joins =
    let (d, says, is) = joins H T K A from w in (
      d,
      says,
      λ B.
          let (S, v) = waits_all b ws H T K A w B in
          let (e, also, of) = joins H S K B from v in
          let same = same_sub c node H H e d K also says in
          waits_grow grown ws H (apply B d) K B (subst (λ x. Waits b ws H x K B) (of ∙ ap (apply B) same.1) v),
    )

pub joined_below : (b : Contents) (joined sub both : NodeId) (ws : List Waiting) (H K G : Context) (d : Subst) → Says b sub (Sb K d G) → (j : IsJoined b (Some joined) ws H K) → Says b both (Sb H (then d j.0) G) → IsJoined b (Some both) (waiting.Sub sub ∷ ws) H G
joined_below b joined sub both ws H K G d says j whole = (then d j.0, whole, λ A. (K, d, says, subst (λ T. Waits b ws H T K (apply A d)) (sym (apply-then A d j.0)) (j.2 (apply A d))))

-- nothing waits
pub joined_here : (b : Contents) (here : NodeId) (H : Context) → Says b here (Sb H id H) → IsJoined b (Some here) [] H H
joined_here b here H says = (id, says, λ A. (refl, apply-id A))

-- one step of a trace

module _ {b c : Contents} (grown : Extends b c) {node : NodeId} {ws : List Waiting} {H : Context} {t S : Tree} (at : StandsTyped b node ws H t S) where
  -- the type under what waits, by the one substitution
  pub type_under : (sub : NodeId) (j : IsJoined c (Some sub) ws H at.home) → S ≡ apply at.type j.0
  type_under sub j = waits_same c ws H S (apply at.type j.0) at.home at.type (waits_grow grown ws H S at.home at.type at.type_waits) (j.2 at.type)

  pub tree_under : (sub : NodeId) (j : IsJoined c (Some sub) ws H at.home) → t ≡ apply at.tree j.0
  tree_under sub j = waits_same c ws H t (apply at.tree j.0) at.home at.tree (waits_grow grown ws H t at.home at.tree at.waits) (j.2 at.tree)

  abbrev pub stands_converted : (term : NodeId) (R : Tree) → Says b term (Tm at.home at.tree R) → (sub : NodeId) (j : IsJoined c (Some sub) ws H at.home) → StandsTyped c term ws H t (apply R j.0)
  stands_converted term R says sub j = record {
    home = at.home;
    tree = at.tree;
    type = R;
    says = grown.conclusions term.0 (Tm at.home at.tree R) says;
    waits = waits_grow grown ws H t at.home at.tree at.waits;
    type_waits = j.2 R;
  }

  abbrev pub stands_entered : (sub term : NodeId) (d : Subst) (G : Context) (a A : Tree) → Says b sub (Sb at.home d G) → Says b term (Tm G a A) → at.tree ≡ apply a d → at.type ≡ apply A d → StandsTyped c term (waiting.Sub sub ∷ ws) H t S
  stands_entered sub term d G a A is_sub is_term tree type = record {
    home = G;
    tree = a;
    type = A;
    says = grown.conclusions term.0 (Tm G a A) is_term;
    waits = (at.home, d, grown.conclusions sub.0 (Sb at.home d G) is_sub, subst (Waits c ws H t at.home) tree (waits_grow grown ws H t at.home at.tree at.waits));
    type_waits = (at.home, d, grown.conclusions sub.0 (Sb at.home d G) is_sub, subst (Waits c ws H S at.home) type (waits_grow grown ws H S at.home at.type at.type_waits));
  }

-- the same term by another node
abbrev pub stands_again : {b : Contents} {node : NodeId} {ws : List Waiting} {H : Context} {t S : Tree} (at : StandsTyped b node ws H t S) (term : NodeId) → Says b term (Tm at.home at.tree at.type) → StandsTyped b term ws H t S
stands_again at term says = record {
  home = at.home;
  tree = at.tree;
  type = at.type;
  says = says;
  waits = at.waits;
  type_waits = at.type_waits;
}

pub enters_variable : {b : Contents} {node : NodeId} {ws : List Waiting} {H : Context} {t S : Tree} (at : StandsTyped b node ws H t S) → at.tree ≡ Var 0 → HasVariable at.home 0 at.type → IsEntered b 0 ws H t S
enters_variable {b} {node} {ws} {H} {t} {S} at tree has = record {
  home = at.home;
  type = at.type;
  variable = has;
  waits = subst (Waits b ws H t at.home) tree at.waits;
  type_waits = at.type_waits;
}

pub variable_is_none : (t : Tree) (k : ℕ) → t ≡ Var k → is_literal t ≡ false
variable_is_none t k is = ap is_literal is

-- the same where the list is given otherwise
abbrev pub restacked : {b : Contents} {node : NodeId} {ws vs : List Waiting} {H : Context} {t S : Tree} → ws ≡ vs → StandsTyped b node ws H t S → StandsTyped b node vs H t S
restacked {b} {node} {ws} {vs} {H} {t} {S} e at = record {
  home = at.home;
  tree = at.tree;
  type = at.type;
  says = at.says;
  waits = subst (λ us. Waits b us H t at.home at.tree) e at.waits;
  type_waits = subst (λ us. Waits b us H S at.home at.type) e at.type_waits;
}

-- at the beginning
abbrev pub stands_here : (b : Contents) (node : NodeId) (H : Context) (t T : Tree) → Says b node (Tm H t T) → StandsTyped b node [] H t T
stands_here b node H t T says = record {
  home = H;
  tree = t;
  type = T;
  says = says;
  waits = (refl, refl);
  type_waits = (refl, refl);
}

-- what waits where a term is, by the node of the substitution that does nothing there
pub from_here : (b : Contents) (here : NodeId) (H : Context) → Says b here (Sb H id H) → IsFrom b here H
from_here b here H says = record { sub = id; target = H; says = says }

-- how far a term is traced
pub record Tracing (old now : Contents) (typing here : NodeId) (trace : Trace) : Type 0 where
  pub extends : Extends old now
  pub traced : (H : Context) (t T : Tree) → Says old typing (Tm H t T) → Says old here (Sb H id H) → IsTraced now trace H t T
