-- What waits, joined, and the contexts that substitutions are from.
use Rattle.std.proofs.Common.{◌≡◌, List, [], ◌∷◌, refl, sym, ◌∙◌, ap, subst}
use Rattle.trees.specs.Trees.{Tree, Subst, apply, then, id}
use Rattle.trees.specs.Judgements.{Context}
use Rattle.trees.specs.Language.{Ctx, Sb}
use Rattle.substitution.proofs.ThenLaws.{apply-then, apply-id, then-id, id-then}
use Rattle.book.specs.Contents.{Contents}
use Rattle.book.specs.Shown.{Extends}
use Rattle.book.specs.declared.kernel.NodeId.{NodeId}
use Rattle.typed_nodes.specs.Typed.{Says}
use Rattle.literal_types.specs.declared.entries.Entry.{Entry}
use Rattle.literal_types.specs.declared.substitutions.Substitution.TheVariants as sub
use Rattle.literal_types.specs.declared.waiting.Waiting.{Waiting}
use Rattle.literal_types.specs.declared.waiting.Waiting.TheVariants as waiting
use Rattle.literal_types.specs.Substitutions.{AreEntries, IsEntry, IsFrom, past_entry, Unfolds}
use Rattle.literal_types.specs.Waits.{Joins, Waits}

pub joins_nothing : (old new : Contents) (node : NodeId) (H : Context) (T : Tree) (K : Context) (A : Tree) → Says new node (Sb H id H) → Waits old [] H T K A → Joins old new node [] H T K A
joins_nothing old new node H T K A says w = (H, id, subst (λ L. Says new node (Sb H id L)) w.0 says, (refl, w.1 ∙ sym (apply-id A)))

pub joins_past : (old new : Contents) (node : NodeId) (ws : List Waiting) (H : Context) (T : Tree) (K : Context) (A : Tree) (below : NodeId) (x : Entry) → ((M : Context) → IsEntry old x K M → IsFrom old below K → (e : Subst) × Says new node (Sb M e K) × ((B : Tree) → apply B e ≡ past_entry x (apply B id))) → Waits old (waiting.Past below x ∷ ws) H T K A → Joins old new node ws H T K A
joins_past old new node ws H T K A below x past w =
    let (M, is, from, rest) = w in
    let (e, says, under) = past M is from in
    (M, e, says, subst (Waits old ws H T M) (sym (under A ∙ ap (past_entry x) (apply-id A))) rest)

pub joins_sub : (old now new : Contents) (before node : NodeId) (ws : List Waiting) (H : Context) (T : Tree) (K : Context) (A : Tree) (inner : NodeId) → ((L M : Context) (e d : Subst) → Says old inner (Sb L e M) → Says now before (Sb M d K) → Says new node (Sb L (then d e) K)) → Joins old now before (waiting.Sub inner ∷ ws) H T K A → Joins old new node ws H T K A
joins_sub old now new before node ws H T K A inner both j =
    let (M, d, says, (L, e, first, rest)) = j in
    (L, then d e, both L M e d first says, subst (Waits old ws H T L) (sym (apply-then A d e)) rest)

pub joins_entry : (old now new : Contents) (before node : NodeId) (ws : List Waiting) (H : Context) (T : Tree) (K : Context) (A : Tree) (below : NodeId) (x : Entry) → ((M L : Context) (d : Subst) → Says now before (Sb M d K) → IsEntry old x M L → (e : Subst) × Says new node (Sb L e K) × ((B : Tree) → apply B e ≡ past_entry x (apply B d))) → Joins old now before (waiting.Past below x ∷ ws) H T K A → Joins old new node ws H T K A
joins_entry old now new before node ws H T K A below x past j =
    let (M, d, says, (L, is, from, rest)) = j in
    let (e, said, under) = past M L d says is in
    (L, e, said, subst (Waits old ws H T L) (sym (under A)) rest)

-- all is joined
pub joined_all : (old new : Contents) (node : NodeId) (H : Context) (T : Tree) (K : Context) (A : Tree) → Joins old new node [] H T K A → (d : Subst) × Says new node (Sb H d K) × (T ≡ apply A d)
joined_all old new node H T K A j = let (M, d, says, (is, tree)) = j in (d, subst (λ L. Says new node (Sb L d K)) (sym is) says, tree)

-- the context that a substitution is from, by the rule of its node

-- H is the context that the node is from, with these entries
pub record Reached (b : Contents) (node : NodeId) (es : List Entry) (H : Context) : Type 0 where
  pub home : Context
  pub from : IsFrom b node home
  pub entries : AreEntries b es home H

module _ {b : Contents} {node : NodeId} {es : List Entry} {H : Context} (r : Reached b node es H) where
  abbrev Home : Context
  Home = r.home

  abbrev By : Subst
  By = r.from.sub

  abbrev Target : Context
  Target = r.from.target

  pub reached_past : (below : NodeId) (x : Entry) → Unfolds b (sub.Past below x) Home By Target → Reached b below (x ∷ es) H
  reached_past below x u =
      let (L, e, says, is, under) = u in
      record { home = L; from = record { sub = e; target = Target; says = says }; entries = (Home, is, r.entries) }

  pub reached_first : (first second : NodeId) → Unfolds b (sub.Composite first second) Home By Target → Reached b first es H
  reached_first first second u =
      let (L, e, f, says, outer, is) = u in
      record { home = Home; from = record { sub = e; target = L; says = says }; entries = r.entries }

  pub reached_pushed : (below term : NodeId) → Unfolds b (sub.Pushed below term) Home By Target → Reached b below es H
  reached_pushed below term u =
      let (G, e, A, a, says, types, is, home) = u in
      record { home = Home; from = record { sub = e; target = G; says = says }; entries = r.entries }

  pub reached_formula : (below : NodeId) → Unfolds b (sub.Formula below) Home By Target → Reached b below es H
  reached_formula below u =
      let (G, e, t, says, is, home) = u in
      record { home = Home; from = record { sub = e; target = G; says = says }; entries = r.entries }

  pub reached_on_face : (below : NodeId) → Unfolds b (sub.OnFace below) Home By Target → Reached b below es H
  reached_on_face below u =
      let (G, p, says, home) = u in
      record { home = Home; from = record { sub = By; target = G; says = says }; entries = r.entries }

-- entries are put back on a context
pub record Sourcing (old now : Contents) (sub ctx : NodeId) (es : List Entry) : Type 0 where
  pub extends : Extends old now
  pub reached : (H : Context) → IsFrom old sub H → (K : Context) × Says now ctx (Ctx K) × AreEntries old es K H

-- what waits is joined
pub record Joining (old now : Contents) (from : NodeId) (begin : List Waiting) (sub : NodeId) (ws : List Waiting) : Type 0 where
  pub extends : Extends old now
  pub joins : (H : Context) (T : Tree) (K : Context) (A : Tree) → IsFrom old from H → Waits old begin H T K A → Joins old now sub ws H T K A

-- one that does nothing

pub after_nothing : (b : Contents) (node : NodeId) (K H G : Context) (e d : Subst) → K ≡ H → e ≡ id → Says b node (Sb H d G) → Says b node (Sb K (then d e) G)
after_nothing b node K H G e d k i says =
    subst (λ x. Says b node (Sb K x G)) (sym (ap (then d) i ∙ then-id d)) (subst (λ x. Says b node (Sb x d G)) (sym k) says)

pub before_nothing : (b : Contents) (node : NodeId) (K H G : Context) (e d : Subst) → H ≡ G → d ≡ id → Says b node (Sb K e H) → Says b node (Sb K (then d e) G)
before_nothing b node K H G e d k i says =
    subst (λ x. Says b node (Sb K x G)) (sym (ap (λ x. then x e) i ∙ id-then e)) (subst (λ x. Says b node (Sb K e x)) k says)

-- the node whose rule is followed
pub record Reaching (b : Contents) (sub node : NodeId) (es : List Entry) : Type 0 where
  pub reached : (H : Context) → IsFrom b sub H → Reached b node es H
