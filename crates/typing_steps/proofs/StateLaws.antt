-- States of a checker, changed in one place.
use Rattle.std.proofs.Common.{◌≡◌, ◌-◌, ◌+◌, ℕ, zero, suc, List, [], ◌∷◌, ◌++◌, length, take, Some, refl, sym, ap, ◌∙◌, subst, arith}
use Rattle.std.specs.List.{AllZip}
use Rattle.std.proofs.lemmas.List.{length-append, take_all, take-append-le}
use Rattle.trees.specs.Judgements.{Context, WithVar, WithName}
use Rattle.trees.specs.Trees.{Tree}
use Rattle.trees.specs.Language.{Ty, Tm}
use Rattle.translation.specs.Translated.{Stated}
use Rattle.book.specs.Contents.{Contents}
use Rattle.direct.specs.Known.{Known, Variable, Interval, Definition}
use Rattle.numbered_scope.specs.declared.numbered.Numbered.{Numbered}
use Rattle.typed_nodes.specs.Typed.{Says}
use Rattle.typed_contexts.specs.declared.place.Places.{Places}
use Rattle.typed_contexts.specs.Places.{IsPlace}
use Rattle.typed_contexts.specs.Contexts.{depth_of}
use Rattle.typing_steps.specs.declared.state.Root.{Root}
use Rattle.typing_steps.specs.declared.state.InScope.{InScope}
use Rattle.typing_tasks.specs.States.{place_of, forgetting}
use Rattle.typing_tasks.specs.Tasks.{before_last}
use Rattle.typing_steps.specs.Steps.{IsStated, AreInScope}

-- one more root is one more definition that is stated
pub roots_push : (b : Contents) (rs : List Root) (ds : List (Stated ℕ)) (r : Root) (d : Stated ℕ) → AllZip (IsStated b) rs ds → IsStated b r d → AllZip (IsStated b) (rs ++ r ∷ []) (ds ++ d ∷ [])
roots_push b [] [] r d h is = (is, tt)
roots_push b [] (e ∷ ds) r d h is = absurd h
roots_push b (q ∷ rs) [] r d h is = absurd h
roots_push b (q ∷ rs) (e ∷ ds) r d h is = (h.0, roots_push b rs ds r d h.1 is)

-- forgetting definitions cuts as many items

pub scope_cut : (b : Contents) (items : List (Numbered InScope)) (n : ℕ) (G H : Known) → AreInScope b items G → forgetting n G ≡ Some H → AreInScope b (take (length items - n) items) H
scope_cut b items zero G H s e =
    let same : G ≡ H = cc e in
    subst (AreInScope b (take (length items - 0) items)) same (subst (λ xs. AreInScope b xs G) (sym (whole items)) s)
  where
    whole : (xs : List (Numbered InScope)) → take (length xs - 0) xs ≡ xs
    whole xs = take_all (length xs - 0) xs (omega arith)
scope_cut b items (suc n) (Definition m t A ∷ G) H (rest, d, is, number, depth, root, more) e =
    let shorter = scope_cut b rest n G H more e in
    subst (λ xs. AreInScope b xs H) (cut items rest d n is) shorter
  where
    cut : (items rest : List (Numbered InScope)) (d : Numbered InScope) (n : ℕ) → items ≡ rest ++ d ∷ [] → take (length rest - n) rest ≡ take (length items - suc n) items
    cut items rest d n is =
        let long : length items ≡ length rest + 1 = ap length is ∙ length-append rest (d ∷ []) in
        let same : length items - suc n ≡ length rest - n = omega arith in
        sym (ap (λ k. take k items) same ∙ ap (take (length rest - n)) is ∙ take-append-le (length rest - n) rest (d ∷ []) (omega arith))
scope_cut b items (suc n) (Variable A ∷ G) H s e = absurd (cc e)
scope_cut b items (suc n) (Interval ∷ G) H s e = absurd (cc e)
scope_cut b items (suc n) [] H s e = absurd (cc e)

-- definitions stand in no context
pub place_forgetting : (n : ℕ) (G H : Known) → forgetting n G ≡ Some H → place_of G ≡ place_of H
place_forgetting zero G H e = let same : G ≡ H = cc e in ap place_of same
place_forgetting (suc n) (Definition m t A ∷ G) H e = place_forgetting n G H e
place_forgetting (suc n) (Variable A ∷ G) H e = absurd (cc e)
place_forgetting (suc n) (Interval ∷ G) H e = absurd (cc e)
place_forgetting (suc n) [] H e = absurd (cc e)

-- one more definition is in scope
pub scope_push : (b : Contents) (items : List (Numbered InScope)) (G : Known) (n : ℕ) (A t : Tree) (r : Root) {depth : ℕ} → depth ≡ depth_of (place_of G) → Says b r.ty (Ty (place_of G) A) → Says b r.body (Tm (place_of G) t A) → AreInScope b items G
    → AreInScope b (items ++ record { number = n; value = record { root = r; depth = depth } } ∷ []) (Definition n t A ∷ G)
scope_push b items G n A t r {depth} deep ty body s = (items, record { number = n; value = record { root = r; depth = depth } }, refl, refl, deep, (ty, body), s)

-- before the last variable or name

pub left_place : (b : Contents) (p q : Places) (F G : Known) → before_last F ≡ Some G → ((H : Context) (A : Tree) → IsPlace b p (WithVar H A) → IsPlace b q H) → ((H : Context) → IsPlace b p (WithName H) → IsPlace b q H)
    → IsPlace b p (place_of F) → IsPlace b q (place_of G)
left_place b p q [] G e variable name is = absurd (cc e)
left_place b p q (Variable A ∷ F) G e variable name is = let same : F ≡ G = cc e in subst (λ K. IsPlace b q (place_of K)) same (variable (place_of F) A is)
left_place b p q (Interval ∷ F) G e variable name is = let same : F ≡ G = cc e in subst (λ K. IsPlace b q (place_of K)) same (name (place_of F) is)
left_place b p q (Definition n t A ∷ F) G e variable name is = absurd (cc e)

pub left_scope : (b : Contents) (items : List (Numbered InScope)) (F G : Known) → before_last F ≡ Some G → AreInScope b items F → AreInScope b items G
left_scope b items [] G e s = absurd (cc e)
left_scope b items (Variable A ∷ F) G e s = let same : F ≡ G = cc e in subst (AreInScope b items) same s
left_scope b items (Interval ∷ F) G e s = let same : F ≡ G = cc e in subst (AreInScope b items) same s
left_scope b items (Definition n t A ∷ F) G e s = absurd (cc e)
