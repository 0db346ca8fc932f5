-- Components, and what a head is applied to, one after another.
use Rattle.std.proofs.Common.{◌≡◌, ◌+◌, ℕ, List, [], ◌∷◌, ◌++◌, map, refl, sym, ap, ◌∙◌, subst}
use Rattle.trees.specs.Trees.{Tree}
use Rattle.translation.specs.Scopes.{Scope}
use Rattle.translation.specs.Terms.{universe, pair, app, papp}
use Rattle.translation.specs.Translated.{done, ◌>>=◌}
use Rattle.translation.specs.Forms.{Means, Element, Argument, At, all, tuple, apply_all, application}
use Rattle.translation.specs.Names.{Word}
use Rattle.codes.proofs.Logs.{map_append, then_done, then_assoc, then_same}
use Rattle.scopes.specs.Steps.{State, Resolves}
use Rattle.scopes.proofs.Moving.{moving_then, keeps_then, resolves_one, resolves_same, resolves_all_more}

-- pairs nested to the right
abbrev nested : List Tree → Tree
nested [] = universe
nested (a ∷ []) = a
nested (a ∷ b ∷ rest) = pair a (nested (b ∷ rest))

tuple_all : {N : Type 0} (fs : List (Means N Tree)) (G : Scope N) → (all fs G >>= λ xs. done (nested xs)) ≡ tuple fs G
tuple_all [] G = refl
tuple_all (a ∷ []) G =
    then_assoc (a G) (λ x. done (x ∷ [])) (λ xs. done (nested xs)) ∙ then_done (a G)
tuple_all (a ∷ b ∷ rest) G =
    let others = all (b ∷ rest) G in
    let x = (a G).value in
    then_assoc (a G) (λ y. others >>= λ xs. done (y ∷ xs)) (λ xs. done (nested xs))
    ∙ then_same (a G) (λ y. (others >>= λ xs. done (y ∷ xs)) >>= λ xs. done (nested xs)) (λ y. tuple (b ∷ rest) G >>= λ z. done (pair y z))
    (then_assoc others (λ xs. done (x ∷ xs)) (λ xs. done (nested xs))
    ∙ sym (then_assoc others (λ xs. done (nested xs)) (λ y. done (pair x y)))
    ∙ ap (λ m. m >>= λ y. done (pair x y)) (tuple_all (b ∷ rest) G))

pub resolves_tuple : (s t : State) (fs : List (Means Word Tree)) (gs : List (Means ℕ Tree)) → Resolves s t (all fs) (all gs) → Resolves s t (tuple fs) (tuple gs)
resolves_tuple s t fs gs h =
    resolves_same s t (λ G. all fs G >>= λ xs. done (nested xs)) (tuple fs) (λ H. all gs H >>= λ xs. done (nested xs)) (tuple gs)
    (λ G. tuple_all fs G) (λ H. tuple_all gs H) (resolves_one nested s t (all fs) (all gs) h)

-- one more of a list that is mapped
pub resolves_map_more : {X Y A : Type 0} (m : X → Means Word A) (n : Y → Means ℕ A) (s t u : State) (xs : List X) (ys : List Y) (x : X) (y : Y)
    → Resolves s t (all (map m xs)) (all (map n ys)) → Resolves t u (m x) (n y)
    → Resolves s u (all (map m (xs ++ x ∷ []))) (all (map n (ys ++ y ∷ [])))
resolves_map_more m n s t u xs ys x y first second =
    subst (λ fs. Resolves s u (all fs) (all (map n (ys ++ y ∷ [])))) (sym (map_append m xs (x ∷ [])))
    (subst (λ gs. Resolves s u (all (map m xs ++ m x ∷ [])) (all gs)) (sym (map_append n ys (y ∷ [])))
    (resolves_all_more s t u (map m xs) (map n ys) (m x) (n y) first second))

-- what a head is applied to, and one more

apply_push : {N : Type 0} (t : Tree) (es : List (Element N)) (e : Element N) (G : Scope N)
    → (apply_all t es G >>= λ u. apply_all u (e ∷ []) G) ≡ apply_all t (es ++ e ∷ []) G
apply_push t [] e G = refl
apply_push t (Argument a ∷ es) e G =
    then_assoc (a G) (λ x. apply_all (app t x) es G) (λ u. apply_all u (e ∷ []) G) ∙ then_same (a G) (λ x. apply_all (app t x) es G >>= λ u. apply_all u (e ∷ []) G) (λ x. apply_all (app t x) (es ++ e ∷ []) G) (apply_push (app t (a G).value) es e G)
apply_push t (At r ∷ es) e G =
    then_assoc (r G) (λ x. apply_all (papp t x) es G) (λ u. apply_all u (e ∷ []) G) ∙ then_same (r G) (λ x. apply_all (papp t x) es G >>= λ u. apply_all u (e ∷ []) G) (λ x. apply_all (papp t x) (es ++ e ∷ []) G) (apply_push (papp t (r G).value) es e G)

pub applies_more : (s t u : State) (es : List (Element Word)) (ds : List (Element ℕ)) (e : Element Word) (d : Element ℕ)
    → ((a : Tree) → Resolves s t (apply_all a es) (apply_all a ds)) → ((a : Tree) → Resolves t u (apply_all a (e ∷ [])) (apply_all a (d ∷ [])))
    → (a : Tree) → Resolves s u (apply_all a (es ++ e ∷ [])) (apply_all a (ds ++ d ∷ []))
applies_more s t u es ds e d first second a =
    resolves_same s u (λ G. apply_all a es G >>= λ b. apply_all b (e ∷ []) G) (apply_all a (es ++ e ∷ []))
    (λ H. apply_all a ds H >>= λ b. apply_all b (d ∷ []) H) (apply_all a (ds ++ d ∷ []))
    (λ G. apply_push a es e G) (λ H. apply_push a ds d H)
    (record {
      keeps = keeps_then s t u (first a).keeps (second a).keeps;
      moving = moving_then s t u.so_far (apply_all a es) (apply_all a ds) (λ b. apply_all b (e ∷ [])) (λ b. apply_all b (d ∷ [])) (first a) (λ b. (second b).moving);
    })

pub argument_resolves : (s t : State) (f : Means Word Tree) (g : Means ℕ Tree) → Resolves s t f g
    → (a : Tree) → Resolves s t (apply_all a (Argument f ∷ [])) (apply_all a (Argument g ∷ []))
argument_resolves s t f g h a = resolves_one (app a) s t f g h

pub at_resolves : (s t : State) (f : Means Word Tree) (g : Means ℕ Tree) → Resolves s t f g
    → (a : Tree) → Resolves s t (apply_all a (At f ∷ [])) (apply_all a (At g ∷ []))
at_resolves s t f g h a = resolves_one (papp a) s t f g h

-- a head and what it is applied to
pub resolves_application : (s t u : State) (f : Means Word Tree) (g : Means ℕ Tree) (es : List (Element Word)) (ds : List (Element ℕ))
    → Resolves s t f g → ((a : Tree) → Resolves t u (apply_all a es) (apply_all a ds)) → Resolves s u (application f es) (application g ds)
resolves_application s t u f g es ds first second = record {
  keeps = keeps_then s t u first.keeps (second universe).keeps;
  moving = moving_then s t u.so_far f g (λ a. apply_all a es) (λ a. apply_all a ds) first (λ a. (second a).moving);
}
