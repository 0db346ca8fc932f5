-- Places under one more name or variable than before.
use Rattle.std.proofs.Common.{◌≡◌, ◌+◌, ◌-◌, min, ℕ, List, zero, suc, [], ◌∷◌, ◌++◌, Some, refl, sym, ap, ◌∙◌, subst, arith, append_assoc}
use Rattle.trees.specs.Trees.{Tree, apply, shift_by, up}
use Rattle.trees.specs.Judgements.{Context, WithVar, WithName}
use Rattle.trees.specs.Things.{Meanings, AContext, Kept}
use Rattle.trees.proofs.Meanings.{kept-same}
use Rattle.rows.specs.Views.{IsContext, IsTree}
use Rattle.substitution.proofs.ThenLaws.{apply-id, apply-apply, shift_by-then-shift_by}
use Rattle.translation.specs.Terms.{lifted}
use Rattle.codes.proofs.Logs.{append_empty}
use Rattle.codes.specs.declared.formula.Equation.{Equation}
use Rattle.form_rows.specs.Meant.{Is, Are}
use Rattle.form_rows.specs.Formulas.{face_tree}
use Rattle.form_rows.proofs.RowLaws.{kept_then, is_kept, are_kept, are_none, are_push, tree_of_is}
use Rattle.judgement_rows.specs.declared.places.Place.{Place}
use Rattle.judgement_rows.specs.declared.places.Under.{Under}
use Rattle.judgement_rows.specs.Places.{FacedIn, HoldIn, NamedIn, AllNamedIn, OpenedIn, BoundIn, with_names, with_variables, copies}

-- names of the interval

names_next : (n : ℕ) (G : Context) → with_names (n + 1) G ≡ WithName (with_names n G)
names_next zero G = refl
names_next (suc n) G = let e : suc n + 1 ≡ suc (n + 1) = omega arith in rw e (names_next n (WithName G))

pub record Naming (f g : Meanings) (p : Place) (n : ℕ) (q : Place) : Type 0 where
  pub kept : Kept f g
  pub context : IsContext (g q.context)
  pub named : AllNamedIn f g p n q

pub naming_none : (f : Meanings) (p : Place) → IsContext (f p.context) → Naming f f p 0 p
naming_none f p h = record { kept = kept-same f; context = h; named = record { context = λ G e. e; depth = omega arith } }

pub naming_more : {f g h : Meanings} {p q r : Place} {n : ℕ} → IsContext (f p.context) → Naming f g p n q → Kept g h → NamedIn g h q r → Naming f h p (n + 1) r
naming_more {f} {g} {h} {p} {q} {r} {n} start m kept next = record {
  kept = kept_then m.kept kept;
  context = (WithName m.context.0, next.context m.context.0 m.context.1);
  named = record {
    context = λ G e. next.context (with_names n G) (m.named.context G e) ∙ ap (λ K. Some (AContext K)) (sym (names_next n G));
    depth = let a = m.named.depth in let b = next.depth in omega arith;
  };
}

-- variables of one type

copies_next : (n : ℕ) (A : Tree) → copies (n + 1) A ≡ copies n A ++ apply A (shift_by n) ∷ []
copies_next zero A = ap (λ t. t ∷ []) (sym (apply-id A))
copies_next (suc n) A =
    let e : suc n + 1 ≡ suc (n + 1) = omega arith in
    let d : 1 + n ≡ suc n = omega arith in
    rw e (ap (λ ts. A ∷ ts) (copies_next n (lifted A) ∙ ap (λ t. copies n (lifted A) ++ t ∷ []) (apply-apply A up (shift_by n) ∙ ap (apply A) (shift_by-then-shift_by 1 n ∙ ap shift_by d))))

variables_next : (n : ℕ) (A : Tree) (G : Context) → with_variables (n + 1) A G ≡ WithVar (with_variables n A G) (apply A (shift_by n))
variables_next zero A G = ap (WithVar G) (sym (apply-id A))
variables_next (suc n) A G =
    let e : suc n + 1 ≡ suc (n + 1) = omega arith in
    let d : 1 + n ≡ suc n = omega arith in
    rw e (variables_next n (lifted A) (WithVar G A) ∙ ap (WithVar (with_variables n (lifted A) (WithVar G A))) (apply-apply A up (shift_by n) ∙ ap (apply A) (shift_by-then-shift_by 1 n ∙ ap shift_by d)))

-- So many are entered, and this is the row of the type of the last one, or of the first that is to come.
pub record Binding (f g : Meanings) (p : Under) (ty here n : ℕ) (q : Under) : Type 0 where
  pub kept : Kept f g
  pub context : IsContext (g q.place.context)
  pub last : (A : Tree) → Is f ty A → Is g here (apply A (shift_by (n - 1)))
  pub bound : BoundIn f g p q ty n

pub binding_none : (f : Meanings) (p : Under) (ty : ℕ) → IsContext (f p.place.context) → Binding f f p ty ty 0 p
binding_none f p ty h = record {
  kept = kept-same f;
  context = h;
  last = λ A a. subst (Is f ty) (sym (apply-id A)) a;
  bound = record { more = []; types = sym (append_empty p.types.items); are = λ A a. are_none f; context = λ G A e a. e; depth = omega arith };
}

-- from the type of the last variable to that of the next one
next_type : (A : Tree) (n by : ℕ) → by ≡ min n 1 → apply (apply A (shift_by (n - 1))) (shift_by by) ≡ apply A (shift_by n)
next_type A n by e =
    let sum : n - 1 + by ≡ n = omega (arith, e) in
    apply-apply A (shift_by (n - 1)) (shift_by by) ∙ ap (apply A) (shift_by-then-shift_by (n - 1) by ∙ ap shift_by sum)

pub binding_more : {f g h i : Meanings} {p q r : Under} {ty here n by row : ℕ} → IsTree (f ty) → Binding f g p ty here n q → by ≡ min n 1 → Kept g h → ((t : Tree) → Is g here t → Is h row (apply t (shift_by by)))
    → Kept h i → OpenedIn h i q.place row r.place → r.types.items ≡ q.types.items ++ row ∷ [] → Binding f i p ty row (n + 1) r
binding_more {f} {g} {h} {i} {p} {q} {r} {ty} {here} {n} {by} {row} tree b e kept lifts later opened types =
    let row_is : (A : Tree) → Is f ty A → Is h row (apply A (shift_by n)) =
    λ A a. subst (Is h row) (next_type A n by e) (lifts (apply A (shift_by (n - 1))) (b.last A a)) in
    let start : Is f ty tree.0 = record { is = tree.1 } in
    let same : n ≡ n + 1 - 1 = omega arith in
    record {
      kept = kept_then b.kept (kept_then kept later);
      context = (WithVar b.context.0 (apply tree.0 (shift_by n)), opened.context b.context.0 (apply tree.0 (shift_by n)) (kept.keeps _ _ b.context.1) (row_is tree.0 start));
      last = λ A a. subst (λ k. Is i row (apply A (shift_by k))) same (is_kept later (row_is A a));
      bound = record {
        more = b.bound.more ++ row ∷ [];
        types = types ∙ ap (λ xs. xs ++ row ∷ []) b.bound.types ∙ append_assoc p.types.items b.bound.more (row ∷ []);
        are = λ A a. subst (Are i (b.bound.more ++ row ∷ [])) (sym (copies_next n A)) (are_push (are_kept (kept_then kept later) (b.bound.are A a)) (is_kept later (row_is A a)));
        context = λ G A c a. opened.context (with_variables n A G) (apply A (shift_by n)) (kept.keeps _ _ (b.bound.context G A c a)) (row_is A a)
            ∙ ap (λ K. Some (AContext K)) (sym (variables_next n A G));
        depth = let x = b.bound.depth in let y = opened.depth in omega arith;
      };
    }

pub binding_tree : {f g : Meanings} {p q : Under} {ty here n : ℕ} → IsTree (f ty) → Binding f g p ty here n q → IsTree (g here)
binding_tree {f} {g} {p} {q} {ty} {here} {n} tree b =
    let start : Is f ty tree.0 = record { is = tree.1 } in
    tree_of_is g here (b.last tree.0 start)

pub naming_all : {f g : Meanings} {p q : Place} {n m : ℕ} → AllNamedIn f g p n q → n ≡ m → AllNamedIn f g p m q
naming_all {f} {g} {p} {q} h e = subst (λ k. AllNamedIn f g p k q) e h

pub binding_all : {f g : Meanings} {p q : Under} {ty n m : ℕ} → BoundIn f g p q ty n → n ≡ m → BoundIn f g p q ty m
binding_all {f} {g} {p} {q} {ty} h e = subst (λ k. BoundIn f g p q ty k) e h

-- faces of equations

pub context_kept : {f g : Meanings} {row : ℕ} → Kept f g → IsContext (f row) → IsContext (g row)
context_kept {row = row} k h = (h.0, k.keeps row (AContext h.0) h.1)

pub hold_in : {f g h : Meanings} {p q : Place} {face : ℕ} {es : List Equation} → Kept f g → Is g face (face_tree es) → Kept g h → FacedIn g h p face q
    → HoldIn f h p es (record { face = face; place = q })
hold_in {p = p} {es = es} k is l faced = record {
  face = is_kept l is;
  context = λ G e. faced.context G (face_tree es) (k.keeps p.context (AContext G) e) is;
  depth = faced.depth;
}
