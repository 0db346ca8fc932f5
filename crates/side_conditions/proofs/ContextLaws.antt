-- The names and the faces of a context, entry by entry.
use Rattle.std.proofs.Common.{◌≡◌, ℕ, zero, suc, ◌+◌, ◌<◌, ◌≤◌, Bool, true, false, ◌&&◌, List, [], ◌∷◌, ◌++◌, length, take, drop, get_or, Option, Some, None, refl, sym, ◌∙◌, ap, ap₂, subst, arith, append_assoc, add-one}
use Rattle.std.specs.Prelude.{IsTrue, option_and_then}
use Rattle.std.specs.List.{All, list_all}
use Rattle.std.proofs.lemmas.Bool.{and_parts}
use Rattle.std.proofs.lemmas.List.{append-nil}
use Rattle.std.proofs.lemmas.List.Elements.{All-nil, All-cons, All-head, All-tail, All-push}
use Rattle.trees.specs.Trees.{Tree}
use Rattle.trees.specs.Judgements.{Context, Nil, WithVar, WithName, WithFace}
use Rattle.trees.specs.Things.{Thing, ATree, AContext, Meanings, both, with_variable, with_a_name, with_a_face}
use Rattle.rows.specs.Views.{IsTree, IsContext}
use Rattle.points.specs.Points.{Point}
use Rattle.faces.specs.declared.equations.Equation.{Equation}
use Rattle.faces.specs.Faces.{face_truth}
use Rattle.conditions.specs.Sides.{is_face, is_true, Satisfies}
use Rattle.side_conditions.specs.Levels.{indices, point_by_index}
use Rattle.side_conditions.specs.Readings.{IsFaceOf, AreFacesOf}
use Rattle.side_conditions.specs.Shapes.{tree_of}
use Rattle.side_conditions.specs.Contexts.{context_of}

-- the entries of a context's row

pub record VarEntry (f : Meanings) (row outer : ℕ) : Type 0 where
  pub outer_is : IsContext (f outer)
  pub ty : Tree
  pub row_is : context_of (f row) ≡ WithVar (context_of (f outer)) ty

pub record NameEntry (f : Meanings) (row outer : ℕ) : Type 0 where
  pub outer_is : IsContext (f outer)
  pub row_is : context_of (f row) ≡ WithName (context_of (f outer))

pub record FaceEntry (f : Meanings) (row outer face : ℕ) : Type 0 where
  pub outer_is : IsContext (f outer)
  pub face_is : IsTree (f face)
  pub row_is : context_of (f row) ≡ WithFace (context_of (f outer)) (tree_of (f face))

pub var_entry : (f : Meanings) (row outer ty : ℕ) → IsContext (f row) → f row ≡ both with_variable (f outer) (f ty) → VarEntry f row outer
var_entry f row outer ty is e = by (f outer) (f ty) refl refl
  where
    by : (x y : Option Thing) → f outer ≡ x → f ty ≡ y → VarEntry f row outer
    by (Some (AContext G)) (Some (ATree A)) p q = record {
      outer_is = (G, p);
      ty = A;
      row_is = ap context_of (e ∙ ap₂ (both with_variable) p q) ∙ ap (λ x. WithVar (context_of x) A) (sym p);
    }
    by x (Some y) p q = absurd (cc (is.1, e ∙ ap₂ (both with_variable) p q))
    by (Some x) None p q = absurd (cc (is.1, e ∙ ap₂ (both with_variable) p q))
    by None None p q = absurd (cc (is.1, e ∙ ap₂ (both with_variable) p q))

pub name_entry : (f : Meanings) (row outer : ℕ) → IsContext (f row) → f row ≡ option_and_then with_a_name (f outer) → NameEntry f row outer
name_entry f row outer is e = by (f outer) refl
  where
    by : (x : Option Thing) → f outer ≡ x → NameEntry f row outer
    by (Some (AContext G)) p = record {
      outer_is = (G, p);
      row_is = ap context_of (e ∙ ap (option_and_then with_a_name) p) ∙ ap (λ x. WithName (context_of x)) (sym p);
    }
    by (Some x) p = absurd (cc (is.1, e ∙ ap (option_and_then with_a_name) p))
    by None p = absurd (cc (is.1, e ∙ ap (option_and_then with_a_name) p))

pub face_entry : (f : Meanings) (row outer face : ℕ) → IsContext (f row) → f row ≡ both with_a_face (f outer) (f face) → FaceEntry f row outer face
face_entry f row outer face is e = by (f outer) (f face) refl refl
  where
    by : (x y : Option Thing) → f outer ≡ x → f face ≡ y → FaceEntry f row outer face
    by (Some (AContext G)) (Some (ATree p)) a b = record {
      outer_is = (G, a);
      face_is = (p, b);
      row_is = ap context_of (e ∙ ap₂ (both with_a_face) a b) ∙ ap₂ (λ x y. WithFace (context_of x) (tree_of y)) (sym a) (sym b);
    }
    by x (Some y) a b = absurd (cc (is.1, e ∙ ap₂ (both with_a_face) a b))
    by (Some x) None a b = absurd (cc (is.1, e ∙ ap₂ (both with_a_face) a b))
    by None None a b = absurd (cc (is.1, e ∙ ap₂ (both with_a_face) a b))

-- the indices before these

pub record Listed (f : Meanings) (first : Context) (row : ℕ) (names : List Bool) : Type 0 where
  pub is : IsContext (f row)
  pub all : names ++ indices (context_of (f row)) ≡ indices first

pub listed_begin : (f : Meanings) (row : ℕ) → IsContext (f row) → Listed f (context_of (f row)) row []
listed_begin f row is = record { is = is; all = refl }

pub listed_var : (f : Meanings) (first : Context) (row outer ty : ℕ) (names new : List Bool) → Listed f first row names → f row ≡ both with_variable (f outer) (f ty) → new ≡ names ++ false ∷ [] → Listed f first outer new
listed_var f first row outer ty names new l e grown =
    let v = var_entry f row outer ty l.is e in
    record { is = v.outer_is; all = ap (λ ns. ns ++ indices (context_of (f outer))) grown ∙ append_assoc names (false ∷ []) (indices (context_of (f outer))) ∙ ap (λ G. names ++ indices G) (sym v.row_is) ∙ l.all }

pub listed_name : (f : Meanings) (first : Context) (row outer : ℕ) (names new : List Bool) → Listed f first row names → f row ≡ option_and_then with_a_name (f outer) → new ≡ names ++ true ∷ [] → Listed f first outer new
listed_name f first row outer names new l e grown =
    let v = name_entry f row outer l.is e in
    record { is = v.outer_is; all = ap (λ ns. ns ++ indices (context_of (f outer))) grown ∙ append_assoc names (true ∷ []) (indices (context_of (f outer))) ∙ ap (λ G. names ++ indices G) (sym v.row_is) ∙ l.all }

pub listed_face : (f : Meanings) (first : Context) (row outer face : ℕ) (names : List Bool) → Listed f first row names → f row ≡ both with_a_face (f outer) (f face) → Listed f first outer names
listed_face f first row outer face names l e =
    let v = face_entry f row outer face l.is e in
    record { is = v.outer_is; all = ap (λ G. names ++ indices G) (sym v.row_is) ∙ l.all }

pub listed_end : (f : Meanings) (first : Context) (row : ℕ) (names : List Bool) → Listed f first row names → f row ≡ Some (AContext Nil) → names ≡ indices first
listed_end f first row names l e = sym (append-nil names) ∙ ap (λ G. names ++ indices (context_of G)) (sym e) ∙ l.all

-- the faces before these

abbrev pub AllTrue : Point → List (List (List Equation)) → Type 0
AllTrue x faces = All (λ g. IsTrue (face_truth g x)) faces

-- the faces so far, and those of the context of a row, are all faces of the first one
pub record Gathered (f : Meanings) (first : Context) (names : List Bool) (inner row : ℕ) (faces : List (List (List Equation))) : Type 0 where
  pub is : IsContext (f row)
  pub names_are : drop inner names ≡ indices (context_of (f row))
  pub forth : (x : Point) → Satisfies first (point_by_index first x) → Satisfies (context_of (f row)) (point_by_index (context_of (f row)) x) × AllTrue x faces
  pub back : (x : Point) → Satisfies (context_of (f row)) (point_by_index (context_of (f row)) x) → AllTrue x faces → Satisfies first (point_by_index first x)

pub gathered_begin : (f : Meanings) (row : ℕ) (names : List Bool) → IsContext (f row) → names ≡ indices (context_of (f row)) → Gathered f (context_of (f row)) names 0 row []
gathered_begin f row names is e = record {
  is = is;
  names_are = e;
  forth = λ x s. (s, All-nil (λ (g : List (List Equation)). IsTrue (face_truth g x)));
  back = λ x s all. s;
}

drop_suc : (names rest : List Bool) (b : Bool) (inner : ℕ) → drop inner names ≡ b ∷ rest → drop (suc inner) names ≡ rest
drop_suc [] rest b zero e = cc
drop_suc [] rest b (suc inner) e = cc
drop_suc (n ∷ names) rest b zero e = let s : names ≡ rest = cc in s
drop_suc (n ∷ names) rest b (suc inner) e = drop_suc names rest b inner e

drop_next : (names rest : List Bool) (b : Bool) (inner : ℕ) → drop inner names ≡ b ∷ rest → drop (inner + 1) names ≡ rest
drop_next names rest b inner e = ap (λ n. drop n names) (add-one inner) ∙ drop_suc names rest b inner e

pub inner_below : (names rest : List Bool) (b : Bool) (inner : ℕ) → drop inner names ≡ b ∷ rest → inner < length names
inner_below [] rest b zero e = cc
inner_below [] rest b (suc inner) e = cc
inner_below (n ∷ names) rest b zero e = omega arith
inner_below (n ∷ names) rest b (suc inner) e = let h = inner_below names rest b inner e in omega arith

pub inner_within : (names : List Bool) (G : Context) (inner : ℕ) → inner ≤ length names → drop inner names ≡ indices G → inner ≤ length names
inner_within names G inner le e = le

abbrev SatisfiesAt : Context → Point → Type 0
SatisfiesAt G x = Satisfies G (point_by_index G x)

pub gathered_var : (f : Meanings) (first : Context) (names : List Bool) (inner row outer ty : ℕ) (faces : List (List (List Equation))) → Gathered f first names inner row faces → f row ≡ both with_variable (f outer) (f ty) → Gathered f first names (inner + 1) outer faces
gathered_var f first names inner row outer ty faces w e =
    let v = var_entry f row outer ty w.is e in
    record {
      is = v.outer_is;
      names_are = drop_next names (indices (context_of (f outer))) false inner (w.names_are ∙ ap indices v.row_is);
      forth = λ x s. let h = w.forth x s in (subst (λ G. SatisfiesAt G x) v.row_is h.0, h.1);
      back = λ x s all. w.back x (subst (λ G. SatisfiesAt G x) (sym v.row_is) s) all;
    }

pub gathered_name : (f : Meanings) (first : Context) (names : List Bool) (inner row outer : ℕ) (faces : List (List (List Equation))) → Gathered f first names inner row faces → f row ≡ option_and_then with_a_name (f outer) → Gathered f first names (inner + 1) outer faces
gathered_name f first names inner row outer faces w e =
    let v = name_entry f row outer w.is e in
    record {
      is = v.outer_is;
      names_are = drop_next names (indices (context_of (f outer))) true inner (w.names_are ∙ ap indices v.row_is);
      forth = λ x s. let h = w.forth x s in (subst (λ G. SatisfiesAt G x) v.row_is h.0, h.1);
      back = λ x s all. w.back x (subst (λ G. SatisfiesAt G x) (sym v.row_is) s) all;
    }

split_push : (x : Point) (faces : List (List (List Equation))) (g : List (List Equation)) → AllTrue x (faces ++ g ∷ []) → AllTrue x faces × IsTrue (face_truth g x)
split_push x [] g all = (All-nil (λ (h : List (List Equation)). IsTrue (face_truth h x)), All-head (λ h. IsTrue (face_truth h x)) g [] all)
split_push x (h ∷ faces) g all =
    let rest = split_push x faces g (All-tail (λ i. IsTrue (face_truth i x)) h (faces ++ g ∷ []) all) in
    (All-cons (λ i. IsTrue (face_truth i x)) h faces (All-head (λ i. IsTrue (face_truth i x)) h (faces ++ g ∷ []) all) rest.0, rest.1)

pub gathered_face : (f : Meanings) (first : Context) (names : List Bool) (inner row outer tree : ℕ) (faces new : List (List (List Equation))) (face : List (List Equation)) → Gathered f first names inner row faces → f row ≡ both with_a_face (f outer) (f tree)
    → ((G : Context) → indices G ≡ drop inner names → (x : Point) → face_truth face x ≡ (is_face G (tree_of (f tree)) && is_true (point_by_index G x) (tree_of (f tree))))
    → new ≡ faces ++ face ∷ [] → Gathered f first names inner outer new
gathered_face f first names inner row outer tree faces new face w e exact grown =
    let v = face_entry f row outer tree w.is e in
    let G = context_of (f outer) in
    let p = tree_of (f tree) in
    let same : drop inner names ≡ indices G = w.names_are ∙ ap indices v.row_is in
    let truth = exact G (sym same) in
    record {
      is = v.outer_is;
      names_are = same;
      forth = λ x s.
          let h = w.forth x s in
          let here : SatisfiesAt (WithFace G p) x = subst (λ H. SatisfiesAt H x) v.row_is h.0 in
          (here.0, subst (AllTrue x) (sym grown) (All-push (λ g. IsTrue (face_truth g x)) faces face h.1 (truth x ∙ ap₂ ◌&&◌ here.1.0 here.1.1)));
      back = λ x s all.
          let parts = split_push x faces face (subst (AllTrue x) grown all) in
          let both = and_parts (is_face G p) (is_true (point_by_index G x) p) (sym (truth x) ∙ parts.1) in
          let here : SatisfiesAt (WithFace G p) x = (s, (both.0, both.1)) in
          w.back x (subst (λ H. SatisfiesAt H x) (sym v.row_is) here) parts.0;
    }

pub gathered_end : (f : Meanings) (first : Context) (names : List Bool) (inner row : ℕ) (faces : List (List (List Equation))) → Gathered f first names inner row faces → f row ≡ Some (AContext Nil) → AreFacesOf first faces
gathered_end f first names inner row faces w e = record {
  exact = λ x. (
    λ s. (w.forth x s).1,
    λ all. w.back x (subst (λ G. SatisfiesAt G x) (sym (ap context_of e)) tt) all,
  );
}

-- the face of a tree, which is true nowhere where it is none

and_from : (a b : Bool) (c : Bool) → a ≡ true → b ≡ c → b ≡ (a && c)
and_from true b c h e = e
and_from false b c h e = cc

pub face_read : (G : Context) (t : Tree) (face : List (List Equation)) → IsFaceOf G t face → (x : Point) → face_truth face x ≡ (is_face G t && is_true (point_by_index G x) t)
face_read G t face r x = and_from (is_face G t) (face_truth face x) (is_true (point_by_index G x) t) r.is_one (r.truth_is x)

pub none_read : (G : Context) (t : Tree) (face : List (List Equation)) → (IsTrue (is_face G t) → ⊥) → ((x : Point) → face_truth face x ≡ false) → (x : Point) → face_truth face x ≡ (is_face G t && is_true (point_by_index G x) t)
none_read G t face none nowhere x = by (is_face G t) none
  where
    by : (a : Bool) → (IsTrue a → ⊥) → face_truth face x ≡ (a && is_true (point_by_index G x) t)
    by true h = absurd (h refl)
    by false _ = nowhere x

all_suc : (x : Point) (faces : List (List (List Equation))) (at : ℕ) (d : List (List Equation)) → at < length faces → list_all (λ g. face_truth g x) (take (suc at) faces) ≡ (list_all (λ g. face_truth g x) (take at faces) && face_truth (get_or faces at d) x)
all_suc x [] at d lt = absurd (omega arith)
all_suc x (g ∷ faces) zero d lt = one (face_truth g x)
  where
    one : (b : Bool) → (b && true) ≡ (true && b)
    one true = refl
    one false = refl
all_suc x (g ∷ faces) (suc at) d lt = ap (λ b. face_truth g x && b) (all_suc x faces at d (omega arith)) ∙ regroup (face_truth g x) (list_all (λ h. face_truth h x) (take at faces)) (face_truth (get_or faces at d) x)
  where
    regroup : (a b c : Bool) → (a && (b && c)) ≡ ((a && b) && c)
    regroup true b c = refl
    regroup false b c = refl

pub all_more : (x : Point) (faces : List (List (List Equation))) (at : ℕ) (d : List (List Equation)) → at < length faces → list_all (λ g. face_truth g x) (take (at + 1) faces) ≡ (list_all (λ g. face_truth g x) (take at faces) && face_truth (get_or faces at d) x)
all_more x faces at d lt = ap (λ n. list_all (λ g. face_truth g x) (take n faces)) (add-one at) ∙ all_suc x faces at d lt
