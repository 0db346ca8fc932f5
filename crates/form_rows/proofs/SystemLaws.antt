-- Systems, made from the last side to the first; and rows that are made one by one.
use Rattle.std.proofs.Common.{◌≡◌, ◌<◌, ◌≤◌, ◌+◌, ℕ, zero, suc, List, [], ◌∷◌, ◌++◌, map, length, get_or, take, drop, Option, IsSome, refl, sym, ap, ◌∙◌, subst, arith}
use Rattle.std.specs.Prelude.{option_and_then}
use Rattle.syntax.specs.declared.formula.Projection.{Projection}
use Rattle.syntax.specs.declared.formula.Projection.TheVariants as projection
use Rattle.trees.specs.declared.op.Op.{Op}
use Rattle.trees.specs.declared.op.Op.TheVariants as op
use Rattle.trees.specs.Operators.{kids_of}
use Rattle.trees.specs.Trees.{Tree, Var, Make, trees_of, apply, shift_by}
use Rattle.trees.specs.Things.{Thing, Meanings, Kept, meanings, made}
use Rattle.rows.specs.Views.{IsTree}
use Rattle.trees.proofs.Meanings.{kept-same}
use Rattle.translation.specs.Terms.{lifted}
use Rattle.translation.specs.Forms.{project}
use Rattle.form_rows.specs.Meant.{Is, Are, AreTrees}
use Rattle.form_rows.specs.Systems.{cover_of, body_of, path_lambdas, taken_by}
use Rattle.form_rows.proofs.RowLaws.{kept_then, is_kept, tree_kept, are_kept, are_at, are_none, are_one, are_two, are_four, are_push, are_length, is_made, tree_of_is, tree_at, is_of, drop_next, drop_whole, take_next, take_whole, two_fit, four_fit}

-- the sides from `at` on
pub record Sided (f g : Meanings) (faces values : List ℕ) (at others row : ℕ) : Type 0 where
  pub kept : Kept f g
  pub within : at ≤ length faces
  pub others_tree : IsTree (g others)
  pub tree : IsTree (g row)
  pub cover : (ps : List Tree) → Are f faces ps → Is g others (cover_of (drop at ps))
  pub body : (ps ts : List Tree) → Are f faces ps → Are f values ts → Is g row (body_of (drop at ps) (drop at ts))

module _ {f g : Meanings} {faces values : List ℕ} {at others row : ℕ} (k : ℕ) (same : length faces ≡ length values) (ps : AreTrees f faces) (ts : AreTrees f values)
    (s : Sided f g faces values at others row) (e : at ≡ suc k) where
  abbrev here : ℕ
  here = get_or faces k 0

  abbrev held : ℕ
  held = get_or values k 0

  below : k < length faces
  below = let w = s.within in omega arith

  face_here : IsTree (g here)
  face_here = tree_kept f g here s.kept (tree_at f faces k ps below)

  value_here : IsTree (g held)
  value_here = tree_kept f g held s.kept (tree_at f values k ts (let b = below in omega arith))

  pub sys_fits : IsSome (option_and_then (made op.Sys) (meanings g (here ∷ others ∷ held ∷ row ∷ [])))
  sys_fits = four_fit g here others held row op.Sys refl face_here s.others_tree value_here s.tree

  pub join_fits : (h : Meanings) → Kept g h → IsSome (option_and_then (made op.Join) (meanings h (here ∷ others ∷ [])))
  join_fits h kept = two_fit h here others op.Join refl (tree_kept g h here kept face_here) (tree_kept g h others kept s.others_tree)

  cover_at : (qs : List Tree) → Are f faces qs → Is g others (cover_of (drop (suc k) qs))
  cover_at qs a = subst (λ n. Is g others (cover_of (drop n qs))) e (s.cover qs a)

  body_at : (qs us : List Tree) → Are f faces qs → Are f values us → Is g row (body_of (drop (suc k) qs) (drop (suc k) us))
  body_at qs us a b = subst (λ n. Is g row (body_of (drop n qs) (drop n us))) e (s.body qs us a b)

  pub sided_more : (h i : Meanings) (new all : ℕ) → Kept g h → h new ≡ option_and_then (made op.Sys) (meanings g (here ∷ others ∷ held ∷ row ∷ []))
      → Kept h i → i all ≡ option_and_then (made op.Join) (meanings h (here ∷ others ∷ [])) → Sided f i faces values k all new
  sided_more h i new all kept made_sys more made_join = record {
    kept = kept_then s.kept (kept_then kept more);
    within = let b = below in omega arith;
    others_tree = tree_of_is i all (is_made op.Join refl (are_two (is_of h here (tree_kept g h here kept face_here)) (is_of h others (tree_kept g h others kept s.others_tree))) made_join);
    tree = tree_kept h i new more (tree_of_is h new (is_made op.Sys refl (are_four (is_of g here face_here) (is_of g others s.others_tree) (is_of g held value_here) (is_of g row s.tree)) made_sys));
    cover = λ qs a. subst (λ us. Is i all (cover_of us)) (sym (drop_next qs k (Var 0) (let n = are_length a in let b = below in omega arith)))
        (is_made op.Join refl (are_two (is_kept (kept_then s.kept kept) (are_at f faces qs k (Var 0) a below)) (is_kept kept (cover_at qs a))) made_join);
    body = λ qs us a b.
        subst (λ xs. Is i new (body_of xs (drop k us))) (sym (drop_next qs k (Var 0) (let n = are_length a in let l = below in omega arith)))
        (subst (λ xs. Is i new (body_of (get_or qs k (Var 0) ∷ drop (suc k) qs) xs)) (sym (drop_next us k (Var 0) (let n = are_length b in let l = below in omega arith)))
        (is_kept more (is_made op.Sys refl (are_four (is_kept s.kept (are_at f faces qs k (Var 0) a below)) (cover_at qs a)
        (is_kept s.kept (are_at f values us k (Var 0) b (let l = below in omega arith))) (body_at qs us a b)) made_sys)));
  }

pub sided_all : {f g : Meanings} {faces values : List ℕ} {at others row : ℕ} (ps ts : List Tree) → Sided f g faces values at others row → at ≡ 0 → Are f faces ps → Are f values ts → Is g row (body_of ps ts)
sided_all {g = g} {row = row} ps ts s e a b = subst (λ n. Is g row (body_of (drop n ps) (drop n ts))) e (s.body ps ts a b)

pub sided_none : {f g : Meanings} {faces values : List ℕ} {others row : ℕ} → length faces ≡ length values → Kept f g → Is g others (cover_of []) → Is g row (body_of [] []) → Sided f g faces values (length faces) others row
sided_none {f} {g} {faces} {values} {others} {row} same kept a b = record {
  kept = kept;
  within = omega arith;
  others_tree = tree_of_is g others a;
  tree = tree_of_is g row b;
  cover = λ qs h. subst (λ us. Is g others (cover_of us)) (sym (drop_whole qs (length faces) (are_length h))) a;
  body = λ qs us h i. subst (λ xs. Is g row (body_of xs (drop (length faces) us))) (sym (drop_whole qs (length faces) (are_length h))) b;
}

-- the first rows, each weakened once
pub record Lifting (f g : Meanings) (rows : List ℕ) (at : ℕ) (all : List ℕ) : Type 0 where
  pub kept : Kept f g
  pub lifts : (ts : List Tree) → Are f rows ts → Are g all (map lifted (take at ts))

map_push : (ts : List Tree) (t : Tree) → map lifted (ts ++ t ∷ []) ≡ map lifted ts ++ lifted t ∷ []
map_push [] t = refl
map_push (u ∷ ts) t = ap (λ xs. lifted u ∷ xs) (map_push ts t)

pub lifting_none : (f : Meanings) (rows : List ℕ) → Lifting f f rows 0 []
lifting_none f rows = record { kept = kept-same f; lifts = λ ts a. are_none f }

pub lifting_more : {f g h : Meanings} {rows : List ℕ} {at : ℕ} {all more : List ℕ} (row r : ℕ) → more ≡ all ++ r ∷ [] → Lifting f g rows at all → at < length rows → row ≡ get_or rows at 0 → Kept g h
    → ((t : Tree) → Is g row t → Is h r (apply t (shift_by 1))) → Lifting f h rows (at + 1) more
lifting_more {f} {g} {h} {rows} {at} {all} {more} row r pushed l lt e kept made = record {
  kept = kept_then l.kept kept;
  lifts = λ ts a.
      let n = are_length a in
      subst (λ rs. Are h rs (map lifted (take (at + 1) ts))) (sym pushed) (subst (λ us. Are h (all ++ r ∷ []) (map lifted us)) (sym (take_next ts at (Var 0) (omega arith)))
      (subst (Are h (all ++ r ∷ [])) (sym (map_push (take at ts) (get_or ts at (Var 0))))
      (are_push (are_kept kept (l.lifts ts a)) (made (get_or ts at (Var 0)) (subst (λ x. Is g x (get_or ts at (Var 0))) (sym e) (is_kept l.kept (are_at f rows ts at (Var 0) a lt)))))));
}

-- path lambdas
pub record Lambdas (f g : Meanings) (body n row : ℕ) : Type 0 where
  pub kept : Kept f g
  pub tree : IsTree (g row)
  pub lambdas : (t : Tree) → Is f body t → Is g row (path_lambdas n t)

pub lambdas_none : (f : Meanings) (body : ℕ) → IsTree (f body) → Lambdas f f body 0 body
lambdas_none f body h = record { kept = kept-same f; tree = h; lambdas = λ t a. a }

pub lambdas_more : {f g h : Meanings} {body n row : ℕ} (r : ℕ) → Lambdas f g body n row → Kept g h → h r ≡ option_and_then (made op.PLam) (meanings g (row ∷ [])) → Lambdas f h body (n + 1) r
lambdas_more {f} {g} {h} {body} {n} {row} r l kept made =
    let s : n + 1 ≡ suc n = omega arith in
    rw s (record {
      kept = kept_then l.kept kept;
      tree = tree_of_is h r (is_made op.PLam refl (are_one (is_of g row l.tree)) made);
      lambdas = λ t a. is_made op.PLam refl (are_one (l.lambdas t a)) made;
    })

-- projections: what is left of them takes the whole to the same
pub record Projected (f g : Meanings) (pair : ℕ) (ps : List Projection) (at row : ℕ) : Type 0 where
  pub kept : Kept f g
  pub tree : IsTree (g row)
  pub projected : (t : Tree) → Is f pair t → (u : Tree) × Is g row u × (project u (drop at ps) ≡ project t ps)

pub projected_none : (f : Meanings) (pair : ℕ) (ps : List Projection) → IsTree (f pair) → Projected f f pair ps 0 pair
projected_none f pair ps h = record { kept = kept-same f; tree = h; projected = λ t a. (t, a, refl) }

abbrev made_by : Op → List Thing → Option Thing
made_by = made

-- the operator of a projection
project_next : (p : Projection) (u : Tree) (ps : List Projection) → project u (p ∷ ps) ≡ project (Make (taken_by p) (trees_of (u ∷ []))) ps
project_next (projection.First s) u ps = refl
project_next (projection.Second s) u ps = refl

pub takes_one : (p : Projection) → kids_of (taken_by p) ≡ 1
takes_one (projection.First s) = refl
takes_one (projection.Second s) = refl

pub projected_more : {f g h : Meanings} {pair at row : ℕ} {ps : List Projection} (p : Projection) (r : ℕ) → at < length ps → p ≡ get_or ps at p → Projected f g pair ps at row → Kept g h
    → h r ≡ option_and_then (made (taken_by p)) (meanings g (row ∷ [])) → Projected f h pair ps (at + 1) r
projected_more {f} {g} {h} {pair} {at} {row} {ps} p r lt here j kept made = record {
  kept = kept_then j.kept kept;
  tree = tree_of_is h r (is_made (taken_by p) (sym (takes_one p)) (are_one (is_of g row j.tree)) made);
  projected = λ t a.
      let k = j.projected t a in
      let s : suc at ≡ at + 1 = omega arith in (
        Make (taken_by p) (trees_of (k.0 ∷ [])),
        is_made (taken_by p) (sym (takes_one p)) (are_one k.1) made,
        ap (λ n. project (Make (taken_by p) (trees_of (k.0 ∷ []))) (drop n ps)) (sym s)
            ∙ sym (project_next p k.0 (drop (suc at) ps))
            ∙ ap (λ q. project k.0 (q ∷ drop (suc at) ps)) here
            ∙ ap (project k.0) (sym (drop_next ps at p lt))
            ∙ k.2,
      );
}

get_same : {A : Type 0} (xs : List A) (k : ℕ) (d e : A) → k < length xs → get_or xs k d ≡ get_or xs k e
get_same [] k d e lt = absurd (omega arith)
get_same (x ∷ xs) zero d e lt = refl
get_same (x ∷ xs) (suc k) d e lt = get_same xs k d e (omega arith)

pub projected_step : {f g h : Meanings} {pair at row : ℕ} {ps : List Projection} (d : Projection) (o : Op) (r : ℕ) → at < length ps → o ≡ taken_by (get_or ps at d) → Projected f g pair ps at row → Kept g h
    → h r ≡ option_and_then (made o) (meanings g (row ∷ [])) → Projected f h pair ps (at + 1) r
projected_step {f} {g} {h} {pair} {at} {row} {ps} d o r lt same j kept made =
    projected_more (get_or ps at d) r lt (get_same ps at d (get_or ps at d) lt) j kept (subst (λ p. h r ≡ option_and_then (made_by p) (meanings g (row ∷ []))) same made)

pub projected_all : {f g : Meanings} {pair at row : ℕ} {ps : List Projection} (t : Tree) → Projected f g pair ps at row → length ps ≤ at → Is f pair t → Is g row (project t ps)
projected_all {f} {g} {pair} {at} {row} {ps} t j le a =
    let k = j.projected t a in
    subst (Is g row) (ap (project k.0) (sym (drop_past ps at le)) ∙ k.2) k.1
  where
    drop_past : {A : Type 0} (xs : List A) (n : ℕ) → length xs ≤ n → drop n xs ≡ []
    drop_past [] zero l = refl
    drop_past [] (suc n) l = refl
    drop_past (x ∷ xs) zero l = absurd (omega arith)
    drop_past (x ∷ xs) (suc n) l = drop_past xs n (omega arith)

pub lifting_all : {f g : Meanings} {rows : List ℕ} {at : ℕ} {all : List ℕ} (ts : List Tree) → Lifting f g rows at all → length rows ≤ at → Are f rows ts → Are g all (map lifted ts)
lifting_all {f} {g} {rows} {at} {all} ts l le a = let n = are_length a in subst (λ us. Are g all (map lifted us)) (take_whole ts at (omega arith)) (l.lifts ts a)

pub lifting_tree : {f g : Meanings} {rows : List ℕ} {at : ℕ} {all : List ℕ} → AreTrees f rows → Lifting f g rows at all → at < length rows → IsTree (g (get_or rows at 0))
lifting_tree {f} {g} {rows} {at} {all} trees l lt = tree_kept f g (get_or rows at 0) l.kept (tree_at f rows at trees lt)
