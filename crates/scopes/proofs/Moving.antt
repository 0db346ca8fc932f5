-- Texts in order, and the forms that are made of them.
use Rattle.std.proofs.Common.{◌≡◌, ◌+◌, ℕ, zero, suc, List, [], ◌∷◌, ◌++◌, map, length, refl, sym, ap, ◌∙◌, arith, subst}
use Rattle.trees.specs.Trees.{Tree}
use Rattle.translation.specs.Scopes.{Scope, Face}
use Rattle.translation.specs.Systems.{on, meet_of}
use Rattle.translation.specs.Translated.{Translated, Stated, done, ◌>>=◌, judgements_of, earlier}
use Rattle.translation.specs.Forms.{Means, all, side}
use Rattle.translation.specs.Names.{Word}
use Rattle.scopes.specs.Steps.{State, Progress, Moves, Same, Moving, Keeps, Resolves, count_from}
use Rattle.codes.proofs.Logs.{judgements_append, map_append, length_append, earlier_assoc, earlier_none, then_assoc, then_same}
use Rattle.scopes.proofs.Agreeing.{agree_after, agree_face}

-- numbers in a row

pub count_append : (m n k : ℕ) → count_from (m + n) k ≡ count_from m k ++ count_from n (k + m)
count_append zero n k = let e : zero + n ≡ n = omega arith in let d : k + zero ≡ k = omega arith in rw e (rw d refl)
count_append (suc m) n k =
    let e : suc m + n ≡ suc (m + n) = omega arith in
    let d : k + suc m ≡ suc k + m = omega arith in
    rw e (rw d (ap (λ ks. k ∷ ks) (count_append m n (suc k))))

-- at one scope

pub moves_done : {A B : Type 0} (s : Progress) (R : A → B → Type 0) (a : A) (b : B) → R a b → Moves s s R (done a) (done b)
moves_done s R a b h = record {
  value = h;
  judgements = refl;
  numbered = refl;
  next = omega arith;
  refusal = sym (earlier_none s.refusal);
}

pub moves_then : {A B C D : Type 0} (s t u : Progress) (R : A → B → Type 0) (Q : C → D → Type 0)
    (f : Translated Word A) (g : Translated ℕ B) (k : A → Translated Word C) (l : B → Translated ℕ D)
    → Moves s t R f g → ((a : A) (b : B) → R a b → Moves t u Q (k a) (l b)) → Moves s u Q (f >>= k) (g >>= l)
moves_then s t u R Q f g k l first second =
    let p = f.stated in
    let q = g.stated in
    let next = second f.value g.value first.value in
    let m = (k f.value).stated in
    let n = (l g.value).stated in
    let name = λ (d : Stated ℕ). d.name in
    let places : count_from (length m) t.next ≡ count_from (length m) (s.next + length p) = ap (count_from (length m)) first.next in
    let together : count_from (length (p ++ m)) s.next ≡ count_from (length p) s.next ++ count_from (length m) (s.next + length p) =
    ap (λ c. count_from c s.next) (length_append p m) ∙ count_append (length p) (length m) s.next in
    record {
      value = next.value;
      judgements = judgements_append q n ∙ ap (λ js. js ++ judgements_of n) first.judgements ∙ ap (λ js. judgements_of p ++ js) next.judgements ∙ sym (judgements_append p m);
      numbered = map_append name q n ∙ ap (λ ks. ks ++ map name n) first.numbered
          ∙ ap (λ ks. count_from (length p) s.next ++ ks) (next.numbered ∙ places) ∙ sym together;
      next = let e = length_append p m in let a = first.next in let b = next.next in omega arith;
      refusal = next.refusal ∙ ap (λ r. earlier r (k f.value).refusal) first.refusal ∙ sym (earlier_assoc s.refusal f.refusal (k f.value).refusal);
    }

pub moves_same : {A B : Type 0} (s t : Progress) (R : A → B → Type 0) (f f' : Translated Word A) (g g' : Translated ℕ B)
    → f ≡ f' → g ≡ g' → Moves s t R f g → Moves s t R f' g'
moves_same s t R f f' g g' e d h = subst (λ x. Moves s t R x g') e (subst (λ y. Moves s t R f y) d h)

-- in each scope

pub keeps_same : (s : State) → Keeps s s
keeps_same s = record { names = refl; grows = omega arith }

pub keeps_then : (s t u : State) → Keeps s t → Keeps t u → Keeps s u
keeps_then s t u a b = record { names = b.names ∙ a.names; grows = let x = a.grows in let y = b.grows in omega arith }

pub moving_same : {A : Type 0} (s : State) (t : Progress) (f f' : Means Word A) (g g' : Means ℕ A)
    → ((G : Scope Word) → f G ≡ f' G) → ((H : Scope ℕ) → g H ≡ g' H) → Moving s t f g → Moving s t f' g'
moving_same s t f f' g g' e d h = record { moves = λ G H a. moves_same s.so_far t Same (f G) (f' G) (g H) (g' H) (e G) (d H) (h.moves G H a) }

pub moving_done : {A : Type 0} (s : State) (a : A) → Moving s s.so_far (λ G. done a) (λ H. done a)
moving_done s a = record { moves = λ G H h. moves_done s.so_far Same a a refl }

-- One text after another, which may depend on what the first one gives.
pub moving_then : {A B : Type 0} (s t : State) (u : Progress) (f : Means Word A) (g : Means ℕ A) (k : A → Means Word B) (l : A → Means ℕ B)
    → Resolves s t f g → ((a : A) → Moving t u (k a) (l a)) → Moving s u (λ G. f G >>= λ a. k a G) (λ H. g H >>= λ a. l a H)
moving_then s t u f g k l first second = record {
  moves = λ G H h. moves_then s.so_far t.so_far u Same Same (f G) (g H) (λ a. k a G) (λ a. l a H)
      (first.moving.moves G H h)
      (λ a b e. subst (λ x. Moves t.so_far u Same (k a G) (l x H)) (sym e) ((second a).moves G H (agree_after s t G H first.keeps h)));
}

pub resolves_done : {A : Type 0} (s : State) (a : A) → Resolves s s (λ G. done a) (λ H. done a)
resolves_done s a = record { keeps = keeps_same s; moving = moving_done s a }

pub resolves_same : {A : Type 0} (s t : State) (f f' : Means Word A) (g g' : Means ℕ A)
    → ((G : Scope Word) → f G ≡ f' G) → ((H : Scope ℕ) → g H ≡ g' H) → Resolves s t f g → Resolves s t f' g'
resolves_same s t f f' g g' e d h = record { keeps = h.keeps; moving = moving_same s t.so_far f f' g g' e d h.moving }

-- forms of one to four parts

pub resolves_one : {A B : Type 0} (F : A → B) (s t : State) (f : Means Word A) (g : Means ℕ A)
    → Resolves s t f g → Resolves s t (λ G. f G >>= λ a. done (F a)) (λ H. g H >>= λ a. done (F a))
resolves_one F s t f g h = record {
  keeps = h.keeps;
  moving = moving_then s t t.so_far f g (λ a G. done (F a)) (λ a H. done (F a)) h (λ a. moving_done t (F a));
}

pub resolves_two : {A B C : Type 0} (F : A → B → C) (s t u : State) (f : Means Word A) (g : Means ℕ A) (k : Means Word B) (l : Means ℕ B)
    → Resolves s t f g → Resolves t u k l
    → Resolves s u (λ G. f G >>= λ a. k G >>= λ b. done (F a b)) (λ H. g H >>= λ a. l H >>= λ b. done (F a b))
resolves_two F s t u f g k l first second = record {
  keeps = keeps_then s t u first.keeps second.keeps;
  moving = moving_then s t u.so_far f g (λ a G. k G >>= λ b. done (F a b)) (λ a H. l H >>= λ b. done (F a b)) first
      (λ a. (resolves_one (F a) t u k l second).moving);
}

pub resolves_three : {A B C D : Type 0} (F : A → B → C → D) (s t u v : State) (f : Means Word A) (f' : Means ℕ A)
    (g : Means Word B) (g' : Means ℕ B) (h : Means Word C) (h' : Means ℕ C)
    → Resolves s t f f' → Resolves t u g g' → Resolves u v h h'
    → Resolves s v (λ G. f G >>= λ a. g G >>= λ b. h G >>= λ c. done (F a b c)) (λ H. f' H >>= λ a. g' H >>= λ b. h' H >>= λ c. done (F a b c))
resolves_three F s t u v f f' g g' h h' first second third = record {
  keeps = keeps_then s t v first.keeps (keeps_then t u v second.keeps third.keeps);
  moving = moving_then s t v.so_far f f' (λ a G. g G >>= λ b. h G >>= λ c. done (F a b c)) (λ a H. g' H >>= λ b. h' H >>= λ c. done (F a b c)) first
      (λ a. (resolves_two (F a) t u v g g' h h' second third).moving);
}

pub resolves_four : {A B C D E : Type 0} (F : A → B → C → D → E) (s t u v w : State) (f : Means Word A) (f' : Means ℕ A)
    (g : Means Word B) (g' : Means ℕ B) (h : Means Word C) (h' : Means ℕ C) (k : Means Word D) (k' : Means ℕ D)
    → Resolves s t f f' → Resolves t u g g' → Resolves u v h h' → Resolves v w k k'
    → Resolves s w (λ G. f G >>= λ a. g G >>= λ b. h G >>= λ c. k G >>= λ d. done (F a b c d))
    (λ H. f' H >>= λ a. g' H >>= λ b. h' H >>= λ c. k' H >>= λ d. done (F a b c d))
resolves_four F s t u v w f f' g g' h h' k k' first second third fourth = record {
  keeps = keeps_then s t w first.keeps (keeps_then t u w second.keeps (keeps_then u v w third.keeps fourth.keeps));
  moving = moving_then s t w.so_far f f' (λ a G. g G >>= λ b. h G >>= λ c. k G >>= λ d. done (F a b c d))
      (λ a H. g' H >>= λ b. h' H >>= λ c. k' H >>= λ d. done (F a b c d)) first
      (λ a. (resolves_three (F a) t u v w g g' h h' k k' second third fourth).moving);
}

-- texts in order, and one more

all_push : {N A : Type 0} (fs : List (Means N A)) (f : Means N A) (G : Scope N)
    → (all fs G >>= λ xs. f G >>= λ x. done (xs ++ x ∷ [])) ≡ all (fs ++ f ∷ []) G
all_push [] f G = refl
all_push (e ∷ es) f G =
    let x = (e G).value in
    let rest = all es G in
    then_assoc (e G) (λ v. rest >>= λ xs. done (v ∷ xs)) (λ xs. f G >>= λ y. done (xs ++ y ∷ []))
    ∙ then_same (e G) (λ v. (rest >>= λ xs. done (v ∷ xs)) >>= λ xs. f G >>= λ y. done (xs ++ y ∷ [])) (λ v. all (es ++ f ∷ []) G >>= λ xs. done (v ∷ xs))
    (then_assoc rest (λ xs. done (x ∷ xs)) (λ xs. f G >>= λ y. done (xs ++ y ∷ []))
    ∙ then_same rest (λ xs. f G >>= λ y. done (x ∷ (xs ++ y ∷ []))) (λ xs. (f G >>= λ y. done (xs ++ y ∷ [])) >>= λ zs. done (x ∷ zs))
    (sym (then_assoc (f G) (λ y. done (rest.value ++ y ∷ [])) (λ zs. done (x ∷ zs))))
    ∙ sym (then_assoc rest (λ xs. f G >>= λ y. done (xs ++ y ∷ [])) (λ zs. done (x ∷ zs)))
    ∙ ap (λ m. m >>= λ zs. done (x ∷ zs)) (all_push es f G))

pub resolves_all_none : {A : Type 0} (s : State) → Resolves s s (all {N = Word} {A = A} []) (all {N = ℕ} {A = A} [])
resolves_all_none s = resolves_done s []

pub resolves_all_more : {A : Type 0} (s t u : State) (fs : List (Means Word A)) (gs : List (Means ℕ A)) (f : Means Word A) (g : Means ℕ A)
    → Resolves s t (all fs) (all gs) → Resolves t u f g → Resolves s u (all (fs ++ f ∷ [])) (all (gs ++ g ∷ []))
resolves_all_more s t u fs gs f g first second =
    resolves_same s u (λ G. all fs G >>= λ xs. f G >>= λ x. done (xs ++ x ∷ [])) (all (fs ++ f ∷ []))
    (λ H. all gs H >>= λ xs. g H >>= λ x. done (xs ++ x ∷ [])) (all (gs ++ g ∷ []))
    (λ G. all_push fs f G) (λ H. all_push gs g H)
    (resolves_two (λ xs x. xs ++ x ∷ []) s t u (all fs) (all gs) f g first second)

-- a side: what stands on its face is resolved under the face

pub resolves_side : {A : Type 0} (s t u : State) (es : List (Means Word Tree)) (es' : List (Means ℕ Tree)) (f : Means Word A) (g : Means ℕ A)
    → Resolves s t (all es) (all es') → Resolves t u f g
    → Resolves s u (side (record { equations = es; value = f })) (side (record { equations = es'; value = g }))
resolves_side s t u es es' f g first second = record {
  keeps = keeps_then s t u first.keeps second.keeps;
  moving = moving_then s t u.so_far (all es) (all es') (λ ps G. let p = meet_of ps in f (Face p ∷ G) >>= λ a. done (on p a))
      (λ ps H. let p = meet_of ps in g (Face p ∷ H) >>= λ a. done (on p a)) first (λ ps. under_face (meet_of ps));
}
  where
    under_face : (p : Tree) → Moving t u.so_far (λ G. f (Face p ∷ G) >>= λ a. done (on p a)) (λ H. g (Face p ∷ H) >>= λ a. done (on p a))
    under_face p = record {
      moves = λ G H a. moves_then t.so_far u.so_far u.so_far Same Same (f (Face p ∷ G)) (g (Face p ∷ H)) (λ x. done (on p x)) (λ x. done (on p x))
          (second.moving.moves (Face p ∷ G) (Face p ∷ H) (agree_face t G H p a))
          (λ x y e. moves_done u.so_far Same (on p x) (on p y) (ap (on p) e));
    }
