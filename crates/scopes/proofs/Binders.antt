-- Binders, and what is resolved under them.
use Rattle.std.proofs.Common.{◌≡◌, ◌+◌, ◌-◌, drop, length-append, ◌≤◌, ℕ, List, [], ◌∷◌, ◌++◌, length, replicate, refl, sym, ap, ◌∙◌, arith, subst, append_assoc}
use Rattle.std.proofs.Math.Seq.{drop-append_seam}
use Rattle.trees.specs.Trees.{Tree}
use Rattle.translation.specs.Terms.{lifted, plam}
use Rattle.translation.specs.Scopes.{Variable, Interval}
use Rattle.translation.specs.Translated.{done, ◌>>=◌}
use Rattle.translation.specs.Forms.{Means, Binder, over, under, under_names}
use Rattle.translation.specs.Names.{Word}
use Rattle.scopes.specs.declared.names.Binding.{Binding}
use Rattle.scopes.specs.declared.names.Binding.TheVariants as binding
use Rattle.scopes.specs.Steps.{State, Progress, Same, Moving, Keeps, Resolves, Extends, Binds, BindsOver, bound_to, all_bound_to}
use Rattle.scopes.proofs.Agreeing.{agree_variable, agree_interval}
use Rattle.scopes.proofs.Moving.{moves_done, moves_then, moving_then}

-- under variables of one type

over_variables : {B : Type 0} (make : Tree → B → B) (xs : List Word) (s : State) (t : Progress) (f : Means Word B) (g : Means ℕ B)
    → Moving (all_bound_to s xs binding.Variable) t f g → (A : Tree)
    → Moving s t (over make xs A f) (over make (replicate (length xs) 0) A g)
over_variables make [] s t f g h A = h
over_variables make (x ∷ xs) s t f g h A = record {
  moves = λ G H a. moves_then s.so_far t t Same Same
      (over make xs (lifted A) f (Variable x A ∷ G)) (over make (replicate (length xs) 0) (lifted A) g (Variable 0 A ∷ H))
      (λ b. done (make A b)) (λ b. done (make A b))
      ((over_variables make xs (bound_to s x binding.Variable) t f g h (lifted A)).moves (Variable x A ∷ G) (Variable 0 A ∷ H) (agree_variable s G H x A a))
      (λ b c e. moves_done t Same (make A b) (make A c) (ap (make A) e));
}

-- under names of the interval

pub under_intervals : (xs : List Word) (s : State) (t : Progress) (f : Means Word Tree) (g : Means ℕ Tree)
    → Moving (all_bound_to s xs binding.Interval) t f g
    → Moving s t (under_names xs f) (under_names (replicate (length xs) 0) g)
under_intervals [] s t f g h = h
under_intervals (x ∷ xs) s t f g h = record {
  moves = λ G H a. moves_then s.so_far t t Same Same
      (under_names xs f (Interval x ∷ G)) (under_names (replicate (length xs) 0) g (Interval 0 ∷ H))
      (λ b. done (plam b)) (λ b. done (plam b))
      ((under_intervals xs (bound_to s x binding.Interval) t f g h).moves (Interval x ∷ G) (Interval 0 ∷ H) (agree_interval s G H x a))
      (λ b c e. moves_done t Same (plam b) (plam c) (ap plam e));
}

-- no binders, and one more

pub binds_none : (s : State) → Binds s s [] []
binds_none s = record {
  extends = record { bound = []; names = refl; grows = omega arith };
  terms = record { moving = λ make t f g h. h };
  definitions = record { moving = λ make t f g h. h };
}

under_push : {N B : Type 0} (make : Tree → B → B) (bs cs : List (Binder N)) (inner : Means N B)
    → under make bs (under make cs inner) ≡ under make (bs ++ cs) inner
under_push make [] cs inner = refl
under_push make (b ∷ bs) cs inner = ap (λ i G. b.type G >>= λ A. over make b.names A i G) (under_push make bs cs inner)

one_binder : {B : Type 0} (s t u : State) (names : List Word) (f : Means Word Tree) (g : Means ℕ Tree)
    → Resolves s t f g → u ≡ all_bound_to t names binding.Variable
    → BindsOver B s u (record { names = names; type = f } ∷ []) (record { names = replicate (length names) 0; type = g } ∷ [])
one_binder s t u names f g h e = record {
  moving = λ make end p q inner. moving_then s t end f g (λ A G. over make names A p G) (λ A H. over make (replicate (length names) 0) A q H) h
      (λ A. over_variables make names t end p q (subst (λ v. Moving v end p q) e inner) A);
}

more_over : {B : Type 0} (s t u : State) (bs cs : List (Binder Word)) (bs' cs' : List (Binder ℕ))
    → BindsOver B s t bs bs' → BindsOver B t u cs cs' → BindsOver B s u (bs ++ cs) (bs' ++ cs')
more_over s t u bs cs bs' cs' first second = record {
  moving = λ make end f g inner.
      subst (λ x. Moving s end x (under make (bs' ++ cs') g)) (under_push make bs cs f)
      (subst (λ y. Moving s end (under make bs (under make cs f)) y) (under_push make bs' cs' g)
      (first.moving make end (under make cs f) (under make cs' g) (second.moving make end f g inner)));
}

pub extends_then : (s t u : State) → Extends s t → Extends t u → Extends s u
extends_then s t u a b = record {
  bound = b.bound ++ a.bound;
  names = b.names ∙ ap (λ ns. b.bound ++ ns) a.names ∙ sym (append_assoc b.bound a.bound s.names);
  grows = let x = a.grows in let y = b.grows in omega arith;
}

-- the names that are bound, the last first
extends_bound : (s : State) (xs : List Word) (b : Binding) → Extends s (all_bound_to s xs b)
extends_bound s [] b = record { bound = []; names = refl; grows = omega arith }
extends_bound s (x ∷ xs) b = extends_then s (bound_to s x b) _
    (record { bound = record { word = x; binding = b } ∷ []; names = refl; grows = omega arith })
    (extends_bound (bound_to s x b) xs b)

pub extends_kept : (s t : State) → Keeps s t → Extends s t
extends_kept s t k = record { bound = []; names = k.names; grows = k.grows }

pub binds_more : (s t u v : State) (bs : List (Binder Word)) (bs' : List (Binder ℕ)) (names : List Word) (f : Means Word Tree) (g : Means ℕ Tree)
    → Binds s t bs bs' → Resolves t u f g → v ≡ all_bound_to u names binding.Variable
    → Binds s v (bs ++ record { names = names; type = f } ∷ []) (bs' ++ record { names = replicate (length names) 0; type = g } ∷ [])
binds_more s t u v bs bs' names f g first type e =
    let b : Binder Word = record { names = names; type = f } in
    let c : Binder ℕ = record { names = replicate (length names) 0; type = g } in
    record {
      extends = extends_then s t v first.extends (extends_then t u v (extends_kept t u type.keeps) (subst (λ x. Extends u x) (sym e) (extends_bound u names binding.Variable)));
      terms = more_over s t v bs (b ∷ []) bs' (c ∷ []) first.terms (one_binder t u v names f g type e);
      definitions = more_over s t v bs (b ∷ []) bs' (c ∷ []) first.definitions (one_binder t u v names f g type e);
    }

-- After what stands under binders their names are taken away.

cut_names : {A : Type 0} (xs ys zs : List A) → zs ≡ xs ++ ys → drop (length zs - length ys) zs ≡ ys
cut_names xs ys zs e = subst (λ z. drop (length z - length ys) z ≡ ys) (sym e)
    (let h : length (xs ++ ys) - length ys ≡ length xs = omega (arith, length-append xs ys) in rw h (drop-append_seam xs ys))

pub keeps_cut : (s t u v : State) → Extends s t → Keeps t u → v ≡ record u { names = drop (length u.names - length s.names) u.names } → Keeps s v
keeps_cut s t u v a k e = record {
  names = ap (λ x. x.names) e ∙ cut_names a.bound s.names u.names (k.names ∙ a.names);
  grows = let x = a.grows in let y = k.grows in subst (λ x. s.so_far.next ≤ x.so_far.next) (sym e) (omega arith);
}

pub moving_cut : {A : Type 0} (s u v : State) (f : Means Word A) (g : Means ℕ A) → v ≡ record u { names = drop (length u.names - length s.names) u.names }
    → Moving s u.so_far f g → Moving s v.so_far f g
moving_cut s u v f g e h = subst (λ x. Moving s x f g) (sym (ap (λ x. x.so_far) e)) h

-- a body under binders
pub resolves_under : {B : Type 0} (make : Tree → B → B) (s t u v : State) (bs : List (Binder Word)) (bs' : List (Binder ℕ)) (f : Means Word B) (g : Means ℕ B)
    → Extends s t → BindsOver B s t bs bs' → Resolves t u f g → v ≡ record u { names = drop (length u.names - length s.names) u.names }
    → Resolves s v (under make bs f) (under make bs' g)
resolves_under make s t u v bs bs' f g first binds second e = record {
  keeps = keeps_cut s t u v first second.keeps e;
  moving = moving_cut s u v (under make bs f) (under make bs' g) e (binds.moving make u.so_far f g second.moving);
}

-- a body under names of the interval
pub resolves_under_names : (s t u : State) (xs : List Word) (f : Means Word Tree) (g : Means ℕ Tree)
    → Resolves (all_bound_to s xs binding.Interval) t f g → u ≡ record t { names = drop (length t.names - length s.names) t.names }
    → Resolves s u (under_names xs f) (under_names (replicate (length xs) 0) g)
resolves_under_names s t u xs f g h e = record {
  keeps = keeps_cut s (all_bound_to s xs binding.Interval) t u (extends_bound s xs binding.Interval) h.keeps e;
  moving = moving_cut s t u (under_names xs f) (under_names (replicate (length xs) 0) g) e (under_intervals xs s t.so_far f g h.moving);
}

-- under variables of the type A
pub resolves_over : {B : Type 0} (make : Tree → B → B) (A : Tree) (s t u : State) (xs : List Word) (f : Means Word B) (g : Means ℕ B)
    → Resolves (all_bound_to s xs binding.Variable) t f g → u ≡ record t { names = drop (length t.names - length s.names) t.names }
    → Resolves s u (over make xs A f) (over make (replicate (length xs) 0) A g)
resolves_over make A s t u xs f g h e = record {
  keeps = keeps_cut s (all_bound_to s xs binding.Variable) t u (extends_bound s xs binding.Variable) h.keeps e;
  moving = moving_cut s t u (over make xs A f) (over make (replicate (length xs) 0) A g) e (over_variables make xs s t.so_far f g h.moving A);
}

-- what stands opened, under its name or variable

pub resolves_in_interval : (s t u : State) (x : Word) (f : Means Word Tree) (g : Means ℕ Tree)
    → Resolves (bound_to s x binding.Interval) t f g → u ≡ record t { names = drop (length t.names - length s.names) t.names }
    → Resolves s u (λ G. f (Interval x ∷ G)) (λ H. g (Interval 0 ∷ H))
resolves_in_interval s t u x f g h e = record {
  keeps = keeps_cut s (bound_to s x binding.Interval) t u (extends_bound s (x ∷ []) binding.Interval) h.keeps e;
  moving = moving_cut s t u (λ G. f (Interval x ∷ G)) (λ H. g (Interval 0 ∷ H)) e
      (record { moves = λ G H a. h.moving.moves (Interval x ∷ G) (Interval 0 ∷ H) (agree_interval s G H x a) });
}

pub resolves_in_variable : (s t u : State) (x : Word) (A : Tree) (f : Means Word Tree) (g : Means ℕ Tree)
    → Resolves (bound_to s x binding.Variable) t f g → u ≡ record t { names = drop (length t.names - length s.names) t.names }
    → Resolves s u (λ G. f (Variable x A ∷ G)) (λ H. g (Variable 0 A ∷ H))
resolves_in_variable s t u x A f g h e = record {
  keeps = keeps_cut s (bound_to s x binding.Variable) t u (extends_bound s (x ∷ []) binding.Variable) h.keeps e;
  moving = moving_cut s t u (λ G. f (Variable x A ∷ G)) (λ H. g (Variable 0 A ∷ H)) e
      (record { moves = λ G H a. h.moving.moves (Variable x A ∷ G) (Variable 0 A ∷ H) (agree_variable s G H x A a) });
}
