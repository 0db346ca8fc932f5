-- What stands under binders, in the order in which it is spelt.
use Rattle.std.proofs.Common.{◌≡◌, ℕ, zero, suc, List, [], ◌∷◌, ◌++◌, map, replicate, refl, sym, ap, ◌∙◌, append_assoc}
use Rattle.std.proofs.Math.Path.{fun_ext}
use Rattle.trees.specs.Trees.{Tree}
use Rattle.translation.specs.Terms.{lifted, plam}
use Rattle.translation.specs.Scopes.{Scope, Variable, Interval, context_of}
use Rattle.translation.specs.Translated.{Translated, done, ◌>>=◌, with}
use Rattle.translation.specs.Forms.{Means, over, under, under_names}
use Rattle.codes.specs.declared.code.Binder.{Binder}
use Rattle.codes.specs.Codes.{meaning, binder}
use Rattle.codes.proofs.Logs.{append_empty, then_done, then_assoc, then_same}
use Rattle.form_rows.specs.Systems.{path_lambdas}
use Rattle.judgement_rows.specs.Places.{copies, with_names, with_variables}
use Rattle.judgement_rows.specs.Under.{intervals, variables, entered, folded}

folded_append : {B : Type 0} (make : Tree → B → B) (As Bs : List Tree) (b : B) → folded make As (folded make Bs b) ≡ folded make (As ++ Bs) b
folded_append make [] Bs b = refl
folded_append make (A ∷ As) Bs b = ap (make A) (folded_append make As Bs b)

-- what is done with a value, and then with what comes of it
with_with : {A B C : Type 0} (m : Translated ℕ A) (f : A → B) (g : B → C) → with g (with f m) ≡ with (λ a. g (f a)) m
with_with m f g = then_assoc m (λ a. done (f a)) (λ b. done (g b))

over_is : {B : Type 0} (make : Tree → B → B) (n : ℕ) (A : Tree) (inner : Means ℕ B) (G : Scope ℕ)
    → over make (replicate n 0) A inner G ≡ with (folded make (copies n A)) (inner (variables n A G))
over_is make zero A inner G = sym (then_done (inner G))
over_is make (suc n) A inner G =
    ap (with (make A)) (over_is make n (lifted A) inner (Variable 0 A ∷ G))
    ∙ with_with (inner (variables n (lifted A) (Variable 0 A ∷ G))) (folded make (copies n (lifted A))) (make A)

abbrev entry : List Tree → Scope ℕ → Translated ℕ (List Tree × Scope ℕ)
entry ts H = done (ts, H)

folded_twice : {B : Type 0} (make : Tree → B → B) (As Bs : List Tree) → (λ b. folded make As (folded make Bs b)) ≡ folded make (As ++ Bs)
folded_twice make As Bs = fun_ext (λ b. folded_append make As Bs b)

-- one binder, over others
binder_is : {B : Type 0} (make : Tree → B → B) (n : ℕ) (bs : List Binder) (inner : Means ℕ B) (A : Tree) (G : Scope ℕ)
    → under make (map binder bs) inner (variables n A G) ≡ (entered bs (variables n A G) >>= λ e. with (folded make e.0) (inner e.1))
    → over make (replicate n 0) A (under make (map binder bs) inner) G ≡ ((entered bs (variables n A G) >>= λ e. entry (copies n A ++ e.0) e.1) >>= λ e. with (folded make e.0) (inner e.1))
binder_is make n bs inner A G h =
    let ts = copies n A in
    let inside = entered bs (variables n A G) in
    over_is make n A (under make (map binder bs) inner) G
    ∙ ap (with (folded make ts)) h
    ∙ then_assoc inside (λ e. with (folded make e.0) (inner e.1)) (λ x. done (folded make ts x))
    ∙ then_same inside (λ e. with (folded make ts) (with (folded make e.0) (inner e.1))) (λ e. with (folded make (ts ++ e.0)) (inner e.1))
    (with_with (inner inside.value.1) (folded make inside.value.0) (folded make ts)
    ∙ ap (λ f. with f (inner inside.value.1)) (folded_twice make ts inside.value.0))
    ∙ sym (then_assoc inside (λ e. entry (ts ++ e.0) e.1) (λ e. with (folded make e.0) (inner e.1)))

pub under_is : {B : Type 0} (make : Tree → B → B) (bs : List Binder) (inner : Means ℕ B) (G : Scope ℕ)
    → under make (map binder bs) inner G ≡ (entered bs G >>= λ e. with (folded make e.0) (inner e.1))
under_is make [] inner G = sym (then_done (inner G))
under_is make (b ∷ bs) inner G =
    let A = (meaning b.ty G).value in
    then_same (meaning b.ty G) (λ T. over make (replicate b.names 0) T (under make (map binder bs) inner) G)
    (λ T. (entered bs (variables b.names T G) >>= λ e. entry (copies b.names T ++ e.0) e.1) >>= λ e. with (folded make e.0) (inner e.1))
    (binder_is make b.names bs inner A G (under_is make bs inner (variables b.names A G)))
    ∙ sym (then_assoc (meaning b.ty G) (λ T. entered bs (variables b.names T G) >>= λ e. entry (copies b.names T ++ e.0) e.1) (λ e. with (folded make e.0) (inner e.1)))

-- one more binder

pub entered_push : (bs : List Binder) (b : Binder) (G : Scope ℕ)
    → (entered bs G >>= λ e. meaning b.ty e.1 >>= λ A. entry (e.0 ++ copies b.names A) (variables b.names A e.1)) ≡ entered (bs ++ b ∷ []) G
entered_push [] b G =
    then_same (meaning b.ty G) (λ A. entry (copies b.names A) (variables b.names A G)) (λ A. entry (copies b.names A ++ []) (variables b.names A G))
    (ap (λ ts. entry ts (variables b.names (meaning b.ty G).value G)) (sym (append_empty (copies b.names (meaning b.ty G).value))))
entered_push (c ∷ bs) b G =
    let A = (meaning c.ty G).value in
    let ts = copies c.names A in
    let rest = entered bs (variables c.names A G) in
    let last = λ (e : List Tree × Scope ℕ). meaning b.ty e.1 >>= λ B. entry (e.0 ++ copies b.names B) (variables b.names B e.1) in
    let at_last = λ (xs : List Tree) (H : Scope ℕ). meaning b.ty H >>= λ B. entry (xs ++ copies b.names B) (variables b.names B H) in
    then_assoc (meaning c.ty G) (λ v. entered bs (variables c.names v G) >>= λ e. entry (copies c.names v ++ e.0) e.1) last
    ∙ then_same (meaning c.ty G) (λ v. (entered bs (variables c.names v G) >>= λ e. entry (copies c.names v ++ e.0) e.1) >>= last)
    (λ v. entered (bs ++ b ∷ []) (variables c.names v G) >>= λ e. entry (copies c.names v ++ e.0) e.1)
    (then_assoc rest (λ e. entry (ts ++ e.0) e.1) last
    ∙ then_same rest (λ e. at_last (ts ++ e.0) e.1) (λ e. last e >>= λ d. entry (ts ++ d.0) d.1)
    (then_same (meaning b.ty rest.value.1)
    (λ B. entry ((ts ++ rest.value.0) ++ copies b.names B) (variables b.names B rest.value.1))
    (λ B. entry (ts ++ (rest.value.0 ++ copies b.names B)) (variables b.names B rest.value.1))
    (ap (λ xs. entry xs (variables b.names (meaning b.ty rest.value.1).value rest.value.1)) (append_assoc ts rest.value.0 (copies b.names (meaning b.ty rest.value.1).value)))
    ∙ sym (then_assoc (meaning b.ty rest.value.1) (λ B. entry (rest.value.0 ++ copies b.names B) (variables b.names B rest.value.1)) (λ d. entry (ts ++ d.0) d.1)))
    ∙ sym (then_assoc rest last (λ d. entry (ts ++ d.0) d.1))
    ∙ ap (λ m. m >>= λ d. entry (ts ++ d.0) d.1) (entered_push bs b (variables c.names A G)))

-- names of the interval

pub names_are : (n : ℕ) (inner : Means ℕ Tree) (G : Scope ℕ) → under_names (replicate n 0) inner G ≡ with (path_lambdas n) (inner (intervals n G))
names_are zero inner G = sym (then_done (inner G))
names_are (suc n) inner G =
    ap (with plam) (names_are n inner (Interval 0 ∷ G)) ∙ with_with (inner (intervals n (Interval 0 ∷ G))) (path_lambdas n) plam

pub context_names : (n : ℕ) (H : Scope ℕ) → context_of (intervals n H) ≡ with_names n (context_of H)
context_names zero H = refl
context_names (suc n) H = context_names n (Interval 0 ∷ H)

pub context_variables : (n : ℕ) (A : Tree) (H : Scope ℕ) → context_of (variables n A H) ≡ with_variables n A (context_of H)
context_variables zero A H = refl
context_variables (suc n) A H = context_variables n (lifted A) (Variable 0 A ∷ H)
