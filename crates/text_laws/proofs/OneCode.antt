-- Among the same names a text becomes one code, but for the numbers of its definitions.
use Rattle.std.proofs.Common.{◌≡◌, ◌==◌, ℕ, Bool, true, false, List, [], ◌∷◌, length, codes, Option, None, Some, refl, sym, ◌∙◌, ap, ap₂, subst, if◌then◌else◌}
use Rattle.layout_lexer.specs.declared.token.Span.{Span}
use Rattle.syntax.specs.Tree as text
use Rattle.translation.specs.declared.built_in.BuiltIn.TheVariants as built_in
use Rattle.translation.specs.Texts.{span_of}
use Rattle.codes.specs.Shapes as code
use Rattle.codes.specs.Shapes.{Shape, Shapes}
use Rattle.scopes.specs.declared.names.Binding.TheVariants as binding
use Rattle.scopes.specs.declared.names.Found.{Found}
use Rattle.scopes.specs.declared.names.Found.TheVariants as found
use Rattle.scopes.specs.Finding.{Named}
use Rattle.name_resolution.specs.Named.{as_term, found_at, formula_in, equations_in}
use Rattle.resolved_forms.specs.Shaped.{Stand, Term, Line, Motive, Side, Pair, Becoming, plain, as_line, as_motive, as_pair, where_found, where_true, numbers, after, tuple}
use Rattle.resolved_forms.specs.Shaped.{Applied, are_arguments, bound_in, Scoping, after_all, binding_nothing, words, under_tele, after_definition, in_lambda, nat_in}
use Rattle.resolved_forms.specs.Shaped.{Becomes, Become, OpenedOver, InBrackets, TakesOne, TakesFour, BecomeSides}
use Rattle.text_laws.specs.Numbers.{numbers_before, numbers_in}

-- Of things with these numbers, one alone, where its numbers are those at the head of a list.
pub record One {X : Type 0} (num : X → List ℕ → List ℕ) (Is : X → Type 0) : Type 0 where
  pub one : (x y : X) (r s : List ℕ) → Is x → Is y → num x r ≡ num y s → (x ≡ y) × (r ≡ s)

-- of pairs, those of the first come before those of the second
abbrev both : {X Y : Type 0} → (X → List ℕ → List ℕ) → (Y → List ℕ → List ℕ) → X × Y → List ℕ → List ℕ
both f g z r = f z.0 (g z.1 r)

-- a code of this form, from its part
made : {X : Type 0} (num : X → List ℕ → List ℕ) (make : X → Shape) → ((x : X) (r : List ℕ) → numbers_before (make x) r ≡ num x r)
    → (P : X → Type 0) → One num P → (c d : Shape) (x y : X) (r s : List ℕ) → c ≡ make x → d ≡ make y → P x → P y
    → numbers_before c r ≡ numbers_before d s → (c ≡ d) × (r ≡ s)
made num make counts P h c d x y r s p q i j e =
    let k = h.one x y r s i j (sym (counts x r) ∙ ap (λ z. numbers_before z r) (sym p) ∙ e ∙ ap (λ z. numbers_before z s) q ∙ counts y s) in
    (p ∙ ap make k.0 ∙ sym q, k.1)

pub pair-one : {X Y : Type 0} {f : X → List ℕ → List ℕ} {g : Y → List ℕ → List ℕ} {P : X → Type 0} {Q : X → Y → Type 0}
    → One f P → ((x : X) → One g (Q x)) → One (both f g) (λ z. P z.0 × Q z.0 z.1)
pair-one {f = f} {g = g} {Q = Q} h k = record {
  one = λ z w r s i j e.
      let a = h.one z.0 w.0 (g z.1 r) (g w.1 s) i.0 j.0 e in
      let b = (k z.0).one z.1 w.1 r s i.1 (subst (λ x. Q x w.1) (sym a.0) j.1) a.1 in
      (ap₂ (λ x y. (x, y)) a.0 b.0, b.1);
}

leaf-one : (make : Shape) → ((r : List ℕ) → numbers_before make r ≡ r) → One numbers_before (λ c. c ≡ make)
leaf-one make counts = record {
  one = λ c d r s i j e. (i ∙ sym j, sym (counts r) ∙ ap (λ z. numbers_before z r) (sym i) ∙ e ∙ ap (λ z. numbers_before z s) j ∙ counts s);
}

one-part : {X : Type 0} {num : X → List ℕ → List ℕ} (make : X → Shape) → ((x : X) (r : List ℕ) → numbers_before (make x) r ≡ num x r)
    → {P : X → Type 0} → One num P → One numbers_before (λ c. (x : X) × (c ≡ make x) × P x)
one-part {num = num} make counts {P = P} h = record {
  one = λ c d r s i j e. made num make counts P h c d i.0 j.0 r s i.1 j.1 i.2 j.2 e;
}

two-parts : {X Y : Type 0} {f : X → List ℕ → List ℕ} {g : Y → List ℕ → List ℕ} (make : X → Y → Shape)
    → ((x : X) (y : Y) (r : List ℕ) → numbers_before (make x y) r ≡ f x (g y r)) → {P : X → Type 0} {Q : X → Y → Type 0}
    → One f P → ((x : X) → One g (Q x)) → One numbers_before (λ c. (x : X) × (y : Y) × (c ≡ make x y) × P x × Q x y)
two-parts {f = f} {g = g} make counts {P = P} {Q = Q} h k = record {
  one = λ c d r s i j e.
      made (both f g) (λ z. make z.0 z.1) (λ z. counts z.0 z.1) (λ z. P z.0 × Q z.0 z.1) (pair-one h k)
      c d (i.0, i.1) (j.0, j.1) r s i.2 j.2 (i.3, i.4) (j.3, j.4) e;
}

three-parts : {X Y Z : Type 0} {f : X → List ℕ → List ℕ} {g : Y → List ℕ → List ℕ} {h : Z → List ℕ → List ℕ} (make : X → Y → Z → Shape)
    → ((x : X) (y : Y) (z : Z) (r : List ℕ) → numbers_before (make x y z) r ≡ f x (g y (h z r)))
    → {P : X → Type 0} {Q : Y → Type 0} {R : Z → Type 0} → One f P → One g Q → One h R
    → One numbers_before (λ c. (x : X) × (y : Y) × (z : Z) × (c ≡ make x y z) × P x × Q y × R z)
three-parts {f = f} {g = g} {h = h} make counts {P = P} {Q = Q} {R = R} k l m = record {
  one = λ c d r s i j e.
      made (both f (both g h)) (λ z. make z.0 z.1.0 z.1.1) (λ z. counts z.0 z.1.0 z.1.1) (λ z. P z.0 × (Q z.1.0 × R z.1.1))
      (pair-one k (λ x. pair-one l (λ y. m)))
      c d (i.0, (i.1, i.2)) (j.0, (j.1, j.2)) r s i.3 j.3 (i.4, (i.5, i.6)) (j.4, (j.5, j.6)) e;
}

four-parts : {W X Y Z : Type 0} {f : W → List ℕ → List ℕ} {g : X → List ℕ → List ℕ} {h : Y → List ℕ → List ℕ} {i : Z → List ℕ → List ℕ}
    (make : W → X → Y → Z → Shape) → ((w : W) (x : X) (y : Y) (z : Z) (r : List ℕ) → numbers_before (make w x y z) r ≡ f w (g x (h y (i z r))))
    → {P : W → Type 0} {Q : X → Type 0} {R : Y → Type 0} {S : Z → Type 0} → One f P → One g Q → One h R → One i S
    → One numbers_before (λ c. (w : W) × (x : X) × (y : Y) × (z : Z) × (c ≡ make w x y z) × P w × Q x × R y × S z)
four-parts {f = f} {g = g} {h = h} {i = i} make counts {P = P} {Q = Q} {R = R} {S = S} k l m n = record {
  one = λ c d r s u v e.
      made (both f (both g (both h i))) (λ z. make z.0 z.1.0 z.1.1.0 z.1.1.1) (λ z. counts z.0 z.1.0 z.1.1.0 z.1.1.1)
      (λ z. P z.0 × (Q z.1.0 × (R z.1.1.0 × S z.1.1.1))) (pair-one k (λ w. pair-one l (λ x. pair-one m (λ y. n))))
      c d (u.0, (u.1, (u.2, u.3))) (v.0, (v.1, (v.2, v.3))) r s u.4 v.4 (u.5, (u.6, (u.7, u.8))) (v.5, (v.6, (v.7, v.8))) e;
}

-- where a text stands

plain-one : {Is : List Named → Shape → Type 0} → ((names : List Named) → One numbers_before (Is names))
    → (names : List Named) (at : Stand) → One numbers_before (plain Is names at)
plain-one h names Term = h names
plain-one h names (Line s) = one-part (code.Applied s) (λ b r. refl) (h names)
plain-one h names (Motive s) = one-part (code.Applied s) (λ b r. refl) (h names)
plain-one h names (Side s) = one-part (code.Side s) (λ b r. refl) (h names)
plain-one h names (Pair s) = one-part (λ b. code.PairSide s b (code.Universe s)) (λ b r. refl) (h names)

as_line-one : {Is : List Named → Span → Shape → Type 0} {Other : Becoming} → ((names : List Named) (s : Span) → One numbers_before (Is names s))
    → ((names : List Named) (at : Stand) → One numbers_before (Other names at)) → (names : List Named) (at : Stand) → One numbers_before (as_line Is Other names at)
as_line-one h k names Term = k names Term
as_line-one h k names (Line s) = h names s
as_line-one h k names (Motive s) = k names (Motive s)
as_line-one h k names (Side s) = k names (Side s)
as_line-one h k names (Pair s) = k names (Pair s)

as_motive-one : {Is : List Named → Span → Shape → Type 0} {Other : Becoming} → ((names : List Named) (s : Span) → One numbers_before (Is names s))
    → ((names : List Named) (at : Stand) → One numbers_before (Other names at)) → (names : List Named) (at : Stand) → One numbers_before (as_motive Is Other names at)
as_motive-one h k names Term = k names Term
as_motive-one h k names (Line s) = k names (Line s)
as_motive-one h k names (Motive s) = h names s
as_motive-one h k names (Side s) = k names (Side s)
as_motive-one h k names (Pair s) = k names (Pair s)

as_pair-one : {Is : List Named → Span → Shape → Type 0} {Other : Becoming} → ((names : List Named) (s : Span) → One numbers_before (Is names s))
    → ((names : List Named) (at : Stand) → One numbers_before (Other names at)) → (names : List Named) (at : Stand) → One numbers_before (as_pair Is Other names at)
as_pair-one h k names Term = k names Term
as_pair-one h k names (Line s) = k names (Line s)
as_pair-one h k names (Motive s) = k names (Motive s)
as_pair-one h k names (Side s) = k names (Side s)
as_pair-one h k names (Pair s) = h names s

where_found-one : {A : Type 0} {Is : A → Shape → Type 0} {Other : Shape → Type 0} (o : Option A) → ((a : A) → One numbers_before (Is a))
    → One numbers_before Other → One numbers_before (λ c. where_found o (λ a. Is a c) (Other c))
where_found-one None h k = k
where_found-one (Some a) h k = h a

where_true-one : {X : Type 0} {num : X → List ℕ → List ℕ} {Is Other : X → Type 0} (b : Bool) → One num Is → One num Other
    → One num (λ x. where_true b (Is x) (Other x))
where_true-one true h k = h
where_true-one false h k = k

-- what numbers forms have that may be left out

lambda-counts : (s : Span) (bs : Shapes) (b : Shape) (r : List ℕ) → numbers_before (code.lambda s bs b) r ≡ numbers_in bs (numbers_before b r)
lambda-counts s code.none b r = refl
lambda-counts s (code.more c cs) b r = refl

apply-counts : (s : Span) (h : Shape) (cs : Shapes) (r : List ℕ) → numbers_before (code.apply s h cs) r ≡ numbers_before h (numbers_in cs r)
apply-counts s h code.none r = refl
apply-counts s h (code.more c cs) r = refl

if-counts : (b : Bool) (c d : Shape) (r : List ℕ) → numbers_before c r ≡ numbers_before d r → numbers_before (if b then c else d) r ≡ numbers_before d r
if-counts true c d r e = e
if-counts false c d r e = refl

path_lambda-counts : (s : Span) (n : ℕ) (b : Shape) (r : List ℕ) → numbers_before (code.path_lambda s n b) r ≡ numbers_before b r
path_lambda-counts s n b r = if-counts (n == 0) b (code.PathLambda s n b) r refl

after-counts : (s : Span) (ls : Shapes) (b : Shape) (r : List ℕ) → numbers_before (after s ls b) r ≡ numbers_in ls (numbers_before b r)
after-counts s code.none b r = refl
after-counts s (code.more d ds) b r = refl

tuple-counts : (s : Span) (ws : Shapes) (r : List ℕ) → numbers_before (tuple s ws) r ≡ numbers_in ws r
tuple-counts s code.none r = refl
tuple-counts s (code.more c code.none) r = refl
tuple-counts s (code.more c (code.more d ds)) r = refl

none-in : (b : Bool) (cs : Shapes) (r : List ℕ) → numbers_in cs r ≡ r → numbers_in (if b then code.none else cs) r ≡ r
none-in true cs r e = refl
none-in false cs r e = e

numbers-counts : (n : ℕ) (s : Span) (r : List ℕ) → numbers_in (numbers n s) r ≡ r
numbers-counts n s r = none-in (n == 0) (code.more (code.Binder n (code.Nat s)) code.none) r refl

opened-counts : (p n : Span) (k : ℕ) (bs : Shapes) (b : Shape) (r : List ℕ)
    → numbers_before (code.Under p (code.lambda p (numbers k n) (code.lambda p bs b))) r ≡ numbers_in bs (numbers_before b r)
opened-counts p n k bs b r =
    lambda-counts p (numbers k n) (code.lambda p bs b) r ∙ numbers-counts k n _ ∙ lambda-counts p bs b r

name-counts : (s : Span) (f : Found) (r : List ℕ) → numbers_before (as_term s f) r ≡ r
name-counts s (found.Variable k) r = refl
name-counts s (found.Interval k) r = refl
name-counts s (found.Definition n) r = refl
name-counts s (found.BuiltIn built_in.Nat) r = refl
name-counts s (found.BuiltIn built_in.Zero) r = refl
name-counts s (found.BuiltIn built_in.Suc) r = refl
name-counts s (found.BuiltIn built_in.NatRec) r = refl
name-counts s found.Nothing r = refl

-- an application of a name

applied-one : (TakesOne' TakesFour' TakesNone : Shape → Shapes → Type 0) (f : Found) (es : text.Trees)
    → One (both numbers_before numbers_in) (λ z. TakesOne' z.0 z.1) → One (both numbers_before numbers_in) (λ z. TakesFour' z.0 z.1)
    → One (both numbers_before numbers_in) (λ z. TakesNone z.0 z.1)
    → One (both numbers_before numbers_in) (λ z. Applied f es (TakesOne' z.0 z.1) (TakesFour' z.0 z.1) (TakesNone z.0 z.1))
applied-one P Q R (found.Variable k) es one four none = none
applied-one P Q R (found.Interval k) es one four none = none
applied-one P Q R (found.Definition n) es one four none = none
applied-one P Q R (found.BuiltIn built_in.Nat) es one four none = none
applied-one P Q R (found.BuiltIn built_in.Zero) es one four none = none
applied-one P Q R (found.BuiltIn built_in.Suc) es one four none = where_true-one (are_arguments 1 es) one none
applied-one P Q R (found.BuiltIn built_in.NatRec) es one four none = where_true-one (are_arguments 4 es) four none
applied-one P Q R found.Nothing es one four none = none

none-one : {Elements : Shapes → Type 0} (n : Span) (f : Found) → One numbers_in Elements
    → One (both numbers_before numbers_in) (λ z. (z.0 ≡ as_term n f) × Elements z.1)
none-one n f h = pair-one (leaf-one (as_term n f) (name-counts n f)) (λ _. h)

-- the head with its arguments, and the elements after them
headed-one : {P : Shape → Type 0} {Q : Shapes → Type 0} {R : Shape → Shapes → Type 0} → ((h : Shape) (cs : Shapes) → R h cs → P h × Q cs)
    → One numbers_before P → One numbers_in Q → One (both numbers_before numbers_in) (λ z. R z.0 z.1)
headed-one split h k = record { one = λ z w r s i j e. (pair-one h (λ _. k)).one z w r s (split z.0 z.1 i) (split w.0 w.1 j) e }

application-one : (s : Span) {R : Shape → Shapes → Type 0} → One (both numbers_before numbers_in) (λ z. R z.0 z.1)
    → One numbers_before (λ c. (h : Shape) × (cs : Shapes) × (c ≡ code.apply s h cs) × R h cs)
application-one s {R = R} h = record {
  one = λ c d r s' i j e.
      made (both numbers_before numbers_in) (λ z. code.apply s z.0 z.1) (λ z. apply-counts s z.0 z.1) (λ z. R z.0 z.1) h
      c d (i.0, i.1) (j.0, j.1) r s' i.2 j.2 i.3 j.3 e;
}

-- lists

none-of : {Are : Shapes → Type 0} → ((c : Shape) (cs : Shapes) → Are (code.more c cs) → ⊥) → One numbers_in Are
none-of {Are = Are} never = record { one = one }
  where
    one : (cs ds : Shapes) (r s : List ℕ) → Are cs → Are ds → numbers_in cs r ≡ numbers_in ds s → (cs ≡ ds) × (r ≡ s)
    one code.none code.none r s i j e = (refl, e)
    one (code.more c cs) ds r s i j e = absurd (never c cs i)
    one code.none (code.more d ds) r s i j e = absurd (never d ds j)

more-of : {Are : Shapes → Type 0} {P : Shape → Type 0} {Q : Shape → Shapes → Type 0} → (Are code.none → ⊥)
    → ((c : Shape) (cs : Shapes) → Are (code.more c cs) → P c × Q c cs) → One numbers_before P → ((c : Shape) → One numbers_in (Q c)) → One numbers_in Are
more-of {Are = Are} never split h k = record { one = one }
  where
    one : (cs ds : Shapes) (r s : List ℕ) → Are cs → Are ds → numbers_in cs r ≡ numbers_in ds s → (cs ≡ ds) × (r ≡ s)
    one (code.more c cs) (code.more d ds) r s i j e =
        let a = (pair-one h k).one (c, cs) (d, ds) r s (split c cs i) (split d ds j) e in (ap (λ z. code.more z.0 z.1) a.0, a.1)
    one code.none ds r s i j e = absurd (never i)
    one (code.more c cs) code.none r s i j e = absurd (never j)

-- definitions

heads-same : (n m : ℕ) (r s : List ℕ) → n ∷ r ≡ m ∷ s → (n ≡ m) × (r ≡ s)
heads-same n m r s e = (cc, cc)

abbrev Parts : Type 0
Parts = Shapes × (Shape × (Shapes × Shape))

abbrev numbers_of_parts : Parts → List ℕ → List ℕ
numbers_of_parts = both numbers_in (both numbers_before (both numbers_in numbers_before))

abbrev definition : Span → Span → ℕ → Parts → Shape
definition x s n z = code.Def x n z.0 z.1.0 (after s z.1.1.0 z.1.1.1)

definition-counts : (x s : Span) (n : ℕ) (z : Parts) (r : List ℕ) → numbers_before (definition x s n z) r ≡ numbers_of_parts z (n ∷ r)
definition-counts x s n z r = ap (λ q. numbers_in z.0 (numbers_before z.1.0 q)) (after-counts s z.1.1.0 z.1.1.1 (n ∷ r))

numbered-one : (x s : Span) (P : Parts → Type 0) → One numbers_of_parts P → (c d : Shape) (n m : ℕ) (y z : Parts) (r q : List ℕ)
    → c ≡ definition x s n y → d ≡ definition x s m z → P y → P z → numbers_before c r ≡ numbers_before d q → (c ≡ d) × (r ≡ q)
numbered-one x s P h c d n m y z r q p p' i j e =
    let k = h.one y z (n ∷ r) (m ∷ q) i j
    (sym (definition-counts x s n y r) ∙ ap (λ w. numbers_before w r) (sym p) ∙ e ∙ ap (λ w. numbers_before w q) p' ∙ definition-counts x s m z q) in
    let l = heads-same n m r q k.1 in
    (p ∙ ap₂ (definition x s) l.0 k.0 ∙ sym p', l.1)

-- from its binders, its type, its block and its body
definition-one : (x s : Span) {P : Shapes → Type 0} {Q : Shapes → Shape → Type 0} {R : Shapes → Shapes → Type 0} {S : Shapes → Shapes → Shape → Type 0}
    → One numbers_in P → ((bs : Shapes) → One numbers_before (Q bs)) → ((bs : Shapes) → One numbers_in (R bs))
    → ((bs ls : Shapes) → One numbers_before (S bs ls))
    → One numbers_before (λ c. (n : ℕ) × (bs : Shapes) × (A : Shape) × (ls : Shapes) × (b : Shape)
    × (c ≡ code.Def x n bs A (after s ls b)) × P bs × Q bs A × R bs ls × S bs ls b)
definition-one x s {P = P} {Q = Q} {R = R} {S = S} h k l m = record {
  one = λ c d r q i j e.
      numbered-one x s (λ z. P z.0 × (Q z.0 z.1.0 × (R z.0 z.1.1.0 × S z.0 z.1.1.0 z.1.1.1)))
      (pair-one h (λ bs. pair-one (k bs) (λ A. pair-one (l bs) (λ ls. m bs ls)))) c d i.0 j.0
      (i.1, (i.2, (i.3, i.4))) (j.1, (j.2, (j.3, j.4))) r q i.5 j.5 (i.6, (i.7, (i.8, i.9))) (j.6, (j.7, (j.8, j.9))) e;
}

never-one : {Is : Shape → Type 0} → ((c : Shape) → Is c → ⊥) → One numbers_before Is
never-one h = record { one = λ c d r s i j e. absurd (h c i) }

-- texts

module _ (bytes : List ℕ) where
  abbrev unopened : Span → text.Trees → text.Tree → Becoming
  unopened s xs e = in_lambda bytes s xs (Become bytes (under_tele bytes) xs) (Becomes bytes e)

  mutual
    pub one_code : (e : text.Tree) (names : List Named) (at : Stand) → One numbers_before (Becomes bytes e names at)
    one_code (text.Let s ds e) =
        plain-one λ names. two-parts (code.Let s) (λ x y r. refl) (one_codes ds (after_definition bytes) names)
        (λ xs. one_code e (after_all (after_definition bytes) ds xs names) Term)
    one_code (text.Lambda s xs e) =
        let inside = plain-one λ names. two-parts (code.lambda s) (lambda-counts s) (one_codes xs (under_tele bytes) names)
        (λ bs. one_code e (after_all (under_tele bytes) xs bs names) Term) in
        as_motive-one (one_opened xs s xs e (one_code e) inside) inside
    one_code (text.PathLambda s [] e) = one_code e
    one_code (text.PathLambda s (i ∷ is) e) =
        as_line-one (λ names p. one-part (λ b. code.Under p (code.path_lambda p (length is) b)) (path_lambda-counts p (length is))
        (one_code e (bound_in (words bytes (i ∷ is)) binding.Interval names) Term))
        (plain-one λ names. one-part (code.path_lambda s (length (i ∷ is))) (path_lambda-counts s (length (i ∷ is)))
        (one_code e (bound_in (words bytes (i ∷ is)) binding.Interval names) Term))
    one_code (text.Pi s xs e) =
        plain-one λ names. two-parts (code.Pi s) (λ x y r. refl) (one_codes xs (under_tele bytes) names)
        (λ bs. one_code e (after_all (under_tele bytes) xs bs names) Term)
    one_code (text.Sigma s xs e) =
        plain-one λ names. two-parts (code.Sigma s) (λ x y r. refl) (one_codes xs (under_tele bytes) names)
        (λ bs. one_code e (after_all (under_tele bytes) xs bs names) Term)
    one_code (text.Arrow s a e) =
        plain-one λ names. two-parts (λ A b. code.Pi s (code.more (code.Binder 1 A) code.none) b) (λ x y r. refl) (one_code a names Term)
        (λ A. one_code e (bound_in (codes "_" ∷ []) binding.Variable names) Term)
    one_code (text.Apply s (text.Name n) es) =
        plain-one λ names.
        application-one s (applied-one (TakesOne bytes n es names) (TakesFour bytes n es names)
        (λ h cs. (h ≡ as_term n (found_at bytes names n)) × Become bytes binding_nothing es names cs) (found_at bytes names n) es
        (takes_one n es names) (takes_four n es names) (none-one n (found_at bytes names n) (one_codes es binding_nothing names)))
    one_code (text.Apply s f es) =
        plain-one λ names. two-parts (code.apply s) (apply-counts s) (one_code f names Term) (λ h. one_codes es binding_nothing names)
    one_code (text.PathP s l a b) =
        plain-one λ names. three-parts (code.PathP s) (λ x y z r. refl) (one_code l names (Line (span_of l))) (one_code a names Term) (one_code b names Term)
    one_code (text.Comp s l a ss) =
        plain-one λ names. three-parts (code.Comp s) (λ x y z r. refl) (one_code l names (Line (span_of l))) (one_code a names Term) (one_sides Line ss names)
    one_code (text.Fill s l a ss) =
        plain-one λ names. three-parts (code.Fill s) (λ x y z r. refl) (one_code l names (Line (span_of l))) (one_code a names Term) (one_sides Line ss names)
    one_code (text.Transport s l a) =
        plain-one λ names. two-parts (code.Transport s) (λ x y r. refl) (one_code l names (Line (span_of l))) (λ _. one_code a names Term)
    one_code (text.GlueType s a ss) =
        plain-one λ names. two-parts (code.GlueType s) (λ x y r. refl) (one_code a names Term) (λ _. one_sides Pair ss names)
    one_code (text.GlueTerm s a ss) =
        plain-one λ names. two-parts (code.GlueTerm s) (λ x y r. refl) (one_code a names Term) (λ _. one_sides Side ss names)
    one_code (text.Unglue s a ss) =
        plain-one λ names. two-parts (code.Unglue s) (λ x y r. refl) (one_code a names Term) (λ _. one_sides Pair ss names)
    one_code (text.Project s e ps) = plain-one λ names. one-part (λ b. code.Project s b ps) (λ b r. refl) (one_code e names Term)
    one_code (text.Universe s) = plain-one λ names. leaf-one (code.Universe s) (λ r. refl)
    one_code (text.Name s) = plain-one λ names. leaf-one (as_term s (found_at bytes names s)) (name-counts s (found_at bytes names s))
    one_code (text.Brackets s es) = one_in_brackets s es
    one_code (text.At s f) = plain-one λ names. leaf-one (code.At s (formula_in bytes names f)) (λ r. refl)
    one_code (text.Tele xs t) = plain-one λ names. one-part (code.Binder (length xs)) (λ b r. refl) (one_code t names Term)
    one_code (text.Def x xs t e ds) =
        plain-one λ names. definition-one x (span_of e) (one_codes xs (under_tele bytes) names)
        (λ bs. one_code t (after_all (under_tele bytes) xs bs names) Term)
        (λ bs. one_codes ds (after_definition bytes) (after_all (under_tele bytes) xs bs names))
        (λ bs ls. one_code e (after_all (after_definition bytes) ds ls (after_all (under_tele bytes) xs bs names)) Term)
    one_code (text.Side qs e) = plain-one λ names. never-one (λ c h. h)
    one_code (text.Module x is ds) = plain-one λ names. never-one (λ c h. h)

    pub one_codes : (es : text.Trees) (step : Scoping) (names : List Named) → One numbers_in (Become bytes step es names)
    one_codes text.none step names = none-of (λ c cs h. h)
    one_codes (text.more e es) step names =
        more-of {P = Becomes bytes e names Term} {Q = λ c. Become bytes step es (step e c names)} (λ h. h) (λ c cs h. h)
        (one_code e names Term) (λ c. one_codes es step (step e c names))

    one_opened : (xs : text.Trees) (s : Span) (whole : text.Trees) (e : text.Tree) → ((names : List Named) (at : Stand) → One numbers_before (Becomes bytes e names at))
        → ((names : List Named) (at : Stand) → One numbers_before (unopened s whole e names at)) → (names : List Named) (p : Span)
        → One numbers_before (OpenedOver bytes xs (Becomes bytes e) (unopened s whole e) names p)
    one_opened text.none s whole e h k names p = h names (Motive p)
    one_opened (text.more (text.Tele (x ∷ others) t) xs) s whole e h k names p =
        where_found-one (nat_in bytes names t) (λ n. two-parts
        (λ bs b. code.Under p (code.lambda p (numbers (length others) n) (code.lambda p bs b))) (opened-counts p n (length others))
        (one_codes xs (under_tele bytes) (bound_in (words bytes (x ∷ others)) binding.Variable names))
        (λ bs. h (after_all (under_tele bytes) xs bs (bound_in (words bytes (x ∷ others)) binding.Variable names)) Term)) (k names (Motive p))
    one_opened (text.more x xs) s whole e h k names p = k names (Motive p)

    one_in_brackets : (s : Span) (es : text.Trees) (names : List Named) (at : Stand) → One numbers_before (InBrackets bytes s es names at)
    one_in_brackets s text.none = plain-one λ names. leaf-one (code.Tuple s code.none) (λ r. refl)
    one_in_brackets s (text.more e text.none) = one_code e
    one_in_brackets s (text.more a (text.more b rest)) =
        as_pair-one (λ names p. two-parts (λ T ws. code.PairSide p T (tuple s ws)) (λ T ws r. ap (numbers_before T) (tuple-counts s ws r))
        (one_code a names Term) (λ _. one_codes (text.more b rest) binding_nothing names))
        (plain-one λ names. two-parts (λ A bs. code.Tuple s (code.more A bs)) (λ x y r. refl)
        (one_code a names Term) (λ _. one_codes (text.more b rest) binding_nothing names))

    takes_one : (n : Span) (es : text.Trees) (names : List Named) → One (both numbers_before numbers_in) (λ z. TakesOne bytes n es names z.0 z.1)
    takes_one n text.none names = record { one = λ z w r s i j e. absurd i }
    takes_one n (text.more a es) names =
        headed-one (λ h cs u. ((u.0, u.1, u.2), u.3)) (one-part (code.Suc n) (λ b r. refl) (one_code a names Term)) (one_codes es binding_nothing names)

    takes_four : (n : Span) (es : text.Trees) (names : List Named) → One (both numbers_before numbers_in) (λ z. TakesFour bytes n es names z.0 z.1)
    takes_four n text.none names = record { one = λ z w r s i j e. absurd i }
    takes_four n (text.more P text.none) names = record { one = λ z w r s i j e. absurd i }
    takes_four n (text.more P (text.more a text.none)) names = record { one = λ z w r s i j e. absurd i }
    takes_four n (text.more P (text.more a (text.more b text.none))) names = record { one = λ z w r s i j e. absurd i }
    takes_four n (text.more P (text.more a (text.more b (text.more k es)))) names =
        headed-one (λ h cs u. ((u.0, u.1, u.2, u.3, u.4, u.5, u.6, u.7, u.8), u.9)) (four-parts (code.NatRec n) (λ x y z w r. refl)
        (one_code P names (Motive (span_of P))) (one_code a names Term) (one_code b names Term) (one_code k names Term)) (one_codes es binding_nothing names)

    pub one_sides : (at : Span → Stand) (es : text.Trees) (names : List Named) → One numbers_in (BecomeSides bytes at es names)
    one_sides at text.none names = none-of (λ c cs h. h)
    one_sides at (text.more (text.Side qs e) es) names =
        more-of {P = λ c. (b : Shape) × (c ≡ code.On (equations_in bytes names qs) b) × Becomes bytes e names (at (span_of e)) b}
        {Q = λ c. BecomeSides bytes at es names} (λ h. h) (λ c cs h. h)
        (one-part (code.On (equations_in bytes names qs)) (λ b r. refl) (one_code e names (at (span_of e)))) (λ c. one_sides at es names)
    one_sides at (text.more e es) names = none-of (λ c cs h. h)
