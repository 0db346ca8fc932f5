-- How texts stand where a line, a motive or a pair is wanted.
use Rattle.std.proofs.Common.{◌≡◌, ℕ, Box, Global, List, [], ◌∷◌, length, Some, None, false, true, refl, sym, ap, ◌∙◌, subst}
use Rattle.layout_lexer.specs.declared.token.Span.{Span}
use Rattle.syntax.specs.declared.exp.Exp.{Exp, Lambda as Lambda_, PathLambda as PathLambda_, Brackets as Brackets_}
use Rattle.syntax.specs.declared.exp.Exps.{Exps}
use Rattle.syntax.specs.declared.exp.Tele.{Tele}
use Rattle.syntax.specs.declared.exp.Teles.{Teles}
use Rattle.syntax.specs.Tree as text
use Rattle.syntax.specs.View.{tree_of, tele_of, tele_items, tree_list}
use Rattle.syntax.proofs.Rows.{tree_of_brackets}
use Rattle.translation.specs.declared.fault.Cause.TheVariants.{GlueSide}
use Rattle.translation.specs.Terms.{universe}
use Rattle.translation.specs.Scopes.{Scope}
use Rattle.translation.specs.Translated.{refused, ◌>>=◌}
use Rattle.translation.specs.Names.{Word}
use Rattle.translation.specs.Texts.{reading}
use Rattle.translation.specs.Forms.{applied_to_name, applied_to_variable}
use Rattle.codes.specs.Shapes as code
use Rattle.codes.specs.Shapes.{Shape, Shapes}
use Rattle.scopes.specs.Finding.{Named}
use Rattle.scopes.specs.Steps.{State, Agree}
use Rattle.resolved_forms.specs.declared.opened.MotiveText.{MotiveText}
use Rattle.resolved_forms.specs.declared.opened.MotiveText.TheVariants as motive
use Rattle.resolved_forms.specs.Opened.{bare, LineUnder, LineApplied, MotiveUnder, MotiveApplied, ReadsMotive, PairOf, NoPair}
use Rattle.resolved_forms.specs.Shaped.{Term, Line, Motive, Pair, Becomes, Become, nat_in, numbers, tuple, under_tele}
use Rattle.resolved_forms.specs.Spelt.{read, term_of, line_of, motive_of, pair_of, no_pair_of, is_nat_of}
use Rattle.resolved_forms.proofs.TextTrees.{brackets_tree, path_lambda_tree, lambda_tree}
use Rattle.resolved_forms.proofs.Shaping.{a_name, a_lambda, a_path, in_brackets, another, form_of, IsAnother, other_opened, nothing_opened, where_some}
use Rattle.resolved_forms.proofs.Others.{same_line, same_motive, same_pair, names_line, bare_motive, other_type, no_variable, first_variable, several_pair}
use Rattle.resolved_forms.proofs.Insides.{IsBare, inside_reads, inside_becomes, becomes_inside, inside_bare}

-- Which trees stand opened: of these, and of what is in brackets, the others do not.

abbrev pub IsNoPath : text.Tree → Type 0
IsNoPath (text.PathLambda s (n ∷ ns) e) = ⊥
IsNoPath T = Unit {0}

abbrev pub IsNoLambda : text.Tree → Type 0
IsNoLambda (text.Lambda s xs e) = ⊥
IsNoLambda T = Unit {0}

abbrev pub IsNoPair : text.Tree → Type 0
IsNoPair (text.Brackets s (text.more a (text.more b es))) = ⊥
IsNoPair T = Unit {0}

other_path : (T : text.Tree) → IsAnother T → IsNoPath T
other_path (text.PathLambda s ns e) h = absurd h
other_path T h = tt

pub no_path : (e : Exp) → ((s : Span) (ns : List Span) (p : Box Exp Global) → e ≡ PathLambda_ s ns p → ⊥) → IsNoPath (tree_of e)
no_path e path = elim (form_of e) [
  | a_name n h ↦ rw h tt
  | a_lambda s xs p h ↦ rw h tt
  | a_path s ns p h ↦ absurd (path s ns p h)
  | in_brackets s es h ↦ subst IsNoPath (sym (ap tree_of h ∙ tree_of_brackets s es)) tt
  | another h ↦ other_path (tree_of e) h
]

other_lambda : (T : text.Tree) → IsAnother T → IsNoLambda T
other_lambda (text.Lambda s xs e) h = absurd h
other_lambda T h = tt

pub no_lambda : (e : Exp) → ((s : Span) (xs : Teles) (p : Box Exp Global) → e ≡ Lambda_ s xs p → ⊥) → IsNoLambda (tree_of e)
no_lambda e lambda = elim (form_of e) [
  | a_name n h ↦ rw h tt
  | a_lambda s xs p h ↦ absurd (lambda s xs p h)
  | a_path s ns p h ↦ rw h tt
  | in_brackets s es h ↦ subst IsNoLambda (sym (ap tree_of h ∙ tree_of_brackets s es)) tt
  | another h ↦ other_lambda (tree_of e) h
]

other_pair : (T : text.Tree) → IsAnother T → IsNoPair T
other_pair (text.Brackets s es) h = absurd h
other_pair T h = tt

pub no_pair : (e : Exp) → ((s : Span) (es : Exps) → e ≡ Brackets_ s es → ⊥) → IsNoPair (tree_of e)
no_pair e inside = elim (form_of e) [
  | a_name n h ↦ rw h tt
  | a_lambda s xs p h ↦ rw h tt
  | a_path s ns p h ↦ rw h tt
  | in_brackets s es h ↦ absurd (inside s es h)
  | another h ↦ other_pair (tree_of e) h
]

pub empty_brackets : (s : Span) (es : Exps) {e : Exp} {xs : List Exp} → e ≡ Brackets_ s es → xs ≡ es.items.items → xs ≡ [] → IsNoPair (tree_of e)
empty_brackets s es i j k = subst IsNoPair (sym (brackets_tree s es i j ∙ ap (λ ys. text.Brackets s (tree_list tree_of ys)) k)) tt

module _ (bytes : List ℕ) where
  line_reading : (T : text.Tree) → IsBare T → IsNoPath T → (reading bytes T).line ≡ applied_to_name (reading bytes T).term
  line_reading (text.PathLambda s [] e) b o = absurd b
  line_reading (text.PathLambda s (n ∷ ns) e) b o = absurd o
  line_reading (text.Brackets s text.none) b o = refl
  line_reading (text.Brackets s (text.more e text.none)) b o = absurd b
  line_reading (text.Brackets s (text.more x (text.more y es))) b o = refl
  line_reading (text.Apply s (text.Name n) es) b o = refl
  line_reading T b o = refl

  line_becomes : (T : text.Tree) (names : List Named) (p : Span) (c : Shape) → IsBare T → IsNoPath T → Becomes bytes T names Term c → Becomes bytes T names (Line p) (code.Applied p c)
  line_becomes (text.PathLambda s [] e) names p c b o h = absurd b
  line_becomes (text.PathLambda s (n ∷ ns) e) names p c b o h = absurd o
  line_becomes (text.Brackets s text.none) names p c b o h = (c, refl, h)
  line_becomes (text.Brackets s (text.more e text.none)) names p c b o h = absurd b
  line_becomes (text.Brackets s (text.more x (text.more y es))) names p c b o h = (c, refl, h)
  line_becomes (text.Apply s (text.Name n) es) names p c b o h = (c, refl, h)
  line_becomes T names p c b o h = (c, refl, h)

  motive_reading : (T : text.Tree) → IsBare T → IsNoLambda T → applied_to_variable (reading bytes T).term ≡ (reading bytes T).motive
  motive_reading (text.PathLambda s [] e) b o = absurd b
  motive_reading (text.PathLambda s (n ∷ ns) e) b o = refl
  motive_reading (text.Brackets s text.none) b o = refl
  motive_reading (text.Brackets s (text.more e text.none)) b o = absurd b
  motive_reading (text.Brackets s (text.more x (text.more y es))) b o = refl
  motive_reading (text.Lambda s xs e) b o = absurd o
  motive_reading (text.Apply s (text.Name n) es) b o = refl
  motive_reading T b o = refl

  motive_becomes : (T : text.Tree) (names : List Named) (p : Span) (c : Shape) → IsBare T → IsNoLambda T → Becomes bytes T names Term c → Becomes bytes T names (Motive p) (code.Applied p c)
  motive_becomes (text.PathLambda s [] e) names p c b o h = absurd b
  motive_becomes (text.PathLambda s (n ∷ ns) e) names p c b o h = (c, refl, h)
  motive_becomes (text.Brackets s text.none) names p c b o h = (c, refl, h)
  motive_becomes (text.Brackets s (text.more e text.none)) names p c b o h = absurd b
  motive_becomes (text.Brackets s (text.more x (text.more y es))) names p c b o h = (c, refl, h)
  motive_becomes (text.Lambda s xs e) names p c b o h = absurd o
  motive_becomes (text.Apply s (text.Name n) es) names p c b o h = (c, refl, h)
  motive_becomes T names p c b o h = (c, refl, h)

  pair_reading : (at : ℕ) (T : text.Tree) → IsBare T → IsNoPair T → (λ G. (reading bytes T).term G >>= λ t. refused at GlueSide (t, universe)) ≡ (reading bytes T).pair at
  pair_reading at (text.PathLambda s [] e) b o = absurd b
  pair_reading at (text.PathLambda s (n ∷ ns) e) b o = refl
  pair_reading at (text.Brackets s text.none) b o = refl
  pair_reading at (text.Brackets s (text.more e text.none)) b o = absurd b
  pair_reading at (text.Brackets s (text.more x (text.more y es))) b o = absurd o
  pair_reading at (text.Apply s (text.Name n) es) b o = refl
  pair_reading at T b o = refl

  pair_becomes : (T : text.Tree) (names : List Named) (p : Span) (c : Shape) → IsBare T → IsNoPair T → Becomes bytes T names Term c → Becomes bytes T names (Pair p) (code.PairSide p c (code.Universe p))
  pair_becomes (text.PathLambda s [] e) names p c b o h = absurd b
  pair_becomes (text.PathLambda s (n ∷ ns) e) names p c b o h = (c, refl, h)
  pair_becomes (text.Brackets s text.none) names p c b o h = (c, refl, h)
  pair_becomes (text.Brackets s (text.more e text.none)) names p c b o h = absurd b
  pair_becomes (text.Brackets s (text.more x (text.more y es))) names p c b o h = absurd o
  pair_becomes (text.Apply s (text.Name n) es) names p c b o h = (c, refl, h)
  pair_becomes T names p c b o h = (c, refl, h)

-- What stands in brackets stands as they do.
module _ (e x : Exp) (seen : tree_of x ≡ bare (tree_of e)) where
  same_term : (bytes : List ℕ) → term_of bytes e ≡ term_of bytes x
  unfolding term_of
  same_term bytes = ap (λ r. r.term) (inside_reads e x seen bytes)

  same_refusal : (bytes : List ℕ) (at : ℕ) → no_pair_of bytes at e ≡ no_pair_of bytes at x
  unfolding no_pair_of
  same_refusal bytes at = ap (λ f G. f G >>= λ t. refused at GlueSide (t, universe)) (same_term bytes)

  pub line_under_inside : {i : Span} {is : List Span} {b : Exp} → LineUnder x i is b → LineUnder e i is b
  line_under_inside h =
      record {
        means = λ bytes. h.means bytes ∙ same_line bytes x e (inside_reads e x seen bytes);
        becomes = λ bytes names p c k. inside_becomes e x seen bytes names (Line p) _ (h.becomes bytes names p c k);
      }

  pub line_applied_inside : LineApplied x → LineApplied e
  line_applied_inside h =
      record {
        means = λ bytes. sym (same_line bytes x e (inside_reads e x seen bytes)) ∙ h.means bytes ∙ ap applied_to_name (sym (same_term bytes));
        becomes = λ bytes names p c k. inside_becomes e x seen bytes names (Line p) _ (h.becomes bytes names p c (becomes_inside e x seen bytes names Term c k));
      }

  pub motive_under_inside : {bytes : List ℕ} {s : State} {v n : Span} {vs : List Span} {xs : List Tele} {b : Exp} → MotiveUnder bytes s x v vs n xs b → MotiveUnder bytes s e v vs n xs b
  motive_under_inside {bytes = bytes} {s = s} h =
      record {
        means = λ G H a. h.means G H a ∙ ap (λ f. f G) (same_motive bytes x e (inside_reads e x seen bytes));
        becomes = λ p bs c k l. inside_becomes e x seen bytes s.names (Motive p) _ (h.becomes p bs c k l);
      }

  pub motive_applied_inside : {bytes : List ℕ} {s : State} → MotiveApplied bytes s x → MotiveApplied bytes s e
  motive_applied_inside {bytes = bytes} {s = s} h =
      record {
        means = λ G H a. ap (λ f. applied_to_variable f G) (same_term bytes) ∙ h.means G H a ∙ ap (λ f. f G) (same_motive bytes x e (inside_reads e x seen bytes));
        becomes = λ p c k. inside_becomes e x seen bytes s.names (Motive p) _ (h.becomes p c (becomes_inside e x seen bytes s.names Term c k));
      }

  pub motive_inside : (bytes : List ℕ) (s : State) (r : MotiveText) → ReadsMotive bytes s x r → ReadsMotive bytes s e r
  motive_inside bytes s (motive.Under v vs n xs b) h = motive_under_inside h
  motive_inside bytes s motive.Applied h = motive_applied_inside h

  pub pair_of_inside : {s : Span} {a : Exp} {bs : List Exp} → PairOf x s a bs → PairOf e s a bs
  pair_of_inside h =
      record {
        means = λ bytes at. h.means bytes at ∙ same_pair bytes at x e (inside_reads e x seen bytes);
        becomes = λ bytes names p T ws k l. inside_becomes e x seen bytes names (Pair p) _ (h.becomes bytes names p T ws k l);
      }

  pub no_pair_inside : NoPair x → NoPair e
  no_pair_inside h =
      record {
        means = λ bytes at. same_refusal bytes at ∙ h.means bytes at ∙ same_pair bytes at x e (inside_reads e x seen bytes);
        becomes = λ bytes names p c k. inside_becomes e x seen bytes names (Pair p) _ (h.becomes bytes names p c (becomes_inside e x seen bytes names Term c k));
      }

  -- names of the interval, and what is in brackets round several, are there

  pub some_names : (s : Span) (ns : List Span) (b : Box Exp Global) {xs : List Span} → x ≡ PathLambda_ s ns b → xs ≡ ns → xs ≡ [] → ⊥
  some_names s ns b i j k = subst IsBare (path_lambda_tree s ns b i j refl ∙ ap (λ ys. text.PathLambda s ys (tree_of b.value)) k) (inside_bare e x seen)

  pub not_alone : (s : Span) (es : Exps) {y : Exp} {xs : List Exp} → x ≡ Brackets_ s es → xs ≡ es.items.items → xs ≡ y ∷ [] → ⊥
  not_alone s es i j k = subst IsBare (brackets_tree s es i j ∙ ap (λ ys. text.Brackets s (tree_list tree_of ys)) k) (inside_bare e x seen)

-- lines

pub line_applied : (x : Exp) → IsBare (tree_of x) → IsNoPath (tree_of x) → LineApplied x
unfolding line_of term_of read
line_applied x b o =
    record {
      means = λ bytes. line_reading bytes (tree_of x) b o;
      becomes = λ bytes names p c h. line_becomes bytes (tree_of x) names p c b o h;
    }

pub line_under : (s i : Span) (ns is : List Span) (b : Box Exp Global) {x y : Exp} {xs : List Span} → x ≡ PathLambda_ s ns b → xs ≡ ns → xs ≡ i ∷ is → y ≡ b.value → LineUnder x i is y
line_under s i ns is b {y = y} at j k l =
    record {
      means = λ bytes. names_line bytes s i is b at (sym j ∙ k) l;
      becomes = λ bytes names p c h.
          subst (λ T. Becomes bytes T names (Line p) (code.Under p (code.path_lambda p (length is) c))) (sym (path_lambda_tree s ns b at (sym k ∙ j) l)) (c, refl, h);
    }

-- motives

module _ (bytes : List ℕ) (s : State) where
  pub motive_applied : (x : Exp) → IsBare (tree_of x) → IsNoLambda (tree_of x) → MotiveApplied bytes s x
  unfolding motive_of term_of read
  motive_applied x b o =
      record {
        means = λ G H a. ap (λ f. f G) (motive_reading bytes (tree_of x) b o);
        becomes = λ p c h. motive_becomes bytes (tree_of x) s.names p c b o h;
      }

  -- a lambda of no variables is its body

  body_alone : (p : Span) (T : text.Tree) (bs : Shapes) (c b : Shape) → Become bytes (under_tele bytes) text.none s.names bs → c ≡ code.lambda p bs b → Becomes bytes T s.names Term b → Becomes bytes T s.names Term c
  body_alone p T code.none c b h e k = subst (λ z. Becomes bytes T s.names Term z) (sym e) k
  body_alone p T (code.more d ds) c b h e k = absurd h

  lambda_alone : (p : Span) (x y : Exp) → tree_of x ≡ text.Lambda p text.none (tree_of y) → term_of bytes x ≡ term_of bytes y
  unfolding term_of read
  lambda_alone p x y e = ap (λ T. (reading bytes T).term) e

  pub motive_body : (p : Span) (xs : Teles) (b : Box Exp Global) {x y : Exp} {ts : List Tele} (r : MotiveText) → x ≡ Lambda_ p xs b → ts ≡ tele_items xs → ts ≡ [] → y ≡ b.value
      → ReadsMotive bytes s y r → ReadsMotive bytes s x r
  motive_body p xs b {y = y} (motive.Under v vs n ys d) i j k l h =
      let whole = lambda_tree p xs b i j l ∙ ap (λ zs. text.Lambda p (tree_list tele_of zs) (tree_of y)) k in
      record {
        means = λ G H a. h.means G H a ∙ ap (λ f. f G) (bare_motive bytes p xs b i j k l);
        becomes = λ q bs c f g. subst (λ T. Becomes bytes T s.names (Motive q) (code.Under q (code.lambda q (numbers (length vs.now) n) (code.lambda q bs c)))) (sym whole) (h.becomes q bs c f g);
      }
  motive_body p xs b {x = x} {y = y} motive.Applied i j k l h =
      let whole = lambda_tree p xs b i j l ∙ ap (λ zs. text.Lambda p (tree_list tele_of zs) (tree_of y)) k in
      record {
        means = λ G H a. ap (λ f. applied_to_variable f G) (lambda_alone p x y whole) ∙ h.means G H a ∙ ap (λ f. f G) (bare_motive bytes p xs b i j k l);
        becomes = λ q c f.
            let g = subst (λ T. Becomes bytes T s.names Term c) whole f in
            subst (λ T. Becomes bytes T s.names (Motive q) (code.Applied q c)) (sym whole) (h.becomes q c (body_alone p (tree_of y) g.0 c g.1 g.3 g.2 g.4));
      }

  module _ (p : Span) (xs : Teles) (b : Box Exp Global) {x : Exp} {ts : List Tele} (t : Tele) (rest : List Tele) (i : x ≡ Lambda_ p xs b) (j : ts ≡ tele_items xs) (k : ts ≡ t ∷ rest) where
    whole : tree_of x ≡ text.Lambda p (text.more (tele_of t) (tree_list tele_of rest)) (tree_of b.value)
    whole = lambda_tree p xs b i j refl ∙ ap (λ zs. text.Lambda p (tree_list tele_of zs) (tree_of b.value)) k

    -- over another type
    pub motive_of_another : ((G : Scope Word) (H : Scope ℕ) → Agree s G H → is_nat_of bytes t.ty G ≡ false) → nat_in bytes s.names (tree_of t.ty) ≡ None → MotiveApplied bytes s x
    motive_of_another told none =
        record {
          means = λ G H a. other_type bytes p xs b t rest i j k refl G (told G H a);
          becomes = λ q c h.
              subst (λ T. Becomes bytes T s.names (Motive q) (code.Applied q c)) (sym whole)
              (other_opened bytes s.names p t.names (tree_of t.ty) (tree_list tele_of rest) (tree_of b.value) q c none (subst (λ T. Becomes bytes T s.names Term c) whole h));
        }

    -- over no names
    pub motive_of_none : ((G : Scope Word) (H : Scope ℕ) → Agree s G H → is_nat_of bytes t.ty G ≡ true) → t.names ≡ [] → MotiveApplied bytes s x
    motive_of_none told none =
        record {
          means = λ G H a. no_variable bytes p xs b t rest i j k refl G none (told G H a);
          becomes = λ q c h.
              subst (λ T. Becomes bytes T s.names (Motive q) (code.Applied q c)) (sym whole)
              (nothing_opened bytes s.names p t.names (tree_of t.ty) (tree_list tele_of rest) (tree_of b.value) q c none (subst (λ T. Becomes bytes T s.names Term c) whole h));
        }

    pub motive_under : (v n : Span) (vs : List Span) {y : Exp} → ((G : Scope Word) (H : Scope ℕ) → Agree s G H → is_nat_of bytes t.ty G ≡ true) → nat_in bytes s.names (tree_of t.ty) ≡ Some n
        → t.names ≡ v ∷ vs → y ≡ b.value → MotiveUnder bytes s x v vs n rest y
    motive_under v n vs told nat named body =
        record {
          means = λ G H a. first_variable bytes p xs b t rest i j k body v vs G named (told G H a);
          becomes = λ q bs c h l.
              subst (λ T. Becomes bytes T s.names (Motive q) (code.Under q (code.lambda q (numbers (length vs) n) (code.lambda q bs c))))
              (sym (whole ∙ ap (λ ns. text.Lambda p (text.more (text.Tele ns (tree_of t.ty)) (tree_list tele_of rest)) (tree_of b.value)) named ∙ ap (λ z. text.Lambda p (text.more (text.Tele (v ∷ vs) (tree_of t.ty)) (tree_list tele_of rest)) (tree_of z)) (sym body)))
              (where_some (nat_in bytes s.names (tree_of t.ty)) n _ _ nat (bs, c, refl, h, l));
        }

-- pairs

pub pair_term : (x : Exp) → IsBare (tree_of x) → IsNoPair (tree_of x) → NoPair x
unfolding pair_of no_pair_of term_of read
pair_term x b o =
    record {
      means = λ bytes at. pair_reading bytes at (tree_of x) b o;
      becomes = λ bytes names p c h. pair_becomes bytes (tree_of x) names p c b o h;
    }

pub pair_written : (s : Span) (es : Exps) (a : Exp) (rest : List Exp) {x : Exp} {xs : List Exp} → x ≡ Brackets_ s es → xs ≡ es.items.items → xs ≡ a ∷ rest → (rest ≡ [] → ⊥) → PairOf x s a rest
pair_written s es a [] i j k some = absurd (some refl)
pair_written s es a (b ∷ rest) i j k some =
    record {
      means = λ bytes at. several_pair bytes at s es a b rest i j k;
      becomes = λ bytes names p T ws h l.
          subst (λ t. Becomes bytes t names (Pair p) (code.PairSide p T (tuple s ws))) (sym (brackets_tree s es i j ∙ ap (λ ys. text.Brackets s (tree_list tree_of ys)) k)) (T, ws, refl, h, l);
    }
