-- What written lines, motives and pairs mean.
use Rattle.std.proofs.Common.{◌≡◌, ℕ, Bool, true, false, Box, Global, List, [], ◌∷◌, map, refl, sym, ap, ◌∙◌, if◌then◌else◌}
use Rattle.layout_lexer.specs.declared.token.Span.{Span}
use Rattle.syntax.specs.declared.exp.Exp.{Exp, Lambda as Lambda_, PathLambda as PathLambda_, Brackets as Brackets_}
use Rattle.syntax.specs.declared.exp.Tele.{Tele}
use Rattle.syntax.specs.declared.exp.Teles.{Teles}
use Rattle.syntax.specs.declared.exp.Exps.{Exps}
use Rattle.syntax.specs.View.{tree_of, tele_of, tele_items, tree_list}
use Rattle.syntax.proofs.Rows.{teles_of_items}
use Rattle.translation.specs.Terms.{lam, nat}
use Rattle.translation.specs.Scopes.{Scope, Variable, Interval}
use Rattle.translation.specs.Translated.{done, ◌>>=◌}
use Rattle.translation.specs.Names.{Word}
use Rattle.translation.specs.Forms.{applied_to_variable, under, under_names, over, tuple}
use Rattle.translation.specs.Texts.{Reading, reading, brackets, teles, word, opened, motive_of as motive_reading}
use Rattle.resolved_forms.specs.Spelt.{read, is_nat_of, term_of, line_of, motive_of, pair_of, words_of, binder_of, binders_of}
use Rattle.resolved_forms.proofs.Spelling.{read_brackets, binders_listed, terms_of_readings, reads_lambda}

module _ (bytes : List ℕ) where
  -- texts that read as the same

  pub same_line : (x e : Exp) → read bytes e ≡ read bytes x → line_of bytes x ≡ line_of bytes e
  unfolding line_of
  same_line x e h = ap (λ r. r.line) (sym h)

  pub same_motive : (x e : Exp) → read bytes e ≡ read bytes x → motive_of bytes x ≡ motive_of bytes e
  unfolding motive_of
  same_motive x e h = ap (λ r. r.motive) (sym h)

  pub same_pair : (at : ℕ) (x e : Exp) → read bytes e ≡ read bytes x → pair_of bytes at x ≡ pair_of bytes at e
  unfolding pair_of
  same_pair at x e h = ap (λ r. r.pair at) (sym h)

  pub same_nat : (x e : Exp) → read bytes e ≡ read bytes x → (G : Scope Word) → is_nat_of bytes e G ≡ is_nat_of bytes x G
  unfolding is_nat_of
  same_nat x e h G = ap (λ r. r.is_nat G) h

  -- brackets round several

  read_all : (s : Span) (es : Exps) {e : Exp} {xs : List Exp} → e ≡ Brackets_ s es → xs ≡ es.items.items → read bytes e ≡ brackets (map (read bytes) xs)
  read_all s es i j = ap (read bytes) i ∙ read_brackets bytes s es ∙ ap (λ ys. brackets (map (read bytes) ys)) (sym j)

  pair_terms : (at : ℕ) (a b : Exp) (rest : List Exp) → (λ G. term_of bytes a G >>= λ T. tuple (map (term_of bytes) (b ∷ rest)) G >>= λ w. done (T, w)) ≡ (brackets (map (read bytes) (a ∷ b ∷ rest))).pair at
  unfolding term_of
  pair_terms at a b rest = ap (λ fs G. term_of bytes a G >>= λ T. tuple (term_of bytes b ∷ fs) G >>= λ w. done (T, w)) (sym (terms_of_readings bytes rest))

  pub several_pair : (at : ℕ) (s : Span) (es : Exps) (a b : Exp) (rest : List Exp) {e : Exp} {xs : List Exp} → e ≡ Brackets_ s es → xs ≡ es.items.items → xs ≡ a ∷ b ∷ rest
      → (λ G. term_of bytes a G >>= λ T. tuple (map (term_of bytes) (b ∷ rest)) G >>= λ w. done (T, w)) ≡ pair_of bytes at e
  unfolding pair_of
  several_pair at s es a b rest i j h =
      pair_terms at a b rest ∙ ap (λ (r : Reading). r.pair at) (sym (read_all s es i j ∙ ap (λ ys. brackets (map (read bytes) ys)) h))

  -- names of the interval, and what stands under them
  pub names_line : (s : Span) (n : Span) (ns : List Span) (p : Box Exp Global) {e x : Exp} {xs : List Span} → e ≡ PathLambda_ s xs p → xs ≡ n ∷ ns → x ≡ p.value
      → (λ G. under_names (words_of bytes ns) (term_of bytes x) (Interval (word bytes n) ∷ G)) ≡ line_of bytes e
  unfolding line_of term_of read
  names_line s n ns p i j k = rw (i, j, k) refl

  -- a lambda as a motive

  read_lambda : (s : Span) (xs : Teles) (p : Box Exp Global) → motive_of bytes (Lambda_ s xs p) ≡ motive_reading (teles bytes (tree_list tele_of (tele_items xs))) (reading bytes (tree_of p.value))
  unfolding motive_of read
  read_lambda s xs p = ap (λ ts. motive_reading (teles bytes ts) (reading bytes (tree_of p.value))) (teles_of_items xs)

  motive_read : (y : Exp) → motive_of bytes y ≡ (reading bytes (tree_of y)).motive
  unfolding motive_of read
  motive_read y = refl

  pub bare_motive : (s : Span) (xs : Teles) (p : Box Exp Global) {e x : Exp} {ts : List Tele} → e ≡ Lambda_ s xs p → ts ≡ tele_items xs → ts ≡ [] → x ≡ p.value
      → motive_of bytes x ≡ motive_of bytes e
  bare_motive s xs p i j h k =
      ap (motive_of bytes) k ∙ motive_read p.value
      ∙ sym (ap (motive_of bytes) i ∙ read_lambda s xs p ∙ ap (λ us. motive_reading (teles bytes (tree_list tele_of us)) (reading bytes (tree_of p.value))) (sym j ∙ h))

  tele_motive : (y : Tele) (ys : List Tele) (b : Exp) (G : Scope Word) (v : Bool) → is_nat_of bytes y.ty G ≡ v
      → motive_reading (teles bytes (tree_list tele_of (y ∷ ys))) (reading bytes (tree_of b)) G
      ≡ (let whole = applied_to_variable (under lam (binders_of bytes (y ∷ ys)) (term_of bytes b)) in
      if v then opened (words_of bytes y.names) (under lam (binders_of bytes ys) (term_of bytes b)) whole G else whole G)
  unfolding is_nat_of term_of read binders_of
  tele_motive y ys b G v e =
      ap (λ bs. let whole = applied_to_variable (under lam (binder_of bytes y ∷ bs) (term_of bytes b)) in
      if is_nat_of bytes y.ty G then opened (words_of bytes y.names) (under lam bs (term_of bytes b)) whole G else whole G) (binders_listed bytes ys)
      ∙ ap (λ w. let whole = applied_to_variable (under lam (binders_of bytes (y ∷ ys)) (term_of bytes b)) in
      if w then opened (words_of bytes y.names) (under lam (binders_of bytes ys) (term_of bytes b)) whole G else whole G) e

  module _ (s : Span) (xs : Teles) (p : Box Exp Global) (y : Tele) (ys : List Tele) {e x : Exp} {ts : List Tele} (i : e ≡ Lambda_ s xs p) (j : ts ≡ tele_items xs) (h : ts ≡ y ∷ ys) (k : x ≡ p.value) where
    first_motive : (G : Scope Word) (v : Bool) → is_nat_of bytes y.ty G ≡ v
        → motive_of bytes e G ≡ (let whole = applied_to_variable (under lam (binders_of bytes (y ∷ ys)) (term_of bytes p.value)) in
        if v then opened (words_of bytes y.names) (under lam (binders_of bytes ys) (term_of bytes p.value)) whole G else whole G)
    first_motive G v is =
        ap (λ m. motive_of bytes m G) i ∙ ap (λ m. m G) (read_lambda s xs p)
        ∙ ap (λ us. motive_reading (teles bytes (tree_list tele_of us)) (reading bytes (tree_of p.value)) G) (sym j ∙ h) ∙ tele_motive y ys p.value G v is

    whole_term : applied_to_variable (under lam (binders_of bytes (y ∷ ys)) (term_of bytes p.value)) ≡ applied_to_variable (term_of bytes e)
    whole_term = ap applied_to_variable (ap (λ us. under lam (binders_of bytes us) (term_of bytes p.value)) (sym h ∙ j) ∙ sym (reads_lambda bytes s xs p) ∙ ap (term_of bytes) (sym i))

    -- over another type
    pub other_type : (G : Scope Word) → is_nat_of bytes y.ty G ≡ false → applied_to_variable (term_of bytes e) G ≡ motive_of bytes e G
    other_type G is = sym (first_motive G false is ∙ ap (λ m. m G) whole_term)

    -- over no names
    pub no_variable : (G : Scope Word) → y.names ≡ [] → is_nat_of bytes y.ty G ≡ true → applied_to_variable (term_of bytes e) G ≡ motive_of bytes e G
    no_variable G none is = sym (first_motive G true is
        ∙ ap (λ ns. opened (words_of bytes ns) (under lam (binders_of bytes ys) (term_of bytes p.value)) (applied_to_variable (under lam (binders_of bytes (y ∷ ys)) (term_of bytes p.value))) G) none
        ∙ ap (λ m. m G) whole_term)

    pub first_variable : (n : Span) (ns : List Span) (G : Scope Word) → y.names ≡ n ∷ ns → is_nat_of bytes y.ty G ≡ true
        → over lam (words_of bytes ns) nat (under lam (binders_of bytes ys) (term_of bytes x)) (Variable (word bytes n) nat ∷ G) ≡ motive_of bytes e G
    first_variable n ns G names is =
        ap (λ m. over lam (words_of bytes ns) nat (under lam (binders_of bytes ys) (term_of bytes m)) (Variable (word bytes n) nat ∷ G)) k
        ∙ sym (first_motive G true is
        ∙ ap (λ us. opened (words_of bytes us) (under lam (binders_of bytes ys) (term_of bytes p.value)) (applied_to_variable (under lam (binders_of bytes (y ∷ ys)) (term_of bytes p.value))) G) names)
