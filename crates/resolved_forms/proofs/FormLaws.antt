-- What the forms of a text are resolved to, from what their parts are.
use Rattle.std.proofs.Common.{◌≡◌, ◌-◌, ◌≤◌, ℕ, List, [], ◌∷◌, map, length, drop, replicate, codes, Result, Ok, Err, IfOk, refl, sym, ◌∙◌, subst}
use Rattle.std.proofs.lemmas.List.{length-map}
use Rattle.layout_lexer.specs.declared.token.Span.{Span}
use Rattle.syntax.specs.declared.exp.Exp.{Exp}
use Rattle.syntax.specs.declared.exp.Tele.{Tele}
use Rattle.syntax.specs.declared.exp.Side.{Side as SideOf}
use Rattle.syntax.specs.declared.exp.Def.{Def}
use Rattle.syntax.specs.declared.exp.Element.{Element}
use Rattle.trees.specs.Trees.{Tree}
use Rattle.translation.specs.declared.fault.Cause.TheVariants.{GlueSide}
use Rattle.translation.specs.Terms.{pathp, comp, glue_type, glue, unglue, pi, universe}
use Rattle.translation.specs.Systems.{cover, body, line_body, filling}
use Rattle.translation.specs.Translated.{done, refused, ◌>>=◌}
use Rattle.translation.specs.Names.{Word}
use Rattle.translation.specs.Texts.{word}
use Rattle.translation.specs.Forms.{Means, one, path_type, composition, transport, fill, glue_of_types, glue_of_terms, unglued, types, equivalences, system, application, under, under_names, after, tuple}
use Rattle.codes.specs.declared.code.Code.{Code}
use Rattle.codes.specs.declared.code.Opened.{Opened}
use Rattle.codes.specs.declared.code.CodeDef.{CodeDef}
use Rattle.codes.specs.declared.code.Binder.{Binder as BinderOf}
use Rattle.codes.specs.declared.code.Element.{Element as CodeElement}
use Rattle.codes.specs.declared.code.Side.{Side as CodeSide}
use Rattle.codes.specs.declared.code.LineSide.{LineSide}
use Rattle.codes.specs.declared.code.PairSide.{PairSide}
use Rattle.codes.specs.Codes.{meaning, at_name, binder, binder_of, element, both, term_side, line_side, pair_side, definitions}
use Rattle.scopes.specs.declared.names.Binding.TheVariants as binding
use Rattle.scopes.specs.Steps.{State, Moving, Resolves, Binds, Opens, bound_to, all_bound_to, noted, Same}
use Rattle.scopes.proofs.Moving.{moving_then, resolves_done, resolves_one, resolves_two, resolves_three}
use Rattle.scopes.proofs.Binders.{binds_none, binds_more, resolves_under, resolves_under_names}
use Rattle.scopes.proofs.Blocks.{moves_refused, resolves_after}
use Rattle.scopes.proofs.Lists.{resolves_tuple, resolves_application}
use Rattle.resolved_forms.specs.Spelt.{Applies, code_term, code_terms, code_line, code_pair, code_binders, code_block, code_elements, code_term_sides, code_line_sides, code_pair_sides, term_of, terms_of, line_of, pair_of, no_pair_of, place_of, words_of, binders_of, elements_of, side_of, term_sides_of, line_sides_of, pair_sides_of, block_of}

-- what a call answers, where what it makes means what was resolved
pub answered : {E : Type 0} {s t : State} {f : Means Word Tree} {g : Means ℕ Tree} (r : Result Code E)
    → IfOk r (λ c. meaning c ≡ g) → Resolves s t f g → IfOk r (λ c. Resolves s t f (code_term c))
unfolding code_term
answered {s = s} {t = t} {f = f} (Ok c) e h = subst (λ m. Resolves s t f m) (sym e) h
answered (Err x) e h = tt

-- the same text
pub text_is : {A : Type 0} {s t : State} {f h : Means Word A} {g : Means ℕ A} → f ≡ h → Resolves s t f g → Resolves s t h g
text_is {s = s} {t = t} {g = g} e k = subst (λ x. Resolves s t x g) e k

pub answer_is : {E : Type 0} (s t : State) {f h : Means Word Tree} (r : Result Code E)
    → f ≡ h → IfOk r (λ c. Resolves s t f (code_term c)) → IfOk r (λ c. Resolves s t h (code_term c))
answer_is s t (Ok c) e h = subst (λ m. Resolves s t m (code_term c)) e h
answer_is s t (Err x) e h = tt

-- the same, where each answer that fits the one fits the other
pub answer_fits : {E : Type 0} (s t : State) (f h : Means Word Tree) (r : Result Code E)
    → ((c : Code) → Resolves s t f (code_term c) → Resolves s t h (code_term c)) → IfOk r (λ c. Resolves s t f (code_term c)) → IfOk r (λ c. Resolves s t h (code_term c))
answer_fits s t f h (Ok c) k e = k c e
answer_fits s t f h (Err x) k e = tt

pub name_answered : {E : Type 0} (s t : State) {f h : Means Word Tree} (r : Result Code E)
    → f ≡ h → IfOk r (λ c. Resolves s t f (meaning c)) → IfOk r (λ c. Resolves s t h (code_term c))
unfolding code_term
name_answered s t (Ok c) e h = subst (λ m. Resolves s t m (meaning c)) e h
name_answered s t (Err x) e h = tt

-- the names of a state are cut back to a mark
abbrev pub cut_to : State → ℕ → State
cut_to s n = record s { names = drop (length s.names - n) s.names }

pub marked : (s u v : State) {m : ℕ} → m ≡ length s.names → v ≡ cut_to u m → v ≡ cut_to u (length s.names)
marked s u v e d = subst (λ k. v ≡ cut_to u k) e d

-- Resolved at another cut of the same names.
pub settled : {A : Type 0} (s u v : State) (f : Means Word A) (g : Means ℕ A) → v.names ≡ s.names → v.so_far ≡ u.so_far → Resolves s u f g → Resolves s v f g
settled s u v f g names so_far h = record {
  keeps = record { names = names; grows = subst (λ p. s.so_far.next ≤ p.next) (sym so_far) h.keeps.grows };
  moving = subst (λ p. Moving s p f g) (sym so_far) h.moving;
}

module _ {s t u v : State} where
  pub path_type_resolves : (bytes : List ℕ) (x y z : Exp) (L : Opened) (A B : Code)
      → Resolves s t (line_of bytes x) (code_line L) → Resolves t u (term_of bytes y) (code_term A) → Resolves u v (term_of bytes z) (code_term B)
      → Resolves s v (path_type (line_of bytes x) (term_of bytes y) (term_of bytes z)) (path_type (at_name L) (meaning A) (meaning B))
  unfolding code_line code_term
  path_type_resolves bytes x y z L A B =
      resolves_three pathp s t u v (line_of bytes x) (at_name L) (term_of bytes y) (meaning A) (term_of bytes z) (meaning B)

  pub comp_resolves : (bytes : List ℕ) (x y : Exp) (xs : List SideOf) (L : Opened) (A : Code) (ss : List LineSide)
      → Resolves s t (line_of bytes x) (code_line L) → Resolves t u (term_of bytes y) (code_term A) → Resolves u v (line_sides_of bytes xs) (code_line_sides ss)
      → Resolves s v (composition (line_of bytes x) (term_of bytes y) (map (side_of bytes (line_of bytes)) xs)) (composition (at_name L) (meaning A) (map line_side ss))
  unfolding code_line code_term line_sides_of code_line_sides
  comp_resolves bytes x y xs L A ss =
      resolves_three (λ A a S. comp A (cover S) (line_body S) a) s t u v (line_of bytes x) (at_name L) (term_of bytes y) (meaning A)
      (system (map (side_of bytes (line_of bytes)) xs)) (system (map line_side ss))

  pub fill_resolves : (bytes : List ℕ) (x y : Exp) (xs : List SideOf) (L : Opened) (A : Code) (ss : List LineSide)
      → Resolves s t (line_of bytes x) (code_line L) → Resolves t u (term_of bytes y) (code_term A) → Resolves u v (line_sides_of bytes xs) (code_line_sides ss)
      → Resolves s v (fill (line_of bytes x) (term_of bytes y) (map (side_of bytes (line_of bytes)) xs)) (fill (at_name L) (meaning A) (map line_side ss))
  unfolding code_line code_term line_sides_of code_line_sides
  fill_resolves bytes x y xs L A ss =
      resolves_three (λ A a S. filling A (cover S) (line_body S) a) s t u v (line_of bytes x) (at_name L) (term_of bytes y) (meaning A)
      (system (map (side_of bytes (line_of bytes)) xs)) (system (map line_side ss))

module _ {s t u : State} where
  pub transport_resolves : (bytes : List ℕ) (x y : Exp) (L : Opened) (A : Code)
      → Resolves s t (line_of bytes x) (code_line L) → Resolves t u (term_of bytes y) (code_term A)
      → Resolves s u (transport (line_of bytes x) (term_of bytes y)) (transport (at_name L) (meaning A))
  unfolding code_line code_term
  transport_resolves bytes x y L A a b =
      resolves_three (λ A a S. comp A (cover S) (line_body S) a) s t u u (line_of bytes x) (at_name L) (term_of bytes y) (meaning A)
      (λ G. done []) (λ H. done []) a b (resolves_done u [])

  pub glue_type_resolves : (bytes : List ℕ) (y : Exp) (xs : List SideOf) (A : Code) (ss : List PairSide)
      → Resolves s t (term_of bytes y) (code_term A) → Resolves t u (pair_sides_of bytes xs) (code_pair_sides ss)
      → Resolves s u (glue_of_types (term_of bytes y) (map (side_of bytes (λ e. pair_of bytes (place_of e) e)) xs)) (glue_of_types (meaning A) (map pair_side ss))
  unfolding code_term pair_sides_of code_pair_sides
  glue_type_resolves bytes y xs A ss =
      resolves_two (λ A S. glue_type A (cover S) (body (types S)) (body (equivalences S))) s t u (term_of bytes y) (meaning A)
      (system (map (side_of bytes (λ e. pair_of bytes (place_of e) e)) xs)) (system (map pair_side ss))

  pub glue_term_resolves : (bytes : List ℕ) (y : Exp) (xs : List SideOf) (A : Code) (ss : List CodeSide)
      → Resolves s t (term_of bytes y) (code_term A) → Resolves t u (term_sides_of bytes xs) (code_term_sides ss)
      → Resolves s u (glue_of_terms (term_of bytes y) (map (side_of bytes (term_of bytes)) xs)) (glue_of_terms (meaning A) (map term_side ss))
  unfolding code_term term_sides_of code_term_sides
  glue_term_resolves bytes y xs A ss =
      resolves_two (λ a S. glue (cover S) (body S) a) s t u (term_of bytes y) (meaning A)
      (system (map (side_of bytes (term_of bytes)) xs)) (system (map term_side ss))

  pub unglue_resolves : (bytes : List ℕ) (y : Exp) (xs : List SideOf) (A : Code) (ss : List PairSide)
      → Resolves s t (term_of bytes y) (code_term A) → Resolves t u (pair_sides_of bytes xs) (code_pair_sides ss)
      → Resolves s u (unglued (term_of bytes y) (map (side_of bytes (λ e. pair_of bytes (place_of e) e)) xs)) (unglued (meaning A) (map pair_side ss))
  unfolding code_term pair_sides_of code_pair_sides
  unglue_resolves bytes y xs A ss =
      resolves_two (λ b S. unglue (cover S) (body (types S)) (body (equivalences S)) b) s t u (term_of bytes y) (meaning A)
      (system (map (side_of bytes (λ e. pair_of bytes (place_of e) e)) xs)) (system (map pair_side ss))

  pub application_resolves : (bytes : List ℕ) (x : Exp) (xs : List Element) (A : Code) (es : List CodeElement)
      → Resolves s t (term_of bytes x) (code_term A) → Applies t u (elements_of bytes xs) (code_elements es)
      → Resolves s u (application (term_of bytes x) (elements_of bytes xs)) (application (meaning A) (map element es))
  unfolding code_term code_elements
  application_resolves bytes x xs A es h k =
      resolves_application s t u (term_of bytes x) (meaning A) (elements_of bytes xs) (map element es) h k.applies

  pub plain_resolves : (bytes : List ℕ) (xs : List Element) (A : Code) (es : List CodeElement) {f : Means Word Tree}
      → Resolves s t f (meaning A) → Applies t u (elements_of bytes xs) (code_elements es)
      → Resolves s u (application f (elements_of bytes xs)) (application (meaning A) (map element es))
  unfolding code_elements
  plain_resolves bytes xs A es {f = f} h k =
      resolves_application s t u f (meaning A) (elements_of bytes xs) (map element es) h k.applies

  pub pair_resolves : (bytes : List ℕ) (x : Exp) (xs : List Exp) (A B : Code) (cs : List Code) → meaning B ≡ tuple (map meaning cs)
      → Resolves s t (term_of bytes x) (code_term A) → Resolves t u (terms_of bytes xs) (code_terms cs)
      → Resolves s u (λ G. term_of bytes x G >>= λ T. tuple (map (term_of bytes) xs) G >>= λ w. done (T, w)) (code_pair A B)
  unfolding code_term code_terms terms_of code_pair
  pair_resolves bytes x xs A B cs e h k =
      let rest : Resolves t u (tuple (map (term_of bytes) xs)) (meaning B) =
      subst (λ m. Resolves t u (tuple (map (term_of bytes) xs)) m) (sym e) (resolves_tuple t u (map (term_of bytes) xs) (map meaning cs) k) in
      resolves_two (λ T w. (T, w)) s t u (term_of bytes x) (meaning A) (tuple (map (term_of bytes) xs)) (meaning B) h rest

-- a text that is no pair
pub no_pair_resolves : (bytes : List ℕ) {s t u : State} (x : Exp) (A : Code) (B : Code) (at : ℕ) → meaning B ≡ (λ H. done universe)
    → Resolves s t (term_of bytes x) (code_term A) → u ≡ record t { so_far = noted t.so_far at GlueSide } → Resolves s u (no_pair_of bytes at x) (code_pair A B)
unfolding code_term code_pair no_pair_of
no_pair_resolves bytes {s = s} {t = t} {u = u} x A B at universal h e =
    let spelt : Means Word (Tree × Tree) = λ G. term_of bytes x G >>= λ a. refused at GlueSide (a, universe) in
    let last = record t { so_far = noted t.so_far at GlueSide } in
    subst (λ w. Resolves s w spelt (both (meaning A) (meaning B))) (sym e)
    (subst (λ m. Resolves s last spelt (both (meaning A) m)) (sym universal)
    (record {
      keeps = record { names = h.keeps.names; grows = h.keeps.grows };
      moving = moving_then s t last.so_far (term_of bytes x) (meaning A) (λ a G. refused at GlueSide (a, universe)) (λ a H. done (a, universe)) h
          (λ a. record { moves = λ G H z. moves_refused t.so_far Same at GlueSide (a, universe) (a, universe) refl });
    }))

-- components
pub tuple_resolves : (bytes : List ℕ) {s t : State} (xs : List Exp) (cs : List Code) (C : Code) → meaning C ≡ tuple (map meaning cs)
    → Resolves s t (terms_of bytes xs) (code_terms cs) → Resolves s t (tuple (map (term_of bytes) xs)) (code_term C)
unfolding code_term code_terms terms_of
tuple_resolves bytes {s = s} {t = t} xs cs C e h =
    subst (λ m. Resolves s t (tuple (map (term_of bytes) xs)) m) (sym e) (resolves_tuple s t (map (term_of bytes) xs) (map meaning cs) h)

pub project_resolves : (bytes : List ℕ) {s t : State} (x : Exp) (A : Code) (F : Tree → Tree) → Resolves s t (term_of bytes x) (code_term A)
    → Resolves s t (one F (term_of bytes x)) (one F (meaning A))
unfolding code_term
project_resolves bytes {s = s} {t = t} x A F h = resolves_one F s t (term_of bytes x) (meaning A) h

pub universe_resolves : {s : State} (C : Code) → meaning C ≡ (λ H. done universe) → Resolves s s (λ G. done universe) (code_term C)
unfolding code_term
universe_resolves {s = s} C e = subst (λ m. Resolves s s (λ G. done universe) m) (sym e) (resolves_done s universe)

module _ {s t u v : State} {m : ℕ} where
  -- what stands after a block
  pub let_resolves : (bytes : List ℕ) (ds : List Def) (x : Exp) (cs : List CodeDef) (C : Code) → m ≡ length s.names
      → Opens s t (block_of bytes ds) (code_block cs) → Resolves t u (term_of bytes x) (code_term C) → v ≡ cut_to u m
      → Resolves s v (after (block_of bytes ds) (term_of bytes x)) (after (definitions cs) (meaning C))
  unfolding code_block code_term
  let_resolves bytes ds x cs C mark block inner cut =
      resolves_after s t u v (block_of bytes ds) (definitions cs) (term_of bytes x) (meaning C) block inner (marked s u v mark cut)

  -- what stands under binders
  pub under_resolves : (make : Tree → Tree → Tree) (bytes : List ℕ) (ts : List Tele) (x : Exp) (bs : List BinderOf) (C : Code) → m ≡ length s.names
      → Binds s t (binders_of bytes ts) (code_binders bs) → Resolves t u (term_of bytes x) (code_term C) → v ≡ cut_to u m
      → Resolves s v (under make (binders_of bytes ts) (term_of bytes x)) (under make (map binder bs) (meaning C))
  unfolding code_binders code_term
  under_resolves make bytes ts x bs C mark binds inner cut =
      resolves_under make s t u v (binders_of bytes ts) (map binder bs) (term_of bytes x) (meaning C) binds.extends binds.terms inner (marked s u v mark cut)

  -- what stands under names of the interval
  pub path_lambda_resolves : (bytes : List ℕ) (ns : List Span) {n : ℕ} (x : Exp) (C : Code) → m ≡ length s.names → n ≡ length ns
      → t ≡ all_bound_to s (words_of bytes ns) binding.Interval → Resolves t u (term_of bytes x) (code_term C) → v ≡ cut_to u m
      → Resolves s v (under_names (words_of bytes ns) (term_of bytes x)) (under_names (replicate n 0) (meaning C))
  unfolding code_term
  path_lambda_resolves bytes ns x C mark count bound inner cut =
      let ws = words_of bytes ns in
      subst (λ k. Resolves s v (under_names ws (term_of bytes x)) (under_names (replicate k 0) (meaning C))) (length-map ns (word bytes) ∙ sym count)
      (resolves_under_names s u v ws (term_of bytes x) (meaning C) (subst (λ y. Resolves y u (term_of bytes x) (meaning C)) bound inner) (marked s u v mark cut))

-- a function type over a variable that has no name
pub arrow_resolves : (bytes : List ℕ) {s t u v w : State} {m : ℕ} (x y : Exp) (A B : Code) → m ≡ length s.names
    → Resolves s t (term_of bytes x) (code_term A) → u ≡ bound_to t (codes "_") binding.Variable → Resolves u v (term_of bytes y) (code_term B) → w ≡ cut_to v m
    → Resolves s w (under pi (record { names = codes "_" ∷ []; type = term_of bytes x } ∷ []) (term_of bytes y)) (under pi (binder_of 1 (meaning A) ∷ []) (meaning B))
unfolding code_term
arrow_resolves bytes {s = s} {t = t} {u = u} {v = v} {w = w} x y A B mark type e inner cut =
    let b = binds_more s s t u [] [] (codes "_" ∷ []) (term_of bytes x) (meaning A) (binds_none s) type e in
    resolves_under pi s u v w (record { names = codes "_" ∷ []; type = term_of bytes x } ∷ []) (binder_of 1 (meaning A) ∷ [])
    (term_of bytes y) (meaning B) b.extends b.terms inner (marked s v w mark cut)
