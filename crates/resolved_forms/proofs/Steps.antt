-- Lists of a text, one more after the others.
use Rattle.std.proofs.Common.{◌≡◌, ◌+◌, ◌<◌, ◌≤◌, ℕ, List, [], ◌∷◌, ◌++◌, map, length, take, get_or, replicate, sym, ap, ◌∙◌, arith, subst}
use Rattle.std.proofs.lemmas.List.{length-map, take_more}
use Rattle.layout_lexer.specs.declared.token.Span.{Span}
use Rattle.syntax.specs.declared.exp.Exp.{Exp}
use Rattle.syntax.specs.declared.exp.Tele.{Tele}
use Rattle.syntax.specs.declared.exp.Side.{Side as SideOf}
use Rattle.syntax.specs.declared.exp.Def.{Def, out-Def}
use Rattle.syntax.specs.declared.exp.Element.{Element, Argument as Argument', At as At'}
use Rattle.syntax.specs.declared.formula.Formula.{Formula}
use Rattle.syntax.specs.View.{formula_of}
use Rattle.syntax.specs.declared.formula.Equation.{Equation as EquationOf}
use Rattle.codes.specs.declared.formula.Equation.{Equation}
use Rattle.trees.specs.Trees.{Tree}
use Rattle.translation.specs.Names.{Word}
use Rattle.translation.specs.Texts.{word, block, equations, formula}
use Rattle.translation.specs.Forms.{Means, Side, all, system, side}
use Rattle.codes.specs.declared.code.Code.{Code}
use Rattle.codes.specs.declared.code.CodeDef.{CodeDef, out-CodeDef}
use Rattle.codes.specs.declared.code.Binder.{Binder as BinderOf}
use Rattle.codes.specs.declared.code.Element.{Element as CodeElement, Argument as CodeArgument, At as CodeAt}
use Rattle.codes.specs.declared.formula.Formula.{Formula as CodeFormula}
use Rattle.codes.specs.declared.code.Side.{Side as CodeSide}
use Rattle.codes.specs.declared.code.LineSide.{LineSide}
use Rattle.codes.specs.declared.code.PairSide.{PairSide}
use Rattle.codes.specs.Codes.{meaning, binder, element, term_side, line_side, pair_side, at_name, both, equations as meant, formula as formula_meaning, definitions}
use Rattle.codes.proofs.Logs.{map_append}
use Rattle.scopes.specs.declared.names.Binding.TheVariants as binding
use Rattle.scopes.specs.Finding.{find}
use Rattle.scopes.specs.Steps.{State, Resolves, Binds, Opens, Defines, bound_to, all_bound_to, checked, is_newer}
use Rattle.scopes.proofs.Moving.{resolves_done, resolves_side}
use Rattle.scopes.proofs.Binders.{binds_none, binds_more}
use Rattle.scopes.proofs.Blocks.{Seen, seen_none, seen_more, again_found, opens_none, opens_more, state_after}
use Rattle.scopes.proofs.Lists.{resolves_map_more, applies_more, argument_resolves, at_resolves}
use Rattle.resolved_forms.specs.Spelt.{Applies, code_term, code_terms, code_line, code_pair, code_binders, code_block, code_def, code_element, code_elements, code_term_sides, code_line_sides, code_pair_sides, term_of, terms_of, line_of, pair_of, place_of, words_of, binder_of, binders_of, element_of, elements_of, side_of, term_sides_of, line_sides_of, pair_sides_of, block_of, written_in, written_of, means_of, number_of, code_names, def_names}
use Rattle.resolved_forms.proofs.Spelling.{written_push}

pub names_more : (before after : List Def) (d : Def) (cs all_cs : List CodeDef) (c : CodeDef) → after ≡ before ++ d ∷ [] → all_cs ≡ cs ++ c ∷ []
    → (out-CodeDef c).name ≡ (out-Def d).name → code_names cs ≡ def_names before → code_names all_cs ≡ def_names after
names_more before after d cs all_cs c e g named same =
    ap code_names g ∙ map_append (λ k. (out-CodeDef k).name) cs (c ∷ [])
    ∙ ap (λ ns. ns ++ (out-CodeDef c).name ∷ []) same ∙ ap (λ n. def_names before ++ n ∷ []) named
    ∙ sym (ap def_names e ∙ map_append (λ k. (out-Def k).name) before (d ∷ []))

-- one more of a slice
pub one_more : {X : Type 0} (xs : List X) (i : ℕ) (x : X) → i < length xs → x ≡ get_or xs i x → take (i + 1) xs ≡ take i xs ++ x ∷ []
one_more xs i x h e = take_more xs i x h ∙ ap (λ y. take i xs ++ y ∷ []) (sym e)

module _ (bytes : List ℕ) where
  -- expressions

  pub exps_none : (s : State) (cs : List Code) → cs ≡ [] → Resolves s s (terms_of bytes []) (code_terms cs)
  unfolding terms_of code_terms
  exps_none s cs e = subst (λ ds. Resolves s s (all {N = Word} {A = Tree} []) (all (map meaning ds))) (sym e) (resolves_done s [])

  pub exps_more : {s t u : State} (before after : List Exp) (ys zs : List Code) (x : Exp) (y : Code) → after ≡ before ++ x ∷ [] → zs ≡ ys ++ y ∷ []
      → Resolves s t (terms_of bytes before) (code_terms ys) → Resolves t u (term_of bytes x) (code_term y) → Resolves s u (terms_of bytes after) (code_terms zs)
  unfolding terms_of code_terms code_term
  exps_more {s = s} {t = t} {u = u} before after ys zs x y e d first second =
      rw (e, d) (resolves_map_more (term_of bytes) meaning s t u before ys x y first second)

  -- what heads are applied to

  pub elements_none : (s : State) (ds : List CodeElement) → ds ≡ [] → Applies s s (elements_of bytes []) (code_elements ds)
  unfolding elements_of code_elements
  elements_none s ds e = rw e (record { applies = λ t. resolves_done s t })

  pub elements_more : {s t u : State} (before after : List Element) (ys zs : List CodeElement) (x : Element) (y : CodeElement) → after ≡ before ++ x ∷ [] → zs ≡ ys ++ y ∷ []
      → Applies s t (elements_of bytes before) (code_elements ys) → Applies t u (element_of bytes x ∷ []) (code_element y ∷ [])
      → Applies s u (elements_of bytes after) (code_elements zs)
  unfolding elements_of code_elements code_element
  elements_more {s = s} {t = t} {u = u} before after ys zs x y e d first second =
      rw (e, d, map_append (element_of bytes) before (x ∷ []), map_append element ys (y ∷ []))
      (record { applies = applies_more s t u (map (element_of bytes) before) (map element ys) (element_of bytes x) (element y) first.applies second.applies })

  pub argument_element : {s t : State} (e : Element) (x : Exp) (d : CodeElement) (c : Code) → e ≡ Argument' x → d ≡ CodeArgument c
      → Resolves s t (term_of bytes x) (code_term c) → Applies s t (element_of bytes e ∷ []) (code_element d ∷ [])
  unfolding element_of code_element code_term
  argument_element {s = s} {t = t} e x d c i j h = rw (i, j) (record { applies = argument_resolves s t (term_of bytes x) (meaning c) h })

  pub at_element : {s t : State} (e : Element) (p : Span) (f : Formula) (d : CodeElement) (g : CodeFormula) → e ≡ At' p f → d ≡ CodeAt p g
      → Resolves s t (formula bytes (formula_of f)) (formula_meaning g) → Applies s t (element_of bytes e ∷ []) (code_element d ∷ [])
  unfolding element_of code_element
  at_element {s = s} {t = t} e p f d g i j h = rw (i, j) (record { applies = at_resolves s t (formula bytes (formula_of f)) (formula_meaning g) h })

  -- sides

  side_resolves : {A : Type 0} {s t u : State} (f : Means Word A) (g : Means ℕ A) (eqs : List EquationOf) (es : List Equation) → Resolves s t (all (equations bytes eqs)) (all (meant es)) → Resolves t u f g
      → Resolves s u (side (record { equations = equations bytes eqs; value = f })) (side (record { equations = meant es; value = g }))
  side_resolves {s = s} {t = t} {u = u} f g eqs es first second = resolves_side s t u (equations bytes eqs) (meant es) f g first second

  system_more : {X Y A : Type 0} (m : X → Side Word A) (n : Y → Side ℕ A) {s t u : State} (before : List X) (ys : List Y) (x : X) (y : Y)
      → Resolves s t (system (map m before)) (system (map n ys)) → Resolves t u (side (m x)) (side (n y)) → Resolves s u (system (map m (before ++ x ∷ []))) (system (map n (ys ++ y ∷ [])))
  system_more m n {s = s} {t = t} {u = u} before ys x y first second =
      rw (map_append m before (x ∷ []), map_append n ys (y ∷ [])) (resolves_map_more side side s t u (map m before) (map n ys) (m x) (n y) first second)

  pub sides_none : (s : State) (cs : List CodeSide) → cs ≡ [] → Resolves s s (term_sides_of bytes []) (code_term_sides cs)
  unfolding term_sides_of code_term_sides
  sides_none s cs e = rw e (resolves_done s [])

  pub sides_more : {s t u v : State} (before after : List SideOf) (ys zs : List CodeSide) (x : SideOf) (y : CodeSide) → after ≡ before ++ x ∷ [] → zs ≡ ys ++ y ∷ []
      → Resolves s t (term_sides_of bytes before) (code_term_sides ys) → Resolves t u (all (equations bytes x.equations)) (all (meant y.equations.items))
      → Resolves u v (term_of bytes x.body) (code_term y.body) → Resolves s v (term_sides_of bytes after) (code_term_sides zs)
  unfolding term_sides_of code_term_sides code_term
  sides_more before after ys zs x y i j first faces value =
      rw (i, j) (system_more (side_of bytes (term_of bytes)) term_side before ys x y first (side_resolves (term_of bytes x.body) (meaning y.body) x.equations y.equations.items faces value))

  pub line_sides_none : (s : State) (cs : List LineSide) → cs ≡ [] → Resolves s s (line_sides_of bytes []) (code_line_sides cs)
  unfolding line_sides_of code_line_sides
  line_sides_none s cs e = rw e (resolves_done s [])

  pub line_sides_more : {s t u v : State} (before after : List SideOf) (ys zs : List LineSide) (x : SideOf) (y : LineSide) → after ≡ before ++ x ∷ [] → zs ≡ ys ++ y ∷ []
      → Resolves s t (line_sides_of bytes before) (code_line_sides ys) → Resolves t u (all (equations bytes x.equations)) (all (meant y.equations.items))
      → Resolves u v (line_of bytes x.body) (code_line y.body) → Resolves s v (line_sides_of bytes after) (code_line_sides zs)
  unfolding line_sides_of code_line_sides code_line
  line_sides_more before after ys zs x y i j first faces value =
      rw (i, j) (system_more (side_of bytes (line_of bytes)) line_side before ys x y first (side_resolves (line_of bytes x.body) (at_name y.body) x.equations y.equations.items faces value))

  pub pair_sides_none : (s : State) (cs : List PairSide) → cs ≡ [] → Resolves s s (pair_sides_of bytes []) (code_pair_sides cs)
  unfolding pair_sides_of code_pair_sides
  pair_sides_none s cs e = rw e (resolves_done s [])

  pub pair_sides_more : {s t u v : State} (before after : List SideOf) (ys zs : List PairSide) (x : SideOf) (y : PairSide) {at : ℕ} → after ≡ before ++ x ∷ [] → zs ≡ ys ++ y ∷ []
      → at ≡ place_of x.body
      → Resolves s t (pair_sides_of bytes before) (code_pair_sides ys) → Resolves t u (all (equations bytes x.equations)) (all (meant y.equations.items))
      → Resolves u v (pair_of bytes at x.body) (code_pair y.ty y.equivalence) → Resolves s v (pair_sides_of bytes after) (code_pair_sides zs)
  unfolding pair_sides_of code_pair_sides code_pair
  pair_sides_more {u = u} {v = v} before after ys zs x y i j place first faces value =
      rw (i, j) (system_more (side_of bytes (λ e. pair_of bytes (place_of e) e)) pair_side before ys x y first
      (side_resolves (pair_of bytes (place_of x.body) x.body) (both (meaning y.ty) (meaning y.equivalence)) x.equations y.equations.items faces (subst (λ k. Resolves u v (pair_of bytes k x.body) (both (meaning y.ty) (meaning y.equivalence))) place value)))

  -- teles

  pub binders_none : (s : State) (bs : List BinderOf) → bs ≡ [] → Binds s s (binders_of bytes []) (code_binders bs)
  unfolding binders_of code_binders
  binders_none s bs e = rw e (binds_none s)

  pub binders_more : {s t u v : State} (before after : List Tele) (ys zs : List BinderOf) (x : Tele) (b : BinderOf) → after ≡ before ++ x ∷ [] → zs ≡ ys ++ b ∷ []
      → b.names ≡ length x.names → v ≡ all_bound_to u (words_of bytes x.names) binding.Variable
      → Binds s t (binders_of bytes before) (code_binders ys) → Resolves t u (term_of bytes x.ty) (code_term b.ty) → Binds s v (binders_of bytes after) (code_binders zs)
  unfolding binders_of code_binders code_term
  binders_more {s = s} {t = t} {u = u} {v = v} before after ys zs x b e d count bound first type =
      let names = words_of bytes x.names in
      let same : length names ≡ b.names = length-map x.names (word bytes) ∙ sym count in
      let more = binds_more s t u v (map (binder_of bytes) before) (map binder ys) names (term_of bytes x.ty) (meaning b.ty) first type bound in
      rw (e, d, map_append (binder_of bytes) before (x ∷ []), map_append binder ys (b ∷ []))
      (subst (λ k. Binds s v (map (binder_of bytes) before ++ binder_of bytes x ∷ []) (map binder ys ++ record { names = replicate k 0; type = meaning b.ty } ∷ [])) same more)

  -- definitions

  pub block_none : (s : State) (cs : List CodeDef) → cs ≡ [] → Opens s s (block_of bytes []) (code_block cs) × Seen bytes s s (written_in bytes [])
  unfolding block_of code_block written_in
  block_none s cs e = (rw e (opens_none bytes s), seen_none bytes s)

  pub block_more : {s t u v : State} (before after : List Def) (d : Def) (cs all_cs : List CodeDef) (c : CodeDef) {first : ℕ} → after ≡ before ++ d ∷ [] → all_cs ≡ cs ++ c ∷ []
      → first ≡ s.so_far.next → Opens s t (block_of bytes before) (code_block cs) → Seen bytes s t (written_in bytes before)
      → Defines t u (number_of c) (means_of bytes d) (code_def c)
      → v ≡ record (bound_to u (word bytes (out-Def d).name) (binding.Definition (number_of c))) {
        so_far = checked u.so_far (is_newer first (find u.names (word bytes (out-Def d).name))) (out-Def d).name.start;
      }
      → Opens s v (block_of bytes after) (code_block all_cs) × Seen bytes s v (written_in bytes after)
  unfolding block_of code_block code_def
  block_more {s = s} {t = t} {u = u} {v = v} before after d cs all_cs c {first = first} e g f opens seen def new =
      let ds = written_in bytes before in
      let w = written_of bytes d in
      let b = is_newer s.so_far.next (find u.names (word bytes w.name)) in
      let n = number_of c in
      let last = state_after bytes u n w b in
      let here : v ≡ last =
      new ∙ ap (λ k. record (bound_to u (word bytes w.name) (binding.Definition n)) { so_far = checked u.so_far (is_newer k (find u.names (word bytes w.name))) w.name.start }) f in
      let later : s.so_far.next ≤ n = let a = opens.extends.grows in let k = def.later in omega arith in
      let opened : Opens s last (block bytes (ds ++ w ∷ [])) (definitions (cs ++ c ∷ [])) = opens_more bytes s t u ds w cs c n b opens def (again_found bytes s t u ds w seen def.keeps.names) in
      let known : Seen bytes s last (ds ++ w ∷ []) = seen_more bytes s t u ds w n b seen later def.keeps.names in
      rw (e, g, here, written_push bytes before d) (opened, known)
