-- What the parts of a text become, from what was made of them.
use Rattle.std.proofs.Common.{◌≡◌, ◌<◌, ℕ, suc, Box, Global, Result, Ok, Err, IfOk, List, [], ◌∷◌, ◌++◌, ◌&&◌, Bool, true, false, Option, Some, None, zero, if◌then◌else◌, length, refl, sym, ap, ◌∙◌, subst, arith}
use Rattle.layout_lexer.specs.declared.token.Span.{Span}
use Rattle.syntax.specs.declared.exp.Exp.{Exp, Exp-F, out-Exp, roll-Exp, roll-out-Exp, Lambda as Lambda_, PathLambda as PathLambda_, Brackets as Brackets_, Apply as Apply_, Universe as Universe_, Name as Name_}
use Rattle.syntax.specs.declared.exp.Exp.TheVariants.{rolls-Let, rolls-Lambda, rolls-PathLambda, rolls-Pi, rolls-Sigma, rolls-Arrow, rolls-Apply, rolls-PathP, rolls-Comp, rolls-Fill, rolls-Transport, rolls-GlueType, rolls-GlueTerm, rolls-Unglue, rolls-Project, rolls-Universe, rolls-Name, rolls-Brackets}
use Rattle.syntax.specs.declared.exp.Element.{Element, Argument as Argument', At as At'}
use Rattle.syntax.specs.declared.exp.Tele.{Tele}
use Rattle.syntax.specs.declared.exp.Side.{Side as SideOf}
use Rattle.syntax.specs.declared.exp.Def.{Def, Def', out-Def}
use Rattle.syntax.specs.declared.exp.Teles.{Teles}
use Rattle.syntax.specs.declared.exp.Defs.{Defs}
use Rattle.syntax.specs.declared.exp.Exps.{Exps}
use Rattle.syntax.specs.declared.exp.Elements.{Elements}
use Rattle.syntax.specs.declared.formula.Equation.{Equation}
use Rattle.syntax.specs.declared.formula.Formula.{Formula}
use Rattle.syntax.specs.Tree as text
use Rattle.syntax.specs.View.{tree_of, tree_list, tele_of, tele_items, side_of, def_of, defs_of, def_items, element_of, formula_of}
use Rattle.syntax.proofs.Rows.{teles_of_items, defs_of_items, tree_of_brackets, tree_of_apply}
use Rattle.translation.specs.declared.built_in.BuiltIn.TheVariants as built_in
use Rattle.translation.specs.Names.{Word}
use Rattle.translation.specs.Texts.{span_of, word}
use Rattle.codes.specs.declared.code.Code.{Code}
use Rattle.codes.specs.declared.code.CodeDef.{CodeDef, CodeDef', out-CodeDef}
use Rattle.codes.specs.declared.code.Opened.{Opened}
use Rattle.codes.specs.declared.formula.Formula.{Formula as CodeFormula}
use Rattle.codes.specs.declared.formula.Equation.{Equation as CodeEquation}
use Rattle.codes.specs.declared.code.Binder.{Binder}
use Rattle.codes.specs.declared.code.Element.{Element as CodeElement, Argument as CodeArgument, At as CodeAt}
use Rattle.codes.specs.declared.code.Side.{Side as CodeSide}
use Rattle.codes.specs.declared.code.LineSide.{LineSide}
use Rattle.codes.specs.declared.code.PairSide.{PairSide}
use Rattle.codes.specs.FormulaShapes.{formula_shape}
use Rattle.codes.specs.Shapes as code
use Rattle.codes.specs.Shapes.{Shape, Shapes, shape, opened_shape, element_shape, def_shape, listed, of_binder, of_side, of_line_side, of_pair_side}
use Rattle.scopes.specs.declared.names.Binding.{Binding}
use Rattle.scopes.specs.declared.names.Binding.TheVariants as binding
use Rattle.scopes.specs.declared.names.Found.{Found}
use Rattle.scopes.specs.declared.names.Found.TheVariants as found
use Rattle.scopes.specs.Finding.{Named, find}
use Rattle.scopes.specs.Steps.{State, bound_to, all_bound_to}
use Rattle.name_resolution.specs.Named.{as_term, found_at, formula_in, equations_in}
use Rattle.resolved_forms.proofs.Applied.{leading}
use Rattle.resolved_forms.specs.Shaped.{Stand, Term, Line, Motive, Side, Pair, Scoping, Becomes, Become, BecomeSides, Applied, TakesNone, TakesOne, TakesFour, where_found, where_true, nat_in, is_nat, words, bound_in, after_all, binding_nothing, under_tele, after_definition, is_argument, are_arguments, tuple, after}
use Rattle.resolved_forms.specs.Shaped.{IsTerm, AreTerms, IsTuple, IsApplied, IsPlain, IsLine, IsMotive, IsPair, IsElement, AreElements, AreSides, AreLineSides, ArePairSides, AreBinders, IsDef, AreDefs}
use Rattle.resolved_forms.proofs.TextTrees.{apply_tree, universe_tree, name_tree, brackets_tree}

-- whatever code of that shape is made
pub made : {E : Type 0} (bytes : List ℕ) (names : List Named) (e : Exp) {T : text.Tree} (k : Shape) (r : Result Code E)
    → IfOk r (λ c. shape c ≡ k) → tree_of e ≡ T → Becomes bytes T names Term k → IfOk r (λ c. IsTerm bytes names e c)
made bytes names e {T = T} k (Ok c) h t b = record { becomes = subst (λ x. Becomes bytes x names Term (shape c)) (sym t) (subst (λ x. Becomes bytes T names Term x) (sym h) b) }
made bytes names e k (Err x) h t b = tt

-- What becomes a code among some names does so among the same names.

module _ {bytes : List ℕ} {names among : List Named} (same : names ≡ among) where
  pub term_among : {e : Exp} {c : Code} → IsTerm bytes names e c → IsTerm bytes among e c
  term_among {e = e} {c = c} h = subst (λ ns. IsTerm bytes ns e c) same h

  pub line_among : {s : Span} {e : Exp} {l : Opened} → IsLine bytes names s e l → IsLine bytes among s e l
  line_among {s = s} {e = e} {l = l} h = subst (λ ns. IsLine bytes ns s e l) same h

  pub pair_among : {s : Span} {e : Exp} {T w : Code} → IsPair bytes names s e T w → IsPair bytes among s e T w
  pair_among {s = s} {e = e} {T = T} {w = w} h = subst (λ ns. IsPair bytes ns s e T w) same h

  pub element_among : {e : Element} {c : CodeElement} → IsElement bytes names e c → IsElement bytes among e c
  element_among {e = e} {c = c} h = subst (λ ns. IsElement bytes ns e c) same h

  pub terms_among : {es : List Exp} {cs : List Code} → AreTerms bytes names es cs → AreTerms bytes among es cs
  terms_among {es = es} {cs = cs} h = subst (λ ns. AreTerms bytes ns es cs) same h

  pub elements_among : {es : List Element} {cs : List CodeElement} → AreElements bytes names es cs → AreElements bytes among es cs
  elements_among {es = es} {cs = cs} h = subst (λ ns. AreElements bytes ns es cs) same h

  pub sides_among : {ss : List SideOf} {cs : List CodeSide} → AreSides bytes names ss cs → AreSides bytes among ss cs
  sides_among {ss = ss} {cs = cs} h = subst (λ ns. AreSides bytes ns ss cs) same h

  pub line_sides_among : {ss : List SideOf} {cs : List LineSide} → AreLineSides bytes names ss cs → AreLineSides bytes among ss cs
  line_sides_among {ss = ss} {cs = cs} h = subst (λ ns. AreLineSides bytes ns ss cs) same h

  pub pair_sides_among : {ss : List SideOf} {cs : List PairSide} → ArePairSides bytes names ss cs → ArePairSides bytes among ss cs
  pair_sides_among {ss = ss} {cs = cs} h = subst (λ ns. ArePairSides bytes ns ss cs) same h

-- the names that a list of words binds
pub bound_names : (s : State) (xs : List Word) (b : Binding) → (all_bound_to s xs b).names ≡ bound_in xs b s.names
bound_names s [] b = refl
bound_names s (x ∷ xs) b = bound_names (bound_to s x b) xs b

-- the names in scope after some are bound
pub names_bound : {among : List Named} (s t : State) (xs : List Word) (b : Binding) → t ≡ all_bound_to s xs b → s.names ≡ among → t.names ≡ bound_in xs b among
names_bound s t xs b e same = ap (λ u. u.names) e ∙ bound_names s xs b ∙ ap (bound_in xs b) same

-- the same, where the first is bound by itself
pub first_bound : (s r t : State) (x : Word) (xs : List Word) (b : Binding) → r ≡ bound_to s x b → t ≡ all_bound_to r xs b → t.names ≡ bound_in (x ∷ xs) b s.names
first_bound s r t x xs b first rest = names_bound s t (x ∷ xs) b (rest ∙ ap (λ u. all_bound_to u xs b) first) refl

-- the equations of a side, among the same names
pub equations_among : (bytes : List ℕ) {names among : List Named} {es qs : List Equation} {cs : List CodeEquation} → names ≡ among → cs ≡ equations_in bytes names es → es ≡ qs → cs ≡ equations_in bytes among qs
equations_among bytes {names = names} {qs = qs} same e k = e ∙ ap (equations_in bytes names) k ∙ ap (λ ns. equations_in bytes ns qs) same

module _ (bytes : List ℕ) where
  -- names of the interval, of which there may be none

  pub under_names : (names : List Named) {among : List Named} (s : Span) (ns : List Span) {e : Exp} {c : Code} → among ≡ bound_in (words bytes ns) binding.Interval names → IsTerm bytes among e c
      → Becomes bytes (text.PathLambda s ns (tree_of e)) names Term (code.path_lambda s (length ns) (shape c))
  under_names names s [] i h = (term_among i h).becomes
  under_names names s (n ∷ ns) {c = c} i h = (shape c, refl, (term_among i h).becomes)

  -- what is applied, where it is no name

  applied_other : (names : List Named) (s : Span) (T : text.Tree) (es : text.Trees) (h : Shape) (cs : Shapes) → ((n : Span) → T ≡ text.Name n → ⊥)
      → Becomes bytes T names Term h → Become bytes binding_nothing es names cs → Becomes bytes (text.Apply s T es) names Term (code.apply s h cs)
  applied_other names s (text.Name n) es h cs other f g = absurd (other n refl)
  applied_other names s T es h cs other f g = (h, cs, refl, f, g)

  -- lists, one more after the others

  push : {A B : Type 0} (step : Scoping) (f : A → text.Tree) (g : B → Shape) (xs : List A) (ys : List B) (x : A) (y : B) (names : List Named)
      → Become bytes step (tree_list f xs) names (listed g ys) → Becomes bytes (f x) (after_all step (tree_list f xs) (listed g ys) names) Term (g y)
      → Become bytes step (tree_list f (xs ++ x ∷ [])) names (listed g (ys ++ y ∷ []))
  push step f g [] [] x y names h k = (k, tt)
  push step f g [] (z ∷ ys) x y names h k = absurd h
  push step f g (w ∷ xs) [] x y names h k = absurd h
  push step f g (w ∷ xs) (z ∷ ys) x y names h k = (h.0, push step f g xs ys x y (step (f w) (g z) names) h.1 k)

  after_push : {A B : Type 0} (step : Scoping) (f : A → text.Tree) (g : B → Shape) (xs : List A) (ys : List B) (x : A) (y : B) (names : List Named)
      → Become bytes step (tree_list f xs) names (listed g ys)
      → after_all step (tree_list f (xs ++ x ∷ [])) (listed g (ys ++ y ∷ [])) names ≡ step (f x) (g y) (after_all step (tree_list f xs) (listed g ys) names)
  after_push step f g [] [] x y names h = refl
  after_push step f g [] (z ∷ ys) x y names h = absurd h
  after_push step f g (w ∷ xs) [] x y names h = absurd h
  after_push step f g (w ∷ xs) (z ∷ ys) x y names h = after_push step f g xs ys x y (step (f w) (g z) names) h.1

  nothing_bound : (es : text.Trees) (cs : Shapes) (names : List Named) → after_all binding_nothing es cs names ≡ names
  nothing_bound text.none cs names = refl
  nothing_bound (text.more e es) code.none names = refl
  nothing_bound (text.more e es) (code.more c cs) names = nothing_bound es cs names

  -- the same of parts that bind nothing
  push_plain : {A B : Type 0} (f : A → text.Tree) (g : B → Shape) (xs : List A) (ys : List B) (x : A) (y : B) (names : List Named)
      → Become bytes binding_nothing (tree_list f xs) names (listed g ys) → Becomes bytes (f x) names Term (g y)
      → Become bytes binding_nothing (tree_list f (xs ++ x ∷ [])) names (listed g (ys ++ y ∷ []))
  push_plain f g xs ys x y names h k =
      push binding_nothing f g xs ys x y names h (subst (λ ns. Becomes bytes (f x) ns Term (g y)) (sym (nothing_bound (tree_list f xs) (listed g ys) names)) k)

  -- what stands on a side, with its equations
  abbrev OnSide : (Span → Stand) → SideOf → List Named → Shape → Type 0
  OnSide at x names c = (b : Shape) × (c ≡ code.On (equations_in bytes names x.equations) b) × Becomes bytes (tree_of x.body) names (at (span_of (tree_of x.body))) b

  push_side : {B : Type 0} (at : Span → Stand) (g : B → Shape) (xs : List SideOf) (ys : List B) (x : SideOf) (y : B) (names : List Named)
      → BecomeSides bytes at (tree_list side_of xs) names (listed g ys) → OnSide at x names (g y) → BecomeSides bytes at (tree_list side_of (xs ++ x ∷ [])) names (listed g (ys ++ y ∷ []))
  push_side at g [] [] x y names h k = (k, tt)
  push_side at g [] (z ∷ ys) x y names h k = absurd h
  push_side at g (w ∷ xs) [] x y names h k = absurd h
  push_side at g (w ∷ xs) (z ∷ ys) x y names h k = (h.0, push_side at g xs ys x y names h.1 k)

  -- the name that a definition binds
  def_binds : (e : text.Tree) (c : CodeDef) (names : List Named)
      → after_definition bytes e (def_shape c) names ≡ record { word = word bytes (out-CodeDef c).name; binding = binding.Definition (out-CodeDef c).number } ∷ names
  unfolding out-CodeDef denote.Hole.Carrier.out
  def_binds e (CodeDef' x n m bs t b) names = refl

  -- on a side of `glue`, a term stays a term

  mutual
    on_side : (T : text.Tree) (names : List Named) (s : Span) (c : Shape) → Becomes bytes T names Term c → Becomes bytes T names (Side s) (code.Side s c)
    on_side (text.PathLambda p [] e) names s c h = on_side e names s c h
    on_side (text.Brackets p es) names s c h = brackets_on_side p es names s c h
    on_side (text.Apply p (text.Name n) es) names s c h = (c, refl, h)
    on_side T names s c h = (c, refl, h)

    brackets_on_side : (p : Span) (es : text.Trees) (names : List Named) (s : Span) (c : Shape) → Becomes bytes (text.Brackets p es) names Term c
        → Becomes bytes (text.Brackets p es) names (Side s) (code.Side s c)
    brackets_on_side p text.none names s c h = (c, refl, h)
    brackets_on_side p (text.more e text.none) names s c h = on_side e names s c h
    brackets_on_side p (text.more a (text.more b rest)) names s c h = (c, refl, h)

module _ {bytes : List ℕ} where
  pub terms_spelt_none : {names : List Named} (cs : List Code) → cs ≡ [] → AreTerms bytes names [] cs
  terms_spelt_none cs e = rw e (record { become = tt })

  pub terms_spelt_more : {names : List Named} (before after : List Exp) (x : Exp) (cs all : List Code) (c : Code) → after ≡ before ++ x ∷ [] → all ≡ cs ++ c ∷ []
      → AreTerms bytes names before cs → IsTerm bytes names x c → AreTerms bytes names after all
  terms_spelt_more {names = names} before after x cs all c e d h k = rw (e, d) (record { become = push_plain bytes tree_of shape before cs x c names h.become k.becomes })

  pub elements_spelt_none : {names : List Named} (cs : List CodeElement) → cs ≡ [] → AreElements bytes names [] cs
  elements_spelt_none cs e = rw e (record { become = tt })

  pub elements_spelt_more : {names : List Named} (before after : List Element) (x : Element) (cs all : List CodeElement) (c : CodeElement) → after ≡ before ++ x ∷ [] → all ≡ cs ++ c ∷ []
      → AreElements bytes names before cs → IsElement bytes names x c → AreElements bytes names after all
  elements_spelt_more {names = names} before after x cs all c e d h k = rw (e, d) (record { become = push_plain bytes element_of element_shape before cs x c names h.become k.becomes })

  -- parts that bind names, which are in scope afterwards

  pub binders_spelt_none : {names : List Named} (cs : List Binder) → cs ≡ [] → AreBinders bytes names names [] cs
  binders_spelt_none cs e = rw e (record { become = tt; leaves = refl })

  pub binders_spelt_more : {names among last : List Named} (before after : List Tele) (x : Tele) (cs all : List Binder) (n : ℕ) (c : Code) → after ≡ before ++ x ∷ []
      → all ≡ cs ++ record { names = n; ty = c } ∷ [] → n ≡ length x.names → last ≡ bound_in (words bytes x.names) binding.Variable among
      → AreBinders bytes names among before cs → IsTerm bytes among x.ty c → AreBinders bytes names last after all
  binders_spelt_more {names = names} {among = among} {last = last} before after x cs all n c e d l binds h k =
      let b : Binder = record { names = n; ty = c } in
      let step = under_tele bytes in
      let type = (term_among h.leaves k).becomes in
      rw (e, d) (record {
        become = push bytes step tele_of of_binder before cs x b names h.become (shape c, ap (λ m. code.Binder m (shape c)) l, type);
        leaves = binds ∙ ap (bound_in (words bytes x.names) binding.Variable) h.leaves ∙ sym (after_push bytes step tele_of of_binder before cs x b names h.become);
      })

  pub defs_spelt_none : {names : List Named} (cs : List CodeDef) → cs ≡ [] → AreDefs bytes names names [] cs
  defs_spelt_none cs e = rw e (record { become = tt; leaves = refl })

  pub defs_spelt_more : {names among last : List Named} (before after : List Def) (x : Def) (cs all : List CodeDef) (c : CodeDef) → after ≡ before ++ x ∷ [] → all ≡ cs ++ c ∷ []
      → (out-CodeDef c).name ≡ (out-Def x).name → last ≡ record { word = word bytes (out-Def x).name; binding = binding.Definition (out-CodeDef c).number } ∷ among
      → AreDefs bytes names among before cs → IsDef bytes among x c → AreDefs bytes names last after all
  defs_spelt_more {names = names} {among = among} {last = last} before after x cs all c e d named binds h k =
      let step = after_definition bytes in
      let n = binding.Definition (out-CodeDef c).number in
      rw (e, d) (record {
        become = push bytes step def_of def_shape before cs x c names h.become (subst (λ ns. Becomes bytes (def_of x) ns Term (def_shape c)) h.leaves k.becomes);
        leaves = binds
            ∙ ap (λ y. record { word = word bytes y; binding = n } ∷ among) (sym named)
            ∙ ap (λ ns. record { word = word bytes (out-CodeDef c).name; binding = n } ∷ ns) h.leaves
            ∙ sym (def_binds bytes (def_of x) c (after_all step (tree_list def_of before) (listed def_shape cs) names))
            ∙ sym (after_push bytes step def_of def_shape before cs x c names h.become);
      })

  pub sides_spelt_none : {names : List Named} (cs : List CodeSide) → cs ≡ [] → AreSides bytes names [] cs
  sides_spelt_none cs e = rw e (record { become = tt })

  pub sides_spelt_more : {names : List Named} (before after : List SideOf) (x : SideOf) (cs all : List CodeSide) (c : CodeSide) → after ≡ before ++ x ∷ [] → all ≡ cs ++ c ∷ []
      → c.span ≡ span_of (tree_of x.body) → c.equations.items ≡ equations_in bytes names x.equations
      → AreSides bytes names before cs → IsTerm bytes names x.body c.body → AreSides bytes names after all
  sides_spelt_more {names = names} before after x cs all c e d l q h k =
      let T = tree_of x.body in
      rw (e, d) (record {
        become = push_side bytes Side of_side before cs x c names h.become (
          code.Side c.span (shape c.body),
          ap (λ es. code.On es (code.Side c.span (shape c.body))) q,
          subst (λ s. Becomes bytes T names (Side (span_of T)) (code.Side s (shape c.body))) (sym l) (on_side bytes T names (span_of T) (shape c.body) k.becomes),
        );
      })

  pub line_sides_spelt_none : {names : List Named} (cs : List LineSide) → cs ≡ [] → AreLineSides bytes names [] cs
  line_sides_spelt_none cs e = rw e (record { become = tt })

  pub line_sides_spelt_more : {names : List Named} (before after : List SideOf) (x : SideOf) (cs all : List LineSide) (c : LineSide) {s : Span} → after ≡ before ++ x ∷ [] → all ≡ cs ++ c ∷ []
      → s ≡ span_of (tree_of x.body) → c.equations.items ≡ equations_in bytes names x.equations
      → AreLineSides bytes names before cs → IsLine bytes names s x.body c.body → AreLineSides bytes names after all
  line_sides_spelt_more {names = names} before after x cs all c e d l q h k =
      let T = tree_of x.body in
      rw (e, d) (record {
        become = push_side bytes Line of_line_side before cs x c names h.become (
          opened_shape c.body,
          ap (λ es. code.On es (opened_shape c.body)) q,
          subst (λ s. Becomes bytes T names (Line s) (opened_shape c.body)) l k.becomes,
        );
      })

  pub pair_sides_spelt_none : {names : List Named} (cs : List PairSide) → cs ≡ [] → ArePairSides bytes names [] cs
  pair_sides_spelt_none cs e = rw e (record { become = tt })

  pub pair_sides_spelt_more : {names : List Named} (before after : List SideOf) (x : SideOf) (cs all : List PairSide) (c : PairSide) → after ≡ before ++ x ∷ [] → all ≡ cs ++ c ∷ []
      → c.span ≡ span_of (tree_of x.body) → c.equations.items ≡ equations_in bytes names x.equations
      → ArePairSides bytes names before cs → IsPair bytes names c.span x.body c.ty c.equivalence → ArePairSides bytes names after all
  pair_sides_spelt_more {names = names} before after x cs all c e d l q h k =
      let T = tree_of x.body in
      let b = code.PairSide c.span (shape c.ty) (shape c.equivalence) in
      rw (e, d) (record {
        become = push_side bytes Pair of_pair_side before cs x c names h.become
            (b, ap (λ es. code.On es b) q, subst (λ s. Becomes bytes T names (Pair s) b) l k.becomes);
      })

-- the forms that stand out: names, lambdas, and what is in brackets
abbrev pub IsAnother : text.Tree → Type 0
IsAnother (text.Name n) = ⊥
IsAnother (text.Lambda s xs e) = ⊥
IsAnother (text.PathLambda s ns e) = ⊥
IsAnother (text.Brackets s es) = ⊥
IsAnother (text.At s f) = ⊥
IsAnother _ = Unit {0}

pub data Form (e : Exp) : Type 0 where
  a_name : (n : Span) → e ≡ Name_ n → Form e
  a_lambda : (s : Span) (xs : Teles) (p : Box Exp Global) → e ≡ Lambda_ s xs p → Form e
  a_path : (s : Span) (ns : List Span) (p : Box Exp Global) → e ≡ PathLambda_ s ns p → Form e
  in_brackets : (s : Span) (es : Exps) → e ≡ Brackets_ s es → Form e
  another : IsAnother (tree_of e) → Form e

pub form_of : (e : Exp) → Form e
form_of e = subst Form (roll-out-Exp e) (elim (out-Exp e) as (λ x. Form (roll-Exp x)) [
  | Exp-F.Let a b c ↦ subst Form (sym (rolls-Let a b c)) (another tt)
  | Exp-F.Lambda a b c ↦ subst Form (sym (rolls-Lambda a b c)) (a_lambda a b c refl)
  | Exp-F.PathLambda a b c ↦ subst Form (sym (rolls-PathLambda a b c)) (a_path a b c refl)
  | Exp-F.Pi a b c ↦ subst Form (sym (rolls-Pi a b c)) (another tt)
  | Exp-F.Sigma a b c ↦ subst Form (sym (rolls-Sigma a b c)) (another tt)
  | Exp-F.Arrow a b c ↦ subst Form (sym (rolls-Arrow a b c)) (another tt)
  | Exp-F.Apply a b c ↦ subst Form (sym (rolls-Apply a b c)) (another (subst IsAnother (sym (tree_of_apply a b c)) tt))
  | Exp-F.PathP a b c d ↦ subst Form (sym (rolls-PathP a b c d)) (another tt)
  | Exp-F.Comp a b c d ↦ subst Form (sym (rolls-Comp a b c d)) (another tt)
  | Exp-F.Fill a b c d ↦ subst Form (sym (rolls-Fill a b c d)) (another tt)
  | Exp-F.Transport a b c ↦ subst Form (sym (rolls-Transport a b c)) (another tt)
  | Exp-F.GlueType a b c ↦ subst Form (sym (rolls-GlueType a b c)) (another tt)
  | Exp-F.GlueTerm a b c ↦ subst Form (sym (rolls-GlueTerm a b c)) (another tt)
  | Exp-F.Unglue a b c ↦ subst Form (sym (rolls-Unglue a b c)) (another tt)
  | Exp-F.Project a b c ↦ subst Form (sym (rolls-Project a b c)) (another tt)
  | Exp-F.Universe a ↦ subst Form (sym (rolls-Universe a)) (another tt)
  | Exp-F.Name a ↦ subst Form (sym (rolls-Name a)) (a_name a refl)
  | Exp-F.Brackets a b ↦ subst Form (sym (rolls-Brackets a b)) (in_brackets a b refl)
])

-- a text that is no name
pub no_name : (e : Exp) → ((n : Span) → e ≡ Name_ n → ⊥) → (n : Span) → tree_of e ≡ text.Name n → ⊥
no_name e name n k = elim (form_of e) [
  | a_name m h ↦ name m h
  | a_lambda s xs p h ↦ absurd (let i = ap tree_of h in cc)
  | a_path s ns p h ↦ absurd (let i = ap tree_of h in cc)
  | in_brackets s es h ↦ absurd (let i = ap tree_of h ∙ tree_of_brackets s es in cc)
  | another h ↦ subst IsAnother k h
]

pub applied_term : {bytes : List ℕ} {names : List Named} (s : Span) {f : Exp} {h : Code} {es : List Element} {cs : List CodeElement} → ((n : Span) → f ≡ Name_ n → ⊥)
    → IsTerm bytes names f h → AreElements bytes names es cs → Becomes bytes (text.Apply s (tree_of f) (tree_list element_of es)) names Term (code.apply s (shape h) (listed element_shape cs))
applied_term {bytes = bytes} {names = names} s {f = f} {h = h} {es = es} {cs = cs} other head others =
    applied_other bytes names s (tree_of f) (tree_list element_of es) (shape h) (listed element_shape cs) (no_name f other) head.becomes others.become

-- what becomes the same codes wherever it stands

abbrev pub Same : List ℕ → Exp → Exp → Type 0
Same bytes x e = (names : List Named) (at : Stand) (c : Shape) → Becomes bytes (tree_of x) names at c → Becomes bytes (tree_of e) names at c

-- where the text is the built-in `nat`

module _ (bytes : List ℕ) (names : List Named) where
  pub nat_in_name : (n : Span) {e : Exp} {f : Found} → e ≡ Name_ n → f ≡ find names (word bytes n) → nat_in bytes names (tree_of e) ≡ (if is_nat f then Some n else None)
  nat_in_name n i k = ap (nat_in bytes names) (name_tree n i) ∙ ap (λ g. if is_nat g then Some n else None) (sym k)

where_not : (A B : Type 0) (b : Bool) → b ≡ false → B → where_true b A B
where_not A B b e h = subst (λ x. where_true x A B) (sym e) h

where_is : (A B : Type 0) (b : Bool) → b ≡ true → A → where_true b A B
where_is A B b e h = subst (λ x. where_true x A B) (sym e) h

and_false : (b : Bool) → (b && false) ≡ false
and_false true = refl
and_false false = refl

-- an expression is an argument

argument : (T : text.Tree) → IsAnother T → is_argument T ≡ true
argument (text.At s f) h = absurd h
argument T h = refl

is_argument_of : (e : Exp) → is_argument (tree_of e) ≡ true
is_argument_of e = elim (form_of e) [
  | a_name n h ↦ rw h refl
  | a_lambda s xs p h ↦ rw h refl
  | a_path s ns p h ↦ rw h refl
  | in_brackets s es h ↦ ap (λ x. is_argument (tree_of x)) h ∙ ap is_argument (tree_of_brackets s es)
  | another h ↦ argument (tree_of e) h
]

few_arguments : (es : List Element) (n : ℕ) → leading es < n → are_arguments n (tree_list element_of es) ≡ false
unfolding leading
few_arguments es zero few = absurd (omega arith)
few_arguments [] (suc n) few = refl
few_arguments (Argument' e ∷ es) (suc n) few = rw (few_arguments es n (omega arith)) (and_false (is_argument (tree_of e)))
few_arguments (At' s f ∷ es) (suc n) few = refl

module _ (bytes : List ℕ) (names : List Named) where
  in_tuple : (s : Span) (xs : List Exp) (cs : List Code) → Become bytes binding_nothing (tree_list tree_of xs) names (listed shape cs)
      → Becomes bytes (text.Brackets s (tree_list tree_of xs)) names Term (tuple s (listed shape cs))
  in_tuple s [] [] h = refl
  in_tuple s [] (c ∷ cs) h = absurd h
  in_tuple s (x ∷ xs) [] h = absurd h
  in_tuple s (x ∷ []) (c ∷ []) h = h.0
  in_tuple s (x ∷ []) (c ∷ d ∷ cs) h = absurd h.1
  in_tuple s (x ∷ y ∷ xs) (c ∷ []) h = absurd h.1
  in_tuple s (x ∷ y ∷ xs) (c ∷ d ∷ cs) h = (shape c, listed shape (d ∷ cs), refl, h.0, h.1)

  -- what an applied name makes of its arguments
  abbrev takes : Span → Found → text.Trees → Shape → Shapes → Type 0
  takes n f es h cs = Applied f es (TakesOne bytes n es names h cs) (TakesFour bytes n es names h cs) (TakesNone bytes n (found_at bytes names n) es names h cs)

  takes_none : (n : Span) (f : Found) (es : List Element) (h : Shape) (cs : Shapes) → (f ≡ found.BuiltIn built_in.Suc → leading es < 1) → (f ≡ found.BuiltIn built_in.NatRec → leading es < 4)
      → TakesNone bytes n (found_at bytes names n) (tree_list element_of es) names h cs → takes n f (tree_list element_of es) h cs
  takes_none n (found.BuiltIn built_in.Suc) es h cs suc_few rec_few none = where_not _ _ (are_arguments 1 (tree_list element_of es)) (few_arguments es 1 (suc_few refl)) none
  takes_none n (found.BuiltIn built_in.NatRec) es h cs suc_few rec_few none = where_not _ _ (are_arguments 4 (tree_list element_of es)) (few_arguments es 4 (rec_few refl)) none
  takes_none n f es h cs suc_few rec_few none = none

-- expressions

module _ (bytes : List ℕ) (names : List Named) where
  pub universe_term : (s : Span) {e : Exp} (c : Code) → e ≡ Universe_ s → shape c ≡ code.Universe s → IsTerm bytes names e c
  universe_term s c i k = record { becomes = subst (λ T. Becomes bytes T names Term (shape c)) (sym (universe_tree s i)) k }

  pub name_term : {E : Type 0} (n : Span) {e : Exp} (r : Result Code E) → e ≡ Name_ n → IfOk r (λ c. shape c ≡ as_term n (found_at bytes names n)) → IfOk r (λ c. IsTerm bytes names e c)
  name_term n (Ok c) i h = record { becomes = subst (λ T. Becomes bytes T names Term (shape c)) (sym (name_tree n i)) h }
  name_term n (Err x) i h = tt

  pub brackets_term : {E : Type 0} (p : Span) (es : Exps) {e : Exp} {xs : List Exp} (r : Result Code E) → e ≡ Brackets_ p es → xs ≡ es.items.items
      → IfOk r (λ c. IsTuple bytes names p xs c) → IfOk r (λ c. IsTerm bytes names e c)
  brackets_term p es (Ok c) i j h = record { becomes = subst (λ T. Becomes bytes T names Term (shape c)) (sym (brackets_tree p es i j)) h.becomes }
  brackets_term p es (Err x) i j h = tt

  pub tuple_spelt : (s : Span) (xs : List Exp) (cs : List Code) (c : Code) → shape c ≡ tuple s (listed shape cs) → AreTerms bytes names xs cs → IsTuple bytes names s xs c
  tuple_spelt s xs cs c e h = record { becomes = subst (λ k. Becomes bytes (text.Brackets s (tree_list tree_of xs)) names Term k) (sym e) (in_tuple bytes names s xs cs h.become) }

  -- what is applied

  pub made_applied : {E : Type 0} (s n : Span) (es : List Element) {k : Shape} (r : Result Code E)
      → IfOk r (λ c. shape c ≡ k) → Becomes bytes (text.Apply s (text.Name n) (tree_list element_of es)) names Term k → IfOk r (λ c. IsApplied bytes names s n es c)
  made_applied s n es (Ok c) h b = record { becomes = subst (λ x. Becomes bytes (text.Apply s (text.Name n) (tree_list element_of es)) names Term x) (sym h) b }
  made_applied s n es (Err x) h b = tt

  pub named_term : {E : Type 0} (p : Span) (f : Box Exp Global) (n : Span) (es : Elements) {e h : Exp} {xs : List Element} (r : Result Code E)
      → e ≡ Apply_ p f es → h ≡ f.value → h ≡ Name_ n → xs ≡ es.items.items → IfOk r (λ c. IsApplied bytes names p n xs c) → IfOk r (λ c. IsTerm bytes names e c)
  named_term p f n es {xs = xs} (Ok c) i j k l h =
      record { becomes = subst (λ T. Becomes bytes T names Term (shape c)) (sym (apply_tree p f es i j l ∙ ap (λ T. text.Apply p T (tree_list element_of xs)) (name_tree n k))) h.becomes }
  named_term p f n es (Err x) i j k l h = tt

  -- a name that takes no arguments of its own, and what it is applied to
  pub plain_made : {E : Type 0} (s n : Span) (es : List Element) (h : Code) {cs : List CodeElement} (r : Result Code E)
      → IfOk r (λ c. shape c ≡ code.apply s (shape h) (listed element_shape cs)) → shape h ≡ as_term n (found_at bytes names n) → AreElements bytes names es cs → IfOk r (λ c. IsPlain bytes names s n es c)
  plain_made s n es h {cs = cs} (Ok c) made_of head others =
      record { head = shape h; elements = listed element_shape cs; is = made_of; takes = (head, others.become) }
  plain_made s n es h (Err x) made_of head others = tt

  -- too few arguments for a name that takes some of its own

  pub few_applied : {E : Type 0} (s n : Span) (es : List Element) {f : Found} (r : Result Code E) → f ≡ find names (word bytes n)
      → (f ≡ found.BuiltIn built_in.Suc → leading es < 1) → (f ≡ found.BuiltIn built_in.NatRec → leading es < 4)
      → IfOk r (λ c. IsPlain bytes names s n es c) → IfOk r (λ c. IsApplied bytes names s n es c)
  few_applied s n es {f = f} (Ok c) found_is suc_few rec_few h =
      let here = takes_none bytes names n f es h.head h.elements suc_few rec_few h.takes in
      record { becomes = (h.head, h.elements, h.is, subst (λ g. takes bytes names n g (tree_list element_of es) h.head h.elements) found_is here) }
  few_applied s n es (Err x) found_is suc_few rec_few h = tt

  -- a name that takes none
  pub other_applied : {E : Type 0} (s n : Span) (es : List Element) {f : Found} (r : Result Code E) → f ≡ find names (word bytes n)
      → (f ≡ found.BuiltIn built_in.Suc → ⊥) → (f ≡ found.BuiltIn built_in.NatRec → ⊥)
      → IfOk r (λ c. IsPlain bytes names s n es c) → IfOk r (λ c. IsApplied bytes names s n es c)
  other_applied s n es r found_is no_suc no_rec h = few_applied s n es r found_is (λ e. absurd (no_suc e)) (λ e. absurd (no_rec e)) h

  pub suc_applied : {E : Type 0} (s : Span) {n : Span} {es rest : List Element} {x : Exp} {a : Code} (h : Code) {cs : List CodeElement} (r : Result Code E)
      → find names (word bytes n) ≡ found.BuiltIn built_in.Suc
      → IfOk r (λ c. shape c ≡ code.apply s (shape h) (listed element_shape cs)) → shape h ≡ code.Suc n (shape a) → es ≡ Argument' x ∷ rest
      → IsTerm bytes names x a → AreElements bytes names rest cs → IfOk r (λ c. IsApplied bytes names s n es c)
  suc_applied s {n = n} {es = es} {rest = rest} {x = x} {a = a} h {cs = cs} r is made_of head e argument others =
      let es' = tree_list element_of (Argument' x ∷ rest) in
      let one = where_is (TakesOne bytes n es' names (shape h) (listed element_shape cs)) (TakesNone bytes n (found_at bytes names n) es' names (shape h) (listed element_shape cs))
      (are_arguments 1 es') (ap (λ b. b && true) (is_argument_of x)) (shape a, head, argument.becomes, others.become) in
      made_applied s n es r made_of (subst (λ xs. Becomes bytes (text.Apply s (text.Name n) (tree_list element_of xs)) names Term (code.apply s (shape h) (listed element_shape cs))) (sym e)
      (shape h, listed element_shape cs, refl, subst (λ f. takes bytes names n f es' (shape h) (listed element_shape cs)) (sym is) one))

  pub natrec_applied : {E : Type 0} (s : Span) {n t : Span} {es rest : List Element} {P x y z : Exp} {M : Opened} {a b k : Code} (h : Code) {cs : List CodeElement} (r : Result Code E)
      → find names (word bytes n) ≡ found.BuiltIn built_in.NatRec
      → IfOk r (λ c. shape c ≡ code.apply s (shape h) (listed element_shape cs)) → shape h ≡ code.NatRec n (opened_shape M) (shape a) (shape b) (shape k)
      → es ≡ Argument' P ∷ Argument' x ∷ Argument' y ∷ Argument' z ∷ rest → t ≡ span_of (tree_of P)
      → IsMotive bytes names t P M → IsTerm bytes names x a → IsTerm bytes names y b → IsTerm bytes names z k → AreElements bytes names rest cs → IfOk r (λ c. IsApplied bytes names s n es c)
  natrec_applied s {n = n} {es = es} {rest = rest} {P = P} {x = x} {y = y} {z = z} {M = M} {a = a} {b = b} {k = k} h {cs = cs} r is made_of head e at motive base step argument others =
      let es' = tree_list element_of (Argument' P ∷ Argument' x ∷ Argument' y ∷ Argument' z ∷ rest) in
      let four : are_arguments 4 es' ≡ true = rw (is_argument_of P, is_argument_of x, is_argument_of y, is_argument_of z) refl in
      let own = where_is (TakesFour bytes n es' names (shape h) (listed element_shape cs)) (TakesNone bytes n (found_at bytes names n) es' names (shape h) (listed element_shape cs)) (are_arguments 4 es') four (
        opened_shape M,
        shape a,
        shape b,
        shape k,
        head,
        subst (λ t. Becomes bytes (tree_of P) names (Motive t) (opened_shape M)) at motive.becomes,
        base.becomes,
        step.becomes,
        argument.becomes,
        others.become,
      ) in
      made_applied s n es r made_of (subst (λ xs. Becomes bytes (text.Apply s (text.Name n) (tree_list element_of xs)) names Term (code.apply s (shape h) (listed element_shape cs))) (sym e)
      (shape h, listed element_shape cs, refl, subst (λ f. takes bytes names n f es' (shape h) (listed element_shape cs)) (sym is) own))

module _ {bytes : List ℕ} {names : List Named} where
  pub argument_spelt : {e : Element} {x : Exp} {c : Code} → e ≡ Argument' x → IsTerm bytes names x c → IsElement bytes names e (CodeArgument c)
  argument_spelt {c = c} i h = record { becomes = subst (λ y. Becomes bytes (element_of y) names Term (shape c)) (sym i) h.becomes }

  pub at_spelt : (s : Span) {e : Element} {f : Formula} {g : CodeFormula} → e ≡ At' s f → formula_shape g ≡ formula_in bytes names (formula_of f) → IsElement bytes names e (CodeAt s g)
  at_spelt s {g = g} i h = record { becomes = subst (λ y. Becomes bytes (element_of y) names Term (code.At s (formula_shape g))) (sym i) (ap (code.At s) h) }

  -- lines

  pub line_at : {s : Span} {x y v : Exp} {l : Opened} → s ≡ span_of (tree_of y) → y ≡ v → x ≡ v → IsLine bytes names s x l → Becomes bytes (tree_of x) names (Line (span_of (tree_of x))) (opened_shape l)
  line_at {x = x} {l = l} i j k h = subst (λ s. Becomes bytes (tree_of x) names (Line s) (opened_shape l)) (i ∙ ap (λ e. span_of (tree_of e)) (j ∙ sym k)) h.becomes

-- a lambda that is not opened as a motive

where_none : {A : Type 0} (o : Option A) (Is : A → Type 0) (Otherwise : Type 0) → o ≡ None → Otherwise → where_found o Is Otherwise
where_none o Is Otherwise e h = subst (λ x. where_found x Is Otherwise) (sym e) h

pub where_some : {A : Type 0} (o : Option A) (a : A) (Is : A → Type 0) (Otherwise : Type 0) → o ≡ Some a → Is a → where_found o Is Otherwise
where_some o a Is Otherwise e h = subst (λ x. where_found x Is Otherwise) (sym e) h

pub other_opened : (bytes : List ℕ) (names : List Named) (s : Span) (ns : List Span) (t : text.Tree) (xs : text.Trees) (e : text.Tree) (p : Span) (c : Shape) → nat_in bytes names t ≡ None
    → Becomes bytes (text.Lambda s (text.more (text.Tele ns t) xs) e) names Term c → Becomes bytes (text.Lambda s (text.more (text.Tele ns t) xs) e) names (Motive p) (code.Applied p c)
other_opened bytes names s [] t xs e p c none h = (c, refl, h)
other_opened bytes names s (n ∷ ns) t xs e p c none h = where_none (nat_in bytes names t) _ _ none (c, refl, h)

pub nothing_opened : (bytes : List ℕ) (names : List Named) (s : Span) (ns : List Span) (t : text.Tree) (xs : text.Trees) (e : text.Tree) (p : Span) (c : Shape) → ns ≡ []
    → Becomes bytes (text.Lambda s (text.more (text.Tele ns t) xs) e) names Term c → Becomes bytes (text.Lambda s (text.more (text.Tele ns t) xs) e) names (Motive p) (code.Applied p c)
nothing_opened bytes names s [] t xs e p c none h = (c, refl, h)
nothing_opened bytes names s (n ∷ ns) t xs e p c none h = absurd (let k = none in cc)

-- definitions

def_tree : (d : Def) → def_of d ≡ text.Def (out-Def d).name (tree_list tele_of (tele_items (out-Def d).teles)) (tree_of (out-Def d).ty) (tree_of (out-Def d).body) (tree_list def_of (def_items (out-Def d).locals))
unfolding out-Def denote.Hole.Carrier.out
def_tree (Def' n xs t b ls) =
    ap (λ ts. text.Def n ts (tree_of t) (tree_of b) (defs_of ls)) (teles_of_items xs)
    ∙ ap (text.Def n (tree_list tele_of (tele_items xs)) (tree_of t) (tree_of b)) (defs_of_items ls)

pub def_spelt : {bytes : List ℕ} {names among inside last : List Named} (d : Def) {s : Span} {ts : List Tele} {ds : List Def} {bs : List Binder} {T B : Code} {ls : List CodeDef} (n : ℕ) (whole : Code) (c : CodeDef)
    → def_shape c ≡ code.Def (out-Def d).name n (listed of_binder bs) (shape T) (shape whole) → shape whole ≡ after s (listed def_shape ls) (shape B) → s ≡ span_of (tree_of (out-Def d).body)
    → ts ≡ tele_items (out-Def d).teles → ds ≡ def_items (out-Def d).locals → inside ≡ among
    → AreBinders bytes names among ts bs → IsTerm bytes among (out-Def d).ty T → AreDefs bytes inside last ds ls → IsTerm bytes last (out-Def d).body B → IsDef bytes names d c
def_spelt {bytes = bytes} {names = names} {last = last} d {s = s} {ts = ts} {ds = ds} {bs = bs} {T = T} {B = B} {ls = ls} n whole c made_of body at i j same binders type locals term =
    let given = out-Def d in
    let spelt = made_of ∙ ap (code.Def given.name n (listed of_binder bs) (shape T)) (body ∙ ap (λ p. after p (listed def_shape ls) (shape B)) at) in
    let under : List Tele → List Named = λ xs. after_all (under_tele bytes) (tree_list tele_of xs) (listed of_binder bs) names in
    let Parts : List Tele → List Def → Type 0 = λ xs ys. Become bytes (under_tele bytes) (tree_list tele_of xs) names (listed of_binder bs)
    × Becomes bytes (tree_of given.ty) (under xs) Term (shape T) × Become bytes (after_definition bytes) (tree_list def_of ys) (under xs) (listed def_shape ls)
    × Becomes bytes (tree_of given.body) (after_all (after_definition bytes) (tree_list def_of ys) (listed def_shape ls) (under xs)) Term (shape B) in
    let here = same ∙ binders.leaves in
    let scope = subst (λ ns. AreDefs bytes ns last ds ls) here locals in
    let parts : Parts ts ds = (binders.become, (term_among binders.leaves type).becomes, scope.become, (term_among scope.leaves term).becomes) in
    let there : Parts (tele_items given.teles) (def_items given.locals) = subst (λ xs. Parts xs (def_items given.locals)) i (subst (λ ys. Parts ts ys) j parts) in
    record {
      becomes = subst (λ x. Becomes bytes x names Term (def_shape c)) (sym (def_tree d)) (
        n,
        listed of_binder bs,
        shape T,
        listed def_shape ls,
        shape B,
        spelt,
        there.0,
        there.1,
        there.2,
        there.3,
      );
    }

-- whole blocks
pub block_spelt : {bytes : List ℕ} {names last among : List Named} (ds : Defs) {xs : List Def} {cs : List CodeDef} → names ≡ among → xs ≡ def_items ds → AreDefs bytes names last xs cs
    → Become bytes (after_definition bytes) (defs_of ds) among (listed def_shape cs)
block_spelt {bytes = bytes} {names = names} ds {cs = cs} same i h =
    subst (λ ns. Become bytes (after_definition bytes) (defs_of ds) ns (listed def_shape cs)) same
    (subst (λ T. Become bytes (after_definition bytes) T names (listed def_shape cs)) (sym (defs_of_items ds ∙ ap (tree_list def_of) (sym i))) h.become)

-- forms of several parts

pub tuple_many : (s : Span) (cs : List Code) → (length cs ≡ 1 → ⊥) → code.Tuple s (listed shape cs) ≡ tuple s (listed shape cs)
tuple_many s [] many = refl
tuple_many s (c ∷ []) many = absurd (many refl)
tuple_many s (c ∷ d ∷ cs) many = refl

after_some : (s : Span) (ds : List CodeDef) (b : Shape) → (ds ≡ [] → ⊥) → code.Let s (listed def_shape ds) b ≡ after s (listed def_shape ds) b
after_some s [] b some = absurd (some refl)
after_some s (d ∷ ds) b some = refl

pub after_block : {E : Type 0} (s : Span) (ds : List CodeDef) (b : Shape) (r : Result Code E) → (ds ≡ [] → ⊥)
    → IfOk r (λ c. shape c ≡ code.Let s (listed def_shape ds) b) → IfOk r (λ c. shape c ≡ after s (listed def_shape ds) b)
after_block s ds b (Ok c) some h = h ∙ after_some s ds b some
after_block s ds b (Err x) some h = tt
