-- How texts stand where a line, a motive or a pair is wanted: what they mean there, and which codes
-- they become there, from what their parts mean and become.
use Rattle.std.specs.Prelude.{◌≡◌, ◌<◌, ℕ, List, [], ◌∷◌, map, length}
use denote.Param.Weighed.{most}
use Rattle.layout_lexer.specs.declared.token.Span.{Span}
use Rattle.syntax.specs.declared.exp.Exp.{Exp, size-Exp}
use Rattle.syntax.specs.declared.exp.Tele.{Tele, size-Tele}
use Rattle.syntax.specs.Tree as text
use Rattle.syntax.specs.View.{tree_of, tele_of, tree_list}
use Rattle.translation.specs.Terms.{lam, nat}
use Rattle.translation.specs.Scopes.{Scope, Variable, Interval}
use Rattle.translation.specs.Translated.{done, ◌>>=◌}
use Rattle.translation.specs.Names.{Word}
use Rattle.translation.specs.Texts.{word}
use Rattle.translation.specs.Forms.{applied_to_name, applied_to_variable, over, tuple as tupled}
use Rattle.translation.specs.Forms.{under, under_names}
use Rattle.codes.specs.Shapes as code
use Rattle.codes.specs.Shapes.{Shape, Shapes}
use Rattle.scopes.specs.declared.names.Binding.TheVariants as binding
use Rattle.scopes.specs.Finding.{Named}
use Rattle.scopes.specs.Steps.{State, Agree}
use Rattle.resolved_forms.specs.declared.opened.LineText.{LineText}
use Rattle.resolved_forms.specs.declared.opened.LineText.TheVariants as line
use Rattle.resolved_forms.specs.declared.opened.MotiveText.{MotiveText}
use Rattle.resolved_forms.specs.declared.opened.MotiveText.TheVariants as motive
use Rattle.resolved_forms.specs.declared.opened.PairText.{PairText}
use Rattle.resolved_forms.specs.declared.opened.PairText.TheVariants as pair
use Rattle.resolved_forms.specs.Shaped.{Becomes, Become, Term, Line, Motive, Pair, after_all}
use Rattle.resolved_forms.specs.Shaped.{bound_in}
use Rattle.resolved_forms.specs.Shaped.{binding_nothing, numbers, tuple, under_tele}
use Rattle.resolved_forms.specs.Spelt.{term_of, line_of, motive_of, pair_of, no_pair_of, words_of}
use Rattle.resolved_forms.specs.Spelt.{binders_of}

-- Brackets round one text, and names of the interval where there are none, are seen through.
abbrev mutual
  pub bare : text.Tree → text.Tree
  bare (text.Brackets s es) = in_brackets s es
  bare (text.PathLambda s [] e) = bare e
  bare e = e

  pub in_brackets : Span → text.Trees → text.Tree
  in_brackets s (text.more e text.none) = bare e
  in_brackets s es = text.Brackets s es

-- a line that stands opened under the name, and one that is applied to it

pub record LineUnder (e : Exp) (i : Span) (is : List Span) (b : Exp) : Type 0 where
  pub means : (bytes : List ℕ)
      → (λ G. under_names (words_of bytes is) (term_of bytes b) (Interval (word bytes i) ∷ G))
      ≡ line_of bytes e
  pub becomes : (bytes : List ℕ) (names : List Named) (p : Span) (c : Shape)
      → Becomes bytes (tree_of b) (bound_in (words_of bytes (i ∷ is)) binding.Interval names) Term c
      → let opened = code.Under p (code.path_lambda p (length is) c) in
      Becomes bytes (tree_of e) names (Line p) opened

pub record LineApplied (e : Exp) : Type 0 where
  pub means : (bytes : List ℕ) → line_of bytes e ≡ applied_to_name (term_of bytes e)
  pub becomes : (bytes : List ℕ) (names : List Named) (p : Span) (c : Shape)
      → Becomes bytes (tree_of e) names Term c
      → Becomes bytes (tree_of e) names (Line p) (code.Applied p c)

abbrev pub ReadsLine : Exp → LineText → Type 0
ReadsLine e (line.Under name others body) = LineUnder e name others.now body.now
ReadsLine e line.Applied = LineApplied e

-- in this state a motive that stands opened under the variable, and one that is applied to it

pub record MotiveUnder (bytes : List ℕ) (s : State) (e : Exp) (v : Span) (vs : List Span)
    (n : Span) (xs : List Tele) (b : Exp) : Type 0 where
  pub means : (G : Scope Word) (H : Scope ℕ) → Agree s G H
      → let body = under lam (binders_of bytes xs) (term_of bytes b) in
      over lam (words_of bytes vs) nat body (Variable (word bytes v) nat ∷ G) ≡ motive_of bytes e G
  pub becomes : (p : Span) (bs : Shapes) (c : Shape)
      → let names = bound_in (words_of bytes (v ∷ vs)) binding.Variable s.names in
      let xs' = tree_list tele_of xs in
      Become bytes (under_tele bytes) xs' names bs
      → Becomes bytes (tree_of b) (after_all (under_tele bytes) xs' bs names) Term c
      → let opened = code.lambda p (numbers (length vs) n) (code.lambda p bs c) in
      Becomes bytes (tree_of e) s.names (Motive p) (code.Under p opened)

pub record MotiveApplied (bytes : List ℕ) (s : State) (e : Exp) : Type 0 where
  pub means : (G : Scope Word) (H : Scope ℕ) → Agree s G H
      → applied_to_variable (term_of bytes e) G ≡ motive_of bytes e G
  pub becomes : (p : Span) (c : Shape) → Becomes bytes (tree_of e) s.names Term c
      → Becomes bytes (tree_of e) s.names (Motive p) (code.Applied p c)

abbrev pub ReadsMotive : List ℕ → State → Exp → MotiveText → Type 0
ReadsMotive bytes s e (motive.Under name others at teles body) =
    MotiveUnder bytes s e name others.now at teles.now body.now
ReadsMotive bytes s e motive.Applied = MotiveApplied bytes s e

-- a written pair, and a term that is none

pub record PairOf (e : Exp) (s : Span) (a : Exp) (bs : List Exp) : Type 0 where
  pub means : (bytes : List ℕ) (at : ℕ)
      → (λ G. term_of bytes a G >>= λ T. tupled (map (term_of bytes) bs) G >>= λ w. done (T, w))
      ≡ pair_of bytes at e
  pub becomes : (bytes : List ℕ) (names : List Named) (p : Span) (T : Shape) (ws : Shapes)
      → Becomes bytes (tree_of a) names Term T
      → Become bytes binding_nothing (tree_list tree_of bs) names ws
      → Becomes bytes (tree_of e) names (Pair p) (code.PairSide p T (tuple s ws))

pub record NoPair (e : Exp) : Type 0 where
  pub means : (bytes : List ℕ) (at : ℕ) → no_pair_of bytes at e ≡ pair_of bytes at e
  pub becomes : (bytes : List ℕ) (names : List Named) (p : Span) (c : Shape)
      → Becomes bytes (tree_of e) names Term c
      → Becomes bytes (tree_of e) names (Pair p) (code.PairSide p c (code.Universe p))

abbrev pub ReadsPair : Exp → PairText → Type 0
ReadsPair e (pair.Pair span ty equivalence) = PairOf e span ty.now equivalence.now
ReadsPair e pair.Term = NoPair e

-- What such a text is resolved from is less deep.

abbrev pub IsLineAbove : Exp → LineText → Type 0
IsLineAbove e (line.Under name others body) = size-Exp body.now < size-Exp e
IsLineAbove e line.Applied = Unit {0}

abbrev pub IsMotiveAbove : Exp → MotiveText → Type 0
IsMotiveAbove e (motive.Under name others at teles body) =
    most size-Tele teles.now < size-Exp e × size-Exp body.now < size-Exp e
IsMotiveAbove e motive.Applied = Unit {0}

abbrev pub IsPairAbove : Exp → PairText → Type 0
IsPairAbove e (pair.Pair span ty equivalence) =
    size-Exp ty.now < size-Exp e × most size-Exp equivalence.now < size-Exp e
IsPairAbove e pair.Term = Unit {0}
