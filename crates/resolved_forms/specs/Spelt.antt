-- What the parts of a text mean, and codes, as values of the program.
--
-- These words are closed, so that a goal shows their names: a text that is not known, and a code,
-- would else stand there with all that each of their forms means.
use Rattle.std.specs.Prelude.{ℕ, List, map, Bool}
use Rattle.layout_lexer.specs.declared.token.Span.{Span}
use Rattle.syntax.specs.declared.exp.Exp.{Exp}
use Rattle.syntax.specs.declared.exp.Element.{Element, Argument as Argument', At as At'}
use Rattle.syntax.specs.declared.exp.Tele.{Tele}
use Rattle.syntax.specs.declared.exp.Side.{Side}
use Rattle.syntax.specs.declared.exp.Def.{Def, out-Def}
use Rattle.syntax.specs.View.{tree_of, formula_of, def_of, tree_list, tele_items, def_items}
use Rattle.trees.specs.Trees.{Tree}
use Rattle.translation.specs.declared.fault.Cause.TheVariants.{GlueSide}
use Rattle.translation.specs.Terms.{universe}
use Rattle.translation.specs.Scopes.{Scope}
use Rattle.translation.specs.Systems.{On}
use Rattle.translation.specs.Translated.{refused, ◌>>=◌}
use Rattle.translation.specs.Names.{Word}
use Rattle.translation.specs.Forms.{Means, Binder, Element as ElementOf, Argument, At}
use Rattle.translation.specs.Forms.{Side as SideOf, all, application, apply_all, defined, system}
use Rattle.translation.specs.Texts.{Reading, Written, Given, Argument as GivenArgument}
use Rattle.translation.specs.Texts.{At as GivenAt, reading, word, formula, equations, span_of}
use Rattle.translation.specs.Texts.{defs, block, headed, stands_for, term_at}
use Rattle.codes.specs.declared.code.Code.{Code}
use Rattle.codes.specs.declared.code.CodeDef.{CodeDef, out-CodeDef}
use Rattle.codes.specs.declared.code.Opened.{Opened}
use Rattle.codes.specs.declared.code.Binder.{Binder as CodeBinder}
use Rattle.codes.specs.declared.code.Element.{Element as CodeElement}
use Rattle.codes.specs.declared.code.Side.{Side as CodeSide}
use Rattle.codes.specs.declared.code.LineSide.{LineSide}
use Rattle.codes.specs.declared.code.PairSide.{PairSide}
use Rattle.codes.specs.Codes.{meaning, at_name, at_variable, binder, element, term_side, line_side}
use Rattle.codes.specs.Codes.{pair_side, both, definition, definitions}
use Rattle.scopes.specs.Steps.{State, Resolves}

-- codes

unfoldable pub code_term : Code → Means ℕ Tree
code_term = meaning

unfoldable pub code_terms : List Code → Means ℕ (List Tree)
code_terms cs = all (map meaning cs)

unfoldable pub code_line : Opened → Means ℕ Tree
code_line = at_name

unfoldable pub code_motive : Opened → Means ℕ Tree
code_motive = at_variable

unfoldable pub code_pair : Code → Code → Means ℕ (Tree × Tree)
code_pair T w = both (meaning T) (meaning w)

unfoldable pub code_binders : List CodeBinder → List (Binder ℕ)
code_binders = map binder

unfoldable pub code_element : CodeElement → ElementOf ℕ
code_element = element

unfoldable pub code_elements : List CodeElement → List (ElementOf ℕ)
code_elements = map element

unfoldable pub code_term_sides : List CodeSide → Means ℕ (List (On Tree))
code_term_sides ss = system (map term_side ss)

unfoldable pub code_line_sides : List LineSide → Means ℕ (List (On Tree))
code_line_sides ss = system (map line_side ss)

unfoldable pub code_pair_sides : List PairSide → Means ℕ (List (On (Tree × Tree)))
code_pair_sides ss = system (map pair_side ss)

unfoldable pub code_def : CodeDef → Means ℕ (Scope ℕ)
code_def = definition

unfoldable pub code_block : List CodeDef → Means ℕ (Scope ℕ)
code_block = definitions

abbrev pub number_of : CodeDef → ℕ
number_of c = (out-CodeDef c).number

-- the names of definitions, in order

abbrev pub code_names : List CodeDef → List Span
code_names = map (λ c. (out-CodeDef c).name)

abbrev pub def_names : List Def → List Span
def_names = map (λ d. (out-Def d).name)

-- What heads are applied to, in a text and in a code.
pub record Applies (old new : State) (spelt : List (ElementOf Word)) (code : List (ElementOf ℕ))
    : Type 0 where
  pub applies : (t : Tree) → Resolves old new (apply_all t spelt) (apply_all t code)

-- the place of an expression, with its brackets
abbrev pub place_of : Exp → ℕ
place_of e = (span_of (tree_of e)).start

-- texts
module _ (bytes : List ℕ) where
  unfoldable pub read : Exp → Reading
  read e = reading bytes (tree_of e)

  unfoldable pub is_nat_of : Exp → Scope Word → Bool
  is_nat_of e = (read e).is_nat

  unfoldable pub term_of : Exp → Means Word Tree
  term_of e = (read e).term

  unfoldable pub terms_of : List Exp → Means Word (List Tree)
  terms_of es = all (map term_of es)

  unfoldable pub line_of : Exp → Means Word Tree
  line_of e = (read e).line

  unfoldable pub motive_of : Exp → Means Word Tree
  motive_of e = (read e).motive

  unfoldable pub pair_of : ℕ → Exp → Means Word (Tree × Tree)
  pair_of at e = (read e).pair at

  -- a text at the place that is no written pair
  unfoldable pub no_pair_of : ℕ → Exp → Means Word (Tree × Tree)
  no_pair_of at e G = do
    t ← term_of e G
    refused at GlueSide (t, universe)

  abbrev pub words_of : List Span → List Word
  words_of = map (word bytes)

  -- `(names : type)`
  abbrev pub binder_of : Tele → Binder Word
  binder_of x = record { names = words_of x.names; type = term_of x.ty }

  unfoldable pub binders_of : List Tele → List (Binder Word)
  binders_of = map binder_of

  -- what a head is applied to

  unfoldable pub element_of : Element → ElementOf Word
  element_of (Argument' e) = Argument (term_of e)
  element_of (At' s f) = At (formula bytes (formula_of f))

  unfoldable pub elements_of : List Element → List (ElementOf Word)
  elements_of = map element_of

  unfoldable pub given_of : Element → Given
  given_of (Argument' e) = GivenArgument (read e)
  given_of (At' s f) = GivenAt (formula bytes (formula_of f))

  -- a name that is applied, where built-in names take arguments of their own
  unfoldable pub named_of : Span → List Element → Means Word Tree
  named_of n es G = headed n.start (stands_for bytes G n) (map given_of es) G

  -- and where they take none
  unfoldable pub plain_of : Span → List Element → Means Word Tree
  plain_of n es = application (term_at bytes n) (elements_of es)

  -- the sides of a system, where `means` is what stands on them
  abbrev pub side_of : {A : Type 0} → (Exp → Means Word A) → Side → SideOf Word A
  side_of means s = record { equations = equations bytes s.equations; value = means s.body }

  unfoldable pub term_sides_of : List Side → Means Word (List (On Tree))
  term_sides_of ss = system (map (side_of term_of) ss)

  unfoldable pub line_sides_of : List Side → Means Word (List (On Tree))
  line_sides_of ss = system (map (side_of line_of) ss)

  unfoldable pub pair_sides_of : List Side → Means Word (List (On (Tree × Tree)))
  pair_sides_of ss = system (map (side_of (λ e. pair_of (place_of e) e)) ss)

  -- definitions

  unfoldable pub written_in : List Def → List Written
  written_in ds = defs bytes (tree_list def_of ds)

  unfoldable pub block_of : List Def → Means Word (Scope Word)
  block_of ds = block bytes (written_in ds)

  -- the type and the body of a definition
  unfoldable pub means_of : Def → Means Word (Tree × Tree)
  means_of d =
      let given = out-Def d in
      defined (binders_of (tele_items given.teles)) (term_of given.ty)
      (block_of (def_items given.locals)) (term_of given.body)

  abbrev pub written_of : Def → Written
  written_of d = record { name = (out-Def d).name; means = means_of d }
