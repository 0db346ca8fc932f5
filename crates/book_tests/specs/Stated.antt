-- What the derivations state.
use Rattle.std.specs.Prelude.{List, [], ◌∷◌}
use Rattle.trees.specs.declared.kind.PartKind.{PartKind}
use Rattle.trees.specs.declared.kind.PartKind.TheVariants.{Context, Subst}
use Rattle.trees.specs.Trees.{Tree}
use Rattle.trees.specs.Judgements.{Judgement, trees}
use Rattle.trees.specs.Things.{Thing, AContext, ASubst}
use Rattle.trees.specs.Language.{Language, JudgementOf, Ty, Tm, Sb}
use Rattle.patterns.specs.Patterns.{patterns}
use Rattle.rules.specs.Table.{nat, zero, suc, pi, lam, app}
use Rattle.recipes.specs.Statements.{Claimed, Stated, Statement, stated}
use Rattle.recipe_runner.specs.Running.{nothing}

module _ (L : Language) where
  abbrev given : List (JudgementOf L) → Claimed L
  given gives = record { wants = []; sides = []; gives = gives }

  abbrev two : Claimed L
  two = given (Ty L.nil (nat L) ∷ Tm L.nil (suc L (suc L (zero L))) (nat L) ∷ [])

  abbrev successor : Claimed L
  successor =
      let function = lam L (nat L) (suc L (L.var 0)) in
      let of_numbers = pi L (nat L) (nat L) in
      given (Tm L.nil function of_numbers ∷ Tm L.nil (app L function (zero L)) (nat L) ∷ [])

  -- a number, and a substitution that takes it to zero

  abbrev pub number : L.context
  number = L.with_var L.nil (nat L)

  abbrev pub to_zero : L.subst
  to_zero = L.push (L.shift_by 1) (zero L)

  abbrev zeros : JudgementOf L
  zeros = Sb number to_zero number

  -- a substitution of a context is done twice
  abbrev twice : Stated L (Context ∷ Subst ∷ [])
  twice = λ G d. record {
    wants = Sb G d G ∷ [];
    sides = [];
    gives = Sb G (L.then d d) G ∷ [];
  }

  -- a function of numbers, and a number after it

  abbrev pub of_variables : L.context
  of_variables = L.with_var (L.with_var L.nil (pi L (nat L) (nat L))) (nat L)

  abbrev function_variable : JudgementOf L
  function_variable = Tm of_variables (L.var 1) (pi L (nat L) (nat L))

  abbrev a_number : L.tree → JudgementOf L
  a_number t = Tm of_variables t (nat L)

abbrev none : List PartKind
none = []

-- no recipe is earlier
abbrev pub earlier : List Statement
earlier = nothing ∷ []

abbrev pub two_statement : Statement
two_statement = stated none (two patterns)

abbrev pub successor_statement : Statement
successor_statement = stated none (successor patterns)

abbrev pub constant_statement : Statement
constant_statement = stated none (given patterns (zeros patterns ∷ []))

abbrev pub twice_statement : Statement
twice_statement = stated (Context ∷ Subst ∷ []) (twice patterns)

-- a number is taken to zero
abbrev pub zeroing : Judgement
zeroing = zeros trees

-- the parts at which that is done twice
abbrev pub zeroing_parts : List Thing
zeroing_parts = AContext (number trees) ∷ ASubst (to_zero trees) ∷ []

abbrev pub variables_statement : Statement
variables_statement =
    let function = function_variable patterns in
    stated none (given patterns (function ∷ a_number patterns (patterns.var 0) ∷ []))

abbrev pub function_said : Judgement
function_said = function_variable trees

abbrev pub number_said : Tree → Judgement
number_said = a_number trees
