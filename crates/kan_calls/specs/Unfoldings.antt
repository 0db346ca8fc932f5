-- What the unfolding of a composition states, made of the table of rules.
use Rattle.std.specs.Prelude.{◌≡◌, List, [], ◌∷◌, ◌++◌, Some}
use Rattle.trees.specs.declared.kind.PartKind.{PartKind}
use Rattle.trees.specs.declared.kind.PartKind.TheVariants as part
use Rattle.trees.specs.Language.{Language, Judged, Rule, Ctx, Tm, TmEq}
use Rattle.trees.specs.Judgements.{Judgement}
use Rattle.trees.specs.Things.{meanings}
use Rattle.theory.specs.declared.rule.RuleName.{RuleName}
use Rattle.theory.specs.RuleNames.{kinds_of}
use Rattle.patterns.specs.Patterns.{patterns}
use Rattle.recipes.specs.Statements.{Claimed, Statement, over_parts, pattern_of}
use Rattle.book.specs.Contents.{Contents}
use Rattle.book.specs.Right.{IsUse}
use Rattle.book.specs.Shown.{book_means, book_concludes}
use Rattle.book.specs.declared.few.RuleUse.{RuleUse}
use Rattle.book.specs.declared.kernel.NodeId.{NodeId}
use Rattle.kan_calls.specs.declared.calls.Derive.{Derive}
use Rattle.kan_calls.specs.declared.calls.Derived.{Derived}
use Rattle.kan_calls.specs.declared.unfolding.Unfolded.{Unfolded}

-- the context of an equation of terms, and the typing of its right side

abbrev pub context_of : {C T S : Type 0} → Judged C T S → List (Judged C T S)
context_of (TmEq G a b A) = Ctx G ∷ []
context_of _ = []

abbrev pub right_side_of : {C T S : Type 0} → Judged C T S → List (Judged C T S)
right_side_of (TmEq G a b A) = Tm G b A ∷ []
right_side_of _ = []

-- Of a rule that concludes an equation of terms: over the context and the premises of the rule, the
-- typing of the right side, and the equation.
abbrev pub unfolded : (L : Language) → Rule L → Claimed L
unfolded L r = record {
  wants = context_of r.gives ++ r.wants;
  sides = r.sides;
  gives = right_side_of r.gives ++ r.gives ∷ [];
}

-- the unfolding by a rule of composition, at the parts of the rule
abbrev pub unfold_statement : RuleName → Statement
unfold_statement name = over_parts (kinds_of name) (unfolded patterns (pattern_of name))

-- a use of a rule, as one of what its unfolding states
abbrev pub use_of : RuleUse → Derive
use_of step = record { parts = step.parts; premises = step.premises }

-- the nodes of an unfolding, in the order of what it states
abbrev pub nodes_of : Unfolded → Derived
nodes_of nodes = record { typing = nodes.typing; equations = nodes.equal.0 ∷ [] }

-- no part is a substitution
abbrev pub HasNoSubst : List PartKind → Type 0
HasNoSubst [] = Unit {0}
HasNoSubst (part.Context ∷ kinds) = HasNoSubst kinds
HasNoSubst (part.Term ∷ kinds) = HasNoSubst kinds
HasNoSubst (part.Subst ∷ kinds) = ⊥

-- over the book the step is a use of its rule that concludes J, and the node concludes the context
-- of J
pub record IsUseIn (b : Contents) (ctx : NodeId) (step : RuleUse) (J : Judgement) : Type 0 where
  pub use_is : IsUse (book_means b) (book_concludes b) step.rule step.parts step.premises J
  pub context_is : meanings (book_concludes b) (ctx.0 ∷ []) ≡ Some (context_of J)
