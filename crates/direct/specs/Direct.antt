-- Direct codes: those that are typed by plain recursion, where types and ends are compared as trees
-- alone.
use Rattle.std.specs.Prelude.{◌≡◌, ◌+◌, ℕ, List, [], ◌∷◌, Option, None, Some, IsSome}
use Rattle.std.specs.Option.{option_map}
use Rattle.codes.specs.declared.code.Code.{Code, Bound, Defined, Let', Universe, Nat, Zero, Suc'}
use Rattle.codes.specs.declared.code.Code.{NatRec', Pi', Sigma', Lambda', PathLambda', Apply'}
use Rattle.codes.specs.declared.code.Code.{Project', Tuple', PathP', Comp', Fill', Transport'}
use Rattle.codes.specs.declared.code.Code.{GlueType', GlueTerm', Unglue'}
use Rattle.codes.specs.declared.code.Code.{Row_of-Code, end_of-Code, more_of-Code}
use Rattle.codes.specs.declared.code.Code.{Row_of-CodeDef, end_of-CodeDef, more_of-CodeDef}
use Rattle.codes.specs.declared.code.Code.{Row_of-Binder, end_of-Binder, more_of-Binder}
use Rattle.codes.specs.declared.code.Code.{Row_of-Element, end_of-Element, more_of-Element}
use Rattle.codes.specs.declared.code.Element.{Argument as Argument', At as At'}
use Rattle.codes.specs.declared.code.Opened.{Opened, Under, Applied}
use Rattle.codes.specs.declared.code.CodeDef.{CodeDef, CodeDef'}
use Rattle.codes.specs.Codes.{meaning, at_name, at_variable, line_sides, binders, formula}
use Rattle.translation.specs.Terms.{nat, universe}
use Rattle.translation.specs.Translated.{done}
use Rattle.translation.specs.Forms.{defined}
use Rattle.direct.specs.Known.{Known, Variable, Interval, type_of_variable, declared_type}
use Rattle.direct.specs.Typings.{Typing, OpenedTyping, BinderTyping, ElementTyping, Argument, At}
use Rattle.direct.specs.Typings.{BlockTyping, inferred, undirected, universe_typing, where_checked}
use Rattle.direct.specs.Typings.{family_typing, lambda_typing, names_typing, tuple_typing}
use Rattle.direct.specs.Typings.{application_typing, projection_typing, under_entry}
use Rattle.direct.specs.Typings.{applied_to_name, applied_to_number, recursion_typing}
use Rattle.direct.specs.Typings.{path_type_typing, transport_typing, composition_typing}
use Rattle.direct.specs.Typings.{definition_typing, and_then, let_typing}

-- the definition, where it is none after which more is known
abbrev pub other_at : CodeDef → Option Known → (Known → Option CodeDef) → Option CodeDef
other_at d None rest = Some d
other_at d (Some G) rest = rest G

abbrev mutual
  pub typing : Code → Typing
  typing (Bound s k) = inferred (meaning (Bound s k)) (λ G. type_of_variable G k)
  typing (Defined s n) = inferred (meaning (Defined s n)) (λ G. declared_type G n)
  typing (Let' s shape ds p c) =
      let_typing (meaning (Let' s shape ds p c)) (blocks ds) (typing c)
  typing (Universe s) = universe_typing (meaning (Universe s))
  typing (Nat s) = inferred (meaning (Nat s)) (λ G. Some universe)
  typing (Zero s) = inferred (meaning (Zero s)) (λ G. Some nat)
  typing (Suc' s p c) = where_checked (meaning (Suc' s p c)) (typing c) nat nat
  typing (NatRec' s p m q a r b t n) =
      recursion_typing (meaning (NatRec' s p m q a r b t n))
      (motive m) (typing a) (typing b) (typing n)
  typing (Pi' s shape bs p c) =
      family_typing (meaning (Pi' s shape bs p c)) (binder_typings bs) (typing c)
  typing (Sigma' s shape bs p c) =
      family_typing (meaning (Sigma' s shape bs p c)) (binder_typings bs) (typing c)
  typing (Lambda' s shape bs p c) =
      lambda_typing (meaning (Lambda' s shape bs p c)) (binder_typings bs) (typing c)
  typing (PathLambda' s n p c) = names_typing (meaning (PathLambda' s n p c)) n (typing c)
  typing (Apply' s p c shape es) =
      application_typing (meaning (Apply' s p c shape es)) (typing c) (element_typings es)
  typing (Project' s p c ps) = projection_typing (meaning (Project' s p c ps)) (typing c) ps
  typing (Tuple' s shape cs) = tuple_typing (meaning (Tuple' s shape cs)) (typings cs)
  typing (PathP' s p l q a r b) =
      path_type_typing (meaning (PathP' s p l q a r b)) (line l) (typing a) (typing b)
  typing (Comp' s p l q a shape ss) =
      composition_typing (meaning (Comp' s p l q a shape ss)) (line l) (typing a) (line_sides ss)
  typing (Transport' s p l q a) =
      transport_typing (meaning (Transport' s p l q a)) (line l) (typing a)
  typing (Fill' s p l q a shape ss) = undirected (meaning (Fill' s p l q a shape ss))
  typing (GlueType' s p a shape ss) = undirected (meaning (GlueType' s p a shape ss))
  typing (GlueTerm' s p a shape ss) = undirected (meaning (GlueTerm' s p a shape ss))
  typing (Unglue' s p a shape ss) = undirected (meaning (Unglue' s p a shape ss))

  pub line : Opened → OpenedTyping
  line (Under s c) = under_entry Interval (at_name (Under s c)) (typing c)
  line (Applied s c) = applied_to_name (at_name (Applied s c)) (typing c)

  pub motive : Opened → OpenedTyping
  motive (Under s c) = under_entry (Variable nat) (at_variable (Under s c)) (typing c)
  motive (Applied s c) = applied_to_number (at_variable (Applied s c)) (typing c)

  pub typings : {m : _} → Row_of-Code m → List Typing
  typings end_of-Code = []
  typings (more_of-Code c rest) = typing c ∷ typings rest

  pub binder_typings : {m : _} → Row_of-Binder m → List BinderTyping
  binder_typings end_of-Binder = []
  binder_typings (more_of-Binder n c rest) =
      record { count = n; type = typing c } ∷ binder_typings rest

  pub element_typings : {m : _} → Row_of-Element m → List ElementTyping
  element_typings end_of-Element = []
  element_typings (more_of-Element (Argument' c) rest) = Argument (typing c) ∷ element_typings rest
  element_typings (more_of-Element (At' s f) rest) = At (formula f) ∷ element_typings rest

  pub def_typing : CodeDef → BlockTyping
  def_typing (CodeDef' x n shape bs t c) =
      definition_typing n (binder_typings bs) (typing t) (typing c)
      (defined (binders bs) (meaning t) done (meaning c))

  pub blocks : {m : _} → Row_of-CodeDef m → BlockTyping
  blocks end_of-CodeDef = λ G. Some G
  blocks (more_of-CodeDef d rest) = and_then (def_typing d) (blocks rest)

-- the definition is direct after these
abbrev pub IsDirect : CodeDef → Known → Type 0
IsDirect d G = IsSome (def_typing d G)

-- the first definition that is not direct after those before it
abbrev pub first_other : List CodeDef → Known → Option CodeDef
first_other [] G = None
first_other (d ∷ ds) G = other_at d (def_typing d G) (first_other ds)

-- the place of the first definition that is not direct after those before it
abbrev pub place_after : (Known → Option ℕ) → Option Known → Option ℕ
place_after others None = Some 0
place_after others (Some G) = option_map (λ k. k + 1) (others G)

abbrev pub other_place : List CodeDef → Known → Option ℕ
other_place [] G = None
other_place (d ∷ ds) G = place_after (other_place ds) (def_typing d G)

-- all are direct
abbrev pub AreDirect : List CodeDef → Type 0
AreDirect ds = first_other ds [] ≡ None
