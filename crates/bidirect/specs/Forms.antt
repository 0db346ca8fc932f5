-- Forms of codes.
use Rattle.std.specs.Prelude.{Bool, true, false}
use Rattle.codes.specs.declared.code.Code.{Code, Bound, Defined, Let', Universe, Nat, Zero, Suc'}
use Rattle.codes.specs.declared.code.Code.{NatRec', Pi', Sigma', Lambda', PathLambda', Apply'}
use Rattle.codes.specs.declared.code.Code.{Project', Tuple', PathP', Comp', Transport'}

-- a form that is inferred of its parts, or not at all
abbrev pub AsksNothing : Code → Type 0
AsksNothing (Bound s k) = ⊥
AsksNothing (Defined s n) = ⊥
AsksNothing (Nat s) = ⊥
AsksNothing (Zero s) = ⊥
AsksNothing c = Unit {0}

-- definitions before a type, or a type of functions, pairs or paths
abbrev pub former_form : Code → Bool
former_form (Let' s shape ds p c) = true
former_form (Pi' s shape bs p c) = true
former_form (Sigma' s shape bs p c) = true
former_form (PathP' s p l q a r b) = true
former_form c = false

abbrev pub universe_form : Code → Bool
universe_form (Universe s) = true
universe_form c = false

-- a form that is checked by its parts
abbrev pub checked_form : Code → Bool
checked_form (Let' s shape ds p c) = true
checked_form (Lambda' s shape bs p c) = true
checked_form (PathLambda' s n p c) = true
checked_form (Tuple' s shape cs) = true
checked_form c = false

-- definitions before a code, a type that binds, or a function
abbrev pub binding_form : Code → Bool
binding_form (Let' s shape ds p c) = true
binding_form (Pi' s shape bs p c) = true
binding_form (Sigma' s shape bs p c) = true
binding_form (Lambda' s shape bs p c) = true
binding_form c = false

-- a form of heads or numbers
abbrev pub compound_form : Code → Bool
compound_form (Suc' s p c) = true
compound_form (NatRec' s p m q a r b t n) = true
compound_form (Apply' s p c shape es) = true
compound_form (Project' s p c ps) = true
compound_form c = false

-- a form over a line, which may be inferred
abbrev pub lined_form : Code → Bool
lined_form (PathP' s p l q a r b) = true
lined_form (Comp' s p l q a shape ss) = true
lined_form (Transport' s p l q a) = true
lined_form c = false
