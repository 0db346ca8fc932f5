-- Which rules unfold here.
use Rattle.theory.specs.declared.rule.RuleName.{RuleName}
use Rattle.theory.specs.declared.rule.RuleName.TheVariants.{Composition}
use Rattle.theory.specs.declared.rule.CompRule.TheVariants.{CompPi, CompSig, CompPath, CompZero}
use Rattle.theory.specs.declared.rule.CompRule.TheVariants.{CompSuc}

-- a rule of composition at a type of functions, pairs, paths or numbers
abbrev pub IsOfTypes : RuleName → Type 0
IsOfTypes (Composition CompPi) = Unit {0}
IsOfTypes (Composition CompSig) = Unit {0}
IsOfTypes (Composition CompPath) = Unit {0}
IsOfTypes (Composition CompZero) = Unit {0}
IsOfTypes (Composition CompSuc) = Unit {0}
IsOfTypes _ = ⊥
