-- The operators that the examples of this crate are made of, over patterns.
use Rattle.std.specs.Prelude.{[], ◌∷◌}
use Rattle.trees.specs.declared.op.Op.TheVariants as O
use Rattle.substitution.specs.Forms.{weaken}
use Rattle.patterns.specs.Patterns.{Pattern, Index, Build, Under, ShiftBy, Pushed, patterns}
use Rattle.patterns.specs.Patterns.{patterns_of}

abbrev pub i0 : Pattern
i0 = Build O.I0 (patterns_of [])

abbrev pub i1 : Pattern
i1 = Build O.I1 (patterns_of [])

abbrev pub min : Pattern → Pattern → Pattern
min r s = Build O.Min (patterns_of (r ∷ s ∷ []))

abbrev pub univ : Pattern
univ = Build O.U (patterns_of [])

abbrev pub pi : Pattern → Pattern → Pattern
pi A B = Build O.Pi (patterns_of (A ∷ B ∷ []))

abbrev pub lam : Pattern → Pattern → Pattern
lam A b = Build O.Lam (patterns_of (A ∷ b ∷ []))

-- the line `j. A{min r j}` of filling, over j
abbrev pub fill_line : Pattern → Pattern → Pattern
fill_line A r = Under A (Pushed (ShiftBy 1) (min (weaken patterns r) (Index 0)))
