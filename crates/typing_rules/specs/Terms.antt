-- How terms are formed, in every language: eliminations of terms whose types stand under a
-- substitution.
use Rattle.std.specs.Prelude.{List, [], ◌∷◌}
use Rattle.trees.specs.declared.kind.PartKind.{PartKind}
use Rattle.trees.specs.declared.kind.PartKind.TheVariants.{Context, Subst, Term}
use Rattle.trees.specs.Language.{Language, Ctx, IsFormula, Sb, Tm, Ty}
use Rattle.patterns.specs.Patterns.{patterns}
use Rattle.rules.specs.Table.{app, at, comp, empty, f0, fst, i0, i1, id, lam, nat, natrec, pair}
use Rattle.rules.specs.Table.{papp, pathp, pi, plam, sig, snd, suc, zero}
use Rattle.recipes.specs.Statements.{Stated, Statement, stated}

-- Zero is a number.
abbrev zero_term_kinds : List PartKind
zero_term_kinds = Context ∷ []

abbrev pub zero_term : (L : Language) → Stated L zero_term_kinds
zero_term L = λ H. record {
  wants = Ctx H ∷ [];
  sides = [];
  gives = Tm H (zero L) (nat L) ∷ [];
}

abbrev pub zero_term_statement : Statement
zero_term_statement = stated zero_term_kinds (zero_term patterns)

-- The successor of a number is one.
abbrev successor_term_kinds : List PartKind
successor_term_kinds = Context ∷ Term ∷ []

abbrev pub successor_term : (L : Language) → Stated L successor_term_kinds
successor_term L = λ H n. record {
  wants = Tm H n (nat L) ∷ [];
  sides = [];
  gives = Tm H (suc L n) (nat L) ∷ [];
}

abbrev pub successor_term_statement : Statement
successor_term_statement = stated successor_term_kinds (successor_term patterns)

-- A function of a variable.
abbrev function_kinds : List PartKind
function_kinds = Context ∷ Term ∷ Term ∷ Term ∷ []

abbrev pub function : (L : Language) → Stated L function_kinds
function L = λ H A b B. record {
  wants = Ty H A ∷ Tm (L.with_var H A) b B ∷ [];
  sides = [];
  gives = Tm H (lam L A b) (pi L A B) ∷ [];
}

abbrev pub function_statement : Statement
function_statement = stated function_kinds (function patterns)

-- A function under a substitution, applied, and the substitution that takes its codomain there.
abbrev applied_kinds : List PartKind
applied_kinds = Context ∷ Subst ∷ Context ∷ Term ∷ Term ∷ Term ∷ Term ∷ []

abbrev pub applied : (L : Language) → Stated L applied_kinds
applied L = λ H d G A B f a. record {
  wants =
      Sb H d G
      ∷ Ty G A
      ∷ Ty (L.with_var G A) B
      ∷ Tm H f (L.apply (pi L A B) d)
      ∷ Tm H a (L.apply A d)
      ∷ [];
  sides = [];
  gives = Tm H (app L f a) (L.apply B (L.push d a)) ∷ Sb H (L.push d a) (L.with_var G A) ∷ [];
}

abbrev pub applied_statement : Statement
applied_statement = stated applied_kinds (applied patterns)

-- A pair under a substitution.
abbrev pair_term_kinds : List PartKind
pair_term_kinds = Context ∷ Subst ∷ Context ∷ Term ∷ Term ∷ Term ∷ Term ∷ []

abbrev pub pair_term : (L : Language) → Stated L pair_term_kinds
pair_term L = λ H d G A B a b. record {
  wants =
      Sb H d G
      ∷ Ty G A
      ∷ Ty (L.with_var G A) B
      ∷ Tm H a (L.apply A d)
      ∷ Tm H b (L.apply B (L.push d a))
      ∷ [];
  sides = [];
  gives = Tm H (pair L a b) (L.apply (sig L A B) d) ∷ [];
}

abbrev pub pair_term_statement : Statement
pair_term_statement = stated pair_term_kinds (pair_term patterns)

-- The first component of a pair under a substitution.
abbrev first_kinds : List PartKind
first_kinds = Context ∷ Subst ∷ Context ∷ Term ∷ Term ∷ Term ∷ []

abbrev pub first : (L : Language) → Stated L first_kinds
first L = λ H d G A B c. record {
  wants = Sb H d G ∷ Ty G A ∷ Ty (L.with_var G A) B ∷ Tm H c (L.apply (sig L A B) d) ∷ [];
  sides = [];
  gives = Tm H (fst L c) (L.apply A d) ∷ [];
}

abbrev pub first_statement : Statement
first_statement = stated first_kinds (first patterns)

-- The second component of a pair under a substitution, and the one that takes its type there.
abbrev second_kinds : List PartKind
second_kinds = Context ∷ Subst ∷ Context ∷ Term ∷ Term ∷ Term ∷ []

abbrev pub second : (L : Language) → Stated L second_kinds
second L = λ H d G A B c. record {
  wants = Sb H d G ∷ Ty G A ∷ Ty (L.with_var G A) B ∷ Tm H c (L.apply (sig L A B) d) ∷ [];
  sides = [];
  gives =
      Tm H (snd L c) (L.apply B (L.push d (fst L c)))
      ∷ Sb H (L.push d (fst L c)) (L.with_var G A)
      ∷ [];
}

abbrev pub second_statement : Statement
second_statement = stated second_kinds (second patterns)

-- A path, between the ends of what it is over its name.
abbrev path_term_kinds : List PartKind
path_term_kinds = Context ∷ Term ∷ Term ∷ []

abbrev pub path_term : (L : Language) → Stated L path_term_kinds
path_term L = λ H A b. record {
  wants = Ctx H ∷ Tm (L.with_name H) b A ∷ [];
  sides = [];
  gives = Tm H (plam L b) (pathp L A (at L b (i0 L)) (at L b (i1 L))) ∷ [];
}

abbrev pub path_term_statement : Statement
path_term_statement = stated path_term_kinds (path_term patterns)

-- A path under a substitution, at a formula, and the substitution that takes its line to the
-- type.
abbrev path_applied_kinds : List PartKind
path_applied_kinds = Term ∷ Context ∷ Subst ∷ Context ∷ Term ∷ Term ∷ Term ∷ Term ∷ []

abbrev pub path_applied : (L : Language) → Stated L path_applied_kinds
path_applied L = λ r H d G A u v c. record {
  wants =
      Sb H d G
      ∷ Ty (L.with_name G) A
      ∷ Tm G u (at L A (i0 L))
      ∷ Tm G v (at L A (i1 L))
      ∷ Tm H c (L.apply (pathp L A u v) d)
      ∷ [];
  sides = IsFormula H r ∷ [];
  gives = Tm H (papp L c r) (L.apply A (L.push d r)) ∷ Sb H (L.push d r) (L.with_name G) ∷ [];
}

abbrev pub path_applied_statement : Statement
path_applied_statement = stated path_applied_kinds (path_applied patterns)

-- A recursion, and the substitution that takes its motive to the type.
abbrev recursion_kinds : List PartKind
recursion_kinds = Context ∷ Term ∷ Term ∷ Term ∷ Term ∷ []

abbrev pub recursion : (L : Language) → Stated L recursion_kinds
recursion L = λ H P a b n. record {
  wants =
      Ctx H
      ∷ Ty (L.with_var H (nat L)) P
      ∷ Tm H a (at L P (zero L))
      ∷ Tm H b (pi L (nat L) (pi L P (L.apply P (L.push (L.shift_by 2) (suc L (L.var 1))))))
      ∷ Tm H n (nat L)
      ∷ [];
  sides = [];
  gives = Tm H (natrec L P a b n) (at L P n) ∷ Sb H (L.push (id L) n) (L.with_var H (nat L)) ∷ [];
}

abbrev pub recursion_statement : Statement
recursion_statement = stated recursion_kinds (recursion patterns)

-- A composition without sides, and the substitution that takes its line to the type.
abbrev transported_kinds : List PartKind
transported_kinds = Context ∷ Term ∷ Term ∷ []

abbrev pub transported : (L : Language) → Stated L transported_kinds
transported L = λ H A a. record {
  wants = Ctx H ∷ Ty (L.with_name H) A ∷ Tm H a (at L A (i0 L)) ∷ [];
  sides = [];
  gives =
      Tm H (comp L A (f0 L) (empty L) a) (at L A (i1 L))
      ∷ Sb H (L.push (id L) (i1 L)) (L.with_name H)
      ∷ [];
}

abbrev pub transported_statement : Statement
transported_statement = stated transported_kinds (transported patterns)
