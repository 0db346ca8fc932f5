-- What is known of contexts and substitutions, and instances of types and terms, in every
-- language.
use Rattle.std.specs.Prelude.{List, [], ◌∷◌}
use Rattle.trees.specs.declared.kind.PartKind.{PartKind}
use Rattle.trees.specs.declared.kind.PartKind.TheVariants.{Context, Subst, Term}
use Rattle.trees.specs.Language.{Language, Ctx, Sb, Tm, Ty}
use Rattle.patterns.specs.Patterns.{patterns}
use Rattle.rules.specs.Table.{i0, i1, id, nat, up, weakened, zero}
use Rattle.recipes.specs.Statements.{Stated, Statement, stated}

-- The empty context.
abbrev no_entries_kinds : List PartKind
no_entries_kinds = []

abbrev pub no_entries : (L : Language) → Stated L no_entries_kinds
no_entries L = record {
  wants = [];
  sides = [];
  gives = Ctx L.nil ∷ [];
}

abbrev pub no_entries_statement : Statement
no_entries_statement = stated no_entries_kinds (no_entries patterns)

-- A context with one more variable.
abbrev with_entry_kinds : List PartKind
with_entry_kinds = Context ∷ Term ∷ []

abbrev pub with_entry : (L : Language) → Stated L with_entry_kinds
with_entry L = λ H A. record {
  wants = Ty H A ∷ [];
  sides = [];
  gives = Ctx (L.with_var H A) ∷ [];
}

abbrev pub with_entry_statement : Statement
with_entry_statement = stated with_entry_kinds (with_entry patterns)

-- A context with one more name.
abbrev with_name_kinds : List PartKind
with_name_kinds = Context ∷ []

abbrev pub with_name : (L : Language) → Stated L with_name_kinds
with_name L = λ H. record {
  wants = Ctx H ∷ [];
  sides = [];
  gives = Ctx (L.with_name H) ∷ [];
}

abbrev pub with_name_statement : Statement
with_name_statement = stated with_name_kinds (with_name patterns)

-- The substitution that does nothing.
abbrev nothing_done_kinds : List PartKind
nothing_done_kinds = Context ∷ []

abbrev pub nothing_done : (L : Language) → Stated L nothing_done_kinds
nothing_done L = λ H. record {
  wants = Ctx H ∷ [];
  sides = [];
  gives = Sb H (id L) H ∷ [];
}

abbrev pub nothing_done_statement : Statement
nothing_done_statement = stated nothing_done_kinds (nothing_done patterns)

-- A substitution from past one more variable.
abbrev past_variable_kinds : List PartKind
past_variable_kinds = Context ∷ Subst ∷ Context ∷ Term ∷ []

abbrev pub past_variable : (L : Language) → Stated L past_variable_kinds
past_variable L = λ H d G A. record {
  wants = Sb H d G ∷ Ty H A ∷ [];
  sides = [];
  gives = Sb (L.with_var H A) (L.then d (up L)) G ∷ [];
}

abbrev pub past_variable_statement : Statement
past_variable_statement = stated past_variable_kinds (past_variable patterns)

-- A substitution from past one more name.
abbrev past_name_kinds : List PartKind
past_name_kinds = Context ∷ Subst ∷ Context ∷ []

abbrev pub past_name : (L : Language) → Stated L past_name_kinds
past_name L = λ H d G. record {
  wants = Sb H d G ∷ [];
  sides = [];
  gives = Sb (L.with_name H) (L.then d (up L)) G ∷ [];
}

abbrev pub past_name_statement : Statement
past_name_statement = stated past_name_kinds (past_name patterns)

-- A substitution under a variable.
abbrev under_variable_kinds : List PartKind
under_variable_kinds = Context ∷ Subst ∷ Context ∷ Term ∷ []

abbrev pub under_variable : (L : Language) → Stated L under_variable_kinds
under_variable L = λ H d G A. record {
  wants = Sb H d G ∷ Ty G A ∷ [];
  sides = [];
  gives =
      Sb (L.with_var H (L.apply A d)) (L.push (L.then d (up L)) (L.var 0)) (L.with_var G A)
      ∷ [];
}

abbrev pub under_variable_statement : Statement
under_variable_statement = stated under_variable_kinds (under_variable patterns)

-- A substitution under a name.
abbrev under_name_kinds : List PartKind
under_name_kinds = Context ∷ Subst ∷ Context ∷ []

abbrev pub under_name : (L : Language) → Stated L under_name_kinds
under_name L = λ H d G. record {
  wants = Sb H d G ∷ [];
  sides = [];
  gives = Sb (L.with_name H) (L.push (L.then d (up L)) (L.var 0)) (L.with_name G) ∷ [];
}

abbrev pub under_name_statement : Statement
under_name_statement = stated under_name_kinds (under_name patterns)

-- One substitution after another.
abbrev composed_kinds : List PartKind
composed_kinds = Context ∷ Subst ∷ Context ∷ Subst ∷ Context ∷ []

abbrev pub composed : (L : Language) → Stated L composed_kinds
composed L = λ K e H d G. record {
  wants = Sb K e H ∷ Sb H d G ∷ [];
  sides = [];
  gives = Sb K (L.then d e) G ∷ [];
}

abbrev pub composed_statement : Statement
composed_statement = stated composed_kinds (composed patterns)

-- A substitution with one more term.
abbrev pushed_kinds : List PartKind
pushed_kinds = Context ∷ Subst ∷ Context ∷ Term ∷ Term ∷ []

abbrev pub pushed : (L : Language) → Stated L pushed_kinds
pushed L = λ H d G A a. record {
  wants = Sb H d G ∷ Ty G A ∷ Tm H a (L.apply A d) ∷ [];
  sides = [];
  gives = Sb H (L.push d a) (L.with_var G A) ∷ [];
}

abbrev pub pushed_statement : Statement
pushed_statement = stated pushed_kinds (pushed patterns)

-- The substitutions that take a line to its ends.
abbrev line_ends_kinds : List PartKind
line_ends_kinds = Context ∷ []

abbrev pub line_ends : (L : Language) → Stated L line_ends_kinds
line_ends L = λ H. record {
  wants = Ctx H ∷ [];
  sides = [];
  gives =
      Sb H (L.push (id L) (i0 L)) (L.with_name H)
      ∷ Sb H (L.push (id L) (i1 L)) (L.with_name H)
      ∷ [];
}

abbrev pub line_ends_statement : Statement
line_ends_statement = stated line_ends_kinds (line_ends patterns)

-- The substitution that takes a motive to zero.
abbrev motive_start_kinds : List PartKind
motive_start_kinds = Context ∷ []

abbrev pub motive_start : (L : Language) → Stated L motive_start_kinds
motive_start L = λ H. record {
  wants = Ctx H ∷ [];
  sides = [];
  gives = Sb H (L.push (id L) (zero L)) (L.with_var H (nat L)) ∷ [];
}

abbrev pub motive_start_statement : Statement
motive_start_statement = stated motive_start_kinds (motive_start patterns)

-- A type under a substitution.
abbrev type_instance_kinds : List PartKind
type_instance_kinds = Context ∷ Subst ∷ Context ∷ Term ∷ []

abbrev pub type_instance : (L : Language) → Stated L type_instance_kinds
type_instance L = λ H d G A. record {
  wants = Sb H d G ∷ Ty G A ∷ [];
  sides = [];
  gives = Ty H (L.apply A d) ∷ [];
}

abbrev pub type_instance_statement : Statement
type_instance_statement = stated type_instance_kinds (type_instance patterns)

-- A term under a substitution.
abbrev term_instance_kinds : List PartKind
term_instance_kinds = Context ∷ Subst ∷ Context ∷ Term ∷ Term ∷ []

abbrev pub term_instance : (L : Language) → Stated L term_instance_kinds
term_instance L = λ H d G a A. record {
  wants = Sb H d G ∷ Tm G a A ∷ [];
  sides = [];
  gives = Tm H (L.apply a d) (L.apply A d) ∷ [];
}

abbrev pub term_instance_statement : Statement
term_instance_statement = stated term_instance_kinds (term_instance patterns)

-- The innermost variable under a substitution.
abbrev variable_kinds : List PartKind
variable_kinds = Context ∷ Subst ∷ Context ∷ Term ∷ []

abbrev pub variable : (L : Language) → Stated L variable_kinds
variable L = λ H d G A. record {
  wants = Sb H d (L.with_var G A) ∷ Ty G A ∷ [];
  sides = [];
  gives = Tm H (L.apply (L.var 0) d) (L.apply (weakened L A) d) ∷ [];
}

abbrev pub variable_statement : Statement
variable_statement = stated variable_kinds (variable patterns)
