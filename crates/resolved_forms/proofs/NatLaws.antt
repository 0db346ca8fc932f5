-- Whether a name is the built-in `nat`.
use Rattle.std.proofs.Common.{◌≡◌, ℕ, true, false, List, [], ◌∷◌, Some, None, if◌then◌else◌, refl, sym, ap, ◌∙◌, subst}
use Rattle.layout_lexer.specs.declared.token.Span.{Span}
use Rattle.syntax.specs.declared.exp.Exp.{Exp, Name as Name_}
use Rattle.translation.specs.declared.built_in.BuiltIn.TheVariants as built_in
use Rattle.translation.specs.Scopes.{Scope}
use Rattle.translation.specs.Names.{Word, is_built_in_nat}
use Rattle.translation.specs.Texts.{word, stands_for}
use Rattle.scopes.specs.declared.names.Found.{Found}
use Rattle.scopes.specs.declared.names.Found.TheVariants as found
use Rattle.scopes.specs.Finding.{find}
use Rattle.scopes.specs.Steps.{State, Agree, meant}
use Rattle.scopes.proofs.Lookups.{find_agrees}
use Rattle.syntax.specs.Tree as text
use Rattle.syntax.specs.View.{tree_of}
use Rattle.syntax.proofs.Rows.{tree_of_brackets}
use Rattle.translation.specs.Texts.{reading}
use Rattle.scopes.specs.Finding.{Named}
use Rattle.resolved_forms.specs.Opened.{bare}
use Rattle.resolved_forms.specs.Shaped.{nat_in, is_nat as names_nat}
use Rattle.resolved_forms.specs.Spelt.{read, is_nat_of}
use Rattle.resolved_forms.proofs.Others.{same_nat}
use Rattle.resolved_forms.proofs.Shaping.{a_name, a_lambda, a_path, in_brackets, another, form_of, IsAnother, nat_in_name}
use Rattle.resolved_forms.proofs.Insides.{IsBare, inside_reads, inside_nat, inside_bare}

reads_nat : (bytes : List ℕ) (n : Span) (G : Scope Word) → is_nat_of bytes (Name_ n) G ≡ is_built_in_nat (stands_for bytes G n)
unfolding is_nat_of read
reads_nat bytes n G = refl

other_found : (H : Scope ℕ) (f : Found) → (f ≡ found.BuiltIn built_in.Nat → ⊥) → is_built_in_nat (meant H f) ≡ false
other_found H (found.Variable k) h = refl
other_found H (found.Interval k) h = refl
other_found H (found.Definition n) h = refl
other_found H (found.BuiltIn built_in.Nat) h = absurd (h refl)
other_found H (found.BuiltIn b) h = refl
other_found H found.Nothing h = refl

module _ (bytes : List ℕ) {s : State} (n : Span) {e : Exp} (f : Found) (name : e ≡ Name_ n) (found_is : f ≡ find s.names (word bytes n)) where
  stands_there : (G : Scope Word) (H : Scope ℕ) → Agree s G H → is_nat_of bytes e G ≡ is_built_in_nat (meant H f)
  stands_there G H a =
      ap (λ x. is_nat_of bytes x G) name ∙ reads_nat bytes n G ∙ ap is_built_in_nat (find_agrees s G H (word bytes n) a ∙ ap (meant H) (sym found_is))

  pub is_nat : (G : Scope Word) (H : Scope ℕ) → Agree s G H → f ≡ found.BuiltIn built_in.Nat → is_nat_of bytes e G ≡ true
  is_nat G H a is = stands_there G H a ∙ ap (λ x. is_built_in_nat (meant H x)) is

  pub is_not_nat : (G : Scope Word) (H : Scope ℕ) → Agree s G H → (f ≡ found.BuiltIn built_in.Nat → ⊥) → is_nat_of bytes e G ≡ false
  is_not_nat G H a other = stands_there G H a ∙ other_found H f other

not_nat : (f : Found) → (f ≡ found.BuiltIn built_in.Nat → ⊥) → names_nat f ≡ false
not_nat (found.BuiltIn built_in.Nat) h = absurd (h refl)
not_nat f h = refl

abbrev pub IsNoName : text.Tree → Type 0
IsNoName (text.Name n) = ⊥
IsNoName T = Unit {0}

other_name : (T : text.Tree) → IsAnother T → IsNoName T
other_name (text.Name n) h = absurd h
other_name T h = tt

is_no_name : (e : Exp) → ((n : Span) → e ≡ Name_ n → ⊥) → IsNoName (tree_of e)
is_no_name e name = elim (form_of e) [
  | a_name n h ↦ absurd (name n h)
  | a_lambda s xs p h ↦ rw h tt
  | a_path s ns p h ↦ rw h tt
  | in_brackets s es h ↦ subst IsNoName (sym (ap tree_of h ∙ tree_of_brackets s es)) tt
  | another h ↦ other_name (tree_of e) h
]

reads_no_nat : (bytes : List ℕ) (G : Scope Word) (T : text.Tree) → IsBare T → IsNoName T → (reading bytes T).is_nat G ≡ false
reads_no_nat bytes G (text.PathLambda s [] e) b o = absurd b
reads_no_nat bytes G (text.PathLambda s (n ∷ ns) e) b o = refl
reads_no_nat bytes G (text.Brackets s text.none) b o = refl
reads_no_nat bytes G (text.Brackets s (text.more e text.none)) b o = absurd b
reads_no_nat bytes G (text.Brackets s (text.more x (text.more y es))) b o = refl
reads_no_nat bytes G (text.Apply s (text.Name n) es) b o = refl
reads_no_nat bytes G (text.Name n) b o = absurd o
reads_no_nat bytes G T b o = refl

no_nat_in : (bytes : List ℕ) (names : List Named) (T : text.Tree) → IsBare T → IsNoName T → nat_in bytes names T ≡ None
no_nat_in bytes names (text.PathLambda s [] e) b o = absurd b
no_nat_in bytes names (text.PathLambda s (n ∷ ns) e) b o = refl
no_nat_in bytes names (text.Brackets s text.none) b o = refl
no_nat_in bytes names (text.Brackets s (text.more e text.none)) b o = absurd b
no_nat_in bytes names (text.Brackets s (text.more x (text.more y es))) b o = refl
no_nat_in bytes names (text.Name n) b o = absurd o
no_nat_in bytes names T b o = refl

module _ (bytes : List ℕ) (e x : Exp) (seen : tree_of x ≡ bare (tree_of e)) where
  -- a text that is no name, whatever is round it

  pub other_told : ((n : Span) → x ≡ Name_ n → ⊥) → (G : Scope Word) → is_nat_of bytes e G ≡ false
  unfolding is_nat_of read
  other_told name G = same_nat bytes x e (inside_reads e x seen bytes) G ∙ reads_no_nat bytes G (tree_of x) (inside_bare e x seen) (is_no_name x name)

  pub other_named : (names : List Named) → ((n : Span) → x ≡ Name_ n → ⊥) → None ≡ nat_in bytes names (tree_of e)
  other_named names name = sym (inside_nat e x seen bytes names ∙ no_nat_in bytes names (tree_of x) (inside_bare e x seen) (is_no_name x name))

  -- a name

  module _ (s : State) (n : Span) (f : Found) (name : x ≡ Name_ n) (found_is : f ≡ find s.names (word bytes n)) where
    pub nat_told : f ≡ found.BuiltIn built_in.Nat → (G : Scope Word) (H : Scope ℕ) → Agree s G H → is_nat_of bytes e G ≡ true
    nat_told is G H a = same_nat bytes x e (inside_reads e x seen bytes) G ∙ is_nat bytes n f name found_is G H a is

    pub nat_named : f ≡ found.BuiltIn built_in.Nat → Some n ≡ nat_in bytes s.names (tree_of e)
    nat_named is = sym (inside_nat e x seen bytes s.names ∙ nat_in_name bytes s.names n name (sym is ∙ found_is))

    pub no_nat_told : (f ≡ found.BuiltIn built_in.Nat → ⊥) → (G : Scope Word) (H : Scope ℕ) → Agree s G H → is_nat_of bytes e G ≡ false
    no_nat_told other G H a = same_nat bytes x e (inside_reads e x seen bytes) G ∙ is_not_nat bytes n f name found_is G H a other

    pub no_nat_named : (f ≡ found.BuiltIn built_in.Nat → ⊥) → None ≡ nat_in bytes s.names (tree_of e)
    no_nat_named other = sym (inside_nat e x seen bytes s.names ∙ nat_in_name bytes s.names n name found_is ∙ ap (λ b. if b then Some n else None) (not_nat f other))
