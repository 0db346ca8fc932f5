-- A name, by what it was found to be.
use Rattle.std.proofs.Common.{◌≡◌, ℕ, List, refl, sym, subst}
use Rattle.layout_lexer.specs.declared.token.Span.{Span}
use Rattle.trees.specs.Trees.{Tree, Var}
use Rattle.translation.specs.declared.fault.Cause.{Cause}
use Rattle.translation.specs.Terms.{universe}
use Rattle.translation.specs.Scopes.{Scope}
use Rattle.translation.specs.Translated.{done, refused, with}
use Rattle.translation.specs.Forms.{Means}
use Rattle.translation.specs.Names.{as_term, as_name}
use Rattle.translation.specs.Texts.{word, term_at, name_at}
use Rattle.scopes.specs.declared.names.Found.{Found}
use Rattle.scopes.specs.Finding.{find}
use Rattle.scopes.specs.Steps.{State, Same, Resolves, meant, noted}
use Rattle.scopes.proofs.Moving.{moves_done, moves_same, keeps_same}
use Rattle.scopes.proofs.Blocks.{moves_refused}
use Rattle.scopes.proofs.Lookups.{resolves_term, resolves_name}

module _ (bytes : List ℕ) (s : State) (n : Span) (f : Found) where
  -- a name that stands for this tree
  pub found_done : (t : Scope ℕ → Tree) (g : Means ℕ Tree) → f ≡ find s.names (word bytes n)
      → ((H : Scope ℕ) → as_term n.start (meant H f) ≡ done (t H)) → ((H : Scope ℕ) → g H ≡ done (t H))
      → Resolves s s (term_at bytes n) g
  found_done t g e spelt code =
      resolves_term bytes s s n f g e (keeps_same s)
      (λ H. moves_same s.so_far s.so_far Same (done (t H)) _ (done (t H)) (g H) (sym (spelt H)) (sym (code H)) (moves_done s.so_far Same (t H) (t H) refl))

  -- a name that is refused
  pub found_refused : (u : State) (why : Cause) (g : Means ℕ Tree) → f ≡ find s.names (word bytes n)
      → ((H : Scope ℕ) → as_term n.start (meant H f) ≡ refused n.start why universe) → ((H : Scope ℕ) → g H ≡ done universe)
      → u ≡ record s { so_far = noted s.so_far n.start why } → Resolves s u (term_at bytes n) g
  found_refused u why g e spelt code new =
      subst (λ v. Resolves s v (term_at bytes n) g) (sym new)
      (let last = noted s.so_far n.start why in
      resolves_term bytes s (record s { so_far = last }) n f g e (record { names = refl; grows = (keeps_same s).grows })
      (λ H. moves_same s.so_far last Same (refused n.start why universe) _ (done universe) (g H) (sym (spelt H)) (sym (code H)) (moves_refused s.so_far Same n.start why universe universe refl)))

  -- the same where a name of the interval is wanted
  pub name_done : (k : ℕ) → f ≡ find s.names (word bytes n) → ((H : Scope ℕ) → with Var (as_name n.start (meant H f)) ≡ done (Var k))
      → Resolves s s (name_at bytes n) (λ H. done (Var k))
  name_done k e spelt =
      resolves_name bytes s s n f (λ H. done (Var k)) e (keeps_same s)
      (λ H. moves_same s.so_far s.so_far Same (done (Var k)) _ (done (Var k)) _ (sym (spelt H)) refl (moves_done s.so_far Same (Var k) (Var k) refl))

  pub name_refused : (u : State) (why : Cause) → f ≡ find s.names (word bytes n)
      → ((H : Scope ℕ) → with Var (as_name n.start (meant H f)) ≡ refused n.start why (Var 0))
      → u ≡ record s { so_far = noted s.so_far n.start why } → Resolves s u (name_at bytes n) (λ H. done (Var 0))
  name_refused u why e spelt new =
      subst (λ v. Resolves s v (name_at bytes n) (λ H. done (Var 0))) (sym new)
      (let last = noted s.so_far n.start why in
      resolves_name bytes s (record s { so_far = last }) n f (λ H. done (Var 0)) e (record { names = refl; grows = (keeps_same s).grows })
      (λ H. moves_same s.so_far last Same (refused n.start why (Var 0)) _ (done (Var 0)) _ (sym (spelt H)) refl (moves_refused s.so_far Same n.start why (Var 0) (Var 0) refl)))
