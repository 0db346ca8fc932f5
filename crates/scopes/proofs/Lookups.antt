-- What a name stands for, in the text and in the code.
use Rattle.std.proofs.Common.{◌≡◌, ℕ, true, false, List, refl, sym, ap, ◌∙◌, if◌then◌else◌}
use Rattle.layout_lexer.specs.declared.token.Span.{Span}
use Rattle.trees.specs.Trees.{Tree, Var}
use Rattle.translation.specs.Scopes.{Scope}
use Rattle.translation.specs.Translated.{with}
use Rattle.translation.specs.Forms.{Means}
use Rattle.translation.specs.Names.{Word, Nothing, meaning, is_nameless, as_term, as_name, nearest as nearest_meaning}
use Rattle.translation.specs.Texts.{word, term_at, name_at}
use Rattle.scopes.specs.declared.names.Found.{Found}
use Rattle.scopes.specs.declared.names.Found.TheVariants as found
use Rattle.scopes.specs.Finding.{nearest, find}
use Rattle.scopes.specs.Steps.{State, Agree, Moves, Same, Keeps, Resolves, meant}
use Rattle.scopes.proofs.Moving.{moves_same}

pub find_agrees : (s : State) (G : Scope Word) (H : Scope ℕ) (x : Word) → Agree s G H → meaning G x ≡ meant H (find s.names x)
find_agrees s G H x a =
    elim (is_nameless x) as (λ v. (if v then Nothing else nearest_meaning G x) ≡ meant H (if v then found.Nothing else nearest s.names x)) [
      | true ↦ refl
      | false ↦ a.words x
    ]

-- the same text, where names agree
pub resolves_where : {A : Type 0} (s t : State) (f f' : Means Word A) (g : Means ℕ A)
    → ((G : Scope Word) (H : Scope ℕ) → Agree s G H → f G ≡ f' G) → Resolves s t f g → Resolves s t f' g
resolves_where s t f f' g e h = record {
  keeps = h.keeps;
  moving = record { moves = λ G H a. moves_same s.so_far t.so_far Same (f G) (f' G) (g H) (g H) (e G H a) refl (h.moving.moves G H a) };
}

-- a name where a term is wanted
pub resolves_term : (bytes : List ℕ) (s t : State) (n : Span) (f : Found) (g : Means ℕ Tree) → f ≡ find s.names (word bytes n) → Keeps s t
    → ((H : Scope ℕ) → Moves s.so_far t.so_far Same (as_term n.start (meant H f)) (g H))
    → Resolves s t (term_at bytes n) g
resolves_term bytes s t n f g e k m = record {
  keeps = k;
  moving = record {
    moves = λ G H a. moves_same s.so_far t.so_far Same (as_term n.start (meant H f)) (term_at bytes n G) (g H) (g H)
        (ap (as_term n.start) (ap (meant H) e ∙ sym (find_agrees s G H (word bytes n) a))) refl (m H);
  };
}

-- a name where a name of the interval is wanted
pub resolves_name : (bytes : List ℕ) (s t : State) (n : Span) (f : Found) (g : Means ℕ Tree) → f ≡ find s.names (word bytes n) → Keeps s t
    → ((H : Scope ℕ) → Moves s.so_far t.so_far Same (with Var (as_name n.start (meant H f))) (g H))
    → Resolves s t (name_at bytes n) g
resolves_name bytes s t n f g e k m = record {
  keeps = k;
  moving = record {
    moves = λ G H a. moves_same s.so_far t.so_far Same (with Var (as_name n.start (meant H f))) (name_at bytes n G) (g H) (g H)
        (ap (λ x. with Var (as_name n.start x)) (ap (meant H) e ∙ sym (find_agrees s G H (word bytes n) a))) refl (m H);
  };
}
