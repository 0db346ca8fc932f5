-- What is answered of a text, from what was answered of its parts.
use Rattle.std.proofs.Common.{◌≡◌, ◌<◌, ℕ, List, ◌∷◌, length, Result, Ok, Err, IfOk, sym, ap, ◌∙◌, subst}
use Rattle.layout_lexer.specs.declared.token.Span.{Span}
use Rattle.syntax.specs.declared.exp.Exp.{Exp}
use Rattle.syntax.specs.declared.exp.Element.{Element, Argument as Argument'}
use Rattle.syntax.specs.declared.exp.Tele.{Tele}
use Rattle.syntax.specs.View.{tree_of, tele_of, tree_list}
use Rattle.trees.specs.Trees.{Tree}
use Rattle.translation.specs.declared.built_in.BuiltIn.TheVariants as built_in
use Rattle.translation.specs.Names.{Word}
use Rattle.translation.specs.Texts.{word}
use Rattle.translation.specs.Forms.{Means}
use Rattle.codes.specs.declared.code.Code.{Code}
use Rattle.codes.specs.Codes.{meaning}
use Rattle.codes.specs.declared.code.Opened.{Opened, Under}
use Rattle.codes.specs.declared.code.Binder.{Binder}
use Rattle.codes.specs.Shapes as code
use Rattle.codes.specs.Shapes.{Shape, shape, listed, of_binder, Universe, PairSide}
use Rattle.scopes.specs.declared.names.Found.{Found}
use Rattle.scopes.specs.declared.names.Found.TheVariants as found
use Rattle.scopes.specs.declared.names.Binding.TheVariants as binding
use Rattle.scopes.specs.Finding.{Named, find}
use Rattle.scopes.specs.Steps.{State, Progress, Resolves}
use Rattle.resolved_forms.specs.Spelt.{code_pair, code_term, named_of, plain_of, words_of}
use Rattle.resolved_forms.proofs.FormLaws.{answer_fits}
use Rattle.resolved_forms.proofs.Applied.{leading, plain_named}
use Rattle.resolved_forms.specs.Shaped.{Becomes, Become, Term, Line, Motive, Pair as PairAt, IsTerm, AreTerms, IsLine, IsMotive, IsPair, AreBinders, after_all, bound_in, numbers, tuple, under_tele}
use Rattle.resolved_forms.proofs.Shaping.{term_among}
use Rattle.resolver.specs.declared.systems.Pair.{Pair}
use Rattle.resolved_forms.specs.Opening.{IsUnder}
use Rattle.resolved_forms.specs.Opened.{LineUnder, MotiveUnder, PairOf}

pub pair_answer_is : {E : Type 0} (s t : State) {f h : Means Word (Tree × Tree)} (r : Result Pair E)
    → f ≡ h → IfOk r (λ p. Resolves s t f (code_pair p.ty p.equivalence)) → IfOk r (λ p. Resolves s t h (code_pair p.ty p.equivalence))
pair_answer_is s t (Ok p) e k = subst (λ m. Resolves s t m (code_pair p.ty p.equivalence)) e k
pair_answer_is s t (Err x) e k = tt

-- whatever code of that meaning is made
pub made_answers : {E : Type 0} {s t : State} {f : Means Word Tree} {g : Means ℕ Tree} (r : Result Code E)
    → IfOk r (λ c. meaning c ≡ g) → ((D : Code) → meaning D ≡ g → Resolves s t f (meaning D)) → IfOk r (λ c. Resolves s t f (code_term c))
unfolding code_term
made_answers (Ok c) e k = k c e
made_answers (Err x) e k = tt

-- whatever stands opened there
pub opened_fits : {E : Type 0} {s : Span} {f : Means ℕ Tree} {like : Shape} {P : Opened → Type 0} (r : Result Opened E)
    → IfOk r (IsUnder s f like) → ((o : Opened) → IsUnder s f like o → P o) → IfOk r P
opened_fits (Ok o) h k = k o h
opened_fits (Err x) h k = tt

module _ {E : Type 0} (bytes : List ℕ) (s t : State) (n : Span) (es : List Element) (f : Found) (r : Result Code E) (found_is : f ≡ find s.names (word bytes n)) where
  -- too few arguments for a name that takes some of its own
  pub few_named : (f ≡ found.BuiltIn built_in.Suc → leading es < 1) → (f ≡ found.BuiltIn built_in.NatRec → leading es < 4)
      → IfOk r (λ c. Resolves s t (plain_of bytes n es) (code_term c)) → IfOk r (λ c. Resolves s t (named_of bytes n es) (code_term c))
  few_named suc_few rec_few =
      answer_fits s t (plain_of bytes n es) (named_of bytes n es) r (λ C h. plain_named bytes n es f found_is C suc_few rec_few h)

  -- a name that takes none
  pub other_named : (f ≡ found.BuiltIn built_in.Suc → ⊥) → (f ≡ found.BuiltIn built_in.NatRec → ⊥)
      → IfOk r (λ c. Resolves s t (plain_of bytes n es) (code_term c)) → IfOk r (λ c. Resolves s t (named_of bytes n es) (code_term c))
  other_named no_suc no_rec = few_named (λ e. absurd (no_suc e)) (λ e. absurd (no_rec e))

-- four arguments, one after the other
pub four_arguments : {es xs ys zs rest : List Element} {P a b k : Exp} → es ≡ Argument' P ∷ xs → xs ≡ Argument' a ∷ ys → ys ≡ Argument' b ∷ zs → zs ≡ Argument' k ∷ rest
    → es ≡ Argument' P ∷ Argument' a ∷ Argument' b ∷ Argument' k ∷ rest
four_arguments {P = P} {a = a} {b = b} e f g h = e ∙ ap (λ vs. Argument' P ∷ vs) (f ∙ ap (λ vs. Argument' a ∷ vs) (g ∙ ap (λ vs. Argument' b ∷ vs) h))

-- what is no written pair

pub pair_refused : {E : Type 0} (bytes : List ℕ) (names : List Named) (s : Span) (e : Exp) (r : Result Pair E)
    → ((c : Code) → IsTerm bytes names e c → Becomes bytes (tree_of e) names (PairAt s) (PairSide s (shape c) (Universe s)))
    → IfOk r (λ p. IsTerm bytes names e p.ty × (shape p.equivalence ≡ Universe s)) → IfOk r (λ p. IsPair bytes names s e p.ty p.equivalence)
pair_refused bytes names s e (Ok p) wrap h =
    record { becomes = subst (λ k. Becomes bytes (tree_of e) names (PairAt s) (PairSide s (shape p.ty) k)) (sym h.1) (wrap p.ty h.0) }
pair_refused bytes names s e (Err x) wrap h = tt

-- what stands opened, and written pairs

module _ {bytes : List ℕ} where
  pub line_spelt : {names among : List Named} {i : Span} {is : List Span} {e b : Exp} (p : Span) (C D : Code) → LineUnder e i is b → among ≡ bound_in (words_of bytes (i ∷ is)) binding.Interval names
      → IsTerm bytes among b C → shape D ≡ code.path_lambda p (length is) (shape C) → IsLine bytes names p e (Under p D)
  line_spelt {names = names} {e = e} p C D reads bound body is =
      record { becomes = subst (λ k. Becomes bytes (tree_of e) names (Line p) (code.Under p k)) (sym is) (reads.becomes bytes names p (shape C) (term_among bound body).becomes) }

  pub motive_spelt : {among last : List Named} {v n : Span} {vs : List Span} {xs : List Tele} {bs : List Binder} {e b : Exp} (s : State) (p : Span) (C D F : Code) → MotiveUnder bytes s e v vs n xs b
      → among ≡ bound_in (words_of bytes (v ∷ vs)) binding.Variable s.names → AreBinders bytes among last xs bs → IsTerm bytes last b C
      → shape D ≡ code.lambda p (listed of_binder bs) (shape C) → shape F ≡ code.lambda p (numbers (length vs) n) (shape D) → IsMotive bytes s.names p e (Under p F)
  motive_spelt {among = among} {v = v} {n = n} {vs = vs} {xs = xs} {bs = bs} {e = e} {b = b} s p C D F reads bound binders body inner outer =
      let cs = listed of_binder bs in
      let Opens : List Named → Type 0 = λ ns. Become bytes (under_tele bytes) (tree_list tele_of xs) ns cs × Becomes bytes (tree_of b) (after_all (under_tele bytes) (tree_list tele_of xs) cs ns) Term (shape C) in
      let opens : Opens among = (binders.become, (term_among binders.leaves body).becomes) in
      let there : Opens (bound_in (words_of bytes (v ∷ vs)) binding.Variable s.names) = subst Opens bound opens in
      record { becomes = subst (λ k. Becomes bytes (tree_of e) s.names (Motive p) (code.Under p k)) (sym (outer ∙ ap (code.lambda p (numbers (length vs) n)) inner)) (reads.becomes p cs (shape C) there.0 there.1) }

  pub pair_spelt : {names : List Named} {s : Span} {e a : Exp} {xs : List Exp} {cs : List Code} (p : Span) (A B : Code) → PairOf e s a xs
      → IsTerm bytes names a A → AreTerms bytes names xs cs → shape B ≡ tuple s (listed shape cs) → IsPair bytes names p e A B
  pair_spelt {names = names} {e = e} {cs = cs} p A B reads first others is =
      record { becomes = subst (λ k. Becomes bytes (tree_of e) names (PairAt p) (PairSide p (shape A) k)) (sym is) (reads.becomes bytes names p (shape A) (listed shape cs) first.becomes others.become) }

-- the names in scope after a definition
pub defined_names : {older among : List Named} {v : State} {x : Word} {n : ℕ} {p : Progress}
    → v ≡ record { names = record { word = x; binding = binding.Definition n } ∷ older; so_far = p } → older ≡ among
    → v.names ≡ record { word = x; binding = binding.Definition n } ∷ among
defined_names {x = x} {n = n} e same = ap (λ s. s.names) e ∙ ap (λ ns. record { word = x; binding = binding.Definition n } ∷ ns) same
