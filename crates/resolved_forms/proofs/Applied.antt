-- Names that are applied: the built-in `suc` and `natrec` with arguments of their own, and others.
use Rattle.std.proofs.Common.{◌≡◌, ◌<◌, ◌≤◌, ℕ, zero, suc, List, [], ◌∷◌, map, length, get_or, refl, sym, ap, ◌∙◌, arith, subst}
use Rattle.layout_lexer.specs.declared.token.Span.{Span}
use Rattle.syntax.specs.declared.exp.Exp.{Exp}
use Rattle.syntax.specs.declared.exp.Element.{Element, Argument as Argument', At as At'}
use Rattle.trees.specs.Trees.{Tree}
use Rattle.translation.specs.declared.built_in.BuiltIn.{BuiltIn}
use Rattle.translation.specs.declared.built_in.BuiltIn.TheVariants as built_in
use Rattle.translation.specs.Terms.{natrec, suc as suc_tree}
use Rattle.translation.specs.Scopes.{Scope}
use Rattle.translation.specs.Translated.{Translated, done, ◌>>=◌}
use Rattle.translation.specs.Names.{Word, Meaning, BuiltInName, as_term}
use Rattle.translation.specs.Forms.{Means, one, application, apply_all}
use Rattle.translation.specs.Texts.{Argument as GivenArgument, word, headed, elements, stands_for, term_at}
use Rattle.codes.specs.declared.code.Code.{Code}
use Rattle.codes.specs.declared.code.Opened.{Opened}
use Rattle.codes.specs.declared.code.Element.{Element as CodeElement}
use Rattle.codes.specs.Codes.{meaning, at_variable, element, recursion}
use Rattle.codes.proofs.Logs.{then_assoc, then_same}
use Rattle.scopes.specs.declared.names.Found.{Found}
use Rattle.scopes.specs.declared.names.Found.TheVariants as found
use Rattle.scopes.specs.Finding.{find}
use Rattle.scopes.specs.Steps.{State, Agree, Resolves, meant}
use Rattle.scopes.proofs.Moving.{resolves_one, resolves_four}
use Rattle.scopes.proofs.Lists.{resolves_application}
use Rattle.scopes.proofs.Lookups.{find_agrees, resolves_where}
use Rattle.resolved_forms.specs.Spelt.{Applies, read, code_term, code_motive, code_elements, term_of, motive_of, elements_of, given_of, named_of, plain_of}
use Rattle.resolved_forms.proofs.Spelling.{elements_spelt}

-- how many arguments stand before the first `@`
unfoldable pub leading : List Element → ℕ
leading [] = 0
leading (Argument' e ∷ es) = suc (leading es)
leading (At' s f ∷ es) = 0

pub leading_short : (es : List Element) → leading es ≤ length es
unfolding leading
leading_short [] = omega arith
leading_short (Argument' e ∷ es) = let h = leading_short es in omega arith
leading_short (At' s f ∷ es) = omega arith

pub leading_at : (es : List Element) (k : ℕ) (x : Element) (s : _) (f : _) → k < length es → x ≡ get_or es k x → x ≡ At' s f → leading es ≤ k
unfolding leading
leading_at [] k x s f h e a = omega arith
leading_at (Argument' y ∷ es) zero x s f h e a = cc
leading_at (Argument' y ∷ es) (suc k) x s f h e a = let i = leading_at es k x s f (omega arith) e a in omega arith
leading_at (At' t g ∷ es) k x s f h e a = omega arith

-- no argument stands first
pub leading_none : (es : List Element) → ((e : Exp) (rest : List Element) → es ≡ Argument' e ∷ rest → ⊥) → leading es < 1
unfolding leading
leading_none [] h = omega arith
leading_none (Argument' e ∷ es) h = absurd (h e es refl)
leading_none (At' s f ∷ es) h = omega arith

-- one stands first, and so many behind it
pub leading_more : (es : List Element) (e : Exp) (rest : List Element) → es ≡ Argument' e ∷ rest → leading es ≡ suc (leading rest)
unfolding leading
leading_more es e rest h = ap leading h

-- where a name takes no arguments of its own

headed_plain : (bytes : List ℕ) (s : ℕ) (m : Meaning) (es : List Element) (G : Scope Word) → (m ≡ BuiltInName built_in.Suc → leading es < 1) → (m ≡ BuiltInName built_in.NatRec → leading es < 4)
    → headed s m (map (given_of bytes) es) G ≡ application (λ H. as_term s m) (elements (map (given_of bytes) es)) G
unfolding leading given_of
headed_plain bytes s (BuiltInName built_in.Suc) [] G suc_few rec_few = refl
headed_plain bytes s (BuiltInName built_in.Suc) (Argument' n ∷ es) G suc_few rec_few = absurd (let h = suc_few refl in omega arith)
headed_plain bytes s (BuiltInName built_in.Suc) (At' p f ∷ es) G suc_few rec_few = refl
headed_plain bytes s (BuiltInName built_in.NatRec) [] G suc_few rec_few = refl
headed_plain bytes s (BuiltInName built_in.NatRec) (At' p f ∷ es) G suc_few rec_few = refl
headed_plain bytes s (BuiltInName built_in.NatRec) (Argument' a ∷ []) G suc_few rec_few = refl
headed_plain bytes s (BuiltInName built_in.NatRec) (Argument' a ∷ At' p f ∷ es) G suc_few rec_few = refl
headed_plain bytes s (BuiltInName built_in.NatRec) (Argument' a ∷ Argument' b ∷ []) G suc_few rec_few = refl
headed_plain bytes s (BuiltInName built_in.NatRec) (Argument' a ∷ Argument' b ∷ At' p f ∷ es) G suc_few rec_few = refl
headed_plain bytes s (BuiltInName built_in.NatRec) (Argument' a ∷ Argument' b ∷ Argument' c ∷ []) G suc_few rec_few = refl
headed_plain bytes s (BuiltInName built_in.NatRec) (Argument' a ∷ Argument' b ∷ Argument' c ∷ At' p f ∷ es) G suc_few rec_few = refl
headed_plain bytes s (BuiltInName built_in.NatRec) (Argument' a ∷ Argument' b ∷ Argument' c ∷ Argument' d ∷ es) G suc_few rec_few = absurd (let h = rec_few refl in omega arith)
headed_plain bytes s m es G suc_few rec_few = refl

meant_built_in : (H : Scope ℕ) (f : Found) (b : BuiltIn) → meant H f ≡ BuiltInName b → f ≡ found.BuiltIn b
meant_built_in H (found.Variable k) b e = cc
meant_built_in H (found.Interval k) b e = cc
meant_built_in H (found.Definition n) b e = cc
meant_built_in H (found.BuiltIn c) b e = cc
meant_built_in H found.Nothing b e = cc

module _ (bytes : List ℕ) {s : State} (n : Span) (es : List Element) (f : Found) (found_is : f ≡ find s.names (word bytes n)) where
  stands : (G : Scope Word) (H : Scope ℕ) → Agree s G H → stands_for bytes G n ≡ meant H f
  stands G H a = find_agrees s G H (word bytes n) a ∙ ap (meant H) (sym found_is)

  pub plain_named : {t : State} (C : Code) → (f ≡ found.BuiltIn built_in.Suc → leading es < 1) → (f ≡ found.BuiltIn built_in.NatRec → leading es < 4)
      → Resolves s t (plain_of bytes n es) (code_term C) → Resolves s t (named_of bytes n es) (code_term C)
  unfolding named_of plain_of
  plain_named {t = t} C suc_few rec_few h =
      resolves_where s t (application (term_at bytes n) (elements_of bytes es)) (named_of bytes n es) (code_term C)
      (λ G H a.
      let e = stands G H a in
      sym (headed_plain bytes n.start (stands_for bytes G n) es G (λ k. suc_few (meant_built_in H f built_in.Suc (sym e ∙ k))) (λ k. rec_few (meant_built_in H f built_in.NatRec (sym e ∙ k)))
      ∙ ap (λ ds. application (term_at bytes n) ds G) (elements_spelt bytes es))) h

  pub suc_named : {t u : State} (x : Exp) (rest : List Element) (A C D : Code) (ds : List CodeElement)
      → f ≡ found.BuiltIn built_in.Suc → es ≡ Argument' x ∷ rest → Resolves s t (term_of bytes x) (code_term A) → meaning C ≡ one suc_tree (meaning A)
      → Applies t u (elements_of bytes rest) (code_elements ds) → meaning D ≡ application (meaning C) (map element ds)
      → Resolves s u (named_of bytes n es) (meaning D)
  unfolding named_of code_term code_elements term_of given_of
  suc_named {t = t} {u = u} x rest A C D ds is listed argument head others whole =
      let spelt = application (one suc_tree (term_of bytes x)) (elements_of bytes rest) in
      let code = application (one suc_tree (meaning A)) (map element ds) in
      subst (λ m. Resolves s u (named_of bytes n es) m) (sym (whole ∙ ap (λ m. application m (map element ds)) head))
      (subst (λ xs. Resolves s u (named_of bytes n xs) code) (sym listed)
      (resolves_where s u spelt (λ G. headed n.start (stands_for bytes G n) (GivenArgument (read bytes x) ∷ map (given_of bytes) rest) G) code
      (λ G H a.
      then_assoc (term_of bytes x G) (λ k. done (suc_tree k)) (λ k. apply_all k (elements_of bytes rest) G)
      ∙ ap (λ ks. term_of bytes x G >>= λ k. apply_all (suc_tree k) ks G) (sym (elements_spelt bytes rest))
      ∙ ap (λ m. headed n.start m (GivenArgument (read bytes x) ∷ map (given_of bytes) rest) G) (sym (stands G H a ∙ ap (meant H) is)))
      (resolves_application s t u (one suc_tree (term_of bytes x)) (one suc_tree (meaning A)) (elements_of bytes rest) (map element ds)
      (resolves_one suc_tree s t (term_of bytes x) (meaning A) argument) others.applies)))

recursion_then : (M A B N : Translated Word Tree) (g : Tree → Translated Word Tree)
    → ((M >>= λ p. A >>= λ a. B >>= λ b. N >>= λ n. done (natrec p a b n)) >>= g) ≡ (M >>= λ p. A >>= λ a. B >>= λ b. N >>= λ n. g (natrec p a b n))
recursion_then M A B N g =
    let p = M.value in
    let a = A.value in
    let b = B.value in
    then_assoc M (λ p. A >>= λ a. B >>= λ b. N >>= λ n. done (natrec p a b n)) g
    ∙ then_same M (λ p. (A >>= λ a. B >>= λ b. N >>= λ n. done (natrec p a b n)) >>= g) (λ p. A >>= λ a. B >>= λ b. N >>= λ n. g (natrec p a b n))
    (then_assoc A (λ a. B >>= λ b. N >>= λ n. done (natrec p a b n)) g
    ∙ then_same A (λ a. (B >>= λ b. N >>= λ n. done (natrec p a b n)) >>= g) (λ a. B >>= λ b. N >>= λ n. g (natrec p a b n))
    (then_assoc B (λ b. N >>= λ n. done (natrec p a b n)) g
    ∙ then_same B (λ b. (N >>= λ n. done (natrec p a b n)) >>= g) (λ b. N >>= λ n. g (natrec p a b n))
    (then_assoc N (λ n. done (natrec p a b n)) g)))

pub natrec_named : (bytes : List ℕ) {s t u v w z : State} (n : Span) (es : List Element) (f : Found) → f ≡ find s.names (word bytes n)
    → (P a b k : Exp) (rest : List Element) (O : Opened) (A B K C D : Code) (ds : List CodeElement)
    → f ≡ found.BuiltIn built_in.NatRec → es ≡ Argument' P ∷ Argument' a ∷ Argument' b ∷ Argument' k ∷ rest
    → Resolves s t (motive_of bytes P) (code_motive O) → Resolves t u (term_of bytes a) (code_term A) → Resolves u v (term_of bytes b) (code_term B) → Resolves v w (term_of bytes k) (code_term K)
    → meaning C ≡ recursion (at_variable O) (meaning A) (meaning B) (meaning K)
    → Applies w z (elements_of bytes rest) (code_elements ds) → meaning D ≡ application (meaning C) (map element ds)
    → Resolves s z (named_of bytes n es) (meaning D)
unfolding named_of code_term code_motive code_elements term_of motive_of given_of
natrec_named bytes {s = s} {t = t} {u = u} {v = v} {w = w} {z = z} n es f found_is P a b k rest O A B K C D ds is listed motive base step argument head others whole =
    let g : Means Word Tree = λ G. motive_of bytes P G >>= λ p. term_of bytes a G >>= λ x. term_of bytes b G >>= λ y. term_of bytes k G >>= λ q. done (natrec p x y q) in
    let gs = GivenArgument (read bytes P) ∷ GivenArgument (read bytes a) ∷ GivenArgument (read bytes b) ∷ GivenArgument (read bytes k) ∷ map (given_of bytes) rest in
    let code = application (recursion (at_variable O) (meaning A) (meaning B) (meaning K)) (map element ds) in
    subst (λ m. Resolves s z (named_of bytes n es) m) (sym (whole ∙ ap (λ m. application m (map element ds)) head))
    (subst (λ xs. Resolves s z (named_of bytes n xs) code) (sym listed)
    (resolves_where s z (application g (elements_of bytes rest)) (λ G. headed n.start (stands_for bytes G n) gs G) code
    (λ G H h.
    recursion_then (motive_of bytes P G) (term_of bytes a G) (term_of bytes b G) (term_of bytes k G) (λ t. apply_all t (elements_of bytes rest) G)
    ∙ ap (λ ks. motive_of bytes P G >>= λ p. term_of bytes a G >>= λ x. term_of bytes b G >>= λ y. term_of bytes k G >>= λ q. apply_all (natrec p x y q) ks G) (sym (elements_spelt bytes rest))
    ∙ ap (λ m. headed n.start m gs G) (sym (find_agrees s G H (word bytes n) h ∙ ap (meant H) (sym found_is ∙ is))))
    (resolves_application s w z g (recursion (at_variable O) (meaning A) (meaning B) (meaning K)) (elements_of bytes rest) (map element ds)
    (resolves_four natrec s t u v w (motive_of bytes P) (at_variable O) (term_of bytes a) (meaning A) (term_of bytes b) (meaning B) (term_of bytes k) (meaning K) motive base step argument) others.applies)))
