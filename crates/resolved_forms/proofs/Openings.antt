-- Texts that stand opened.
use Rattle.std.proofs.Common.{◌≡◌, ℕ, List, [], ◌∷◌, map, length, replicate, refl, sym, ap, ◌∙◌, subst}
use Rattle.std.proofs.lemmas.List.{length-map}
use Rattle.layout_lexer.specs.declared.token.Span.{Span}
use Rattle.syntax.specs.declared.exp.Exp.{Exp}
use Rattle.syntax.specs.declared.exp.Tele.{Tele}
use Rattle.trees.specs.Trees.{Tree}
use Rattle.translation.specs.Terms.{lam, nat, universe, lifted, innermost, app, papp}
use Rattle.translation.specs.Scopes.{Scope, Variable, Interval}
use Rattle.translation.specs.Translated.{done}
use Rattle.translation.specs.Names.{Word}
use Rattle.translation.specs.Texts.{word}
use Rattle.translation.specs.Forms.{Means, under, over, under_names, applied_to_name, applied_to_variable}
use Rattle.codes.specs.declared.code.Code.{Code}
use Rattle.codes.specs.declared.code.Opened.{Opened}
use Rattle.codes.specs.declared.code.Opened.TheVariants.{Under, Applied}
use Rattle.codes.specs.declared.code.Binder.{Binder as BinderOf}
use Rattle.codes.specs.Codes.{meaning, at_name, at_variable, binder}
use Rattle.scopes.specs.declared.names.Binding.TheVariants as binding
use Rattle.scopes.specs.Steps.{State, Agree, Resolves, Extends, Binds, bound_to, all_bound_to}
use Rattle.scopes.proofs.Moving.{resolves_done, resolves_one}
use Rattle.scopes.proofs.Binders.{binds_none, binds_more, extends_then, keeps_cut, resolves_under, resolves_under_names, resolves_over, resolves_in_interval, resolves_in_variable}
use Rattle.scopes.proofs.Lookups.{resolves_where}
use Rattle.resolved_forms.specs.Spelt.{code_term, code_line, code_motive, code_binders, term_of, line_of, motive_of, words_of, binders_of}
use Rattle.resolved_forms.proofs.FormLaws.{cut_to, settled, marked}

-- a text that is applied to its name, or its variable

pub applied_line : (bytes : List ℕ) {s t : State} (e : Exp) (C : Code) {p : Span} (O : Opened) → O ≡ Applied p C → line_of bytes e ≡ applied_to_name (term_of bytes e)
    → Resolves s t (term_of bytes e) (code_term C) → Resolves s t (line_of bytes e) (code_line O)
unfolding code_term code_line
applied_line bytes {s = s} {t = t} e C O makes spelt h = subst (λ o. Resolves s t (line_of bytes e) (at_name o)) (sym makes)
    (subst (λ f. Resolves s t f (applied_to_name (meaning C))) (sym spelt) (resolves_one (λ t. papp (lifted t) innermost) s t (term_of bytes e) (meaning C) h))

pub applied_motive : (bytes : List ℕ) {s t : State} (e : Exp) (C : Code) {p : Span} (O : Opened) → O ≡ Applied p C
    → ((G : Scope Word) (H : Scope ℕ) → Agree s G H → applied_to_variable (term_of bytes e) G ≡ motive_of bytes e G)
    → Resolves s t (term_of bytes e) (code_term C) → Resolves s t (motive_of bytes e) (code_motive O)
unfolding code_term code_motive
applied_motive bytes {s = s} {t = t} e C O makes spelt h =
    subst (λ o. Resolves s t (motive_of bytes e) (at_variable o)) (sym makes)
    (resolves_where s t (applied_to_variable (term_of bytes e)) (motive_of bytes e) (applied_to_variable (meaning C)) spelt
    (resolves_one (λ t. app (lifted t) innermost) s t (term_of bytes e) (meaning C) h))

-- the text stands under its first name
pub written_line : (bytes : List ℕ) {s r t u v : State} {m n : ℕ} (x : Span) (xs : List Span) (e : Exp) (B C : Code) {p : Span} (O : Opened)
    → m ≡ length s.names → n ≡ length xs → r ≡ bound_to s (word bytes x) binding.Interval → t ≡ all_bound_to r (words_of bytes xs) binding.Interval
    → Resolves t u (term_of bytes e) (code_term B) → v ≡ cut_to u m → meaning C ≡ under_names (replicate n 0) (meaning B) → O ≡ Under p C
    → Resolves s v (λ G. under_names (words_of bytes xs) (term_of bytes e) (Interval (word bytes x) ∷ G)) (code_line O)
unfolding code_term code_line
written_line bytes {s = s} {u = u} {v = v} x xs e B C O mark count first rest inner cut makes opened =
    let w = word bytes x in
    let ws = words_of bytes xs in
    let f = term_of bytes e in
    let g = meaning B in
    let r = bound_to s w binding.Interval in
    let here : Resolves (all_bound_to r ws binding.Interval) u f g =
    subst (λ q. Resolves q u f g) (rest ∙ ap (λ q. all_bound_to q ws binding.Interval) first) inner in
    let whole = resolves_under_names s u v (w ∷ ws) f g here (marked s u v mark cut) in
    let y = cut_to u (length r.names) in
    let inside = resolves_under_names r u y ws f g here refl in
    let last = resolves_in_interval s y (cut_to y (length s.names)) w (under_names ws f) (under_names (replicate (length ws) 0) g) inside refl in
    let settles = settled s (cut_to y (length s.names)) v (λ G. under_names ws f (Interval w ∷ G)) (λ H. under_names (replicate (length ws) 0) g (Interval 0 ∷ H))
    whole.keeps.names (ap (λ q. q.so_far) cut) last in
    let spelt : Means Word Tree = λ G. under_names ws f (Interval w ∷ G) in
    subst (λ o. Resolves s v spelt (at_name o)) (sym opened)
    (subst (λ z. Resolves s v spelt (λ H. z (Interval 0 ∷ H))) (sym makes)
    (subst (λ k. Resolves s v spelt (λ H. under_names (replicate k 0) g (Interval 0 ∷ H))) (length-map xs (word bytes) ∙ sym count) settles))

-- the text stands under its first variable
pub written_motive : (bytes : List ℕ) {s r q t u v : State} {m n : ℕ} (x : Span) (xs : List Span) (ts : List Tele) (e : Exp) (bs : List BinderOf) (B C D : Code) {p : Span} (O : Opened) (f : Means Word Tree)
    → m ≡ length s.names → n ≡ length xs → r ≡ bound_to s (word bytes x) binding.Variable → q ≡ all_bound_to r (words_of bytes xs) binding.Variable
    → Binds q t (binders_of bytes ts) (code_binders bs) → Resolves t u (term_of bytes e) (code_term B) → v ≡ cut_to u m
    → meaning C ≡ under lam (map binder bs) (meaning B) → meaning D ≡ over lam (replicate n 0) nat (meaning C) → O ≡ Under p D
    → ((G : Scope Word) (H : Scope ℕ) → Agree s G H → over lam (words_of bytes xs) nat (under lam (binders_of bytes ts) (term_of bytes e)) (Variable (word bytes x) nat ∷ G) ≡ f G)
    → Resolves s v f (code_motive O)
unfolding code_term code_motive code_binders
written_motive bytes {s = s} {t = t} {u = u} {v = v} {n = n} x xs ts e bs B C D O f mark count first rest binds inner cut makes more opened spelt =
    let w = word bytes x in
    let ws = words_of bytes xs in
    let bs' = binders_of bytes ts in
    let cs = map binder bs in
    let h = term_of bytes e in
    let g = meaning B in
    let r = bound_to s w binding.Variable in
    let q = all_bound_to r ws binding.Variable in
    let here : Binds q t bs' cs = subst (λ z. Binds z t bs' cs) (rest ∙ ap (λ z. all_bound_to z ws binding.Variable) first) binds in
    let a = cut_to u (length q.names) in
    let innermost = resolves_under lam q t u a bs' cs h g here.extends here.terms inner refl in
    let b = cut_to a (length r.names) in
    let middle = resolves_over lam nat r a b ws (under lam bs' h) (under lam cs g) innermost refl in
    let c = cut_to b (length s.names) in
    let last = resolves_in_variable s b c w nat (over lam ws nat (under lam bs' h)) (over lam (replicate (length ws) 0) nat (under lam cs g)) middle refl in
    let named = binds_more s s s q [] [] (w ∷ ws) (λ G. done universe) (λ H. done universe) (binds_none s) (resolves_done s universe) refl in
    let reached : Extends s t = extends_then s q t named.extends here.extends in
    let settles = settled s c v (λ G. over lam ws nat (under lam bs' h) (Variable w nat ∷ G)) (λ H. over lam (replicate (length ws) 0) nat (under lam cs g) (Variable 0 nat ∷ H))
    (keeps_cut s t u v reached inner.keeps (marked s u v mark cut)).names (ap (λ z. z.so_far) cut) last in
    subst (λ o. Resolves s v f (at_variable o)) (sym opened)
    (subst (λ z. Resolves s v f (λ H. z (Variable 0 nat ∷ H))) (sym more)
    (subst (λ z. Resolves s v f (λ H. over lam (replicate n 0) nat z (Variable 0 nat ∷ H))) (sym makes)
    (subst (λ k. Resolves s v f (λ H. over lam (replicate k 0) nat (under lam cs g) (Variable 0 nat ∷ H))) (length-map xs (word bytes) ∙ sym count)
    (resolves_where s v (λ G. over lam ws nat (under lam bs' h) (Variable w nat ∷ G)) f (λ H. over lam (replicate (length ws) 0) nat (under lam cs g) (Variable 0 nat ∷ H)) spelt settles))))
