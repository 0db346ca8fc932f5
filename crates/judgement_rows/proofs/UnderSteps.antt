-- What is spelt under binders and names.
use Rattle.std.proofs.Common.{◌≡◌, ◌+◌, ℕ, zero, suc, List, [], ◌∷◌, ◌++◌, map, replicate, Option, Some, refl, sym, ap, ◌∙◌, arith, subst}
use Rattle.trees.specs.Trees.{Tree}
use Rattle.trees.specs.Things.{Meanings, AContext}
use Rattle.trees.proofs.Meanings.{kept-same}
use Rattle.translation.specs.Terms.{lifted}
use Rattle.translation.specs.Scopes.{Scope, Variable, Interval, context_of}
use Rattle.translation.specs.Translated.{done, ◌>>=◌, with}
use Rattle.translation.specs.Forms.{Means, under, under_names}
use Rattle.codes.specs.declared.code.Binder.{Binder}
use Rattle.codes.specs.Codes.{meaning, binder, body_of}
use Rattle.form_rows.specs.Meant.{Is, Are}
use Rattle.form_rows.specs.Systems.{path_lambdas}
use Rattle.form_rows.proofs.RowLaws.{kept_then, are_kept, are_none, are_more, are_parts, are_length}
use Rattle.judgement_rows.specs.declared.places.Place.{Place}
use Rattle.judgement_rows.specs.declared.places.Under.{Under}
use Rattle.judgement_rows.specs.declared.bodies.Body.{Body}
use Rattle.numbered_scope.specs.Newest.{newest}
use Rattle.judgement_rows.specs.Places.{BoundIn, AllNamedIn, copies}
use Rattle.judgement_rows.specs.Steps.{State, Fits, FitsSome, StandsFor, Moves, Spells, Row, depth_of}
use Rattle.judgement_rows.specs.Words.{IsUnder}
use Rattle.judgement_rows.specs.Under.{intervals, variables, entered, folded}
use Rattle.judgement_rows.proofs.Moving.{moves_done, moves_then, stands_deeper, fits_kept, Makes}
use Rattle.judgement_rows.proofs.FormSteps.{moves_later}
use Rattle.judgement_rows.proofs.UnderLaws.{under_is, entered_push, names_are, context_names, context_variables}

-- scopes further in

depth_variables : (n : ℕ) (A : Tree) (H : Scope ℕ) → depth_of (variables n A H) ≡ depth_of H + n
depth_variables zero A H = omega arith
depth_variables (suc n) A H = let h = depth_variables n (lifted A) (Variable 0 A ∷ H) in omega arith

depth_intervals : (n : ℕ) (H : Scope ℕ) → depth_of (intervals n H) ≡ depth_of H + n
depth_intervals zero H = omega arith
depth_intervals (suc n) H = let h = depth_intervals n (Interval 0 ∷ H) in omega arith

stands_variables : (n : ℕ) (A : Tree) (H : Scope ℕ) (f : Meanings) (d e : ℕ) (o : Option Body) (m : ℕ) → e ≡ d + n → StandsFor f d o (body_of H m) → StandsFor f e o (body_of (variables n A H) m)
stands_variables zero A H f d e o m same h = let s : d ≡ e = omega arith in subst (λ k. StandsFor f k o (body_of H m)) s h
stands_variables (suc n) A H f d e o m same h =
    stands_variables n (lifted A) (Variable 0 A ∷ H) f (d + 1) e o m (omega arith) (stands_deeper f d (d + 1) o (body_of H m) refl h)

stands_intervals : (n : ℕ) (H : Scope ℕ) (f : Meanings) (d e : ℕ) (o : Option Body) (m : ℕ) → e ≡ d + n → StandsFor f d o (body_of H m) → StandsFor f e o (body_of (intervals n H) m)
stands_intervals zero H f d e o m same h = let s : d ≡ e = omega arith in subst (λ k. StandsFor f k o (body_of H m)) s h
stands_intervals (suc n) H f d e o m same h =
    stands_intervals n (Interval 0 ∷ H) f (d + 1) e o m (omega arith) (stands_deeper f d (d + 1) o (body_of H m) refl h)

fits_variables : (s t : State) (p q : Under) (ty n : ℕ) (A : Tree) (H : Scope ℕ) → Makes s t → BoundIn s.means t.means p q ty n → Is s.means ty A → Fits s p.place H → Fits t q.place (variables n A H)
fits_variables s t p q ty n A H more b a h =
    let here = fits_kept s t p.place H more.kept more.bodies h in
    record {
      context = b.context (context_of H) A h.context a ∙ ap (λ G. Some (AContext G)) (sym (context_variables n A H));
      depth = let x = h.depth in let y = b.depth in let z = depth_variables n A H in omega arith;
      bodies = λ m. stands_variables n A H t.means p.place.depth q.place.depth (newest t.bodies m) m b.depth (here.bodies m);
    }

pub fits_names : (s t : State) (p q : Place) (n : ℕ) (H : Scope ℕ) → Makes s t → AllNamedIn s.means t.means p n q → Fits s p H → Fits t q (intervals n H)
fits_names s t p q n H more b h =
    let here = fits_kept s t p H more.kept more.bodies h in
    record {
      context = b.context (context_of H) h.context ∙ ap (λ G. Some (AContext G)) (sym (context_names n H));
      depth = let x = h.depth in let y = b.depth in let z = depth_intervals n H in omega arith;
      bodies = λ m. stands_intervals n H t.means p.depth q.depth (newest t.bodies m) m b.depth (here.bodies m);
    }

-- binders

are_append : (f : Meanings) (rs qs : List ℕ) (ts us : List Tree) → Are f rs ts → Are f qs us → Are f (rs ++ qs) (ts ++ us)
are_append f [] qs [] us a b = b
are_append f [] qs (t ∷ ts) us a b = absurd (let l = are_length a in cc)
are_append f (r ∷ rs) qs [] us a b = absurd (let l = are_length a in cc)
are_append f (r ∷ rs) qs (t ∷ ts) us a b = let h = are_parts f r rs t ts a in are_more h.0 (are_append f rs qs ts us h.1 b)

pub under_none : (s : State) (p : Place) (u : Under) → u.place ≡ p → u.types.items ≡ [] → Spells s s p (IsUnder u) (entered [])
under_none s p u e d = record {
  kept = kept-same s.means;
  bodies = refl;
  moves = λ H h. moves_done s s (IsUnder u) ([], H) refl (record { types = subst (λ xs. Are s.means xs []) (sym d) (are_none s.means); fits = subst (λ q. Fits s q H) (sym e) h });
}

pub under_more : {s t w x : State} {p : Place} {u v : Under} {ty : ℕ} (bs : List Binder) (b : Binder) → Spells s t p (IsUnder u) (entered bs) → Spells t w u.place (Row ty) (meaning b.ty)
    → Makes w x → BoundIn w.means x.means u v ty b.names → Spells s x p (IsUnder v) (entered (bs ++ b ∷ []))
under_more {s} {t} {w} {x} {p} {u} {v} {ty} bs b first second more bound = record {
  kept = kept_then first.kept (kept_then second.kept more.kept);
  bodies = more.bodies ∙ second.bodies ∙ first.bodies;
  moves = λ H h. subst (Moves s x (IsUnder v)) (entered_push bs b H)
      (moves_then s t x (IsUnder u) (IsUnder v) (entered bs H) (λ e. meaning b.ty e.1 >>= λ A. done (e.0 ++ copies b.names A, variables b.names A e.1)) (kept_then second.kept more.kept) (first.moves H h)
      (λ e is. moves_then t w x (Row ty) (IsUnder v) (meaning b.ty e.1) (λ A. done (e.0 ++ copies b.names A, variables b.names A e.1)) more.kept (second.moves e.1 is.fits)
      (λ A a. moves_done w x (IsUnder v) (e.0 ++ copies b.names A, variables b.names A e.1) more.claims (record {
        types = subst (λ xs. Are x.means xs (e.0 ++ copies b.names A)) (sym bound.types)
            (are_append x.means u.types.items bound.more e.0 (copies b.names A) (are_kept (kept_then second.kept more.kept) is.types) (bound.are A a));
        fits = fits_variables w x u v ty b.names A e.1 more bound a (fits_kept t w u.place e.1 second.kept second.bodies is.fits);
      }))));
}

-- there is a scope under the binders
pub some_under : {s t : State} {p : Place} {u : Under} (bs : List Binder) → FitsSome s p → Spells s t p (IsUnder u) (entered bs) → FitsSome t u.place
some_under {s} {t} {p} {u} bs h a = ((entered bs h.0).value.1, (a.moves h.0 h.1).value.fits)

-- a body under binders, which closes over the types of the variables
pub closed_under : {s t w x : State} {p : Place} {u : Under} {row r : ℕ} {body : Means ℕ Tree} (make : Tree → Tree → Tree) (bs : List Binder) → Spells s t p (IsUnder u) (entered bs)
    → Spells t w u.place (Row row) body → Makes w x → ((As : List Tree) (b : Tree) → Are w.means u.types.items As → Is w.means row b → Is x.means r (folded make As b))
    → Spells s x p (Row r) (under make (map binder bs) body)
closed_under {s} {t} {w} {x} {p} {u} {row} {r} {body} make bs first second more close = record {
  kept = kept_then first.kept (kept_then second.kept more.kept);
  bodies = more.bodies ∙ second.bodies ∙ first.bodies;
  moves = λ H h. subst (Moves s x (Row r)) (sym (under_is make bs body H))
      (moves_then s t x (IsUnder u) (Row r) (entered bs H) (λ e. with (folded make e.0) (body e.1)) (kept_then second.kept more.kept) (first.moves H h)
      (λ e is. moves_then t w x (Row row) (Row r) (body e.1) (λ b. done (folded make e.0 b)) more.kept (second.moves e.1 is.fits)
      (λ b b_is. moves_done w x (Row r) (folded make e.0 b) more.claims (close e.0 b (are_kept second.kept is.types) b_is))));
}

-- a body under names
pub under_all_names : {s t w x : State} {p q : Place} {row r n : ℕ} {body : Means ℕ Tree} → Makes s t → AllNamedIn s.means t.means p n q → Spells t w q (Row row) body → Makes w x
    → ((b : Tree) → Is w.means row b → Is x.means r (path_lambdas n b)) → Spells s x p (Row r) (under_names (replicate n 0) body)
under_all_names {s} {t} {w} {x} {p} {q} {row} {r} {n} {body} start named second more close = record {
  kept = kept_then start.kept (kept_then second.kept more.kept);
  bodies = more.bodies ∙ second.bodies ∙ start.bodies;
  moves = λ H h. subst (Moves s x (Row r)) (sym (names_are n body H))
      (moves_then s w x (Row row) (Row r) (body (intervals n H)) (λ b. done (path_lambdas n b)) more.kept
      (moves_later s t w (Row row) (body (intervals n H)) start (second.moves (intervals n H) (fits_names s t p q n H start named h)))
      (λ b b_is. moves_done w x (Row r) (path_lambdas n b) more.claims (close b b_is)));
}
