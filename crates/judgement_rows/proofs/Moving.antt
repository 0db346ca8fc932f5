-- Steps of spelling, one after another.
use Rattle.std.proofs.Common.{◌≡◌, ◌+◌, ◌-◌, ℕ, List, [], ◌∷◌, ◌++◌, map, Option, Some, None, refl, sym, ap, ap₂, ◌∙◌, arith, subst, append_assoc}
use Rattle.trees.specs.Trees.{Tree, apply, shift_by, up}
use Rattle.trees.specs.Judgements.{Judgement}
use Rattle.trees.specs.Things.{Thing, Meanings, Kept, meanings}
use Rattle.trees.specs.Claims.{form_of, rows_of}
use Rattle.trees.specs.Claimed.{claimed, said}
use Rattle.trees.specs.declared.claim.Claim.{Claim}
use Rattle.trees.proofs.Meanings.{meanings-kept}
use Rattle.substitution.proofs.ThenLaws.{apply-apply, shift_by-then-shift_by}
use Rattle.translation.specs.Terms.{lifted}
use Rattle.translation.specs.Scopes.{Scope, Variable, Interval, Face, context_of}
use Rattle.translation.specs.Translated.{Translated, Stated, done, ◌>>=◌, judgements_of}
use Rattle.translation.specs.Forms.{Means}
use Rattle.codes.specs.declared.formula.Equation.{Equation}
use Rattle.codes.specs.Codes.{body_of}
use Rattle.codes.proofs.Logs.{append_empty, judgements_append, map_append}
use Rattle.form_rows.specs.Meant.{Is}
use Rattle.form_rows.specs.Formulas.{face_tree}
use Rattle.form_rows.proofs.RowLaws.{kept_then, is_kept}
use Rattle.judgement_rows.specs.declared.places.Place.{Place}
use Rattle.judgement_rows.specs.declared.places.Faced.{Faced}
use Rattle.judgement_rows.specs.declared.bodies.Body.{Body}
use Rattle.numbered_scope.specs.Newest.{newest}
use Rattle.judgement_rows.specs.Places.{OpenedIn, NamedIn, HoldIn}
use Rattle.judgement_rows.specs.Steps.{State, Fits, FitsSome, StandsFor, Claims, Moves, Spells}

-- claims go on to say what they say

said_kept : (f g : Meanings) → Kept f g → (c : Claim) (o : Option (List Thing)) (j : Judgement) → meanings f (rows_of c) ≡ o → said (form_of c) o ≡ Some j → claimed g c ≡ Some j
said_kept f g k c None j e h = absurd (let n : None ≡ Some j = h in cc)
said_kept f g k c (Some xs) j e h = ap (said (form_of c)) (meanings-kept f g k (rows_of c) xs e) ∙ h

claimed_kept : (f g : Meanings) → Kept f g → (c : Claim) (j : Judgement) → claimed f c ≡ Some j → claimed g c ≡ Some j
claimed_kept f g k c j h = said_kept f g k c (meanings f (rows_of c)) j refl h

pub claims_kept : (f g : Meanings) → Kept f g → (cs : List Claim) (js : List Judgement) → map (claimed f) cs ≡ map Some js → map (claimed g) cs ≡ map Some js
claims_kept f g k [] [] e = refl
claims_kept f g k [] (j ∷ js) e = absurd (cc)
claims_kept f g k (c ∷ cs) [] e = absurd (cc)
claims_kept f g k (c ∷ cs) (j ∷ js) e =
    let first : claimed f c ≡ Some j = cc in
    let rest : map (claimed f) cs ≡ map Some js = cc in
    ap₂ (λ x xs. x ∷ xs) (claimed_kept f g k c j first) (claims_kept f g k cs js rest)

pub claims_none : (s t : State) → t.claims ≡ s.claims → Claims s t []
claims_none s t e = record { more = []; claims = e ∙ sym (append_empty s.claims); say = refl }

pub claims_then : (s t u : State) (ds es : List (Stated ℕ)) → Kept t.means u.means → Claims s t ds → Claims t u es → Claims s u (ds ++ es)
claims_then s t u ds es k a b = record {
  more = a.more ++ b.more;
  claims = b.claims ∙ ap (λ cs. cs ++ b.more) a.claims ∙ append_assoc s.claims a.more b.more;
  say = map_append (claimed u.means) a.more b.more
      ∙ ap₂ (λ x y. x ++ y) (claims_kept t.means u.means k a.more (judgements_of ds) a.say) b.say
      ∙ sym (map_append Some (judgements_of ds) (judgements_of es))
      ∙ ap (map Some) (sym (judgements_append ds es));
}

-- at one scope

pub moves_done : {A : Type 0} (s t : State) (R : State → A → Type 0) (a : A) → t.claims ≡ s.claims → R t a → Moves s t R (done a)
moves_done s t R a e h = record { value = h; states = claims_none s t e }

pub moves_then : {A B : Type 0} (s t u : State) (R : State → A → Type 0) (Q : State → B → Type 0) (m : Translated ℕ A) (k : A → Translated ℕ B)
    → Kept t.means u.means → Moves s t R m → ((a : A) → R t a → Moves t u Q (k a)) → Moves s u Q (m >>= k)
moves_then s t u R Q m k kept first second =
    let next = second m.value first.value in
    record {
      value = next.value;
      states = claims_then s t u m.stated (k m.value).stated kept first.states next.states;
    }

-- what was made stands in another relation, later
pub moves_as : {A : Type 0} (s t u : State) (R Q : State → A → Type 0) (m : Translated ℕ A) → Kept t.means u.means → u.claims ≡ t.claims → ((a : A) → R t a → Q u a) → Moves s t R m → Moves s u Q m
moves_as s t u R Q m kept same as' h = record {
  value = as' m.value h.value;
  states = record {
    more = h.states.more;
    claims = same ∙ h.states.claims;
    say = claims_kept t.means u.means kept h.states.more (judgements_of m.stated) h.states.say;
  };
}

-- bodies that are weakened further

once_more : (t : Tree) (n : ℕ) → lifted (apply t (shift_by n)) ≡ apply t (shift_by (n + 1))
once_more t n = apply-apply t (shift_by n) up ∙ ap (apply t) (shift_by-then-shift_by n 1)

stands_kept : (f g : Meanings) (d : ℕ) (o : Option Body) (t : Tree) → Kept f g → StandsFor f d o t → StandsFor g d o t
stands_kept f g d None t k h = h
stands_kept f g d (Some b) t k h = record { tree = h.tree; row = is_kept k h.row; within = h.within; weakened = h.weakened }

pub stands_deeper : (f : Meanings) (d e : ℕ) (o : Option Body) (t : Tree) → e ≡ d + 1 → StandsFor f d o t → StandsFor f e o (lifted t)
stands_deeper f d e None t same h = ap lifted h
stands_deeper f d e (Some b) t same h = let w = h.within in record {
  tree = h.tree;
  row = h.row;
  within = omega arith;
  weakened = let n : d - b.depth + 1 ≡ e - b.depth = omega arith in ap lifted h.weakened ∙ once_more h.tree (d - b.depth) ∙ ap (λ k. apply h.tree (shift_by k)) n;
}

-- where a state and a place fit a scope

pub fits_kept : (s t : State) (p : Place) (H : Scope ℕ) → Kept s.means t.means → t.bodies ≡ s.bodies → Fits s p H → Fits t p H
fits_kept s t p H k e h = record {
  context = k.keeps _ _ h.context;
  depth = h.depth;
  bodies = λ n. subst (λ bs. StandsFor t.means p.depth (newest bs n) (body_of H n)) (sym e) (stands_kept s.means t.means p.depth (newest s.bodies n) (body_of H n) k (h.bodies n));
}

pub fits_variable : (s t : State) (p q : Place) (ty : ℕ) (H : Scope ℕ) (A : Tree) → Kept s.means t.means → t.bodies ≡ s.bodies → OpenedIn s.means t.means p ty q → Is s.means ty A → Fits s p H
    → Fits t q (Variable 0 A ∷ H)
fits_variable s t p q ty H A k e o a h =
    let here = fits_kept s t p H k e h in
    record {
      context = o.context (context_of H) A h.context a;
      depth = let d = h.depth in let i = o.depth in omega arith;
      bodies = λ n. stands_deeper t.means p.depth q.depth (newest t.bodies n) (body_of H n) o.depth (here.bodies n);
    }

pub fits_name : (s t : State) (p q : Place) (H : Scope ℕ) → Kept s.means t.means → t.bodies ≡ s.bodies → NamedIn s.means t.means p q → Fits s p H → Fits t q (Interval 0 ∷ H)
fits_name s t p q H k e o h =
    let here = fits_kept s t p H k e h in
    record {
      context = o.context (context_of H) h.context;
      depth = let d = h.depth in let i = o.depth in omega arith;
      bodies = λ n. stands_deeper t.means p.depth q.depth (newest t.bodies n) (body_of H n) o.depth (here.bodies n);
    }

pub fits_face : (s t : State) (p : Place) (es : List Equation) (q : Faced) (H : Scope ℕ) → Kept s.means t.means → t.bodies ≡ s.bodies → HoldIn s.means t.means p es q → Fits s p H
    → Fits t q.place (Face (face_tree es) ∷ H)
fits_face s t p es q H k e o h =
    let here = fits_kept s t p H k e h in
    record {
      context = o.context (context_of H) h.context;
      depth = o.depth ∙ h.depth;
      bodies = λ n. subst (λ d. StandsFor t.means d (newest t.bodies n) (body_of H n)) (sym o.depth) (here.bodies n);
    }

-- parts of one scope, one after another

pub some_kept : (s t : State) (p : Place) → Kept s.means t.means → t.bodies ≡ s.bodies → FitsSome s p → FitsSome t p
some_kept s t p k e h = (h.0, fits_kept s t p h.0 k e h.1)

pub some_after : {A : Type 0} {R : State → A → Type 0} {m : Means ℕ A} {s t : State} {p q : Place} → FitsSome s q → Spells s t p R m → FitsSome t q
some_after {s = s} {t = t} {q = q} h a = some_kept s t q a.kept a.bodies h

-- a part gives a value that is in the relation
pub given : {A : Type 0} {R : State → A → Type 0} {m : Means ℕ A} {s t : State} {p : Place} → FitsSome s p → Spells s t p R m → (a : A) × R t a
given {m = m} h a = ((m h.0).value, (a.moves h.0 h.1).value)

-- the state of one more making of rows
pub record Makes (s t : State) : Type 0 where
  pub kept : Kept s.means t.means
  pub bodies : t.bodies ≡ s.bodies
  pub claims : t.claims ≡ s.claims

pub spells_done : {A : Type 0} (s t : State) (p : Place) (R : State → A → Type 0) (a : A) → Makes s t → R t a → Spells s t p R (λ H. done a)
spells_done s t p R a g h = record { kept = g.kept; bodies = g.bodies; moves = λ H f. moves_done s t R a g.claims h }

pub spells_then : {A B : Type 0} {R : State → A → Type 0} {Q : State → B → Type 0} {m : Means ℕ A} {k : A → Means ℕ B} {s t u : State} {p : Place}
    → Spells s t p R m → ((a : A) → R t a → Spells t u p Q (k a)) → Kept t.means u.means → u.bodies ≡ t.bodies → Spells s u p Q (λ H. m H >>= λ a. k a H)
spells_then {R = R} {Q = Q} {m = m} {k = k} {s = s} {t = t} {u = u} {p = p} first second kept same = record {
  kept = kept_then first.kept kept;
  bodies = same ∙ first.bodies;
  moves = λ H f. moves_then s t u R Q (m H) (λ a. k a H) kept (first.moves H f) (λ a r. (second a r).moves H (fits_kept s t p H first.kept first.bodies f));
}
