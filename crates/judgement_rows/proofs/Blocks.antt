-- Definitions, and what stands after them.
use Rattle.std.proofs.Common.{◌≡◌, ◌==◌, ◌-◌, ℕ, true, false, List, [], ◌∷◌, ◌++◌, map, length, take, Option, Some, None, refl, sym, ap, ap₂, ◌∙◌, arith, subst, if◌then◌else◌}
use Rattle.trees.specs.declared.op.Op.TheVariants as op
use Rattle.trees.specs.Trees.{Tree, apply, shift_by}
use Rattle.trees.specs.Language.{Ty, Tm}
use Rattle.trees.specs.Judgements.{Context}
use Rattle.trees.specs.Things.{Meanings, AContext, Kept}
use Rattle.trees.specs.Claimed.{claimed}
use Rattle.trees.specs.declared.claim.Claim.TheVariants as claim
use Rattle.trees.proofs.Meanings.{kept-same}
use Rattle.substitution.proofs.ThenLaws.{apply-id}
use Rattle.translation.specs.Terms.{pi, lam}
use Rattle.translation.specs.Scopes.{Scope, Definition, context_of}
use Rattle.translation.specs.Translated.{done, states, ◌>>=◌, with}
use Rattle.translation.specs.Forms.{Means, after, define, defined, under}
use Rattle.codes.specs.declared.code.CodeDef.{CodeDef}
use Rattle.codes.specs.declared.code.Binder.{Binder}
use Rattle.codes.specs.Codes.{body_of, definition, definitions, and_then, binder}
use Rattle.codes.proofs.Logs.{then_done, then_assoc, then_same}
use Rattle.form_rows.specs.Meant.{Is, Are, nest}
use Rattle.form_rows.proofs.RowLaws.{kept_then, is_kept, are_kept}
use Rattle.judgement_rows.specs.declared.places.Place.{Place}
use Rattle.judgement_rows.specs.declared.places.Under.{Under}
use Rattle.judgement_rows.specs.declared.bodies.Body.{Body}
use Rattle.numbered_scope.specs.Newest.{newest, later}
use Rattle.numbered_scope.specs.declared.numbered.Numbered.{Numbered}
use Rattle.numbered_scope.proofs.Searches.{newest_append}
use Rattle.judgement_rows.specs.Steps.{State, Fits, Stands, StandsFor, Moves, Spells, Row}
use Rattle.judgement_rows.specs.Words.{IsUnder, Defines}
use Rattle.judgement_rows.specs.Under.{entered, folded}
use Rattle.judgement_rows.proofs.Moving.{moves_done, moves_then, moves_as, fits_kept}
use Rattle.judgement_rows.proofs.UnderLaws.{under_is}

-- definitions in order

pub block_none : (s : State) (p : Place) → Defines s s p (λ G. done G)
block_none s p = record {
  kept = kept-same s.means;
  bodies = take_all_of s.bodies;
  moves = λ H f. moves_done s s (λ t G. Fits t p G) H refl f;
}
  where
    take_all_of : {A : Type 0} (xs : List A) → take (length xs) xs ≡ xs
    take_all_of [] = refl
    take_all_of (x ∷ xs) = ap (λ ys. x ∷ ys) (take_all_of xs)

-- the first of what are the first
take_first : {A : Type 0} (xs ys zs : List A) → take (length xs) ys ≡ xs → take (length ys) zs ≡ ys → take (length xs) zs ≡ xs
take_first [] ys zs a b = refl
take_first (x ∷ xs) [] zs a b = absurd (cc)
take_first (x ∷ xs) (y ∷ ys) [] a b = absurd (cc)
take_first (x ∷ xs) (y ∷ ys) (z ∷ zs) a b =
    let e : y ≡ x = cc in
    let d : z ≡ y = cc in
    let a' : take (length xs) ys ≡ xs = cc in
    let b' : take (length ys) zs ≡ ys = cc in
    ap₂ (λ v vs. v ∷ vs) (d ∙ e) (take_first xs ys zs a' b')

pub defines_then : {s t u : State} {p : Place} (f g : Means ℕ (Scope ℕ)) → Defines s t p f → Defines t u p g → Defines s u p (and_then f g)
defines_then {s} {t} {u} {p} f g a b = record {
  kept = kept_then a.kept b.kept;
  bodies = take_first s.bodies t.bodies u.bodies a.bodies b.bodies;
  moves = λ H h. moves_then s t u (λ v G. Fits v p G) (λ v G. Fits v p G) (f H) g b.kept (a.moves H h) (λ G i. b.moves G i);
}

pub defines_same : {s t : State} {p : Place} (f g : Means ℕ (Scope ℕ)) → ((H : Scope ℕ) → f H ≡ g H) → Defines s t p f → Defines s t p g
defines_same {s} {t} {p} f g e a = record {
  kept = a.kept;
  bodies = a.bodies;
  moves = λ H h. subst (λ m. Moves s t (λ v G. Fits v p G) m) (e H) (a.moves H h);
}

pub block_push : (ds : List CodeDef) (d : CodeDef) (G : Scope ℕ) → and_then (definitions ds) (definition d) G ≡ definitions (ds ++ d ∷ []) G
block_push [] d G = sym (then_done (definition d G))
block_push (e ∷ ds) d G =
    then_assoc (definition e G) (definitions ds) (definition d)
    ∙ then_same (definition e G) (λ H. definitions ds H >>= definition d) (definitions (ds ++ d ∷ [])) (block_push ds d (definition e G).value)

-- a term after definitions, which are out of scope then
pub after_block : {s t u v : State} {p : Place} {r : ℕ} (block : Means ℕ (Scope ℕ)) (term : Means ℕ Tree) → Defines s t p block → Spells t u p (Row r) term
    → v.means ≡ u.means → v.claims ≡ u.claims → v.bodies ≡ take (length s.bodies) u.bodies → Spells s v p (Row r) (after block term)
after_block {s} {t} {u} {v} {p} {r} block term a b means claims bodies =
    let kept : Kept u.means v.means = subst (λ f. Kept u.means f) (sym means) (kept-same u.means) in
    record {
      kept = kept_then (kept_then a.kept b.kept) kept;
      bodies = bodies ∙ ap (take (length s.bodies)) b.bodies ∙ a.bodies;
      moves = λ H h. moves_then s t v (λ w G. Fits w p G) (Row r) (block H) term (kept_then b.kept kept) (a.moves H h)
          (λ G i. moves_as t u v (Row r) (Row r) (term G) kept claims (λ x y. is_kept kept y) (b.moves G i));
    }

-- a definition comes into scope
pub fits_definition : (s t : State) (p : Place) (H : Scope ℕ) (b : Numbered Body) (tree : Tree) → Kept s.means t.means → t.bodies ≡ s.bodies ++ b ∷ [] → b.value.depth ≡ p.depth → Is t.means b.value.row tree
    → Fits s p H → Fits t p (Definition b.number tree ∷ H)
fits_definition s t p H b tree k e d h f = record {
  context = k.keeps _ _ f.context;
  depth = f.depth;
  bodies = λ n. subst (λ o. StandsFor t.means p.depth o (if b.number == n then tree else body_of H n)) (sym (ap (λ bs. newest bs n) e ∙ newest_append s.bodies (b ∷ []) n))
      (elim (b.number == n) as (λ v. StandsFor t.means p.depth (later (newest s.bodies n) (if v then Some b.value else None)) (if v then tree else body_of H n)) [
        | true ↦ here
        | false ↦ later_on (newest s.bodies n) (body_of H n) (f.bodies n)
      ]);
}
  where
    here : Stands t.means p.depth b.value tree
    here = record {
      tree = tree;
      row = h;
      within = omega (arith, d);
      weakened = let z : p.depth - b.value.depth ≡ 0 = omega (arith, d) in sym (ap (λ n. apply tree (shift_by n)) z ∙ apply-id tree);
    }

    later_on : (o : Option Body) (x : Tree) → StandsFor s.means p.depth o x → StandsFor t.means p.depth o x
    later_on None x i = i
    later_on (Some c) x i = record { tree = i.tree; row = is_kept k i.row; within = i.within; weakened = i.weakened }

-- types and bodies over the same variables
pub folded_pair : (As : List Tree) (B b : Tree) → folded (λ A (s : Tree × Tree). (pi A s.0, lam A s.1)) As (B, b) ≡ (nest op.Pi As B, nest op.Lam As b)
folded_pair [] B b = refl
folded_pair (A ∷ As) B b = ap (λ (s : Tree × Tree). (pi A s.0, lam A s.1)) (folded_pair As B b)

pub folded_one : (o : _) (As : List Tree) (t : Tree) → folded (λ A b. nest o (A ∷ []) b) As t ≡ nest o As t
folded_one o [] t = refl
folded_one o (A ∷ As) t = ap (λ b. nest o (A ∷ []) b) (folded_one o As t)

-- the two claims of a definition
pub two_claims : (f : Meanings) (ctx ty row : ℕ) (G : Context) (A t : Tree) → f ctx ≡ Some (AContext G) → Is f ty A → Is f row t
    → map (claimed f) (claim.Ty ctx ty ∷ claim.Tm ctx row ty ∷ []) ≡ map Some (Ty G A ∷ Tm G t A ∷ [])
two_claims f ctx ty row G A t c a b = rw (c, a.is, b.is) refl

-- A definition: its binders, its type and its body were spelt, both were closed, its judgements were claimed, and its body came into scope.
module _ (s t w x z : State) (p : Place) (u : Under) (bs : List Binder) (type body : Means ℕ Tree) (ty row closed_ty closed_row n : ℕ)
    (first : Spells s t p (IsUnder u) (entered bs)) (second : Spells t w u.place (Row ty) type) (third : Spells w x u.place (Row row) body) (kept : Kept x.means z.means)
    (types_close : (As : List Tree) (B : Tree) → Are x.means u.types.items As → Is x.means ty B → Is z.means closed_ty (nest op.Pi As B))
    (bodies_close : (As : List Tree) (b : Tree) → Are x.means u.types.items As → Is x.means row b → Is z.means closed_row (nest op.Lam As b))
    (claims : z.claims ≡ x.claims ++ claim.Ty p.context closed_ty ∷ claim.Tm p.context closed_row closed_ty ∷ [])
    (bodies : z.bodies ≡ x.bodies ++ record { number = n; value = record { row = closed_row; depth = p.depth } } ∷ []) where
  abbrev made_pair : Tree → Tree × Tree → Tree × Tree
  made_pair A s = (pi A s.0, lam A s.1)

  abbrev inside : Means ℕ (Tree × Tree)
  inside G = do
    B ← type G
    b ← after (λ H. done H) body G
    done (B, b)

  abbrev AreBoth : ℕ → ℕ → State → Tree × Tree → Type 0
  AreBoth a b v At = Is v.means a At.0 × Is v.means b At.1

  -- before the claims
  abbrev before : State
  before = record { means = z.means; bodies = x.bodies; claims = x.claims }

  from_start : Kept s.means z.means
  from_start = kept_then first.kept (kept_then second.kept (kept_then third.kept kept))

  parts : (e : List Tree × Scope ℕ) → IsUnder u t e → Moves t x (AreBoth ty row) (inside e.1)
  parts e is = moves_then t w x (Row ty) (AreBoth ty row) (type e.1) (λ B. body e.1 >>= λ b. done (B, b)) third.kept (second.moves e.1 is.fits)
      (λ B b_is. moves_then w x x (Row row) (AreBoth ty row) (body e.1) (λ b. done (B, b)) (kept-same x.means)
      (third.moves e.1 (fits_kept t w u.place e.1 second.kept second.bodies is.fits))
      (λ b r. moves_done x x (AreBoth ty row) (B, b) refl (is_kept third.kept b_is, r)))

  closes : (e : List Tree × Scope ℕ) → IsUnder u t e → Moves t before (AreBoth closed_ty closed_row) (with (folded made_pair e.0) (inside e.1))
  closes e is = moves_then t x before (AreBoth ty row) (AreBoth closed_ty closed_row) (inside e.1) (λ a. done (folded made_pair e.0 a)) kept (parts e is)
      (λ a r. moves_done x before (AreBoth closed_ty closed_row) (folded made_pair e.0 a) refl
      (subst (AreBoth closed_ty closed_row before) (sym (folded_pair e.0 a.0 a.1))
      (let here : Are x.means u.types.items e.0 = are_kept (kept_then second.kept third.kept) is.types in
      (types_close e.0 a.0 here r.0, bodies_close e.0 a.1 here r.1))))

  wholes : (H : Scope ℕ) → Fits s p H → Moves s before (AreBoth closed_ty closed_row) (under made_pair (map binder bs) inside H)
  wholes H h = subst (Moves s before (AreBoth closed_ty closed_row)) (sym (under_is made_pair bs inside H))
      (moves_then s t before (IsUnder u) (AreBoth closed_ty closed_row) (entered bs H) (λ e. with (folded made_pair e.0) (inside e.1)) (kept_then second.kept (kept_then third.kept kept)) (first.moves H h) closes)

  there : (H : Scope ℕ) → Fits s p H → Fits before p H
  there H h = fits_kept s before p H from_start (third.bodies ∙ second.bodies ∙ first.bodies) h

  pub definition_spelt : Defines s z p (define n (defined (map binder bs) type (λ G. done G) body))
  definition_spelt = record {
    kept = from_start;
    bodies = ap (take (length s.bodies)) (bodies ∙ ap (λ xs. xs ++ record { number = n; value = record { row = closed_row; depth = p.depth } } ∷ []) (third.bodies ∙ second.bodies ∙ first.bodies)) ∙ take_front s.bodies (record { number = n; value = record { row = closed_row; depth = p.depth } } ∷ []);
    moves = λ H h. moves_then s before z (AreBoth closed_ty closed_row) (λ v G. Fits v p G) (under made_pair (map binder bs) inside H)
        (λ At. states (record { name = n; context = context_of H; type = At.0; body = At.1 }) >>= λ _. done (Definition n At.1 ∷ H)) (kept-same z.means) (wholes H h)
        (λ At r. record {
          value = fits_definition before z p H (record { number = n; value = record { row = closed_row; depth = p.depth } }) At.1 (kept-same z.means) bodies refl r.1 (there H h);
          states = record {
            more = claim.Ty p.context closed_ty ∷ claim.Tm p.context closed_row closed_ty ∷ [];
            claims = claims;
            say = two_claims z.means p.context closed_ty closed_row (context_of H) At.0 At.1 (there H h).context r.0 r.1;
          };
        });
  }
    where
      take_front : {A : Type 0} (xs ys : List A) → take (length xs) (xs ++ ys) ≡ xs
      take_front [] ys = refl
      take_front (a ∷ xs) ys = ap (λ l. a ∷ l) (take_front xs ys)
