-- What the programs of a rule say at given parts.
use Rattle.std.proofs.Common.{◌≡◌, ℕ, zero, suc, ◌+◌, ◌==◌, ◌&&◌, ◌<◌, ◌≤◌, nat_lt, Bool, true, false, not, IsTrue, List, [], ◌∷◌, length, get_or, refl, sym, ◌∙◌, ap, arith, Option, Some, None, IsSome, map, Result, Ok, Err, IfOk}
use Rattle.std.specs.Prelude.{slice_get, option_and_then}
use Rattle.std.specs.List.{list_all, list_any}
use Rattle.std.proofs.lemmas.Bool.{and_parts, eqb-true, ltb-true}
use Rattle.std.proofs.lemmas.List.{length-map}
use Rattle.std.proofs.lemmas.List.Sums.{AllPass-from_list_all}
use Rattle.trees.specs.declared.kind.PartKind.{PartKind}
use Rattle.trees.specs.declared.kind.PartKind.TheVariants as part
use Rattle.trees.specs.Judgements.{trees, TreeRule}
use Rattle.trees.specs.Things.{Thing, ATree, ASubst, AContext}
use Rattle.theory.specs.declared.rule.RuleName.{RuleName}
use Rattle.theory.specs.declared.rule.RuleName.TheVariants.{Contexts, Instances, Equality}
use Rattle.theory.specs.declared.rule.RuleName.TheVariants.{Universe, Pi, Sigma, Paths, Naturals}
use Rattle.theory.specs.declared.rule.RuleName.TheVariants.{Systems, Composition, Gluing}
use Rattle.theory.specs.declared.rule.ContextRule.TheVariants.{CtxNil}
use Rattle.theory.specs.declared.rule.InstanceRule.TheVariants.{TySub}
use Rattle.theory.specs.declared.rule.EqualityRule.TheVariants.{TyEqRefl}
use Rattle.theory.specs.declared.rule.UniverseRule.TheVariants.{TyUniv}
use Rattle.theory.specs.declared.rule.PiRule.TheVariants.{PiTy}
use Rattle.theory.specs.declared.rule.SigmaRule.TheVariants.{SigTy}
use Rattle.theory.specs.declared.rule.PathRule.TheVariants.{PathTy}
use Rattle.theory.specs.declared.rule.NatRule.TheVariants.{NatU}
use Rattle.theory.specs.declared.rule.SystemRule.TheVariants.{SysTy}
use Rattle.theory.specs.declared.rule.CompRule.TheVariants.{Comp}
use Rattle.theory.specs.declared.rule.GlueRule.TheVariants.{GlueTy}
use Rattle.theory.specs.RuleNames.{kinds_of, premises_of}
use Rattle.rules.specs.Table.{Over}
use Rattle.rules.specs.Rules.{tree_rule, over_parts, rule_at, AtAllParts, AtAll, AtAllCases}
use Rattle.rules.specs.Run.{rows_of_all}
use Rattle.rules.specs.Schemas.{judgement_of, condition_of, places_of, test_places, fits, has_then, all_fit, plain_fit, most_rows, most_wanted, is_bounded, Says, Means}
use Rattle.rules.specs.Claims.{rule_over, premise_at, side_at, sides_in, conclusion_of}
use Rattle.rules.specs.declared.instruction.Instruction.{Instruction}
use Rattle.rules.specs.declared.program.Program.{Program}
use Rattle.rules.specs.declared.program.Test.{Test}
use Rattle.rules.specs.declared.program.Schema.{Schema}

-- what holds by cases of the rule holds of each: the first line of a family makes the second run through the others
pub at_all : (name : RuleName) (P : List Thing → TreeRule → Type 0) → AtAllCases name P → AtAll name P
at_all (Contexts CtxNil) P h = h
at_all (Contexts name) P h = h
at_all (Instances TySub) P h = h
at_all (Instances name) P h = h
at_all (Equality TyEqRefl) P h = h
at_all (Equality name) P h = h
at_all (Universe TyUniv) P h = h
at_all (Universe name) P h = h
at_all (Pi PiTy) P h = h
at_all (Pi name) P h = h
at_all (Sigma SigTy) P h = h
at_all (Sigma name) P h = h
at_all (Paths PathTy) P h = h
at_all (Paths name) P h = h
at_all (Naturals NatU) P h = h
at_all (Naturals name) P h = h
at_all (Systems SysTy) P h = h
at_all (Systems name) P h = h
at_all (Composition Comp) P h = h
at_all (Composition name) P h = h
at_all (Gluing GlueTy) P h = h
at_all (Gluing name) P h = h

-- what holds of all parts holds where the rule stands
pub record AtParts (kinds : List PartKind) (r : Over trees kinds) (P : List Thing → TreeRule → Type 0) (xs : List Thing) : Type 0 where
  pub rule : TreeRule
  pub is : over_parts kinds r xs ≡ Some rule
  pub holds : P xs rule

pub at_parts : (kinds : List PartKind) (r : Over trees kinds) (P : List Thing → TreeRule → Type 0) → AtAllParts kinds r P → (xs : List Thing) → IsSome (over_parts kinds r xs) → AtParts kinds r P xs
at_parts [] r P h [] s = record { rule = r; is = refl; holds = h }
at_parts [] r P h (x ∷ xs) s = cc
at_parts (part.Context ∷ kinds) r P h [] s = cc
at_parts (part.Context ∷ kinds) r P h (ATree t ∷ xs) s = cc
at_parts (part.Context ∷ kinds) r P h (ASubst d ∷ xs) s = cc
at_parts (part.Context ∷ kinds) r P h (AContext G ∷ xs) s =
    let a = at_parts kinds (r G) (λ ys y. P (AContext G ∷ ys) y) (h G) xs s in
    record { rule = a.rule; is = a.is; holds = a.holds }
at_parts (part.Subst ∷ kinds) r P h [] s = cc
at_parts (part.Subst ∷ kinds) r P h (ATree t ∷ xs) s = cc
at_parts (part.Subst ∷ kinds) r P h (ASubst d ∷ xs) s =
    let a = at_parts kinds (r d) (λ ys y. P (ASubst d ∷ ys) y) (h d) xs s in
    record { rule = a.rule; is = a.is; holds = a.holds }
at_parts (part.Subst ∷ kinds) r P h (AContext G ∷ xs) s = cc
at_parts (part.Term ∷ kinds) r P h [] s = cc
at_parts (part.Term ∷ kinds) r P h (ATree t ∷ xs) s =
    let a = at_parts kinds (r t) (λ ys y. P (ATree t ∷ ys) y) (h t) xs s in
    record { rule = a.rule; is = a.is; holds = a.holds }
at_parts (part.Term ∷ kinds) r P h (ASubst d ∷ xs) s = cc
at_parts (part.Term ∷ kinds) r P h (AContext G ∷ xs) s = cc

-- the element at a place of two lists that agree under two functions
agree_at : {X Y Z : Type 0} (f : X → Z) (h : Y → Z) (xs : List X) (ys : List Y) → map f xs ≡ map h ys → (k : ℕ) (d : X) → k < length xs → option_and_then (λ y. Some (h y)) (slice_get ys k) ≡ Some (f (get_or xs k d))
agree_at f h [] ys e k d lt = absurd (omega arith)
agree_at f h (x ∷ xs) [] e k d lt = cc
agree_at f h (x ∷ xs) (y ∷ ys) e zero d lt = let p : f x ≡ h y = cc in ap Some (sym p)
agree_at f h (x ∷ xs) (y ∷ ys) e (suc k) d lt = let p : map f xs ≡ map h ys = cc in agree_at f h xs ys p k d (omega arith)

some_inside : {X : Type 0} (o : Option X) (v : Option X) → option_and_then (λ y. Some (Some y)) o ≡ Some v → v ≡ o
some_inside None v e = cc
some_inside (Some x) v e = cc

is_some : {X : Type 0} (o : Option X) (v : Option X) → option_and_then (λ y. Some (Some y)) o ≡ Some v → IsSome v
is_some None v e = cc
is_some (Some x) v e = let p : Some x ≡ v = cc in rw (sym p) refl

-- places that fit

pub record Fit (most : ℕ) (places : List (List Instruction)) : Type 0 where
  pub fit : list_all fits places ≡ true
  pub few : rows_of_all places < most

pub fit_of : (most : ℕ) (places : List (List Instruction)) → all_fit most places ≡ true → Fit most places
fit_of most places e =
    let parts = and_parts (list_all fits places) (nat_lt (rows_of_all places) most) e in
    record { fit = parts.0; few = ltb-true (rows_of_all places) most parts.1 }

pub room : (most spare : ℕ) (places : List (List Instruction)) → Fit most places → most ≤ spare + 1 → rows_of_all places ≤ spare
room most spare places fit enough = let few = fit.few in omega arith

pub spent : (most old new : ℕ) (places : List (List Instruction)) → Fit most places → old ≤ new + rows_of_all places → old < new + most
spent most old new places fit spends = let few = fit.few in omega arith

plain_of : (most : ℕ) (places : List (List Instruction)) → plain_fit most places ≡ true → Fit most places
plain_of most places e = fit_of most places (and_parts (all_fit most places) (not (list_any has_then places)) e).0

not_true : (b : Bool) → not b ≡ true → IsTrue b → ⊥
not_true true e t = cc
not_true false e t = cc

no_then : (most : ℕ) (places : List (List Instruction)) → plain_fit most places ≡ true → IsTrue (list_any has_then places) → ⊥
no_then most places e = not_true (list_any has_then places) (and_parts (all_fit most places) (not (list_any has_then places)) e).1

-- what the programs of a rule make of parts P
pub record Reading (name : RuleName) (s : Schema) (P : Option (List Thing)) : Type 0 where
  pub live : IsSome P
  pub gives : judgement_of P s.gives ≡ conclusion_of (rule_over name P)
  pub gives_some : IsSome (judgement_of P s.gives)
  pub gives_fit : Fit (most_rows name) (places_of s.gives)
  pub count : length s.wants.now ≡ premises_of name
  pub wants : (k : ℕ) (d : Program) → k < length s.wants.now → judgement_of P (get_or s.wants.now k d) ≡ premise_at k (rule_over name P)
  pub wants_some : (k : ℕ) (d : Program) → k < length s.wants.now → IsSome (judgement_of P (get_or s.wants.now k d))
  pub wants_fit : (k : ℕ) (d : Program) → k < length s.wants.now → Fit most_wanted (places_of (get_or s.wants.now k d))
  pub wants_plain : (k : ℕ) (d : Program) → k < length s.wants.now → IsTrue (list_any has_then (places_of (get_or s.wants.now k d))) → ⊥
  pub sides : (k : ℕ) (d : Test) → k < length s.sides.now → condition_of P (get_or s.sides.now k d) ≡ side_at k (rule_over name P)
  pub sides_some : (k : ℕ) (d : Test) → k < length s.sides.now → IsSome (condition_of P (get_or s.sides.now k d))
  pub sides_fit : (k : ℕ) (d : Test) → k < length s.sides.now → Fit most_wanted (test_places (get_or s.sides.now k d))
  pub sides_plain : (k : ℕ) (d : Test) → k < length s.sides.now → IsTrue (list_any has_then (test_places (get_or s.sides.now k d))) → ⊥
  pub sides_count : length s.sides.now ≡ sides_in (rule_over name P)

record Bounds (name : RuleName) (s : Schema) : Type 0 where
  pub count : length s.wants.now ≡ premises_of name
  pub wants : list_all (λ p. plain_fit most_wanted (places_of p)) s.wants.now ≡ true
  pub sides : list_all (λ t. plain_fit most_wanted (test_places t)) s.sides.now ≡ true
  pub gives : all_fit (most_rows name) (places_of s.gives) ≡ true

bounds : (name : RuleName) (s : Schema) → is_bounded name s ≡ true → Bounds name s
bounds name s e =
    let a = length s.wants.now == premises_of name in
    let b = list_all (λ p. plain_fit most_wanted (places_of p)) s.wants.now in
    let c = list_all (λ t. plain_fit most_wanted (test_places t)) s.sides.now in
    let last = and_parts (a && b && c) (all_fit (most_rows name) (places_of s.gives)) e in
    let third = and_parts (a && b) c last.0 in
    let first = and_parts a b third.0 in
    record { count = eqb-true (length s.wants.now) (premises_of name) first.0; wants = first.1; sides = third.1; gives = last.1 }

pub reading : (name : RuleName) (s : Schema) (P : Option (List Thing)) → Means name s → IsSome (rule_over name P) → Reading name s P
unfolding rule_at
reading name s None m some = cc
reading name s (Some xs) m some =
    let a = at_parts (kinds_of name) (tree_rule name) (Says s) (at_all name (Says s) m.0) xs some in
    let r : rule_at name xs ≡ Some a.rule = a.is in
    let h = a.holds in
    let b = bounds name s m.1 in
    record {
      live = refl;
      gives = h.2 ∙ sym (ap conclusion_of r);
      gives_some = rw h.2 refl;
      gives_fit = fit_of (most_rows name) (places_of s.gives) b.gives;
      count = b.count;
      wants = λ k d lt. some_inside (slice_get a.rule.wants k) _ (agree_at (judgement_of (Some xs)) Some s.wants.now a.rule.wants h.0 k d lt) ∙ sym (ap (premise_at k) r);
      wants_some = λ k d lt. is_some (slice_get a.rule.wants k) _ (agree_at (judgement_of (Some xs)) Some s.wants.now a.rule.wants h.0 k d lt);
      wants_fit = λ k d lt. plain_of most_wanted (places_of (get_or s.wants.now k d)) (AllPass-from_list_all (λ p. plain_fit most_wanted (places_of p)) s.wants.now b.wants k d lt);
      wants_plain = λ k d lt. no_then most_wanted (places_of (get_or s.wants.now k d)) (AllPass-from_list_all (λ p. plain_fit most_wanted (places_of p)) s.wants.now b.wants k d lt);
      sides = λ k d lt. some_inside (slice_get a.rule.sides k) _ (agree_at (condition_of (Some xs)) Some s.sides.now a.rule.sides h.1 k d lt) ∙ sym (ap (side_at k) r);
      sides_some = λ k d lt. is_some (slice_get a.rule.sides k) _ (agree_at (condition_of (Some xs)) Some s.sides.now a.rule.sides h.1 k d lt);
      sides_fit = λ k d lt. plain_of most_wanted (test_places (get_or s.sides.now k d)) (AllPass-from_list_all (λ t. plain_fit most_wanted (test_places t)) s.sides.now b.sides k d lt);
      sides_plain = λ k d lt. no_then most_wanted (test_places (get_or s.sides.now k d)) (AllPass-from_list_all (λ t. plain_fit most_wanted (test_places t)) s.sides.now b.sides k d lt);
      sides_count = sym (length-map s.sides.now (condition_of (Some xs))) ∙ ap length h.1 ∙ length-map a.rule.sides Some ∙ sym (ap sides_in r);
    }

-- a claim that says one thing says its equal
pub if_ok_then : {A E X : Type 0} (r : Result A E) (f : A → X) (x y : X) → IfOk r (λ a. f a ≡ x) → x ≡ y → IfOk r (λ a. f a ≡ y)
if_ok_then (Ok a) f x y h e = h ∙ e
if_ok_then (Err b) f x y h e = tt
