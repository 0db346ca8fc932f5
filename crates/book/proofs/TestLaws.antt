-- The uses of rules that the tests make.
use Rattle.std.proofs.Common.{◌≡◌, ◌≤◌, ℕ, List, [], ◌∷◌, length, take, refl, sym, ◌∙◌, ap, ap₂, subst, arith, Option, Some}
use Rattle.std.proofs.Common.{zero as none, suc as more}
use Rattle.std.specs.List.{All}
use Rattle.std.proofs.lemmas.List.Elements.{All-nil, All-cons}
use Rattle.theory.specs.declared.rule.RuleName.TheVariants.{Contexts, Instances, Universe, Pi, Naturals}
use Rattle.theory.specs.declared.rule.InstanceRule.TheVariants.{TmVar}
use Rattle.theory.specs.declared.rule.PiRule.TheVariants.{Lam}
use Rattle.theory.specs.declared.rule.ContextRule.TheVariants.{CtxNil}
use Rattle.theory.specs.declared.rule.UniverseRule.TheVariants.{TyU}
use Rattle.theory.specs.declared.rule.NatRule.TheVariants.{NatU, Zero, Suc}
use Rattle.trees.specs.Trees.{Tree, Var}
use Rattle.trees.specs.Judgements.{Context, Nil, WithVar, trees}
use Rattle.trees.specs.Language.{Ctx, Ty, Tm}
use Rattle.rules.specs.Rules.{rule_at}
use Rattle.rules.specs.Shifts.{ShiftFits, ShiftsFit}
use Rattle.conditions.specs.Sides.{SideHolds}
use Rattle.rules.specs.Table.{nat, zero, suc, universe, lam, pi}
use Rattle.trees.specs.declared.claim.Claim.{Claim}
use Rattle.trees.specs.declared.claim.Claim.TheVariants as claim
use Rattle.trees.specs.declared.claim.JudgementForm.{JudgementForm}
use Rattle.trees.specs.declared.claim.JudgementForm.TheVariants as form
use Rattle.trees.specs.Judgements.{Judgement}
use Rattle.trees.specs.Things.{Thing, ATree, ASubst, AContext, Meanings, both, consed, meanings}
use Rattle.trees.specs.Claims.{form_of, rows_of}
use Rattle.trees.specs.Claimed.{judged, claimed}
use Rattle.trees.proofs.Meanings.{meanings-cons, meanings-length}
use Rattle.rows.proofs.OptionLaws.{one-some}
use Rattle.theory.specs.declared.rule.RuleName.{RuleName}
use Rattle.book.specs.Contents.{Contents}
use Rattle.book.specs.Right.{IsUse}
use Rattle.book.specs.Shown.{book_means, book_concludes}
use Rattle.book.specs.Tests.{things_in, Follows}

judged-things : (f : JudgementForm) (xs : List Thing) (J : Judgement) → judged f xs ≡ Some J → xs ≡ things_in J
judged-things form.Ctx (AContext G ∷ []) J e = cc
judged-things form.Ty (AContext G ∷ ATree A ∷ []) J e = cc
judged-things form.TyEq (AContext G ∷ ATree A ∷ ATree B ∷ []) J e = cc
judged-things form.Tm (AContext G ∷ ATree a ∷ ATree A ∷ []) J e = cc
judged-things form.TmEq (AContext G ∷ ATree a ∷ ATree b ∷ ATree A ∷ []) J e = cc
judged-things form.Sb (AContext H ∷ ASubst d ∷ AContext G ∷ []) J e = cc
judged-things _ _ J e = cc

-- the rows of a claim mean what its judgement is about
pub claim-things : (f : Meanings) (c : Claim) (J : Judgement) → claimed f c ≡ Some J → meanings f (rows_of c) ≡ Some (things_in J)
claim-things f c J e =
    let o = one-some (judged (form_of c)) (meanings f (rows_of c)) J e in
    o.first_is ∙ ap Some (judged-things (form_of c) o.first J o.whole)

pub meanings-take : (f : Meanings) (n : ℕ) (ks : List ℕ) (xs : List Thing) → meanings f ks ≡ Some xs → meanings f (take n ks) ≡ Some (take n xs)
meanings-take f none ks xs e = refl
meanings-take f (more n) [] [] e = refl
meanings-take f (more n) [] (x ∷ xs) e = cc
meanings-take f (more n) (k ∷ ks) xs e =
    let m = meanings-cons f k ks xs e in
    ap₂ (both consed) m.first_is (meanings-take f n ks m.rest m.rest_is) ∙ ap (λ ys. Some (take (more n) ys)) (sym m.whole)

-- a use of the rule over the first rows of the claim
pub follows-use : (b : Contents) (rule : RuleName) (count premise : ℕ) (K : Judgement) → Follows b rule count premise K → (c : Claim) → claimed (book_means b) c ≡ book_concludes b premise → IsUse (book_means b) (book_concludes b) rule (take count (rows_of c)) (premise ∷ []) K
follows-use b rule count premise K u c says = record {
  things = take count (things_in u.first);
  judgements = u.first ∷ [];
  parts_are = meanings-take (book_means b) count (rows_of c) (things_in u.first) (claim-things (book_means b) c u.first (says ∙ u.concludes));
  premises_are = ap (λ o. both consed o (Some [])) u.concludes;
  instance = u.instance;
}

pub ctx_nil-use : (f : Meanings) (g : ℕ → Option Judgement) (parts premises : List ℕ) → parts ≡ [] → premises ≡ [] → IsUse f g (Contexts CtxNil) parts premises (Ctx Nil)
unfolding rule_at
ctx_nil-use f g parts premises no_parts no_premises = record {
  things = [];
  judgements = [];
  parts_are = rw no_parts refl;
  premises_are = rw no_premises refl;
  instance = record { rule = _; is = refl; wants = refl; sides = All-nil SideHolds; gives = refl };
}

-- rules of one premise

context-fits : (G : Context) → All ShiftFits (AContext G ∷ [])
context-fits G = All-cons ShiftFits (AContext G) [] tt (All-nil ShiftFits)

term-fits : (G : Context) (t : Tree) → All ShiftFits (AContext G ∷ ATree t ∷ [])
term-fits G t = All-cons ShiftFits (AContext G) (ATree t ∷ []) tt (All-cons ShiftFits (ATree t) [] tt (All-nil ShiftFits))

pub nat_u-follows : (b : Contents) (node : ℕ) (G : Context) → book_concludes b node ≡ Some (Ctx G) → Follows b (Naturals NatU) 1 node (Tm G (nat trees) (universe trees))
unfolding rule_at
nat_u-follows b node G e = record {
  first = Ctx G;
  concludes = e;
  within = omega arith;
  shifts = context-fits G;
  instance = record { rule = _; is = refl; wants = refl; sides = All-nil SideHolds; gives = refl };
}

pub zero-follows : (b : Contents) (node : ℕ) (G : Context) → book_concludes b node ≡ Some (Ctx G) → Follows b (Naturals Zero) 1 node (Tm G (zero trees) (nat trees))
unfolding rule_at
zero-follows b node G e = record {
  first = Ctx G;
  concludes = e;
  within = omega arith;
  shifts = context-fits G;
  instance = record { rule = _; is = refl; wants = refl; sides = All-nil SideHolds; gives = refl };
}

pub ty_u-follows : (b : Contents) (node : ℕ) (G : Context) (A : Tree) → book_concludes b node ≡ Some (Tm G A (universe trees)) → Follows b (Universe TyU) 2 node (Ty G A)
unfolding rule_at
ty_u-follows b node G A e = record {
  first = Tm G A (universe trees);
  concludes = e;
  within = omega arith;
  shifts = term-fits G A;
  instance = record { rule = _; is = refl; wants = refl; sides = All-nil SideHolds; gives = refl };
}

pub suc-follows : (b : Contents) (node : ℕ) (G : Context) (t : Tree) → book_concludes b node ≡ Some (Tm G t (nat trees)) → Follows b (Naturals Suc) 2 node (Tm G (suc trees t) (nat trees))
unfolding rule_at
suc-follows b node G t e = record {
  first = Tm G t (nat trees);
  concludes = e;
  within = omega arith;
  shifts = term-fits G t;
  instance = record { rule = _; is = refl; wants = refl; sides = All-nil SideHolds; gives = refl };
}

pub var-follows : (b : Contents) (node : ℕ) (G : Context) → book_concludes b node ≡ Some (Ty G (nat trees)) → Follows b (Instances TmVar) 2 node (Tm (WithVar G (nat trees)) (Var 0) (nat trees))
unfolding rule_at
var-follows b node G e = record {
  first = Ty G (nat trees);
  concludes = e;
  within = omega arith;
  shifts = term-fits G (nat trees);
  instance = record { rule = _; is = refl; wants = refl; sides = All-nil SideHolds; gives = refl };
}

-- a function, over the claims of its domain and its body
module _ (b : Contents) (domain body : ℕ) (G : Context) (A t B : Tree) (d : book_concludes b domain ≡ Some (Ty G A)) (e : book_concludes b body ≡ Some (Tm (WithVar G A) t B)) (ctx ty inner term to : ℕ) (says : claimed (book_means b) (claim.Ty ctx ty) ≡ book_concludes b domain) (told : claimed (book_means b) (claim.Tm inner term to) ≡ book_concludes b body) (parts : List ℕ) (are : parts ≡ ctx ∷ ty ∷ term ∷ to ∷ []) where
  abbrev f : Meanings
  f = book_means b

  lam-parts : meanings f parts ≡ Some (AContext G ∷ ATree A ∷ ATree t ∷ ATree B ∷ [])
  lam-parts =
      let c = meanings-cons f ctx (ty ∷ []) (AContext G ∷ ATree A ∷ []) (claim-things f (claim.Ty ctx ty) (Ty G A) (says ∙ d)) in
      let i = meanings-cons f inner (term ∷ to ∷ []) (AContext (WithVar G A) ∷ ATree t ∷ ATree B ∷ []) (claim-things f (claim.Tm inner term to) (Tm (WithVar G A) t B) (told ∙ e)) in
      let head : c.first ≡ AContext G = let w = c.whole in cc in
      let rest : c.rest ≡ ATree A ∷ [] = let w = c.whole in cc in
      let last : i.rest ≡ ATree t ∷ ATree B ∷ [] = let w = i.whole in cc in
      let y = meanings-cons f ty [] (ATree A ∷ []) (c.rest_is ∙ ap Some rest) in
      let tree : y.first ≡ ATree A = let w = y.whole in cc in
      ap (meanings f) are ∙ ap₂ (both consed) (c.first_is ∙ ap Some head) (ap₂ (both consed) (y.first_is ∙ ap Some tree) (i.rest_is ∙ ap Some last))

  pub lam-use : (premises : List ℕ) → premises ≡ domain ∷ body ∷ [] → IsUse f (book_concludes b) (Pi Lam) parts premises (Tm G (lam trees A t) (pi trees A B))
  unfolding rule_at
  lam-use premises ones = record {
    things = AContext G ∷ ATree A ∷ ATree t ∷ ATree B ∷ [];
    judgements = Ty G A ∷ Tm (WithVar G A) t B ∷ [];
    parts_are = lam-parts;
    premises_are = ap (meanings (book_concludes b)) ones ∙ ap₂ (both consed) d (ap (λ o. both consed o (Some [])) e);
    instance = record { rule = _; is = refl; wants = refl; sides = All-nil SideHolds; gives = refl };
  }

  pub lam-shifts : ShiftsFit (meanings f parts)
  lam-shifts = subst ShiftsFit (sym lam-parts) (All-cons ShiftFits (AContext G) (ATree A ∷ ATree t ∷ ATree B ∷ []) tt (All-cons ShiftFits (ATree A) (ATree t ∷ ATree B ∷ []) tt (All-cons ShiftFits (ATree t) (ATree B ∷ []) tt (All-cons ShiftFits (ATree B) [] tt (All-nil ShiftFits)))))

-- the same of lists that are these

module _ (b : Contents) (rule : RuleName) (count premise : ℕ) (K : Judgement) (u : Follows b rule count premise K) (c : Claim) (says : claimed (book_means b) c ≡ book_concludes b premise) (parts : List ℕ) (are : parts ≡ take count (rows_of c)) where
  pub follows-along : (premises : List ℕ) → premises ≡ premise ∷ [] → IsUse (book_means b) (book_concludes b) rule parts premises K
  follows-along premises one =
      subst (λ ps. IsUse (book_means b) (book_concludes b) rule ps premises K) (sym are)
      (subst (λ qs. IsUse (book_means b) (book_concludes b) rule (take count (rows_of c)) qs K) (sym one) (follows-use b rule count premise K u c says))

  pub follows-shifts : ShiftsFit (meanings (book_means b) parts)
  follows-shifts =
      let things = claim-things (book_means b) c u.first (says ∙ u.concludes) in
      subst ShiftsFit (sym (ap (meanings (book_means b)) are ∙ meanings-take (book_means b) count (rows_of c) (things_in u.first) things)) u.shifts

pub follows-within : (b : Contents) (rule : RuleName) (count premise : ℕ) (K : Judgement) → Follows b rule count premise K → (c : Claim) → claimed (book_means b) c ≡ book_concludes b premise → count ≤ length (rows_of c)
follows-within b rule count premise K u c says =
    let things = claim-things (book_means b) c u.first (says ∙ u.concludes) in
    omega (arith, u.within, meanings-length (book_means b) (rows_of c) (things_in u.first) things)
