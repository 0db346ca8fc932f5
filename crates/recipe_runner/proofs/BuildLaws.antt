-- What rows build, over numbers that earlier rows made.
use Rattle.std.proofs.Common.{◌≡◌, ℕ, ◌<◌, List, [], ◌∷◌, take, length, refl, sym, ◌∙◌, ap, subst, arith, Option, Some, None, IsSome}
use Rattle.std.specs.Prelude.{slice_get, slice_index, option_and_then}
use Rattle.std.specs.List.{All}
use Rattle.std.proofs.lemmas.Option.{slice_get_within}
use Rattle.std.proofs.lemmas.List.Elements.{All-weaker}
use Rattle.rows.specs.Views.{ShiftAtMost}
use Rattle.rows.proofs.OptionLaws.{one-some}
use Rattle.theory.specs.declared.rule.RuleName.{RuleName}
use Rattle.theory.specs.RuleNames.{kinds_of, premises_of}
use Rattle.trees.specs.declared.op.Op.{Op}
use Rattle.trees.specs.Operators.{kids_of}
use Rattle.trees.specs.Trees.{greatest_shift}
use Rattle.trees.specs.Language.{Ctx, Ty, TyEq, Tm, TmEq, Sb}
use Rattle.trees.specs.declared.claim.Claim.{Claim}
use Rattle.trees.specs.declared.claim.JudgementForm.{JudgementForm}
use Rattle.trees.specs.declared.claim.JudgementForm.TheVariants as form
use Rattle.trees.specs.Claims.{form_of, rows_of}
use Rattle.trees.specs.Claimed.{judged, claimed}
use Rattle.trees.specs.Judgements.{Judgement}
use Rattle.trees.specs.Things.{Thing, ATree, ASubst, AContext, meanings, made, instance_of, pushed_on, then_of, with_variable, with_a_name, with_a_face}
use Rattle.trees.proofs.Meanings.{meanings-at, meanings-length}
use Rattle.trees.proofs.OptionLaws.{both_of_some}
use Rattle.rules.specs.Shifts.{ShiftFits, ShiftsFit}
use Rattle.book.specs.Contents.{Contents}
use Rattle.book.specs.Right.{IsUse}
use Rattle.book.specs.Shown.{book_means, book_nodes, book_concludes}
use Rattle.book.specs.Nodes.{judgement_of}
use Rattle.recipes.specs.declared.row.Row.{Row}
use Rattle.recipes.specs.declared.row.Row.TheVariants as row
use Rattle.recipes.specs.Made.{thing_at, node_at, fields_of, field_at, ShiftIsAtMost}
use Rattle.recipes.specs.Statements.{Statement}
use Rattle.recipes.specs.Derivations.{premises_at}
use Rattle.recipe_runner.specs.Running.{Builds, Infers, Supplies, MayDerive, numbers_at}
use Rattle.recipe_runner.proofs.NumberLaws.{IsThere, thing-there, node-there, things-there, nodes-there, TwoThere, two-there}

-- the kids of an operator
pub record KidsThere (b : Contents) (numbers kids : List ℕ) (op : Op) (x : Thing) : Type 0 where
  pub within : All (λ n. n < length numbers) (take (kids_of op) kids)
  pub gives : option_and_then (made op) (meanings (book_means b) (numbers_at numbers (take (kids_of op) kids))) ≡ Some x

pub kids-there : (b : Contents) (numbers : List ℕ) (op : Op) (kids : List ℕ) (x : Thing) → Builds b numbers (row.Make op kids) x → KidsThere b numbers kids op x
kids-there b numbers op kids x h =
    let o = one-some (made op) (meanings (thing_at h.known) (take (kids_of op) kids)) x h.built in
    let t = things-there b h.known numbers (take (kids_of op) kids) o.first h.numbers o.first_is in
    record { within = t.within; gives = rw t.are o.whole }

-- two rows that a row names

pub instance-there : (b : Contents) (numbers : List ℕ) (m n : ℕ) (x : Thing) → Builds b numbers (row.Instance m n) x → TwoThere b numbers instance_of m n x
instance-there b numbers m n x h = two-there b h.known numbers instance_of m n x h.numbers h.built

pub push-there : (b : Contents) (numbers : List ℕ) (m n : ℕ) (x : Thing) → Builds b numbers (row.Push m n) x → TwoThere b numbers pushed_on m n x
push-there b numbers m n x h = two-there b h.known numbers pushed_on m n x h.numbers h.built

pub variable-there : (b : Contents) (numbers : List ℕ) (m n : ℕ) (x : Thing) → Builds b numbers (row.WithVar m n) x → TwoThere b numbers with_variable m n x
variable-there b numbers m n x h = two-there b h.known numbers with_variable m n x h.numbers h.built

pub face-there : (b : Contents) (numbers : List ℕ) (m n : ℕ) (x : Thing) → Builds b numbers (row.WithFace m n) x → TwoThere b numbers with_a_face m n x
face-there b numbers m n x h = two-there b h.known numbers with_a_face m n x h.numbers h.built

pub record NameThere (b : Contents) (numbers : List ℕ) (n : ℕ) (x : Thing) : Type 0 where
  pub within : n < length numbers
  pub gives : option_and_then with_a_name (book_means b (slice_index numbers n)) ≡ Some x

pub name-there : (b : Contents) (numbers : List ℕ) (n : ℕ) (x : Thing) → Builds b numbers (row.WithName n) x → NameThere b numbers n x
name-there b numbers n x h =
    let o = one-some with_a_name (thing_at h.known n) x h.built in
    let t = thing-there b h.known numbers n o.first h.numbers o.first_is in
    record { within = t.within; gives = rw t.is o.whole }

-- the shifts that `then` takes

both-substs : (x y z : Thing) → then_of x y ≡ Some z → ShiftIsAtMost greatest_shift x → ShiftIsAtMost greatest_shift y → ShiftAtMost greatest_shift (Some x) × ShiftAtMost greatest_shift (Some y)
both-substs (ASubst d) (ASubst e) z h f g = (f, g)
both-substs (ASubst d) (ATree t) z h f g = absurd (cc h)
both-substs (ASubst d) (AContext G) z h f g = absurd (cc h)
both-substs (ATree t) y z h f g = absurd (cc h)
both-substs (AContext G) y z h f g = absurd (cc h)

pub record ThenThere (b : Contents) (numbers : List ℕ) (m n : ℕ) (z : Thing) : Type 0 where
  pub there : TwoThere b numbers then_of m n z
  pub first_shift : ShiftAtMost greatest_shift (book_means b (slice_index numbers m))
  pub second_shift : ShiftAtMost greatest_shift (book_means b (slice_index numbers n))

pub then-there : (b : Contents) (numbers : List ℕ) (m n : ℕ) (z : Thing) → Builds b numbers (row.Then m n) z → ThenThere b numbers m n z
then-there b numbers m n z h =
    let o = both_of_some then_of (thing_at h.known m) (thing_at h.known n) z h.built in
    let x = thing-there b h.known numbers m o.left h.numbers o.left_is in
    let y = thing-there b h.known numbers n o.right h.numbers o.right_is in
    let fit = both-substs o.left o.right z o.gives (h.takes.0 o.left o.left_is) (h.takes.1 o.right o.right_is) in
    record {
      there = two-there b h.known numbers then_of m n z h.numbers h.built;
      first_shift = subst (ShiftAtMost greatest_shift) (sym x.is) fit.0;
      second_shift = subst (ShiftAtMost greatest_shift) (sym y.is) fit.1;
    }

-- a rule

fits-then : (x : Thing) → ShiftIsAtMost greatest_shift x → ShiftFits x
fits-then (ASubst d) h = h
fits-then (ATree t) h = tt
fits-then (AContext G) h = tt

pub record RuleThere (b : Contents) (numbers : List ℕ) (name : RuleName) (ps ns : List ℕ) (J : Judgement) : Type 0 where
  pub parts_in : All (λ n. n < length numbers) (take (length (kinds_of name)) ps)
  pub nodes_in : All (λ n. n < length numbers) (take (premises_of name) ns)
  pub use_is : IsUse (book_means b) (book_concludes b) name (numbers_at numbers (take (length (kinds_of name)) ps)) (numbers_at numbers (take (premises_of name) ns)) J
  pub shifts : ShiftsFit (meanings (book_means b) (numbers_at numbers (take (length (kinds_of name)) ps)))

pub rule-there : (b : Contents) (numbers : List ℕ) (name : RuleName) (ps ns : List ℕ) (J : Judgement) → Infers b numbers name ps ns J → RuleThere b numbers name ps ns J
rule-there b numbers name ps ns J h =
    let c = h.concludes in
    let t = things-there b h.known numbers (take (length (kinds_of name)) ps) c.things h.numbers c.things_are in
    let n = nodes-there b h.known numbers (take (premises_of name) ns) c.premises h.numbers c.premises_are in
    record {
      parts_in = t.within;
      nodes_in = n.within;
      use_is = record {
        things = c.things;
        judgements = c.premises;
        parts_are = t.are;
        premises_are = n.are;
        instance = c.instance;
      };
      shifts = subst ShiftsFit (sym t.are) (All-weaker (ShiftIsAtMost greatest_shift) ShiftFits fits-then c.things c.shifts);
    }

-- an earlier recipe

pub record EarlierThere (earlier : List Statement) (b : Contents) (numbers : List ℕ) (k : ℕ) (ps ns : List ℕ) (gives : List Judgement) : Type 0 where
  pub statement : Statement
  pub is : slice_get earlier k ≡ Some statement
  pub parts_in : All (λ n. n < length numbers) (take (length statement.kinds) ps)
  pub nodes_in : All (λ n. n < length numbers) (take (length statement.wants) ns)
  pub may : MayDerive earlier b k (numbers_at numbers (take (length statement.kinds) ps)) (numbers_at numbers (take (length statement.wants) ns)) gives

pub earlier-there : (earlier : List Statement) (b : Contents) (numbers : List ℕ) (k : ℕ) (ps ns : List ℕ) (gives : List Judgement) → Supplies earlier b numbers k ps ns gives → EarlierThere earlier b numbers k ps ns gives
earlier-there earlier b numbers k ps ns gives h =
    let s = h.follows.statement in
    let f = h.follows.follows in
    let t = things-there b h.known numbers (take (length s.kinds) ps) f.things h.numbers f.things_are in
    let n = nodes-there b h.known numbers (take (length s.wants) ns) (premises_at s f.things) h.numbers f.premises_are in
    record {
      statement = s;
      is = h.follows.is;
      parts_in = t.within;
      nodes_in = n.within;
      may = record {
        statement = s;
        things = f.things;
        is = h.follows.is;
        parts_are = t.are;
        premises_are = n.are;
        may_stand = f.may_stand;
        given = f.given;
      };
    }

pub derive-along : (earlier : List Statement) (b : Contents) (k : ℕ) (xs ys us vs : List ℕ) (gives : List Judgement) → xs ≡ us → ys ≡ vs → MayDerive earlier b k us vs gives → MayDerive earlier b k xs ys gives
derive-along earlier b k xs ys us vs gives e f h =
    subst (λ z. MayDerive earlier b k z ys gives) (sym e)
    (subst (λ z. MayDerive earlier b k us z gives) (sym f) h)

-- a field of a node

judged-fields : (f : JudgementForm) (xs : List Thing) (J : Judgement) → judged f xs ≡ Some J → xs ≡ fields_of J
judged-fields form.Ctx (AContext G ∷ []) J e = let same : Ctx G ≡ J = cc in ap fields_of same
judged-fields form.Ty (AContext G ∷ ATree A ∷ []) J e = let same : Ty G A ≡ J = cc in ap fields_of same
judged-fields form.TyEq (AContext G ∷ ATree A ∷ ATree B ∷ []) J e = let same : TyEq G A B ≡ J = cc in ap fields_of same
judged-fields form.Tm (AContext G ∷ ATree a ∷ ATree A ∷ []) J e = let same : Tm G a A ≡ J = cc in ap fields_of same
judged-fields form.TmEq (AContext G ∷ ATree a ∷ ATree c ∷ ATree A ∷ []) J e = let same : TmEq G a c A ≡ J = cc in ap fields_of same
judged-fields form.Sb (AContext H ∷ ASubst d ∷ AContext G ∷ []) J e = let same : Sb H d G ≡ J = cc in ap fields_of same
judged-fields _ _ J e = absurd (cc e)

pub record FieldThere (b : Contents) (numbers : List ℕ) (n : ℕ) (at : ℕ) (x : Thing) : Type 0 where
  pub judgement : Judgement
  pub within : n < length numbers
  pub node : IsSome (book_nodes b (slice_index numbers n))
  pub concludes : book_concludes b (slice_index numbers n) ≡ Some judgement
  pub field : field_at at judgement ≡ Some x

pub some-is : {A : Type 0} (o : Option A) (x : A) → o ≡ Some x → IsSome o
some-is None x e = absurd (cc e)
some-is (Some y) x e = refl

pub field-there : (b : Contents) (numbers : List ℕ) (n at : ℕ) (x : Thing) → Builds b numbers (row.Field n at) x → FieldThere b numbers n at x
field-there b numbers n at x h =
    let o = one-some (field_at at) (node_at h.known n) x h.built in
    let t = node-there b h.known numbers n o.first h.numbers o.first_is in
    let w = one-some (judgement_of (book_means b)) (book_nodes b (slice_index numbers n)) o.first t.is in
    record {
      judgement = o.first;
      within = t.within;
      node = some-is (book_nodes b (slice_index numbers n)) w.first w.first_is;
      concludes = t.is;
      field = o.whole;
    }

pub claim-field : (b : Contents) (claim : Claim) (J : Judgement) (at : ℕ) (x : Thing) → claimed (book_means b) claim ≡ Some J → field_at at J ≡ Some x → IsThere (book_means b) (rows_of claim) at x
claim-field b claim J at x says field =
    let o = one-some (judged (form_of claim)) (meanings (book_means b) (rows_of claim)) J says in
    let e : slice_get o.first at ≡ Some x = ap (λ xs. slice_get xs at) (judged-fields (form_of claim) o.first J o.whole) ∙ field in
    let lt = slice_get_within o.first at x e in
    let count = meanings-length (book_means b) (rows_of claim) o.first o.first_is in
    record { within = omega arith; is = meanings-at (book_means b) (rows_of claim) o.first o.first_is at x e }

-- rows as they are matched, and lists as they are cut

pub builds-as : (b : Contents) (numbers : List ℕ) (r s : Row) (x : Thing) → r ≡ s → Builds b numbers r x → Builds b numbers s x
builds-as b numbers r s x e h = subst (λ z. Builds b numbers z x) e h

pub cut-as : (xs ys : List ℕ) (n m : ℕ) → ys ≡ take n xs → n ≡ m → ys ≡ take m xs
cut-as xs ys n m e same = e ∙ ap (λ k. take k xs) same

pub use-along : (b : Contents) (name : RuleName) (xs ys us vs : List ℕ) (J : Judgement) → xs ≡ us → ys ≡ vs → IsUse (book_means b) (book_concludes b) name us vs J → IsUse (book_means b) (book_concludes b) name xs ys J
use-along b name xs ys us vs J e f u =
    subst (λ z. IsUse (book_means b) (book_concludes b) name z ys J) (sym e)
    (subst (λ z. IsUse (book_means b) (book_concludes b) name us z J) (sym f) u)
