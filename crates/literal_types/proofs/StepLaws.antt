-- Steps of a book: what premises conclude, by the rule.
use Rattle.std.proofs.Common.{◌≡◌, ◌<◌, ℕ, zero, suc, List, [], ◌∷◌, length, ◌∙◌, ap, subst, arith, Option, Some}
use Rattle.std.specs.Prelude.{slice_get}
use Rattle.std.specs.List.{All}
use Rattle.std.proofs.lemmas.List.Elements.{All-head, All-tail}
use Rattle.trees.specs.Things.{meanings, consed, Thing}
use Rattle.trees.proofs.Meanings.{meanings-length}
use Rattle.trees.specs.Judgements.{Judgement, TreeRule}
use Rattle.rows.proofs.OptionLaws.{both-some}
use Rattle.theory.specs.declared.rule.RuleName.{RuleName}
use Rattle.rules.specs.Rules.{AtAll}
use Rattle.rules.proofs.TableLaws.{at_these}
use Rattle.conditions.specs.Sides.{SideHolds}
use Rattle.book.specs.Contents.{Contents}
use Rattle.book.specs.Right.{IsUse}
use Rattle.book.specs.Shown.{book_means, book_concludes}

-- what is named at a place says what stands there

pub said_at : {A : Type 0} (f : ℕ → Option A) (ks : List ℕ) (xs : List A) (i k : ℕ) (x : A) → meanings f ks ≡ Some xs → slice_get ks i ≡ Some k → slice_get xs i ≡ Some x → f k ≡ Some x
said_at f [] xs i k x e at there = absurd (cc at)
said_at f (j ∷ ks) xs zero k x e at there =
    let b = both-some consed (f j) (meanings f ks) xs e in
    let whole : Some (b.first ∷ b.second) ≡ Some xs = b.whole in
    let same : xs ≡ b.first ∷ b.second = cc in
    let is : slice_get (b.first ∷ b.second) 0 ≡ Some x = subst (λ ys. slice_get ys 0 ≡ Some x) same there in
    let one : j ≡ k = cc in
    subst (λ n. f n ≡ Some x) one (b.first_is ∙ is)
said_at f (j ∷ ks) xs (suc i) k x e at there =
    let b = both-some consed (f j) (meanings f ks) xs e in
    let whole : Some (b.first ∷ b.second) ≡ Some xs = b.whole in
    let same : xs ≡ b.first ∷ b.second = cc in
    said_at f ks b.second i k x b.second_is at (subst (λ ys. slice_get ys (suc i) ≡ Some x) same there)

pub all_at : (P : ℕ → Type 0) (ks : List ℕ) (i k : ℕ) → All P ks → slice_get ks i ≡ Some k → P k
all_at P [] i k all at = absurd (cc at)
all_at P (j ∷ ks) zero k all at = let one : j ≡ k = cc in subst P one (All-head P j ks all)
all_at P (j ∷ ks) (suc i) k all at = all_at P ks i k (All-tail P j ks all) at

-- The rule of a step at its parts, of which P holds, as of all parts; what its premises conclude, and
-- what it gives.
pub record Step (P : List Thing → TreeRule → Type 0) (b : Contents) (parts premises : List ℕ) (J : Judgement) : Type 0 where
  pub things : List Thing
  pub rule : TreeRule
  pub holds : P things rule
  pub parts_are : meanings (book_means b) parts ≡ Some things
  pub wants : meanings (book_concludes b) premises ≡ Some rule.wants
  pub sides : All SideHolds rule.sides
  pub gives : J ≡ rule.gives

pub step_of : (P : List Thing → TreeRule → Type 0) (b : Contents) (name : RuleName) (parts premises : List ℕ) (J : Judgement) → AtAll name P → IsUse (book_means b) (book_concludes b) name parts premises J → Step P b parts premises J
step_of P b name parts premises J all u = record {
  things = u.things;
  rule = u.instance.rule;
  holds = at_these name P all u.things u.instance.rule u.instance.is;
  parts_are = u.parts_are;
  wants = u.premises_are ∙ ap Some u.instance.wants;
  sides = u.instance.sides;
  gives = u.instance.gives;
}

-- there are as many numbers as they say
pub counted : {A : Type 0} (f : ℕ → Option A) (ks : List ℕ) (xs ys : List A) (n : ℕ) → meanings f ks ≡ Some xs → xs ≡ ys → n < length ys → n < length ks
counted f ks xs ys n e is lt =
    let same = meanings-length f ks xs e in
    let more = ap length is in
    omega (arith, same, more, lt)
