-- Right rows, written one after the other, are a right file.
use Rattle.std.proofs.Common.{◌≡◌, ℕ, ◌+◌, ◌^◌, ◌≤◌, nat_le, Bool, List, [], ◌∷◌, ◌++◌, length, map, refl, sym, subst, arith, Some, length-append}
use Rattle.std.specs.Prelude.{slice_get}
use Rattle.std.specs.List.{All, flat_map}
use Rattle.std.proofs.lemmas.Option.{slice_get_within}
use Rattle.std.proofs.lemmas.Bool.{leb-true}
use Rattle.std.proofs.Math.Seq.{take-length}
use Rattle.std.proofs.lemmas.List.Elements.{All-nil, All-cons, All-head, All-tail, All-weaker}
use Rattle.theory.specs.declared.rule.RuleName.{RuleName}
use Rattle.theory.specs.declared.rule.TheConstants.{RULES}
use Rattle.theory.specs.RuleNames.{name_of, first_version}
use Rattle.theory.proofs.Names.{every_rule}
use Rattle.trees.specs.Judgements.{Judgement}
use Rattle.trees.specs.Things.{Meanings, meanings, made, instance_of, pushed_on, with_variable, with_a_name, with_a_face}
use Rattle.trees.proofs.Meanings.{meanings-cons}
use Rattle.rows.proofs.OptionLaws.{one-some}
use Rattle.rows.proofs.MeaningLaws.{Mean, meanings-mean, both-mean, made-count}
use Rattle.deriv_file.specs.declared.row.Row.{Row}
use Rattle.deriv_file.specs.declared.row.Row.TheVariants as row
use Rattle.deriv_file.specs.Spelling.{spelled, newest, Earlier, MayStand, version_after}
use Rattle.deriv_file.specs.Lines.{lines, SpellRows}
use Rattle.deriv_file.proofs.RowsLaws.{lines_of_rows}
use Rattle.derivation.specs.Meanings.{Meaning, thing_of, thing_at, conclusion_of, conclusion_at}
use Rattle.derivation.specs.Right.{RightNode, RightRow, RightRows, Derives, roots_of}
use Rattle.book.specs.Right.{IsUse}
use Rattle.book.proofs.NodeLaws.{use-counts, named-all}
use Rattle.book_writer.specs.Chains.{IsSpellable}

abbrev is_old : RuleName → Bool
is_old rule = nat_le (first_version rule) newest

early : (rule : RuleName) → first_version rule ≤ newest
early rule = leb-true (first_version rule) newest (named-all is_old RULES.now (name_of rule) rule (every_rule rule) refl)

thing-earlier : (before : List Meaning) → length before ≤ 2 ^ 64 → (k : ℕ) → Mean (thing_at before) k → Earlier (length before) k
thing-earlier before few k x =
    let o = one-some thing_of (slice_get before k) x.0 x.1 in
    let within = slice_get_within before k o.first o.first_is in
    (within, omega arith)

all-earlier : (before : List Meaning) → length before ≤ 2 ^ 64 → (ks : List ℕ) → All (Mean (thing_at before)) ks → All (Earlier (length before)) ks
all-earlier before few = All-weaker (Mean (thing_at before)) (Earlier (length before)) (thing-earlier before few)

node-earlier : (before : List Meaning) → length before ≤ 2 ^ 64 → (k : ℕ) (J : Judgement) → conclusion_at before k ≡ Some J → Earlier (length before) k
node-earlier before few k J e =
    let o = one-some conclusion_of (slice_get before k) J e in
    let within = slice_get_within before k o.first o.first_is in
    (within, omega arith)

nodes-earlier : (before : List Meaning) → length before ≤ 2 ^ 64 → (ks : List ℕ) (Js : List Judgement) → meanings (conclusion_at before) ks ≡ Some Js → All (Earlier (length before)) ks
nodes-earlier before few [] Js e = All-nil (Earlier (length before))
nodes-earlier before few (k ∷ ks) Js e =
    let m = meanings-cons (conclusion_at before) k ks Js e in
    All-cons (Earlier (length before)) k ks (node-earlier before few k m.first m.first_is) (nodes-earlier before few ks m.rest m.rest_is)

pub use-of : (before : List Meaning) (rule : RuleName) (parts premises : List ℕ) (J : Judgement) → RightNode before rule parts premises J → IsUse (thing_at before) (conclusion_at before) rule parts premises J
use-of before rule parts premises J n = record {
  things = n.xs;
  judgements = n.Js;
  parts_are = n.parts_are;
  premises_are = n.premises_are;
  instance = n.instance;
}

-- a right row may stand where it does
stands : (before : List Meaning) (r : Row) (m : Meaning) → RightRow before r m → IsSpellable r → length before ≤ 2 ^ 64 → MayStand newest (length before) r
stands [] (row.Header v) m right fit few = (refl, omega arith, omega arith)
stands [] r m right fit few = absurd right
stands (b ∷ before) (row.Header v) m right fit few = absurd right
stands (b ∷ before) (row.Var k) m right fit few = fit
stands (b ∷ before) (row.Make op kids) m right fit few =
    let f : Meanings = thing_at (b ∷ before) in
    let is = right.1 in
    let o = one-some (made op) (meanings f kids) right.0 is in (
      refl,
      made-count f op kids (rw is refl),
      all-earlier (b ∷ before) few kids (meanings-mean f kids o.first o.first_is),
    )
stands (b ∷ before) (row.Instance t d) m right fit few = all-earlier (b ∷ before) few (t ∷ d ∷ []) (both-mean (thing_at (b ∷ before)) instance_of t d right.0 right.1)
stands (b ∷ before) (row.Shift n) m right fit few = fit
stands (b ∷ before) (row.Push d t) m right fit few = all-earlier (b ∷ before) few (d ∷ t ∷ []) (both-mean (thing_at (b ∷ before)) pushed_on d t right.0 right.1)
stands (b ∷ before) row.CtxNil m right fit few = tt
stands (b ∷ before) (row.CtxVar G A) m right fit few = all-earlier (b ∷ before) few (G ∷ A ∷ []) (both-mean (thing_at (b ∷ before)) with_variable G A right.0 right.1)
stands (b ∷ before) (row.CtxName G) m right fit few =
    let o = one-some with_a_name (thing_at (b ∷ before) G) right.0 right.1 in
    thing-earlier (b ∷ before) few G (o.first, o.first_is)
stands (b ∷ before) (row.CtxFace G p) m right fit few = all-earlier (b ∷ before) few (G ∷ p ∷ []) (both-mean (thing_at (b ∷ before)) with_a_face G p right.0 right.1)
stands (b ∷ before) (row.Node rule parts premises) m right fit few =
    let n = right.1 in
    let counts = use-counts (thing_at (b ∷ before)) (conclusion_at (b ∷ before)) rule parts premises right.0 (use-of (b ∷ before) rule parts premises right.0 n) in (
      early rule,
      counts.0,
      counts.1,
      all-earlier (b ∷ before) few parts (meanings-mean (thing_at (b ∷ before)) parts n.xs n.parts_are),
      nodes-earlier (b ∷ before) few premises n.Js n.premises_are,
    )
stands (b ∷ before) (row.Root k) m right fit few = node-earlier (b ∷ before) few k right.0 right.1

version-same : (r : Row) → IsSpellable r → version_after newest r ≡ newest
version-same (row.Header v) fit = fit
version-same _ fit = refl

spell-rows : (before : List Meaning) (rows : List Row) (all : List Meaning) → RightRows before rows all → All IsSpellable rows → length before + length rows ≤ 2 ^ 64 → SpellRows newest (length before) (map spelled rows) rows
spell-rows before [] all right fit few = tt
spell-rows before (r ∷ rows) all right fit few =
    let here = All-head IsSpellable r rows fit in
    let m : Meaning = right.0 in
    let place : length (before ++ m ∷ []) ≡ length before + 1 = length-append before (m ∷ []) in
    let rest = spell-rows (before ++ m ∷ []) rows all right.2 (All-tail IsSpellable r rows fit) (omega arith) in (
      (refl, stands before r m right.1 here (omega arith)),
      subst (λ v. SpellRows v (length before + 1) (map spelled rows) rows) (sym (version-same r here)) (subst (λ n. SpellRows newest n (map spelled rows) rows) place rest),
    )

-- the file of right rows spells them
pub file-spelt : (rows : List Row) (all : List Meaning) → RightRows [] rows all → All IsSpellable rows → length rows ≤ 2 ^ 64 → SpellRows newest 0 (lines (flat_map spelled rows)) rows
file-spelt rows all right fit few =
    let spell = spell-rows [] rows all right fit (omega arith) in
    let are : lines (flat_map spelled rows) ≡ map spelled rows = lines_of_rows newest 0 rows spell in
    subst (λ ls. SpellRows newest 0 ls rows) (sym are) spell

pub file-derives : (rows : List Row) (all : List Meaning) → RightRows [] rows all → All IsSpellable rows → length rows ≤ 2 ^ 64 → Derives (flat_map spelled rows) (length rows) (roots_of all rows)
file-derives rows all right fit few =
    let bytes : List ℕ = flat_map spelled rows in
    record {
      spelt = rows;
      all = all;
      begins = record {
        within = omega arith;
        spelt = subst (λ ls. SpellRows newest 0 ls rows) (sym (take-length (lines bytes))) (file-spelt rows all right fit few);
        right = right;
      };
      rows_are = refl;
      roots_are = refl;
    }
