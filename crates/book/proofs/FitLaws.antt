-- What a test of a use of a rule finds.
use Rattle.std.proofs.Common.{◌≡◌, ℕ, zero, suc, ◌+◌, ◌<◌, ◌≤◌, List, [], ◌∷◌, ◌++◌, length, take, get_or, map, refl, sym, ◌∙◌, ap, ap₂, subst, arith, Option, Some, None, IsSome, ◌↔◌}
use Rattle.std.specs.Prelude.{slice_get, IsTrue, IfSome, Bool, false, option_map, option_and_then}
use Rattle.std.specs.List.{All}
use Rattle.std.proofs.lemmas.List.{take_all}
use Rattle.std.proofs.lemmas.List.Elements.{All-nil, All-cons, All-head, All-tail}
use Rattle.theory.specs.declared.rule.RuleName.{RuleName}
use Rattle.theory.specs.RuleNames.{kinds_of, premises_of}
use Rattle.trees.specs.declared.kind.PartKind.{PartKind}
use Rattle.trees.specs.declared.kind.PartKind.TheVariants as part
use Rattle.trees.specs.Trees.{greatest_shift}
use Rattle.trees.specs.Judgements.{Judgement, TreeRule}
use Rattle.trees.specs.Things.{Thing, ATree, ASubst, AContext, Meanings, Kept, meanings, kind_of, both, consed}
use Rattle.trees.proofs.Meanings.{meanings-cons, meanings-kept, meanings-later}
use Rattle.rows.specs.Views.{IsOfKind, IsSizeOf, row_meaning}
use Rattle.rows.specs.declared.views.Row.{Row}
use Rattle.rows.specs.declared.views.Row.TheVariants as row
use Rattle.rows.specs.declared.views.SubSize.{SubSize}
use Rattle.rows.specs.declared.views.SubRow.{SubRow}
use Rattle.rows.specs.declared.views.SubRow.TheVariants as sub
use Rattle.rows.proofs.OptionLaws.{one-some}
use Rattle.rows.proofs.StoreLaws.{shift-subst}
use Rattle.rows.proofs.MeaningLaws.{both-kind, pushed_on-kind, then_of-kind, is_some-value}
use Rattle.rows.specs.Views.{sub_meaning}
use Rattle.interned.proofs.CodingLaws.{term_meaning-kind, ctx_meaning-kind}
use Rattle.interned.specs.Coded.{things_coded}
use Rattle.conditions.specs.Sides.{SideHolds}
use Rattle.side_conditions.specs.declared.deciding.SideConditions.{SideConditions}
use Rattle.side_conditions.specs.Kept.{KeepsBelow}
use Rattle.side_conditions.proofs.KeptLaws.{keeps-as, keeps-more}
use Rattle.rules.specs.Rules.{rule_at}
use Rattle.rules.specs.Claims.{rule_over, premise_at, side_at, sides_in}
use Rattle.rules.specs.Shifts.{ShiftFits, ShiftsFit}
use Rattle.rules.proofs.TableLaws.{some_rule, rule_kinds}
use Rattle.book.specs.declared.few.RuleUse.{RuleUse}
use Rattle.book.specs.declared.trying.Fit.{Fit}
use Rattle.book.specs.declared.trying.Fit.TheVariants as fit
use Rattle.book.specs.Contents.{Contents}
use Rattle.book.specs.Nodes.{node_at, node_coded, judgement_of, concluded}
use Rattle.book.specs.Right.{IsUse, AreRight, IsSound}
use Rattle.book.specs.Shown.{book_means, book_nodes, book_concludes, Extends, AddsRows}
use Rattle.book.specs.Fits.{IsPart, AreParts, IsShaped, MayConclude, FailsAtPremise, FailsAtSide, Finds, rule_in, wants_of, sides_of}
use Rattle.book.proofs.NodeLaws.{use-counts, nodes-kept}
use Rattle.book.proofs.BookLaws.{extends-along, grows-equal}
use Rattle.book.proofs.PremiseLaws.{rule_there, must_hold}
use Rattle.book.proofs.SideLaws.{side_holds}

-- books that extend others

pub extends-refl : (b : Contents) → Extends b b
extends-refl b = record {
  rows = record { keeps = λ k x e. e };
  nodes = λ k node e. e;
  conclusions = λ k J e. e;
  marks = λ mark is. is;
}

pub extends-trans : (a b c : Contents) → Extends a b → Extends b c → Extends a c
extends-trans a b c f g = record {
  rows = record { keeps = λ k x e. g.rows.keeps k x (f.rows.keeps k x e) };
  nodes = λ k node e. g.nodes k node (f.nodes k node e);
  conclusions = λ k J e. g.conclusions k J (f.conclusions k J e);
  marks = λ mark is. g.marks mark (f.marks mark is);
}

-- what is kept of contexts, as rows come in

keeps-grown : (s : SideConditions) (xs ys : List Thing) → Kept (slice_get xs) (slice_get ys) → KeepsBelow (length xs) (slice_get xs) s → KeepsBelow (length ys) (slice_get ys) s
keeps-grown s xs ys kept keeps =
    keeps-more (length xs) (length ys) (slice_get ys) s (longer xs ys kept)
    (keeps-as (length xs) (slice_get xs) (slice_get ys) s (λ k x lt is. kept.keeps k x is) keeps)
  where
    longer : (zs ws : List Thing) → Kept (slice_get zs) (slice_get ws) → length zs ≤ length ws
    longer [] ws kept = omega arith
    longer (z ∷ zs) [] kept = let wrong : None ≡ Some z = kept.keeps 0 z refl in cc
    longer (z ∷ zs) (w ∷ ws) kept = let h = longer zs ws record { keeps = λ k x e. kept.keeps (suc k) x e } in omega arith

pub sound-kept : (xs ys : List Thing) (nodes : List (List ℕ)) (sides : SideConditions) → Kept (slice_get xs) (slice_get ys) → IsSound xs nodes sides → IsSound ys nodes sides
sound-kept xs ys nodes sides kept s = record {
  right = nodes-kept (slice_get xs) (slice_get ys) nodes kept s.right;
  keeps = keeps-grown sides xs ys kept s.keeps;
}

-- rows of a kind

sub_meaning-kind : (f : Meanings) (r : SubRow) (x : Thing) → sub_meaning f r ≡ Some x → kind_of x ≡ part.Subst
sub_meaning-kind f (sub.Shift n) (ASubst d) e = refl
sub_meaning-kind f (sub.Shift n) (ATree t) e = cc
sub_meaning-kind f (sub.Shift n) (AContext G) e = cc
sub_meaning-kind f (sub.Push d a) x e = both-kind f _ part.Subst pushed_on-kind d.0 a.0 x e
sub_meaning-kind f (sub.Then d e) x is = both-kind f _ part.Subst then_of-kind d.0 e.0 x is

abbrev pub kind_read : Row → PartKind
kind_read (row.Term r) = part.Term
kind_read (row.Subst r) = part.Subst
kind_read (row.Context r) = part.Context

pub row-kind : (f : Meanings) (r : Row) (o : Option Thing) → IsSome o → o ≡ row_meaning f r → option_map kind_of o ≡ Some (kind_read r)
row-kind f r None some is = cc
row-kind f (row.Term r) (Some x) some is = ap Some (term_meaning-kind f r x (sym is))
row-kind f (row.Subst r) (Some x) some is = ap Some (sub_meaning-kind f r x (sym is))
row-kind f (row.Context r) (Some x) some is = ap Some (ctx_meaning-kind f r x (sym is))

pub part-kind : (kind : PartKind) (o : Option Thing) → IsPart kind o → IsOfKind kind o
part-kind part.Term o is = is
part-kind part.Context o is = is
part-kind part.Subst o is = shift-subst greatest_shift o is

-- a substitution is a part exactly where its shift is small
pub subst-part : (o : Option Thing) (size : SubSize) → IsSizeOf o size → IsPart part.Subst o ↔ (size.shift ≤ greatest_shift)
subst-part None size sized = absurd sized
subst-part (Some (ATree t)) size sized = absurd sized
subst-part (Some (AContext G)) size sized = absurd sized
subst-part (Some (ASubst d)) size sized = let same = sized.1 in (λ le. omega (arith, same, le), λ le. omega (arith, same, le))

-- nodes that are there

concluded-node : (f : Meanings) (nodes : List (List ℕ)) (k : ℕ) → IsSome (concluded f nodes k) → IsSome (node_at nodes k)
concluded-node f nodes k some =
    let J = is_some-value (concluded f nodes k) some in
    let o = one-some (judgement_of f) (node_at nodes k) J.0 J.1 in
    let is = o.first_is in
    rw is refl

node-concluded : (f : Meanings) (nodes : List (List ℕ)) → AreRight f nodes → (k : ℕ) → IsSome (node_at nodes k) → IsSome (concluded f nodes k)
node-concluded f nodes right k some =
    let n = is_some-value (node_at nodes k) some in
    let w = one-some node_coded (slice_get nodes k) n.0 n.1 in
    let r = right.each k w.first w.first_is in
    let is : concluded f nodes k ≡ Some r.judgement = ap (λ o. option_and_then (judgement_of f) (option_and_then node_coded o)) w.first_is ∙ ap (option_and_then (judgement_of f)) r.is ∙ r.concludes in
    rw is refl

-- a node is there exactly where it concludes something
pub node-there-iff : (b old : Contents) → old ≡ b → AreRight (slice_get (things_coded old.rows)) old.nodes → (k : ℕ) → IsSome (book_nodes b k) ↔ IsSome (book_concludes b k)
node-there-iff b old is right k =
    subst (λ (c : Contents). IsSome (book_nodes c k) ↔ IsSome (book_concludes c k)) is
    (node-concluded (slice_get (things_coded old.rows)) old.nodes right k, concluded-node (slice_get (things_coded old.rows)) old.nodes k)

-- books with more rows and the same nodes

pub adds-refl : (b : Contents) → AddsRows b b
adds-refl b = record { extends = extends-refl b; nodes = λ k some. some }

pub adds-trans : (a b c : Contents) → AddsRows a b → AddsRows b c → AddsRows a c
adds-trans a b c f g = record { extends = extends-trans a b c f.extends g.extends; nodes = λ k some. f.nodes k (g.nodes k some) }

pub adds-along : (b old new : Contents) → old ≡ b → AreRight (slice_get (things_coded old.rows)) old.nodes → Kept (slice_get (things_coded old.rows)) (slice_get (things_coded new.rows)) → new.nodes ≡ old.nodes → AddsRows b new
adds-along b old new is right kept nodes = record {
  extends = extends-along b old new is kept (grows-equal old.nodes new.nodes nodes);
  nodes = λ k some. subst (λ (c : Contents). IsSome (book_concludes c k)) is
      (node-concluded (slice_get (things_coded old.rows)) old.nodes right k
      (subst (λ ns. IsSome (node_at ns k)) nodes (concluded-node (slice_get (things_coded new.rows)) new.nodes k some)));
}

-- each node concludes what it did
pub conclusions-same : (a b : Contents) → AddsRows a b → (k : ℕ) → book_concludes b k ≡ book_concludes a k
conclusions-same a b adds k = from (book_concludes a k) refl (book_concludes b k) refl
  where
    from : (o : Option Judgement) → book_concludes a k ≡ o → (p : Option Judgement) → book_concludes b k ≡ p → p ≡ o
    from (Some J) e p is = sym is ∙ adds.extends.conclusions k J e
    from None e None is = refl
    from None e (Some J) is = let there = adds.nodes k (rw is refl) in cc

pub node-later : (a b : Contents) → Extends a b → (k : ℕ) → IsSome (book_nodes a k) → IsSome (book_nodes b k)
node-later a b later k some =
    let n = is_some-value (book_nodes a k) some in
    let is = later.nodes k n.0 n.1 in
    rw is refl

-- parts of a rule

pub part-at : (f : Meanings) (kinds : List PartKind) (rows : List ℕ) (at : ℕ) (d : PartKind) → at < length rows → AreParts f kinds rows → IsPart (get_or kinds at d) (f (get_or rows at 0))
part-at f [] [] at d lt are = absurd (omega arith)
part-at f [] (row ∷ rows) at d lt are = absurd are
part-at f (kind ∷ kinds) [] at d lt are = absurd are
part-at f (kind ∷ kinds) (row ∷ rows) zero d lt are = are.0
part-at f (kind ∷ kinds) (row ∷ rows) (suc at) d lt are = part-at f kinds rows at d (omega arith) are.1

pub parts-counted : (f : Meanings) (kinds : List PartKind) (rows : List ℕ) → AreParts f kinds rows → length rows ≡ length kinds
parts-counted f [] [] are = refl
parts-counted f [] (row ∷ rows) are = absurd are
parts-counted f (kind ∷ kinds) [] are = absurd are
parts-counted f (kind ∷ kinds) (row ∷ rows) are = ap suc (parts-counted f kinds rows are.1)

pub parts-more : (f : Meanings) (kinds : List PartKind) (rows : List ℕ) (at : ℕ) (d : PartKind) → at < length rows → at < length kinds → IsPart (get_or kinds at d) (f (get_or rows at 0)) → AreParts f (take at kinds) (take at rows) → AreParts f (take (at + 1) kinds) (take (at + 1) rows)
parts-more f [] rows at d lt le is are = absurd (omega arith)
parts-more f (kind ∷ kinds) [] at d lt le is are = absurd (omega arith)
parts-more f (kind ∷ kinds) (row ∷ rows) zero d lt le is are = (is, tt)
parts-more f (kind ∷ kinds) (row ∷ rows) (suc at) d lt le is are =
    let next : suc at + 1 ≡ suc (at + 1) = omega arith in
    rw next (are.0, parts-more f kinds rows at d (omega arith) (omega arith) is are.1)

pub parts-whole : (f : Meanings) (kinds : List PartKind) (rows : List ℕ) (at : ℕ) → length rows ≡ length kinds → length rows ≤ at → AreParts f (take at kinds) (take at rows) → AreParts f kinds rows
parts-whole f kinds rows at same le are = rw (take_all at rows le, take_all at kinds (omega (arith, same, le))) at are

pub record HasThings (f : Meanings) (kinds : List PartKind) (rows : List ℕ) : Type 0 where
  pub things : List Thing
  pub are : meanings f rows ≡ Some things
  pub kinds_are : map kind_of things ≡ kinds
  pub fit : All ShiftFits things

record HasThing (kind : PartKind) (o : Option Thing) : Type 0 where
  pub thing : Thing
  pub is : o ≡ Some thing
  pub kind_is : kind_of thing ≡ kind
  pub fits : ShiftFits thing

part-thing : (kind : PartKind) (o : Option Thing) → IsPart kind o → HasThing kind o
part-thing part.Term o (t, e) = record { thing = ATree t; is = e; kind_is = refl; fits = tt }
part-thing part.Context o (G, e) = record { thing = AContext G; is = e; kind_is = refl; fits = tt }
part-thing part.Subst None is = absurd is
part-thing part.Subst (Some (ATree t)) is = absurd is
part-thing part.Subst (Some (AContext G)) is = absurd is
part-thing part.Subst (Some (ASubst d)) is = record { thing = ASubst d; is = refl; kind_is = refl; fits = is }

thing-part : (x : Thing) → ShiftFits x → IsPart (kind_of x) (Some x)
thing-part (ATree t) fits = (t, refl)
thing-part (AContext G) fits = (G, refl)
thing-part (ASubst d) fits = fits

pub parts-things : (f : Meanings) (kinds : List PartKind) (rows : List ℕ) → AreParts f kinds rows → HasThings f kinds rows
parts-things f [] [] are = record { things = []; are = refl; kinds_are = refl; fit = All-nil ShiftFits }
parts-things f [] (row ∷ rows) are = absurd are
parts-things f (kind ∷ kinds) [] are = absurd are
parts-things f (kind ∷ kinds) (row ∷ rows) are =
    let x = part-thing kind (f row) are.0 in
    let h = parts-things f kinds rows are.1 in
    record {
      things = x.thing ∷ h.things;
      are = ap₂ (both consed) x.is h.are;
      kinds_are = ap₂ (λ k ks. k ∷ ks) x.kind_is h.kinds_are;
      fit = All-cons ShiftFits x.thing h.things x.fits h.fit;
    }

pub things-parts : (f : Meanings) (rows : List ℕ) (xs : List Thing) → meanings f rows ≡ Some xs → All ShiftFits xs → AreParts f (map kind_of xs) rows
things-parts f [] [] e fit = tt
things-parts f [] (x ∷ xs) e fit = cc
things-parts f (row ∷ rows) xs e fit =
    let m = meanings-cons f row rows xs e in
    let all : All ShiftFits (m.first ∷ m.rest) = subst (All ShiftFits) m.whole fit in
    rw m.whole (
      subst (IsPart (kind_of m.first)) (sym m.first_is) (thing-part m.first (All-head ShiftFits m.first m.rest all)),
      things-parts f rows m.rest m.rest_is (All-tail ShiftFits m.first m.rest all),
    )

-- the rule that stands at parts

pub parts-rule : (b : Contents) (step : RuleUse) → AreParts (book_means b) (kinds_of step.rule) step.parts → IsSome (rule_in b step)
parts-rule b step are =
    let h = parts-things (book_means b) (kinds_of step.rule) step.parts are in
    rw h.are (some_rule step.rule h.things h.kinds_are)

-- which stays the same as rows come in

pub rule-same : (a b : Contents) → Extends a b → (step : RuleUse) → IsSome (rule_in a step) → rule_in b step ≡ rule_in a step
rule-same a b later step some =
    let t = rule_there step.rule (meanings (book_means a) step.parts) some in
    ap (rule_over step.rule) (meanings-later (book_means a) (book_means b) later.rows step.parts (rw t.parts_are refl))

pub rule-some : (a b : Contents) → Extends a b → (step : RuleUse) → IsSome (rule_in a step) → IsSome (rule_in b step)
rule-some a b later step some = subst IsSome (sym (rule-same a b later step some)) some

-- what nodes conclude they go on to conclude
conclusions-later : (f g : ℕ → Option Judgement) → ((k : ℕ) (J : Judgement) → f k ≡ Some J → g k ≡ Some J) → (ks : List ℕ) (Js : List Judgement) → meanings f ks ≡ Some Js → meanings g ks ≡ Some Js
conclusions-later f g each [] Js e = e
conclusions-later f g each (k ∷ ks) Js e =
    let m = meanings-cons f k ks Js e in
    rw (each k m.first m.first_is, conclusions-later f g each ks m.rest m.rest_is) (ap Some (sym m.whole))

-- a use that may be concluded may be so later, to the same end

pub use-later : (a b : Contents) → Extends a b → (rule : RuleName) (parts premises : List ℕ) (J : Judgement) → IsUse (book_means a) (book_concludes a) rule parts premises J → IsUse (book_means b) (book_concludes b) rule parts premises J
use-later a b later rule parts premises J u = record {
  things = u.things;
  judgements = u.judgements;
  parts_are = meanings-kept (book_means a) (book_means b) later.rows parts u.things u.parts_are;
  premises_are = conclusions-later (book_concludes a) (book_concludes b) later.conclusions premises u.judgements u.premises_are;
  instance = u.instance;
}

pub shifts-later : (a b : Contents) → Extends a b → (step : RuleUse) → MayConclude a step → ShiftsFit (meanings (book_means b) step.parts)
shifts-later a b later step may =
    let u = may.right in
    rw (meanings-kept (book_means a) (book_means b) later.rows step.parts u.things u.parts_are) (rw u.parts_are at may.shifts)

-- what is found where nothing fails
pub may-conclude : (b : Contents) (step : RuleUse) → IsShaped b step → meanings (book_concludes b) step.premises ≡ wants_of (rule_in b step) → All SideHolds (sides_of (rule_in b step)) → MayConclude b step
may-conclude b step shaped hold sides =
    let h = parts-things (book_means b) (kinds_of step.rule) step.parts shaped.parts in
    let t = rule_there step.rule (meanings (book_means b) step.parts) (parts-rule b step shaped.parts) in
    record {
      judgement = t.rule.gives;
      right = record {
        things = t.xs;
        judgements = t.rule.wants;
        parts_are = t.parts_are;
        premises_are = hold ∙ ap wants_of t.is;
        instance = record { rule = t.rule; is = t.at; wants = refl; sides = subst (λ o. All SideHolds (sides_of o)) t.is sides; gives = refl };
      };
      shifts = rw h.are h.fit;
    }

-- a use that may be concluded has no fault

may-parts : (b : Contents) (step : RuleUse) → MayConclude b step → AreParts (book_means b) (kinds_of step.rule) step.parts
may-parts b step may =
    let u = may.right in
    let kinds = rule_kinds step.rule u.things (rw u.instance.is refl) in
    subst (λ ks. AreParts (book_means b) ks step.parts) kinds (things-parts (book_means b) step.parts u.things u.parts_are (rw u.parts_are at may.shifts))

may-wants : (b : Contents) (step : RuleUse) (may : MayConclude b step) → meanings (book_concludes b) step.premises ≡ wants_of (rule_in b step)
may-wants b step may =
    let u = may.right in
    let is : rule_in b step ≡ Some u.instance.rule = ap (rule_over step.rule) u.parts_are ∙ u.instance.is in
    u.premises_are ∙ ap Some u.instance.wants ∙ sym (ap wants_of is)

may-sides : (b : Contents) (step : RuleUse) (may : MayConclude b step) → All SideHolds (sides_of (rule_in b step))
may-sides b step may =
    let u = may.right in
    let is : rule_in b step ≡ Some u.instance.rule = ap (rule_over step.rule) u.parts_are ∙ u.instance.is in
    subst (λ o. All SideHolds (sides_of o)) (sym is) u.instance.sides

found-none : (b : Contents) (step : RuleUse) (found : Fit) → Finds b step found → (found ≡ fit.Fits → ⊥) → MayConclude b step → ⊥
found-none b step fit.Fits finds other may = other refl
found-none b step fit.Parts finds other may = finds (may-parts b step may)
found-none b step fit.Count finds other may =
    finds.1 (use-counts (book_means b) (book_concludes b) step.rule step.parts step.premises may.judgement may.right).1
found-none b step (fit.Premise k) finds other may =
    let shaped = finds.0 in
    let fails = finds.1 in
    fails.fails (must_hold (book_concludes b) step.premises step.rule (meanings (book_means b) step.parts) k (parts-rule b step shaped.parts) (omega (arith, fails.within, shaped.count)) (may-wants b step may))
found-none b step (fit.Side k) finds other may = finds.2.fails (side_holds (rule_in b step) k (may-sides b step may))

pub fits-exactly : (b : Contents) (step : RuleUse) (found : Fit) → Finds b step found → (found ≡ fit.Fits) ↔ MayConclude b step
fits-exactly b step fit.Fits finds = (λ e. finds, λ may. refl)
fits-exactly b step fit.Parts finds = (λ e. cc, λ may. absurd (found-none b step fit.Parts finds (λ e. cc) may))
fits-exactly b step fit.Count finds = (λ e. cc, λ may. absurd (found-none b step fit.Count finds (λ e. cc) may))
fits-exactly b step (fit.Premise k) finds = (λ e. cc, λ may. absurd (found-none b step (fit.Premise k) finds (λ e. cc) may))
fits-exactly b step (fit.Side k) finds = (λ e. cc, λ may. absurd (found-none b step (fit.Side k) finds (λ e. cc) may))

-- a node that is not there, and one that is

pub no-premise : (o p : Option Judgement) → IsSome p → (IsSome o → ⊥) → IsTrue false ↔ (o ≡ p)
no-premise o None some none = cc
no-premise None (Some J) some none = (λ h. cc, λ h. cc)
no-premise (Some K) (Some J) some none = absurd (none refl)

pub same-premise : (holds : Bool) (wanted claim o p : Option Judgement) → IsTrue holds ↔ (wanted ≡ claim) → wanted ≡ p → claim ≡ o → IsTrue holds ↔ (o ≡ p)
same-premise holds wanted claim o p exact w c = (λ h. sym c ∙ sym (exact.0 h) ∙ w, λ e. exact.1 (w ∙ sym e ∙ sym c))

-- the answer on a premise is the same before rows were made
pub holds-before : (a b : Contents) → AddsRows a b → (step : RuleUse) → IsSome (rule_in a step) → (premise at : ℕ) (holds : Bool) → IsTrue holds ↔ (book_concludes b premise ≡ premise_at at (rule_in b step)) → IsTrue holds ↔ (book_concludes a premise ≡ premise_at at (rule_in a step))
holds-before a b adds step some premise at holds exact =
    let concludes = conclusions-same a b adds premise in
    let rule = ap (premise_at at) (rule-same a b adds.extends step some) in
    (λ h. sym concludes ∙ exact.0 h ∙ rule, λ e. exact.1 (concludes ∙ e ∙ sym rule))

-- and so is what fails of the side conditions
pub side-before : (a b : Contents) → AddsRows a b → (step : RuleUse) → IsSome (rule_in a step) → (k : ℕ) → FailsAtSide b step k → FailsAtSide a step k
side-before a b adds step some k fails =
    let same = rule-same a b adds.extends step some in
    record {
      within = subst (λ o. k < sides_in o) same fails.within;
      before = subst (λ o. All SideHolds (take k (sides_of o))) same fails.before;
      fails = λ holds. fails.fails (subst (λ o. IfSome (side_at k o) SideHolds) (sym same) holds);
    }

pub all-before : (a b : Contents) → AddsRows a b → (step : RuleUse) → IsSome (rule_in a step) → All SideHolds (sides_of (rule_in b step)) → All SideHolds (sides_of (rule_in a step))
all-before a b adds step some = subst (λ o. All SideHolds (sides_of o)) (rule-same a b adds.extends step some)
