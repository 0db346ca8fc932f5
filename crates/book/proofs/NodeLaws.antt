-- Nodes in words, and what stays of them as rows and nodes come in.
use Rattle.std.proofs.Common.{◌≡◌, ℕ, zero, suc, ◌+◌, ◌<◌, ◌≤◌, nat_le, inl, inr, Bool, true, false, cond, List, [], ◌∷◌, ◌++◌, length, take, drop, refl, sym, ◌∙◌, ap, ap₂, subst, arith, Option, Some, None}
use Rattle.std.specs.Prelude.{slice_get, slice_index_or, option_and_then}
use Rattle.std.proofs.lemmas.Option.{slice_get_within}
use Rattle.std.specs.List.{All, list_all}
use Rattle.std.specs.Str.{bytes_eq}
use Rattle.std.proofs.lemmas.Bool.{and_parts, leb-true}
use Rattle.std.proofs.lemmas.List.{append-nil, length-map}
use Rattle.theory.specs.declared.rule.RuleName.{RuleName}
use Rattle.theory.specs.declared.rule.TheConstants.{RULES}
use Rattle.theory.specs.RuleNames.{kinds_of, premises_of, name_of}
use Rattle.theory.proofs.LookupLaws.{named}
use Rattle.theory.proofs.Names.{every_rule}
use Rattle.trees.specs.declared.claim.Claim.{Claim}
use Rattle.trees.specs.declared.claim.Claim.TheVariants as claim
use Rattle.trees.specs.declared.claim.JudgementForm.{JudgementForm}
use Rattle.trees.specs.declared.claim.JudgementForm.TheVariants as form
use Rattle.trees.specs.contracts.claim.JudgementForm.{the_type}
use denote.Enum.Declared.{tag_of}
use Rattle.trees.specs.Judgements.{Judgement}
use Rattle.trees.specs.Things.{Thing, ATree, ASubst, AContext, Meanings, Kept, meanings, kind_of}
use Rattle.trees.specs.Claims.{form_of, rows_of}
use Rattle.trees.specs.Claimed.{judged, said}
use Rattle.trees.proofs.Meanings.{meanings-cons, meanings-kept, meanings-length, kept-same}
use Rattle.region.specs.Held.{IsInterned}
use Rattle.rows.proofs.OptionLaws.{one-some, both-some}
use Rattle.rows.proofs.TableLaws.{slice_get-prefix, slice_get-push, take-prefix}
use Rattle.rules.proofs.TableLaws.{wants-count, rule_kinds}
use Rattle.book.specs.declared.node_words.TheConstants.{FORMS}
use Rattle.book.specs.Nodes.{Node, places_of, node_of, node_coded, node_at, judgement_of, concluded}
use Rattle.book.specs.Coded.{node_from, IsWhole}
use Rattle.book.specs.Right.{IsUse, IsRight, AreRight}

-- a node fits its words

pub named-all : (test : RuleName → Bool) (table : List RuleName) (word : List ℕ) (rule : RuleName) → named name_of table word ≡ Some rule → list_all test table ≡ true → test rule ≡ true
named-all test [] word rule e all = cc
named-all test (x ∷ table) word rule e all = from (bytes_eq word (name_of x)) e (named-all test table word rule)
  where
    from : (b : Bool) → cond b (Some x) (named name_of table word) ≡ Some rule → (named name_of table word ≡ Some rule → list_all test table ≡ true → test rule ≡ true) → test rule ≡ true
    from true is later =
        let same : x ≡ rule = cc in
        ap test (sym same) ∙ (and_parts (test x) (list_all test table) all).0
    from false is later = later is (and_parts (test x) (list_all test table) all).1

abbrev is_few : RuleName → Bool
is_few rule = nat_le (length (kinds_of rule) + premises_of rule) 26

pub few_cells : (rule : RuleName) → length (kinds_of rule) + premises_of rule ≤ 26
few_cells rule = leb-true (length (kinds_of rule) + premises_of rule) 26 (named-all is_few RULES.now (name_of rule) rule (every_rule rule) refl)

pub rows-count : (c : Claim) → length (rows_of c) ≡ places_of (form_of c)
rows-count (claim.Ctx G) = refl
rows-count (claim.Ty G A) = refl
rows-count (claim.TyEq G A B) = refl
rows-count (claim.Tm G a A) = refl
rows-count (claim.TmEq G a b A) = refl
rows-count (claim.Sb H d G) = refl

pub most_places : (c : Claim) → length (rows_of c) ≤ 4
most_places (claim.Ctx G) = omega arith
most_places (claim.Ty G A) = omega arith
most_places (claim.TyEq G A B) = omega arith
most_places (claim.Tm G a A) = omega arith
most_places (claim.TmEq G a b A) = omega arith
most_places (claim.Sb H d G) = omega arith

drop-prefix : {X : Type 0} (xs ys : List X) → drop (length xs) (xs ++ ys) ≡ ys
drop-prefix [] ys = refl
drop-prefix (x ∷ xs) ys = drop-prefix xs ys

-- the words of a node say it
pub node-said : (rule : RuleName) (c : Claim) (parts premises : List ℕ) (number place : ℕ) → slice_get RULES.now number ≡ Some rule → slice_get FORMS place ≡ Some (form_of c) → length parts ≡ length (kinds_of rule) → node_coded (number ∷ place ∷ (rows_of c ++ (parts ++ premises))) ≡ Some (node_from rule c parts premises)
node-said rule c parts premises number place is_rule is_form count =
    let cells : List ℕ = rows_of c ++ (parts ++ premises) in
    let rest : drop (places_of (form_of c)) cells ≡ parts ++ premises = ap (λ n. drop n cells) (sym (rows-count c)) ∙ drop-prefix (rows_of c) (parts ++ premises) in
    let claimed : take (places_of (form_of c)) cells ≡ rows_of c = ap (λ n. take n cells) (sym (rows-count c)) ∙ take-prefix (rows_of c) (parts ++ premises) in
    let first : take (length (kinds_of rule)) (drop (places_of (form_of c)) cells) ≡ parts = ap₂ take (sym count) rest ∙ take-prefix parts premises in
    let last : drop (length (kinds_of rule)) (drop (places_of (form_of c)) cells) ≡ premises = ap₂ drop (sym count) rest ∙ drop-prefix parts premises in
    rw (is_rule, is_form) (ap₂ (λ rows ps. Some (record { rule = rule; form = form_of c; claimed = rows; parts = ps; premises = drop (length (kinds_of rule)) (drop (places_of (form_of c)) cells) })) claimed first ∙ ap (λ qs. Some (node_from rule c parts qs)) last)

-- what words say that say a node
pub record Reads (words : List ℕ) (node : Node) : Type 0 where
  pub rule_word : ℕ
  pub form_word : ℕ
  pub cells : List ℕ
  pub is : words ≡ rule_word ∷ form_word ∷ cells
  pub rule_is : slice_get RULES.now rule_word ≡ Some node.rule
  pub form_is : slice_get FORMS form_word ≡ Some node.form
  pub node_is : node_of cells node.rule node.form ≡ Some node

pub reads-coded : (words : List ℕ) (node : Node) → node_coded words ≡ Some node → Reads words node
reads-coded [] node e = cc
reads-coded (r ∷ []) node e = cc
reads-coded (r ∷ j ∷ cells) node e =
    let b = both-some (node_of cells) (slice_get RULES.now r) (slice_get FORMS j) node e in
    let rule_same : b.first ≡ node.rule = ap (rule_in b.first) b.whole in
    let form_same : b.second ≡ node.form = ap (form_in b.second) b.whole in
    record {
      rule_word = r;
      form_word = j;
      cells = cells;
      is = refl;
      rule_is = b.first_is ∙ ap Some rule_same;
      form_is = b.second_is ∙ ap Some form_same;
      node_is = ap₂ (node_of cells) (sym rule_same) (sym form_same) ∙ b.whole;
    }
  where
    rule_in : RuleName → Option Node → RuleName
    rule_in d None = d
    rule_in d (Some n) = n.rule

    form_in : JudgementForm → Option Node → JudgementForm
    form_in d None = d
    form_in d (Some n) = n.form

-- the first word of a node is the number of a rule
pub rule-within : (words : List ℕ) (node : Node) → node_coded words ≡ Some node → slice_index_or words 0 0 < length RULES.now
rule-within words node e =
    let r = reads-coded words node e in
    rw (r.is) (slice_get_within RULES.now r.rule_word node.rule r.rule_is)

-- and the second that of a form
pub form-within : (words : List ℕ) (node : Node) → node_coded words ≡ Some node → slice_index_or words 1 0 < length FORMS
form-within words node e =
    let r = reads-coded words node e in
    rw (r.is) (slice_get_within FORMS r.form_word node.form r.form_is)

-- a node whose parts are cut from its words
pub node-read : (words : List ℕ) (node : Node) → node_coded words ≡ Some node → (rule : RuleName) (f : JudgementForm) (claimed parts premises : List ℕ)
    → slice_get RULES.now (slice_index_or words 0 0) ≡ Some rule → slice_get FORMS (slice_index_or words 1 0) ≡ Some f
    → claimed ≡ take (places_of f) (drop 2 words)
    → parts ≡ take (length (kinds_of rule)) (drop (places_of f) (drop 2 words))
    → premises ≡ drop (length (kinds_of rule)) (drop (places_of f) (drop 2 words))
    → node_coded words ≡ Some (record { rule = rule; form = f; claimed = claimed; parts = parts; premises = premises })
node-read [] node e rule f claimed parts premises is_rule is_form c p q = cc
node-read (r ∷ []) node e rule f claimed parts premises is_rule is_form c p q = cc
node-read (r ∷ j ∷ cells) node e rule f claimed parts premises is_rule is_form c p q = rw (is_rule, is_form, c, p, q) refl

-- Of each form by computation.
pub form_at : (f : JudgementForm) → slice_get FORMS (tag_of the_type f) ≡ Some f
form_at form.Ctx = refl
form_at form.Ty = refl
form_at form.TyEq = refl
form_at form.Tm = refl
form_at form.TmEq = refl
form_at form.Sb = refl

-- a judgement has as many places as its form

judged-count : (f : JudgementForm) (xs : List Thing) (J : Judgement) → judged f xs ≡ Some J → length xs ≡ places_of f
judged-count form.Ctx (AContext G ∷ []) J e = refl
judged-count form.Ty (AContext G ∷ ATree A ∷ []) J e = refl
judged-count form.TyEq (AContext G ∷ ATree A ∷ ATree B ∷ []) J e = refl
judged-count form.Tm (AContext G ∷ ATree a ∷ ATree A ∷ []) J e = refl
judged-count form.TmEq (AContext G ∷ ATree a ∷ ATree b ∷ ATree A ∷ []) J e = refl
judged-count form.Sb (AContext H ∷ ASubst d ∷ AContext G ∷ []) J e = refl
judged-count _ _ J e = cc

pub use-counts : (f : Meanings) (g : ℕ → Option Judgement) (rule : RuleName) (parts premises : List ℕ) (J : Judgement) → IsUse f g rule parts premises J → (length parts ≡ length (kinds_of rule)) × (length premises ≡ premises_of rule)
use-counts f g rule parts premises J u =
    let kinds = rule_kinds rule u.things (rw u.instance.is refl) in (
      meanings-length f parts u.things u.parts_are ∙ sym (length-map u.things kind_of) ∙ ap length kinds,
      meanings-length g premises u.judgements u.premises_are ∙ ap length u.instance.wants ∙ wants-count rule u.things u.instance.rule u.instance.is,
    )

length-taken : {X : Type 0} (n : ℕ) (xs : List X) → length (take n xs) ≡ n → n ≤ length xs
length-taken zero xs e = omega arith
length-taken (suc n) [] e = omega arith
length-taken (suc n) (x ∷ xs) e = let h = length-taken n xs (omega arith) in omega arith

length-left : {X : Type 0} (n m : ℕ) (xs : List X) → n ≤ length xs → m ≤ length (drop n xs) → n + m ≤ length xs
length-left zero m xs le left = omega arith
length-left (suc n) m [] le left = absurd (omega arith)
length-left (suc n) m (x ∷ xs) le left = let h = length-left n m xs (omega arith) left in omega arith

pub whole-right : (f : Meanings) (nodes : List (List ℕ)) (k : ℕ) (words : List ℕ) → IsRight f nodes k words → IsWhole words
whole-right f nodes k words r =
    let node = r.node in
    let o = one-some (judged node.form) (meanings f node.claimed) r.judgement r.concludes in
    let claimed_count : length node.claimed ≡ places_of node.form = meanings-length f node.claimed o.first o.first_is ∙ judged-count node.form o.first r.judgement o.whole in
    let parts_count : length node.parts ≡ length (kinds_of node.rule) = (use-counts f (concluded f nodes) node.rule node.parts node.premises r.judgement r.use_is).0 in
    let b = reads-coded words node r.is in
    let cells : List ℕ = b.cells in
    let first : places_of node.form ≤ length cells = length-taken (places_of node.form) cells (ap (λ (n : Node). length n.claimed) (taken b.cells node b.node_is) ∙ claimed_count) in
    let second : length (kinds_of node.rule) ≤ length (drop (places_of node.form) cells) = length-taken (length (kinds_of node.rule)) (drop (places_of node.form) cells) (ap (λ (n : Node). length n.parts) (taken b.cells node b.node_is) ∙ parts_count) in
    record {
      node = node;
      is = r.is;
      claimed_count = claimed_count;
      enough = omega (arith, ap length b.is, length-left (places_of node.form) (length (kinds_of node.rule)) cells first second);
    }
  where
    node_in : Node → Option Node → Node
    node_in d None = d
    node_in d (Some n) = n

    taken : (cells : List ℕ) (node : Node) → node_of cells node.rule node.form ≡ Some node → node_in node (node_of cells node.rule node.form) ≡ node
    taken cells node e = ap (node_in node) e

-- a node that is read: its premises are earlier, and it is a use of its rule

pub read-earlier : (f : Meanings) (nodes : List (List ℕ)) (k : ℕ) (words : List ℕ) → IsRight f nodes k words → (n : Node) → node_coded words ≡ Some n → All (λ j. j < k) n.premises
read-earlier f nodes k words r n coded =
    let is = r.is in
    let same : r.node ≡ n = cc in
    subst (λ (m : Node). All (λ j. j < k) m.premises) same r.earlier

pub read-use : (f : Meanings) (nodes : List (List ℕ)) (k : ℕ) (words : List ℕ) → slice_get nodes k ≡ Some words → IsRight f nodes k words → (n : Node) → node_coded words ≡ Some n → (J : Judgement) → concluded f nodes k ≡ Some J → IsUse f (concluded f nodes) n.rule n.parts n.premises J
read-use f nodes k words at r n coded J e =
    let is = r.is in
    let same : r.node ≡ n = cc in
    let concludes : concluded f nodes k ≡ Some r.judgement = rw (at, r.is) r.concludes in
    let says : r.judgement ≡ J = cc in
    subst (λ (m : Node). IsUse f (concluded f nodes) m.rule m.parts m.premises J) same
    (subst (λ K. IsUse f (concluded f nodes) r.node.rule r.node.parts r.node.premises K) says r.use_is)

-- what stays as rows and nodes come in

record Stays {A : Type 0} (f g : ℕ → Option A) : Type 0 where
  pub keeps : (k : ℕ) (x : A) → f k ≡ Some x → g k ≡ Some x

meanings-stay : {A : Type 0} (f g : ℕ → Option A) → Stays f g → (ks : List ℕ) (xs : List A) → meanings f ks ≡ Some xs → meanings g ks ≡ Some xs
meanings-stay f g stays [] xs e = e
meanings-stay f g stays (k ∷ ks) xs e =
    let m = meanings-cons f k ks xs e in
    rw (stays.keeps k m.first m.first_is, meanings-stay f g stays ks m.rest m.rest_is) (ap Some (sym m.whole))

judgement-kept : (f g : Meanings) → Kept f g → (n : Node) (J : Judgement) → judgement_of f n ≡ Some J → judgement_of g n ≡ Some J
judgement-kept f g kept n J e =
    let o = one-some (judged n.form) (meanings f n.claimed) J e in
    ap (said n.form) (meanings-kept f g kept n.claimed o.first o.first_is) ∙ o.whole

pub node_at-prefix : (nodes more : List (List ℕ)) (k : ℕ) (n : Node) → node_at nodes k ≡ Some n → node_at (nodes ++ more) k ≡ Some n
node_at-prefix nodes more k n e =
    let o = one-some node_coded (slice_get nodes k) n e in
    ap (option_and_then node_coded) (slice_get-prefix nodes more k o.first o.first_is) ∙ o.whole

pub concluded-kept : (f g : Meanings) (nodes more : List (List ℕ)) → Kept f g → (k : ℕ) (J : Judgement) → concluded f nodes k ≡ Some J → concluded g (nodes ++ more) k ≡ Some J
concluded-kept f g nodes more kept k J e =
    let o = one-some (judgement_of f) (node_at nodes k) J e in
    ap (option_and_then (judgement_of g)) (node_at-prefix nodes more k o.first o.first_is) ∙ judgement-kept f g kept o.first J o.whole

pub use-kept : (f g : Meanings) (nodes more : List (List ℕ)) → Kept f g → (rule : RuleName) (parts premises : List ℕ) (J : Judgement) → IsUse f (concluded f nodes) rule parts premises J → IsUse g (concluded g (nodes ++ more)) rule parts premises J
use-kept f g nodes more kept rule parts premises J u = record {
  things = u.things;
  judgements = u.judgements;
  parts_are = meanings-kept f g kept parts u.things u.parts_are;
  premises_are = meanings-stay (concluded f nodes) (concluded g (nodes ++ more)) (record { keeps = concluded-kept f g nodes more kept }) premises u.judgements u.premises_are;
  instance = u.instance;
}

right-kept : (f g : Meanings) (nodes more : List (List ℕ)) → Kept f g → (k : ℕ) (words : List ℕ) → IsRight f nodes k words → IsRight g (nodes ++ more) k words
right-kept f g nodes more kept k words r = record {
  node = r.node;
  is = r.is;
  judgement = r.judgement;
  concludes = judgement-kept f g kept r.node r.judgement r.concludes;
  use_is = use-kept f g nodes more kept r.node.rule r.node.parts r.node.premises r.judgement r.use_is;
  earlier = r.earlier;
}

-- nodes stay right as rows come in
pub nodes-kept : (f g : Meanings) (nodes : List (List ℕ)) → Kept f g → AreRight f nodes → AreRight g nodes
nodes-kept f g nodes kept h = record { each = λ k words at. subst (λ ns. IsRight g ns k words) (append-nil nodes) (right-kept f g nodes [] kept k words (h.each k words at)) }

-- so they do with one right node more
pub nodes-added : (f : Meanings) (nodes : List (List ℕ)) (words : List ℕ) (nodes' : List (List ℕ)) → AreRight f nodes → IsRight f nodes (length nodes) words → IsInterned nodes words nodes' → AreRight f nodes'
nodes-added f nodes words nodes' h r (inl old) = subst (AreRight f) (sym old.1) h
nodes-added f nodes words nodes' h r (inr new) = subst (AreRight f) (sym new.1) (record { each = each })
  where
    each : (k : ℕ) (others : List ℕ) → slice_get (nodes ++ words ∷ []) k ≡ Some others → IsRight f (nodes ++ words ∷ []) k others
    each k others at = elim (slice_get-push nodes words k others at) [
      | inl there ↦ right-kept f f nodes (words ∷ []) (kept-same f) k others (h.each k others there.1)
      | inr last ↦ subst (IsRight f (nodes ++ words ∷ []) k) last.1 (subst (λ n. IsRight f (nodes ++ words ∷ []) n words) (sym last.0) (right-kept f f nodes (words ∷ []) (kept-same f) (length nodes) words r))
    ]
