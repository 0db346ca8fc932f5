-- How an entry is filled, and what its rows derive then.
use Rattle.std.proofs.Common.{◌≡◌, ◌<◌, ◌≤◌, ◌+◌, ◌^◌, ℕ, zero, suc, true, List, [], ◌∷◌, ◌++◌, length, take, map, refl, sym, ◌∙◌, ap, ap₂, subst, arith, Option, Some, IsSome, length-append}
use Rattle.std.specs.Prelude.{slice_get, slice_index_or, option_and_then, sum_by}
use Rattle.std.proofs.lemmas.Option.{slice_get_within}
use Rattle.std.proofs.lemmas.List.{length-map}
use Rattle.std.proofs.lemmas.List.Sums.{sum_by-cons}
use Rattle.std.specs.List.{Contains, list_all}
use Rattle.theory.specs.declared.rule.RuleName.{RuleName}
use Rattle.trees.specs.Trees.{Subst}
use Rattle.trees.specs.Judgements.{Context, Judgement, trees}
use Rattle.trees.specs.Language.{Ctx, Ty, TyEq, Tm, TmEq, Sb}
use Rattle.trees.specs.Things.{Thing, kind_of, meanings}
use Rattle.trees.proofs.Meanings.{meanings-cons, meanings-length, meanings-push}
use Rattle.rows.proofs.OptionLaws.{both-some, one-some}
use Rattle.patterns.specs.Values.{parts_of, rule_of, judgement_of}
use Rattle.rules.specs.Instances.{IsInstance}
use Rattle.rules.proofs.TableLaws.{rule_kinds}
use Rattle.recipes.specs.Statements.{pattern_of}
use Rattle.recipes.proofs.Ties.{rule-pattern}
use Rattle.recipes.specs.declared.row.Row.{Row}
use Rattle.recipes.specs.declared.row.Row.TheVariants as row
use Rattle.recipes.specs.Derivations.{RunsTo}
use Rattle.recipe_runner.specs.Running.{MayRun, most_made, most_made_by}
use Rattle.book.specs.Contents.{Contents}
use Rattle.book.specs.Nodes.{Node}
use Rattle.book.specs.Right.{IsUse, IsMadeBy}
use Rattle.book.specs.Shown.{book_concludes, book_means, book_nodes}
use Rattle.book.specs.declared.kernel.NodeId.{NodeId}
use Rattle.typed_nodes.specs.Typed.{Says}
use Rattle.glue_entries.specs.Statements.{equiv_tycong_statement}
use Rattle.presuppositions.specs.declared.source.Label.{Label}
use Rattle.presuppositions.specs.declared.source.Source.{Source}
use Rattle.presuppositions.specs.declared.source.Source.TheVariants as source
use Rattle.presuppositions.specs.declared.source.Entry.{Entry}
use Rattle.presuppositions.specs.Behind.{behind, behind_pattern, tree_views}
use Rattle.presuppositions.specs.Entries.{IsEntry, over_rule}
use Rattle.presuppositions.specs.Sources.{source_of, sources, source_patterns}
use Rattle.presuppositions.specs.Sought.{is_sought, numbers_made}
use Rattle.presuppositions.proofs.BehindLaws.{source-values}
use Rattle.presuppositions.proofs.TreeLaws.{entry-derives}
use Rattle.presupposed.specs.declared.memory.Question.{Question}
use Rattle.presupposed.specs.Asked.{Stands}
use Rattle.presupposed.specs.Tasks.{Awaits, Fills, place_of}
use Rattle.presupposed.specs.Parts.{IsInSight}
use Rattle.presupposed.proofs.RuleLaws.{AllShort, IsShort, few_parts, few_wants, in_sight, parts_fit}
use Rattle.presupposed.proofs.SourceLaws.{all_sources, next_source, sought_at, sought_values}

some-same : {A : Type 0} (x y : A) → ◌≡◌ {A = Option A} (Some x) (Some y) → x ≡ y
some-same x y e = cc

-- the use of the rule by which a node was made
pub made_use : (b : Contents) (node : NodeId) (made : Node) (rule : RuleName) (parts premises : List ℕ) (J : Judgement) → book_nodes b node.0 ≡ Some made → IsMadeBy rule parts premises (book_nodes b node.0) → IsUse (book_means b) (book_concludes b) rule parts premises J → IsUse (book_means b) (book_concludes b) made.rule made.parts made.premises J
made_use b node made rule parts premises J is by u =
    let e : Some by.node ≡ Some made = sym by.is ∙ is in
    let same : by.node ≡ made = cc in
    subst (λ n. IsUse (book_means b) (book_concludes b) n.rule n.parts n.premises J) same
    (subst (λ r. IsUse (book_means b) (book_concludes b) r by.node.parts by.node.premises J) (sym by.rule_is)
    (subst (λ ps. IsUse (book_means b) (book_concludes b) rule ps by.node.premises J) (sym by.parts_are)
    (subst (λ qs. IsUse (book_means b) (book_concludes b) rule parts qs J) (sym by.premises_are) u)))

-- shifts of premises are those of a book

abbrev pub ShortShifts : Contents → Type 0
ShortShifts b = (k : ℕ) (H : Context) (d : Subst) (G : Context) → book_concludes b k ≡ Some (Sb H d G) → d.shift ≤ 2 ^ 48

contained : {A : Type 0} (f : ℕ → Option A) (ks : List ℕ) (xs : List A) (x : A) → meanings f ks ≡ Some xs → Contains xs x → (k : ℕ) × (f k ≡ Some x)
contained f [] [] x e (k, lt, is) = absurd (omega (arith, lt))
contained f [] (y ∷ xs) x e c = absurd (cc e)
contained {A} f (j ∷ ks) xs x e c =
    let m = meanings-cons f j ks xs e in
    within m.first m.rest m.first_is (λ d. contained f ks m.rest x m.rest_is d) (subst (λ ys. Contains ys x) m.whole c)
  where
    within : (first : A) (rest : List A) → f j ≡ Some first → (Contains rest x → (k : ℕ) × (f k ≡ Some x)) → Contains (first ∷ rest) x → (k : ℕ) × (f k ≡ Some x)
    within first rest first_is later (zero, lt, is) = (j, first_is ∙ ap Some is)
    within first rest first_is later (suc i, lt, is) = later (i, omega (arith, lt), is)

short_one : (b : Contents) (k : ℕ) (K : Judgement) → ShortShifts b → book_concludes b k ≡ Some K → IsShort K
short_one b k (Sb H d G) h e = h k H d G e
short_one b k (Ctx G) h e = tt
short_one b k (Ty G A) h e = tt
short_one b k (TyEq G A B) h e = tt
short_one b k (Tm G a A) h e = tt
short_one b k (TmEq G a c A) h e = tt

short_wants : (b : Contents) (premises : List ℕ) (wants : List Judgement) → ShortShifts b → meanings (book_concludes b) premises ≡ Some wants → AllShort wants
short_wants b premises wants h e = λ K c. let (k, is) = contained (book_concludes b) premises wants K e c in short_one b k K h is

-- as the rule has them at its parts
wants_pattern : (name : RuleName) (xs : List Thing) (Js : List Judgement) (K : Judgement) (i : IsInstance name xs Js K) → Js ≡ map (judgement_of (parts_of xs)) (pattern_of name).wants
wants_pattern name xs Js K i =
    let kinds = rule_kinds name xs (subst IsSome (sym i.is) refl) in
    let e : Some (rule_of (parts_of xs) (pattern_of name)) ≡ Some i.rule = sym (rule-pattern name xs kinds) ∙ i.is in
    let same : i.rule ≡ rule_of (parts_of xs) (pattern_of name) = cc in
    i.wants ∙ ap (λ r. r.wants) same

pub gives_pattern : (name : RuleName) (xs : List Thing) (Js : List Judgement) (K : Judgement) (i : IsInstance name xs Js K) → K ≡ judgement_of (parts_of xs) (pattern_of name).gives
gives_pattern name xs Js K i =
    let kinds = rule_kinds name xs (subst IsSome (sym i.is) refl) in
    let e : Some (rule_of (parts_of xs) (pattern_of name)) ≡ Some i.rule = sym (rule-pattern name xs kinds) ∙ i.is in
    let same : i.rule ≡ rule_of (parts_of xs) (pattern_of name) = cc in
    i.gives ∙ ap (λ r. r.gives) same

-- an entry of which nothing is filled
pub fills_start : (b : Contents) (q : Question) (e : Entry) (J : Judgement) (made : Node) (stands : Stands b q J) → book_nodes b q.node.0 ≡ Some made → IsUse (book_means b) (book_concludes b) made.rule made.parts made.premises stands.0 → IsEntry (equiv_tycong_statement ∷ []) made.rule q.label e.sources.now e.rows.now e.last → Fills b q e [] J
fills_start b q e J made stands is u entry =
    let v = parts_of u.things in
    let ss = e.sources.now in
    let pattern = pattern_of made.rule in
    let wants = wants_pattern made.rule u.things u.judgements stands.0 u.instance in
    let two = both-some (over_rule made.rule) (source_patterns pattern.wants ss) (behind_pattern q.label pattern.gives) entry.statement entry.is in
    record {
      stands = stands;
      made = made;
      made_is = is;
      entry = entry;
      wants = u.judgements;
      wants_are = u.premises_are;
      sought = subst (λ Js. list_all (is_sought trees tree_views Js q.label) ss ≡ true) (sym wants) (sought_values v pattern.wants two.first q.label ss two.first_is entry.sought);
      all = map (judgement_of v) two.first;
      all_are = subst (λ Js. sources Js ss ≡ Some (map (judgement_of v) two.first)) (sym wants) (source-values v pattern.wants two.first ss two.first_is);
      within = omega arith;
      named = [];
      named_are = refl;
      first = refl;
    }

-- one more is filled
pub fills_more : (b : Contents) (q : Question) (e : Entry) (few : List ℕ) (K J : Judgement) (node : NodeId) → Awaits b q e few K J → Says b node K → Fills b q e (few ++ node.0 ∷ []) J
fills_more b q e few K J node a says =
    let f = a.fills in
    let one : length (few ++ node.0 ∷ []) ≡ suc (length few) = length-append few (node.0 ∷ []) ∙ omega arith in
    let more = a.more in
    record {
      stands = f.stands;
      made = f.made;
      made_is = f.made_is;
      entry = f.entry;
      wants = f.wants;
      wants_are = f.wants_are;
      sought = f.sought;
      all = f.all;
      all_are = f.all_are;
      within = omega (arith, one, more);
      named = f.named ++ K ∷ [];
      named_are = meanings-push (book_concludes b) few f.named node.0 K f.named_are says;
      first = subst (λ n. sources f.wants (take n e.sources.now) ≡ Some (f.named ++ K ∷ [])) (sym one) a.next;
    }

place_there : (wants : List Judgement) (s : Source) (S : Judgement) → source_of trees tree_views wants s ≡ Some S → (P : Judgement) × (slice_get wants (place_of s) ≡ Some P)
place_there wants (source.Premise k) S e = (S, e)
place_there wants (source.Behind k l) S e = let o = one-some (behind l) (slice_get wants k) S e in (o.first, o.first_is)
place_there wants (source.Further k l m) S e =
    let o = one-some (behind m) (option_and_then (behind l) (slice_get wants k)) S e in
    let p = one-some (behind l) (slice_get wants k) o.first o.first_is in
    (p.first, p.first_is)

-- the next source, and its premise
pub record FillsNext (b : Contents) (q : Question) (e : Entry) (few : List ℕ) (s : Source) (J : Judgement) : Type 0 where
  pub fills : Fills b q e few J
  pub from : Judgement
  pub from_is : slice_get fills.wants (place_of s) ≡ Some from
  pub within : place_of s < length fills.made.premises
  pub judgement : Judgement
  pub is : source_of trees tree_views fills.wants s ≡ Some judgement
  pub sought : is_sought trees tree_views fills.wants q.label s ≡ true
  pub awaits : Awaits b q e few judgement J

pub fills_next : (b : Contents) (q : Question) (e : Entry) (few : List ℕ) (s : Source) (J : Judgement) → Fills b q e few J → slice_get e.sources.now (length few) ≡ Some s → FillsNext b q e few s J
fills_next b q e few s J f at =
    let n = next_source f.wants e.sources.now f.all f.named (length few) s f.all_are at f.first in
    let (P, there) = place_there f.wants s n.judgement n.is in
    let same = meanings-length (book_concludes b) f.made.premises f.wants f.wants_are in
    let inside = slice_get_within f.wants (place_of s) P there in
    record {
      fills = f;
      from = P;
      from_is = there;
      within = omega (arith, same, inside);
      judgement = n.judgement;
      is = n.is;
      sought = sought_at f.wants q.label e.sources.now (length few) s f.sought at;
      awaits = record { fills = f; more = slice_get_within e.sources.now (length few) s at; next = n.more };
    }

-- where all are filled, the rows of the entry derive what is asked for
pub fills_run : (b : Contents) (q : Question) (e : Entry) (few parts : List ℕ) (J : Judgement) (f : Fills b q e few J) → length few ≡ length e.sources.now → IsUse (book_means b) (book_concludes b) f.made.rule f.made.parts f.made.premises f.stands.0 → ShortShifts b → parts ≡ f.made.parts → MayRun (equiv_tycong_statement ∷ []) b e.rows.now (e.last ∷ []) parts few (J ∷ [])
fills_run b q e few parts J f full u short are =
    let ss = e.sources.now in
    let w : Some u.judgements ≡ Some f.wants = sym u.premises_are ∙ f.wants_are in
    let wants : u.judgements ≡ f.wants = cc in
    let all_short = subst AllShort u.instance.wants (short_wants b f.made.premises u.judgements short u.premises_are) in
    let d = entry-derives (equiv_tycong_statement ∷ []) f.made.rule q.label ss e.rows.now e.last f.entry u.things u.judgements f.stands.0 u.instance (parts_fit f.made.rule u.things u.instance.rule u.instance.is all_short) in
    let named : d.named ≡ f.all = some-same d.named f.all (sym d.sources_are ∙ ap (λ Js. sources Js ss) wants ∙ f.all_are) in
    let every : f.named ≡ f.all = all_sources f.wants ss f.all f.named (length few) (omega (arith, full)) f.all_are f.first in
    let one : d.judgement ≡ J = some-same d.judgement J (sym d.stands ∙ f.stands.2) in
    record {
      things = u.things;
      judgements = d.named;
      parts_are = ap (meanings (book_means b)) are ∙ u.parts_are;
      premises_are = f.named_are ∙ ap Some (every ∙ sym named);
      runs = subst (λ K. RunsTo (equiv_tycong_statement ∷ []) u.things d.named e.rows.now (e.last ∷ []) (K ∷ [])) one d.runs;
    }

-- rows make as few numbers for the runner
numbers_same : (r : Row) → most_made r ≡ numbers_made r
numbers_same (row.Derive k ps ns) = refl
numbers_same _ = refl

pub few_made : (rows : List Row) → most_made_by rows ≡ sum_by numbers_made rows
few_made [] = refl
few_made (r ∷ rows) = sum_by-cons most_made r rows ∙ ap₂ (λ m n. m + n) (numbers_same r) (few_made rows) ∙ sym (sum_by-cons numbers_made r rows)

-- the first of some numbers
pub first_said : {A : Type 0} (f : ℕ → Option A) (ks : List ℕ) (x : A) (xs : List A) → meanings f ks ≡ Some (x ∷ xs) → f (slice_index_or ks 0 0) ≡ Some x
first_said f [] x xs e = absurd (cc e)
first_said f (k ∷ ks) x xs e =
    let m = meanings-cons f k ks (x ∷ xs) e in
    let w : x ∷ xs ≡ m.first ∷ m.rest = m.whole in
    let same : m.first ≡ x = cc in
    m.first_is ∙ ap Some same

pub some_said : {A : Type 0} (f : ℕ → Option A) (ks : List ℕ) (x : A) (xs : List A) → meanings f ks ≡ Some (x ∷ xs) → 0 < length ks
some_said f ks x xs e = let same = meanings-length f ks (x ∷ xs) e in omega (arith, same)

-- the premises of the rule that made a context
pub opened_context : (b : Contents) (rule : RuleName) (parts premises : List ℕ) (l : Label) (G : Context) (J : Judgement) → IsUse (book_means b) (book_concludes b) rule parts premises (Ctx G) → IsInSight l G → behind l (Ctx G) ≡ Some J → meanings (book_concludes b) premises ≡ Some (J ∷ [])
opened_context b rule parts premises l G J u sight e =
    let i = u.instance in
    u.premises_are ∙ ap Some (i.wants ∙ in_sight rule u.things i.rule l G J i.is i.gives sight e)

-- a rule has few parts
pub parts_few : (b : Contents) (rule : RuleName) (parts premises : List ℕ) (J : Judgement) → IsUse (book_means b) (book_concludes b) rule parts premises J → length parts ≤ 16
parts_few b rule parts premises J u =
    let kinds = rule_kinds rule u.things (subst IsSome (sym u.instance.is) refl) in
    let same = meanings-length (book_means b) parts u.things u.parts_are in
    let count = sym (length-map u.things kind_of) ∙ ap length kinds in
    let few = few_parts rule in
    omega (arith, same, count, few)

-- and few premises
pub premises_few : (b : Contents) (rule : RuleName) (parts premises : List ℕ) (J : Judgement) → IsUse (book_means b) (book_concludes b) rule parts premises J → length premises ≤ 16
premises_few b rule parts premises J u =
    let pattern = pattern_of rule in
    let same = meanings-length (book_concludes b) premises u.judgements u.premises_are in
    let wants = ap length (wants_pattern rule u.things u.judgements J u.instance) in
    let count = length-map pattern.wants (judgement_of (parts_of u.things)) in
    let few = few_wants rule in
    omega (arith, same, wants, count, few)

-- the parts and premises of the node
pub made_parts : (b : Contents) (node : NodeId) (made : Node) (rule : RuleName) (parts premises : List ℕ) → book_nodes b node.0 ≡ Some made → IsMadeBy rule parts premises (book_nodes b node.0) → (parts ≡ made.parts) × (premises ≡ made.premises)
made_parts b node made rule parts premises is by =
    let e : Some by.node ≡ Some made = sym by.is ∙ is in
    let same : by.node ≡ made = cc in
    (sym by.parts_are ∙ ap (λ n. n.parts) same, sym by.premises_are ∙ ap (λ n. n.premises) same)
