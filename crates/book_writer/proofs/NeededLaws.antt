-- Rows and nodes of a book that stand on marked ones.
use Rattle.std.proofs.Common.{◌≡◌, ℕ, suc, ◌<◌, ◌≤◌, ◌↔◌, inl, inr, Bool, true, false, List, [], ◌∷◌, length, get_or, refl, sym, ◌∙◌, ap, ap₂, subst, arith, Option, Some, None, IsSome}
use Rattle.std.specs.Prelude.{slice_get, option_and_then}
use Rattle.std.specs.List.{All}
use Rattle.std.proofs.lemmas.Option.{slice_get_within, slice_get-get_or}
use Rattle.std.proofs.lemmas.List.Elements.{All-head, All-tail, All-weaker, All-contains}
use Rattle.theory.specs.declared.rule.RuleName.{RuleName}
use Rattle.trees.specs.Judgements.{Judgement}
use Rattle.trees.specs.Things.{Thing, Meanings, Kept, both, consed, made, meanings, instance_of, pushed_on, then_of, with_variable, with_a_name, with_a_face}
use Rattle.trees.proofs.Meanings.{meanings-cons}
use Rattle.rows.specs.Views.{term_meaning, sub_meaning, ctx_meaning, row_meaning, term_names, sub_names, ctx_names}
use Rattle.rows.specs.declared.views.TermRow.{TermRow}
use Rattle.rows.specs.declared.views.TermRow.TheVariants as term
use Rattle.rows.specs.declared.views.SubRow.{SubRow}
use Rattle.rows.specs.declared.views.SubRow.TheVariants as sub
use Rattle.rows.specs.declared.views.CtxRow.{CtxRow}
use Rattle.rows.specs.declared.views.CtxRow.TheVariants as ctx
use Rattle.rows.specs.declared.views.Row.{Row}
use Rattle.rows.specs.declared.views.Row.TheVariants as row
use Rattle.rows.proofs.OptionLaws.{one-some, both-some}
use Rattle.rows.proofs.MeaningLaws.{is_some-value}
use Rattle.interned.specs.Coding.{thing_coded}
use Rattle.interned.specs.Names.{row_names}
use Rattle.interned.proofs.CodingLaws.{thing_coded-kept}
use Rattle.book.specs.Contents.{Contents}
use Rattle.book.specs.Nodes.{Node}
use Rattle.book.specs.Right.{IsUse, IsMadeBy}
use Rattle.book.specs.Shown.{book_means, book_nodes, book_concludes, row_over}
use Rattle.deriv_file.specs.declared.row.Row.{Row as FileRow}
use Rattle.book_writer.specs.Means.{ArePlaced, MayAdd}
use Rattle.book_writer.specs.Served.{IsMarked, Marks}
use Rattle.book_writer.specs.Needed.{where_marked, among, RowsStand, NodesStand, AreCounted, AreNeeded}
use Rattle.book_writer.proofs.MarksLaws.{from-here}

-- what is marked

pub record Among {A : Type 0} (marks : List Bool) (f : ℕ → Option A) (k : ℕ) (x : A) : Type 0 where
  pub is_marked : IsMarked marks k
  pub is : f k ≡ Some x

pub among-some : {A : Type 0} (marks : List Bool) (f : ℕ → Option A) (k : ℕ) (x : A) → among marks f k ≡ Some x → Among marks f k x
among-some {A} marks f k x e = from (slice_get marks k) refl e
  where
    from : (o : Option Bool) → slice_get marks k ≡ o → where_marked o (f k) ≡ Some x → Among marks f k x
    from None is e = cc
    from (Some false) is e = cc
    from (Some true) is e = record { is_marked = is; is = e }

pub among-is : {A : Type 0} (marks : List Bool) (f : ℕ → Option A) (k : ℕ) (x : A) → IsMarked marks k → f k ≡ Some x → among marks f k ≡ Some x
among-is marks f k x here e = ap (λ o. where_marked o (f k)) here ∙ e

pub among-there : {A : Type 0} (marks : List Bool) (f : ℕ → Option A) (k : ℕ) → IsSome (among marks f k) → IsSome (f k)
among-there {A} marks f k some = from (slice_get marks k) some
  where
    from : (o : Option Bool) → IsSome (where_marked o (f k)) → IsSome (f k)
    from None some = cc
    from (Some false) some = cc
    from (Some true) some = some

-- with more marks it stays

among-kept : (marks more : List Bool) (f : Meanings) → ((k : ℕ) → IsMarked marks k → IsMarked more k) → Kept (among marks f) (among more f)
among-kept marks more f kept = record {
  keeps = λ k x e. let a = among-some marks f k x e in among-is more f k x (kept k a.is_marked) a.is;
}

over-kept : (b : Contents) (f g : Meanings) → Kept f g → (k : ℕ) (x : Thing) → row_over b k f ≡ Some x → row_over b k g ≡ Some x
over-kept b f g kept k x e =
    let o = one-some (thing_coded f) (slice_get b.rows k) x e in
    ap (option_and_then (thing_coded g)) o.first_is ∙ thing_coded-kept f g kept o.first x o.whole

-- what names marked rows alone means by them what it does

pub meanings-among : {A : Type 0} (marks : List Bool) (f : ℕ → Option A) (ks : List ℕ) (xs : List A) → All (IsMarked marks) ks → meanings f ks ≡ Some xs → meanings (among marks f) ks ≡ Some xs
meanings-among marks f [] xs all e = e
meanings-among marks f (k ∷ ks) xs all e =
    let m = meanings-cons f k ks xs e in
    ap₂ (both consed) (among-is marks f k m.first (All-head (IsMarked marks) k ks all) m.first_is) (meanings-among marks f ks m.rest (All-tail (IsMarked marks) k ks all) m.rest_is)
    ∙ ap Some (sym m.whole)

module _ (marks : List Bool) (f : Meanings) where
  two-among : (h : Thing → Thing → Option Thing) (j k : ℕ) (x : Thing) → All (IsMarked marks) (j ∷ k ∷ []) → both h (f j) (f k) ≡ Some x → both h (among marks f j) (among marks f k) ≡ Some x
  two-among h j k x all e =
      let b = both-some h (f j) (f k) x e in
      ap₂ (both h) (among-is marks f j b.first (All-head (IsMarked marks) j (k ∷ []) all) b.first_is) (among-is marks f k b.second (All-head (IsMarked marks) k [] (All-tail (IsMarked marks) j (k ∷ []) all)) b.second_is)
      ∙ b.whole

  term-among : (r : TermRow) (x : Thing) → All (IsMarked marks) (term_names r) → term_meaning f r ≡ Some x → term_meaning (among marks f) r ≡ Some x
  term-among (term.Var k) x all e = e
  term-among (term.Make op kids) x all e =
      let o = one-some (made op) (meanings f kids.now) x e in
      ap (option_and_then (made op)) (meanings-among marks f kids.now o.first all o.first_is) ∙ o.whole
  term-among (term.Instance t d) x all e = two-among instance_of t.0 d.0 x all e

  sub-among : (r : SubRow) (x : Thing) → All (IsMarked marks) (sub_names r) → sub_meaning f r ≡ Some x → sub_meaning (among marks f) r ≡ Some x
  sub-among (sub.Shift n) x all e = e
  sub-among (sub.Push d a) x all e = two-among pushed_on d.0 a.0 x all e
  sub-among (sub.Then d d') x all e = two-among then_of d.0 d'.0 x all e

  ctx-among : (r : CtxRow) (x : Thing) → All (IsMarked marks) (ctx_names r) → ctx_meaning f r ≡ Some x → ctx_meaning (among marks f) r ≡ Some x
  ctx-among ctx.Nil x all e = e
  ctx-among (ctx.Var G A) x all e = two-among with_variable G.0 A.0 x all e
  ctx-among (ctx.Name G) x all e =
      let o = one-some with_a_name (f G.0) x e in
      ap (option_and_then with_a_name) (among-is marks f G.0 o.first (All-head (IsMarked marks) G.0 [] all) o.first_is) ∙ o.whole
  ctx-among (ctx.Face G p) x all e = two-among with_a_face G.0 p.0 x all e

  pub row-among : (r : Row) (x : Thing) → All (IsMarked marks) (row_names r) → row_meaning f r ≡ Some x → row_meaning (among marks f) r ≡ Some x
  row-among (row.Term r) x all e = term-among r x all e
  row-among (row.Subst r) x all e = sub-among r x all e
  row-among (row.Context r) x all e = ctx-among r x all e

-- rows, from the last to the first

pub record MarkingRows (b : Contents) (start : List Bool) (left : ℕ) (rows : List Bool) : Type 0 where
  pub count : length rows ≡ length start
  pub few : left ≤ length start
  pub kept : (k : ℕ) → IsMarked start k → IsMarked rows k
  pub stand : RowsStand b rows left

within : (marks : List Bool) (k : ℕ) → IsMarked marks k → k < length marks
within marks k e = slice_get_within marks k true e

pub rows-start : (b : Contents) (start : List Bool) (left : ℕ) → left ≡ length start → MarkingRows b start left start
rows-start b start left all = record {
  count = refl;
  few = omega (arith, all);
  kept = λ k m. m;
  stand = record { each = λ k x le m e. absurd (omega (arith, all, within start k m)) };
}

-- marks below a place leave those above it

above : (old new : List Bool) (ks : List ℕ) (n : ℕ) → All (λ k. k < n) ks → Marks old ks new → (k : ℕ) → n ≤ k → IsMarked new k → IsMarked old k
above old new ks n low m k le is = elim (m.only k is) [
  | inl was ↦ was
  | inr c ↦ absurd (omega (arith, All-contains (λ j. j < n) ks k low c))
]

pub rows-on : (b : Contents) (start : List Bool) (left next : ℕ) (rows new : List Bool) (r : Row) → left ≡ suc next → ((f : Meanings) → row_over b next f ≡ row_meaning f r) → book_means b next ≡ row_meaning (book_means b) r → All (λ k. k < next) (row_names r) → Marks rows (row_names r) new → MarkingRows b start left rows → MarkingRows b start next new
rows-on b start left next rows new r more over means low m g =
    let f : Meanings = book_means b in
    let few = g.few in
    let P : ℕ → Type 0 = λ k. (x : Thing) → IsMarked new k → f k ≡ Some x → row_over b k (among new f) ≡ Some x in
    let first : P next = λ x is e. over (among new f) ∙ row-among new f r x m.all (sym means ∙ e) in
    let last : (k : ℕ) → suc next ≤ k → P k = λ k le x is e. over-kept b (among rows f) (among new f) (among-kept rows new f m.kept) k x (g.stand.each k x (omega (arith, more, le)) (above rows new (row_names r) next low m k (omega (arith, le)) is) e) in
    record {
      count = m.count ∙ g.count;
      few = omega (arith, few, more);
      kept = λ k is. m.kept k (g.kept k is);
      stand = record { each = λ k x le is e. from-here P next first last k le x is e };
    }

pub rows-skip : (b : Contents) (start : List Bool) (left next : ℕ) (rows : List Bool) → left ≡ suc next → (IsMarked rows next → ⊥) → MarkingRows b start left rows → MarkingRows b start next rows
rows-skip b start left next rows more none g =
    let few = g.few in
    let P : ℕ → Type 0 = λ k. (x : Thing) → IsMarked rows k → book_means b k ≡ Some x → row_over b k (among rows (book_means b)) ≡ Some x in
    record {
      count = g.count;
      few = omega (arith, few, more);
      kept = g.kept;
      stand = record { each = λ k x le is e. from-here P next (λ y here at. absurd (none here)) (λ j low y there at. g.stand.each j y (omega (arith, more, low)) there at) k le x is e };
    }

pub rows-end : (b : Contents) (start : List Bool) (left : ℕ) (rows : List Bool) → left ≡ 0 → MarkingRows b start left rows → RowsStand b rows 0
rows-end b start left rows none g = record { each = λ k x le is e. g.stand.each k x (omega (arith, none)) is e }

-- nodes, likewise

pub record MarkingNodes (b : Contents) (start first : List Bool) (left : ℕ) (rows nodes : List Bool) : Type 0 where
  pub row_count : length rows ≡ length start
  pub node_count : length nodes ≡ length first
  pub few : left ≤ length first
  pub kept : (k : ℕ) → IsMarked first k → IsMarked nodes k
  pub stand : NodesStand b rows nodes left

pub nodes-start : (b : Contents) (start first : List Bool) (left : ℕ) → left ≡ length first → MarkingNodes b start first left start first
nodes-start b start first left all = record {
  row_count = refl;
  node_count = refl;
  few = omega (arith, all);
  kept = λ k m. m;
  stand = record {
    parts = λ k node le m e. absurd (omega (arith, all, within first k m));
    premises = λ k node le m e. absurd (omega (arith, all, within first k m));
  };
}

pub nodes-on : (b : Contents) (start first : List Bool) (left next : ℕ) (rows nodes rows' nodes' : List Bool) (node : Node) → left ≡ suc next → book_nodes b next ≡ Some node → All (λ k. k < next) node.premises → Marks nodes node.premises nodes' → Marks rows node.parts rows' → MarkingNodes b start first left rows nodes → MarkingNodes b start first next rows' nodes'
nodes-on b start first left next rows nodes rows' nodes' node more at low m p g =
    let few = g.few in
    let P : ℕ → Type 0 = λ k. (n : Node) → IsMarked nodes' k → book_nodes b k ≡ Some n → All (IsMarked rows') n.parts × All (IsMarked nodes') n.premises in
    let same : (n : Node) → book_nodes b next ≡ Some n → node ≡ n = λ n e. let both_are : Some node ≡ Some n = sym at ∙ e in cc in
    let here : P next = λ n is e. (
      subst (λ (q : Node). All (IsMarked rows') q.parts) (same n e) p.all,
      subst (λ (q : Node). All (IsMarked nodes') q.premises) (same n e) m.all,
    ) in
    let last : (k : ℕ) → suc next ≤ k → P k = λ k le n is e.
    let was = above nodes nodes' node.premises next low m k (omega (arith, le)) is in (
      All-weaker (IsMarked rows) (IsMarked rows') (λ j w. p.kept j w) n.parts (g.stand.parts k n (omega (arith, more, le)) was e),
      All-weaker (IsMarked nodes) (IsMarked nodes') (λ j w. m.kept j w) n.premises (g.stand.premises k n (omega (arith, more, le)) was e),
    ) in
    record {
      row_count = p.count ∙ g.row_count;
      node_count = m.count ∙ g.node_count;
      few = omega (arith, few, more);
      kept = λ k is. m.kept k (g.kept k is);
      stand = record {
        parts = λ k n le is e. (from-here P next here last k le n is e).0;
        premises = λ k n le is e. (from-here P next here last k le n is e).1;
      };
    }

pub nodes-skip : (b : Contents) (start first : List Bool) (left next : ℕ) (rows nodes : List Bool) → left ≡ suc next → (IsMarked nodes next → ⊥) → MarkingNodes b start first left rows nodes → MarkingNodes b start first next rows nodes
nodes-skip b start first left next rows nodes more none g =
    let few = g.few in
    let P : ℕ → Type 0 = λ k. (n : Node) → IsMarked nodes k → book_nodes b k ≡ Some n → All (IsMarked rows) n.parts × All (IsMarked nodes) n.premises in
    let here : P next = λ n is e. absurd (none is) in
    let last : (k : ℕ) → suc next ≤ k → P k = λ k le n is e. (g.stand.parts k n (omega (arith, more, le)) is e, g.stand.premises k n (omega (arith, more, le)) is e) in
    record {
      row_count = g.row_count;
      node_count = g.node_count;
      few = omega (arith, few, more);
      kept = g.kept;
      stand = record {
        parts = λ k n le is e. (from-here P next here last k le n is e).0;
        premises = λ k n le is e. (from-here P next here last k le n is e).1;
      };
    }

pub nodes-end : (b : Contents) (start first : List Bool) (left : ℕ) (rows nodes : List Bool) → left ≡ 0 → MarkingNodes b start first left rows nodes → NodesStand b rows nodes 0
nodes-end b start first left rows nodes none g = record {
  parts = λ k n le is e. g.stand.parts k n (omega (arith, none)) is e;
  premises = λ k n le is e. g.stand.premises k n (omega (arith, none)) is e;
}

-- more rows may be marked
pub nodes-later : (b : Contents) (rows more nodes : List Bool) → ((k : ℕ) → IsMarked rows k → IsMarked more k) → NodesStand b rows nodes 0 → NodesStand b more nodes 0
nodes-later b rows more nodes kept g = record {
  parts = λ k n le is e. All-weaker (IsMarked rows) (IsMarked more) kept n.parts (g.parts k n le is e);
  premises = g.premises;
}

-- a marked node is an instance of its rule over marked rows and nodes
pub use-among : (b : Contents) (rows nodes : List Bool) (rule : RuleName) (parts premises : List ℕ) (J : Judgement) → All (IsMarked rows) parts → All (IsMarked nodes) premises → IsUse (book_means b) (book_concludes b) rule parts premises J → IsUse (among rows (book_means b)) (among nodes (book_concludes b)) rule parts premises J
use-among b rows nodes rule parts premises J ps qs u = record {
  things = u.things;
  judgements = u.judgements;
  parts_are = meanings-among rows (book_means b) parts u.things ps u.parts_are;
  premises_are = meanings-among nodes (book_concludes b) premises u.judgements qs u.premises_are;
  instance = u.instance;
}

-- a mark as it is looked up

pub mark-is : (marks : List Bool) (k : ℕ) → k < length marks → get_or marks k false ≡ true → IsMarked marks k
mark-is marks k lt e = slice_get-get_or marks k false lt ∙ ap Some e

pub unmarked : (marks : List Bool) (k : ℕ) → k < length marks → get_or marks k false ≡ false → IsMarked marks k → ⊥
unmarked marks k lt e is =
    let not : Some true ≡ Some false = sym is ∙ slice_get-get_or marks k false lt ∙ ap Some e in
    cc

-- a marked row comes next
pub may-add : (b : Contents) (marks : List Bool) (k : ℕ) (lines : List FileRow) (places : List ℕ) → IsMarked marks k → IsSome (book_means b k) → RowsStand b marks 0 → ArePlaced (among marks (book_means b)) lines places → MayAdd (among marks (book_means b)) b k lines places
may-add b marks k lines places here some stand placed =
    let x = is_some-value (book_means b k) some in
    let e = stand.each k x.0 (omega arith) here x.1 in
    record { placed = placed; there = rw e refl }

pub all-there : {A : Type 0} (marks : List Bool) (f : ℕ → Option A) (n : ℕ) → ((k : ℕ) → IsSome (f k) → k < n) → (k : ℕ) → IsSome (among marks f k) → k < n
all-there marks f n all k some = all k (among-there marks f k some)

-- the parts and premises of a marked node are marked

pub record MarkedNode (rows nodes : List Bool) (parts premises : List ℕ) : Type 0 where
  pub parts_are : All (IsMarked rows) parts
  pub premises_are : All (IsMarked nodes) premises

pub marked-node : (b : Contents) (rows nodes : List Bool) (k : ℕ) (rule : RuleName) (parts premises : List ℕ) → NodesStand b rows nodes 0 → IsMarked nodes k → IsMadeBy rule parts premises (book_nodes b k) → MarkedNode rows nodes parts premises
marked-node b rows nodes k rule parts premises stand here made = record {
  parts_are = subst (All (IsMarked rows)) made.parts_are (stand.parts k made.node (omega arith) here made.is);
  premises_are = subst (All (IsMarked nodes)) made.premises_are (stand.premises k made.node (omega arith) here made.is);
}

-- marks of the same number
pub counted-as : (b : Contents) (rows nodes rows' nodes' : List Bool) → length rows' ≡ length rows → length nodes' ≡ length nodes → AreCounted b rows nodes → AreCounted b rows' nodes'
counted-as b rows nodes rows' nodes' r n h = record {
  rows_are = λ k. (λ some. let low = (h.rows_are k).0 some in omega (arith, r, low), λ low. (h.rows_are k).1 (omega (arith, r, low)));
  nodes_are = λ k. (λ some. let low = (h.nodes_are k).0 some in omega (arith, n, low), λ low. (h.nodes_are k).1 (omega (arith, n, low)));
}

pub counted-from : (b : Contents) (rows nodes : List Bool) (i j : ℕ) → ((k : ℕ) → IsSome (book_means b k) ↔ (k < i)) → ((k : ℕ) → IsSome (book_concludes b k) ↔ (k < j)) → length rows ≡ i → length nodes ≡ j → AreCounted b rows nodes
counted-from b rows nodes i j f g r n = record {
  rows_are = λ k. (λ some. let low = (f k).0 some in omega (arith, r, low), λ low. (f k).1 (omega (arith, r, low)));
  nodes_are = λ k. (λ some. let low = (g k).0 some in omega (arith, n, low), λ low. (g k).1 (omega (arith, n, low)));
}

-- what is needed, of marks that are these
pub needed-as : (b : Contents) (roots : List ℕ) (rows nodes rows' nodes' : List Bool) → rows' ≡ rows → nodes' ≡ nodes → AreNeeded b roots rows nodes → AreNeeded b roots rows' nodes'
needed-as b roots rows nodes rows' nodes' r n h =
    subst (λ (ms : List Bool). AreNeeded b roots ms nodes') (sym r) (subst (λ (ns : List Bool). AreNeeded b roots rows ns) (sym n) h)
