-- The first rows and nodes of a book, which name no others.
use Rattle.std.proofs.Common.{◌≡◌, ℕ, zero, suc, ◌<◌, ◌≤◌, List, [], ◌∷◌, length, take, refl, sym, ◌∙◌, ap, ap₂, subst, arith, Option, Some, None, IsSome, ◌↔◌}
use Rattle.std.specs.Prelude.{slice_get, option_and_then}
use Rattle.std.specs.List.{All}
use Rattle.std.proofs.lemmas.Option.{slice_get_within}
use Rattle.std.proofs.lemmas.List.{take-take}
use Rattle.std.proofs.lemmas.List.Elements.{All-nil, All-cons, All-head, All-tail, All-weaker}
use Rattle.trees.specs.Things.{Thing, Meanings, both, consed, meanings}
use Rattle.trees.specs.Claimed.{judged, said}
use Rattle.trees.proofs.Meanings.{meanings-cons}
use Rattle.rows.proofs.OptionLaws.{one-some}
use Rattle.rows.proofs.MeaningLaws.{is_some-value}
use Rattle.rows.proofs.TableLaws.{slice_get-take, slice_get-same, length-built}
use Rattle.interned.specs.Coded.{thing_of, things_coded}
use Rattle.book.specs.Contents.{Contents}
use Rattle.book.specs.declared.kernel.Mark.{Mark}
use Rattle.book.specs.Nodes.{Node, node_coded, node_at, judgement_of, concluded}
use Rattle.book.specs.Right.{IsRight, AreRight}
use Rattle.book.specs.Shown.{book_means, book_concludes, NamesBelow, IsMark, Released}

pub slice_get-first : {X : Type 0} (n k : ℕ) (xs : List X) → k < n → slice_get (take n xs) k ≡ slice_get xs k
slice_get-first n k xs lt = slice_get-same n k (take n xs) xs lt (take-take n n xs (omega arith))

slice_get-past : {X : Type 0} (n k : ℕ) (xs : List X) → n ≤ k → slice_get (take n xs) k ≡ None
slice_get-past zero k xs le = refl
slice_get-past (suc n) k [] le = refl
slice_get-past (suc n) zero (x ∷ xs) le = absurd (omega arith)
slice_get-past (suc n) (suc k) (x ∷ xs) le = slice_get-past n k xs (omega arith)

meanings-same : {A : Type 0} (f g : ℕ → Option A) (ks : List ℕ) → All (λ k. f k ≡ g k) ks → meanings f ks ≡ meanings g ks
meanings-same f g [] all = refl
meanings-same f g (k ∷ ks) all =
    ap₂ (both consed) (All-head (λ j. f j ≡ g j) k ks all) (meanings-same f g ks (All-tail (λ j. f j ≡ g j) k ks all))

-- nodes below m name rows below n
module _ (xs : List Thing) (nodes : List (List ℕ)) (n m : ℕ) (within : (k : ℕ) (node : Node) → k < m → node_at nodes k ≡ Some node → NamesBelow n node) where
  abbrev pub f : Meanings
  f = slice_get xs

  abbrev pub f' : Meanings
  f' = slice_get (take n xs)

  rows-same : (ks : List ℕ) → All (λ row. row < n) ks → meanings f' ks ≡ meanings f ks
  rows-same ks below = meanings-same f' f ks (All-weaker (λ row. row < n) (λ k. f' k ≡ f k) (λ k lt. slice_get-first n k xs lt) ks below)

  node-same : (k : ℕ) → k < m → node_at (take m nodes) k ≡ node_at nodes k
  node-same k lt = ap (option_and_then node_coded) (slice_get-first m k nodes lt)

  judgement-same : (node : Node) → NamesBelow n node → judgement_of f' node ≡ judgement_of f node
  judgement-same node below = ap (said node.form) (rows-same node.claimed below.claimed)

  pub concluded-same : (k : ℕ) → k < m → concluded f' (take m nodes) k ≡ concluded f nodes k
  concluded-same k lt = ap (option_and_then (judgement_of f')) (node-same k lt) ∙ from (node_at nodes k) (λ node is. within k node lt is)
    where
      from : (o : Option Node) → ((node : Node) → o ≡ Some node → NamesBelow n node) → option_and_then (judgement_of f') o ≡ option_and_then (judgement_of f) o
      from None below = refl
      from (Some node) below = judgement-same node (below node refl)

  right-cut : AreRight f nodes → (k : ℕ) (words : List ℕ) → slice_get (take m nodes) k ≡ Some words → IsRight f' (take m nodes) k words
  right-cut h k words at =
      let t = slice_get-take m nodes k words at in
      let lt = t.0 in
      let r = h.each k words t.1 in
      let below = within k r.node lt (ap (option_and_then node_coded) t.1 ∙ r.is) in
      let u = r.use_is in
      record {
        node = r.node;
        is = r.is;
        judgement = r.judgement;
        concludes = judgement-same r.node below ∙ r.concludes;
        use_is = record {
          things = u.things;
          judgements = u.judgements;
          parts_are = rows-same r.node.parts below.parts ∙ u.parts_are;
          premises_are =
              meanings-same (concluded f' (take m nodes)) (concluded f nodes) r.node.premises
              (All-weaker (λ j. j < k) (λ j. concluded f' (take m nodes) j ≡ concluded f nodes j) (λ j early. concluded-same j (omega arith)) r.node.premises r.earlier)
              ∙ u.premises_are;
          instance = u.instance;
        };
        earlier = r.earlier;
      }

  pub nodes-cut : AreRight f nodes → AreRight f' (take m nodes)
  nodes-cut h = record { each = right-cut h }

-- a book whose rows and nodes are those of the mark
pub released : (old new : Contents) (mark : Mark) → IsMark old mark → things_coded new.rows ≡ take mark.rows (things_coded old.rows) → new.nodes ≡ take mark.nodes old.nodes → Released old new mark
released old new mark m cut nodes =
    let xs = things_coded old.rows in
    let there = length-first mark.rows xs (omega (arith, m.rows_there, length-built thing_of old.rows)) in
    let left : length new.rows ≡ mark.rows = sym (length-built thing_of new.rows) ∙ ap length cut ∙ there in
    record {
      rows = λ k lt. ap (λ ys. slice_get ys k) cut ∙ slice_get-first mark.rows k xs lt;
      no_rows = λ k le. ap (λ ys. slice_get ys k) cut ∙ slice_get-past mark.rows k xs le;
      nodes = λ k lt. node-cut k lt;
      no_nodes = λ k le. ap (λ ns. node_at ns k) nodes ∙ ap (option_and_then node_coded) (slice_get-past mark.nodes k old.nodes le);
      conclusions = λ k lt. ap₂ (λ ys ns. concluded (slice_get ys) ns k) cut nodes ∙ concluded-same xs old.nodes mark.rows mark.nodes m.within k lt;
      marks = λ other o few_rows few_nodes. record {
        rows_there = omega (arith, few_rows, left);
        nodes_there = omega (arith, few_nodes, ap length nodes, length-first mark.nodes old.nodes m.nodes_there);
        within = λ k node lt is. o.within k node lt (sym (node-cut k (omega arith)) ∙ is);
      };
    }
  where
    length-first : {X : Type 0} (n : ℕ) (xs : List X) → n ≤ length xs → length (take n xs) ≡ n
    length-first zero xs le = refl
    length-first (suc n) [] le = absurd (omega arith)
    length-first (suc n) (x ∷ xs) le = ap suc (length-first n xs (omega arith))

    node-cut : (k : ℕ) → k < mark.nodes → node_at new.nodes k ≡ node_at old.nodes k
    node-cut k lt = ap (λ ns. node_at ns k) nodes ∙ ap (option_and_then node_coded) (slice_get-first mark.nodes k old.nodes lt)

-- rows that mean something are there
meanings-there : (xs : List Thing) (ks : List ℕ) (ys : List Thing) → meanings (slice_get xs) ks ≡ Some ys → All (λ k. k < length xs) ks
meanings-there xs [] ys e = All-nil (λ k. k < length xs)
meanings-there xs (k ∷ ks) ys e =
    let m = meanings-cons (slice_get xs) k ks ys e in
    All-cons (λ j. j < length xs) k ks (slice_get_within xs k m.first m.first_is) (meanings-there xs ks m.rest m.rest_is)

-- nodes name rows that are there
pub names-there : (xs : List Thing) (nodes : List (List ℕ)) → AreRight (slice_get xs) nodes → (k : ℕ) (node : Node) → node_at nodes k ≡ Some node → NamesBelow (length xs) node
names-there xs nodes h k node e =
    let w = one-some node_coded (slice_get nodes k) node e in
    let r = h.each k w.first w.first_is in
    let is = r.is in
    let whole = w.whole in
    let same : r.node ≡ node = cc in
    let c = one-some (judged r.node.form) (meanings (slice_get xs) r.node.claimed) r.judgement r.concludes in
    subst (NamesBelow (length xs)) same
    (record {
      claimed = meanings-there xs r.node.claimed c.first c.first_is;
      parts = meanings-there xs r.node.parts r.use_is.things r.use_is.parts_are;
    })

-- the same of a book that is seen so

pub mark-now : (b old : Contents) → old ≡ b → AreRight (slice_get (things_coded old.rows)) old.nodes → (rows nodes : ℕ) → rows ≡ length (things_coded old.rows) → nodes ≡ length old.nodes → IsMark b (record { rows = rows; nodes = nodes })
mark-now b old is right rows nodes rows_are nodes_are =
    subst (λ (c : Contents). IsMark c (record { rows = rows; nodes = nodes })) is
    (record {
      rows_there = omega (arith, rows_are, length-built thing_of old.rows);
      nodes_there = omega (arith, nodes_are);
      within = λ k node lt e. subst (λ n. NamesBelow n node) (sym rows_are) (names-there (things_coded old.rows) old.nodes right k node e);
    })

-- each row that means something stands before it, and no other does
rows-there : {X : Type 0} (xs : List X) (k : ℕ) → IsSome (slice_get xs k) ↔ (k < length xs)
rows-there [] k = (λ some. cc, λ lt. absurd (omega arith))
rows-there (x ∷ xs) zero = (λ some. omega arith, λ lt. refl)
rows-there (x ∷ xs) (suc k) = let rest = rows-there xs k in (λ some. omega (arith, rest.0 some), λ lt. rest.1 (omega arith))

pub rows-counted : (b old : Contents) → old ≡ b → (rows : ℕ) → rows ≡ length (things_coded old.rows) → (k : ℕ) → IsSome (book_means b k) ↔ (k < rows)
rows-counted b old is rows rows_are k =
    subst (λ (c : Contents). IsSome (book_means c k) ↔ (k < rows)) is (subst (λ n. IsSome (slice_get (things_coded old.rows) k) ↔ (k < n)) (sym rows_are) (rows-there (things_coded old.rows) k))

nodes-there : (f : Meanings) (nodes : List (List ℕ)) → AreRight f nodes → (k : ℕ) → IsSome (concluded f nodes k) ↔ (k < length nodes)
nodes-there f nodes right k = (within, λ lt. let words = is_some-value (slice_get nodes k) ((rows-there nodes k).1 lt) in there words.0 words.1)
  where
    within : IsSome (concluded f nodes k) → k < length nodes
    within some =
        let J = is_some-value (concluded f nodes k) some in
        let o = one-some (judgement_of f) (node_at nodes k) J.0 J.1 in
        let w = one-some node_coded (slice_get nodes k) o.first o.first_is in
        slice_get_within nodes k w.first w.first_is

    there : (words : List ℕ) → slice_get nodes k ≡ Some words → IsSome (concluded f nodes k)
    there words at =
        let r = right.each k words at in
        let is : concluded f nodes k ≡ Some r.judgement = ap (λ o. option_and_then (judgement_of f) (option_and_then node_coded o)) at ∙ ap (option_and_then (judgement_of f)) r.is ∙ r.concludes in
        rw is refl

pub nodes-counted : (b old : Contents) → old ≡ b → AreRight (slice_get (things_coded old.rows)) old.nodes → (nodes : ℕ) → nodes ≡ length old.nodes → (k : ℕ) → IsSome (book_concludes b k) ↔ (k < nodes)
nodes-counted b old is right nodes nodes_are k =
    subst (λ (c : Contents). IsSome (book_concludes c k) ↔ (k < nodes)) is (subst (λ n. IsSome (concluded (slice_get (things_coded old.rows)) old.nodes k) ↔ (k < n)) (sym nodes_are) (nodes-there (slice_get (things_coded old.rows)) old.nodes right k))

pub mark-within : (b old : Contents) (mark : Mark) → old ≡ b → IsMark b mark → mark.rows ≤ length (things_coded old.rows)
mark-within b old mark is m =
    let there = (subst (λ (c : Contents). IsMark c mark) (sym is) m).rows_there in
    omega (arith, length-built thing_of old.rows)

pub nodes-released : (b old : Contents) (mark : Mark) → old ≡ b → IsMark b mark → AreRight (slice_get (things_coded old.rows)) old.nodes → (xs : List Thing) (nodes : List (List ℕ)) → xs ≡ take mark.rows (things_coded old.rows) → nodes ≡ take mark.nodes old.nodes → AreRight (slice_get xs) nodes
nodes-released b old mark is m right xs nodes cut left =
    let here = subst (λ (c : Contents). IsMark c mark) (sym is) m in
    let first = nodes-cut (things_coded old.rows) old.nodes mark.rows mark.nodes here.within right in
    subst (λ ys. AreRight (slice_get ys) nodes) (sym cut) (subst (AreRight (slice_get (take mark.rows (things_coded old.rows)))) (sym left) first)

pub released-along : (b old new : Contents) (mark : Mark) → old ≡ b → IsMark b mark → things_coded new.rows ≡ take mark.rows (things_coded old.rows) → new.nodes ≡ take mark.nodes old.nodes → Released b new mark
released-along b old new mark is m cut left =
    subst (λ (c : Contents). Released c new mark) is (released old new mark (subst (λ (c : Contents). IsMark c mark) (sym is) m) cut left)
