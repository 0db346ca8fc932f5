-- A tree that is split into the trees that it joins.
use Rattle.std.proofs.Common.{◌≡◌, ◌≢◌, ℕ, zero, suc, ◌+◌, ◌<◌, ◌≤◌, List, [], ◌∷◌, ◌++◌, length, take, get_or, map, Some, None, refl, sym, ◌∙◌, ap, ap₂, subst, arith}
use Rattle.std.specs.List.{All}
use Rattle.std.proofs.lemmas.List.{map-append, take_more, take_all}
use Rattle.std.proofs.lemmas.List.Elements.{All-nil, All-cons, All-head, All-tail, All-append}
use Rattle.trees.specs.declared.op.Op.{Op}
use Rattle.trees.specs.declared.op.Op.TheVariants as op
use Rattle.trees.specs.Trees.{Tree, Trees, Var, Make, NoTrees, More}
use Rattle.trees.specs.Things.{Meanings}
use Rattle.rows.specs.Tables.{Grows}
use Rattle.closures.specs.declared.closure.Closure.{Closure}
use Rattle.closures.specs.Environments.{Waiting}
use Rattle.closures.specs.Closures.{IsClosure}
use Rattle.closures.proofs.HeadLaws.{closure-grows}
use Rattle.tree_frames.specs.Frames.{tree_in}
use Rattle.tree_frames.proofs.FrameLaws.{tree-grows}
use Rattle.normal_formulas.specs.declared.atoms.Atom.{Atom}
use Rattle.normal_formulas.specs.Atoms.{nested, conjunction, cover, IsNot}
use Rattle.normal_formulas.proofs.ReadLaws.{some-same, same-covers, IsExact, reads-all, reads-none}
use Rattle.normal_formulas.specs.Reads.{Reads, AreParts, trees_at}

-- these, and then the rest
pub onto : Op → List Tree → Tree → Tree
onto o [] t = t
onto o (u ∷ us) t = Make o (More u (More (onto o us t) NoTrees))

pub onto-push : (o : Op) (us : List Tree) (u t : Tree) → onto o (us ++ u ∷ []) t ≡ onto o us (Make o (More u (More t NoTrees)))
unfolding onto
onto-push o [] u t = refl
onto-push o (v ∷ us) u t = ap (λ x. Make o (More v (More x NoTrees))) (onto-push o us u t)

nested-cons : (o none : Op) (v : Tree) (us : List Tree) (t : Tree) → nested o none (v ∷ (us ++ t ∷ [])) ≡ Make o (More v (More (nested o none (us ++ t ∷ [])) NoTrees))
nested-cons o none v [] t = refl
nested-cons o none v (u ∷ us) t = refl

pub onto-nested : (o none : Op) (us : List Tree) (t : Tree) → onto o us t ≡ nested o none (us ++ t ∷ [])
unfolding onto
onto-nested o none [] t = refl
onto-nested o none (v ∷ us) t = ap (λ x. Make o (More v (More x NoTrees))) (onto-nested o none us t) ∙ sym (nested-cons o none v us t)

pub trees-at-grow : (f : Meanings) (known new : List (List Waiting)) (n : ℕ) (cs : List Closure) → Grows known new → All (IsClosure f known n) cs → trees_at f new cs ≡ trees_at f known cs
trees-at-grow f known new n [] g all = refl
trees-at-grow f known new n (c ∷ cs) g all = ap₂ (λ x xs. x ∷ xs) (tree-grows f known new n c g (All-head (IsClosure f known n) c cs all)) (trees-at-grow f known new n cs g (All-tail (IsClosure f known n) c cs all))

pub all-grow : (f : Meanings) (known new : List (List Waiting)) (n : ℕ) (cs : List Closure) → Grows known new → All (IsClosure f known n) cs → All (IsClosure f new n) cs
all-grow f known new n [] g all = All-nil (IsClosure f new n)
all-grow f known new n (c ∷ cs) g all = All-cons (IsClosure f new n) c cs (closure-grows f known new n c g (All-head (IsClosure f known n) c cs all)) (all-grow f known new n cs g (All-tail (IsClosure f known n) c cs all))

-- the parts that were found stand before the rest
pub record Splitting (f : Meanings) (known : List (List Waiting)) (n : ℕ) (o : Op) (t : Tree) (parts : List Closure) (rest : Closure) : Type 0 where
  pub whole : t ≡ onto o (trees_at f known parts) (tree_in f known rest)
  pub stand : All (IsClosure f known n) parts
  pub rest_stands : IsClosure f known n rest

pub splitting-begin : (f : Meanings) (known : List (List Waiting)) (n : ℕ) (o : Op) (parts : List Closure) (c : Closure) → parts ≡ [] → IsClosure f known n c → Splitting f known n o (tree_in f known c) parts c
unfolding onto
splitting-begin f known n o parts c none stands = record {
  whole = ap (λ cs. onto o (trees_at f known cs) (tree_in f known c)) (sym none);
  stand = subst (All (IsClosure f known n)) (sym none) (All-nil (IsClosure f known n));
  rest_stands = stands;
}

push-trees : (f : Meanings) (known : List (List Waiting)) (cs : List Closure) (c : Closure) → trees_at f known (cs ++ c ∷ []) ≡ trees_at f known cs ++ tree_in f known c ∷ []
push-trees f known [] c = refl
push-trees f known (d ∷ cs) c = ap (λ ts. tree_in f known d ∷ ts) (push-trees f known cs c)

pub splitting-next : (f : Meanings) (known new : List (List Waiting)) (n : ℕ) (o : Op) (t : Tree) (parts pushed : List Closure) (rest a b : Closure)
    → Splitting f known n o t parts rest → Grows known new → pushed ≡ parts ++ a ∷ []
    → tree_in f known rest ≡ Make o (More (tree_in f new a) (More (tree_in f new b) NoTrees)) → IsClosure f new n a → IsClosure f new n b → Splitting f new n o t pushed b
splitting-next f known new n o t parts pushed rest a b s g made is first second =
    let same = trees-at-grow f known new n parts g s.stand in
    subst (λ cs. Splitting f new n o t cs b) (sym made) (record {
      whole = s.whole ∙ ap₂ (onto o) (sym same) is ∙ sym (onto-push o (trees_at f new parts) (tree_in f new a) (tree_in f new b)) ∙ ap (λ ts. onto o ts (tree_in f new b)) (sym (push-trees f new parts a));
      stand = All-append (IsClosure f new n) parts (a ∷ []) (all-grow f known new n parts g s.stand) (All-cons (IsClosure f new n) a [] first (All-nil (IsClosure f new n)));
      rest_stands = second;
    })

last-of : (us vs : List Tree) (t u : Tree) → us ++ t ∷ [] ≡ vs ++ u ∷ [] → t ≡ u
last-of [] [] t u e = cc
last-of [] (v ∷ []) t u e = cc
last-of [] (v ∷ w ∷ vs) t u e = cc
last-of (x ∷ []) [] t u e = cc
last-of (x ∷ y ∷ us) [] t u e = cc
last-of (x ∷ us) (v ∷ vs) t u e = let rest : us ++ t ∷ [] ≡ vs ++ u ∷ [] = cc in last-of us vs t u rest

alone : (us : List Tree) (t u : Tree) → us ++ t ∷ [] ≡ u ∷ [] → (us ≡ []) × (t ≡ u)
alone [] t u e = (refl, cc)
alone (x ∷ []) t u e = cc
alone (x ∷ y ∷ us) t u e = cc

-- the rest is no further join
pub splitting-end : (f : Meanings) (known new : List (List Waiting)) (n : ℕ) (o none : Op) (t : Tree) (parts pushed : List Closure) (rest : Closure)
    → Splitting f known n o t parts rest → Grows known new → pushed ≡ parts ++ rest ∷ [] → IsNot o (tree_in f known rest) → (parts ≡ [] → tree_in f known rest ≡ Make none NoTrees → ⊥)
    → AreParts f new n o none t pushed
splitting-end f known new n o none t parts pushed rest s g made other some =
    let all = All-append (IsClosure f known n) parts (rest ∷ []) s.stand (All-cons (IsClosure f known n) rest [] s.rest_stands (All-nil (IsClosure f known n))) in
    let same : trees_at f new pushed ≡ trees_at f known parts ++ tree_in f known rest ∷ [] =
    ap (trees_at f new) made ∙ trees-at-grow f known new n (parts ++ rest ∷ []) g all ∙ push-trees f known parts rest in
    record {
      split = record {
        whole = s.whole ∙ onto-nested o none (trees_at f known parts) (tree_in f known rest) ∙ ap (nested o none) (sym same);
        last = λ us u e. subst (IsNot o) (last-of (trees_at f known parts) us (tree_in f known rest) u (sym same ∙ e)) other;
        some = λ e. let one = alone (trees_at f known parts) (tree_in f known rest) (Make none NoTrees) (sym same ∙ e) in some (empty parts one.0) one.1;
      };
      stand = subst (All (IsClosure f new n)) (sym made) (all-grow f known new n (parts ++ rest ∷ []) g all);
    }
  where
    empty : (cs : List Closure) → trees_at f known cs ≡ [] → cs ≡ []
    empty [] e = refl
    empty (c ∷ cs) e = cc

-- the join of none
pub splitting-none : (f : Meanings) (known new : List (List Waiting)) (n : ℕ) (o none : Op) (t : Tree) (parts : List Closure) (rest : Closure) → Splitting f known n o t parts rest → parts ≡ [] → none ≢ o → tree_in f known rest ≡ Make none NoTrees → AreParts f new n o none t parts
unfolding onto
splitting-none f known new n o none t parts rest s empty apart is = subst (AreParts f new n o none t) (sym empty) (record {
  split = record {
    whole = s.whole ∙ ap (λ cs. onto o (trees_at f known cs) (tree_in f known rest)) empty ∙ is;
    last = λ us u e. absurd (no-end us u e);
    some = λ e. cc;
  };
  stand = All-nil (IsClosure f new n);
})
  where
    no-end : (us : List Tree) (u : Tree) → [] ≡ us ++ u ∷ [] → ⊥
    no-end [] u e = cc
    no-end (v ∷ us) u e = cc

-- one part after another is read

pub part-at : (f : Meanings) (known : List (List Waiting)) (cs : List Closure) (i : ℕ) (d : Closure) (t : Tree) → i < length cs → tree_in f known (get_or cs i d) ≡ get_or (trees_at f known cs) i t
part-at f known [] i d t lt = absurd (omega arith)
part-at f known (c ∷ cs) zero d t lt = refl
part-at f known (c ∷ cs) (suc i) d t lt = part-at f known cs i d t (omega arith)

pub part-stands : (f : Meanings) (known : List (List Waiting)) (n : ℕ) (cs : List Closure) (i : ℕ) (d : Closure) → i < length cs → All (IsClosure f known n) cs → IsClosure f known n (get_or cs i d)
part-stands f known n [] i d lt all = absurd (omega arith)
part-stands f known n (c ∷ cs) zero d lt all = All-head (IsClosure f known n) c cs all
part-stands f known n (c ∷ cs) (suc i) d lt all = part-stands f known n cs i d (omega arith) (All-tail (IsClosure f known n) c cs all)

pub length-trees : (f : Meanings) (known : List (List Waiting)) (cs : List Closure) → length (trees_at f known cs) ≡ length cs
length-trees f known [] = refl
length-trees f known (c ∷ cs) = ap suc (length-trees f known cs)

pub reads-next : {X : Type 0} (build : X → Tree) (xs ys : List X) (x : X) (ts : List Tree) (i : ℕ) (t : Tree) → ys ≡ xs ++ x ∷ [] → map build xs ≡ take i ts → i < length ts → get_or ts i t ≡ build x → map build ys ≡ take (i + 1) ts
reads-next build xs ys x ts i t made before lt at =
    ap (map build) made ∙ map-append build xs (x ∷ []) ∙ ap₂ (λ us u. us ++ u ∷ []) before (sym at) ∙ sym (take_more ts i t lt)

-- a face that is read conjunction by conjunction

pub cover_onto : List (List Atom) → Tree → Tree
cover_onto [] t = t
cover_onto (c ∷ cs) t = Make op.Join (More (conjunction c) (More (cover_onto cs t) NoTrees))

cover-push : (cs : List (List Atom)) (c : List Atom) (t : Tree) → cover_onto (cs ++ c ∷ []) t ≡ cover_onto cs (Make op.Join (More (conjunction c) (More t NoTrees)))
unfolding cover_onto
cover-push [] c t = refl
cover-push (d ∷ cs) c t = ap (λ x. Make op.Join (More (conjunction d) (More x NoTrees))) (cover-push cs c t)

cover-all : (cs : List (List Atom)) → cover_onto cs (Make op.F0 NoTrees) ≡ cover cs
unfolding cover_onto
cover-all [] = refl
cover-all (c ∷ cs) = ap (λ x. Make op.Join (More (conjunction c) (More x NoTrees))) (cover-all cs)

cover-strip : (cs ds : List (List Atom)) (t : Tree) → cover_onto cs t ≡ cover ds → (es : List (List Atom)) × (t ≡ cover es)
unfolding cover_onto
cover-strip [] ds t e = (ds, e)
cover-strip (c ∷ cs) [] t e = cc
cover-strip (c ∷ cs) (d ∷ ds) t e = let rest : cover_onto cs t ≡ cover ds = cc in cover-strip cs ds t rest

pub record Covering (f : Meanings) (known : List (List Waiting)) (n : ℕ) (t : Tree) (cs : List (List Atom)) (rest : Closure) : Type 0 where
  pub whole : t ≡ cover_onto cs (tree_in f known rest)
  pub rest_stands : IsClosure f known n rest

pub covering-begin : (f : Meanings) (known : List (List Waiting)) (n : ℕ) (cs : List (List Atom)) (c : Closure) → cs ≡ [] → IsClosure f known n c → Covering f known n (tree_in f known c) cs c
unfolding cover_onto
covering-begin f known n cs c none stands = record { whole = ap (λ ds. cover_onto ds (tree_in f known c)) (sym none); rest_stands = stands }

pub covering-next : (f : Meanings) (known now new : List (List Waiting)) (n : ℕ) (t : Tree) (cs ds : List (List Atom)) (c : List Atom) (rest first next : Closure)
    → Covering f known n t cs rest → ds ≡ cs ++ c ∷ [] → tree_in f known rest ≡ Make op.Join (More (tree_in f now first) (More (tree_in f now next) NoTrees))
    → Reads conjunction (tree_in f now first) (Some c) → IsClosure f now n next → Grows now new → Covering f new n t ds next
covering-next f known now new n t cs ds c rest first next s made is r stands g = record {
  whole =
      s.whole
      ∙ ap (cover_onto cs) (is ∙ ap₂ (λ x y. Make op.Join (More x (More y NoTrees))) (r.sound c refl) (sym (tree-grows f now new n next g stands)))
      ∙ sym (cover-push cs c (tree_in f new next))
      ∙ ap (λ es. cover_onto es (tree_in f new next)) (sym made);
  rest_stands = closure-grows f now new n next g stands;
}

pub covering-end : (f : Meanings) (known : List (List Waiting)) (n : ℕ) (t : Tree) (cs : List (List Atom)) (rest : Closure) → Covering f known n t cs rest → tree_in f known rest ≡ Make op.F0 NoTrees → Reads cover t (Some cs)
covering-end f known n t cs rest s is =
    let whole : t ≡ cover cs = s.whole ∙ ap (cover_onto cs) is ∙ cover-all cs in
    record { sound = λ x e. whole ∙ ap cover (some-same e); complete = λ x e. ap Some (same-covers cs x (sym whole ∙ e)) }

covering-fail : (f : Meanings) (known : List (List Waiting)) (n : ℕ) (t : Tree) (cs : List (List Atom)) (rest : Closure) → Covering f known n t cs rest → ((es : List (List Atom)) → tree_in f known rest ≡ cover es → ⊥) → Reads cover t None
covering-fail f known n t cs rest s fails = record {
  sound = λ x e. cc;
  complete = λ x e. let h = cover-strip cs x (tree_in f known rest) (sym s.whole ∙ e) in absurd (fails h.0 h.1);
}

pub covering-variable : (f : Meanings) (known : List (List Waiting)) (n k : ℕ) (t : Tree) (cs : List (List Atom)) (rest : Closure) → Covering f known n t cs rest → Var k ≡ tree_in f known rest → Reads cover t None
covering-variable f known n k t cs rest s is = covering-fail f known n t cs rest s by
  where
    by : (es : List (List Atom)) → tree_in f known rest ≡ cover es → ⊥
    by [] e = let h : Var k ≡ Make op.F0 NoTrees = is ∙ e in cc
    by (d ∷ es) e = let h : Var k ≡ cover (d ∷ es) = is ∙ e in cc

pub covering-other : (f : Meanings) (known : List (List Waiting)) (n : ℕ) (t : Tree) (cs : List (List Atom)) (rest : Closure) (o : Op) (ts : Trees) → Covering f known n t cs rest → tree_in f known rest ≡ Make o ts → (o ≡ op.F0 → ⊥) → (o ≡ op.Join → ⊥) → Reads cover t None
covering-other f known n t cs rest o ts s is no_end no_join = covering-fail f known n t cs rest s by
  where
    by : (es : List (List Atom)) → tree_in f known rest ≡ cover es → ⊥
    by [] e = let h : Make o ts ≡ Make op.F0 NoTrees = sym is ∙ e in no_end cc
    by (d ∷ es) e = let h : Make o ts ≡ cover (d ∷ es) = sym is ∙ e in no_join cc

pub covering-first : (f : Meanings) (known now : List (List Waiting)) (n : ℕ) (t : Tree) (cs : List (List Atom)) (rest first next : Closure) → Covering f known n t cs rest
    → tree_in f known rest ≡ Make op.Join (More (tree_in f now first) (More (tree_in f now next) NoTrees)) → Reads conjunction (tree_in f now first) None → Reads cover t None
covering-first f known now n t cs rest first next s is r = covering-fail f known n t cs rest s by
  where
    no-some : {x : List Atom} → None ≡ Some x → ⊥
    no-some e = cc

    by : (es : List (List Atom)) → tree_in f known rest ≡ cover es → ⊥
    by [] e = let h : Make op.Join (More (tree_in f now first) (More (tree_in f now next) NoTrees)) ≡ Make op.F0 NoTrees = sym is ∙ e in cc
    by (d ∷ es) e =
        let h : Make op.Join (More (tree_in f now first) (More (tree_in f now next) NoTrees)) ≡ cover (d ∷ es) = sym is ∙ e in
        let same : tree_in f now first ≡ conjunction d = cc in
        no-some (r.complete d same)

pub no-variable : (k : ℕ) (o : Op) → Var k ≡ Make o NoTrees → ⊥
no-variable k o e = cc

-- a loop that reads the parts of a tree

same-part : (f : Meanings) (begin now : List (List Waiting)) (n : ℕ) (cs : List Closure) (i : ℕ) (d : Closure) → Grows begin now → i < length cs → All (IsClosure f begin n) cs → tree_in f now (get_or cs i d) ≡ tree_in f begin (get_or cs i d)
same-part f begin now n cs i d g lt all = tree-grows f begin now n (get_or cs i d) g (part-stands f begin n cs i d lt all)

pub part-later : (f : Meanings) (begin now : List (List Waiting)) (n : ℕ) (o none : Op) (t : Tree) (cs : List Closure) (i : ℕ) (d : Closure) → AreParts f begin n o none t cs → Grows begin now → i < length cs → IsClosure f now n (get_or cs i d)
part-later f begin now n o none t cs i d p g lt = closure-grows f begin now n (get_or cs i d) g (part-stands f begin n cs i d lt p.stand)

pub reading-none : {X : Type 0} {o none : Op} {build : X → Tree} → IsExact o none build → (f : Meanings) (begin now : List (List Waiting)) (n : ℕ) (t : Tree) (cs : List Closure) (i : ℕ) (d : Closure)
    → AreParts f begin n o none t cs → Grows begin now → i < length cs → Reads build (tree_in f now (get_or cs i d)) None → Reads (λ (ys : List X). nested o none (map build ys)) t None
reading-none {build = build} is f begin now n t cs i d p g lt r =
    let u = tree_in f begin (get_or cs i d) in
    let few : i < length (trees_at f begin cs) = let l = length-trees f begin cs in omega arith in
    reads-none is t (trees_at f begin cs) i u p.split few (part-at f begin cs i d u lt)
    (subst (λ x. Reads build x None) (same-part f begin now n cs i d g lt p.stand) r)

pub reading-next : {X : Type 0} (build : X → Tree) (f : Meanings) (begin now : List (List Waiting)) (n : ℕ) (o none : Op) (t : Tree) (cs : List Closure) (i : ℕ) (d : Closure) (xs ys : List X) (x : X)
    → AreParts f begin n o none t cs → Grows begin now → i < length cs → Reads build (tree_in f now (get_or cs i d)) (Some x) → ys ≡ xs ++ x ∷ [] → map build xs ≡ take i (trees_at f begin cs) → map build ys ≡ take (i + 1) (trees_at f begin cs)
reading-next build f begin now n o none t cs i d xs ys x p g lt r made before =
    let u = tree_in f begin (get_or cs i d) in
    let few : i < length (trees_at f begin cs) = let l = length-trees f begin cs in omega arith in
    reads-next build xs ys x (trees_at f begin cs) i u made before few
    (sym (part-at f begin cs i d u lt) ∙ sym (same-part f begin now n cs i d g lt p.stand) ∙ r.sound x refl)

pub reading-end : {X : Type 0} {o none : Op} {build : X → Tree} → IsExact o none build → (f : Meanings) (begin : List (List Waiting)) (n : ℕ) (t : Tree) (cs : List Closure) (i : ℕ) (xs : List X)
    → AreParts f begin n o none t cs → length cs ≤ i → map build xs ≡ take i (trees_at f begin cs) → Reads (λ (ys : List X). nested o none (map build ys)) t (Some xs)
reading-end is f begin n t cs i xs p past all =
    let few : length (trees_at f begin cs) ≤ i = let l = length-trees f begin cs in omega arith in
    reads-all is t (trees_at f begin cs) xs p.split (all ∙ take_all i (trees_at f begin cs) few)
