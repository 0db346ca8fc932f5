-- The numbers of marked rows, and rows that are written with them.
use Rattle.std.proofs.Common.{◌≡◌, ℕ, zero, suc, ◌+◌, ◌<◌, ◌≤◌, Bool, true, false, cond, List, [], ◌∷◌, ◌++◌, length, take, map, refl, sym, ◌∙◌, ap, ap₂, subst, arith, Some, append_assoc, add-one, length-append}
use Rattle.std.specs.Prelude.{slice_get, slice_index_or}
use Rattle.std.specs.List.{All, flat_map}
use Rattle.std.proofs.lemmas.List.{append-nil, take_all, take-map, drop-map, get_or_append_left, get_or_push}
use Rattle.std.proofs.lemmas.List.Elements.{All-head, All-tail, All-weaker}
use Rattle.theory.specs.RuleNames.{kinds_of}
use Rattle.deriv_file.specs.declared.row.Row.{Row}
use Rattle.deriv_file.specs.declared.row.Row.TheVariants as row
use Rattle.deriv_file.specs.Spelling.{spelled}
use Rattle.book_writer.specs.declared.lines.RowHead.{RowHead}
use Rattle.book_writer.specs.declared.lines.RowHead.TheVariants as head
use Rattle.book_writer.specs.Held.{names_of, row_of}
use Rattle.book_writer.specs.Means.{IsFile}
use Rattle.book_writer.specs.Names.{names_in, renamed, marked, number, numbered, AreNumbers}
use Rattle.book_writer.specs.Served.{IsMarked}
use Rattle.book_writer.proofs.RowsLaws.{flat_map-append, up-to}
use Rattle.book_writer.proofs.MarkLaws.{all-first, all-last}
use Rattle.book_writer.proofs.MarksLaws.{names-below, names-row}

pub number-first : (marks : List Bool) → number marks 0 ≡ 0
number-first [] = refl
number-first (m ∷ marks) = refl

pub number-most : (marks : List Bool) (k : ℕ) → number marks k ≤ k
number-most [] k = omega arith
number-most (m ∷ marks) zero = omega arith
number-most (true ∷ marks) (suc k) = omega (arith, number-most marks k)
number-most (false ∷ marks) (suc k) = omega (arith, number-most marks k)

number-suc : (marks : List Bool) (i : ℕ) (m : Bool) → slice_get marks i ≡ Some m → number marks (suc i) ≡ cond m (suc (number marks i)) (number marks i)
number-suc [] i m e = cc
number-suc (true ∷ marks) zero m e = let same : true ≡ m = cc in rw (← same) (ap suc (number-first marks))
number-suc (false ∷ marks) zero m e = let same : false ≡ m = cc in rw (← same) (number-first marks)
number-suc (true ∷ marks) (suc i) true e = ap suc (number-suc marks i true e)
number-suc (true ∷ marks) (suc i) false e = ap suc (number-suc marks i false e)
number-suc (false ∷ marks) (suc i) m e = number-suc marks i m e

-- the numbers of the first i rows, and how many of them are marked
pub record Counted (marks : List Bool) (i : ℕ) (of : List ℕ) (count : ℕ) : Type 0 where
  pub length_is : length of ≡ i
  pub each : (k : ℕ) → k < i → slice_index_or of k 0 ≡ number marks k
  pub count_is : count ≡ number marks i

pub counted-none : (marks : List Bool) → Counted marks 0 [] 0
counted-none marks = record { length_is = refl; each = λ k lt. absurd (omega arith); count_is = sym (number-first marks) }

pub counted-more : (marks : List Bool) (i : ℕ) (of : List ℕ) (count next : ℕ) (m : Bool) → Counted marks i of count → slice_get marks i ≡ Some m → next ≡ cond m (suc count) count → Counted marks (i + 1) (of ++ count ∷ []) next
counted-more marks i of count next m h at is =
    let P : ℕ → Type 0 = λ k. slice_index_or (of ++ count ∷ []) k 0 ≡ number marks k in
    let length_is = h.length_is in
    let one : suc i ≡ i + 1 = omega arith in
    let old : (k : ℕ) → k < i → P k = λ k lt. get_or_append_left of (count ∷ []) 0 k (omega arith) ∙ h.each k lt in
    let here : P i = get_or_push of count 0 i h.length_is ∙ h.count_is in
    record {
      length_is = omega (arith, length-append of (count ∷ []));
      each = λ k lt. up-to P i old here k (omega arith);
      count_is = is ∙ ap (λ n. cond m (suc n) n) h.count_is ∙ sym (number-suc marks i m at) ∙ ap (number marks) one;
    }

pub length-marked : {X : Type 0} (marks : List Bool) (xs : List X) → length marks ≡ length xs → length (marked marks xs) ≡ number marks (length marks)
length-marked [] xs e = refl
length-marked (m ∷ marks) [] e = absurd (omega arith)
length-marked (true ∷ marks) (x ∷ xs) e = ap suc (length-marked marks xs (omega arith))
length-marked (false ∷ marks) (x ∷ xs) e = length-marked marks xs (omega arith)

-- rows with other numbers

pub renamed-row : (at : ℕ → ℕ) (h : RowHead) (names : List ℕ) → length names ≡ names_of h → row_of h (map at names) ≡ renamed at (row_of h names)
renamed-row at head.Header names e = refl
renamed-row at (head.Var k) names e = refl
renamed-row at (head.Make op) names e = refl
renamed-row at (head.Shift n) names e = refl
renamed-row at head.CtxNil names e = refl
renamed-row at (head.Node rule) names e = ap₂ (row.Node rule) (take-map at (length (kinds_of rule)) names) (drop-map at (length (kinds_of rule)) names)
renamed-row at head.Instance [] e = absurd (omega arith)
renamed-row at head.Instance (a ∷ []) e = absurd (omega arith)
renamed-row at head.Instance (a ∷ b ∷ names) e = refl
renamed-row at head.Push [] e = absurd (omega arith)
renamed-row at head.Push (a ∷ []) e = absurd (omega arith)
renamed-row at head.Push (a ∷ b ∷ names) e = refl
renamed-row at head.CtxVar [] e = absurd (omega arith)
renamed-row at head.CtxVar (a ∷ []) e = absurd (omega arith)
renamed-row at head.CtxVar (a ∷ b ∷ names) e = refl
renamed-row at head.CtxFace [] e = absurd (omega arith)
renamed-row at head.CtxFace (a ∷ []) e = absurd (omega arith)
renamed-row at head.CtxFace (a ∷ b ∷ names) e = refl
renamed-row at head.CtxName [] e = absurd (omega arith)
renamed-row at head.CtxName (a ∷ names) e = refl

-- rows of two names, and of one
pub pair-row : (h k : RowHead) (names : List ℕ) → h ≡ k → names_of k ≡ 2 → length names ≡ names_of h → row_of k (slice_index_or names 0 0 ∷ slice_index_or names 1 0 ∷ []) ≡ row_of h names
pair-row h k names is two count = from names (count ∙ ap names_of is ∙ two) ∙ ap (λ i. row_of i names) (sym is)
  where
    from : (ns : List ℕ) → length ns ≡ 2 → row_of k (slice_index_or ns 0 0 ∷ slice_index_or ns 1 0 ∷ []) ≡ row_of k ns
    from [] e = absurd (omega arith)
    from (a ∷ []) e = absurd (omega arith)
    from (a ∷ b ∷ []) e = refl
    from (a ∷ b ∷ x ∷ ns) e = absurd (omega arith)

pub one-row : (h k : RowHead) (names : List ℕ) → h ≡ k → names_of k ≡ 1 → length names ≡ names_of h → row_of k (slice_index_or names 0 0 ∷ []) ≡ row_of h names
one-row h k names is one count = from names (count ∙ ap names_of is ∙ one) ∙ ap (λ i. row_of i names) (sym is)
  where
    from : (ns : List ℕ) → length ns ≡ 1 → row_of k (slice_index_or ns 0 0 ∷ []) ≡ row_of k ns
    from [] e = absurd (omega arith)
    from (a ∷ []) e = refl
    from (a ∷ b ∷ ns) e = absurd (omega arith)

pub map-same : (f g : ℕ → ℕ) (ks : List ℕ) → All (λ k. f k ≡ g k) ks → map f ks ≡ map g ks
map-same f g [] same = refl
map-same f g (k ∷ ks) same = ap₂ (λ x xs. x ∷ xs) (All-head (λ j. f j ≡ g j) k ks same) (map-same f g ks (All-tail (λ j. f j ≡ g j) k ks same))

two-same : (f g : ℕ → ℕ) (make : ℕ → ℕ → Row) (a b : ℕ) → All (λ k. f k ≡ g k) (a ∷ b ∷ []) → make (f a) (f b) ≡ make (g a) (g b)
two-same f g make a b same = ap₂ make (All-head (λ k. f k ≡ g k) a (b ∷ []) same) (All-head (λ k. f k ≡ g k) b [] (All-tail (λ k. f k ≡ g k) a (b ∷ []) same))

renamed-same : (f g : ℕ → ℕ) (r : Row) → All (λ k. f k ≡ g k) (names_in r) → renamed f r ≡ renamed g r
renamed-same f g (row.Header v) same = refl
renamed-same f g (row.Var k) same = refl
renamed-same f g (row.Make op kids) same = ap (row.Make op) (map-same f g kids same)
renamed-same f g (row.Instance t d) same = two-same f g row.Instance t d same
renamed-same f g (row.Shift n) same = refl
renamed-same f g (row.Push d t) same = two-same f g row.Push d t same
renamed-same f g row.CtxNil same = refl
renamed-same f g (row.CtxVar G A) same = two-same f g row.CtxVar G A same
renamed-same f g (row.CtxName G) same = ap row.CtxName (All-head (λ k. f k ≡ g k) G [] same)
renamed-same f g (row.CtxFace G p) same = two-same f g row.CtxFace G p same
renamed-same f g (row.Node rule parts premises) same = ap₂ (row.Node rule) (map-same f g parts (all-first (λ k. f k ≡ g k) parts premises same)) (map-same f g premises (all-last (λ k. f k ≡ g k) parts premises same))
renamed-same f g (row.Root k) same = ap row.Root (All-head (λ k. f k ≡ g k) k [] same)

-- what a line names stands before it
pub line-names : (rows : List Row) → IsFile rows → (k : ℕ) (h : RowHead) (names : List ℕ) → slice_get rows k ≡ Some (row_of h names) → length names ≡ names_of h → (n : ℕ) → k ≤ n → All (λ j. j < n) names
line-names rows h k head names e count n le =
    let low : All (λ j. j < k) names = subst (All (λ j. j < k)) (names-row head names count) (names-below rows h k (row_of head names) e) in
    All-weaker (λ j. j < k) (λ j. j < n) (λ j lt. omega arith) names low

-- a row of a file, with the numbers that are held
pub held-renamed : (rows : List Row) → IsFile rows → (marks : List Bool) (numbers : List ℕ) → length marks ≡ length rows → AreNumbers marks numbers → (k : ℕ) (r : Row) → k < length rows → slice_get rows k ≡ Some r → renamed (λ j. slice_index_or numbers j 0) r ≡ renamed (number marks) r
held-renamed rows h marks numbers count are k r lt e =
    renamed-same (λ j. slice_index_or numbers j 0) (number marks) r
    (All-weaker (λ j. j < k) (λ j. slice_index_or numbers j 0 ≡ number marks j) (λ j low. are.each j (omega arith)) (names_in r) (names-below rows h k r e))

-- the marked rows among one more

marked-suc : {X : Type 0} (marks : List Bool) (xs : List X) (i : ℕ) (x : X) → slice_get marks i ≡ Some true → slice_get xs i ≡ Some x → marked (take (suc i) marks) (take (suc i) xs) ≡ marked (take i marks) (take i xs) ++ x ∷ []
marked-suc [] xs i x is e = cc
marked-suc (m ∷ marks) [] i x is e = cc
marked-suc (true ∷ marks) (y ∷ xs) zero x is e = let same : y ≡ x = cc in ap (λ z. z ∷ []) same
marked-suc (false ∷ marks) (y ∷ xs) zero x is e = cc
marked-suc (true ∷ marks) (y ∷ xs) (suc i) x is e = ap (λ zs. y ∷ zs) (marked-suc marks xs i x is e)
marked-suc (false ∷ marks) (y ∷ xs) (suc i) x is e = marked-suc marks xs i x is e

skipped-suc : {X : Type 0} (marks : List Bool) (xs : List X) (i : ℕ) → i < length xs → slice_get marks i ≡ Some false → marked (take (suc i) marks) (take (suc i) xs) ≡ marked (take i marks) (take i xs)
skipped-suc [] xs i lt is = cc
skipped-suc (m ∷ marks) [] i lt is = absurd (omega arith)
skipped-suc (true ∷ marks) (y ∷ xs) zero lt is = cc
skipped-suc (false ∷ marks) (y ∷ xs) zero lt is = refl
skipped-suc (true ∷ marks) (y ∷ xs) (suc i) lt is = ap (λ zs. y ∷ zs) (skipped-suc marks xs i (omega arith) is)
skipped-suc (false ∷ marks) (y ∷ xs) (suc i) lt is = skipped-suc marks xs i (omega arith) is

-- what is appended for the marked ones among the first rows
abbrev pub first_lines : List Bool → List Row → ℕ → List ℕ
first_lines marks rows i = flat_map spelled (map (renamed (number marks)) (marked (take i marks) (take i rows)))

map-append : {X Y : Type 0} (f : X → Y) (xs ys : List X) → map f (xs ++ ys) ≡ map f xs ++ map f ys
map-append f [] ys = refl
map-append f (x ∷ xs) ys = ap (λ zs. f x ∷ zs) (map-append f xs ys)

pub line-more : (marks : List Bool) (rows : List Row) (i : ℕ) (r : Row) (old before new : List ℕ) → IsMarked marks i → slice_get rows i ≡ Some r → before ≡ old ++ first_lines marks rows i → new ≡ before ++ spelled (renamed (number marks) r) → new ≡ old ++ first_lines marks rows (i + 1)
line-more marks rows i r old before new is e so now =
    let at : ℕ → ℕ = number marks in
    let some : List Row = marked (take i marks) (take i rows) in
    let next : marked (take (i + 1) marks) (take (i + 1) rows) ≡ some ++ r ∷ [] = rw add-one (marked-suc marks rows i r is e) in
    let lines : first_lines marks rows (i + 1) ≡ first_lines marks rows i ++ spelled (renamed at r) =
    ap (λ rs. flat_map spelled (map (renamed at) rs)) next ∙ ap (flat_map spelled) (map-append (renamed at) some (r ∷ [])) ∙ flat_map-append spelled (map (renamed at) some) (renamed at r ∷ []) ∙ ap (λ bs. first_lines marks rows i ++ bs) (append-nil (spelled (renamed at r))) in
    now ∙ ap (λ bs. bs ++ spelled (renamed at r)) so ∙ append_assoc old (first_lines marks rows i) (spelled (renamed at r)) ∙ ap (λ bs. old ++ bs) (sym lines)

pub line-skip : (marks : List Bool) (rows : List Row) (i : ℕ) → i < length rows → slice_get marks i ≡ Some false → first_lines marks rows i ≡ first_lines marks rows (i + 1)
line-skip marks rows i lt is = rw add-one (ap (λ rs. flat_map spelled (map (renamed (number marks)) rs)) (sym (skipped-suc marks rows i lt is)))

-- the roots

pub roots-held : (marks : List Bool) (numbers roots : List ℕ) → AreNumbers marks numbers → All (λ k. k < length marks) roots → map (λ k. row.Root (slice_index_or numbers k 0)) roots ≡ map (λ k. row.Root k) (map (number marks) roots)
roots-held marks numbers [] are low = refl
roots-held marks numbers (k ∷ roots) are low =
    ap₂ (λ n rs. row.Root n ∷ rs) (are.each k (All-head (λ j. j < length marks) k roots low)) (roots-held marks numbers roots are (All-tail (λ j. j < length marks) k roots low))

-- all rows
pub lines-all : (marks : List Bool) (rows : List Row) (i : ℕ) → length marks ≡ length rows → length rows ≤ i → first_lines marks rows i ≡ flat_map spelled (numbered marks rows)
lines-all marks rows i count end =
    ap₂ (λ ms rs. flat_map spelled (map (renamed (number marks)) (marked ms rs))) (take_all i marks (omega arith)) (take_all i rows end)
