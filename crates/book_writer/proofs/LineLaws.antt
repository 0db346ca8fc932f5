-- Lines and their names, as rows of a file.
use Rattle.std.proofs.Common.{◌≡◌, ℕ, zero, suc, ◌≤◌, List, [], ◌∷◌, ◌++◌, length, take, drop, map, refl, sym, ◌∙◌, ap, ap₂, subst, arith, Some, length-append}
use Rattle.std.specs.Prelude.{slice_get, slice_index_or, Result, Ok, Err}
use Rattle.std.specs.Result.{OnErr}
use Rattle.std.specs.List.{All}
use Rattle.std.proofs.lemmas.List.{take_all, take-take}
use Rattle.std.proofs.lemmas.List.Elements.{All-nil, All-cons, All-head, All-tail, All-append, All-weaker}
use Rattle.rows.proofs.TableLaws.{part-same, take-prefix}
use Rattle.deriv_file.specs.declared.row.Row.{Row}
use Rattle.deriv_file.specs.declared.row.Row.TheVariants as row
use Rattle.deriv_file.specs.Writing.{Extends}
use Rattle.derivation.specs.Right.{RightRow}
use Rattle.book_writer.specs.declared.lines.RowHead.{RowHead}
use Rattle.book_writer.specs.declared.lines.RowHead.TheVariants as head
use Rattle.book_writer.specs.declared.lines.Line.{Line}
use Rattle.book_writer.specs.Chains.{IsPlain}
use Rattle.book_writer.specs.Held.{names_of, row_of, names_at, line_row, HasNames}
use Rattle.book_writer.specs.Means.{meaning_after, meanings_in, IsFile}
use Rattle.book_writer.proofs.MeansLaws.{file-pushed}
use Rattle.book_writer.proofs.SubLaws.{IsSubRow}

drop-prefix : {X : Type 0} (xs ys : List X) → drop (length xs) (xs ++ ys) ≡ ys
drop-prefix [] ys = refl
drop-prefix (x ∷ xs) ys = drop-prefix xs ys

names-kept : (names more : List ℕ) (line : Line) → HasNames names line → names_at (names ++ more) line ≡ names_at names line
names-kept names more line has =
    part-same (length names) line.start (names_of line.head) (names ++ more) names has
    (take-prefix names more ∙ sym (take_all (length names) names (omega arith)))

pub rows-kept : (names more : List ℕ) (lines : List Line) → All (HasNames names) lines → map (line_row (names ++ more)) lines ≡ map (line_row names) lines
rows-kept names more [] has = refl
rows-kept names more (line ∷ lines) has =
    ap₂ (λ r rs. r ∷ rs) (ap (row_of line.head) (names-kept names more line (All-head (HasNames names) line lines has))) (rows-kept names more lines (All-tail (HasNames names) line lines has))

pub has-kept : (names more : List ℕ) (lines : List Line) → All (HasNames names) lines → All (HasNames (names ++ more)) lines
has-kept names more = All-weaker (HasNames names) (HasNames (names ++ more)) (λ line has. omega (arith, has, length-append names more))

pub map-push : (f : Line → Row) (lines : List Line) (line : Line) → map f (lines ++ line ∷ []) ≡ map f lines ++ f line ∷ []
map-push f [] line = refl
map-push f (x ∷ lines) line = ap (λ rs. f x ∷ rs) (map-push f lines line)

-- a line more, whose names follow the others
module _ (names ns : List ℕ) (lines : List Line) (has : All (HasNames names) lines) (line : Line) (start : line.start ≡ length names) (count : length ns ≡ names_of line.head) where
  pub new-line : line_row (names ++ ns) line ≡ row_of line.head ns
  new-line =
      let rest : drop line.start (names ++ ns) ≡ ns = ap (λ n. drop n (names ++ ns)) start ∙ drop-prefix names ns in
      ap (row_of line.head) (ap (take (names_of line.head)) rest ∙ take_all (names_of line.head) ns (omega (arith, count)))

  pub rows-pushed : map (line_row (names ++ ns)) (lines ++ line ∷ []) ≡ map (line_row names) lines ++ row_of line.head ns ∷ []
  rows-pushed = map-push (line_row (names ++ ns)) lines line ∙ ap₂ (λ rs r. rs ++ r ∷ []) (rows-kept names ns lines has) new-line

  pub has-pushed : All (HasNames (names ++ ns)) (lines ++ line ∷ [])
  has-pushed = All-append (HasNames (names ++ ns)) lines (line ∷ []) (has-kept names ns lines has) (All-cons (HasNames (names ++ ns)) line [] (omega (arith, start, count, length-append names ns)) (All-nil (HasNames (names ++ ns))))

pub get-map : {X Y : Type 0} (f : X → Y) (xs : List X) (k : ℕ) (x : X) → slice_get xs k ≡ Some x → slice_get (map f xs) k ≡ Some (f x)
get-map f [] k x e = cc
get-map f (y ∷ xs) zero x e = cc
get-map f (y ∷ xs) (suc k) x e = get-map f xs k x e

-- names that came and lines that did not

module _ (names ns : List ℕ) (lines : List Line) (names' : List ℕ) (lines' : List Line) (has : All (HasNames names) lines) (more : names' ≡ names ++ ns) (same : lines' ≡ lines) where
  pub unchanged : map (line_row names') lines' ≡ map (line_row names) lines
  unchanged = ap₂ (λ ms ls. map (line_row ms) ls) more same ∙ rows-kept names ns lines has

  pub unchanged-right : IsFile (map (line_row names) lines) → All (HasNames names') lines' × IsFile (map (line_row names') lines')
  unchanged-right file = (
    subst (λ ms. All (HasNames ms) lines') (sym more) (subst (All (HasNames (names ++ ns))) (sym same) (has-kept names ns lines has)),
    subst IsFile (sym unchanged) file,
  )

-- a line with its names
module _ (names ns : List ℕ) (lines : List Line) (names' : List ℕ) (lines' : List Line) (has : All (HasNames names) lines) (line : Line) (start : line.start ≡ length names) (count : length ns ≡ names_of line.head) (more : names' ≡ names ++ ns) (next : lines' ≡ lines ++ line ∷ []) where
  pub added : map (line_row names') lines' ≡ map (line_row names) lines ++ row_of line.head ns ∷ []
  added = ap₂ (λ ms ls. map (line_row ms) ls) more next ∙ rows-pushed names ns lines has line start count

  pub added-right : (rows : List Row) → map (line_row names) lines ≡ rows → IsFile (map (line_row names) lines) → IsPlain (row_of line.head ns) → RightRow (meanings_in rows) (row_of line.head ns) (meaning_after (meanings_in rows) (row_of line.head ns)) → All (HasNames names') lines' × IsFile (map (line_row names') lines')
  added-right rows is file plain right = (
    subst (λ ms. All (HasNames ms) lines') (sym more) (subst (All (HasNames (names ++ ns))) (sym next) (has-pushed names ns lines has line start count)),
    subst IsFile (sym added) (subst (λ (rs : List Row). IsFile (rs ++ row_of line.head ns ∷ [])) (sym is) (file-pushed rows (subst IsFile is file) (row_of line.head ns) plain right)),
  )

-- out of memory
pub on_err : {T E P : Type 0} (r : Result T E) → P → OnErr r P
on_err (Ok x) p = tt
on_err (Err e) p = p

-- bytes that begin with old ones, of which more were appended
pub extends-on : (old mid new more : List ℕ) → mid ≡ old ++ more → Extends mid new → Extends old new
extends-on old mid new more is begins =
    let within : length old ≤ length mid = omega (arith, ap length is, length-append old more) in
    sym (take-take (length old) (length mid) new within) ∙ ap (take (length old)) (begins ∙ is) ∙ take-prefix old more

-- rows of substitutions, by their heads

pub not-sub : (h : RowHead) (names : List ℕ) → IsSubRow (row_of h names) → ((n : ℕ) → h ≡ head.Shift n → ⊥) → (h ≡ head.Push → ⊥) → ⊥
not-sub head.Header names is no_shift no_push = is
not-sub (head.Var k) names is no_shift no_push = is
not-sub (head.Make op) names is no_shift no_push = is
not-sub head.Instance [] is no_shift no_push = is
not-sub head.Instance (t ∷ []) is no_shift no_push = is
not-sub head.Instance (t ∷ d ∷ names) is no_shift no_push = is
not-sub (head.Shift n) names is no_shift no_push = no_shift n refl
not-sub head.Push names is no_shift no_push = no_push refl
not-sub head.CtxNil names is no_shift no_push = is
not-sub head.CtxVar [] is no_shift no_push = is
not-sub head.CtxVar (G ∷ []) is no_shift no_push = is
not-sub head.CtxVar (G ∷ A ∷ names) is no_shift no_push = is
not-sub head.CtxName [] is no_shift no_push = is
not-sub head.CtxName (G ∷ names) is no_shift no_push = is
not-sub head.CtxFace [] is no_shift no_push = is
not-sub head.CtxFace (G ∷ []) is no_shift no_push = is
not-sub head.CtxFace (G ∷ p ∷ names) is no_shift no_push = is
not-sub (head.Node rule) names is no_shift no_push = is

pub push-row : (h : RowHead) (names : List ℕ) → h ≡ head.Push → length names ≡ names_of h → row_of h names ≡ row.Push (slice_index_or names 0 0) (slice_index_or names 1 0)
push-row h names is count = ap (λ i. row_of i names) is ∙ from names (count ∙ ap names_of is)
  where
    from : (names : List ℕ) → length names ≡ 2 → row_of head.Push names ≡ row.Push (slice_index_or names 0 0) (slice_index_or names 1 0)
    from [] e = absurd (omega arith)
    from (s ∷ []) e = absurd (omega arith)
    from (s ∷ t ∷ names) e = refl
