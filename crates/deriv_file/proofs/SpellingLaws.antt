-- A line spells one row at most.
use Rattle.std.proofs.Common.{◌≡◌, ◌≢◌, ℕ, ◌<◌, ◌≤◌, ◌^◌, List, [], ◌∷◌, ◌++◌, length, map, take, codes, decimal, refl, sym, ◌∙◌, ap, subst, arith}
use Rattle.std.specs.List.{All, AllByRecursion, join_with_byte}
use Rattle.std.specs.Io.BufRead.{take_through, drop_through}
use Rattle.std.proofs.lemmas.Bool.{false≢true}
use Rattle.std.proofs.lemmas.Fmt.{decimal_injective, decimal_is_IsNumeral}
use Rattle.std.proofs.lemmas.List.{append_assoc, append_cancel_right, take_at, length-map, append-nil}
use Rattle.std.proofs.lemmas.List.Elements.{All-head, All-tail, All-from_get_or, All-weaker, All-append, All-cons, All-nil}
use Rattle.std.proofs.lemmas.List.Splits.{join_with_byte-slice_split}
use Rattle.std.proofs.lemmas.Str.Parse.{digit_at}
use Rattle.trees.specs.Operators.{name_of as operator_name, kids_of}
use Rattle.theory.specs.RuleNames.{name_of as rule_name, kinds_of, premises_of}
use Rattle.deriv_file.specs.declared.row.Row.{Row}
use Rattle.deriv_file.specs.declared.row.Row.TheVariants.{Header, Var, Make, Instance, Shift, Push, CtxNil, CtxVar, CtxName, CtxFace, Node, Root}
use Rattle.deriv_file.specs.Spelling.{words_of, spelled, Earlier, MayStand, Spells}
use Rattle.deriv_file.specs.Words.{line_words, BeginWith}
use Rattle.deriv_file.proofs.LineLaws.{first_line}
use Rattle.theory.proofs.Names.{visible, operator_visible, rule_visible}
use Rattle.deriv_file.proofs.RowLaws.{start_with, not_var, header_row, tree_row, node_row, root_row, same_rest}
use Rattle.deriv_file.proofs.WordLaws.{first_word, one_word}

abbrev head : List (List ℕ) → List ℕ
head [] = []
head (w ∷ words) = w

-- a word has visible bytes alone
abbrev pub IsWord : List ℕ → Type 0
IsWord word = All (λ b. 32 < b) word

abbrev pub AreWords : List (List ℕ) → Type 0
AreWords words = AllByRecursion IsWord words

no_byte : (mark : ℕ) → mark ≤ 32 → (word : List ℕ) → IsWord word → All (λ b. b ≢ mark) word
no_byte mark low word each = All-weaker (λ b. 32 < b) (λ b. b ≢ mark) (λ b above e. absurd (omega arith)) word each

no_space : (word : List ℕ) → IsWord word → All (λ b. b ≢ 32) word
no_space word each = no_byte 32 (omega arith) word each

-- words with a space between any two are cut into these words again
pub words_of_joined : (words : List (List ℕ)) → 0 < length words → AreWords words → line_words (join_with_byte 32 words) ≡ words
words_of_joined [] some each = absurd (omega arith)
words_of_joined (w ∷ []) some each = one_word w (no_space w each.0)
words_of_joined (w ∷ v ∷ words) some each =
    first_word _ w (join_with_byte 32 (v ∷ words)) refl (no_space w each.0)
    ∙ ap (λ ws. w ∷ ws) (words_of_joined (v ∷ words) (omega arith) each.1)

number_word : (n : ℕ) → n < 2 ^ 64 → IsWord (decimal n)
number_word n small =
    let digits = (decimal_is_IsNumeral n small).0.1 in
    All-from_get_or (λ b. 32 < b) (decimal n) 0 (λ k within. let digit = digit_at (decimal n) k digits within in omega (arith, digit))

number_words : (at : ℕ) (ids : List ℕ) → All (Earlier at) ids → AreWords (map decimal ids)
number_words at [] each = tt
number_words at (n ∷ ids) each = (number_word n (All-head (Earlier at) n ids each).1, number_words at ids (All-tail (Earlier at) n ids each))

both_words : (words more : List (List ℕ)) → AreWords words → AreWords more → AreWords (words ++ more)
both_words [] more first second = second
both_words (w ∷ words) more first second = (first.0, both_words words more first.1 second)

-- the words of a row that may stand somewhere are words
pub row_words : (version at : ℕ) (row : Row) → MayStand version at row → AreWords (words_of row)
row_words version at (Header v) stands = (visible (codes "rules") refl, (number_word v (omega arith), tt))
row_words version at (Var index) stands = (visible (codes "t") refl, (visible (codes "var") refl, (number_word index (omega arith), tt)))
row_words version at (Make op kids) stands = (visible (codes "t") refl, (operator_visible op, number_words at kids stands.2))
row_words version at (Instance term sub) stands = (visible (codes "x") refl, number_words at (term ∷ sub ∷ []) stands)
row_words version at (Shift by) stands = (visible (codes "s") refl, (visible (codes "shift") refl, (number_word by (omega arith), tt)))
row_words version at (Push sub term) stands = (visible (codes "s") refl, (visible (codes "push") refl, number_words at (sub ∷ term ∷ []) stands))
row_words version at (CtxVar ctx ty) stands = (visible (codes "c") refl, (visible (codes "var") refl, number_words at (ctx ∷ ty ∷ []) stands))
row_words version at (CtxName ctx) stands = (visible (codes "c") refl, (visible (codes "name") refl, (number_word ctx stands.1, tt)))
row_words version at (CtxFace ctx face) stands = (visible (codes "c") refl, (visible (codes "face") refl, number_words at (ctx ∷ face ∷ []) stands))
row_words version at CtxNil stands = (visible (codes "c") refl, (visible (codes "nil") refl, tt))
row_words version at (Node rule parts premises) stands =
    (visible (codes "n") refl, (rule_visible rule, both_words (map decimal parts) (map decimal premises) (number_words at parts stands.3) (number_words at premises stands.4)))
row_words version at (Root node) stands = (visible (codes "r") refl, (number_word node stands.1, tt))

some_words : (row : Row) → 0 < length (words_of row)
some_words (Header v) = omega arith
some_words row = omega arith

-- a row's line without its newline is cut into the row's words
pub words_of_row : (version at : ℕ) (row : Row) → MayStand version at row → line_words (join_with_byte 32 (words_of row)) ≡ words_of row
words_of_row version at row stands = words_of_joined (words_of row) (some_words row) (row_words version at row stands)

no_newline_joined : (words : List (List ℕ)) → AreWords words → All (λ b. b ≢ 10) (join_with_byte 32 words)
no_newline_joined [] each = All-nil (λ b. b ≢ 10)
no_newline_joined (w ∷ []) each = no_byte 10 (omega arith) w each.0
no_newline_joined (w ∷ v ∷ words) each =
    All-append (λ b. b ≢ 10) w (32 ∷ join_with_byte 32 (v ∷ words)) (no_byte 10 (omega arith) w each.0)
    (All-cons (λ b. b ≢ 10) 32 (join_with_byte 32 (v ∷ words)) (λ e. omega (arith, e)) (no_newline_joined (v ∷ words) each.1))

-- before more bytes a row's line is the first
pub row_line : (version at : ℕ) (row : Row) (more : List ℕ) → MayStand version at row → (take_through 10 (spelled row ++ more) ≡ spelled row) × (drop_through 10 (spelled row ++ more) ≡ more)
row_line version at row more stands =
    let line = join_with_byte 32 (words_of row) in
    let whole : spelled row ++ more ≡ line ++ 10 ∷ more = append_assoc line (10 ∷ []) more in
    let cut = first_line line more (no_newline_joined (words_of row) (row_words version at row stands)) in
    (ap (take_through 10) whole ∙ cut.0, ap (drop_through 10) whole ∙ cut.1)

-- a line that is cut into a row's words, with a newline, spells the row
pub line_of_words : (line : List ℕ) (row : Row) → line_words line ≡ words_of row → line ++ 10 ∷ [] ≡ spelled row
line_of_words line row e = ap (λ l. l ++ 10 ∷ []) (sym (join_with_byte-slice_split 32 line) ∙ ap (join_with_byte 32) e)

-- and a line that spells a row is cut into its words
pub words_of_line : (version at : ℕ) (line : List ℕ) (row : Row) → line ++ 10 ∷ [] ≡ spelled row → MayStand version at row → line_words line ≡ words_of row
words_of_line version at line row e stands =
    ap line_words (append_cancel_right line (join_with_byte 32 (words_of row)) (10 ∷ []) e) ∙ words_of_row version at row stands

same_numbers : (at : ℕ) (ids others : List ℕ) → All (Earlier at) ids → All (Earlier at) others → map decimal ids ≡ map decimal others → ids ≡ others
same_numbers at [] [] each every e = refl
same_numbers at [] (m ∷ others) each every e = cc
same_numbers at (n ∷ ids) [] each every e = cc
same_numbers at (n ∷ ids) (m ∷ others) each every e =
    let word : decimal n ≡ decimal m = cc in
    let tails : map decimal ids ≡ map decimal others = cc in
    let first : n ≡ m = decimal_injective n m (All-head (Earlier at) n ids each).1 (All-head (Earlier at) m others every).1 word in
    let more : ids ≡ others = same_numbers at ids others (All-tail (Earlier at) n ids each) (All-tail (Earlier at) m others every) tails in
    cc

-- so many numbers are the same
same_ids : (words : List (List ℕ)) (count at : ℕ) (ids others : List ℕ) (more rest : List (List ℕ)) → BeginWith words count at ids more → BeginWith words count at others rest → ids ≡ others
same_ids words count at ids others more rest begin again =
    same_numbers at ids others begin.earlier again.earlier (
    sym (take_at (map decimal ids) more count (length-map ids decimal ∙ begin.counted))
    ∙ ap (take count) (sym begin.spelt ∙ again.spelt)
    ∙ take_at (map decimal others) rest count (length-map others decimal ∙ again.counted))

all_numbers : (at count : ℕ) (ids : List ℕ) → length ids ≡ count → All (Earlier at) ids → BeginWith (map decimal ids) count at ids []
all_numbers at count ids counted each = record { spelt = sym (append-nil (map decimal ids)); counted = counted; earlier = each }

-- rows of the same words are the same
pub same_row : (version at : ℕ) (row other : Row) → MayStand version at row → MayStand version at other → words_of row ≡ words_of other → row ≡ other
same_row version at (Header v) other stands also e =
    let header = header_row version at (decimal v ∷ []) other e also in
    let word : decimal v ≡ decimal header.0 = ap head header.2 in
    ap Header (decimal_injective v header.0 (omega arith) (omega (arith, header.5)) word) ∙ sym header.1
same_row version at (Var index) (Var other) stands also e =
    let word : decimal index ≡ decimal other = cc in
    ap Var (decimal_injective index other (omega arith) (omega arith) word)
same_row version at (Var index) (Make op kids) stands also e =
    let name : codes "var" ≡ operator_name op = cc in
    absurd (not_var op (sym name))
same_row version at (Var index) other stands also e = absurd (false≢true (ap (start_with (codes "t" ∷ [])) (sym e)))
same_row version at (Instance term sub) (Instance other more) stands also e =
    let words : map decimal (term ∷ sub ∷ []) ≡ map decimal (other ∷ more ∷ []) = cc in
    let same = same_numbers at (term ∷ sub ∷ []) (other ∷ more ∷ []) stands also words in
    cc
same_row version at (Instance term sub) other stands also e = absurd (false≢true (ap (start_with (codes "x" ∷ [])) (sym e)))
same_row version at (Shift by) (Shift other) stands also e =
    let word : decimal by ≡ decimal other = cc in
    ap Shift (decimal_injective by other (omega arith) (omega arith) word)
same_row version at (Shift by) other stands also e = absurd (false≢true (ap (start_with (codes "s" ∷ codes "shift" ∷ [])) (sym e)))
same_row version at (Push sub term) (Push other more) stands also e =
    let words : map decimal (sub ∷ term ∷ []) ≡ map decimal (other ∷ more ∷ []) = cc in
    let same = same_numbers at (sub ∷ term ∷ []) (other ∷ more ∷ []) stands also words in
    cc
same_row version at (Push sub term) other stands also e = absurd (false≢true (ap (start_with (codes "s" ∷ codes "push" ∷ [])) (sym e)))
same_row version at (CtxVar ctx ty) (CtxVar other more) stands also e =
    let words : map decimal (ctx ∷ ty ∷ []) ≡ map decimal (other ∷ more ∷ []) = cc in
    let same = same_numbers at (ctx ∷ ty ∷ []) (other ∷ more ∷ []) stands also words in
    cc
same_row version at (CtxVar ctx ty) other stands also e = absurd (false≢true (ap (start_with (codes "c" ∷ codes "var" ∷ [])) (sym e)))
same_row version at (Make op kids) other stands also e =
    let tree = tree_row version at (operator_name op ∷ map decimal kids) (map decimal kids) (operator_name op) op (kids_of op) refl refl refl other e also in
    ap (Make op) (same_ids (map decimal kids) (kids_of op) at kids tree.0 [] [] (all_numbers at (kids_of op) kids stands.1 stands.2) tree.2) ∙ sym tree.1
same_row version at (CtxName ctx) (CtxName other) stands also e =
    let word : decimal ctx ≡ decimal other = cc in
    ap CtxName (decimal_injective ctx other stands.1 also.1 word)
same_row version at (CtxName ctx) other stands also e = absurd (false≢true (ap (start_with (codes "c" ∷ codes "name" ∷ [])) (sym e)))
same_row version at (CtxFace ctx face) (CtxFace other more) stands also e =
    let words : map decimal (ctx ∷ face ∷ []) ≡ map decimal (other ∷ more ∷ []) = cc in
    let same = same_numbers at (ctx ∷ face ∷ []) (other ∷ more ∷ []) stands also words in
    cc
same_row version at (CtxFace ctx face) other stands also e = absurd (false≢true (ap (start_with (codes "c" ∷ codes "face" ∷ [])) (sym e)))
same_row version at CtxNil CtxNil stands also e = refl
same_row version at CtxNil other stands also e = absurd (false≢true (ap (start_with (codes "c" ∷ codes "nil" ∷ [])) (sym e)))
same_row version at (Node rule parts premises) other stands also e =
    let a = length (kinds_of rule) in
    let b = premises_of rule in
    let left = map decimal parts ++ map decimal premises in
    let node = node_row version at (rule_name rule ∷ left) left (rule_name rule) rule a b refl refl refl refl other e also in
    let first : BeginWith left a at parts (map decimal premises) = record { spelt = refl; counted = stands.1; earlier = stands.3 } in
    let rest : map decimal premises ≡ map decimal node.1 = same_rest left a at parts node.0 (map decimal premises) (map decimal node.1) first node.3 in
    let second : BeginWith (map decimal premises) b at node.1 [] = subst (λ words. BeginWith words b at node.1 []) (sym rest) node.4 in
    ap (λ ids. Node rule ids premises) (same_ids left a at parts node.0 (map decimal premises) (map decimal node.1) first node.3)
    ∙ ap (Node rule node.0) (same_ids (map decimal premises) b at premises node.1 [] [] (all_numbers at b premises stands.2 stands.4) second)
    ∙ sym node.2
same_row version at (Root node) other stands also e =
    let root = root_row (decimal node ∷ []) other e in
    let there : Earlier at root.0 = subst (MayStand version at) root.1 also in
    ap Root (decimal_injective node root.0 stands.1 there.1 (ap head root.2)) ∙ sym root.1

-- a line spells one row at most
pub spells_one : (version at : ℕ) (line : List ℕ) (row other : Row) → Spells version at line row → Spells version at line other → row ≡ other
spells_one version at line row other spells also =
    same_row version at row other spells.1 also.1
    (sym (words_of_row version at row spells.1)
    ∙ words_of_line version at (join_with_byte 32 (words_of row)) other (sym spells.0 ∙ also.0) also.1)
