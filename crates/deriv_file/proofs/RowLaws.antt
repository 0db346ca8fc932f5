-- Which rows the words of a line may be, by the first word.
use Rattle.std.proofs.Common.{◌≡◌, ◌⊎◌, inl, inr, ℕ, ◌≤◌, Bool, true, false, ◌&&◌, List, [], ◌∷◌, ◌++◌, length, map, drop, codes, refl, sym, ◌∙◌, ap, decimal}
use Rattle.std.specs.Str.{bytes_eq}
use Rattle.std.proofs.lemmas.Bool.{false≢true}
use Rattle.std.proofs.lemmas.List.{append-nil, drop_at, length-map}
use Rattle.trees.specs.Operators.{name_of as operator_name, kids_of}
use Rattle.theory.specs.RuleNames.{name_of as rule_name, kinds_of, premises_of}
use Rattle.trees.specs.declared.op.Op.{Op}
use Rattle.theory.specs.declared.rule.RuleName.{RuleName}
use Rattle.deriv_file.specs.declared.row.Row.{Row}
use Rattle.deriv_file.specs.declared.row.Row.TheVariants.{Header, Var, Make, CtxNil, CtxVar, CtxName, CtxFace, Node, Root}
use Rattle.trees.specs.declared.op.Op.TheVariants.{I0}
use Rattle.deriv_file.specs.Spelling.{words_of, MayStand, newest}
use Rattle.deriv_file.specs.Words.{BeginWith}
use Rattle.theory.proofs.Names.{same_operator, same_rule}

-- whether the first words are these
abbrev pub start_with : List (List ℕ) → List (List ℕ) → Bool
start_with [] words = true
start_with (word ∷ more) [] = false
start_with (word ∷ more) (w ∷ words) = bytes_eq w word && start_with more words

is_not_var : (op : Op) → bytes_eq (operator_name op) (codes "var") ≡ false
is_not_var I0 = refl
is_not_var _ = refl

-- no operator has the name of variables
pub not_var : (op : Op) → operator_name op ≡ codes "var" → ⊥
not_var op e = false≢true (sym (is_not_var op) ∙ ap (λ name. bytes_eq name (codes "var")) e)

-- after so many numbers the same is left
pub same_rest : (words : List (List ℕ)) (count at : ℕ) (ids others : List ℕ) (more rest : List (List ℕ)) → BeginWith words count at ids more → BeginWith words count at others rest → more ≡ rest
same_rest words count at ids others more rest begin again =
    sym (drop_at (map decimal ids) more count (length-map ids decimal ∙ begin.counted))
    ∙ ap (drop count) (sym begin.spelt ∙ again.spelt)
    ∙ drop_at (map decimal others) rest count (length-map others decimal ∙ again.counted)

-- what else stands in the line of a row, by the first word: a header has its version
pub header_row : (version at : ℕ) (words : List (List ℕ)) (row : Row) → codes "rules" ∷ words ≡ words_of row → MayStand version at row → (v : ℕ) × (row ≡ Header v) × (words ≡ decimal v ∷ []) × (at ≡ 0) × (1 ≤ v) × (v ≤ newest)
header_row version at words (Header v) e stands = (v, refl, cc, stands.0, stands.1, stands.2)
header_row version at words row e stands = absurd (false≢true (ap (start_with (codes "rules" ∷ [])) (sym e)))

-- after an operator its kids are left
pub tree_row : (version at : ℕ) (words left : List (List ℕ)) (name : List ℕ) (op : Op) (count : ℕ) → words ≡ name ∷ left → name ≡ operator_name op → count ≡ kids_of op → (row : Row) → codes "t" ∷ words ≡ words_of row → MayStand version at row → (kids : List ℕ) × (row ≡ Make op kids) × BeginWith left count at kids []
tree_row version at words left name op count taken named counted (Make other kids) e stands =
    let name_is : operator_name other ≡ name = cc in
    let left_is : left ≡ map decimal kids = cc in
    let same : other ≡ op = same_operator other op (name_is ∙ named) in
    (kids, ap (λ o. Make o kids) same, record { spelt = left_is ∙ sym (append-nil (map decimal kids)); counted = stands.1 ∙ ap kids_of same ∙ sym counted; earlier = stands.2 })
tree_row version at words left name op count taken named counted (Var index) e stands =
    let name_is : codes "var" ≡ name = cc in
    absurd (not_var op (sym named ∙ sym name_is))
tree_row version at words left name op count taken named counted row e stands = absurd (false≢true (ap (start_with (codes "t" ∷ [])) (sym e)))

-- after a rule its parts are left, and after them its premises
pub node_row : (version at : ℕ) (words left : List (List ℕ)) (name : List ℕ) (rule : RuleName) (a b : ℕ) → words ≡ name ∷ left → name ≡ rule_name rule → a ≡ length (kinds_of rule) → b ≡ premises_of rule → (row : Row) → codes "n" ∷ words ≡ words_of row → MayStand version at row → (parts premises : List ℕ) × (row ≡ Node rule parts premises) × BeginWith left a at parts (map decimal premises) × BeginWith (map decimal premises) b at premises []
node_row version at words left name rule a b taken named part_count premise_count (Node other parts premises) e stands =
    let name_is : rule_name other ≡ name = cc in
    let left_is : left ≡ map decimal parts ++ map decimal premises = cc in
    let same : other ≡ rule = same_rule other rule (name_is ∙ named) in (
      parts,
      premises,
      ap (λ r. Node r parts premises) same,
      record { spelt = left_is; counted = stands.1 ∙ ap (λ r. length (kinds_of r)) same ∙ sym part_count; earlier = stands.3 },
      record { spelt = sym (append-nil (map decimal premises)); counted = stands.2 ∙ ap premises_of same ∙ sym premise_count; earlier = stands.4 },
    )
node_row version at words left name rule a b taken named part_count premise_count row e stands = absurd (false≢true (ap (start_with (codes "n" ∷ [])) (sym e)))

-- a word that was taken, and the last
pub two_words : (words left : List (List ℕ)) (kind first last : List ℕ) → words ≡ first ∷ left → left ≡ last ∷ [] → kind ∷ words ≡ kind ∷ first ∷ last ∷ []
two_words words left kind first last taken rest = rw (taken, rest) refl

-- the first word after that of contexts
abbrev pub IsContextWord : List (List ℕ) → Type 0
IsContextWord words = (words ≡ codes "nil" ∷ []) ⊎ (((more : List (List ℕ)) × (words ≡ codes "var" ∷ more)) ⊎ (((more : List (List ℕ)) × (words ≡ codes "name" ∷ more)) ⊎ ((more : List (List ℕ)) × (words ≡ codes "face" ∷ more))))

pub context_row : (words : List (List ℕ)) (row : Row) → codes "c" ∷ words ≡ words_of row → IsContextWord words
context_row words CtxNil e = inl cc
context_row words (CtxVar ctx ty) e = inr (inl (map decimal (ctx ∷ ty ∷ []), cc))
context_row words (CtxName ctx) e = inr (inr (inl (decimal ctx ∷ [], cc)))
context_row words (CtxFace ctx face) e = inr (inr (inr (map decimal (ctx ∷ face ∷ []), cc)))
context_row words row e = absurd (false≢true (ap (start_with (codes "c" ∷ [])) (sym e)))

-- a root has its node
pub root_row : (words : List (List ℕ)) (row : Row) → codes "r" ∷ words ≡ words_of row → (node : ℕ) × (row ≡ Root node) × (words ≡ decimal node ∷ [])
root_row words (Root node) e = (node, refl, cc)
root_row words row e = absurd (false≢true (ap (start_with (codes "r" ∷ [])) (sym e)))
