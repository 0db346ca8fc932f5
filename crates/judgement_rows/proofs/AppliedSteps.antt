-- Heads and what they are applied to, codes in order, and what is opened.
use Rattle.std.proofs.Common.{◌≡◌, ℕ, List, [], ◌∷◌, ◌++◌, map, refl, sym, ap, subst}
use Rattle.std.specs.Prelude.{option_and_then}
use Rattle.layout_lexer.specs.declared.token.Span.{Span}
use Rattle.trees.specs.declared.op.Op.TheVariants as op
use Rattle.trees.specs.Trees.{Tree}
use Rattle.trees.specs.Things.{Meanings, Kept, meanings, made}
use Rattle.translation.specs.Terms.{app, papp, nat, lifted, innermost}
use Rattle.translation.specs.Scopes.{Scope, Variable, Interval}
use Rattle.translation.specs.Translated.{done, ◌>>=◌}
use Rattle.translation.specs.Forms.{Means, all, one, apply_all}
use Rattle.codes.specs.declared.code.Code.{Code}
use Rattle.codes.specs.declared.code.Element.{Element, Argument as Argument', At as At'}
use Rattle.codes.specs.declared.code.Opened.{Opened, Under as Under', Applied as Applied'}
use Rattle.codes.specs.declared.formula.Formula.{Formula}
use Rattle.codes.specs.Codes.{meaning, element}
use Rattle.codes.proofs.Logs.{map_append}
use Rattle.form_rows.specs.Meant.{Is, AreTrees}
use Rattle.form_rows.specs.Formulas.{formula_tree}
use Rattle.form_rows.proofs.RowLaws.{kept_then, is_kept, are_kept, are_none, are_two, are_push, is_made}
use Rattle.judgement_rows.specs.declared.places.Place.{Place}
use Rattle.judgement_rows.specs.Steps.{State, FitsSome, Spells, Row}
use Rattle.judgement_rows.specs.Words.{Rows, applied_tree, code_tree, code_trees, line_tree, motive_tree}
use Rattle.judgement_rows.proofs.Moving.{Makes, given, spells_done, spells_then}
use Rattle.judgement_rows.proofs.FormSteps.{spells_leaf, spells_map, spells_same}
use Rattle.judgement_rows.proofs.SideLaws.{formula_is}
use Rattle.judgement_rows.proofs.SideSteps.{applied_push, codes_none, codes_more}
use Rattle.judgement_rows.proofs.Arms.{with_rows, more_rows}
use Rattle.judgement_rows.proofs.Answered.{makes_same}

-- heads

pub applied_none : (s : State) (p : Place) (head : ℕ) (t : Tree) → Is s.means head t → Spells s s p (Row head) (applied_tree t [])
unfolding applied_tree
applied_none s p head t h = spells_done s s p (Row head) t (makes_same s) h

pub applied_more : {s t u : State} {p : Place} {row r : ℕ} (x : Tree) (xs ys : List Element) (e : Element) → ys ≡ xs ++ e ∷ [] → FitsSome s p → Spells s t p (Row row) (applied_tree x xs)
    → ((y : Tree) → Is t.means row y → Spells t u p (Row r) (applied_tree y (e ∷ []))) → Spells s u p (Row r) (applied_tree x ys)
unfolding applied_tree
applied_more {s} {t} {u} {p} {row} {r} x xs ys e same fits first second =
    let g = given fits first in
    let last = second g.0 g.1 in
    subst (λ zs. Spells s u p (Row r) (apply_all x (map element zs))) (sym same)
    (subst (λ zs. Spells s u p (Row r) (apply_all x zs)) (sym (map_append element xs (e ∷ [])))
    (spells_same (λ H. applied_push (map element xs) (element e) x H) (spells_then first second last.kept last.bodies)))

argument_reads : (c : Code) (t : Tree) → (λ G. code_tree c G >>= λ a. done (app t a)) ≡ applied_tree t (Argument' c ∷ [])
unfolding code_tree applied_tree
argument_reads c t = refl

pub argument_is : (c : Code) (t : Tree) {e : Element} {x : Code} → e ≡ Argument' c → x ≡ c → (λ G. code_tree x G >>= λ a. done (app t a)) ≡ applied_tree t (e ∷ [])
argument_is c t i j = rw (i, j) (argument_reads c t)

at_reads : (s : Span) (f : Formula) (t : Tree) (G : Scope ℕ) → done (papp t (formula_tree f)) ≡ applied_tree t (At' s f ∷ []) G
unfolding applied_tree
at_reads s f t G = sym (ap (λ m. m >>= λ a. done (papp t a)) (formula_is f G))

pub at_is : (s : Span) (f : Formula) (t : Tree) (G : Scope ℕ) {e : Element} {g : Formula} → e ≡ At' s f → g ≡ f → done (papp t (formula_tree g)) ≡ applied_tree t (e ∷ []) G
at_is s f t G i j = rw (i, j) (at_reads s f t G)

pub argument_applied : {s t : State} {g : Meanings} {p : Place} {head a r : ℕ} {m : Means ℕ Tree} (x : Tree) → Spells s t p (Row a) m → Is s.means head x → Kept t.means g
    → g r ≡ option_and_then (made op.App) (meanings t.means (head ∷ a ∷ [])) → Spells s (with_rows t g) p (Row r) (λ G. m G >>= λ v. done (app x v))
argument_applied x first head kept made_is = spells_map (app x) first (more_rows kept) (λ v i. is_made op.App refl (are_two (is_kept first.kept head) i) made_is)

pub formula_applied : {s t : State} {g : Meanings} {p : Place} {head a r : ℕ} (x f : Tree) → Makes s t → Is t.means a f → Is s.means head x → Kept t.means g
    → g r ≡ option_and_then (made op.PApp) (meanings t.means (head ∷ a ∷ [])) → Spells s (with_rows t g) p (Row r) (λ G. done (papp x f))
formula_applied x f more a head kept made_is =
    spells_leaf (λ H. papp x f) (record { kept = kept_then more.kept kept; bodies = more.bodies; claims = more.claims }) (λ H h. is_made op.PApp refl (are_two (is_kept more.kept head) a) made_is)

-- codes in order

pub codes_start : (s : State) (p : Place) {rows : List ℕ} → rows ≡ [] → Spells s s p (Rows rows) (code_trees [])
unfolding code_trees
codes_start s p e = rw e (codes_none s p (Rows []) (are_none s.means))

pub codes_next : {s t u : State} {p : Place} {rows more_rows : List ℕ} {row : ℕ} → more_rows ≡ rows ++ row ∷ [] → (xs ys : List Code) (c : Code) → ys ≡ xs ++ c ∷ [] → Spells s t p (Rows rows) (code_trees xs) → Spells t u p (Row row) (code_tree c)
    → Spells s u p (Rows more_rows) (code_trees ys)
unfolding code_trees code_tree
codes_next {s} {t} {u} {p} {rows} {row = row} more xs ys c same first second =
    rw more (subst (λ zs. Spells s u p (Rows (rows ++ row ∷ [])) (code_trees zs)) (sym same)
    (subst (λ zs. Spells s u p (Rows (rows ++ row ∷ [])) (all zs)) (sym (map_append meaning xs (c ∷ [])))
    (codes_more (map meaning xs) first second (λ ts t i j. are_push (are_kept second.kept i) j))))

pub rows_given : {s t : State} {p : Place} {rows : List ℕ} {m : Means ℕ (List Tree)} → FitsSome s p → Spells s t p (Rows rows) m → AreTrees t.means rows
rows_given fits first = given fits first

-- lines and motives

under_line_reads : (s : Span) (c : Code) → (λ G. code_tree c (Interval 0 ∷ G)) ≡ line_tree (Under' s c)
unfolding code_tree line_tree
under_line_reads s c = refl

pub under_line_is : (s : Span) (c : Code) {o : Opened} {x : Code} → o ≡ Under' s c → x ≡ c → (λ G. code_tree x (Interval 0 ∷ G)) ≡ line_tree o
under_line_is s c i j = rw (i, j) (under_line_reads s c)

applied_line_reads : (s : Span) (c : Code) → one (λ t. papp (lifted t) innermost) (code_tree c) ≡ line_tree (Applied' s c)
unfolding code_tree line_tree
applied_line_reads s c = refl

pub applied_line_is : (s : Span) (c : Code) {o : Opened} {x : Code} → o ≡ Applied' s c → x ≡ c → one (λ t. papp (lifted t) innermost) (code_tree x) ≡ line_tree o
applied_line_is s c i j = rw (i, j) (applied_line_reads s c)

under_motive_reads : (s : Span) (c : Code) → (λ G. code_tree c (Variable 0 nat ∷ G)) ≡ motive_tree (Under' s c)
unfolding code_tree motive_tree
under_motive_reads s c = refl

pub under_motive_is : (s : Span) (c : Code) {o : Opened} {x : Code} → o ≡ Under' s c → x ≡ c → (λ G. code_tree x (Variable 0 nat ∷ G)) ≡ motive_tree o
under_motive_is s c i j = rw (i, j) (under_motive_reads s c)

applied_motive_reads : (s : Span) (c : Code) → one (λ t. app (lifted t) innermost) (code_tree c) ≡ motive_tree (Applied' s c)
unfolding code_tree motive_tree
applied_motive_reads s c = refl

pub applied_motive_is : (s : Span) (c : Code) {o : Opened} {x : Code} → o ≡ Applied' s c → x ≡ c → one (λ t. app (lifted t) innermost) (code_tree x) ≡ motive_tree o
applied_motive_is s c i j = rw (i, j) (applied_motive_reads s c)
