-- What stands at a place nests no deeper than its room allows.
use Rattle.std.proofs.Common.{ℕ, zero, suc, ◌+◌, ◌-◌, ◌*◌, ◌≤◌, min, max, List, [], ◌∷◌, arith}
use Rattle.layout_lexer.specs.declared.token.Span.{Span}
use Rattle.syntax.specs.declared.formula.End.{End}
use Rattle.syntax.specs.declared.formula.End.TheVariants as E
use Rattle.syntax.specs.declared.formula.Projection.{Projection}
use Rattle.syntax.specs.Tree.{Formula, Tree, At, Trees, none, more}
use Rattle.productions.specs.Words.{Composing, Composed, Filled, Gluing, GluedType, GluedTerm, Unglued, Piece}
use Rattle.productions.specs.Grammar.{limit, from, kept, shallow, shallow_formula, applied, projected, constant, composing, gluing, IsFormula, conj, join, IsConj, neg, meet, IsNeg, negation, constant_end, variable, bracketed, IsExp, let_in, lambda, path_lambda, exp1, IsExp1, pi, sigma, arrow, exp2, IsExp2, apply, IsElements, no_element, argument, at, IsExp3, path_type, comp_or_fill, transport, glue, exp4, IsExp4, project, IsExp5, universe, name, brackets, IsComponents, no_component, next_component, IsTele, tele, IsTeles, no_tele, next_tele, IsSystem, empty_system, system, IsSides, no_side, next_side, IsSide, side, IsBlock, empty_block, block, IsDef, def, def_where, IsDefs, no_def, next_def, IsItems, last_import, next_import, defs, IsModule, empty_module, items, IsWholeExp, whole_exp}
use Rattle.productions.specs.declared.past.Past.{Past}
use Rattle.depths.specs.Depth.{formula_depth, depth, depths, deepest}

-- what stands in place of what is too deep

shallow-fits : (r : ℕ) (x : Tree) (n : ℕ) → 1 ≤ n → (1 ≤ r → depth x ≤ n) → depth (shallow r x) ≤ n
shallow-fits zero x n pos h = pos
shallow-fits (suc r) x n pos h = h (omega arith)

shallow_formula-fits : (r : ℕ) (f : Formula) (n : ℕ) → 1 ≤ n → (1 ≤ r → formula_depth f ≤ n) → formula_depth (shallow_formula r f) ≤ n
shallow_formula-fits zero f n pos h = pos
shallow_formula-fits (suc r) f n pos h = h (omega arith)

-- an expression one deeper
below : (r : ℕ) (x : Tree) → 1 ≤ r → (1 ≤ r - 1 → depth x ≤ 5 * (r - 1) + 2) → depth (shallow (r - 1) x) ≤ 5 * r - 3
below r x pos h = shallow-fits (r - 1) x (5 * r - 3) (omega arith) (λ k. let i = h k in omega arith)

-- an element before others
before : (r : ℕ) (x : Tree) (xs : Trees) (n : ℕ) → (1 ≤ r → depth x ≤ n) → depths xs + min r 1 ≤ n → depths (kept r x xs) ≤ n
before zero x xs n h i = omega arith
before (suc r) x xs n h i = let j = h (omega arith) in omega arith

-- the same where an element takes what a room may
in_list : (r : ℕ) (x : Tree) (xs : Trees) → (1 ≤ r → depth x ≤ 5 * r) → depths xs ≤ 5 * (r - 1) → depths (kept r x xs) ≤ 5 * r
in_list r x xs h i = before r x xs (5 * r) h (omega arith)

-- a definition beside others
beside : (r : ℕ) (x : Tree) (xs : Trees) (n : ℕ) → (1 ≤ r → depth x ≤ n) → deepest xs ≤ n → deepest (kept r x xs) ≤ n
beside zero x xs n h i = i
beside (suc r) x xs n h i = let j = h (omega arith) in omega arith

-- what a production may leave as it is, or makes by a word

constant-fits : (x : End) (s : Span) (n : ℕ) → 1 ≤ n → formula_depth (constant x s) ≤ n
constant-fits E.Zero s n pos = pos
constant-fits E.One s n pos = pos

applied-fits : (s : Span) (f : Tree) (es : Trees) (n : ℕ) → suc (max (depth f) (depths es)) ≤ n → depth (applied s f es) ≤ n
applied-fits s f none n h = omega arith
applied-fits s f (more x xs) n h = h

projected-fits : (s : Span) (e : Tree) (hs : List Projection) (n : ℕ) → suc (depth e) ≤ n → depth (projected s e hs) ≤ n
projected-fits s e [] n h = omega arith
projected-fits s e (p ∷ ps) n h = h

composing-fits : (w : Composing) (s : Span) (x y : Tree) (ss : Trees) (n : ℕ)
    → suc (max (depth x) (max (depth y) (depths ss))) ≤ n → depth (composing w s x y ss) ≤ n
composing-fits Composed s x y ss n h = h
composing-fits Filled s x y ss n h = h

gluing-fits : (w : Gluing) (s : Span) (x : Tree) (ss : Trees) (n : ℕ) → suc (max (depth x) (depths ss)) ≤ n → depth (gluing w s x ss) ≤ n
gluing-fits GluedType s x ss n h = h
gluing-fits GluedTerm s x ss n h = h
gluing-fits Unglued s x ss n h = h

mutual
  formula-fits : {r : ℕ} {p q : Past} {ts rest : List Piece} {f : Formula} → IsFormula r p ts rest f q → 1 ≤ r → formula_depth f ≤ 2 * r + 2
  formula-fits (conj x) pos = let i = conj-fits x pos in omega arith
  formula-fits {r = r} (join {g = g} x y) pos =
      let i = conj-fits x pos in
      let j = shallow_formula-fits (r - 1) g (2 * r) (omega arith) (λ k. let l = formula-fits y k in omega arith) in
      omega arith

  conj-fits : {r : ℕ} {p q : Past} {ts rest : List Piece} {f : Formula} → IsConj r p ts rest f q → 1 ≤ r → formula_depth f ≤ 2 * r + 1
  conj-fits (neg x) pos = let i = neg-fits x pos in omega arith
  conj-fits {r = r} (meet {g = g} x y) pos =
      let i = neg-fits x pos in
      let j = shallow_formula-fits (r - 1) g (2 * r) (omega arith) (λ k. let l = conj-fits y k in omega arith) in
      omega arith

  neg-fits : {r : ℕ} {p q : Past} {ts rest : List Piece} {f : Formula} → IsNeg r p ts rest f q → 1 ≤ r → formula_depth f ≤ 2 * r
  neg-fits {r = r} (negation {f = f} x) pos =
      let i = shallow_formula-fits (r - 1) f (2 * r - 1) (omega arith) (λ k. let l = neg-fits x k in omega arith) in
      omega arith
  neg-fits {r = r} (constant_end {x = x}) pos = constant-fits x _ (2 * r) (omega arith)
  neg-fits variable pos = omega arith
  neg-fits {r = r} (bracketed {f = f} x) pos = shallow_formula-fits (r - 1) f (2 * r) (omega arith) (λ k. let l = formula-fits x k in omega arith)

mutual
  exp-fits : {r : ℕ} {p q : Past} {ts rest : List Piece} {e : Tree} → IsExp r p ts rest e q → 1 ≤ r → depth e ≤ 5 * r + 2
  exp-fits {r = r} (let_in {b = b} x y) pos =
      let i = block-fits x in
      let j = below r b pos (exp-fits y) in
      omega arith
  exp-fits {r = r} (lambda {x = t} {b = b} {xs = ts} x xs y) pos =
      let i = in_list r t ts (tele-fits x) (teles-fit xs) in
      let j = below r b pos (exp-fits y) in
      omega arith
  exp-fits {r = r} (path_lambda {b = b} ns y) pos = let j = below r b pos (exp-fits y) in omega arith
  exp-fits (exp1 x) pos = exp1-fits x pos

  exp1-fits : {r : ℕ} {p q : Past} {ts rest : List Piece} {e : Tree} → IsExp1 r p ts rest e q → 1 ≤ r → depth e ≤ 5 * r + 2
  exp1-fits {r = r} (pi {x = t} {b = b} {xs = ts} x xs y) pos =
      let i = in_list r t ts (tele-fits x) (teles-fit xs) in
      let j = below r b pos (exp1-fits y) in
      omega arith
  exp1-fits {r = r} (sigma {x = t} {b = b} {xs = ts} x xs y) pos =
      let i = in_list r t ts (tele-fits x) (teles-fit xs) in
      let j = below r b pos (exp1-fits y) in
      omega arith
  exp1-fits {r = r} (arrow {b = b} x y) pos =
      let i = exp2-fits x pos in
      let j = below r b pos (exp1-fits y) in
      omega arith
  exp1-fits (exp2 x) pos = let i = exp2-fits x pos in omega arith

  exp2-fits : {r : ℕ} {p q : Past} {ts rest : List Piece} {e : Tree} → IsExp2 r p ts rest e q → 1 ≤ r → depth e ≤ 5 * r + 1
  exp2-fits {r = r} (apply {f = f} {es = es} x xs) pos =
      let i = exp3-fits x pos in
      let j = elements-fit xs in
      applied-fits _ f es (5 * r + 1) (omega arith)

  elements-fit : {r : ℕ} {p q : Past} {ts rest : List Piece} {es : Trees} → IsElements r p ts rest es q → depths es ≤ 5 * r
  elements-fit no_element = omega arith
  elements-fit {r = r} (argument {x = x} {es = es} y ys) = in_list r x es (exp3-fits y) (elements-fit ys)
  elements-fit {r = r} (at {s = s} {u = u} {f = f} {es = es} y ys) =
      in_list r (At (from s u) f) es (λ k. let i = formula-fits y k in omega arith) (elements-fit ys)

  exp3-fits : {r : ℕ} {p q : Past} {ts rest : List Piece} {e : Tree} → IsExp3 r p ts rest e q → 1 ≤ r → depth e ≤ 5 * r
  exp3-fits (path_type x y z) pos =
      let i = exp4-fits x pos in
      let j = exp4-fits y pos in
      let k = exp4-fits z pos in
      omega arith
  exp3-fits {r = r} (comp_or_fill {w = w} {x = l} {y = a} {ss = ss} x y z) pos =
      let i = exp4-fits x pos in
      let j = exp4-fits y pos in
      let k = system-fits z in
      composing-fits w _ l a ss (5 * r) (omega arith)
  exp3-fits (transport x y) pos =
      let i = exp4-fits x pos in
      let j = exp4-fits y pos in
      omega arith
  exp3-fits {r = r} (glue {w = w} {x = a} {ss = ss} x y) pos =
      let i = exp4-fits x pos in
      let j = system-fits y in
      gluing-fits w _ a ss (5 * r) (omega arith)
  exp3-fits (exp4 x) pos = let i = exp4-fits x pos in omega arith

  exp4-fits : {r : ℕ} {p q : Past} {ts rest : List Piece} {e : Tree} → IsExp4 r p ts rest e q → 1 ≤ r → depth e ≤ 5 * r - 1
  exp4-fits {r = r} (project {e = e} {hs = hs} x y) pos =
      let i = exp5-fits x pos in
      projected-fits _ e hs (5 * r - 1) (omega arith)

  exp5-fits : {r : ℕ} {p q : Past} {ts rest : List Piece} {e : Tree} → IsExp5 r p ts rest e q → 1 ≤ r → depth e ≤ 5 * r - 2
  exp5-fits universe pos = omega arith
  exp5-fits name pos = omega arith
  exp5-fits {r = r} (brackets {x = x} {xs = xs} y ys) pos =
      let i = before (r - 1) x xs (5 * (r - 1) + 2) (exp-fits y) (let j = components-fit ys in omega arith) in
      omega arith

  components-fit : {r : ℕ} {p q : Past} {ts rest : List Piece} {xs : Trees} → IsComponents r p ts rest xs q → depths xs ≤ 5 * (r - 1) + 2
  components-fit no_component = omega arith
  components-fit {r = r} (next_component {x = x} {xs = xs} y ys) =
      before (r - 1) x xs (5 * (r - 1) + 2) (exp-fits y) (let i = components-fit ys in omega arith)

  tele-fits : {r : ℕ} {p q : Past} {ts rest : List Piece} {x : Tree} → IsTele r p ts rest x q → 1 ≤ r → depth x ≤ 5 * r
  tele-fits {r = r} (tele {t = t} ns y) pos = let i = below r t pos (exp-fits y) in omega arith

  teles-fit : {r : ℕ} {p q : Past} {ts rest : List Piece} {xs : Trees} → IsTeles r p ts rest xs q → depths xs ≤ 5 * r
  teles-fit no_tele = omega arith
  teles-fit {r = r} (next_tele {x = x} {xs = xs} y ys) = in_list r x xs (tele-fits y) (teles-fit ys)

  system-fits : {r : ℕ} {p q : Past} {ts rest : List Piece} {ss : Trees} → IsSystem r p ts rest ss q → depths ss ≤ 5 * r - 1
  system-fits empty_system = omega arith
  system-fits {r = r} (system {x = x} {xs = xs} y ys) =
      before r x xs (5 * r - 1) (λ k. let i = side-fits y k in omega arith) (let i = sides-fit ys in omega arith)

  sides-fit : {r : ℕ} {p q : Past} {ts rest : List Piece} {ss : Trees} → IsSides r p ts rest ss q → depths ss ≤ 5 * (r - 1)
  sides-fit no_side = omega arith
  sides-fit {r = r} (next_side {x = x} {xs = xs} y ys) =
      before (r - 1) x xs (5 * (r - 1)) (λ k. let i = side-fits y k in omega arith) (let i = sides-fit ys in omega arith)

  side-fits : {r : ℕ} {p q : Past} {ts rest : List Piece} {x : Tree} → IsSide r p ts rest x q → 1 ≤ r → depth x ≤ 5 * r - 2
  side-fits {r = r} (side {b = b} eqs y) pos = let i = below r b pos (exp-fits y) in omega arith

  block-fits : {r : ℕ} {p q : Past} {ts rest : List Piece} {ds : Trees} → IsBlock r p ts rest ds q → depths ds ≤ 5 * r + 3
  block-fits empty_block = omega arith
  block-fits {r = r} (block {x = x} {xs = xs} y ys) =
      before r x xs (5 * r + 3) (def-fits y) (let i = defs-fit ys (omega arith) in omega arith)

  def-fits : {r : ℕ} {p q : Past} {ts rest : List Piece} {x : Tree} → IsDef r p ts rest x q → 1 ≤ r → depth x ≤ 5 * r + 3
  def-fits (def xs x y) pos =
      let i = teles-fit xs in
      let j = exp-fits x pos in
      let k = exp-fits y pos in
      omega arith
  def-fits (def_where xs x y ds) pos =
      let i = teles-fit xs in
      let j = exp-fits x pos in
      let k = exp-fits y pos in
      let l = block-fits ds in
      omega arith

  defs-fit : {f r : ℕ} {p q : Past} {ts rest : List Piece} {ds : Trees} → IsDefs f r p ts rest ds q → 1 ≤ f → depths ds ≤ 5 * r + 2
  defs-fit no_def less = omega arith
  defs-fit {f = f} {r = r} (next_def {x = x} {xs = xs} y ys) less =
      before (r - f) x xs (5 * r + 2) (λ k. let i = def-fits y k in omega arith) (let i = defs-fit ys less in omega arith)

-- definitions side by side
all-fit : {f r : ℕ} {p q : Past} {ts rest : List Piece} {ds : Trees} → IsDefs f r p ts rest ds q → deepest ds ≤ 5 * r + 3
all-fit no_def = omega arith
all-fit {f = f} {r = r} (next_def {x = x} {xs = xs} y ys) =
    beside (r - f) x xs (5 * r + 3) (λ k. let i = def-fits y k in omega arith) (let i = all-fit ys in omega arith)

items-fit : {p q : Past} {ts : List Piece} {is : List Span} {ds : Trees} → IsItems p ts is ds q → deepest ds ≤ 5 * limit + 3
items-fit last_import = omega arith
items-fit (next_import x) = items-fit x
items-fit (defs {x = x} {xs = xs} y ys) = beside limit x xs (5 * limit + 3) (def-fits y) (all-fit ys)

pub module-fits : {ts : List Piece} {m : Tree} {q : Past} → IsModule ts m q → depth m ≤ 5 * limit + 4
module-fits empty_module = omega arith
module-fits (items x) = let i = items-fit x in omega arith

pub whole_exp-fits : {ts : List Piece} {e : Tree} {q : Past} → IsWholeExp ts e q → depth e ≤ 5 * limit + 2
whole_exp-fits (whole_exp x) = exp-fits x (omega arith)
