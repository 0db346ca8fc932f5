-- Lines, squares and cubes in a line of types `i.A`, over any language, by filling and composition
-- as in the paper by Cohen et al., section 4.4. v, u, m and n are lines in it.
use Rattle.std.specs.Prelude.{List, [], ◌∷◌}
use Rattle.trees.specs.declared.kind.PartKind.{PartKind}
use Rattle.trees.specs.declared.kind.PartKind.TheVariants.{Context, Term}
use Rattle.trees.specs.Language.{Language, JudgementOf, Ctx, IsFormula, Ty, Tm, TmEq}
use Rattle.patterns.specs.Patterns.{patterns}
use Rattle.rules.specs.Table.{side, comp_of, fill_of, at, i0, i1, eq0, eq1, f0, empty, comp}
use Rattle.rules.specs.Table.{eqv_u, eqv_v}
use Rattle.recipes.specs.Statements.{Stated, Statement, stated}

-- the parts of a line: `G A x r`, where x is at the end that the line starts from
abbrev pub line_kinds : List PartKind
line_kinds = Context ∷ Term ∷ Term ∷ Term ∷ []

-- `u(x,r)` is x at r = 0, and the transport of x at r = 1
abbrev pub line_claims : (L : Language) → Stated L line_kinds
line_claims L = λ G A x r.
    let u = eqv_u L A x r in
    let A_r = at L A r in
    record {
      wants = Ctx G ∷ Ty (L.with_name G) A ∷ Tm G x (at L A (i0 L)) ∷ [];
      sides = IsFormula G r ∷ [];
      gives =
          Tm G u A_r
          ∷ TmEq (L.with_face G (eq0 L r)) u x A_r
          ∷ TmEq (L.with_face G (eq1 L r)) u (comp L A (f0 L) (empty L) x) A_r
          ∷ [];
    }

abbrev pub line_statement : Statement
line_statement = stated line_kinds (line_claims patterns)

-- `v(y,r)` is y at r = 1
abbrev pub back_claims : (L : Language) → Stated L line_kinds
back_claims L = λ G A y r.
    let v = eqv_v L A y r in
    let A_r = at L A r in
    record {
      wants = Ctx G ∷ Ty (L.with_name G) A ∷ Tm G y (at L A (i1 L)) ∷ [];
      sides = IsFormula G r ∷ [];
      gives = Tm G v A_r ∷ TmEq (L.with_face G (eq1 L r)) v y A_r ∷ [];
    }

abbrev pub back_statement : Statement
back_statement = stated line_kinds (back_claims patterns)

module _ (L : Language) (G : L.context) (A : L.tree) where
  -- where p holds, a is where the line s starts
  abbrev pub starts : (a p s : L.tree) → JudgementOf L
  starts a p s = TmEq (L.with_face G p) a (at L s (i0 L)) (at L A (i0 L))

  -- where p and q hold, the lines s and t are one
  abbrev pub overlap : (p q s t : L.tree) → JudgementOf L
  overlap p q s t = TmEq (L.with_name (L.with_face (L.with_face G p) q)) s t A

  -- where p holds, c is s{r}
  abbrev pub is_at : (r c p s : L.tree) → JudgementOf L
  is_at r c p s = TmEq (L.with_face G p) c (at L s r) (at L A r)

-- the parts of a square over a formula j: `G A j r v u a`
abbrev pub square_kinds : List PartKind
square_kinds = Context ∷ Term ∷ Term ∷ Term ∷ Term ∷ Term ∷ Term ∷ []

-- `Fill(i.A, [(j=0) -> v, (j=1) -> u], a, r)` is a at r = 0, v{r} at j = 0 and u{r} at j = 1
abbrev pub square_claims : (L : Language) → Stated L square_kinds
square_claims L = λ G A j r v u a.
    let filled = fill_of L A (side L (eq0 L j) v ∷ side L (eq1 L j) u ∷ []) a r in
    let A_r = at L A r in
    let along = L.with_name G in
    record {
      wants =
          Ctx G
          ∷ Ty along A
          ∷ Tm along v A
          ∷ Tm along u A
          ∷ Tm G a (at L A (i0 L))
          ∷ starts L G A a (eq0 L j) v
          ∷ starts L G A a (eq1 L j) u
          ∷ [];
      sides = IsFormula G j ∷ IsFormula G r ∷ [];
      gives =
          Tm G filled A_r
          ∷ TmEq (L.with_face G (eq0 L r)) filled a A_r
          ∷ is_at L G A r filled (eq0 L j) v
          ∷ is_at L G A r filled (eq1 L j) u
          ∷ [];
    }

abbrev pub square_statement : Statement
square_statement = stated square_kinds (square_claims patterns)

-- the parts of a cube over formulas j and k: `G A j k m n v u a`
abbrev pub cube_kinds : List PartKind
cube_kinds = Context ∷ Term ∷ Term ∷ Term ∷ Term ∷ Term ∷ Term ∷ Term ∷ Term ∷ []

-- `comp(i.A, [(k=0) -> m, (k=1) -> n, (j=0) -> v, (j=1) -> u], a)` is each side at its end, where
-- the four agree on the four overlaps at which both j and k are an end
abbrev pub cube_claims : (L : Language) → Stated L cube_kinds
cube_claims L = λ G A j k m n v u a.
    let along = L.with_name G in
    let S =
    side L (eq0 L k) m ∷ side L (eq1 L k) n ∷ side L (eq0 L j) v ∷ side L (eq1 L j) u ∷ [] in
    let composed = comp_of L A S a in
    record {
      wants =
          Ctx G
          ∷ Ty along A
          ∷ Tm along m A
          ∷ Tm along n A
          ∷ Tm along v A
          ∷ Tm along u A
          ∷ Tm G a (at L A (i0 L))
          ∷ starts L G A a (eq0 L k) m
          ∷ starts L G A a (eq1 L k) n
          ∷ starts L G A a (eq0 L j) v
          ∷ starts L G A a (eq1 L j) u
          ∷ overlap L G A (eq0 L k) (eq0 L j) m v
          ∷ overlap L G A (eq1 L k) (eq0 L j) n v
          ∷ overlap L G A (eq0 L k) (eq1 L j) m u
          ∷ overlap L G A (eq1 L k) (eq1 L j) n u
          ∷ [];
      sides = IsFormula G j ∷ IsFormula G k ∷ [];
      gives =
          Tm G composed (at L A (i1 L))
          ∷ is_at L G A (i1 L) composed (eq0 L k) m
          ∷ is_at L G A (i1 L) composed (eq1 L k) n
          ∷ is_at L G A (i1 L) composed (eq0 L j) v
          ∷ is_at L G A (i1 L) composed (eq1 L j) u
          ∷ [];
    }

abbrev pub cube_statement : Statement
cube_statement = stated cube_kinds (cube_claims patterns)
