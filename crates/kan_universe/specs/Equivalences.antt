-- The equivalence `Eqv(i.E)` from `E{0}` to `E{1}`, over any language: that a line of types is an
-- equivalence, as in the paper by Cohen et al., section 7.1. Its trees are those of the table of
-- rules; that they are cut so, and what holds where two of them meet, is this project's own. `E{0}`
-- has x, `E{1}` has y, and j, k and r are names.
use Rattle.std.specs.Prelude.{ℕ, suc, List, [], ◌∷◌, ◌++◌}
use Rattle.trees.specs.declared.kind.PartKind.{PartKind}
use Rattle.trees.specs.declared.kind.PartKind.TheVariants.{Context, Term}
use Rattle.trees.specs.Language.{Language, JudgementOf, Ctx, Ty, Tm, TmEq}
use Rattle.patterns.specs.Patterns.{patterns}
use Rattle.rules.specs.Table.{at, weakened, beside, i0, i1, eq0, eq1, f0, empty, comp, lam, pi}
use Rattle.rules.specs.Table.{app, pair, fst, snd, pathp, plam, papp, fiber, equiv, eqv_u, eqv_v}
use Rattle.rules.specs.Table.{eqv_m, eqv_n, eqv_o, eqv_square, eqv}
use Rattle.recipes.specs.Statements.{Claimed, Stated, Statement, stated}

module _ (L : Language) (G : L.context) (E : L.tree) where
  -- the line over so many more entries, and its types at a formula over these
  abbrev pub line_past : ℕ → L.tree
  line_past n = L.apply E (L.push (L.shift_by (suc n)) (L.var 0))

  abbrev pub type_past : ℕ → L.tree → L.tree
  type_past n r = L.apply E (L.push (L.shift_by n) r)

  -- `f`, over so many more entries
  abbrev pub map_past : ℕ → L.tree
  map_past n =
      lam L (type_past n (i0 L)) (comp L (line_past (suc n)) (f0 L) (empty L) (L.var 0))

  abbrev pub over_x : L.context
  over_x = L.with_var G (at L E (i0 L))

  abbrev pub over_y : L.context
  over_y = L.with_var G (at L E (i1 L))

  -- `u(x,r)`, over x and r: it is x at r = 0, and `f x` at r = 1
  abbrev pub u_claims : List (JudgementOf L)
  u_claims =
      let H = L.with_name over_x in
      let r = L.var 0 in
      let u = eqv_u L (line_past 2) (L.var 1) r in
      let T = type_past 2 r in
      Tm H u T
      ∷ TmEq (L.with_face H (eq0 L r)) u (L.var 1) T
      ∷ TmEq
      (L.with_face H (eq1 L r))
      u
      (comp L (line_past 2) (f0 L) (empty L) (L.var 1))
      T
      ∷ []

  -- the map f of the equivalence
  abbrev pub f_claim : JudgementOf L
  f_claim = Tm G (map_past 0) (pi L (type_past 0 (i0 L)) (type_past 1 (i1 L)))

  -- `v(y,r)`, over y and r: it is y at r = 1
  abbrev pub v_claims : List (JudgementOf L)
  v_claims =
      let H = L.with_name over_y in
      let r = L.var 0 in
      let v = eqv_v L (line_past 2) (L.var 1) r in
      let T = type_past 2 r in
      Tm H v T ∷ TmEq (L.with_face H (eq1 L r)) v (L.var 1) T ∷ []

  -- `m(y,j,r)`, over y, j and r: it is g(y) at r = 0, v at j = 0 and u at j = 1
  abbrev pub m_claims : List (JudgementOf L)
  m_claims =
      let H = L.with_name (L.with_name over_y) in
      let r = L.var 0 in
      let j = L.var 1 in
      let y = L.var 2 in
      let g = eqv_v L (line_past 3) y (i0 L) in
      let m = eqv_m L (line_past 3) y g j r in
      let T = type_past 3 r in
      Tm H m T
      ∷ TmEq (L.with_face H (eq0 L r)) m g T
      ∷ TmEq (L.with_face H (eq0 L j)) m (eqv_v L (line_past 3) y r) T
      ∷ TmEq (L.with_face H (eq1 L j)) m (eqv_u L (line_past 3) g r) T
      ∷ []

  -- `n(y,x,c,j,r)`, over y, x, a path c from y to `f x`, j and r: it is c at r = 1, v at j = 0
  -- and u at j = 1
  abbrev pub n_claims : List (JudgementOf L)
  n_claims =
      let path = pathp L (type_past 3 (i1 L)) (L.var 1) (app L (map_past 2) (L.var 0)) in
      let with_path = L.with_var (L.with_var over_y (type_past 1 (i0 L))) path in
      let H = L.with_name (L.with_name with_path) in
      let r = L.var 0 in
      let j = L.var 1 in
      let c = L.var 2 in
      let x = L.var 3 in
      let y = L.var 4 in
      let n = eqv_n L (line_past 5) y x c j r in
      let T = type_past 5 r in
      Tm H n T
      ∷ TmEq (L.with_face H (eq1 L r)) n (papp L c j) T
      ∷ TmEq (L.with_face H (eq0 L j)) n (eqv_v L (line_past 5) y r) T
      ∷ TmEq (L.with_face H (eq1 L j)) n (eqv_u L (line_past 5) x r) T
      ∷ []

  -- `o(k)`, over y, an element z of the fiber at y, and k; and over j besides the square, with its
  -- four sides
  abbrev pub w_claims : List (JudgementOf L)
  w_claims =
      let F = fiber L (type_past 1 (i0 L)) (type_past 1 (i1 L)) (map_past 1) (L.var 0) in
      let H = L.with_name (L.with_var over_y F) in
      let J = L.with_name H in
      let j = L.var 0 in
      let k = L.var 1 in
      let z = L.var 2 in
      let y = L.var 3 in
      let line = line_past 4 in
      let g = eqv_v L line y (i0 L) in
      let o = eqv_o L line y z k in
      let w = eqv_square L line y g z j k o in
      let T = type_past 4 (i1 L) in
      Tm H (eqv_o L (line_past 3) (L.var 2) (L.var 1) (L.var 0)) (type_past 3 (i0 L))
      ∷ Tm J w T
      ∷ TmEq (L.with_face J (eq0 L k)) w (eqv_m L line y g j (i1 L)) T
      ∷ TmEq (L.with_face J (eq1 L k)) w (eqv_n L line y (fst L z) (snd L z) j (i1 L)) T
      ∷ TmEq (L.with_face J (eq0 L j)) w (eqv_v L line y (i1 L)) T
      ∷ TmEq (L.with_face J (eq1 L j)) w (eqv_u L line o (i1 L)) T
      ∷ []

  -- what the parts but the first want
  abbrev pub first_claims : List (JudgementOf L)
  first_claims = Ctx G ∷ Ty (L.with_name G) E ∷ u_claims ++ f_claim ∷ v_claims

-- the parts of each: `G E`
abbrev pub line_of_types : List PartKind
line_of_types = Context ∷ Term ∷ []

-- u, f and v
abbrev pub eqv_uv_statement : Statement
eqv_uv_statement = stated line_of_types (λ G E. record {
  wants = Ctx G ∷ Ty (patterns.with_name G) E ∷ [];
  sides = [];
  gives = u_claims patterns G E ++ f_claim patterns G E ∷ v_claims patterns G E;
})

-- m, for the centre
abbrev pub eqv_m_statement : Statement
eqv_m_statement = stated line_of_types (λ G E. record {
  wants = first_claims patterns G E;
  sides = [];
  gives = m_claims patterns G E;
})

-- n, for the contraction
abbrev pub eqv_n_statement : Statement
eqv_n_statement = stated line_of_types (λ G E. record {
  wants = first_claims patterns G E;
  sides = [];
  gives = n_claims patterns G E;
})

-- o and the square of the contraction
abbrev pub eqv_w_statement : Statement
eqv_w_statement = stated line_of_types (λ G E. record {
  wants = first_claims patterns G E ++ m_claims patterns G E ++ n_claims patterns G E;
  sides = [];
  gives = w_claims patterns G E;
})

-- the parts of an equivalence: `G T A f g m o w`
abbrev pub assemble_kinds : List PartKind
assemble_kinds = Context ∷ Term ∷ Term ∷ Term ∷ Term ∷ Term ∷ Term ∷ Term ∷ []

-- A map f from T to A is an equivalence, by its centres and contractions: over y in A the point g,
-- and over j the path m from y to `f g`; over an element z of the fiber at y, and k, the point o
-- from g to that of z, and over j the square w from m to the path of z, which goes from y to `f o`.
abbrev pub assemble_claims : (L : Language) → Stated L assemble_kinds
assemble_claims L = λ G T A f g m o w.
    let Y = L.with_var G A in
    let fibers = fiber L (weakened L T) (weakened L A) (weakened L f) (L.var 0) in
    let Z = L.with_var Y fibers in
    let K = L.with_name Z in
    let past = λ (t : L.tree) (n : ℕ). L.apply t (L.shift_by n) in
    let w_at_k = λ (r : L.tree). L.apply w (L.push (L.push (L.shift_by 1) r) (L.var 0)) in
    let centre = pair L g (plam L m) in
    let contractions = lam L fibers (plam L (pair L o (plam L w))) in
    record {
      wants =
          Ctx G
          ∷ Ty G T
          ∷ Ty G A
          ∷ Tm G f (pi L T (weakened L A))
          ∷ Tm Y g (weakened L T)
          ∷ Tm (L.with_name Y) m (past A 2)
          ∷ TmEq Y (at L m (i0 L)) (L.var 0) (weakened L A)
          ∷ TmEq Y (at L m (i1 L)) (app L (weakened L f) g) (weakened L A)
          ∷ Tm K o (past T 3)
          ∷ Tm (L.with_name K) w (past A 4)
          ∷ TmEq K (at L w (i0 L)) (L.var 2) (past A 3)
          ∷ TmEq K (at L w (i1 L)) (app L (past f 3) o) (past A 3)
          ∷ TmEq Z (at L o (i0 L)) (weakened L g) (past T 2)
          ∷ TmEq Z (at L o (i1 L)) (fst L (L.var 0)) (past T 2)
          ∷ TmEq K (w_at_k (i0 L)) (beside L m) (past A 3)
          ∷ TmEq K (w_at_k (i1 L)) (papp L (snd L (L.var 1)) (L.var 0)) (past A 3)
          ∷ [];
      sides = [];
      gives = Tm G (pair L f (lam L A (pair L centre contractions))) (equiv L T A) ∷ [];
    }

abbrev pub assemble_statement : Statement
assemble_statement = stated assemble_kinds (assemble_claims patterns)

-- `Eqv(i.E)` is an equivalence from `E{0}` to `E{1}`
abbrev pub eqv_claims : (L : Language) → Stated L line_of_types
eqv_claims L = λ G E. record {
  wants = Ctx G ∷ Ty (L.with_name G) E ∷ [];
  sides = [];
  gives = Tm G (eqv L E) (equiv L (at L E (i0 L)) (at L E (i1 L))) ∷ [];
}

abbrev pub eqv_statement : Statement
eqv_statement = stated line_of_types (eqv_claims patterns)
