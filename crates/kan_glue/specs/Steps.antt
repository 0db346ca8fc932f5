-- The steps of composition at a glued type, as in the paper by Cohen et al., section 6.2, over any
-- language. A, q, T, w and b are lines; the names of trees are those of the table of rules.
use Rattle.std.specs.Prelude.{List, [], ◌∷◌, ◌++◌}
use Rattle.trees.specs.declared.kind.PartKind.{PartKind}
use Rattle.trees.specs.declared.kind.PartKind.TheVariants.{Context, Term}
use Rattle.trees.specs.Language.{Language, JudgementOf, Ctx, IsFace, Ty, Tm, TmEq}
use Rattle.theory.specs.declared.rule.RuleName.TheVariants.{Composition}
use Rattle.theory.specs.declared.rule.CompRule.TheVariants.{CompGlue}
use Rattle.patterns.specs.Patterns.{patterns}
use Rattle.rules.specs.Table.{rule, side, cover, body, comp_of, at, weakened, i0, i1, all, comp}
use Rattle.rules.specs.Table.{app, pair, fst, snd, plam, papp, fiber, equiv, ext, pres, unglue}
use Rattle.rules.specs.Table.{glue, glue_type, glue_base}
use Rattle.recipes.specs.Statements.{Stated, Statement, stated}
use Rattle.kan_calls.specs.Unfoldings.{unfolded}

-- the parts: `G A q T w p b a`
abbrev pub lines_kinds : List PartKind
lines_kinds = Context ∷ Term ∷ Term ∷ Term ∷ Term ∷ Term ∷ Term ∷ Term ∷ []

-- `a1'`, the composition of what is unglued: here `k = comp(i.A, p, i.unglue q T w b, ..)`. It is
-- g{1} on p; and on q{1} and p the image of b{1}.
abbrev pub base_claims :
    (L : Language) → L.context → (A q T w p b a : L.tree) → List (JudgementOf L)
base_claims L G A q T w p b a =
    let k = glue_base L A q T w p b a in
    let end = at L A (i1 L) in
    Tm G k end
    ∷ TmEq (L.with_face G p) k (at L (unglue L q T w b) (i1 L)) end
    ∷ TmEq
    (L.with_face (L.with_face G (at L q (i1 L))) p)
    k
    (at L (app L (fst L w) b) (i1 L))
    end
    ∷ []

abbrev pub glue_base_claims : (L : Language) → Stated L lines_kinds
glue_base_claims L = λ G A q T w p b a.
    let of_rule = unfolded L (rule L (Composition CompGlue) G A q T w p b a) in
    record {
      wants = of_rule.wants;
      sides = of_rule.sides;
      gives = base_claims L G A q T w p b a;
    }

abbrev pub glue_base_statement : Statement
glue_base_statement = stated lines_kinds (glue_base_claims patterns)

-- `(t1', w)` on `all i.q`: the composition of b in T, and the path from k to its image by which the
-- equivalence preserves composition. It is in the fiber at k, and is b{1} with the constant path
-- on p.
abbrev pub glue_all_claims : (L : Language) → Stated L lines_kinds
glue_all_claims L = λ G A q T w p b a.
    let of_rule = unfolded L (rule L (Composition CompGlue) G A q T w p b a) in
    let k = glue_base L A q T w p b a in
    let on_all = L.with_face G (all L q) in
    let fibers = fiber L (at L T (i1 L)) (at L A (i1 L)) (at L (fst L w) (i1 L)) k in
    let preserved = pair L (comp L T p b a) (pres L T A (fst L w) p b a) in
    record {
      wants = of_rule.wants ++ base_claims L G A q T w p b a;
      sides = of_rule.sides;
      gives =
          Tm on_all preserved fibers
          ∷ TmEq
          (L.with_face on_all p)
          preserved
          (pair L (at L b (i1 L)) (plam L (weakened L k)))
          fibers
          ∷ [];
    }

abbrev pub glue_all_statement : Statement
glue_all_statement = stated lines_kinds (glue_all_claims patterns)

-- the parts of an extension: `G T A w D p c b k`
abbrev pub extend_kinds : List PartKind
extend_kinds =
    Context ∷ Term ∷ Term ∷ Term ∷ Term ∷ Term ∷ Term ∷ Term ∷ Term ∷ []

-- `(t1, alpha)`: the element of the fiber at k that is c on D and b with the constant path on p,
-- by the operation `equiv` of section 5.3
abbrev pub extend_claims : (L : Language) → Stated L extend_kinds
extend_claims L = λ G T A w D p c b k.
    let fibers = fiber L T A (fst L w) k in
    let constant = pair L b (plam L (weakened L k)) in
    let S = side L D c ∷ side L p constant ∷ [] in
    let E = ext L T A w (cover L S) (body L S) k in
    let on_D = L.with_face G D in
    let on_p = L.with_face G p in
    record {
      wants =
          Ctx G
          ∷ Ty G T
          ∷ Ty G A
          ∷ Tm G w (equiv L T A)
          ∷ Tm G k A
          ∷ Tm on_p b T
          ∷ TmEq on_p (app L (fst L w) b) k A
          ∷ Tm on_D c fibers
          ∷ TmEq (L.with_face on_D p) c constant fibers
          ∷ [];
      sides = IsFace G p ∷ IsFace G D ∷ [];
      gives =
          Tm G E fibers
          ∷ TmEq on_D E c fibers
          ∷ Tm on_p constant fibers
          ∷ TmEq on_p E constant fibers
          ∷ [];
    }

abbrev pub extend_statement : Statement
extend_statement = stated extend_kinds (extend_claims patterns)

-- the parts of the last step: `G A q T w p E g k`
abbrev pub reglue_kinds : List PartKind
reglue_kinds =
    Context ∷ Term ∷ Term ∷ Term ∷ Term ∷ Term ∷ Term ∷ Term ∷ Term ∷ []

-- `glue [q -> t1] a1`: where E is in the fiber at k on q, and k is g on p, k is corrected along the
-- path of E, `a1 = comp(j.A, [q -> papp (snd E) j, p -> g], k)`, and glued to `fst E`
abbrev pub reglue_claims : (L : Language) → Stated L reglue_kinds
reglue_claims L = λ G A q T w p E g k.
    let on_q = L.with_face G q in
    let on_p = L.with_face G p in
    let path = papp L (weakened L (snd L E)) (L.var 0) in
    let corrected =
    comp_of L (weakened L A) (side L q path ∷ side L p (weakened L g) ∷ []) k in
    record {
      wants =
          Ctx G
          ∷ Ty G A
          ∷ Ty on_q T
          ∷ Tm on_q w (equiv L T A)
          ∷ Tm G k A
          ∷ Tm on_p g A
          ∷ TmEq on_p k g A
          ∷ Tm on_q E (fiber L T A (fst L w) k)
          ∷ TmEq (L.with_name (L.with_face on_q p)) path (weakened L g) (weakened L A)
          ∷ [];
      sides = IsFace G p ∷ IsFace G q ∷ [];
      gives = Tm G (glue L q (fst L E) corrected) (glue_type L A q T w) ∷ [];
    }

abbrev pub reglue_statement : Statement
reglue_statement = stated reglue_kinds (reglue_claims patterns)
