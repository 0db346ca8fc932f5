-- What the derived rules state, in every language.
use Rattle.std.specs.Prelude.{List, [], ◌∷◌}
use Rattle.trees.specs.declared.kind.PartKind.{PartKind}
use Rattle.trees.specs.declared.kind.PartKind.TheVariants.{Context, Term}
use Rattle.trees.specs.Language.{Language, Ctx, Ty, Tm, TmEq, IsFormula, IsFace}
use Rattle.patterns.specs.Patterns.{patterns}
use Rattle.rules.specs.Table.{at, weakened, i0, i1, eq0, eq1, comp, pi, app, fst}
use Rattle.rules.specs.Table.{pathp, papp, fill, is_contr, contr, pres, fiber, equiv, ext}
use Rattle.recipes.specs.Statements.{Stated, Statement, stated}

-- the parts of a filling: `G A p b a r`
abbrev pub fill_kinds : List PartKind
fill_kinds = Context ∷ Term ∷ Term ∷ Term ∷ Term ∷ Term ∷ []

-- `Fill(i.A, p, i.b, a, r)` has the type `A{r}`; it is a at r = 0, the composition at r = 1, and
-- b{r} where p is.
abbrev pub filling : (L : Language) → Stated L fill_kinds
filling L = λ G A p b a r.
    let start = at L A (i0 L) in
    let filled = fill L A p b a r in
    let A_r = at L A r in
    record {
      wants =
          Ctx G
          ∷ Ty (L.with_name G) A
          ∷ Tm (L.with_name (L.with_face G p)) b A
          ∷ Tm G a start
          ∷ TmEq (L.with_face G p) a (at L b (i0 L)) start
          ∷ [];
      sides = IsFace G p ∷ IsFormula G r ∷ [];
      gives =
          Tm G filled A_r
          ∷ TmEq (L.with_face G (eq0 L r)) filled a A_r
          ∷ TmEq (L.with_face G (eq1 L r)) filled (comp L A p b a) A_r
          ∷ TmEq (L.with_face G p) filled (at L b r) A_r
          ∷ [];
    }

abbrev pub fill_statement : Statement
fill_statement = stated fill_kinds (filling patterns)

-- the parts of a contraction: `G A c p b`
abbrev pub contr_kinds : List PartKind
contr_kinds = Context ∷ Term ∷ Term ∷ Term ∷ Term ∷ []

-- Where c contracts A, `Contr(A, c, p, b)` has the type A, and is b where p is.
abbrev pub contraction : (L : Language) → Stated L contr_kinds
contraction L = λ G A c p b.
    let contracted = contr L A c p b in
    record {
      wants =
          Ctx G ∷ Ty G A ∷ Tm G c (is_contr L A) ∷ Tm (L.with_face G p) b A ∷ [];
      sides = IsFace G p ∷ [];
      gives = Tm G contracted A ∷ TmEq (L.with_face G p) contracted b A ∷ [];
    }

abbrev pub contr_statement : Statement
contr_statement = stated contr_kinds (contraction patterns)

-- the parts of a preservation: `G T A f p t t0`
abbrev pub pres_kinds : List PartKind
pres_kinds = Context ∷ Term ∷ Term ∷ Term ∷ Term ∷ Term ∷ Term ∷ []

-- `Pres(i.T, i.A, i.f, p, i.t, t0)` is a path from the composition of the images to the image of
-- the composition, and is constant at `app f{1} t{1}` where p is.
abbrev pub preservation : (L : Language) → Stated L pres_kinds
preservation L = λ G T A f p t t0.
    let start = at L T (i0 L) in
    let end = at L A (i1 L) in
    let preserved = pres L T A f p t t0 in
    let composed = comp L A p (app L f t) (app L (at L f (i0 L)) t0) in
    let image = app L (at L f (i1 L)) (comp L T p t t0) in
    let constant = app L (at L f (i1 L)) (at L t (i1 L)) in
    record {
      wants =
          Ctx G
          ∷ Ty (L.with_name G) T
          ∷ Ty (L.with_name G) A
          ∷ Tm (L.with_name G) f (pi L T (weakened L A))
          ∷ Tm (L.with_name (L.with_face G p)) t T
          ∷ Tm G t0 start
          ∷ TmEq (L.with_face G p) t0 (at L t (i0 L)) start
          ∷ [];
      sides = IsFace G p ∷ [];
      gives =
          Tm G preserved (pathp L (weakened L end) composed image)
          ∷ TmEq G (papp L preserved (i0 L)) composed end
          ∷ TmEq G (papp L preserved (i1 L)) image end
          ∷ TmEq
          (L.with_name (L.with_face G p))
          (papp L (weakened L preserved) (L.var 0))
          (weakened L constant)
          (weakened L end)
          ∷ [];
    }

abbrev pub pres_statement : Statement
pres_statement = stated pres_kinds (preservation patterns)

-- the parts of an extension: `G T A w p z a`
abbrev pub ext_kinds : List PartKind
ext_kinds = Context ∷ Term ∷ Term ∷ Term ∷ Term ∷ Term ∷ Term ∷ []

-- `Ext(T, A, w, p, z, a)` is in the fiber of the equivalence w at a, and is z where p is.
abbrev pub extension : (L : Language) → Stated L ext_kinds
extension L = λ G T A w p z a.
    let fibers = fiber L T A (fst L w) a in
    let extended = ext L T A w p z a in
    record {
      wants =
          Ctx G
          ∷ Ty G T
          ∷ Ty G A
          ∷ Tm G w (equiv L T A)
          ∷ Tm G a A
          ∷ Tm (L.with_face G p) z fibers
          ∷ [];
      sides = IsFace G p ∷ [];
      gives = Tm G extended fibers ∷ TmEq (L.with_face G p) extended z fibers ∷ [];
    }

abbrev pub ext_statement : Statement
ext_statement = stated ext_kinds (extension patterns)

-- the four, as the earlier recipes of others, by the numbers 0 to 3
abbrev pub kan_statements : List Statement
kan_statements = fill_statement ∷ contr_statement ∷ pres_statement ∷ ext_statement ∷ []
