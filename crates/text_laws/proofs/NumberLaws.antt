-- The numbers of a shape are those that a code of it states.
use Rattle.std.proofs.Common.{◌≡◌, ℕ, List, [], ◌∷◌, ◌++◌, map, replicate, refl, ◌∙◌, ap, append_assoc}
use Rattle.std.proofs.lemmas.List.{map-append}
use Rattle.syntax.specs.declared.formula.End.{End}
use Rattle.syntax.specs.declared.formula.End.TheVariants as end
use Rattle.trees.specs.Trees.{Tree, Var}
use Rattle.trees.specs.Judgements.{Context}
use Rattle.codes.specs.declared.formula.Formula.{Formula, Zero as Zero', One as One', Bound as Bound', Negate', Meet', Join'}
use Rattle.codes.specs.declared.formula.Equation.{Equation}
use Rattle.codes.specs.declared.code.Code.{Code, Bound as Bound', Defined as Defined', Let', Universe as Universe', Nat as Nat', Zero as Zero', Suc'}
use Rattle.codes.specs.declared.code.Code.{NatRec', Pi', Sigma', Lambda', PathLambda', Apply', Project', Tuple', PathP', Comp', Fill', Transport'}
use Rattle.codes.specs.declared.code.Code.{GlueType', GlueTerm', Unglue'}
use Rattle.codes.specs.declared.code.Code.{Row_of-Code, end_of-Code, more_of-Code, Row_of-CodeDef, end_of-CodeDef, more_of-CodeDef}
use Rattle.codes.specs.declared.code.Code.{Row_of-Binder, end_of-Binder, more_of-Binder, Row_of-Element, end_of-Element, more_of-Element}
use Rattle.codes.specs.declared.code.Code.{Row_of-Side, end_of-Side, more_of-Side, Row_of-LineSide, end_of-LineSide, more_of-LineSide}
use Rattle.codes.specs.declared.code.Code.{Row_of-PairSide, end_of-PairSide, more_of-PairSide}
use Rattle.codes.specs.declared.code.Element.{Argument as Argument', At as At'}
use Rattle.codes.specs.declared.code.Opened.{Opened, Under as Under', Applied as Applied'}
use Rattle.codes.specs.declared.code.CodeDef.{CodeDef, CodeDef'}
use Rattle.codes.specs.Codes.{formula, equations, both, meaning, at_name, at_variable, components, binders, elements, term_sides, line_sides}
use Rattle.codes.specs.Codes.{pair_sides, definition, locals, definitions, side_of}
use Rattle.codes.specs.Shapes.{Shapes, none, more, shape, opened_shape, component_shapes, binder_shapes, element_shapes, term_side_shapes}
use Rattle.codes.specs.Shapes.{line_side_shapes, pair_side_shapes, def_shape, local_shapes, listed}
use Rattle.translation.specs.Terms.{nat, lifted, pi, sig, lam}
use Rattle.translation.specs.Scopes.{Scope, Variable, Interval, context_of}
use Rattle.translation.specs.Translated.{Stated, done, states}
use Rattle.translation.specs.Forms.{Means, Binder, all, over, under, under_names, apply_all, tuple, equation, side, system}
use Rattle.text_laws.specs.Numbers.{numbers_before, numbers_in}

-- these are numbered so, before others
pub record Counts (ds : List (Stated ℕ)) (f : List ℕ → List ℕ) : Type 0 where
  pub counted : (r : List ℕ) → map (λ d. d.name) ds ++ r ≡ f r

nothing : Counts [] (λ r. r)
nothing = record { counted = λ r. refl }

-- one after another
then : {xs ys : List (Stated ℕ)} {f g : List ℕ → List ℕ} → Counts xs f → Counts ys g → Counts (xs ++ ys) (λ r. f (g r))
then {xs = xs} {ys = ys} {f = f} h i = record {
  counted = λ r.
      ap (λ ns. ns ++ r) (map-append (λ d. d.name) xs ys)
      ∙ append_assoc _ _ r
      ∙ h.counted (map (λ d. d.name) ys ++ r)
      ∙ ap f (i.counted r);
}

-- formulas and equations state nothing

formula-counts : (f : Formula) (G : Scope ℕ) → Counts (formula f G).stated (λ r. r)
formula-counts (Zero' s) G = nothing
formula-counts (One' s) G = nothing
formula-counts (Bound' s k) G = nothing
formula-counts (Negate' s p f) G = then (formula-counts f G) nothing
formula-counts (Meet' s p f q g) G = then (formula-counts f G) (then (formula-counts g G) nothing)
formula-counts (Join' s p f q g) G = then (formula-counts f G) (then (formula-counts g G) nothing)

equation-counts : (e : End) (t : Tree) (G : Scope ℕ) → Counts (equation e (λ G. done t) G).stated (λ r. r)
equation-counts end.Zero t G = then nothing nothing
equation-counts end.One t G = then nothing nothing

equations-count : (es : List Equation) (G : Scope ℕ) → Counts (all (equations es) G).stated (λ r. r)
equations-count [] G = nothing
equations-count (e ∷ es) G = then (equation-counts e.end (Var e.index) G) (then (equations-count es G) nothing)

side-counts : {A : Type 0} (es : List Equation) (value : Means ℕ A) {f : List ℕ → List ℕ}
    → ((G : Scope ℕ) → Counts (value G).stated f) → (G : Scope ℕ) → Counts (side (side_of es value) G).stated f
side-counts es value h G = then (equations-count es G) (then (h _) nothing)

-- binders

abbrev BindersCount : List (Binder ℕ) → Shapes → Type 0
BindersCount [] none = Unit {0}
BindersCount (b ∷ bs) (more c cs) = ((G : Scope ℕ) → Counts (b.type G).stated (numbers_before c)) × BindersCount bs cs
BindersCount _ _ = ⊥

over-counts : {B : Type 0} (make : Tree → B → B) (names : List ℕ) (A : Tree) (inner : Means ℕ B) {f : List ℕ → List ℕ}
    → ((G : Scope ℕ) → Counts (inner G).stated f) → (G : Scope ℕ) → Counts (over make names A inner G).stated f
over-counts make [] A inner h G = h G
over-counts make (x ∷ xs) A inner h G = then (over-counts make xs (lifted A) inner h (Variable x A ∷ G)) nothing

under-counts : {B : Type 0} (make : Tree → B → B) (bs : List (Binder ℕ)) (cs : Shapes) (inner : Means ℕ B) {f : List ℕ → List ℕ}
    → BindersCount bs cs → ((G : Scope ℕ) → Counts (inner G).stated f) → (G : Scope ℕ) → Counts (under make bs inner G).stated (λ r. numbers_in cs (f r))
under-counts make [] none inner h i G = i G
under-counts make (b ∷ bs) (more c cs) inner h i G =
    then (h.0 G) (over-counts make b.names _ (under make bs inner) (under-counts make bs cs inner h.1 i) G)
under-counts make [] (more c cs) inner h i G = absurd h
under-counts make (b ∷ bs) none inner h i G = absurd h

under_names-counts : (names : List ℕ) (inner : Means ℕ Tree) {f : List ℕ → List ℕ}
    → ((G : Scope ℕ) → Counts (inner G).stated f) → (G : Scope ℕ) → Counts (under_names names inner G).stated f
under_names-counts [] inner h G = h G
under_names-counts (i ∷ is) inner h G = then (under_names-counts is inner h (Interval i ∷ G)) nothing

stated : (n : ℕ) (G : Context) (A t : Tree) → Counts (states (record { name = n; context = G; type = A; body = t })).stated (λ r. n ∷ r)
stated n G A t = record { counted = λ r. refl }

-- codes

mutual
  pub code-counts : (c : Code) (G : Scope ℕ) → Counts (meaning c G).stated (numbers_before (shape c))
  code-counts (Bound' s k) G = nothing
  code-counts (Defined' s n) G = nothing
  code-counts (Let' s m ds p c) G = then (locals-count ds G) (code-counts c _)
  code-counts (Universe' s) G = nothing
  code-counts (Nat' s) G = nothing
  code-counts (Zero' s) G = nothing
  code-counts (Suc' s p c) G = then (code-counts c G) nothing
  code-counts (NatRec' s p m q a r b t n) G =
      then (variable-counts m G) (then (code-counts a G) (then (code-counts b G) (then (code-counts n G) nothing)))
  code-counts (Pi' s m bs p c) G = under-counts pi (binders bs) (binder_shapes bs) (meaning c) (binders-count bs) (code-counts c) G
  code-counts (Sigma' s m bs p c) G = under-counts sig (binders bs) (binder_shapes bs) (meaning c) (binders-count bs) (code-counts c) G
  code-counts (Lambda' s m bs p c) G = under-counts lam (binders bs) (binder_shapes bs) (meaning c) (binders-count bs) (code-counts c) G
  code-counts (PathLambda' s n p c) G = under_names-counts (replicate n 0) (meaning c) (code-counts c) G
  code-counts (Apply' s p c m es) G = then (code-counts c G) (elements-count es _ G)
  code-counts (Project' s p c ps) G = then (code-counts c G) nothing
  code-counts (Tuple' s m cs) G = components-count cs G
  code-counts (PathP' s p l q a r b) G = then (name-counts l G) (then (code-counts a G) (then (code-counts b G) nothing))
  code-counts (Comp' s p l q a m ss) G = then (name-counts l G) (then (code-counts a G) (then (line_sides-count ss G) nothing))
  code-counts (Fill' s p l q a m ss) G = then (name-counts l G) (then (code-counts a G) (then (line_sides-count ss G) nothing))
  code-counts (Transport' s p l q a) G = then (name-counts l G) (then (code-counts a G) (then nothing nothing))
  code-counts (GlueType' s p a m ss) G = then (code-counts a G) (then (pair_sides-count ss G) nothing)
  code-counts (GlueTerm' s p a m ss) G = then (code-counts a G) (then (term_sides-count ss G) nothing)
  code-counts (Unglue' s p a m ss) G = then (code-counts a G) (then (pair_sides-count ss G) nothing)

  name-counts : (l : Opened) (G : Scope ℕ) → Counts (at_name l G).stated (numbers_before (opened_shape l))
  name-counts (Under' s c) G = code-counts c (Interval 0 ∷ G)
  name-counts (Applied' s c) G = then (code-counts c G) nothing

  variable-counts : (l : Opened) (G : Scope ℕ) → Counts (at_variable l G).stated (numbers_before (opened_shape l))
  variable-counts (Under' s c) G = code-counts c (Variable 0 nat ∷ G)
  variable-counts (Applied' s c) G = then (code-counts c G) nothing

  components-count : {m : _} (cs : Row_of-Code m) (G : Scope ℕ) → Counts (tuple (components cs) G).stated (numbers_in (component_shapes cs))
  components-count end_of-Code G = nothing
  components-count (more_of-Code c end_of-Code) G = code-counts c G
  components-count (more_of-Code c (more_of-Code d rest)) G =
      then (code-counts c G) (then (components-count (more_of-Code d rest) G) nothing)

  binders-count : {m : _} (bs : Row_of-Binder m) → BindersCount (binders bs) (binder_shapes bs)
  binders-count end_of-Binder = tt
  binders-count (more_of-Binder n c rest) = (code-counts c, binders-count rest)

  elements-count : {m : _} (es : Row_of-Element m) (t : Tree) (G : Scope ℕ) → Counts (apply_all t (elements es) G).stated (numbers_in (element_shapes es))
  elements-count end_of-Element t G = nothing
  elements-count (more_of-Element (Argument' c) rest) t G = then (code-counts c G) (elements-count rest _ G)
  elements-count (more_of-Element (At' s f) rest) t G = then (formula-counts f G) (elements-count rest _ G)

  term_sides-count : {m : _} (ss : Row_of-Side m) (G : Scope ℕ) → Counts (system (term_sides ss) G).stated (numbers_in (term_side_shapes ss))
  term_sides-count end_of-Side G = nothing
  term_sides-count (more_of-Side es s c rest) G =
      then (side-counts es.items (meaning c) (code-counts c) G) (then (term_sides-count rest G) nothing)

  line_sides-count : {m : _} (ss : Row_of-LineSide m) (G : Scope ℕ) → Counts (system (line_sides ss) G).stated (numbers_in (line_side_shapes ss))
  line_sides-count end_of-LineSide G = nothing
  line_sides-count (more_of-LineSide es l rest) G =
      then (side-counts es.items (at_name l) (name-counts l) G) (then (line_sides-count rest G) nothing)

  pair_sides-count : {m : _} (ss : Row_of-PairSide m) (G : Scope ℕ) → Counts (system (pair_sides ss) G).stated (numbers_in (pair_side_shapes ss))
  pair_sides-count end_of-PairSide G = nothing
  pair_sides-count (more_of-PairSide es s T w rest) G =
      then (side-counts es.items (both (meaning T) (meaning w)) (λ H. then (code-counts T H) (then (code-counts w H) nothing)) G)
      (then (pair_sides-count rest G) nothing)

  definition-counts : (d : CodeDef) (G : Scope ℕ) → Counts (definition d G).stated (numbers_before (def_shape d))
  definition-counts (CodeDef' x n m bs t c) G =
      then (under-counts (λ A s. (pi A s.0, lam A s.1)) (binders bs) (binder_shapes bs) _ (binders-count bs)
      (λ H. then (code-counts t H) (then (then nothing (code-counts c H)) nothing)) G)
      (then (stated n (context_of G) _ _) nothing)

  locals-count : {m : _} (ds : Row_of-CodeDef m) (G : Scope ℕ) → Counts (locals ds G).stated (numbers_in (local_shapes ds))
  locals-count end_of-CodeDef G = nothing
  locals-count (more_of-CodeDef d rest) G = then (definition-counts d G) (locals-count rest _)

pub defs-count : (ds : List CodeDef) (G : Scope ℕ) → Counts (definitions ds G).stated (numbers_in (listed def_shape ds))
defs-count [] G = nothing
defs-count (d ∷ ds) G = then (definition-counts d G) (defs-count ds _)
