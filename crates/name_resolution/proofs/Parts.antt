-- Formulas and equations, from their parts.
use Rattle.std.proofs.Common.{◌≡◌, ◌+◌, ℕ, Result, Ok, Err, IfOk, List, [], ◌∷◌, ◌++◌, sym, subst, ap, ◌∙◌}
use Rattle.std.proofs.lemmas.List.{map-append}
use Rattle.syntax.specs.declared.formula.End.{End}
use Rattle.syntax.specs.declared.formula.End.TheVariants as end
use Rattle.syntax.specs.declared.formula.Equation.{Equation as EquationOf}
use Rattle.trees.specs.Trees.{Tree, Var}
use Rattle.translation.specs.Terms.{eq0, eq1}
use Rattle.translation.specs.Translated.{done}
use Rattle.translation.specs.Names.{Word}
use Rattle.translation.specs.Forms.{Means, all, equation}
use Rattle.translation.specs.Texts.{equations as spelt_equations, name_at}
use Rattle.codes.specs.declared.formula.Formula.{Formula}
use Rattle.codes.specs.declared.formula.Equation.{Equation}
use Rattle.codes.specs.Codes.{formula as meaning, equations as meant}
use Rattle.syntax.specs.Tree as text
use Rattle.codes.specs.FormulaShapes.{FormulaShape, formula_shape}
use Rattle.scopes.specs.Steps.{State, Keeps, Resolves}
use Rattle.scopes.proofs.Moving.{resolves_one}
use Rattle.scopes.proofs.Lists.{resolves_map_more}
use Rattle.name_resolution.specs.Named.{as_index, equation_in, equations_in, formula_in, found_at}
use Rattle.name_resolution.specs.Spelt.{index_of}

-- what a call answers means what was resolved
pub returned : {E : Type 0} {s t : State} {f h : Means Word Tree} {g : Means ℕ Tree} (r : Result Formula E)
    → IfOk r (λ c. meaning c ≡ g) → h ≡ f → Resolves s t f g → IfOk r (λ c. Resolves s t h (meaning c))
returned {s = s} {t = t} {f = f} {h = h} (Ok c) e spelt k = subst (λ x. Resolves s t x (meaning c)) (sym spelt) (subst (λ m. Resolves s t f m) (sym e) k)
returned (Err x) e spelt k = tt

equation_resolves : (e : End) (s t : State) (f : Means Word Tree) (g : Means ℕ Tree) → Resolves s t f g → Resolves s t (equation e f) (equation e g)
equation_resolves end.Zero s t f g h = resolves_one eq0 s t f g h
equation_resolves end.One s t f g h = resolves_one eq1 s t f g h

-- one more equation
pub equations_step : (bytes : List ℕ) (s t u : State) (before after : List EquationOf) (ys zs : List Equation) (x : EquationOf) (k : ℕ)
    → Resolves s t (all (spelt_equations bytes before)) (all (meant ys)) → Resolves t u (name_at bytes x.name) (index_of k)
    → after ≡ before ++ x ∷ [] → zs ≡ ys ++ record { index = k; end = x.end } ∷ []
    → Resolves s u (all (spelt_equations bytes after)) (all (meant zs))
equations_step bytes s t u before after ys zs x k first name e d =
    let y : Equation = record { index = k; end = x.end } in
    subst (λ xs. Resolves s u (all (spelt_equations bytes xs)) (all (meant zs))) (sym e)
    (subst (λ es. Resolves s u (all (spelt_equations bytes (before ++ x ∷ []))) (all (meant es))) (sym d)
    (resolves_map_more (λ (a : EquationOf). equation a.end (name_at bytes a.name)) (λ (b : Equation). equation b.end (λ G. done (Var b.index))) s t u before ys x y first
    (equation_resolves x.end t u (name_at bytes x.name) (index_of k) name)))

pub shaped_as : {E : Type 0} {k h : FormulaShape} (r : Result Formula E) → IfOk r (λ f. formula_shape f ≡ k) → k ≡ h → IfOk r (λ f. formula_shape f ≡ h)
shaped_as (Ok f) e i = e ∙ i
shaped_as (Err x) e i = tt

-- among the names that are in scope afterwards too
pub among_same : (bytes : List ℕ) {s t : State} → Keeps s t → (f : text.Formula) → formula_in bytes t.names f ≡ formula_in bytes s.names f
among_same bytes k f = ap (λ ns. formula_in bytes ns f) k.names

-- one more equation, where its index is that which was found
pub equations_named_more : (bytes : List ℕ) (s t : State) (before after : List EquationOf) (ys zs : List Equation) (x : EquationOf) (k : ℕ)
    → ys ≡ equations_in bytes s.names before → t.names ≡ s.names → k ≡ as_index (found_at bytes t.names x.name)
    → after ≡ before ++ x ∷ [] → zs ≡ ys ++ record { index = k; end = x.end } ∷ [] → zs ≡ equations_in bytes s.names after
equations_named_more bytes s t before after ys zs x k named same found e d =
    let index = found ∙ ap (λ ns. as_index (found_at bytes ns x.name)) same in
    d ∙ ap (λ qs. qs ++ record { index = k; end = x.end } ∷ []) named
    ∙ ap (λ n. equations_in bytes s.names before ++ record { index = n; end = x.end } ∷ []) index
    ∙ sym (map-append (equation_in bytes s.names) before (x ∷ []))
    ∙ sym (ap (equations_in bytes s.names) e)
