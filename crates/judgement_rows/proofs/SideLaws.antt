-- Systems of codes, over the rows of their faces and values.
use Rattle.std.proofs.Common.{◌≡◌, ℕ, List, [], ◌∷◌, ◌++◌, map, refl, sym, ap, ap₂, ◌∙◌}
use Rattle.syntax.specs.declared.formula.End.{End}
use Rattle.syntax.specs.declared.formula.End.TheVariants as end
use Rattle.trees.specs.declared.op.Op.TheVariants as op
use Rattle.trees.specs.Trees.{Tree, Var, Make, trees_of}
use Rattle.translation.specs.Terms.{lifted, meet}
use Rattle.translation.specs.Systems.{On, on, cover, body, line_body, meet_of}
use Rattle.translation.specs.Scopes.{Scope, Face}
use Rattle.translation.specs.Translated.{done, ◌>>=◌}
use Rattle.translation.specs.Forms.{Means, all, side, equation}
use Rattle.codes.specs.declared.formula.Equation.{Equation}
use Rattle.codes.specs.declared.formula.Formula.{Formula, Zero as Zero', One as One', Bound as Bound', Negate', Meet', Join'}
use Rattle.codes.specs.Codes.{equations, side_of, formula}
use Rattle.codes.proofs.Logs.{then_assoc, then_same}
use Rattle.form_rows.specs.Meant.{nest_all}
use Rattle.form_rows.specs.Systems.{cover_of, body_of}
use Rattle.form_rows.specs.Formulas.{formula_tree, equation_tree, face_tree}

-- formulas and faces mean the same in every scope

pub formula_is : (f : Formula) (G : Scope ℕ) → formula f G ≡ done (formula_tree f)
formula_is (Zero' s) G = refl
formula_is (One' s) G = refl
formula_is (Bound' s k) G = refl
formula_is (Negate' s p f) G = rw (formula_is f G) refl
formula_is (Meet' s p f q g) G = rw (formula_is f G, formula_is g G) refl
formula_is (Join' s p f q g) G = rw (formula_is f G, formula_is g G) refl

equation_is : (e : End) (k : ℕ) (G : Scope ℕ) → equation e (λ H. done (Var k)) G ≡ done (equation_tree (record { index = k; end = e }))
equation_is end.Zero k G = refl
equation_is end.One k G = refl

equations_are : (es : List Equation) (G : Scope ℕ) → all (equations es) G ≡ done (map equation_tree es)
equations_are [] G = refl
equations_are (e ∷ es) G = rw (equation_is e.end e.index G, equations_are es G) refl

meet_is : (ts : List Tree) → meet_of ts ≡ nest_all op.Meet op.F1 ts
meet_is [] = refl
meet_is (t ∷ []) = refl
meet_is (t ∷ u ∷ ts) = ap (meet t) (meet_is (u ∷ ts))

pub side_is : {A : Type 0} (es : List Equation) (value : Means ℕ A) (G : Scope ℕ)
    → side (side_of es value) G ≡ (value (Face (face_tree es) ∷ G) >>= λ a. done (on (face_tree es) a))
side_is es value G =
    ap (λ m. m >>= λ ps. let p = meet_of ps in value (Face p ∷ G) >>= λ a. done (on p a)) (equations_are es G)
    ∙ ap (λ p. value (Face p ∷ G) >>= λ a. done (on p a)) (meet_is (map equation_tree es))

-- texts in order, and one more

pub all_push : {A : Type 0} (fs : List (Means ℕ A)) (f : Means ℕ A) (G : Scope ℕ)
    → (all fs G >>= λ xs. f G >>= λ x. done (xs ++ x ∷ [])) ≡ all (fs ++ f ∷ []) G
all_push [] f G = refl
all_push (e ∷ es) f G =
    let x = (e G).value in
    let rest = all es G in
    then_assoc (e G) (λ v. rest >>= λ xs. done (v ∷ xs)) (λ xs. f G >>= λ y. done (xs ++ y ∷ []))
    ∙ then_same (e G) (λ v. (rest >>= λ xs. done (v ∷ xs)) >>= λ xs. f G >>= λ y. done (xs ++ y ∷ [])) (λ v. all (es ++ f ∷ []) G >>= λ xs. done (v ∷ xs))
    (then_assoc rest (λ xs. done (x ∷ xs)) (λ xs. f G >>= λ y. done (xs ++ y ∷ []))
    ∙ then_same rest (λ xs. f G >>= λ y. done (x ∷ (xs ++ y ∷ []))) (λ xs. (f G >>= λ y. done (xs ++ y ∷ [])) >>= λ zs. done (x ∷ zs))
    (sym (then_assoc (f G) (λ y. done (rest.value ++ y ∷ [])) (λ zs. done (x ∷ zs))))
    ∙ sym (then_assoc rest (λ xs. f G >>= λ y. done (xs ++ y ∷ [])) (λ zs. done (x ∷ zs)))
    ∙ ap (λ m. m >>= λ zs. done (x ∷ zs)) (all_push es f G))

-- covers and bodies by their faces and values

pub cover_is : {A : Type 0} (ss : List (On A)) → cover_of (map (λ (s : On A). s.face) ss) ≡ cover ss
cover_is [] = refl
cover_is (s ∷ ss) = ap (λ c. Make op.Join (trees_of (s.face ∷ c ∷ []))) (cover_is ss)

pub body_is : (ss : List (On Tree)) → body_of (map (λ (s : On Tree). s.face) ss) (map (λ (s : On Tree). s.value) ss) ≡ body ss
body_is [] = refl
body_is (s ∷ ss) = ap₂ (λ c b. Make op.Sys (trees_of (s.face ∷ c ∷ s.value ∷ b ∷ []))) (cover_is ss) (body_is ss)

pub line_body_is : (ss : List (On Tree)) → body_of (map lifted (map (λ (s : On Tree). s.face) ss)) (map (λ (s : On Tree). s.value) ss) ≡ line_body ss
line_body_is ss =
    ap₂ body_of (faces_lifted ss) (values_same ss) ∙ body_is (map (λ s. on (lifted s.face) s.value) ss)
  where
    faces_lifted : (xs : List (On Tree)) → map lifted (map (λ (s : On Tree). s.face) xs) ≡ map (λ (s : On Tree). s.face) (map (λ (s : On Tree). on (lifted s.face) s.value) xs)
    faces_lifted [] = refl
    faces_lifted (x ∷ xs) = ap (λ ys. lifted x.face ∷ ys) (faces_lifted xs)

    values_same : (xs : List (On Tree)) → map (λ (s : On Tree). s.value) xs ≡ map (λ (s : On Tree). s.value) (map (λ (s : On Tree). on (lifted s.face) s.value) xs)
    values_same [] = refl
    values_same (x ∷ xs) = ap (λ ys. x.value ∷ ys) (values_same xs)
