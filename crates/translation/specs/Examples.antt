-- Some texts with their trees.
use Rattle.std.specs.Prelude.{◌≡◌, ℕ, List, [], ◌∷◌, map, codes, Some}
use Rattle.layout_lexer.specs.declared.token.Span.{Span}
use Rattle.syntax.specs.declared.formula.End.TheVariants as end
use Rattle.syntax.specs.Tree as text
use Rattle.trees.specs.Trees.{Tree, Var}
use Rattle.translation.specs.declared.fault.Cause.TheVariants.{Unbound, GlueSide}
use Rattle.translation.specs.Terms.{universe, nat, zero, pi, lam, plam, papp, natrec, f0, f1}
use Rattle.translation.specs.Terms.{eq0, eq1, join, meet, min, comp, sys, empty}
use Rattle.translation.specs.Scopes.{Variable, Interval, Scope}
use Rattle.translation.specs.Translated.{Translated, done}
use Rattle.translation.specs.Names.{Word}
use Rattle.translation.specs.Texts.{reading, block, defs}

-- Names are cut from one text, each by its place.
abbrev pub bytes : List ℕ
bytes = codes "xyij_natreczero"

abbrev pub piece : ℕ → ℕ → Span
piece s e = record { start = s; end = e }

abbrev pub x : Span
x = piece 0 1

abbrev pub y : Span
y = piece 1 2

abbrev pub i : Span
i = piece 2 3

abbrev pub j : Span
j = piece 3 4

abbrev pub nameless : Span
nameless = piece 4 5

abbrev pub nat_name : text.Tree
nat_name = text.Name (piece 5 8)

abbrev pub natrec_name : text.Tree
natrec_name = text.Name (piece 5 11)

abbrev pub zero_name : text.Tree
zero_name = text.Name (piece 11 15)

abbrev pub all : Span
all = piece 0 15

abbrev pub term : text.Tree → Scope Word → Translated Word Tree
term e G = (reading bytes e).term G

abbrev pub one : text.Tree → text.Trees
one e = text.more e text.none

abbrev pub tele : List Span → text.Tree → text.Trees
tele names type = one (text.Tele names type)

-- `\(x y : U) -> x`
abbrev pub Outer : Type 0
Outer =
    term (text.Lambda all (tele (x ∷ y ∷ []) (text.Universe all)) (text.Name x)) []
    ≡ done (lam universe (lam universe (Var 1)))

-- `(x : U) -> x -> x`
abbrev pub Arrows : Type 0
Arrows =
    term (text.Pi all (tele (x ∷ []) (text.Universe all))
    (text.Arrow all (text.Name x) (text.Name x))) []
    ≡ done (pi universe (pi (Var 0) (Var 1)))

-- `natrec (\(x y : nat) -> x) zero zero zero`
abbrev pub Motive : Type 0
Motive =
    term (text.Apply all natrec_name
    (text.more (text.Lambda all (tele (x ∷ y ∷ []) nat_name) (text.Name x))
    (text.more zero_name (text.more zero_name (one zero_name))))) []
    ≡ done (natrec (lam nat (Var 1)) zero zero zero)

-- `comp (<i> nat) x [ (i=0)(j=1) -> x, -> <_> x ]`, over names i, j and a variable x
abbrev pub Composition : Type 0
Composition =
    term (text.Comp all (text.PathLambda all (i ∷ []) nat_name) (text.Name x)
    (text.more (text.Side ((record { name = i; end = end.Zero })
    ∷ (record { name = j; end = end.One }) ∷ []) (text.Name x))
    (one (text.Side [] (text.PathLambda all (nameless ∷ []) (text.Name x))))))
    (Variable (codes "x") nat ∷ Interval (codes "j") ∷ Interval (codes "i") ∷ [])
    ≡ done (comp nat (join (meet (eq0 (Var 2)) (eq1 (Var 1))) (join f1 f0))
    (sys (meet (eq0 (Var 3)) (eq1 (Var 2))) (join f1 f0) (papp (Var 1) (Var 0))
    (sys f1 f0 (Var 1) empty))
    (Var 0))

-- `fill x zero []`, over a variable x
abbrev pub Filling : Type 0
Filling =
    term (text.Fill all (text.Name x) zero_name text.none) (Variable (codes "x") universe ∷ [])
    ≡ done (plam (comp (papp (Var 2) (min (Var 1) (Var 0))) (join f0 (join (eq0 (Var 0)) f0))
    (sys f0 (join (eq0 (Var 1)) f0) empty (sys (eq0 (Var 1)) f0 zero empty)) zero))

-- `Glue nat [ -> (y) ]`: the name is refused, and the side, which begins first
abbrev pub NoPair : Type 0
NoPair =
    (term (text.GlueType all nat_name
    (one (text.Side [] (text.Brackets (piece 0 3) (one (text.Name y)))))) []).refusal
    ≡ Some (record { at = 0; cause = GlueSide })

-- `x (y : let i : U = nat in i) : i = x`: `i` is stated before `x`, once, and neither is in scope
abbrev pub Local : Type 0
Local =
    let i_def : text.Tree = text.Def i text.none (text.Universe all) nat_name text.none in
    let made : Translated Word (Scope Word) = block bytes (defs bytes (one (text.Def x
    (tele (y ∷ []) (text.Let all (one i_def) (text.Name i)))
    (text.Name i) (text.Name x) text.none))) [] in
    (map (λ d. d.name) made.stated ≡ codes "i" ∷ codes "x" ∷ [])
    × (made.refusal ≡ Some (record { at = 0; cause = Unbound }))
