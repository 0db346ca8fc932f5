-- The grammar, one constructor for each production.
--
-- `IsExp r p ts rest e q`: the tokens `ts` begin with an expression, whose tree is `e`, and `rest`
-- comes after it. `r` is the room of the place: 513 less its depth, so that 0 is too deep. What
-- stands one deeper has room `r - 1`; so has, in a list, what comes after what has room `r`. `p`
-- and `q` are what is known before the expression and after it: the end of the last token, and the
-- first place that is too deep, if there was one.
--
-- What stands too deep is no part of the tree: a list leaves it out, and elsewhere a name at 0
-- stands in its place.
use Rattle.std.specs.Prelude.{ℕ, zero, suc, ◌-◌, ◌≡◌, List, [], ◌∷◌, ◌++◌, Option, Some, None}
use Rattle.layout_lexer.specs.declared.token.Span.{Span}
use Rattle.syntax.specs.declared.formula.End.{End}
use Rattle.syntax.specs.declared.formula.End.TheVariants as E
use Rattle.syntax.specs.declared.formula.Equation.{Equation}
use Rattle.syntax.specs.declared.formula.Projection.{Projection}
use Rattle.syntax.specs.declared.formula.Projection.TheVariants as P
use Rattle.syntax.specs.Tree.{Formula, Zero, One, Variable, Negate, Meet, Join, Tree, Let, Lambda}
use Rattle.syntax.specs.Tree.{PathLambda, Pi, Sigma, Arrow, Apply, PathP, Comp, Fill, Transport}
use Rattle.syntax.specs.Tree.{GlueType, GlueTerm, Unglue, Project, Universe, Name, Brackets, At}
use Rattle.syntax.specs.Tree.{Tele, Side, Def, Module, Trees, none, more}
use Rattle.productions.specs.Words.{Half, First, Second, Composing, Composed, Filled, Gluing}
use Rattle.productions.specs.Words.{GluedType, GluedTerm, Unglued, PathWord, ComposingWord}
use Rattle.productions.specs.Words.{TransportWord, PairingWord, GluingWord, Word, Open, Next, Close}
use Rattle.productions.specs.Words.{LeftParen, RightParen, LeftBracket, RightBracket, Comma, Colon}
use Rattle.productions.specs.Words.{Equals, AtSign, Star, Less, Greater, Backslash, Minus, To, And}
use Rattle.productions.specs.Words.{Or, Dot, EndOf, ModuleWord, WhereWord, ImportWord, LetWord}
use Rattle.productions.specs.Words.{InWord, Form, UniverseWord, Identifier, Piece, piece, span}
use Rattle.productions.specs.declared.past.Past.{Past}

-- the room of depth 1; depth 512 has room 1
abbrev pub limit : ℕ
limit = 512

abbrev pub note : ℕ → ℕ → Option ℕ → Option ℕ
note r s (Some p) = Some p
note zero s None = Some s
note (suc r) s None = None

-- a token from s to e that begins something at room r
abbrev pub begin : ℕ → ℕ → ℕ → Past → Past
begin r s e p = record { end = e; deep = note r s p.deep }

-- a token to e that begins nothing
abbrev pub skip : ℕ → Past → Past
skip e p = record { end = e; deep = p.deep }

-- where the tokens start
abbrev pub start_of : List Piece → ℕ
start_of [] = 0
start_of (piece k s e ∷ ts) = s

-- from s to the last token
abbrev pub from : ℕ → Past → Span
from s p = span s p.end

-- what stands too deep is no part of the tree
abbrev pub kept : ℕ → Tree → Trees → Trees
kept zero x xs = xs
kept (suc r) x xs = more x xs

abbrev pub shallow : ℕ → Tree → Tree
shallow zero x = Name (span 0 0)
shallow (suc r) x = x

abbrev pub shallow_formula : ℕ → Formula → Formula
shallow_formula zero f = Zero (span 0 0)
shallow_formula (suc r) f = f

-- an application to no element, and no projection, are the expression alone
abbrev pub applied : Span → Tree → Trees → Tree
applied s f none = f
applied s f (more x xs) = Apply s f (more x xs)

abbrev pub projected : Span → Tree → List Projection → Tree
projected s e [] = e
projected s e (h ∷ hs) = Project s e (h ∷ hs)

abbrev pub half : Half → Span → Projection
half First s = P.First s
half Second s = P.Second s

abbrev pub constant : End → Span → Formula
constant E.Zero s = Zero s
constant E.One s = One s

abbrev pub composing : Composing → Span → Tree → Tree → Trees → Tree
composing Composed = Comp
composing Filled = Fill

abbrev pub gluing : Gluing → Span → Tree → Trees → Tree
gluing GluedType = GlueType
gluing GluedTerm = GlueTerm
gluing Unglued = Unglue

abbrev pub equation : Span → End → Equation
equation n x = record { name = n; end = x }

-- { id }, where the next one has room r
pub data IsNames : ℕ → Past → List Piece → List Piece → List Span → Past → Type 0 where
  no_name : {r : ℕ} {p : Past} {ts : List Piece} → IsNames r p ts ts [] p
  next_name : {r s e : ℕ} {p q : Past} {ts rest : List Piece} {ns : List Span}
      → IsNames (r - 1) (begin r s e p) ts rest ns q
      → IsNames r p (piece Identifier s e ∷ ts) rest (span s e ∷ ns) q

-- { ".1" | ".2" }
pub data IsProjections : ℕ → Past → List Piece → List Piece → List Projection → Past → Type 0 where
  no_projection : {r : ℕ} {p : Past} {ts : List Piece} → IsProjections r p ts ts [] p
  next_projection :
      {h : Half} {r s e : ℕ} {p q : Past} {ts rest : List Piece} {hs : List Projection}
      → IsProjections (r - 1) (begin r s e p) ts rest hs q
      → IsProjections r p (piece (Dot h) s e ∷ ts) rest (half h (span s e) ∷ hs) q

mutual
  -- formula = conj { "\/" conj }
  pub data IsFormula : ℕ → Past → List Piece → List Piece → Formula → Past → Type 0 where
    conj : {r : ℕ} {p q : Past} {ts rest : List Piece} {f : Formula}
        → IsConj r p ts rest f q → IsFormula r p ts rest f q
    join : {r i j : ℕ} {p u q : Past} {ts a rest : List Piece} {f g : Formula}
        → IsConj r p ts (piece Or i j ∷ a) f u → IsFormula (r - 1) (skip j u) a rest g q
        → IsFormula r p ts rest (Join (from (start_of ts) q) f (shallow_formula (r - 1) g)) q

  -- conj = neg { "/\" neg }
  pub data IsConj : ℕ → Past → List Piece → List Piece → Formula → Past → Type 0 where
    neg : {r : ℕ} {p q : Past} {ts rest : List Piece} {f : Formula}
        → IsNeg r p ts rest f q → IsConj r p ts rest f q
    meet : {r i j : ℕ} {p u q : Past} {ts a rest : List Piece} {f g : Formula}
        → IsNeg r p ts (piece And i j ∷ a) f u → IsConj (r - 1) (skip j u) a rest g q
        → IsConj r p ts rest (Meet (from (start_of ts) q) f (shallow_formula (r - 1) g)) q

  -- neg = "-" neg | "0" | "1" | id | "(" formula ")"
  pub data IsNeg : ℕ → Past → List Piece → List Piece → Formula → Past → Type 0 where
    negation : {r s e : ℕ} {p q : Past} {ts rest : List Piece} {f : Formula}
        → IsNeg (r - 1) (begin r s e p) ts rest f q
        → IsNeg r p (piece Minus s e ∷ ts) rest (Negate (from s q) (shallow_formula (r - 1) f)) q
    constant_end : {x : End} {r s e : ℕ} {p : Past} {rest : List Piece}
        → IsNeg r p (piece (EndOf x) s e ∷ rest) rest (constant x (span s e)) (begin r s e p)
    variable : {r s e : ℕ} {p : Past} {rest : List Piece}
        → IsNeg r p (piece Identifier s e ∷ rest) rest (Variable (span s e)) (begin r s e p)
    bracketed : {r s e i j : ℕ} {p q : Past} {ts rest : List Piece} {f : Formula}
        → IsFormula (r - 1) (begin r s e p) ts (piece RightParen i j ∷ rest) f q
        → IsNeg r p (piece LeftParen s e ∷ ts) rest (shallow_formula (r - 1) f) (skip j q)

-- { "(" id "=" ( "0" | "1" ) ")" }
pub data IsEquations : ℕ → Past → List Piece → List Piece → List Equation → Past → Type 0 where
  no_equation : {r : ℕ} {p : Past} {ts : List Piece} → IsEquations r p ts ts [] p
  next_equation :
      {x : End} {r s e i j k l m n o o' : ℕ} {p q : Past} {ts rest : List Piece}
      {eqs : List Equation}
      → IsEquations r (skip o' (begin r s e p)) ts rest eqs q
      → IsEquations r p (piece LeftParen s e ∷ piece Identifier i j ∷
      piece Equals k l ∷ piece (EndOf x) m n ∷ piece RightParen o o' ∷ ts)
      rest (equation (span i j) x ∷ eqs) q

mutual
  -- exp = "let" block "in" exp | "\" tele { tele } "->" exp | "<" id { id } ">" exp | exp1
  pub data IsExp : ℕ → Past → List Piece → List Piece → Tree → Past → Type 0 where
    let_in : {r s e i j : ℕ} {p u q : Past} {ts a rest : List Piece} {ds : Trees} {b : Tree}
        → IsBlock (r - 1) (begin r s e p) ts (piece InWord i j ∷ a) ds u
        → IsExp (r - 1) (skip j u) a rest b q
        → IsExp r p (piece LetWord s e ∷ ts) rest (Let (from s q) ds (shallow (r - 1) b)) q
    lambda : {r s e i j : ℕ} {p u v q : Past} {ts a c rest : List Piece} {x b : Tree} {xs : Trees}
        → IsTele r (begin r s e p) ts a x u → IsTeles (r - 1) u a (piece To i j ∷ c) xs v
        → IsExp (r - 1) (skip j v) c rest b q
        → IsExp r p (piece Backslash s e ∷ ts) rest
        (Lambda (from s q) (kept r x xs) (shallow (r - 1) b)) q
    path_lambda :
        {r s e i j k l : ℕ} {p u q : Past} {ts a rest : List Piece} {ns : List Span} {b : Tree}
        → IsNames (r - 1) (begin r i j (begin r s e p)) ts (piece Greater k l ∷ a) ns u
        → IsExp (r - 1) (skip l u) a rest b q
        → IsExp r p (piece Less s e ∷ piece Identifier i j ∷ ts) rest
        (PathLambda (from s q) (span i j ∷ ns) (shallow (r - 1) b)) q
    exp1 : {r : ℕ} {p q : Past} {ts rest : List Piece} {e : Tree}
        → IsExp1 r p ts rest e q → IsExp r p ts rest e q

  -- exp1 = tele { tele } "->" exp1 | tele { tele } "*" exp1 | exp2 [ "->" exp1 ]
  pub data IsExp1 : ℕ → Past → List Piece → List Piece → Tree → Past → Type 0 where
    pi : {r i j : ℕ} {p u v q : Past} {ts a c rest : List Piece} {x b : Tree} {xs : Trees}
        → IsTele r p ts a x u → IsTeles (r - 1) u a (piece To i j ∷ c) xs v
        → IsExp1 (r - 1) (skip j v) c rest b q
        → IsExp1 r p ts rest (Pi (from (start_of ts) q) (kept r x xs) (shallow (r - 1) b)) q
    sigma : {r i j : ℕ} {p u v q : Past} {ts a c rest : List Piece} {x b : Tree} {xs : Trees}
        → IsTele r p ts a x u → IsTeles (r - 1) u a (piece Star i j ∷ c) xs v
        → IsExp1 (r - 1) (skip j v) c rest b q
        → IsExp1 r p ts rest (Sigma (from (start_of ts) q) (kept r x xs) (shallow (r - 1) b)) q
    arrow : {r i j : ℕ} {p u q : Past} {ts a rest : List Piece} {f b : Tree}
        → IsExp2 r p ts (piece To i j ∷ a) f u → IsExp1 (r - 1) (skip j u) a rest b q
        → IsExp1 r p ts rest (Arrow (from (start_of ts) q) f (shallow (r - 1) b)) q
    exp2 : {r : ℕ} {p q : Past} {ts rest : List Piece} {e : Tree}
        → IsExp2 r p ts rest e q → IsExp1 r p ts rest e q

  -- exp2 = exp3 { exp3 | "@" formula }
  pub data IsExp2 : ℕ → Past → List Piece → List Piece → Tree → Past → Type 0 where
    apply : {r : ℕ} {p u q : Past} {ts a rest : List Piece} {f : Tree} {es : Trees}
        → IsExp3 r p ts a f u → IsElements r u a rest es q
        → IsExp2 r p ts rest (applied (from (start_of ts) q) f es) q

  pub data IsElements : ℕ → Past → List Piece → List Piece → Trees → Past → Type 0 where
    no_element : {r : ℕ} {p : Past} {ts : List Piece} → IsElements r p ts ts none p
    argument : {r : ℕ} {p u q : Past} {ts a rest : List Piece} {x : Tree} {es : Trees}
        → IsExp3 r p ts a x u → IsElements (r - 1) u a rest es q
        → IsElements r p ts rest (kept r x es) q
    at : {r s e : ℕ} {p u q : Past} {ts a rest : List Piece} {f : Formula} {es : Trees}
        → IsFormula r (begin r s e p) ts a f u → IsElements (r - 1) u a rest es q
        → IsElements r p (piece AtSign s e ∷ ts) rest (kept r (At (from s u) f) es) q

  -- exp3 = "PathP" exp4 exp4 exp4 | "comp" exp4 exp4 system | "fill" exp4 exp4 system
  --      | "transport" exp4 exp4 | "Glue" exp4 system | "glue" exp4 system | "unglue" exp4 system
  --      | exp4
  pub data IsExp3 : ℕ → Past → List Piece → List Piece → Tree → Past → Type 0 where
    path_type : {r s e : ℕ} {p u v q : Past} {ts a c rest : List Piece} {x y z : Tree}
        → IsExp4 r (begin r s e p) ts a x u → IsExp4 r u a c y v → IsExp4 r v c rest z q
        → IsExp3 r p (piece (Form (PairingWord PathWord)) s e ∷ ts) rest (PathP (from s q) x y z) q
    comp_or_fill :
        {w : Composing} {r s e : ℕ} {p u v q : Past} {ts a c rest : List Piece} {x y : Tree}
        {ss : Trees}
        → IsExp4 r (begin r s e p) ts a x u → IsExp4 r u a c y v → IsSystem r v c rest ss q
        → IsExp3 r p (piece (Form (PairingWord (ComposingWord w))) s e ∷ ts) rest
        (composing w (from s q) x y ss) q
    transport : {r s e : ℕ} {p u q : Past} {ts a rest : List Piece} {x y : Tree}
        → IsExp4 r (begin r s e p) ts a x u → IsExp4 r u a rest y q
        → IsExp3 r p (piece (Form (PairingWord TransportWord)) s e ∷ ts) rest
        (Transport (from s q) x y) q
    glue : {w : Gluing} {r s e : ℕ} {p u q : Past} {ts a rest : List Piece} {x : Tree} {ss : Trees}
        → IsExp4 r (begin r s e p) ts a x u → IsSystem r u a rest ss q
        → IsExp3 r p (piece (Form (GluingWord w)) s e ∷ ts) rest (gluing w (from s q) x ss) q
    exp4 : {r : ℕ} {p q : Past} {ts rest : List Piece} {e : Tree}
        → IsExp4 r p ts rest e q → IsExp3 r p ts rest e q

  -- exp4 = exp5 { ".1" | ".2" }
  pub data IsExp4 : ℕ → Past → List Piece → List Piece → Tree → Past → Type 0 where
    project : {r : ℕ} {p u q : Past} {ts a rest : List Piece} {e : Tree} {hs : List Projection}
        → IsExp5 r p ts a e u → IsProjections r u a rest hs q
        → IsExp4 r p ts rest (projected (from (start_of ts) q) e hs) q

  -- exp5 = "U" | id | "(" exp { "," exp } ")"
  pub data IsExp5 : ℕ → Past → List Piece → List Piece → Tree → Past → Type 0 where
    universe : {r s e : ℕ} {p : Past} {rest : List Piece}
        → IsExp5 r p (piece UniverseWord s e ∷ rest) rest (Universe (span s e)) (begin r s e p)
    name : {r s e : ℕ} {p : Past} {rest : List Piece}
        → IsExp5 r p (piece Identifier s e ∷ rest) rest (Name (span s e)) (begin r s e p)
    brackets : {r s e i j : ℕ} {p u q : Past} {ts a rest : List Piece} {x : Tree} {xs : Trees}
        → IsExp (r - 1) (begin r s e p) ts a x u
        → IsComponents (r - 1) u a (piece RightParen i j ∷ rest) xs q
        → IsExp5 r p (piece LeftParen s e ∷ ts) rest
        (Brackets (span s j) (kept (r - 1) x xs)) (skip j q)

  -- { "," exp }, after one of room r
  pub data IsComponents : ℕ → Past → List Piece → List Piece → Trees → Past → Type 0 where
    no_component : {r : ℕ} {p : Past} {ts : List Piece} → IsComponents r p ts ts none p
    next_component : {r s e : ℕ} {p u q : Past} {ts a rest : List Piece} {x : Tree} {xs : Trees}
        → IsExp (r - 1) (skip e p) ts a x u → IsComponents (r - 1) u a rest xs q
        → IsComponents r p (piece Comma s e ∷ ts) rest (kept (r - 1) x xs) q

  -- tele = "(" id { id } ":" exp ")"
  pub data IsTele : ℕ → Past → List Piece → List Piece → Tree → Past → Type 0 where
    tele : {r s e i j k l m n : ℕ} {p u q : Past} {ts a rest : List Piece} {ns : List Span}
        {t : Tree}
        → IsNames (r - 1) (begin r i j (begin r s e p)) ts (piece Colon k l ∷ a) ns u
        → IsExp (r - 1) (skip l u) a (piece RightParen m n ∷ rest) t q
        → IsTele r p (piece LeftParen s e ∷ piece Identifier i j ∷ ts) rest
        (Tele (span i j ∷ ns) (shallow (r - 1) t)) (skip n q)

  -- { tele }, where the next one has room r
  pub data IsTeles : ℕ → Past → List Piece → List Piece → Trees → Past → Type 0 where
    no_tele : {r : ℕ} {p : Past} {ts : List Piece} → IsTeles r p ts ts none p
    next_tele : {r : ℕ} {p u q : Past} {ts a rest : List Piece} {x : Tree} {xs : Trees}
        → IsTele r p ts a x u → IsTeles (r - 1) u a rest xs q → IsTeles r p ts rest (kept r x xs) q

  -- system = "[" [ side { "," side } ] "]"
  pub data IsSystem : ℕ → Past → List Piece → List Piece → Trees → Past → Type 0 where
    empty_system : {r s e i j : ℕ} {p : Past} {rest : List Piece}
        → IsSystem r p (piece LeftBracket s e ∷ piece RightBracket i j ∷ rest) rest none
        (skip j (skip e p))
    system : {r s e i j : ℕ} {p u q : Past} {ts a rest : List Piece} {x : Tree} {xs : Trees}
        → IsSide r (skip e p) ts a x u → IsSides r u a (piece RightBracket i j ∷ rest) xs q
        → IsSystem r p (piece LeftBracket s e ∷ ts) rest (kept r x xs) (skip j q)

  -- { "," side }, after one of room r
  pub data IsSides : ℕ → Past → List Piece → List Piece → Trees → Past → Type 0 where
    no_side : {r : ℕ} {p : Past} {ts : List Piece} → IsSides r p ts ts none p
    next_side : {r s e : ℕ} {p u q : Past} {ts a rest : List Piece} {x : Tree} {xs : Trees}
        → IsSide (r - 1) (skip e p) ts a x u → IsSides (r - 1) u a rest xs q
        → IsSides r p (piece Comma s e ∷ ts) rest (kept (r - 1) x xs) q

  -- side = { "(" id "=" ( "0" | "1" ) ")" } "->" exp
  pub data IsSide : ℕ → Past → List Piece → List Piece → Tree → Past → Type 0 where
    side : {r s e : ℕ} {p u q : Past} {ts a rest : List Piece} {eqs : List Equation} {b : Tree}
        → IsEquations r p ts (piece To s e ∷ a) eqs u → IsExp (r - 1) (begin r s e u) a rest b q
        → IsSide r p ts rest (Side eqs (shallow (r - 1) b)) q

  -- block = "{" [ def { ";" def } ] "}"
  pub data IsBlock : ℕ → Past → List Piece → List Piece → Trees → Past → Type 0 where
    empty_block : {r s e i j : ℕ} {p : Past} {rest : List Piece}
        → IsBlock r p (piece Open s e ∷ piece Close i j ∷ rest) rest none (skip j (skip e p))
    block : {r s e i j : ℕ} {p u q : Past} {ts a rest : List Piece} {x : Tree} {xs : Trees}
        → IsDef r (skip e p) ts a x u → IsDefs 1 r u a (piece Close i j ∷ rest) xs q
        → IsBlock r p (piece Open s e ∷ ts) rest (kept r x xs) (skip j q)

  -- def = id { tele } ":" exp "=" exp [ "where" block ]
  pub data IsDef : ℕ → Past → List Piece → List Piece → Tree → Past → Type 0 where
    def : {r s e i j k l : ℕ} {p u v q : Past} {ts a c rest : List Piece} {xs : Trees} {t b : Tree}
        → IsTeles r (begin r s e p) ts (piece Colon i j ∷ a) xs u
        → IsExp r (skip j u) a (piece Equals k l ∷ c) t v
        → IsExp r (skip l v) c rest b q
        → IsDef r p (piece Identifier s e ∷ ts) rest (Def (span s e) xs t b none) q
    def_where : {r s e i j k l m n : ℕ} {p u v w q : Past} {ts a c d rest : List Piece}
        {xs ls : Trees} {t b : Tree}
        → IsTeles r (begin r s e p) ts (piece Colon i j ∷ a) xs u
        → IsExp r (skip j u) a (piece Equals k l ∷ c) t v
        → IsExp r (skip l v) c (piece WhereWord m n ∷ d) b w
        → IsBlock (r - 1) (skip n w) d rest ls q
        → IsDef r p (piece Identifier s e ∷ ts) rest (Def (span s e) xs t b ls) q

  -- { ";" def }, after one of room r; each has f less room than the one before it
  pub data IsDefs : ℕ → ℕ → Past → List Piece → List Piece → Trees → Past → Type 0 where
    no_def : {f r : ℕ} {p : Past} {ts : List Piece} → IsDefs f r p ts ts none p
    next_def : {f r s e : ℕ} {p u q : Past} {ts a rest : List Piece} {x : Tree} {xs : Trees}
        → IsDef (r - f) (skip e p) ts a x u → IsDefs f (r - f) u a rest xs q
        → IsDefs f r p (piece Next s e ∷ ts) rest (kept (r - f) x xs) q

-- item { ";" item } "}" and the end, where imports stand before definitions; each definition stands
-- at depth 1
pub data IsItems : Past → List Piece → List Span → Trees → Past → Type 0 where
  last_import : {s e i j k l : ℕ} {p : Past}
      → IsItems p (piece ImportWord s e ∷ piece Identifier i j ∷ piece Close k l ∷ [])
      (span i j ∷ []) none (skip l (skip j (skip e p)))
  next_import : {s e i j k l : ℕ} {p q : Past} {ts : List Piece} {is : List Span} {ds : Trees}
      → IsItems (skip l (skip j (skip e p))) ts is ds q
      → IsItems p (piece ImportWord s e ∷ piece Identifier i j ∷ piece Next k l ∷ ts)
      (span i j ∷ is) ds q
  defs : {k l : ℕ} {p u q : Past} {ts a : List Piece} {x : Tree} {xs : Trees}
      → IsDef limit p ts a x u → IsDefs 0 limit u a (piece Close k l ∷ []) xs q
      → IsItems p ts [] (kept limit x xs) (skip l q)

-- before the first token
abbrev pub nothing : Past
nothing = record { end = 0; deep = None }

-- module = "module" id "where" "{" [ item { ";" item } ] "}", and the end
pub data IsModule : List Piece → Tree → Past → Type 0 where
  empty_module : {s e i j k l m n x y : ℕ}
      → IsModule (piece ModuleWord s e ∷ piece Identifier i j ∷
      piece WhereWord k l ∷ piece Open m n ∷ piece Close x y ∷ [])
      (Module (span i j) [] none) (skip y (skip n nothing))
  items : {s e i j k l m n : ℕ} {q : Past} {ts : List Piece} {is : List Span} {ds : Trees}
      → IsItems (skip n nothing) ts is ds q
      → IsModule (piece ModuleWord s e ∷ piece Identifier i j ∷
      piece WhereWord k l ∷ piece Open m n ∷ ts) (Module (span i j) is ds) q

-- an expression, and the end
pub data IsWholeExp : List Piece → Tree → Past → Type 0 where
  whole_exp : {ts : List Piece} {e : Tree} {q : Past}
      → IsExp limit nothing ts [] e q → IsWholeExp ts e q

-- some text of this kind begins with these tokens
abbrev pub IsBegun : (List Piece → Tree → Past → Type 0) → List Piece → Type 0
IsBegun IsText ts = (rest : List Piece) × (m : Tree) × (q : Past) × IsText (ts ++ rest) m q

-- The place of the first wrong token: a text begins with the tokens before it, and none with those
-- up to it. The end counts as one more token, at the text's size, which only a whole text is
-- followed by.
pub data IsWrongAt (IsText : List Piece → Tree → Past → Type 0) (size : ℕ) (ts : List Piece) : ℕ
    → Type 0 where
  wrong_token : {s : ℕ} (w : Word) (e : ℕ) (before after : List Piece)
      → ts ≡ before ++ piece w s e ∷ after
      → IsBegun IsText before → (IsBegun IsText (before ++ piece w s e ∷ []) → ⊥)
      → IsWrongAt IsText size ts s
  wrong_end : IsBegun IsText ts → ((m : Tree) (q : Past) → IsText ts m q → ⊥)
      → IsWrongAt IsText size ts size
