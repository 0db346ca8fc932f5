-- What contracts see of a module: its tree, with a form for each production of the grammar.
use Rattle.std.specs.Prelude.{List}
use Rattle.layout_lexer.specs.declared.token.Span.{Span}
use Rattle.syntax.specs.declared.formula.Equation.{Equation}
use Rattle.syntax.specs.declared.formula.Projection.{Projection}

pub data Formula : Type 0 where
  Zero : Span → Formula
  One : Span → Formula
  Variable : Span → Formula
  Negate : Span → Formula → Formula
  Meet : Span → Formula → Formula → Formula
  Join : Span → Formula → Formula → Formula

mutual
  pub data Tree : Type 0 where
    -- expressions
    Let : Span → Trees → Tree → Tree
    Lambda : Span → Trees → Tree → Tree
    PathLambda : Span → List Span → Tree → Tree
    Pi : Span → Trees → Tree → Tree
    Sigma : Span → Trees → Tree → Tree
    Arrow : Span → Tree → Tree → Tree
    Apply : Span → Tree → Trees → Tree
    PathP : Span → Tree → Tree → Tree → Tree
    Comp : Span → Tree → Tree → Trees → Tree
    Fill : Span → Tree → Tree → Trees → Tree
    Transport : Span → Tree → Tree → Tree
    GlueType : Span → Tree → Trees → Tree
    GlueTerm : Span → Tree → Trees → Tree
    Unglue : Span → Tree → Trees → Tree
    Project : Span → Tree → List Projection → Tree
    Universe : Span → Tree
    Name : Span → Tree
    Brackets : Span → Trees → Tree
    -- an element of an application: "@" with its formula; an argument is the expression itself
    At : Span → Formula → Tree
    -- names : type
    Tele : List Span → Tree → Tree
    -- equations -> body
    Side : List Equation → Tree → Tree
    -- name teles : type = body where locals
    Def : Span → Trees → Tree → Tree → Trees → Tree
    -- name, imports, definitions
    Module : Span → List Span → Trees → Tree

  pub data Trees : Type 0 where
    none : Trees
    more : Tree → Trees → Trees

abbrev pub and : Trees → Trees → Trees
and none ys = ys
and (more x xs) ys = more x (and xs ys)

-- at the end
abbrev pub with : Trees → Tree → Trees
with xs x = and xs (more x none)
