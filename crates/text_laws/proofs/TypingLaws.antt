-- How a code is typed is of its shape.
use Rattle.std.proofs.Common.{◌≡◌, ℕ, List, [], ◌∷◌, false, Option, None, Some, refl, sym, ◌∙◌, ap, ap₂}
use Rattle.trees.specs.Trees.{Tree}
use Rattle.codes.specs.declared.code.Code.{Code, Bound as Bound', Defined as Defined', Let', Universe as Universe', Nat as Nat', Zero as Zero', Suc'}
use Rattle.codes.specs.declared.code.Code.{NatRec', Pi', Sigma', Lambda', PathLambda', Apply', Project', Tuple', PathP', Comp', Fill', Transport'}
use Rattle.codes.specs.declared.code.Code.{GlueType', GlueTerm', Unglue'}
use Rattle.codes.specs.declared.code.Code.{Row_of-Code, end_of-Code, more_of-Code, Row_of-CodeDef, end_of-CodeDef, more_of-CodeDef}
use Rattle.codes.specs.declared.code.Code.{Row_of-Binder, end_of-Binder, more_of-Binder, Row_of-Element, end_of-Element, more_of-Element}
use Rattle.codes.specs.declared.code.Element.{Argument as Argument', At as At'}
use Rattle.codes.specs.declared.code.Opened.{Opened, Under as Under', Applied as Applied'}
use Rattle.codes.specs.declared.code.CodeDef.{CodeDef, CodeDef'}
use Rattle.codes.specs.Codes.{meaning}
use Rattle.codes.specs.Shapes
use Rattle.codes.specs.Shapes.{Shape, none, more, Bound, Defined, Universe, Nat, Zero, Let, Suc, NatRec, Pi, Sigma, Lambda, PathLambda, Apply, Project}
use Rattle.codes.specs.Shapes.{Tuple, PathP, Comp, Transport, At, Binder, Under, Applied, Def}
use Rattle.codes.specs.Shapes.{shape, opened_shape, component_shapes, binder_shapes, element_shapes, def_shape, local_shapes, listed}
use Rattle.translation.specs.Terms.{nat, universe}
use Rattle.translation.specs.Translated.{done}
use Rattle.translation.specs.Forms.{Means, Side, defined}
use Rattle.direct.specs.Known.{Known, Variable, Interval, type_of_variable, declared_type}
use Rattle.direct.specs.Typings.{Typing, OpenedTyping, BinderTyping, ElementTyping, Argument, At as AtTyping, BlockTyping, inferred, undirected}
use Rattle.direct.specs.Typings.{universe_typing, where_checked, family_typing, lambda_typing, names_typing, tuple_typing, application_typing}
use Rattle.direct.specs.Typings.{projection_typing, under_entry, applied_to_name, applied_to_number, recursion_typing, path_type_typing}
use Rattle.direct.specs.Typings.{transport_typing, composition_typing, definition_typing, and_then, let_typing}
use Rattle.direct.specs.Direct.{typing, line, motive, typings, binder_typings, element_typings, def_typing, blocks, other_place, place_after}
use Rattle.text_laws.proofs.MeaningLaws.{ap₃, formula_of, meaning_of, name_of, variable_of, binders_of, line_sides_of}
use Rattle.text_laws.proofs.MeaningLaws.{formula-same, meaning-same, name-same, variable-same, binders-same, line_sides-same}

-- The typing of a shape. Of a shape that is no code it says nothing.

abbrev nothing : Means ℕ Tree → OpenedTyping
nothing m = record { opened = m; is_family = λ G. false; is_small = λ G. false }

abbrev mutual
  typing_of : Shape → Typing
  typing_of (Bound s k) = inferred (meaning_of (Bound s k)) (λ G. type_of_variable G k)
  typing_of (Defined s n) = inferred (meaning_of (Defined s n)) (λ G. declared_type G n)
  typing_of (Let s ds c) = let_typing (meaning_of (Let s ds c)) (blocks_of ds) (typing_of c)
  typing_of (Universe s) = universe_typing (meaning_of (Universe s))
  typing_of (Nat s) = inferred (meaning_of (Nat s)) (λ G. Some universe)
  typing_of (Zero s) = inferred (meaning_of (Zero s)) (λ G. Some nat)
  typing_of (Suc s c) = where_checked (meaning_of (Suc s c)) (typing_of c) nat nat
  typing_of (NatRec s m a b n) = recursion_typing (meaning_of (NatRec s m a b n)) (motive_of m) (typing_of a) (typing_of b) (typing_of n)
  typing_of (Pi s bs c) = family_typing (meaning_of (Pi s bs c)) (binder_typings_of bs) (typing_of c)
  typing_of (Sigma s bs c) = family_typing (meaning_of (Sigma s bs c)) (binder_typings_of bs) (typing_of c)
  typing_of (Lambda s bs c) = lambda_typing (meaning_of (Lambda s bs c)) (binder_typings_of bs) (typing_of c)
  typing_of (PathLambda s n c) = names_typing (meaning_of (PathLambda s n c)) n (typing_of c)
  typing_of (Apply s c es) = application_typing (meaning_of (Apply s c es)) (typing_of c) (element_typings_of es)
  typing_of (Project s c ps) = projection_typing (meaning_of (Project s c ps)) (typing_of c) ps
  typing_of (Tuple s cs) = tuple_typing (meaning_of (Tuple s cs)) (typings_of cs)
  typing_of (PathP s l a b) = path_type_typing (meaning_of (PathP s l a b)) (line_of l) (typing_of a) (typing_of b)
  typing_of (Comp s l a ss) = composition_typing (meaning_of (Comp s l a ss)) (line_of l) (typing_of a) (line_sides_of ss)
  typing_of (Transport s l a) = transport_typing (meaning_of (Transport s l a)) (line_of l) (typing_of a)
  typing_of c = undirected (meaning_of c)

  line_of : Shape → OpenedTyping
  line_of (Under s c) = under_entry Interval (name_of (Under s c)) (typing_of c)
  line_of (Applied s c) = applied_to_name (name_of (Applied s c)) (typing_of c)
  line_of l = nothing (name_of l)

  motive_of : Shape → OpenedTyping
  motive_of (Under s c) = under_entry (Variable nat) (variable_of (Under s c)) (typing_of c)
  motive_of (Applied s c) = applied_to_number (variable_of (Applied s c)) (typing_of c)
  motive_of l = nothing (variable_of l)

  typings_of : Shapes.Shapes → List Typing
  typings_of none = []
  typings_of (more c rest) = typing_of c ∷ typings_of rest

  binder_typings_of : Shapes.Shapes → List BinderTyping
  binder_typings_of (more (Binder n c) rest) = record { count = n; type = typing_of c } ∷ binder_typings_of rest
  binder_typings_of _ = []

  element_typings_of : Shapes.Shapes → List ElementTyping
  element_typings_of none = []
  element_typings_of (more (At s f) rest) = AtTyping (formula_of f) ∷ element_typings_of rest
  element_typings_of (more c rest) = Argument (typing_of c) ∷ element_typings_of rest

  def_typing_of : Shape → BlockTyping
  def_typing_of (Def x n bs t c) =
      definition_typing n (binder_typings_of bs) (typing_of t) (typing_of c) (defined (binders_of bs) (meaning_of t) done (meaning_of c))
  def_typing_of _ = λ G. Some G

  blocks_of : Shapes.Shapes → BlockTyping
  blocks_of none = λ G. Some G
  blocks_of (more d rest) = and_then (def_typing_of d) (blocks_of rest)

-- an element that is a code is an argument
argument_of : (c : Code) (rest : Shapes.Shapes) → element_typings_of (more (shape c) rest) ≡ Argument (typing_of (shape c)) ∷ element_typings_of rest
argument_of (Bound' s k) rest = refl
argument_of (Defined' s n) rest = refl
argument_of (Let' s m ds p c) rest = refl
argument_of (Universe' s) rest = refl
argument_of (Nat' s) rest = refl
argument_of (Zero' s) rest = refl
argument_of (Suc' s p c) rest = refl
argument_of (NatRec' s p m q a r b t n) rest = refl
argument_of (Pi' s m bs p c) rest = refl
argument_of (Sigma' s m bs p c) rest = refl
argument_of (Lambda' s m bs p c) rest = refl
argument_of (PathLambda' s n p c) rest = refl
argument_of (Apply' s p c m es) rest = refl
argument_of (Project' s p c ps) rest = refl
argument_of (Tuple' s m cs) rest = refl
argument_of (PathP' s p l q a r b) rest = refl
argument_of (Comp' s p l q a m ss) rest = refl
argument_of (Fill' s p l q a m ss) rest = refl
argument_of (Transport' s p l q a) rest = refl
argument_of (GlueType' s p a m ss) rest = refl
argument_of (GlueTerm' s p a m ss) rest = refl
argument_of (Unglue' s p a m ss) rest = refl

family-same : {m m' : Means ℕ Tree} {bs cs : List BinderTyping} {t u : Typing} → m ≡ m' → bs ≡ cs → t ≡ u → family_typing m bs t ≡ family_typing m' cs u
family-same = ap₃ family_typing

recursion-same : {m m' : Means ℕ Tree} {l k : OpenedTyping} {a b n a' b' n' : Typing} → m ≡ m' → l ≡ k → a ≡ a' → b ≡ b' → n ≡ n'
    → recursion_typing m l a b n ≡ recursion_typing m' k a' b' n'
recursion-same p q r s t = cc

path_type-same : {m m' : Means ℕ Tree} {l k : OpenedTyping} {a b a' b' : Typing} → m ≡ m' → l ≡ k → a ≡ a' → b ≡ b'
    → path_type_typing m l a b ≡ path_type_typing m' k a' b'
path_type-same p q r s = cc

composition-same : {m m' : Means ℕ Tree} {l k : OpenedTyping} {a b : Typing} {ss ts : List (Side ℕ Tree)} → m ≡ m' → l ≡ k → a ≡ b → ss ≡ ts
    → composition_typing m l a ss ≡ composition_typing m' k b ts
composition-same p q r s = cc

definition-same : (n : ℕ) {bs cs : List BinderTyping} {a b a' b' : Typing} {m m' : Means ℕ (Tree × Tree)} → bs ≡ cs → a ≡ a' → b ≡ b' → m ≡ m'
    → definition_typing n bs a b m ≡ definition_typing n cs a' b' m'
definition-same n p q r s = cc

mutual
  typing-same : (c : Code) → typing c ≡ typing_of (shape c)
  typing-same (Bound' s k) = refl
  typing-same (Defined' s n) = refl
  typing-same (Let' s m ds p c) = ap₃ let_typing (meaning-same (Let' s m ds p c)) (blocks-same ds) (typing-same c)
  typing-same (Universe' s) = refl
  typing-same (Nat' s) = refl
  typing-same (Zero' s) = refl
  typing-same (Suc' s p c) = ap₂ (λ m t. where_checked m t nat nat) (meaning-same (Suc' s p c)) (typing-same c)
  typing-same (NatRec' s p m q a r b t n) =
      recursion-same (meaning-same (NatRec' s p m q a r b t n)) (motive-same m) (typing-same a) (typing-same b) (typing-same n)
  typing-same (Pi' s m bs p c) = family-same (meaning-same (Pi' s m bs p c)) (binder_typings-same bs) (typing-same c)
  typing-same (Sigma' s m bs p c) = family-same (meaning-same (Sigma' s m bs p c)) (binder_typings-same bs) (typing-same c)
  typing-same (Lambda' s m bs p c) = ap₃ lambda_typing (meaning-same (Lambda' s m bs p c)) (binder_typings-same bs) (typing-same c)
  typing-same (PathLambda' s n p c) = ap₂ (λ m t. names_typing m n t) (meaning-same (PathLambda' s n p c)) (typing-same c)
  typing-same (Apply' s p c m es) = ap₃ application_typing (meaning-same (Apply' s p c m es)) (typing-same c) (element_typings-same es)
  typing-same (Project' s p c ps) = ap₂ (λ m t. projection_typing m t ps) (meaning-same (Project' s p c ps)) (typing-same c)
  typing-same (Tuple' s m cs) = ap₂ tuple_typing (meaning-same (Tuple' s m cs)) (typings-same cs)
  typing-same (PathP' s p l q a r b) = path_type-same (meaning-same (PathP' s p l q a r b)) (line-same l) (typing-same a) (typing-same b)
  typing-same (Comp' s p l q a m ss) =
      composition-same (meaning-same (Comp' s p l q a m ss)) (line-same l) (typing-same a) (line_sides-same ss)
  typing-same (Transport' s p l q a) = ap₃ transport_typing (meaning-same (Transport' s p l q a)) (line-same l) (typing-same a)
  typing-same (Fill' s p l q a m ss) = ap undirected (meaning-same (Fill' s p l q a m ss))
  typing-same (GlueType' s p a m ss) = ap undirected (meaning-same (GlueType' s p a m ss))
  typing-same (GlueTerm' s p a m ss) = ap undirected (meaning-same (GlueTerm' s p a m ss))
  typing-same (Unglue' s p a m ss) = ap undirected (meaning-same (Unglue' s p a m ss))

  line-same : (l : Opened) → line l ≡ line_of (opened_shape l)
  line-same (Under' s c) = ap₂ (under_entry Interval) (name-same (Under' s c)) (typing-same c)
  line-same (Applied' s c) = ap₂ applied_to_name (name-same (Applied' s c)) (typing-same c)

  motive-same : (l : Opened) → motive l ≡ motive_of (opened_shape l)
  motive-same (Under' s c) = ap₂ (under_entry (Variable nat)) (variable-same (Under' s c)) (typing-same c)
  motive-same (Applied' s c) = ap₂ applied_to_number (variable-same (Applied' s c)) (typing-same c)

  typings-same : {m : _} (cs : Row_of-Code m) → typings cs ≡ typings_of (component_shapes cs)
  typings-same end_of-Code = refl
  typings-same (more_of-Code c rest) = ap₂ (λ x xs. x ∷ xs) (typing-same c) (typings-same rest)

  binder_typings-same : {m : _} (bs : Row_of-Binder m) → binder_typings bs ≡ binder_typings_of (binder_shapes bs)
  binder_typings-same end_of-Binder = refl
  binder_typings-same (more_of-Binder n c rest) = ap₂ (λ x xs. record { count = n; type = x } ∷ xs) (typing-same c) (binder_typings-same rest)

  element_typings-same : {m : _} (es : Row_of-Element m) → element_typings es ≡ element_typings_of (element_shapes es)
  element_typings-same end_of-Element = refl
  element_typings-same (more_of-Element (Argument' c) rest) =
      ap₂ (λ x xs. Argument x ∷ xs) (typing-same c) (element_typings-same rest) ∙ sym (argument_of c (element_shapes rest))
  element_typings-same (more_of-Element (At' s f) rest) = ap₂ (λ x xs. AtTyping x ∷ xs) (formula-same f) (element_typings-same rest)

  pub def_typing-same : (d : CodeDef) → def_typing d ≡ def_typing_of (def_shape d)
  def_typing-same (CodeDef' x n m bs t c) =
      definition-same n (binder_typings-same bs) (typing-same t) (typing-same c)
      (ap₃ (λ x y z. defined x y done z) (binders-same bs) (meaning-same t) (meaning-same c))

  blocks-same : {m : _} (ds : Row_of-CodeDef m) → blocks ds ≡ blocks_of (local_shapes ds)
  blocks-same end_of-CodeDef = refl
  blocks-same (more_of-CodeDef d rest) = ap₂ and_then (def_typing-same d) (blocks-same rest)

-- the place of the first that is not direct
abbrev other_place_of : Shapes.Shapes → Known → Option ℕ
other_place_of none G = None
other_place_of (more d ds) G = place_after (other_place_of ds) (def_typing_of d G)

place-same : (ds : List CodeDef) → other_place ds ≡ other_place_of (listed def_shape ds)
place-same [] = refl
place-same (d ∷ ds) = ap₂ (λ rest t G. place_after rest (t G)) (place-same ds) (def_typing-same d)

-- the laws, each twice through the shape

pub one_meaning : (a b : Code) → shape a ≡ shape b → meaning a ≡ meaning b
one_meaning a b e = meaning-same a ∙ ap meaning_of e ∙ sym (meaning-same b)

pub one_typing : (a b : Code) → shape a ≡ shape b → typing a ≡ typing b
one_typing a b e = typing-same a ∙ ap typing_of e ∙ sym (typing-same b)

pub one_definition : (c d : CodeDef) → def_shape c ≡ def_shape d → def_typing c ≡ def_typing d
one_definition c d e = def_typing-same c ∙ ap def_typing_of e ∙ sym (def_typing-same d)

pub one_place : (cs ds : List CodeDef) (G : Known) → listed def_shape cs ≡ listed def_shape ds → other_place cs G ≡ other_place ds G
one_place cs ds G e = ap (λ p. p G) (place-same cs ∙ ap other_place_of e ∙ sym (place-same ds))
