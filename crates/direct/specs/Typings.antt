-- How each form of a text is typed directly, from how its parts are.
use Rattle.std.specs.Prelude.{◌&&◌, ℕ, zero, suc, Bool, true, false, List, [], ◌∷◌, replicate}
use Rattle.std.specs.Prelude.{Option, None, Some, if◌then◌else◌}
use Rattle.std.specs.Option.{option_map, option_and_then}
use Rattle.syntax.specs.declared.formula.Projection.{Projection}
use Rattle.syntax.specs.declared.formula.Projection.TheVariants as projection
use Rattle.trees.specs.Trees.{Tree}
use Rattle.conditions.specs.Sides.{is_formula}
use Rattle.translation.specs.Terms.{universe, nat, pi, fst, snd, i0, i1}
use Rattle.translation.specs.Terms.{zero as zero_tree}
use Rattle.translation.specs.Scopes.{context_of}
use Rattle.translation.specs.Forms.{Means, Side, under_names}
use Rattle.direct.specs.Known.{Entry, Known, Interval, Definition, scope_of, value_at}
use Rattle.direct.specs.Known.{with_variables}
use Rattle.direct.specs.Literal.{same_tree, is_tree, at, pi_of, sigma_of, path_type_of, pi_over}
use Rattle.direct.specs.Literal.{past, motive_step}

-- a tree; the type that it is inferred to have; whether it checks at a type; whether it is a type
pub record Typing : Type 0 where
  pub tree : Means ℕ Tree
  pub infer : Known → Option Tree
  pub check : Known → Tree → Bool
  pub is_type : Known → Bool

-- a line, as a tree over its name, or a motive, over its variable: whether it is a type, and
-- whether it is one of the universe
pub record OpenedTyping : Type 0 where
  pub opened : Means ℕ Tree
  pub is_family : Known → Bool
  pub is_small : Known → Bool

-- variables of one type
pub record BinderTyping : Type 0 where
  pub count : ℕ
  pub type : Typing

-- what a term is applied to
pub data ElementTyping : Type 0 where
  Argument : Typing → ElementTyping
  At : Means ℕ Tree → ElementTyping

-- definitions: what is known after them, where they are direct
abbrev pub BlockTyping : Type 0
BlockTyping = Known → Option Known

abbrev pub holds : {A : Type 0} → Option A → (A → Bool) → Bool
holds None test = false
holds (Some a) test = test a

abbrev pub where_true : {A : Type 0} → Bool → Option A → Option A
where_true b found = if b then found else None

-- A form that is inferred checks at what it is inferred to have, and is a type where that is the
-- universe.
abbrev pub inferred : Means ℕ Tree → (Known → Option Tree) → Typing
inferred m infer = record {
  tree = m;
  infer = infer;
  check = λ G W. is_tree (infer G) W;
  is_type = λ G. is_tree (infer G) universe;
}

-- a form that is neither inferred nor checked
abbrev pub undirected : Means ℕ Tree → Typing
undirected m = inferred m (λ G. None)

abbrev pub universe_typing : Means ℕ Tree → Typing
universe_typing m = record {
  tree = m;
  infer = λ G. None;
  check = λ G W. false;
  is_type = λ G. true;
}

-- a form that has this type where the part checks at that one
abbrev pub where_checked : Means ℕ Tree → Typing → Tree → Tree → Typing
where_checked m part A B = inferred m (λ G. where_true (part.check G A) (Some B))

-- binders

-- what is known under binders whose types pass
abbrev pub enter : (Typing → Known → Bool) → List BinderTyping → BlockTyping
enter passes [] G = Some G
enter passes (b ∷ bs) G =
    where_true (passes b.type G)
    (enter passes bs (with_variables b.count (value_at G b.type.tree) G))

abbrev pub in_universe : Typing → Known → Bool
in_universe a G = a.check G universe

abbrev pub as_type : Typing → Known → Bool
as_type a G = a.is_type G

-- Pi and Sigma
abbrev pub family_typing : Means ℕ Tree → List BinderTyping → Typing → Typing
family_typing m bs body =
    let infer : Known → Option Tree = λ G.
    where_true (holds (enter in_universe bs G) (in_universe body)) (Some universe) in
    record {
      tree = m;
      infer = infer;
      check = λ G W. is_tree (infer G) W;
      is_type = λ G. holds (enter as_type bs G) (as_type body);
    }

abbrev pub lambda_infer : List BinderTyping → Typing → Known → Option Tree
lambda_infer [] body G = body.infer G
lambda_infer (b ∷ bs) body G =
    let A = value_at G b.type.tree in
    where_true (b.type.is_type G)
    (option_map (pi_over b.count A) (lambda_infer bs body (with_variables b.count A G)))

-- each written domain is a type and that of the Pi, and the body checks at what is left of it
abbrev pub lambda_check : List BinderTyping → Typing → Known → Tree → Bool
lambda_check [] body G W = body.check G W
lambda_check (b ∷ bs) body G W =
    let A = value_at G b.type.tree in
    b.type.is_type G
    && holds (past b.count A W) (λ V. lambda_check bs body (with_variables b.count A G) V)

abbrev pub lambda_typing : Means ℕ Tree → List BinderTyping → Typing → Typing
lambda_typing m bs body = record {
  tree = m;
  infer = lambda_infer bs body;
  check = lambda_check bs body;
  is_type = λ G. is_tree (lambda_infer bs body G) universe;
}

-- under each name the rest checks at the line, and its ends are those of the type
abbrev pub names_check : ℕ → Typing → Known → Tree → Bool
names_check zero body G W = body.check G W
names_check (suc n) body G W =
    let t = value_at (Interval ∷ G) (under_names (replicate n 0) body.tree) in
    holds (path_type_of W) λ P.
    names_check n body (Interval ∷ G) P.line
    && (same_tree (at t i0) P.left && same_tree (at t i1) P.right)

abbrev pub names_typing : Means ℕ Tree → ℕ → Typing → Typing
names_typing m n body = record {
  tree = m;
  infer = λ G. None;
  check = names_check n body;
  is_type = λ G. false;
}

-- pairs

abbrev pub tuple_check : List Typing → Known → Tree → Bool
tuple_check [] G W = false
tuple_check (a ∷ []) G W = a.check G W
tuple_check (a ∷ b ∷ rest) G W =
    holds (sigma_of W) λ F.
    a.check G F.domain && tuple_check (b ∷ rest) G (at F.codomain (value_at G a.tree))

abbrev pub tuple_typing : Means ℕ Tree → List Typing → Typing
tuple_typing m parts = record {
  tree = m;
  infer = λ G. None;
  check = tuple_check parts;
  is_type = λ G. false;
}

-- applications and projections

-- what a head of the type T is applied to, and the type after it
abbrev pub applied : List ElementTyping → Known → Tree → Option Tree
applied [] G T = Some T
applied (Argument a ∷ es) G T =
    option_and_then (λ F.
    where_true (a.check G F.domain) (applied es G (at F.codomain (value_at G a.tree)))) (pi_of T)
applied (At r ∷ es) G T =
    option_and_then (λ P.
    where_true (is_formula (context_of (scope_of G)) (value_at G r))
    (applied es G (at P.line (value_at G r)))) (path_type_of T)

abbrev pub application_typing : Means ℕ Tree → Typing → List ElementTyping → Typing
application_typing m head es = inferred m (λ G. option_and_then (applied es G) (head.infer G))

abbrev pub projected : List Projection → Tree → Tree → Option Tree
projected [] c T = Some T
projected (projection.First s ∷ ps) c T =
    option_and_then (λ F. projected ps (fst c) F.domain) (sigma_of T)
projected (projection.Second s ∷ ps) c T =
    option_and_then (λ F. projected ps (snd c) (at F.codomain (fst c))) (sigma_of T)

abbrev pub projection_typing : Means ℕ Tree → Typing → List Projection → Typing
projection_typing m pair ps =
    inferred m (λ G. option_and_then (projected ps (value_at G pair.tree)) (pair.infer G))

-- lines and motives

abbrev pub under_entry : Entry → Means ℕ Tree → Typing → OpenedTyping
under_entry x m a = record {
  opened = m;
  is_family = λ G. a.is_type (x ∷ G);
  is_small = λ G. in_universe a (x ∷ G);
}

-- A term that is applied to the name or variable is a type there where it is a path in the
-- universe, or a family of types of the numbers.

abbrev pub path_in_universe : Typing → Known → Bool
path_in_universe a G =
    holds (option_and_then path_type_of (a.infer G)) (λ P. same_tree P.line universe)

abbrev pub applied_to_name : Means ℕ Tree → Typing → OpenedTyping
applied_to_name m a =
    record { opened = m; is_family = path_in_universe a; is_small = path_in_universe a }

abbrev pub family_of_numbers : Typing → Known → Bool
family_of_numbers a G = is_tree (a.infer G) (pi nat universe)

abbrev pub applied_to_number : Means ℕ Tree → Typing → OpenedTyping
applied_to_number m a =
    record { opened = m; is_family = family_of_numbers a; is_small = family_of_numbers a }

abbrev pub recursion_typing : Means ℕ Tree → OpenedTyping → (base step n : Typing) → Typing
recursion_typing m motive base step n = inferred m λ G.
    let P = value_at G motive.opened in
    where_true
    (motive.is_family G
    && (base.check G (at P zero_tree) && (step.check G (motive_step P) && n.check G nat)))
    (Some (at P (value_at G n.tree)))

abbrev pub path_type_typing : Means ℕ Tree → OpenedTyping → (left right : Typing) → Typing
path_type_typing m line left right =
    let ends : Known → Bool = λ G.
    let A = value_at G line.opened in
    left.check G (at A i0) && right.check G (at A i1) in
    let infer : Known → Option Tree = λ G.
    where_true (line.is_small G && ends G) (Some universe) in
    record {
      tree = m;
      infer = infer;
      check = λ G W. is_tree (infer G) W;
      is_type = λ G. line.is_family G && ends G;
    }

-- a composition without sides
abbrev pub transport_typing : Means ℕ Tree → OpenedTyping → Typing → Typing
transport_typing m line base = inferred m λ G.
    let A = value_at G line.opened in
    where_true (line.is_family G && base.check G (at A i0)) (Some (at A i1))

-- with such sides
abbrev pub composition_typing : {A : Type 0} →
    Means ℕ Tree → OpenedTyping → Typing → List (Side ℕ A) → Typing
composition_typing m line base [] = transport_typing m line base
composition_typing m line base (s ∷ ss) = undirected m

-- definitions

-- the type is one, over the binders, and the body checks at it; the name stands for the body, and
-- has the type
abbrev pub definition_typing : ℕ → List BinderTyping → (type body : Typing)
    → Means ℕ (Tree × Tree) → BlockTyping
definition_typing n bs type body m G =
    let (A, t) = value_at G m in
    where_true
    (holds (enter as_type bs G) λ H.
    type.is_type H && body.check H (value_at H type.tree))
    (Some (Definition n t A ∷ G))

abbrev pub and_then : BlockTyping → BlockTyping → BlockTyping
and_then first second G = option_and_then second (first G)

-- `block in body`
abbrev pub let_typing : Means ℕ Tree → BlockTyping → Typing → Typing
let_typing m block body = record {
  tree = m;
  infer = λ G. option_and_then body.infer (block G);
  check = λ G W. holds (block G) (λ H. body.check H W);
  is_type = λ G. holds (block G) body.is_type;
}
