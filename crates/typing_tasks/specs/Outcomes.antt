-- What each task makes of a state of trees, if what is looked at is direct.
use Rattle.std.specs.Prelude.{◌&&◌, ℕ, true, Bool, List, [], ◌∷◌, map, replicate, Option}
use Rattle.std.specs.Prelude.{None, Some}
use Rattle.std.specs.Option.{option_map}
use Rattle.trees.specs.Trees.{Tree}
use Rattle.trees.specs.Judgements.{Context, Judgement}
use Rattle.trees.specs.Language.{Ty, Tm}
use Rattle.syntax.specs.declared.formula.Projection.{Projection}
use Rattle.codes.specs.declared.code.Code.{Code}
use Rattle.codes.specs.declared.code.CodeDef.{CodeDef, CodeDef'}
use Rattle.codes.specs.declared.code.Binder.{Binder as BinderOf}
use Rattle.codes.specs.declared.code.Element.{Element as ElementIn, Argument as Argument'}
use Rattle.codes.specs.declared.code.Element.{At as At'}
use Rattle.codes.specs.declared.code.Opened.{Opened}
use Rattle.codes.specs.Codes.{binder_of, definitions, formula, recursion}
use Rattle.translation.specs.Terms.{universe, nat, suc, pi, sig, lam}
use Rattle.translation.specs.Translated.{done}
use Rattle.translation.specs.Forms.{Means, Binder, Element, Argument as TheArgument}
use Rattle.translation.specs.Forms.{At as AtFormula}
use Rattle.translation.specs.Forms.{under, under_names, defined, tuple, project}
use Rattle.translation.specs.Forms.{transport, after as after_definitions, one, application}
use Rattle.translation.specs.Forms.{path_type}
use Rattle.direct.specs.Known.{Known, value_at}
use Rattle.direct.specs.Typings.{Typing, OpenedTyping, BinderTyping, ElementTyping, Argument, At}
use Rattle.direct.specs.Typings.{BlockTyping, holds, where_true, enter, as_type}
use Rattle.direct.specs.Typings.{family_typing, lambda_typing, names_typing, tuple_typing}
use Rattle.direct.specs.Typings.{and_then, transport_typing, let_typing}
use Rattle.direct.specs.Typings.{where_checked, recursion_typing, application_typing}
use Rattle.direct.specs.Typings.{projection_typing, path_type_typing}
use Rattle.direct.specs.Direct.{typing, line, motive, def_typing}
use Rattle.typing_tasks.specs.declared.tasks.Sort.{Sort}
use Rattle.typing_tasks.specs.declared.tasks.Sort.TheVariants.{Large, Small}
use Rattle.typing_tasks.specs.declared.tasks.Former.{Former}
use Rattle.typing_tasks.specs.declared.tasks.Former.TheVariants as former
use Rattle.typing_tasks.specs.States.{State, place, with_known}
use Rattle.typing_tasks.specs.States.{finding, inferring, after}

-- closed words, so that a goal shows their names

unfoldable pub typed : Code → Typing
typed = typing

unfoldable pub line_typed : Opened → OpenedTyping
line_typed = line

unfoldable pub motive_typed : Opened → OpenedTyping
motive_typed = motive

unfoldable pub definition_typed : CodeDef → BlockTyping
definition_typed = def_typing

-- the parts of forms

abbrev pub type_of : CodeDef → Code
type_of (CodeDef' x n shape bs t c) = t

abbrev pub body_of : CodeDef → Code
body_of (CodeDef' x n shape bs t c) = c

abbrev pub binder_typed : BinderOf → BinderTyping
binder_typed b = record { count = b.names; type = typed b.ty }

abbrev pub element_typed : ElementIn → ElementTyping
element_typed (Argument' c) = Argument (typed c)
element_typed (At' s f) = At (formula f)

abbrev pub block_typed : List CodeDef → BlockTyping
block_typed [] = λ G. Some G
block_typed (d ∷ ds) = and_then (definition_typed d) (block_typed ds)

-- so many variables of a type that is one
abbrev pub given : ℕ → Tree → BinderTyping
given n A = record {
  count = n;
  type = record {
    tree = λ G. done A;
    infer = λ G. None;
    check = λ G W. true;
    is_type = λ G. true;
  };
}

abbrev pub binders_of : List BinderTyping → List (Binder ℕ)
binders_of = map (λ b. binder_of b.count b.type.tree)

abbrev pub former_of : Former → Tree → Tree → Tree
former_of former.Pi = pi
former_of former.Sigma = sig

abbrev pub family : Former → List BinderTyping → Typing → Typing
family f bs t = family_typing (under (former_of f) (binders_of bs) t.tree) bs t

abbrev pub function : List BinderTyping → Typing → Typing
function bs t = lambda_typing (under lam (binders_of bs) t.tree) bs t

abbrev pub path_function : ℕ → Typing → Typing
path_function n t = names_typing (under_names (replicate n 0) t.tree) n t

abbrev pub tuple_of : List Typing → Typing
tuple_of ts = tuple_typing (tuple (map (λ t. t.tree) ts)) ts

abbrev pub element_of : ElementTyping → Element ℕ
element_of (Argument t) = TheArgument t.tree
element_of (At r) = AtFormula r

abbrev pub let_of : List CodeDef → Typing → Typing
let_of ds t = let_typing (after_definitions (definitions ds) t.tree) (block_typed ds) t

abbrev pub successor_of : Typing → Typing
successor_of t = where_checked (one suc t.tree) t nat nat

abbrev pub recursion_of : OpenedTyping → (base step n : Typing) → Typing
recursion_of m base step n =
    recursion_typing (recursion m.opened base.tree step.tree n.tree) m base step n

abbrev pub application_of : Typing → List ElementTyping → Typing
application_of t es = application_typing (application t.tree (map element_of es)) t es

abbrev pub projection_of : Typing → List Projection → Typing
projection_of t ps = projection_typing (one (λ c. project c ps) t.tree) t ps

abbrev pub path_type_of : OpenedTyping → (left right : Typing) → Typing
path_type_of l left right =
    path_type_typing (path_type l.opened left.tree right.tree) l left right

-- a composition without sides
abbrev pub transported : OpenedTyping → Typing → Typing
transported line base = transport_typing (transport line.opened base.tree) line base

-- what the main tasks make of a state

abbrev pub infer : Typing → State → Option State
infer t S =
    option_map (λ A. inferring (value_at S.known t.tree) A (after t.tree S)) (t.infer S.known)

abbrev pub check : Typing → Tree → State → Option State
check t W S =
    where_true (t.check S.known W)
    (Some (finding (Tm (place S) (value_at S.known t.tree) W) (after t.tree S)))

-- that a tree is a type, or a term of the universe
abbrev pub formed : Sort → Context → Tree → Judgement
formed Large H A = Ty H A
formed Small H A = Tm H A universe

abbrev pub passes : Sort → Typing → Known → Bool
passes Large t G = t.is_type G
passes Small t G = t.check G universe

abbrev pub form : Sort → Typing → State → Option State
form sort t S =
    where_true (passes sort t S.known)
    (Some (finding (formed sort (place S) (value_at S.known t.tree)) (after t.tree S)))

abbrev pub block : List CodeDef → State → Option State
block ds S =
    option_map (λ G. with_known G (after (definitions ds) S)) (block_typed ds S.known)

-- a type over binders, and a body of it
abbrev pub statement : List BinderTyping → Typing → Typing → State → Option State
statement bs type body S =
    let m : Means ℕ (Tree × Tree) = defined (binders_of bs) type.tree done body.tree in
    let (A, t) = value_at S.known m in
    where_true
    (holds (enter as_type bs S.known) λ H.
    type.is_type H && body.check H (value_at H type.tree))
    (Some (finding (Tm (place S) t A) (finding (Ty (place S) A) (after m S))))

abbrev pub opened_passes : Sort → OpenedTyping → Known → Bool
opened_passes Large o G = o.is_family G
opened_passes Small o G = o.is_small G

-- a line or a motive, over one more entry of the place
abbrev pub opened : Sort → Context → OpenedTyping → State → Option State
opened sort H o S =
    where_true (opened_passes sort o S.known)
    (Some (finding (formed sort H (value_at S.known o.opened)) (after o.opened S)))
