-- The parser's values as those of the machine.
use Rattle.std.specs.Prelude.{ℕ, ◌≡◌, ◌-◌, List, Option, Some, None, Result, Ok, Err, map}
use Rattle.std.specs.Prelude.{reverse}
use Rattle.layout_lexer.specs.declared.token.Span.{Span}
use Rattle.layout_lexer.specs.declared.token.Token.{Token}
use Rattle.syntax.specs.declared.exp.Exp.{Exp}
use Rattle.syntax.specs.Tree.{Tree, Arrow, Let, PathLambda}
use Rattle.syntax.specs.View.{formula_of, tree_of, exps_of, elements_of, teles_of, sides_of}
use Rattle.syntax.specs.View.{defs_of, module_of}
use Rattle.productions.specs.Words as W
use Rattle.productions.specs.Machine as M
use Rattle.productions.specs.Grammar.{from, shallow}
use Rattle.productions.specs.declared.past.Past.{Past}
use Rattle.parser_states.specs.declared.words.Composing.{Composing}
use Rattle.parser_states.specs.declared.words.Composing.TheVariants.{Composed, Filled}
use Rattle.parser_states.specs.declared.words.Gluing.{Gluing}
use Rattle.parser_states.specs.declared.words.Gluing.TheVariants as G
use Rattle.parser_states.specs.declared.words.Pairing.{Pairing}
use Rattle.parser_states.specs.declared.words.Pairing.TheVariants as P
use Rattle.parser_states.specs.declared.words.FormWord.{FormWord}
use Rattle.parser_states.specs.declared.words.FormWord.TheVariants as F
use Rattle.parser_states.specs.declared.state.Spine.{Spine}
use Rattle.parser_states.specs.declared.state.Place.{Place}
use Rattle.parser_states.specs.declared.state.Place.TheVariants as PL
use Rattle.parser_states.specs.declared.state.Slot.{Slot}
use Rattle.parser_states.specs.declared.state.Slot.TheVariants as SL
use Rattle.parser_states.specs.declared.state.HeldSlot.{HeldSlot}
use Rattle.parser_states.specs.declared.state.HeldSlot.TheVariants as HS
use Rattle.parser_states.specs.declared.state.Owner.{Owner}
use Rattle.parser_states.specs.declared.state.Owner.TheVariants as O
use Rattle.parser_states.specs.declared.state.SidesSoFar.{SidesSoFar}
use Rattle.parser_states.specs.declared.state.Use.{Use}
use Rattle.parser_states.specs.declared.state.Use.TheVariants as U
use Rattle.parser_states.specs.declared.state.TelesSoFar.{TelesSoFar}
use Rattle.parser_states.specs.declared.state.Binder.{Binder}
use Rattle.parser_states.specs.declared.state.Binder.TheVariants as B
use Rattle.parser_states.specs.declared.state.Typing.{Typing}
use Rattle.parser_states.specs.declared.state.Bracket.{Bracket}
use Rattle.parser_states.specs.declared.state.Frame.{Frame}
use Rattle.parser_states.specs.declared.state.Frame.TheVariants as FR
use Rattle.parser_states.specs.declared.state.Inner.{Inner}
use Rattle.parser_states.specs.declared.state.Inner.TheVariants as I
use Rattle.parser_states.specs.declared.state.Operand.{Operand}
use Rattle.parser_states.specs.declared.state.Given.{Given}
use Rattle.parser_states.specs.declared.state.Given.TheVariants as GV
use Rattle.parser_states.specs.declared.state.Prefix.{Prefix}
use Rattle.parser_states.specs.declared.state.Prefix.TheVariants as PR
use Rattle.parser_states.specs.declared.state.Heading.{Heading}
use Rattle.parser_states.specs.declared.state.Heading.TheVariants as HD
use Rattle.parser_states.specs.declared.state.Items.{Items}
use Rattle.parser_states.specs.declared.state.Items.TheVariants as IT
use Rattle.parser_states.specs.declared.state.Block.{Block}
use Rattle.parser_states.specs.declared.state.Block.TheVariants as BL
use Rattle.parser_states.specs.declared.state.Names.{Names}
use Rattle.parser_states.specs.declared.state.Names.TheVariants as NM
use Rattle.parser_states.specs.declared.state.System.{System}
use Rattle.parser_states.specs.declared.state.System.TheVariants as SY
use Rattle.parser_states.specs.declared.state.BracketNames.{BracketNames}
use Rattle.parser_states.specs.declared.state.Projected.{Projected}
use Rattle.parser_states.specs.declared.state.Top.{Top}
use Rattle.parser_states.specs.declared.state.Top.TheVariants as T
use Rattle.parser_states.specs.declared.state.Parser.{Parser}
use Rattle.parser_states.specs.declared.state.Stop.{Stop}
use Rattle.parser_states.specs.declared.state.Stop.TheVariants.{Unexpected, Memory}

abbrev pub composing_of : Composing → W.Composing
composing_of Composed = W.Composed
composing_of Filled = W.Filled

abbrev pub gluing_of : Gluing → W.Gluing
gluing_of G.Type = W.GluedType
gluing_of G.Term = W.GluedTerm
gluing_of G.Unglued = W.Unglued

abbrev pub pairing_of : Pairing → W.Pairing
pairing_of P.Path = W.PathWord
pairing_of (P.Composing c) = W.ComposingWord (composing_of c)
pairing_of P.Transport = W.TransportWord

abbrev pub form_word_of : FormWord → W.FormWord
form_word_of (F.Pairing w) = W.PairingWord (pairing_of w)
form_word_of (F.Gluing w) = W.GluingWord (gluing_of w)

-- a form's word, if one begins with this token
abbrev pub IsNoForm : W.Word → Type 0
IsNoForm (W.Form w) = ⊥
IsNoForm w = Unit {0}

abbrev pub IsFormWord : W.Word → Option FormWord → Type 0
IsFormWord w (Some x) = w ≡ W.Form (form_word_of x)
IsFormWord w None = IsNoForm w

abbrev pub spine_of : Spine → M.Place
spine_of x = M.Element x.room x.next x.start (tree_of x.head) (elements_of x.elements)

abbrev pub spined_of : Spine → M.Top
spined_of x = M.Spined x.room x.next x.start (tree_of x.head) (elements_of x.elements)

abbrev pub place_of : Place → M.Place
place_of (PL.Head r s) = M.Head r s
place_of (PL.Element x) = spine_of x.value

abbrev pub slot_of : Slot → M.Slot
slot_of (SL.Whole pl) = M.Whole (place_of pl)
slot_of (SL.First w s pl) = M.FirstOf (form_word_of w) s (place_of pl)
slot_of (SL.Second w s x pl) = M.SecondOf (pairing_of w) s (tree_of x.value) (place_of pl)
slot_of (SL.Third s x y pl) = M.ThirdOf s (tree_of x.value) (tree_of y.value) (place_of pl)

abbrev pub held_of : HeldSlot → M.Slot
held_of (HS.Head r s) = M.Whole (M.Head r s)
held_of (HS.Other b) = slot_of b.value

abbrev pub owner_of : Owner → M.Owner
owner_of (O.Composing w s x y pl) =
    M.OfComposing (composing_of w) s (tree_of x.value) (tree_of y.value) (place_of pl)
owner_of (O.Gluing w s x pl) = M.OfGluing (gluing_of w) s (tree_of x.value) (place_of pl)

abbrev pub given_of : Given → M.Top
given_of (GV.Spined x) = spined_of x.value
given_of (GV.Exp4 slot) = M.WantExp4 (slot_of slot)
given_of (GV.System o) = M.WantSystem (owner_of o)

abbrev pub use_of : Use → M.Use
use_of (U.Lambda s) = M.ForLambda s
use_of (U.Product s) = M.ForProduct s
use_of (U.Def n) = M.ForDef n.value.fall (defs_of n.value.defs) n.value.name

abbrev pub binder_of : Binder → M.Binder
binder_of B.Lambda = M.OfLambda
binder_of B.Pi = M.OfPi
binder_of B.Sigma = M.OfSigma

abbrev pub prefix_of : Prefix → M.Frame
prefix_of (PR.Arrow r i x) = M.InArrow r i (tree_of x)
prefix_of (PR.Binder b r i xs) = M.InBinder (binder_of b) r i (teles_of xs)
prefix_of (PR.Path r i ns) = M.InPath r i ns
prefix_of (PR.LetBody r i ds) = M.InLetBody r i (defs_of ds)

-- the whole of a prefix and what it ends with
abbrev pub prefixed : Prefix → Past → Tree → Tree
prefixed (PR.Arrow r i x) p y = Arrow (from i p) (tree_of x) (shallow (r - 1) y)
prefixed (PR.Binder b r i xs) p y =
    M.bind (binder_of b) (from i p) (teles_of xs) (shallow (r - 1) y)
prefixed (PR.Path r i ns) p y = PathLambda (from i p) ns (shallow (r - 1) y)
prefixed (PR.LetBody r i ds) p y = Let (from i p) (defs_of ds) (shallow (r - 1) y)

abbrev pub in_type : Typing → M.Frame
in_type d = M.InType d.fall d.room (defs_of d.defs) d.name (teles_of d.teles)

abbrev pub in_body : Typing → Exp → M.Frame
in_body d t = M.InBody d.fall d.room (defs_of d.defs) d.name (teles_of d.teles) (tree_of t)

abbrev pub in_where : Typing → Exp → Exp → M.Frame
in_where d t b =
    M.InWhere d.fall d.room (defs_of d.defs) d.name (teles_of d.teles) (tree_of t) (tree_of b)

abbrev pub in_bracket : Bracket → M.Frame
in_bracket x = M.InBracket (held_of x.slot) x.start x.room (exps_of x.before)

abbrev pub in_tele : TelesSoFar → List Span → M.Frame
in_tele x ns = M.InTele (use_of x.purpose) x.whole x.room (teles_of x.teles) ns

abbrev pub in_side : SidesSoFar → M.Frame
in_side x = M.InSide (owner_of x.owner) x.room (sides_of x.sides) x.equations

abbrev pub frame_of : Frame → M.Frame
frame_of (FR.Prefix b) = prefix_of b
frame_of (FR.Bracket x) = in_bracket x
frame_of (FR.Tele x ns) = in_tele x ns
frame_of (FR.Let r i) = M.InLet r i
frame_of (FR.Side x) = in_side x.value
frame_of (FR.Type d) = in_type d.value
frame_of (FR.Body d t) = in_body d.value t
frame_of (FR.Where d t b) = in_where d.value t.value b.value
frame_of (FR.Module n is) = M.InModule n is

-- the top of the stack is last in the program, and first in the machine
abbrev pub stack_of : List Frame → List M.Frame
stack_of fs = reverse (map frame_of fs)

abbrev pub inner_of : Inner → M.Inner
inner_of (I.Negation r s) = M.InNegation r s
inner_of (I.Meet r s f) = M.InMeet r s (formula_of f)
inner_of (I.Join r s f) = M.InJoin r s (formula_of f)
inner_of (I.Parens r s) = M.InParens r s

abbrev pub inners_of : List Inner → List M.Inner
inners_of fs = reverse (map inner_of fs)

abbrev pub have_neg : Spine → ℕ → List Inner → Operand → M.Top
have_neg x i fs f = M.HaveNeg (spine_of x) i (inners_of fs) f.room f.start (formula_of f.formula)

abbrev pub heading_of : Heading → M.Top
heading_of HD.Nothing = M.WantModule
heading_of HD.Word = M.WantModuleName
heading_of (HD.Name n) = M.WantModuleWhere n
heading_of (HD.Where n) = M.WantModuleOpen n
heading_of (HD.Open n) = M.FirstItem n

abbrev pub items_of : Items → M.Top
items_of (IT.Import n is) = M.WantImport n is
items_of (IT.AfterImport n is) = M.AfterImport n is
items_of (IT.Next n is) = M.NextItem n is

abbrev pub block_of : Block → M.Top
block_of (BL.Word r) = M.WantBlock r
block_of (BL.Open r) = M.BlockStart r
block_of (BL.Next f r ds) = M.WantDef f r (defs_of ds)
block_of (BL.AfterDef f r ds) = M.AfterDef f r (defs_of ds)
block_of (BL.LetClose r i ds) = M.WantIn r i (defs_of ds)

abbrev pub names_of : Names → M.Top
names_of (NM.PathSign r i) = M.WantPathName r i
names_of (NM.Path r i ns rn) = M.PathName r i ns rn
names_of (NM.Backslash r i) = M.WantTele r i
names_of (NM.Tele x) = M.TeleName (use_of x.purpose) x.whole x.room (teles_of x.teles)
names_of (NM.TeleNames x ns rn) =
    M.TeleMore (use_of x.purpose) x.whole x.room (teles_of x.teles) ns rn
names_of (NM.AfterTele x) = M.AfterTele (use_of x.purpose) x.whole x.room (teles_of x.teles)

abbrev pub system_of : System → M.Top
system_of (SY.Open o) = M.SystemStart (owner_of o)
system_of (SY.Side x) = M.WantSide (owner_of x.owner) x.room (sides_of x.sides) x.equations
system_of (SY.Equation x) =
    M.EquationName (owner_of x.owner) x.room (sides_of x.sides) x.equations
system_of (SY.Name x n) =
    M.EquationSign (owner_of x.owner) x.room (sides_of x.sides) x.equations n
system_of (SY.Sign x n) = M.EquationEnd (owner_of x.owner) x.room (sides_of x.sides) x.equations n
system_of (SY.End x) = M.EquationClose (owner_of x.owner) x.room (sides_of x.sides) x.equations

abbrev pub maybe_of : BracketNames → M.Top
maybe_of x = M.Maybe x.room x.start x.names x.next (place_of x.place) x.last x.deep

abbrev pub projected_of : Projected → M.Top
projected_of x = M.Projected (slot_of x.slot) x.next x.start (tree_of x.exp) x.projections

abbrev pub top_of : Top → M.Top
top_of (T.Heading t) = heading_of t
top_of (T.Items t) = items_of t
top_of (T.Block t) = block_of t
top_of (T.Done m) = M.Done (module_of m)
top_of (T.Exp r) = M.WantExp r
top_of (T.Exp1 r) = M.WantExp1 r
top_of (T.Names t) = names_of t
top_of (T.Opened r i) = M.Opened r i
top_of (T.Maybe x) = maybe_of x
top_of (T.Projected x) = projected_of x
top_of (T.Given t) = given_of t
top_of (T.Neg x i fs r) = M.WantNeg (spine_of x.value) i (inners_of fs.items) r
top_of (T.HaveNeg x i fs f) = have_neg x.value i fs.items f
top_of (T.System t) = system_of t

abbrev pub view : Parser → M.State
view x = record { top = top_of x.top; past = x.past; stack = stack_of x.stack.items }

-- a step of the machine, on a token
abbrev pub on : Token → (W.Word → ℕ → ℕ → Option M.State) → Option M.State
on t step = step (W.word_of t.kind) t.start t.end

-- What a function gave, seen by a view, is what the machine gives, unless memory ran out.
abbrev pub Fails : {A : Type 0} → Stop → Option A → Type 0
Fails Unexpected o = o ≡ None
Fails Memory o = Unit {0}

abbrev pub Gives : {X Y : Type 0} → (X → Y) → Result X Stop → Option Y → Type 0
Gives f (Ok x) o = o ≡ Some (f x)
Gives f (Err e) o = Fails e o
