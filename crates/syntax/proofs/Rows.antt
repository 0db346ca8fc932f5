-- A row in an expression is the list that it was made of.
use Rattle.std.proofs.Common.{◌≡◌, List, [], ◌∷◌, ◌++◌, Vec, Global, Box, Result, Ok, Err, OnErr, refl, sym, ap, ◌∙◌}
use mathlib.Core.Former.{Count}
use Rattle.layout_lexer.specs.declared.token.Span.{Span}
use Rattle.syntax.specs.declared.exp.Exp.{Exp, Brackets as Brackets_, Brackets', Apply as Apply_, Apply', Row_of-Exp, end_of-Exp, more_of-Exp, items-the_row-Exp, items_hidden-the_row-Exp-1, Row_of-Element, end_of-Element, more_of-Element, items-the_row-Element, items_hidden-the_row-Element-0}
use Rattle.syntax.specs.declared.exp.Exps.{Exps}
use Rattle.syntax.specs.declared.exp.Elements.{Elements}
use Rattle.syntax.specs.declared.exp.Tele.{Tele as TeleOf}
use Rattle.syntax.specs.declared.exp.Side.{Side as SideOf}
use Rattle.syntax.specs.declared.exp.Def.{Def as DefOf}
use Rattle.syntax.specs.declared.exp.Teles.{Teles, Teles', Row_of-Tele, end_of-Tele, more_of-Tele, items-the_row-Tele, items_hidden-the_row-Tele-4, out-Teles, roll-Teles, roll-out-Teles}
use Rattle.syntax.specs.declared.exp.Sides.{Sides, Sides', Row_of-Side, end_of-Side, more_of-Side, items-the_row-Side, items_hidden-the_row-Side-3, out-Sides, roll-Sides, roll-out-Sides}
use Rattle.syntax.specs.declared.exp.Defs.{Defs, Defs', Row_of-Def, end_of-Def, more_of-Def, items-the_row-Def, items_hidden-the_row-Def-2, out-Defs, roll-Defs, roll-out-Defs}
use Rattle.syntax.specs.Tree.{Tree, Apply, Brackets, more, with, Tele, Side}
use Rattle.syntax.specs.View.{tree_of, exps_in, element_of, elements_in, elements_of, exps_of, tele_of, teles_of, teles_in, side_of, sides_of, sides_in, def_of, defs_of, defs_in, tree_list}

exps_row : (n : _) (row : Row_of-Exp n) → exps_in row ≡ tree_list tree_of (items-the_row-Exp n row)
exps_row n end_of-Exp = refl
exps_row n (more_of-Exp e rest) = ap (more (tree_of e)) (exps_row _ rest)

elements_row : (n : _) (row : Row_of-Element n) → elements_in row ≡ tree_list element_of (items-the_row-Element n row)
elements_row n end_of-Element = refl
elements_row n (more_of-Element e rest) = ap (more (element_of e)) (elements_row _ rest)

teles_row : (n : _) (row : Row_of-Tele n) → teles_in row ≡ tree_list tele_of (items-the_row-Tele n row)
teles_row n end_of-Tele = refl
teles_row n (more_of-Tele ns t rest) = ap (more (Tele ns (tree_of t))) (teles_row _ rest)

sides_row : (n : _) (row : Row_of-Side n) → sides_in row ≡ tree_list side_of (items-the_row-Side n row)
sides_row n end_of-Side = refl
sides_row n (more_of-Side eqs e rest) = ap (more (Side eqs (tree_of e))) (sides_row _ rest)

defs_row : (n : _) (row : Row_of-Def n) → defs_in row ≡ tree_list def_of (items-the_row-Def n row)
defs_row n end_of-Def = refl
defs_row n (more_of-Def d rest) = ap (more (def_of d)) (defs_row _ rest)

abbrev exps_under : Exp → (n : Count) × Row_of-Exp n
exps_under (Brackets' s _ row) = (_, row)
exps_under _ = (_, end_of-Exp)

abbrev elements_under : Exp → (n : Count) × Row_of-Element n
elements_under (Apply' s p f _ row) = (_, row)
elements_under _ = (_, end_of-Element)

pub tree_of_brackets : (s : Span) (es : Exps) → tree_of (Brackets_ s es) ≡ Brackets s (exps_of es)
tree_of_brackets s es =
    let row = exps_under (Brackets_ s es) in
    ap (Brackets s) (exps_row row.0 row.1 ∙ ap (tree_list tree_of) (items_hidden-the_row-Exp-1 es.items))

pub tree_of_apply : (s : Span) (f : Box Exp Global) (es : Elements) → tree_of (Apply_ s f es) ≡ Apply s (tree_of f.value) (elements_of es)
tree_of_apply s f es =
    let row = elements_under (Apply_ s f es) in
    ap (Apply s (tree_of f.value)) (elements_row row.0 row.1 ∙ ap (tree_list element_of) (items_hidden-the_row-Element-0 es.items))

abbrev teles_under : Teles → (n : Count) × Row_of-Tele n
teles_under (Teles' shape row) = (_, row)

abbrev sides_under : Sides → (n : Count) × Row_of-Side n
sides_under (Sides' shape row) = (_, row)

abbrev defs_under : Defs → (n : Count) × Row_of-Def n
defs_under (Defs' shape row) = (_, row)

pub teles_of_roll : (v : Vec TeleOf Global) → teles_of (roll-Teles (record { items = v })) ≡ tree_list tele_of v.items
unfolding roll-Teles denote.Hole.Carrier.roll
teles_of_roll v =
    let row = teles_under (roll-Teles (record { items = v })) in
    teles_row row.0 row.1 ∙ ap (tree_list tele_of) (items_hidden-the_row-Tele-4 v)

pub sides_of_roll : (v : Vec SideOf Global) → sides_of (roll-Sides (record { items = v })) ≡ tree_list side_of v.items
unfolding roll-Sides denote.Hole.Carrier.roll
sides_of_roll v =
    let row = sides_under (roll-Sides (record { items = v })) in
    sides_row row.0 row.1 ∙ ap (tree_list side_of) (items_hidden-the_row-Side-3 v)

pub defs_of_roll : (v : Vec DefOf Global) → defs_of (roll-Defs (record { items = v })) ≡ tree_list def_of v.items
unfolding roll-Defs denote.Hole.Carrier.roll
defs_of_roll v =
    let row = defs_under (roll-Defs (record { items = v })) in
    defs_row row.0 row.1 ∙ ap (tree_list def_of) (items_hidden-the_row-Def-2 v)

pub teles_of_items : (xs : Teles) → teles_of xs ≡ tree_list tele_of (out-Teles xs).items.items
teles_of_items xs = ap teles_of (sym (roll-out-Teles xs)) ∙ teles_of_roll (out-Teles xs).items

pub sides_of_items : (ss : Sides) → sides_of ss ≡ tree_list side_of (out-Sides ss).items.items
sides_of_items ss = ap sides_of (sym (roll-out-Sides ss)) ∙ sides_of_roll (out-Sides ss).items

pub defs_of_items : (ds : Defs) → defs_of ds ≡ tree_list def_of (out-Defs ds).items.items
defs_of_items ds = ap defs_of (sym (roll-out-Defs ds)) ∙ defs_of_roll (out-Defs ds).items

pub list_push : {A : Type 0} (f : A → Tree) (xs : List A) (x : A) → tree_list f (xs ++ x ∷ []) ≡ with (tree_list f xs) (f x)
list_push f [] x = refl
list_push f (y ∷ ys) x = ap (more (f y)) (list_push f ys x)

pub always_on_err : {A E : Type 0} {P : Type 0} (r : Result A E) → P → OnErr r P
always_on_err (Ok x) p = tt
always_on_err (Err e) p = p
