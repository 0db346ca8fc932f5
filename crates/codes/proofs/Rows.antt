-- A row in a code is the list that it was made of.
use Rattle.std.proofs.Common.{◌≡◌, ℕ, ◌∷◌, map, Vec, Global, Box, refl, ap, ◌∙◌}
use mathlib.Core.Former.{Count}
use Rattle.layout_lexer.specs.declared.token.Span.{Span}
use Rattle.translation.specs.Forms.{after, under, application, tuple, composition, fill, glue_of_types, glue_of_terms, unglued, define, defined}
use Rattle.translation.specs.Terms.{pi, sig, lam}
use Rattle.codes.specs.declared.code.Code.{Code, Let as Let_, Let', Pi as Pi_, Pi', Sigma as Sigma_, Sigma', Lambda as Lambda_, Lambda', Apply as Apply_, Apply', Tuple as Tuple_, Tuple', Comp as Comp_, Comp', Fill as Fill_, Fill', GlueType as GlueType_, GlueType', GlueTerm as GlueTerm_, GlueTerm', Unglue as Unglue_, Unglue', Row_of-CodeDef, end_of-CodeDef, more_of-CodeDef, items-the_row-CodeDef, Row_of-Binder, end_of-Binder, more_of-Binder, items-the_row-Binder, Row_of-Element, end_of-Element, more_of-Element, items-the_row-Element, Row_of-Code, end_of-Code, more_of-Code, items-the_row-Code, Row_of-LineSide, end_of-LineSide, more_of-LineSide, items-the_row-LineSide, Row_of-PairSide, end_of-PairSide, more_of-PairSide, items-the_row-PairSide, Row_of-Side, end_of-Side, more_of-Side, items-the_row-Side, items_hidden-the_row-Binder-1, items_hidden-the_row-Code-3, items_hidden-the_row-CodeDef-0, items_hidden-the_row-Element-2, items_hidden-the_row-LineSide-4, items_hidden-the_row-PairSide-5, items_hidden-the_row-Side-6}
use Rattle.codes.specs.declared.code.Binder.{Binder as BinderOf}
use Rattle.codes.specs.declared.code.Element.{Element}
use Rattle.codes.specs.declared.code.Opened.{Opened}
use Rattle.codes.specs.declared.code.Side.{Side}
use Rattle.codes.specs.declared.code.LineSide.{LineSide}
use Rattle.codes.specs.declared.code.PairSide.{PairSide}
use Rattle.codes.specs.declared.code.CodeDef.{CodeDef, CodeDef', roll-CodeDef}
use Rattle.translation.specs.Translated.{done}
use Rattle.codes.specs.Codes.{meaning, binder, element, definitions, definition, term_side, line_side, pair_side, components, binders, elements, locals, term_sides, line_sides, pair_sides, side_of, binder_of, both, at_name, and_then}

pub locals_row : (n : _) (row : Row_of-CodeDef n) → locals row ≡ definitions (items-the_row-CodeDef n row)
locals_row n end_of-CodeDef = refl
locals_row n (more_of-CodeDef d rest) = ap (and_then (definition d)) (locals_row _ rest)

pub binders_row : (n : _) (row : Row_of-Binder n) → binders row ≡ map binder (items-the_row-Binder n row)
binders_row n end_of-Binder = refl
binders_row n (more_of-Binder k c rest) = ap (λ xs. binder_of k (meaning c) ∷ xs) (binders_row _ rest)

pub elements_row : (n : _) (row : Row_of-Element n) → elements row ≡ map element (items-the_row-Element n row)
elements_row n end_of-Element = refl
elements_row n (more_of-Element e rest) = ap (λ xs. element e ∷ xs) (elements_row _ rest)

pub components_row : (n : _) (row : Row_of-Code n) → components row ≡ map meaning (items-the_row-Code n row)
components_row n end_of-Code = refl
components_row n (more_of-Code c rest) = ap (λ xs. meaning c ∷ xs) (components_row _ rest)

pub term_sides_row : (n : _) (row : Row_of-Side n) → term_sides row ≡ map term_side (items-the_row-Side n row)
term_sides_row n end_of-Side = refl
term_sides_row n (more_of-Side es s c rest) = ap (λ xs. side_of es.items (meaning c) ∷ xs) (term_sides_row _ rest)

pub line_sides_row : (n : _) (row : Row_of-LineSide n) → line_sides row ≡ map line_side (items-the_row-LineSide n row)
line_sides_row n end_of-LineSide = refl
line_sides_row n (more_of-LineSide es l rest) = ap (λ xs. side_of es.items (at_name l) ∷ xs) (line_sides_row _ rest)

pub pair_sides_row : (n : _) (row : Row_of-PairSide n) → pair_sides row ≡ map pair_side (items-the_row-PairSide n row)
pair_sides_row n end_of-PairSide = refl
pair_sides_row n (more_of-PairSide es s T w rest) = ap (λ xs. side_of es.items (both (meaning T) (meaning w)) ∷ xs) (pair_sides_row _ rest)

-- forms

abbrev pub row_of-CodeDef : Code → (n : Count) × Row_of-CodeDef n
row_of-CodeDef (Let' s _ row p c) = (_, row)
row_of-CodeDef _ = (_, end_of-CodeDef)

abbrev pub row_of-Binder : Code → (n : Count) × Row_of-Binder n
row_of-Binder (Pi' s _ row p c) = (_, row)
row_of-Binder (Sigma' s _ row p c) = (_, row)
row_of-Binder (Lambda' s _ row p c) = (_, row)
row_of-Binder _ = (_, end_of-Binder)

abbrev pub row_of-Element : Code → (n : Count) × Row_of-Element n
row_of-Element (Apply' s p c _ row) = (_, row)
row_of-Element _ = (_, end_of-Element)

abbrev pub row_of-Code : Code → (n : Count) × Row_of-Code n
row_of-Code (Tuple' s _ row) = (_, row)
row_of-Code _ = (_, end_of-Code)

abbrev pub row_of-LineSide : Code → (n : Count) × Row_of-LineSide n
row_of-LineSide (Comp' s p l q a _ row) = (_, row)
row_of-LineSide (Fill' s p l q a _ row) = (_, row)
row_of-LineSide _ = (_, end_of-LineSide)

abbrev pub row_of-PairSide : Code → (n : Count) × Row_of-PairSide n
row_of-PairSide (GlueType' s p a _ row) = (_, row)
row_of-PairSide (Unglue' s p a _ row) = (_, row)
row_of-PairSide _ = (_, end_of-PairSide)

abbrev pub row_of-Side : Code → (n : Count) × Row_of-Side n
row_of-Side (GlueTerm' s p a _ row) = (_, row)
row_of-Side _ = (_, end_of-Side)

pub meaning_of-Let : (s : Span) (ds : Vec CodeDef Global) (c : Box Code Global) → meaning (Let_ s ds c) ≡ after (definitions ds.items) (meaning c.value)
meaning_of-Let s ds c =
    let row = row_of-CodeDef (Let_ s ds c) in
    ap (λ xs. after xs (meaning c.value)) (locals_row row.0 row.1 ∙ ap (λ ys. definitions ys) (items_hidden-the_row-CodeDef-0 ds))

pub meaning_of-Pi : (s : Span) (ds : Vec BinderOf Global) (c : Box Code Global) → meaning (Pi_ s ds c) ≡ under pi (map binder ds.items) (meaning c.value)
meaning_of-Pi s ds c =
    let row = row_of-Binder (Pi_ s ds c) in
    ap (λ xs. under pi xs (meaning c.value)) (binders_row row.0 row.1 ∙ ap (λ ys. map binder ys) (items_hidden-the_row-Binder-1 ds))

pub meaning_of-Sigma : (s : Span) (ds : Vec BinderOf Global) (c : Box Code Global) → meaning (Sigma_ s ds c) ≡ under sig (map binder ds.items) (meaning c.value)
meaning_of-Sigma s ds c =
    let row = row_of-Binder (Sigma_ s ds c) in
    ap (λ xs. under sig xs (meaning c.value)) (binders_row row.0 row.1 ∙ ap (λ ys. map binder ys) (items_hidden-the_row-Binder-1 ds))

pub meaning_of-Lambda : (s : Span) (ds : Vec BinderOf Global) (c : Box Code Global) → meaning (Lambda_ s ds c) ≡ under lam (map binder ds.items) (meaning c.value)
meaning_of-Lambda s ds c =
    let row = row_of-Binder (Lambda_ s ds c) in
    ap (λ xs. under lam xs (meaning c.value)) (binders_row row.0 row.1 ∙ ap (λ ys. map binder ys) (items_hidden-the_row-Binder-1 ds))

pub meaning_of-Apply : (s : Span) (c : Box Code Global) (ds : Vec Element Global) → meaning (Apply_ s c ds) ≡ application (meaning c.value) (map element ds.items)
meaning_of-Apply s c ds =
    let row = row_of-Element (Apply_ s c ds) in
    ap (λ xs. application (meaning c.value) xs) (elements_row row.0 row.1 ∙ ap (λ ys. map element ys) (items_hidden-the_row-Element-2 ds))

pub meaning_of-Tuple : (s : Span) (ds : Vec Code Global) → meaning (Tuple_ s ds) ≡ tuple (map meaning ds.items)
meaning_of-Tuple s ds =
    let row = row_of-Code (Tuple_ s ds) in
    ap (λ xs. tuple xs) (components_row row.0 row.1 ∙ ap (λ ys. map meaning ys) (items_hidden-the_row-Code-3 ds))

pub meaning_of-Comp : (s : Span) (l : Box Opened Global) (c : Box Code Global) (ds : Vec LineSide Global) → meaning (Comp_ s l c ds) ≡ composition (at_name l.value) (meaning c.value) (map line_side ds.items)
meaning_of-Comp s l c ds =
    let row = row_of-LineSide (Comp_ s l c ds) in
    ap (λ xs. composition (at_name l.value) (meaning c.value) xs) (line_sides_row row.0 row.1 ∙ ap (λ ys. map line_side ys) (items_hidden-the_row-LineSide-4 ds))

pub meaning_of-Fill : (s : Span) (l : Box Opened Global) (c : Box Code Global) (ds : Vec LineSide Global) → meaning (Fill_ s l c ds) ≡ fill (at_name l.value) (meaning c.value) (map line_side ds.items)
meaning_of-Fill s l c ds =
    let row = row_of-LineSide (Fill_ s l c ds) in
    ap (λ xs. fill (at_name l.value) (meaning c.value) xs) (line_sides_row row.0 row.1 ∙ ap (λ ys. map line_side ys) (items_hidden-the_row-LineSide-4 ds))

pub meaning_of-GlueType : (s : Span) (c : Box Code Global) (ds : Vec PairSide Global) → meaning (GlueType_ s c ds) ≡ glue_of_types (meaning c.value) (map pair_side ds.items)
meaning_of-GlueType s c ds =
    let row = row_of-PairSide (GlueType_ s c ds) in
    ap (λ xs. glue_of_types (meaning c.value) xs) (pair_sides_row row.0 row.1 ∙ ap (λ ys. map pair_side ys) (items_hidden-the_row-PairSide-5 ds))

pub meaning_of-GlueTerm : (s : Span) (c : Box Code Global) (ds : Vec Side Global) → meaning (GlueTerm_ s c ds) ≡ glue_of_terms (meaning c.value) (map term_side ds.items)
meaning_of-GlueTerm s c ds =
    let row = row_of-Side (GlueTerm_ s c ds) in
    ap (λ xs. glue_of_terms (meaning c.value) xs) (term_sides_row row.0 row.1 ∙ ap (λ ys. map term_side ys) (items_hidden-the_row-Side-6 ds))

pub meaning_of-Unglue : (s : Span) (c : Box Code Global) (ds : Vec PairSide Global) → meaning (Unglue_ s c ds) ≡ unglued (meaning c.value) (map pair_side ds.items)
meaning_of-Unglue s c ds =
    let row = row_of-PairSide (Unglue_ s c ds) in
    ap (λ xs. unglued (meaning c.value) xs) (pair_sides_row row.0 row.1 ∙ ap (λ ys. map pair_side ys) (items_hidden-the_row-PairSide-5 ds))

abbrev pub row_under : CodeDef → (n : Count) × Row_of-Binder n
row_under (CodeDef' x k _ row t c) = (_, row)

pub definition_of : (x : Span) (n : ℕ) (bs : Vec BinderOf Global) (t c : Code) → definition (roll-CodeDef (record { name = x; number = n; binders = bs; ty = t; body = c })) ≡ define n (defined (map binder bs.items) (meaning t) (λ G. done G) (meaning c))
unfolding roll-CodeDef denote.Hole.Carrier.roll
definition_of x n bs t c =
    let row = row_under (roll-CodeDef (record { name = x; number = n; binders = bs; ty = t; body = c })) in
    ap (λ xs. define n (defined xs (meaning t) (λ G. done G) (meaning c))) (binders_row row.0 row.1 ∙ ap (λ ys. map binder ys) (items_hidden-the_row-Binder-1 bs))
