-- The shape of a row in a code is that of the list that it was made of.
use Rattle.std.proofs.Common.{◌≡◌, ◌==◌, ℕ, true, false, length, List, [], ◌∷◌, Vec, Global, Box, refl, sym, ap, ◌∙◌}
use Rattle.layout_lexer.specs.declared.token.Span.{Span}
use Rattle.codes.specs.declared.code.Code.{Code, Let as Let_, Pi as Pi_, Sigma as Sigma_, Lambda as Lambda_, Apply as Apply_, Tuple as Tuple_, Comp as Comp_, Fill as Fill_, GlueType as GlueType_, GlueTerm as GlueTerm_, Unglue as Unglue_, Row_of-CodeDef, end_of-CodeDef, more_of-CodeDef, items-the_row-CodeDef, Row_of-Binder, end_of-Binder, more_of-Binder, items-the_row-Binder, Row_of-Element, end_of-Element, more_of-Element, items-the_row-Element, Row_of-Code, end_of-Code, more_of-Code, items-the_row-Code, Row_of-LineSide, end_of-LineSide, more_of-LineSide, items-the_row-LineSide, Row_of-PairSide, end_of-PairSide, more_of-PairSide, items-the_row-PairSide, Row_of-Side, end_of-Side, more_of-Side, items-the_row-Side, items_hidden-the_row-Binder-1, items_hidden-the_row-Code-3, items_hidden-the_row-CodeDef-0, items_hidden-the_row-Element-2, items_hidden-the_row-LineSide-4, items_hidden-the_row-PairSide-5, items_hidden-the_row-Side-6}
use Rattle.codes.specs.declared.code.Binder.{Binder as BinderOf}
use Rattle.codes.specs.declared.code.Element.{Element}
use Rattle.codes.specs.declared.code.Opened.{Opened}
use Rattle.codes.specs.declared.code.Side.{Side as SideOf}
use Rattle.codes.specs.declared.code.LineSide.{LineSide}
use Rattle.codes.specs.declared.code.PairSide.{PairSide as PairSideOf}
use Rattle.codes.specs.declared.code.CodeDef.{CodeDef, roll-CodeDef}
use Rattle.codes.specs.Shapes.{Shape, On, Let, Pi, Sigma, Lambda, Apply, Tuple, Comp, Fill, GlueType, GlueTerm, Unglue, Binder, Side, PairSide, Def, more, shape, opened_shape, component_shapes, binder_shapes, element_shape, element_shapes, term_side_shapes, line_side_shapes, pair_side_shapes, def_shape, local_shapes, listed, of_binder, of_side, of_line_side, of_pair_side, lambda, apply}
use Rattle.codes.proofs.Rows.{row_of-CodeDef, row_of-Binder, row_of-Element, row_of-Code, row_of-LineSide, row_of-PairSide, row_of-Side, row_under}

locals_listed : (n : _) (row : Row_of-CodeDef n) → local_shapes row ≡ listed def_shape (items-the_row-CodeDef n row)
locals_listed n end_of-CodeDef = refl
locals_listed n (more_of-CodeDef d rest) = ap (more (def_shape d)) (locals_listed _ rest)

binders_listed : (n : _) (row : Row_of-Binder n) → binder_shapes row ≡ listed of_binder (items-the_row-Binder n row)
binders_listed n end_of-Binder = refl
binders_listed n (more_of-Binder k c rest) = ap (more (Binder k (shape c))) (binders_listed _ rest)

elements_listed : (n : _) (row : Row_of-Element n) → element_shapes row ≡ listed element_shape (items-the_row-Element n row)
elements_listed n end_of-Element = refl
elements_listed n (more_of-Element e rest) = ap (more (element_shape e)) (elements_listed _ rest)

components_listed : (n : _) (row : Row_of-Code n) → component_shapes row ≡ listed shape (items-the_row-Code n row)
components_listed n end_of-Code = refl
components_listed n (more_of-Code c rest) = ap (more (shape c)) (components_listed _ rest)

term_sides_listed : (n : _) (row : Row_of-Side n) → term_side_shapes row ≡ listed of_side (items-the_row-Side n row)
term_sides_listed n end_of-Side = refl
term_sides_listed n (more_of-Side es s c rest) = ap (more (On es.items (Side s (shape c)))) (term_sides_listed _ rest)

line_sides_listed : (n : _) (row : Row_of-LineSide n) → line_side_shapes row ≡ listed of_line_side (items-the_row-LineSide n row)
line_sides_listed n end_of-LineSide = refl
line_sides_listed n (more_of-LineSide es l rest) = ap (more (On es.items (opened_shape l))) (line_sides_listed _ rest)

pair_sides_listed : (n : _) (row : Row_of-PairSide n) → pair_side_shapes row ≡ listed of_pair_side (items-the_row-PairSide n row)
pair_sides_listed n end_of-PairSide = refl
pair_sides_listed n (more_of-PairSide es s T w rest) = ap (more (On es.items (PairSide s (shape T) (shape w)))) (pair_sides_listed _ rest)

pub let_shape : (s : Span) (ds : Vec CodeDef Global) (c : Box Code Global) → shape (Let_ s ds c) ≡ Let s (listed def_shape ds.items) (shape c.value)
let_shape s ds c =
    let row = row_of-CodeDef (Let_ s ds c) in
    ap (λ xs. Let s xs (shape c.value)) (locals_listed row.0 row.1 ∙ ap (listed def_shape) (items_hidden-the_row-CodeDef-0 ds))

pub pi_shape : (s : Span) (ds : Vec BinderOf Global) (c : Box Code Global) → shape (Pi_ s ds c) ≡ Pi s (listed of_binder ds.items) (shape c.value)
pi_shape s ds c =
    let row = row_of-Binder (Pi_ s ds c) in
    ap (λ xs. Pi s xs (shape c.value)) (binders_listed row.0 row.1 ∙ ap (listed of_binder) (items_hidden-the_row-Binder-1 ds))

pub sigma_shape : (s : Span) (ds : Vec BinderOf Global) (c : Box Code Global) → shape (Sigma_ s ds c) ≡ Sigma s (listed of_binder ds.items) (shape c.value)
sigma_shape s ds c =
    let row = row_of-Binder (Sigma_ s ds c) in
    ap (λ xs. Sigma s xs (shape c.value)) (binders_listed row.0 row.1 ∙ ap (listed of_binder) (items_hidden-the_row-Binder-1 ds))

lambda_whole_shape : (s : Span) (ds : Vec BinderOf Global) (c : Box Code Global) → shape (Lambda_ s ds c) ≡ Lambda s (listed of_binder ds.items) (shape c.value)
lambda_whole_shape s ds c =
    let row = row_of-Binder (Lambda_ s ds c) in
    ap (λ xs. Lambda s xs (shape c.value)) (binders_listed row.0 row.1 ∙ ap (listed of_binder) (items_hidden-the_row-Binder-1 ds))

apply_whole_shape : (s : Span) (c : Box Code Global) (ds : Vec Element Global) → shape (Apply_ s c ds) ≡ Apply s (shape c.value) (listed element_shape ds.items)
apply_whole_shape s c ds =
    let row = row_of-Element (Apply_ s c ds) in
    ap (λ xs. Apply s (shape c.value) xs) (elements_listed row.0 row.1 ∙ ap (listed element_shape) (items_hidden-the_row-Element-2 ds))

pub tuple_shape : (s : Span) (ds : Vec Code Global) → shape (Tuple_ s ds) ≡ Tuple s (listed shape ds.items)
tuple_shape s ds =
    let row = row_of-Code (Tuple_ s ds) in
    ap (λ xs. Tuple s xs) (components_listed row.0 row.1 ∙ ap (listed shape) (items_hidden-the_row-Code-3 ds))

pub comp_shape : (s : Span) (l : Box Opened Global) (c : Box Code Global) (ds : Vec LineSide Global) → shape (Comp_ s l c ds) ≡ Comp s (opened_shape l.value) (shape c.value) (listed of_line_side ds.items)
comp_shape s l c ds =
    let row = row_of-LineSide (Comp_ s l c ds) in
    ap (λ xs. Comp s (opened_shape l.value) (shape c.value) xs) (line_sides_listed row.0 row.1 ∙ ap (listed of_line_side) (items_hidden-the_row-LineSide-4 ds))

pub fill_shape : (s : Span) (l : Box Opened Global) (c : Box Code Global) (ds : Vec LineSide Global) → shape (Fill_ s l c ds) ≡ Fill s (opened_shape l.value) (shape c.value) (listed of_line_side ds.items)
fill_shape s l c ds =
    let row = row_of-LineSide (Fill_ s l c ds) in
    ap (λ xs. Fill s (opened_shape l.value) (shape c.value) xs) (line_sides_listed row.0 row.1 ∙ ap (listed of_line_side) (items_hidden-the_row-LineSide-4 ds))

pub glue_type_shape : (s : Span) (c : Box Code Global) (ds : Vec PairSideOf Global) → shape (GlueType_ s c ds) ≡ GlueType s (shape c.value) (listed of_pair_side ds.items)
glue_type_shape s c ds =
    let row = row_of-PairSide (GlueType_ s c ds) in
    ap (λ xs. GlueType s (shape c.value) xs) (pair_sides_listed row.0 row.1 ∙ ap (listed of_pair_side) (items_hidden-the_row-PairSide-5 ds))

pub glue_term_shape : (s : Span) (c : Box Code Global) (ds : Vec SideOf Global) → shape (GlueTerm_ s c ds) ≡ GlueTerm s (shape c.value) (listed of_side ds.items)
glue_term_shape s c ds =
    let row = row_of-Side (GlueTerm_ s c ds) in
    ap (λ xs. GlueTerm s (shape c.value) xs) (term_sides_listed row.0 row.1 ∙ ap (listed of_side) (items_hidden-the_row-Side-6 ds))

pub unglue_shape : (s : Span) (c : Box Code Global) (ds : Vec PairSideOf Global) → shape (Unglue_ s c ds) ≡ Unglue s (shape c.value) (listed of_pair_side ds.items)
unglue_shape s c ds =
    let row = row_of-PairSide (Unglue_ s c ds) in
    ap (λ xs. Unglue s (shape c.value) xs) (pair_sides_listed row.0 row.1 ∙ ap (listed of_pair_side) (items_hidden-the_row-PairSide-5 ds))

-- over something, and with elements

lambda_more : (s : Span) (xs : List BinderOf) (c : Shape) → (xs ≡ [] → ⊥) → lambda s (listed of_binder xs) c ≡ Lambda s (listed of_binder xs) c
lambda_more s [] c some = absurd (some refl)
lambda_more s (x ∷ xs) c some = refl

apply_more : (s : Span) (c : Shape) (es : List Element) → (es ≡ [] → ⊥) → apply s c (listed element_shape es) ≡ Apply s c (listed element_shape es)
apply_more s c [] some = absurd (some refl)
apply_more s c (e ∷ es) some = refl

pub lambda_shape : (s : Span) (ds : Vec BinderOf Global) (c : Box Code Global) → (ds.items ≡ [] → ⊥) → shape (Lambda_ s ds c) ≡ lambda s (listed of_binder ds.items) (shape c.value)
lambda_shape s ds c some = lambda_whole_shape s ds c ∙ sym (lambda_more s ds.items (shape c.value) some)

pub apply_shape : (s : Span) (c : Box Code Global) (ds : Vec Element Global) → (ds.items ≡ [] → ⊥) → shape (Apply_ s c ds) ≡ apply s (shape c.value) (listed element_shape ds.items)
apply_shape s c ds some = apply_whole_shape s c ds ∙ sym (apply_more s (shape c.value) ds.items some)

pub some_items : {X : Type 0} (xs : List X) (n : ℕ) → n ≡ length xs → false ≡ (n == 0) → xs ≡ [] → ⊥
some_items xs n l t e =
    let z : n ≡ 0 = l ∙ ap length e in
    let h : false ≡ true = t ∙ ap (λ m. m == 0) z in
    cc

pub shape_of_def : (x : Span) (n : ℕ) (bs : Vec BinderOf Global) (t c : Code) → def_shape (roll-CodeDef (record { name = x; number = n; binders = bs; ty = t; body = c })) ≡ Def x n (listed of_binder bs.items) (shape t) (shape c)
unfolding roll-CodeDef denote.Hole.Carrier.roll
shape_of_def x n bs t c =
    let row = row_under (roll-CodeDef (record { name = x; number = n; binders = bs; ty = t; body = c })) in
    ap (λ xs. Def x n xs (shape t) (shape c)) (binders_listed row.0 row.1 ∙ ap (listed of_binder) (items_hidden-the_row-Binder-1 bs))
