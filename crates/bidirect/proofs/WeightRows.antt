-- How much codes weigh, by their parts.
use Rattle.std.proofs.Common.{◌≡◌, ◌+◌, ◌*◌, ℕ, Vec, Global, Box, refl, ap, ◌∙◌, arith}
use Rattle.layout_lexer.specs.declared.token.Span.{Span}
use Rattle.syntax.specs.declared.formula.Projections.{Projections}
use Rattle.codes.specs.declared.code.Code.{Code, Let as Let_, Suc as Suc_, NatRec as NatRec_, Pi as Pi_, Sigma as Sigma_, Lambda as Lambda_, PathLambda as PathLambda_, Apply as Apply_, Project as Project_, Tuple as Tuple_, PathP as PathP_, Transport as Transport_, Comp as Comp_, Row_of-CodeDef, end_of-CodeDef, more_of-CodeDef, items-the_row-CodeDef, Row_of-Binder, end_of-Binder, more_of-Binder, items-the_row-Binder, Row_of-Element, end_of-Element, more_of-Element, items-the_row-Element, Row_of-Code, end_of-Code, more_of-Code, items-the_row-Code, items_hidden-the_row-Binder-1, items_hidden-the_row-Code-3, items_hidden-the_row-CodeDef-0, items_hidden-the_row-Element-2}
use Rattle.codes.specs.declared.code.Binder.{Binder}
use Rattle.codes.specs.declared.code.Element.{Element, Argument as Argument', At as At'}
use Rattle.codes.specs.declared.code.Opened.{Opened}
use Rattle.codes.specs.declared.code.CodeDef.{CodeDef}
use Rattle.codes.specs.declared.code.LineSide.{LineSide}
use Rattle.typing_tasks.specs.Weights.{size, codes_size, binders_size, elements_size, defs_size, def_size, projections_size, weight_of, opened_weight, def_weight, sum, binder_weight, element_weight}
use Rattle.typing_tasks.proofs.TypingRows.{row_of-CodeDef, row_of-Binder, row_of-Element, row_of-Code}

-- rows are the lists that they were made of

defs_weigh : (n : _) (row : Row_of-CodeDef n) → defs_size row ≡ sum def_weight (items-the_row-CodeDef n row)
unfolding def_weight
defs_weigh n end_of-CodeDef = refl
defs_weigh n (more_of-CodeDef d rest) = ap (λ k. 16 + (def_size d + k)) (defs_weigh _ rest)

pub binders_weigh : (n : _) (row : Row_of-Binder n) → binders_size row ≡ sum binder_weight (items-the_row-Binder n row)
unfolding weight_of
binders_weigh n end_of-Binder = refl
binders_weigh n (more_of-Binder k c rest) = let h = binders_weigh _ rest in omega (arith, h)

elements_weigh : (n : _) (row : Row_of-Element n) → elements_size row ≡ sum element_weight (items-the_row-Element n row)
unfolding weight_of
elements_weigh n end_of-Element = refl
elements_weigh n (more_of-Element (Argument' c) rest) = ap (λ k. 16 + (size c + k)) (elements_weigh _ rest)
elements_weigh n (more_of-Element (At' s f) rest) = let h = elements_weigh _ rest in omega (arith, h)

codes_weigh : (n : _) (row : Row_of-Code n) → codes_size row ≡ sum weight_of (items-the_row-Code n row)
unfolding weight_of
codes_weigh n end_of-Code = refl
codes_weigh n (more_of-Code c rest) = ap (λ k. 16 + (size c + k)) (codes_weigh _ rest)

-- forms

pub weight_let : (s : Span) (ds : Vec CodeDef Global) (c : Box Code Global) → weight_of (Let_ s ds c) ≡ 16 + (sum def_weight ds.items + weight_of c.value)
unfolding weight_of
weight_let s ds c =
    let row = row_of-CodeDef (Let_ s ds c) in
    ap (λ k. 16 + (k + size c.value)) (defs_weigh row.0 row.1 ∙ ap (sum def_weight) (items_hidden-the_row-CodeDef-0 ds))

pub weight_pi : (s : Span) (bs : Vec Binder Global) (c : Box Code Global) → weight_of (Pi_ s bs c) ≡ 16 + (sum binder_weight bs.items + weight_of c.value)
unfolding weight_of
weight_pi s bs c =
    let row = row_of-Binder (Pi_ s bs c) in
    ap (λ k. 16 + (k + size c.value)) (binders_weigh row.0 row.1 ∙ ap (sum binder_weight) (items_hidden-the_row-Binder-1 bs))

pub weight_sigma : (s : Span) (bs : Vec Binder Global) (c : Box Code Global) → weight_of (Sigma_ s bs c) ≡ 16 + (sum binder_weight bs.items + weight_of c.value)
unfolding weight_of
weight_sigma s bs c =
    let row = row_of-Binder (Sigma_ s bs c) in
    ap (λ k. 16 + (k + size c.value)) (binders_weigh row.0 row.1 ∙ ap (sum binder_weight) (items_hidden-the_row-Binder-1 bs))

pub weight_lambda : (s : Span) (bs : Vec Binder Global) (c : Box Code Global) → weight_of (Lambda_ s bs c) ≡ 16 + (sum binder_weight bs.items + weight_of c.value)
unfolding weight_of
weight_lambda s bs c =
    let row = row_of-Binder (Lambda_ s bs c) in
    ap (λ k. 16 + (k + size c.value)) (binders_weigh row.0 row.1 ∙ ap (sum binder_weight) (items_hidden-the_row-Binder-1 bs))

pub weight_apply : (s : Span) (c : Box Code Global) (es : Vec Element Global) → weight_of (Apply_ s c es) ≡ 16 + (weight_of c.value + sum element_weight es.items)
unfolding weight_of
weight_apply s c es =
    let row = row_of-Element (Apply_ s c es) in
    ap (λ k. 16 + (size c.value + k)) (elements_weigh row.0 row.1 ∙ ap (sum element_weight) (items_hidden-the_row-Element-2 es))

pub weight_tuple : (s : Span) (cs : Vec Code Global) → weight_of (Tuple_ s cs) ≡ 16 + sum weight_of cs.items
unfolding weight_of
weight_tuple s cs =
    let row = row_of-Code (Tuple_ s cs) in
    ap (λ k. 16 + k) (codes_weigh row.0 row.1 ∙ ap (sum size) (items_hidden-the_row-Code-3 cs))

pub weight_suc : (s : Span) (c : Box Code Global) → weight_of (Suc_ s c) ≡ 16 + weight_of c.value
unfolding weight_of
weight_suc s c = refl

pub weight_recursion : (s : Span) (m : Box Opened Global) (a b n : Box Code Global) → weight_of (NatRec_ s m a b n) ≡ 16 + (opened_weight m.value + (weight_of a.value + (weight_of b.value + weight_of n.value)))
unfolding weight_of opened_weight
weight_recursion s m a b n = refl

pub weight_path_lambda : (s : Span) (n : ℕ) (c : Box Code Global) → weight_of (PathLambda_ s n c) ≡ 16 + (16 * n + weight_of c.value)
unfolding weight_of
weight_path_lambda s n c = refl

pub weight_project : (s : Span) (c : Box Code Global) (ps : Projections) → weight_of (Project_ s c ps) ≡ 16 + (weight_of c.value + projections_size ps)
unfolding weight_of
weight_project s c ps = refl

pub weight_path : (s : Span) (l : Box Opened Global) (a b : Box Code Global) → weight_of (PathP_ s l a b) ≡ 16 + (opened_weight l.value + (weight_of a.value + weight_of b.value))
unfolding weight_of opened_weight
weight_path s l a b = refl

pub weight_transport : (s : Span) (l : Box Opened Global) (a : Box Code Global) → weight_of (Transport_ s l a) ≡ 16 + (opened_weight l.value + weight_of a.value)
unfolding weight_of opened_weight
weight_transport s l a = refl

pub weight_comp : (s : Span) (l : Box Opened Global) (a : Box Code Global) (ss : Vec LineSide Global) → weight_of (Comp_ s l a ss) ≡ 16 + (opened_weight l.value + weight_of a.value)
unfolding weight_of opened_weight
weight_comp s l a ss = refl
