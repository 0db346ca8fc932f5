-- How codes are typed, by their parts.
use Rattle.std.proofs.Common.{◌≡◌, ℕ, List, [], ◌∷◌, map, replicate, Vec, Global, Box, refl, sym, ap, ap₂, ◌∙◌}
use mathlib.Core.Former.{Count}
use Rattle.layout_lexer.specs.declared.token.Span.{Span}
use Rattle.syntax.specs.declared.formula.Projections.{Projections}
use Rattle.codes.specs.declared.code.Code.{Code, Let as Let_, Suc as Suc_, NatRec as NatRec_, Pi as Pi_, Sigma as Sigma_, Lambda as Lambda_, PathLambda as PathLambda_, Apply as Apply_, Project as Project_, Tuple as Tuple_, PathP as PathP_, Transport as Transport_, Bound, Defined, Universe, Nat, Zero, Let', Suc', NatRec', Pi', Sigma', Lambda', PathLambda', Apply', Project', Tuple', PathP', Comp', Fill', Transport', GlueType', GlueTerm', Unglue', Row_of-CodeDef, end_of-CodeDef, more_of-CodeDef, items-the_row-CodeDef, Row_of-Binder, end_of-Binder, more_of-Binder, items-the_row-Binder, Row_of-Element, end_of-Element, more_of-Element, items-the_row-Element, Row_of-Code, end_of-Code, more_of-Code, items-the_row-Code, items_hidden-the_row-Binder-1, items_hidden-the_row-Code-3, items_hidden-the_row-CodeDef-0, items_hidden-the_row-Element-2}
use Rattle.codes.specs.declared.code.Binder.{Binder as BinderOf}
use Rattle.codes.specs.declared.code.Element.{Element, Argument as Argument', At as At'}
use Rattle.codes.specs.declared.code.Opened.{Opened, Under, Applied}
use Rattle.codes.specs.declared.code.CodeDef.{CodeDef}
use Rattle.codes.specs.Codes.{line_sides, recursion, meaning, at_name, at_variable, binder, element, definitions}
use Rattle.codes.proofs.Rows.{meaning_of-Let, meaning_of-Pi, meaning_of-Sigma, meaning_of-Lambda, meaning_of-Apply, meaning_of-Tuple}
use Rattle.trees.specs.Trees.{Tree}
use Rattle.translation.specs.Terms.{nat, suc, pi, sig, lam}
use Rattle.translation.specs.Forms.{Means, Side, Argument as TheArgument, after, under, under_names, application, tuple, one, path_type, project, transport}
use Rattle.direct.specs.Typings.{Typing, OpenedTyping, family_typing, lambda_typing, names_typing, tuple_typing, application_typing, let_typing, composition_typing, where_checked, recursion_typing, projection_typing, path_type_typing, transport_typing, and_then}
use Rattle.direct.specs.Direct.{typing, line, motive, binder_typings, element_typings, typings, blocks, def_typing}
use Rattle.typing_tasks.specs.declared.tasks.Former.TheVariants as former
use Rattle.typing_tasks.specs.Outcomes.{typed, line_typed, motive_typed, definition_typed, binder_typed, element_typed, element_of, block_typed, binders_of, family, function, path_function, tuple_of, let_of, successor_of, recursion_of, application_of, projection_of, path_type_of, transported}

-- what a code means

tree_composition : (m : Means ℕ Tree) (l : OpenedTyping) (t : Typing) (ss : List (Side ℕ Tree)) → (composition_typing m l t ss).tree ≡ m
tree_composition m l t [] = refl
tree_composition m l t (s ∷ ss) = refl

pub tree_typing : (c : Code) → (typing c).tree ≡ meaning c
tree_typing (Bound s k) = refl
tree_typing (Defined s n) = refl
tree_typing (Let' s shape ds p c) = refl
tree_typing (Universe s) = refl
tree_typing (Nat s) = refl
tree_typing (Zero s) = refl
tree_typing (Suc' s p c) = refl
tree_typing (NatRec' s p m q a r b t n) = refl
tree_typing (Pi' s shape bs p c) = refl
tree_typing (Sigma' s shape bs p c) = refl
tree_typing (Lambda' s shape bs p c) = refl
tree_typing (PathLambda' s n p c) = refl
tree_typing (Apply' s p c shape es) = refl
tree_typing (Project' s p c ps) = refl
tree_typing (Tuple' s shape cs) = refl
tree_typing (PathP' s p l q a r b) = refl
tree_typing (Comp' s p l q a shape ss) = tree_composition (meaning (Comp' s p l q a shape ss)) (line l) (typing a) (line_sides ss)
tree_typing (Fill' s p l q a shape ss) = refl
tree_typing (Transport' s p l q a) = refl
tree_typing (GlueType' s p a shape ss) = refl
tree_typing (GlueTerm' s p a shape ss) = refl
tree_typing (Unglue' s p a shape ss) = refl

pub tree_line : (l : Opened) → (line l).opened ≡ at_name l
tree_line (Under s c) = refl
tree_line (Applied s c) = refl

pub tree_motive : (m : Opened) → (motive m).opened ≡ at_variable m
tree_motive (Under s c) = refl
tree_motive (Applied s c) = refl

-- rows are the lists that they were made of

pub binders_typed : (n : _) (row : Row_of-Binder n) → binder_typings row ≡ map binder_typed (items-the_row-Binder n row)
unfolding typed
binders_typed n end_of-Binder = refl
binders_typed n (more_of-Binder k c rest) = ap (λ xs. record { count = k; type = typing c } ∷ xs) (binders_typed _ rest)

elements_typed : (n : _) (row : Row_of-Element n) → element_typings row ≡ map element_typed (items-the_row-Element n row)
unfolding typed
elements_typed n end_of-Element = refl
elements_typed n (more_of-Element (Argument' c) rest) = ap (λ xs. element_typed (Argument' c) ∷ xs) (elements_typed _ rest)
elements_typed n (more_of-Element (At' s f) rest) = ap (λ xs. element_typed (At' s f) ∷ xs) (elements_typed _ rest)

codes_typed : (n : _) (row : Row_of-Code n) → typings row ≡ map typed (items-the_row-Code n row)
unfolding typed
codes_typed n end_of-Code = refl
codes_typed n (more_of-Code c rest) = ap (λ xs. typing c ∷ xs) (codes_typed _ rest)

blocks_typed : (n : _) (row : Row_of-CodeDef n) → blocks row ≡ block_typed (items-the_row-CodeDef n row)
unfolding definition_typed
blocks_typed n end_of-CodeDef = refl
blocks_typed n (more_of-CodeDef d rest) = ap (and_then (def_typing d)) (blocks_typed _ rest)

-- the meanings of the parts

pub binders_mean : (bs : List BinderOf) → map binder bs ≡ binders_of (map binder_typed bs)
unfolding typed
binders_mean [] = refl
binders_mean (b ∷ bs) = ap₂ (λ m xs. record { names = replicate b.names 0; type = m } ∷ xs) (sym (tree_typing b.ty)) (binders_mean bs)

element_means : (e : Element) → element e ≡ element_of (element_typed e)
unfolding typed
element_means (Argument' c) = ap (λ m. TheArgument m) (sym (tree_typing c))
element_means (At' s f) = refl

elements_mean : (es : List Element) → map element es ≡ map element_of (map element_typed es)
elements_mean [] = refl
elements_mean (e ∷ es) = ap₂ (λ x xs. x ∷ xs) (element_means e) (elements_mean es)

components_mean : (cs : List Code) → map meaning cs ≡ map (λ (t : Typing). t.tree) (map typed cs)
unfolding typed
components_mean [] = refl
components_mean (c ∷ cs) = ap₂ (λ x xs. x ∷ xs) (sym (tree_typing c)) (components_mean cs)

-- forms, by the typings of their parts

abbrev pub row_of-CodeDef : Code → (n : Count) × Row_of-CodeDef n
row_of-CodeDef (Let' s _ row p c) = (_, row)
row_of-CodeDef _ = (_, end_of-CodeDef)

abbrev pub row_of-Binder : Code → (n : Count) × Row_of-Binder n
row_of-Binder (Pi' s _ row p c) = (_, row)
row_of-Binder (Sigma' s _ row p c) = (_, row)
row_of-Binder (Lambda' s _ row p c) = (_, row)
row_of-Binder _ = (_, end_of-Binder)

abbrev pub row_of-Element : Code → (n : Count) × Row_of-Element n
row_of-Element (Apply' s p c _ row) = (_, row)
row_of-Element _ = (_, end_of-Element)

abbrev pub row_of-Code : Code → (n : Count) × Row_of-Code n
row_of-Code (Tuple' s _ row) = (_, row)
row_of-Code _ = (_, end_of-Code)

pub typed_let : (s : Span) (ds : Vec CodeDef Global) (c : Box Code Global) → typed (Let_ s ds c) ≡ let_of ds.items (typed c.value)
unfolding typed
typed_let s ds c =
    let row = row_of-CodeDef (Let_ s ds c) in
    ap₂ (λ m b. let_typing m b (typing c.value)) (meaning_of-Let s ds c ∙ ap (after (definitions ds.items)) (sym (tree_typing c.value)))
    (blocks_typed row.0 row.1 ∙ ap block_typed (items_hidden-the_row-CodeDef-0 ds))

pub typed_pi : (s : Span) (bs : Vec BinderOf Global) (c : Box Code Global) → typed (Pi_ s bs c) ≡ family former.Pi (map binder_typed bs.items) (typed c.value)
unfolding typed
typed_pi s bs c =
    let row = row_of-Binder (Pi_ s bs c) in
    ap₂ (λ m xs. family_typing m xs (typing c.value)) (meaning_of-Pi s bs c ∙ ap₂ (under pi) (binders_mean bs.items) (sym (tree_typing c.value)))
    (binders_typed row.0 row.1 ∙ ap (map binder_typed) (items_hidden-the_row-Binder-1 bs))

pub typed_sigma : (s : Span) (bs : Vec BinderOf Global) (c : Box Code Global) → typed (Sigma_ s bs c) ≡ family former.Sigma (map binder_typed bs.items) (typed c.value)
unfolding typed
typed_sigma s bs c =
    let row = row_of-Binder (Sigma_ s bs c) in
    ap₂ (λ m xs. family_typing m xs (typing c.value)) (meaning_of-Sigma s bs c ∙ ap₂ (under sig) (binders_mean bs.items) (sym (tree_typing c.value)))
    (binders_typed row.0 row.1 ∙ ap (map binder_typed) (items_hidden-the_row-Binder-1 bs))

pub typed_lambda : (s : Span) (bs : Vec BinderOf Global) (c : Box Code Global) → typed (Lambda_ s bs c) ≡ function (map binder_typed bs.items) (typed c.value)
unfolding typed
typed_lambda s bs c =
    let row = row_of-Binder (Lambda_ s bs c) in
    ap₂ (λ m xs. lambda_typing m xs (typing c.value)) (meaning_of-Lambda s bs c ∙ ap₂ (under lam) (binders_mean bs.items) (sym (tree_typing c.value)))
    (binders_typed row.0 row.1 ∙ ap (map binder_typed) (items_hidden-the_row-Binder-1 bs))

pub typed_apply : (s : Span) (c : Box Code Global) (es : Vec Element Global) → typed (Apply_ s c es) ≡ application_of (typed c.value) (map element_typed es.items)
unfolding typed
typed_apply s c es =
    let row = row_of-Element (Apply_ s c es) in
    ap₂ (λ m xs. application_typing m (typing c.value) xs) (meaning_of-Apply s c es ∙ ap₂ application (sym (tree_typing c.value)) (elements_mean es.items))
    (elements_typed row.0 row.1 ∙ ap (map element_typed) (items_hidden-the_row-Element-2 es))

pub typed_tuple : (s : Span) (cs : Vec Code Global) → typed (Tuple_ s cs) ≡ tuple_of (map typed cs.items)
unfolding typed
typed_tuple s cs =
    let row = row_of-Code (Tuple_ s cs) in
    ap₂ tuple_typing (meaning_of-Tuple s cs ∙ ap tuple (components_mean cs.items))
    (codes_typed row.0 row.1 ∙ ap (map typing) (items_hidden-the_row-Code-3 cs))

pub typed_suc : (s : Span) (c : Box Code Global) → typed (Suc_ s c) ≡ successor_of (typed c.value)
unfolding typed
typed_suc s c = ap (λ m. where_checked (one suc m) (typing c.value) nat nat) (sym (tree_typing c.value))

pub typed_recursion : (s : Span) (m : Box Opened Global) (a b n : Box Code Global) → typed (NatRec_ s m a b n) ≡ recursion_of (motive_typed m.value) (typed a.value) (typed b.value) (typed n.value)
unfolding typed motive_typed
typed_recursion s m a b n =
    let build : (x u v w : Means ℕ Tree) → Typing = λ x u v w. recursion_typing (recursion x u v w) (motive m.value) (typing a.value) (typing b.value) (typing n.value) in
    ap₂ (λ x u. build x u (meaning b.value) (meaning n.value)) (sym (tree_motive m.value)) (sym (tree_typing a.value))
    ∙ ap₂ (λ v w. build (motive m.value).opened (typing a.value).tree v w) (sym (tree_typing b.value)) (sym (tree_typing n.value))

pub typed_path_lambda : (s : Span) (n : ℕ) (c : Box Code Global) → typed (PathLambda_ s n c) ≡ path_function n (typed c.value)
unfolding typed
typed_path_lambda s n c = ap (λ m. names_typing (under_names (replicate n 0) m) n (typing c.value)) (sym (tree_typing c.value))

pub typed_project : (s : Span) (c : Box Code Global) (ps : Projections) → typed (Project_ s c ps) ≡ projection_of (typed c.value) ps
unfolding typed
typed_project s c ps = ap (λ m. projection_typing (one (λ t. project t ps) m) (typing c.value) ps) (sym (tree_typing c.value))

pub typed_path : (s : Span) (l : Box Opened Global) (a b : Box Code Global) → typed (PathP_ s l a b) ≡ path_type_of (line_typed l.value) (typed a.value) (typed b.value)
unfolding typed line_typed
typed_path s l a b =
    ap (λ x. path_type_typing (path_type x (meaning a.value) (meaning b.value)) (line l.value) (typing a.value) (typing b.value)) (sym (tree_line l.value))
    ∙ ap₂ (λ x y. path_type_typing (path_type (line l.value).opened x y) (line l.value) (typing a.value) (typing b.value)) (sym (tree_typing a.value)) (sym (tree_typing b.value))

pub typed_transport : (s : Span) (l : Box Opened Global) (a : Box Code Global) → typed (Transport_ s l a) ≡ transported (line_typed l.value) (typed a.value)
unfolding typed line_typed
typed_transport s l a = ap₂ (λ x y. transport_typing (transport x y) (line l.value) (typing a.value)) (sym (tree_line l.value)) (sym (tree_typing a.value))
