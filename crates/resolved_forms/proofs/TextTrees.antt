-- The tree of each production as it stands in an arm of a match: the text, and what its parts are lent as.
use Rattle.std.proofs.Common.{◌≡◌, Box, Global, List, refl, ap}
use Rattle.layout_lexer.specs.declared.token.Span.{Span}
use Rattle.syntax.specs.declared.exp.Exp.{Exp, Let as Let_, Lambda as Lambda_, Pi as Pi_, Sigma as Sigma_, PathLambda as PathLambda_, Comp as Comp_, Fill as Fill_, GlueType as GlueType_, GlueTerm as GlueTerm_, Unglue as Unglue_, Brackets as Brackets_, Apply as Apply_, Arrow as Arrow_, PathP as PathP_, Transport as Transport_, Project as Project_, Universe as Universe_, Name as Name_}
use Rattle.syntax.specs.declared.exp.Element.{Element}
use Rattle.syntax.specs.declared.exp.Tele.{Tele}
use Rattle.syntax.specs.declared.exp.Side.{Side as SideOf}
use Rattle.syntax.specs.declared.exp.Def.{Def}
use Rattle.syntax.specs.declared.exp.Teles.{Teles}
use Rattle.syntax.specs.declared.exp.Sides.{Sides}
use Rattle.syntax.specs.declared.exp.Defs.{Defs}
use Rattle.syntax.specs.declared.exp.Exps.{Exps}
use Rattle.syntax.specs.declared.exp.Elements.{Elements}
use Rattle.syntax.specs.declared.formula.Projection.{Projection}
use Rattle.syntax.specs.Tree as text
use Rattle.syntax.specs.View.{tree_of, tree_list, tele_of, tele_items, side_of, side_items, def_of, def_items, element_of}
use Rattle.syntax.proofs.Rows.{teles_of_items, sides_of_items, defs_of_items, tree_of_brackets, tree_of_apply}

pub let_tree : (s : Span) (ds : Defs) (b : Box Exp Global) {e x : Exp} {ys : List Def}
    → e ≡ Let_ s ds b → ys ≡ def_items ds → x ≡ b.value → tree_of e ≡ text.Let s (tree_list def_of ys) (tree_of x)
let_tree s ds b i j k = rw (i, j, k) (ap (λ ts. text.Let s ts (tree_of b.value)) (defs_of_items ds))

pub lambda_tree : (s : Span) (xs : Teles) (b : Box Exp Global) {e x : Exp} {ts : List Tele}
    → e ≡ Lambda_ s xs b → ts ≡ tele_items xs → x ≡ b.value → tree_of e ≡ text.Lambda s (tree_list tele_of ts) (tree_of x)
lambda_tree s xs b i j k = rw (i, j, k) (ap (λ ts. text.Lambda s ts (tree_of b.value)) (teles_of_items xs))

pub pi_tree : (s : Span) (xs : Teles) (b : Box Exp Global) {e x : Exp} {ts : List Tele}
    → e ≡ Pi_ s xs b → ts ≡ tele_items xs → x ≡ b.value → tree_of e ≡ text.Pi s (tree_list tele_of ts) (tree_of x)
pi_tree s xs b i j k = rw (i, j, k) (ap (λ ts. text.Pi s ts (tree_of b.value)) (teles_of_items xs))

pub sigma_tree : (s : Span) (xs : Teles) (b : Box Exp Global) {e x : Exp} {ts : List Tele}
    → e ≡ Sigma_ s xs b → ts ≡ tele_items xs → x ≡ b.value → tree_of e ≡ text.Sigma s (tree_list tele_of ts) (tree_of x)
sigma_tree s xs b i j k = rw (i, j, k) (ap (λ ts. text.Sigma s ts (tree_of b.value)) (teles_of_items xs))

pub path_lambda_tree : (s : Span) (xs : List Span) (b : Box Exp Global) {e x : Exp} {ns : List Span}
    → e ≡ PathLambda_ s xs b → ns ≡ xs → x ≡ b.value → tree_of e ≡ text.PathLambda s ns (tree_of x)
path_lambda_tree s xs b i j k = rw (i, j, k) refl

pub arrow_tree : (s : Span) (a b : Box Exp Global) {e x y : Exp} → e ≡ Arrow_ s a b → x ≡ a.value → y ≡ b.value
    → tree_of e ≡ text.Arrow s (tree_of x) (tree_of y)
arrow_tree s a b i j k = rw (i, j, k) refl

pub apply_tree : (s : Span) (f : Box Exp Global) (es : Elements) {e h : Exp} {xs : List Element}
    → e ≡ Apply_ s f es → h ≡ f.value → xs ≡ es.items.items → tree_of e ≡ text.Apply s (tree_of h) (tree_list element_of xs)
apply_tree s f es i j k = rw (i, j, k) (tree_of_apply s f es)

pub path_type_tree : (s : Span) (l a b : Box Exp Global) {e x y z : Exp} → e ≡ PathP_ s l a b → x ≡ l.value → y ≡ a.value → z ≡ b.value
    → tree_of e ≡ text.PathP s (tree_of x) (tree_of y) (tree_of z)
path_type_tree s l a b i j k m = rw (i, j, k, m) refl

pub comp_tree : (s : Span) (l a : Box Exp Global) (ss : Sides) {e x y : Exp} {xs : List SideOf}
    → e ≡ Comp_ s l a ss → x ≡ l.value → y ≡ a.value → xs ≡ side_items ss → tree_of e ≡ text.Comp s (tree_of x) (tree_of y) (tree_list side_of xs)
comp_tree s l a ss i j k m = rw (i, j, k, m) (ap (text.Comp s (tree_of l.value) (tree_of a.value)) (sides_of_items ss))

pub fill_tree : (s : Span) (l a : Box Exp Global) (ss : Sides) {e x y : Exp} {xs : List SideOf}
    → e ≡ Fill_ s l a ss → x ≡ l.value → y ≡ a.value → xs ≡ side_items ss → tree_of e ≡ text.Fill s (tree_of x) (tree_of y) (tree_list side_of xs)
fill_tree s l a ss i j k m = rw (i, j, k, m) (ap (text.Fill s (tree_of l.value) (tree_of a.value)) (sides_of_items ss))

pub transport_tree : (s : Span) (l a : Box Exp Global) {e x y : Exp} → e ≡ Transport_ s l a → x ≡ l.value → y ≡ a.value
    → tree_of e ≡ text.Transport s (tree_of x) (tree_of y)
transport_tree s l a i j k = rw (i, j, k) refl

pub glue_type_tree : (s : Span) (a : Box Exp Global) (ss : Sides) {e y : Exp} {xs : List SideOf} → e ≡ GlueType_ s a ss → y ≡ a.value → xs ≡ side_items ss
    → tree_of e ≡ text.GlueType s (tree_of y) (tree_list side_of xs)
glue_type_tree s a ss i k m = rw (i, k, m) (ap (text.GlueType s (tree_of a.value)) (sides_of_items ss))

pub glue_term_tree : (s : Span) (a : Box Exp Global) (ss : Sides) {e y : Exp} {xs : List SideOf} → e ≡ GlueTerm_ s a ss → y ≡ a.value → xs ≡ side_items ss
    → tree_of e ≡ text.GlueTerm s (tree_of y) (tree_list side_of xs)
glue_term_tree s a ss i k m = rw (i, k, m) (ap (text.GlueTerm s (tree_of a.value)) (sides_of_items ss))

pub unglue_tree : (s : Span) (a : Box Exp Global) (ss : Sides) {e y : Exp} {xs : List SideOf} → e ≡ Unglue_ s a ss → y ≡ a.value → xs ≡ side_items ss
    → tree_of e ≡ text.Unglue s (tree_of y) (tree_list side_of xs)
unglue_tree s a ss i k m = rw (i, k, m) (ap (text.Unglue s (tree_of a.value)) (sides_of_items ss))

pub project_tree : (s : Span) (a : Box Exp Global) (ps : List Projection) {e y : Exp} {xs : List Projection} → e ≡ Project_ s a ps → y ≡ a.value → xs ≡ ps
    → tree_of e ≡ text.Project s (tree_of y) xs
project_tree s a ps i k m = rw (i, k, m) refl

pub universe_tree : (s : Span) {e : Exp} → e ≡ Universe_ s → tree_of e ≡ text.Universe s
universe_tree s i = rw i refl

pub name_tree : (n : Span) {e : Exp} → e ≡ Name_ n → tree_of e ≡ text.Name n
name_tree n i = rw i refl

pub brackets_tree : (s : Span) (es : Exps) {e : Exp} {xs : List Exp} → e ≡ Brackets_ s es → xs ≡ es.items.items → tree_of e ≡ text.Brackets s (tree_list tree_of xs)
brackets_tree s es i j = rw (i, j) (tree_of_brackets s es)
