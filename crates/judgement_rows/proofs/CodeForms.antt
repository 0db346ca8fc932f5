-- What codes mean, by their parts.
use Rattle.std.proofs.Common.{◌≡◌, ℕ, Box, Global, Vec, List, [], ◌∷◌, map, replicate, refl, sym, ap, ◌∙◌}
use Rattle.layout_lexer.specs.declared.token.Span.{Span}
use Rattle.syntax.specs.declared.formula.Projections.{Projections}
use Rattle.syntax.specs.declared.formula.Projection.{Projection}
use Rattle.trees.specs.declared.op.Op.TheVariants as op
use Rattle.trees.specs.Trees.{Tree, Var}
use Rattle.translation.specs.Terms.{universe, nat, zero, suc, pair, comp, glue_type, glue, unglue}
use Rattle.translation.specs.Scopes.{Scope}
use Rattle.translation.specs.Systems.{cover, body, line_body, filling}
use Rattle.translation.specs.Translated.{done, ◌>>=◌}
use Rattle.translation.specs.Forms.{Means, all, types, equivalences, one, after, under_names, tuple, project, path_type, transport}
use Rattle.codes.specs.declared.code.Code.{Code, Bound as Bound_, Defined as Defined_, Universe as Universe_, Nat as Nat_, Zero as Zero_, Let as Let_, Suc as Suc_, NatRec as NatRec_, Pi as Pi_, Sigma as Sigma_, Lambda as Lambda_, PathLambda as PathLambda_, Apply as Apply_, Project as Project_, Tuple as Tuple_, PathP as PathP_, Comp as Comp_, Fill as Fill_, Transport as Transport_, GlueType as GlueType_, GlueTerm as GlueTerm_, Unglue as Unglue_}
use Rattle.codes.specs.declared.code.CodeDef.{CodeDef}
use Rattle.codes.specs.declared.code.Binder.{Binder}
use Rattle.codes.specs.declared.code.Element.{Element}
use Rattle.codes.specs.declared.code.Opened.{Opened}
use Rattle.codes.specs.declared.code.Side.{Side}
use Rattle.codes.specs.declared.code.LineSide.{LineSide}
use Rattle.codes.specs.declared.code.PairSide.{PairSide}
use Rattle.codes.specs.Codes.{meaning, body_of, recursion}
use Rattle.codes.proofs.Logs.{then_assoc, then_done, then_same}
use Rattle.codes.proofs.Rows.{meaning_of-Let, meaning_of-Pi, meaning_of-Sigma, meaning_of-Lambda, meaning_of-Apply, meaning_of-Tuple, meaning_of-Comp, meaning_of-Fill, meaning_of-GlueType, meaning_of-GlueTerm, meaning_of-Unglue}
use Rattle.form_rows.specs.Meant.{nest_all}
use Rattle.judgement_rows.specs.Words.{code_tree, code_trees, line_tree, motive_tree, applied_tree, over_tree, block_scope, side_trees, line_side_trees, pair_side_trees}

bound_reads : (s : Span) (k : ℕ) → (λ G. done (Var k)) ≡ code_tree (Bound_ s k)
unfolding code_tree
bound_reads s k = refl

pub bound_is : (s : Span) (k : ℕ) {e : Code} → e ≡ Bound_ s k → (λ G. done (Var k)) ≡ code_tree e
bound_is s k i = rw i (bound_reads s k)

defined_reads : (s : Span) (n : ℕ) → (λ G. done (body_of G n)) ≡ code_tree (Defined_ s n)
unfolding code_tree
defined_reads s n = refl

pub defined_is : (s : Span) (n : ℕ) {e : Code} → e ≡ Defined_ s n → (λ G. done (body_of G n)) ≡ code_tree e
defined_is s n i = rw i (defined_reads s n)

universe_reads : (s : Span) → (λ G. done universe) ≡ code_tree (Universe_ s)
unfolding code_tree
universe_reads s = refl

pub universe_is : (s : Span) {e : Code} → e ≡ Universe_ s → (λ G. done universe) ≡ code_tree e
universe_is s i = rw i (universe_reads s)

nat_reads : (s : Span) → (λ G. done nat) ≡ code_tree (Nat_ s)
unfolding code_tree
nat_reads s = refl

pub nat_is : (s : Span) {e : Code} → e ≡ Nat_ s → (λ G. done nat) ≡ code_tree e
nat_is s i = rw i (nat_reads s)

zero_reads : (s : Span) → (λ G. done zero) ≡ code_tree (Zero_ s)
unfolding code_tree
zero_reads s = refl

pub zero_is : (s : Span) {e : Code} → e ≡ Zero_ s → (λ G. done zero) ≡ code_tree e
zero_is s i = rw i (zero_reads s)

suc_reads : (s : Span) (a : Box Code Global) → one suc (code_tree a.value) ≡ code_tree (Suc_ s a)
unfolding code_tree
suc_reads s a = refl

pub suc_is : (s : Span) (a : Box Code Global) {e x : Code} → e ≡ Suc_ s a → x ≡ a.value → one suc (code_tree x) ≡ code_tree e
suc_is s a i j = rw (i, j) (suc_reads s a)

natrec_reads : (s : Span) (m : Box Opened Global) (a b n : Box Code Global)
    → recursion (motive_tree m.value) (code_tree a.value) (code_tree b.value) (code_tree n.value) ≡ code_tree (NatRec_ s m a b n)
unfolding code_tree motive_tree
natrec_reads s m a b n = refl

pub natrec_is : (s : Span) (m : Box Opened Global) (a b n : Box Code Global) {e x y z : Code} {v : Opened} → e ≡ NatRec_ s m a b n → v ≡ m.value → x ≡ a.value → y ≡ b.value → z ≡ n.value
    → recursion (motive_tree v) (code_tree x) (code_tree y) (code_tree z) ≡ code_tree e
natrec_is s m a b n i j k l o = rw (i, j, k, l, o) (natrec_reads s m a b n)

path_type_reads : (s : Span) (l : Box Opened Global) (a b : Box Code Global) → path_type (line_tree l.value) (code_tree a.value) (code_tree b.value) ≡ code_tree (PathP_ s l a b)
unfolding code_tree line_tree
path_type_reads s l a b = refl

pub path_type_is : (s : Span) (l : Box Opened Global) (a b : Box Code Global) {e x y : Code} {v : Opened} → e ≡ PathP_ s l a b → v ≡ l.value → x ≡ a.value → y ≡ b.value
    → path_type (line_tree v) (code_tree x) (code_tree y) ≡ code_tree e
path_type_is s l a b i j k m = rw (i, j, k, m) (path_type_reads s l a b)

transport_reads : (s : Span) (l : Box Opened Global) (a : Box Code Global) → transport (line_tree l.value) (code_tree a.value) ≡ code_tree (Transport_ s l a)
unfolding code_tree line_tree
transport_reads s l a = refl

pub transport_is : (s : Span) (l : Box Opened Global) (a : Box Code Global) {e x : Code} {v : Opened} → e ≡ Transport_ s l a → v ≡ l.value → x ≡ a.value
    → transport (line_tree v) (code_tree x) ≡ code_tree e
transport_is s l a i j k = rw (i, j, k) (transport_reads s l a)

path_lambda_reads : (s : Span) (n : ℕ) (a : Box Code Global) → under_names (replicate n 0) (code_tree a.value) ≡ code_tree (PathLambda_ s n a)
unfolding code_tree
path_lambda_reads s n a = refl

pub path_lambda_is : (s : Span) (n : ℕ) (a : Box Code Global) {e x : Code} → e ≡ PathLambda_ s n a → x ≡ a.value → under_names (replicate n 0) (code_tree x) ≡ code_tree e
path_lambda_is s n a i j = rw (i, j) (path_lambda_reads s n a)

let_reads : (s : Span) (ds : Vec CodeDef Global) (a : Box Code Global) → after (block_scope ds.items) (code_tree a.value) ≡ code_tree (Let_ s ds a)
unfolding code_tree block_scope
let_reads s ds a = sym (meaning_of-Let s ds a)

pub let_is : (s : Span) (ds : Vec CodeDef Global) (a : Box Code Global) {e x : Code} {xs : List CodeDef} → e ≡ Let_ s ds a → xs ≡ ds.items → x ≡ a.value → after (block_scope xs) (code_tree x) ≡ code_tree e
let_is s ds a i j k = rw (i, j, k) (let_reads s ds a)

pi_reads : (s : Span) (bs : Vec Binder Global) (a : Box Code Global) → over_tree op.Pi bs.items a.value ≡ code_tree (Pi_ s bs a)
unfolding code_tree over_tree
pi_reads s bs a = sym (meaning_of-Pi s bs a)

pub pi_is : (s : Span) (bs : Vec Binder Global) (a : Box Code Global) {e x : Code} {xs : List Binder} → e ≡ Pi_ s bs a → xs ≡ bs.items → x ≡ a.value → over_tree op.Pi xs x ≡ code_tree e
pi_is s bs a i j k = rw (i, j, k) (pi_reads s bs a)

sigma_reads : (s : Span) (bs : Vec Binder Global) (a : Box Code Global) → over_tree op.Sig bs.items a.value ≡ code_tree (Sigma_ s bs a)
unfolding code_tree over_tree
sigma_reads s bs a = sym (meaning_of-Sigma s bs a)

pub sigma_is : (s : Span) (bs : Vec Binder Global) (a : Box Code Global) {e x : Code} {xs : List Binder} → e ≡ Sigma_ s bs a → xs ≡ bs.items → x ≡ a.value → over_tree op.Sig xs x ≡ code_tree e
sigma_is s bs a i j k = rw (i, j, k) (sigma_reads s bs a)

lambda_reads : (s : Span) (bs : Vec Binder Global) (a : Box Code Global) → over_tree op.Lam bs.items a.value ≡ code_tree (Lambda_ s bs a)
unfolding code_tree over_tree
lambda_reads s bs a = sym (meaning_of-Lambda s bs a)

pub lambda_is : (s : Span) (bs : Vec Binder Global) (a : Box Code Global) {e x : Code} {xs : List Binder} → e ≡ Lambda_ s bs a → xs ≡ bs.items → x ≡ a.value → over_tree op.Lam xs x ≡ code_tree e
lambda_is s bs a i j k = rw (i, j, k) (lambda_reads s bs a)

project_reads : (s : Span) (a : Box Code Global) (ps : Projections) → one (λ t. project t ps) (code_tree a.value) ≡ code_tree (Project_ s a ps)
unfolding code_tree
project_reads s a ps = refl

pub project_is : (s : Span) (a : Box Code Global) (ps : Projections) {e x : Code} {qs : List Projection} → e ≡ Project_ s a ps → x ≡ a.value → qs ≡ ps → one (λ t. project t qs) (code_tree x) ≡ code_tree e
project_is s a ps i j k = rw (i, j, k) (project_reads s a ps)

apply_reads : (s : Span) (a : Box Code Global) (es : Vec Element Global) → (λ G. code_tree a.value G >>= λ t. applied_tree t es.items G) ≡ code_tree (Apply_ s a es)
unfolding code_tree applied_tree
apply_reads s a es = sym (meaning_of-Apply s a es)

pub apply_is : (s : Span) (a : Box Code Global) (es : Vec Element Global) {e x : Code} {ds : List Element} → e ≡ Apply_ s a es → x ≡ a.value → ds ≡ es.items
    → (λ G. code_tree x G >>= λ t. applied_tree t ds G) ≡ code_tree e
apply_is s a es i j k = rw (i, j, k) (apply_reads s a es)

-- components, which nest to the right
tuple_value : (fs : List (Means ℕ Tree)) (G : Scope ℕ) → (all fs G >>= λ ts. done (nest_all op.Pair op.U ts)) ≡ tuple fs G
tuple_value [] G = refl
tuple_value (f ∷ []) G = then_assoc (f G) (λ t. done [] >>= λ ts. done (t ∷ ts)) (λ ts. done (nest_all op.Pair op.U ts)) ∙ then_done (f G)
tuple_value (f ∷ g ∷ fs) G =
    let rest = all (g ∷ fs) G in
    then_assoc (f G) (λ t. rest >>= λ ts. done (t ∷ ts)) (λ ts. done (nest_all op.Pair op.U ts))
    ∙ then_same (f G) (λ t. (rest >>= λ ts. done (t ∷ ts)) >>= λ ts. done (nest_all op.Pair op.U ts)) (λ t. tuple (g ∷ fs) G >>= λ b. done (pair t b))
    (then_assoc rest (λ ts. done ((f G).value ∷ ts)) (λ ts. done (nest_all op.Pair op.U ts))
    ∙ then_same rest (λ ts. done (nest_all op.Pair op.U ((f G).value ∷ ts))) (λ ts. done (pair (f G).value (nest_all op.Pair op.U ts))) refl
    ∙ sym (then_assoc rest (λ ts. done (nest_all op.Pair op.U ts)) (λ b. done (pair (f G).value b)))
    ∙ ap (λ m. m >>= λ b. done (pair (f G).value b)) (tuple_value (g ∷ fs) G))

tuple_reads : (s : Span) (cs : Vec Code Global) (G : Scope ℕ) → (code_trees cs.items G >>= λ ts. done (nest_all op.Pair op.U ts)) ≡ code_tree (Tuple_ s cs) G
unfolding code_tree code_trees
tuple_reads s cs G = tuple_value (map meaning cs.items) G ∙ ap (λ m. m G) (sym (meaning_of-Tuple s cs))

pub tuple_is : (s : Span) (cs : Vec Code Global) (G : Scope ℕ) {e : Code} {ds : List Code} → e ≡ Tuple_ s cs → ds ≡ cs.items → (code_trees ds G >>= λ ts. done (nest_all op.Pair op.U ts)) ≡ code_tree e G
tuple_is s cs G i j = rw (i, j) (tuple_reads s cs G)

comp_reads : (s : Span) (l : Box Opened Global) (a : Box Code Global) (ss : Vec LineSide Global)
    → (λ G. line_tree l.value G >>= λ A. code_tree a.value G >>= λ t. line_side_trees ss.items G >>= λ S. done (comp A (cover S) (line_body S) t)) ≡ code_tree (Comp_ s l a ss)
unfolding code_tree line_tree line_side_trees
comp_reads s l a ss = sym (meaning_of-Comp s l a ss)

pub comp_is : (s : Span) (l : Box Opened Global) (a : Box Code Global) (ss : Vec LineSide Global) {e x : Code} {v : Opened} {rs : List LineSide} → e ≡ Comp_ s l a ss → v ≡ l.value → x ≡ a.value → rs ≡ ss.items
    → (λ G. line_tree v G >>= λ A. code_tree x G >>= λ t. line_side_trees rs G >>= λ S. done (comp A (cover S) (line_body S) t)) ≡ code_tree e
comp_is s l a ss i j k m = rw (i, j, k, m) (comp_reads s l a ss)

fill_reads : (s : Span) (l : Box Opened Global) (a : Box Code Global) (ss : Vec LineSide Global)
    → (λ G. line_tree l.value G >>= λ A. code_tree a.value G >>= λ t. line_side_trees ss.items G >>= λ S. done (filling A (cover S) (line_body S) t)) ≡ code_tree (Fill_ s l a ss)
unfolding code_tree line_tree line_side_trees
fill_reads s l a ss = sym (meaning_of-Fill s l a ss)

pub fill_is : (s : Span) (l : Box Opened Global) (a : Box Code Global) (ss : Vec LineSide Global) {e x : Code} {v : Opened} {rs : List LineSide} → e ≡ Fill_ s l a ss → v ≡ l.value → x ≡ a.value → rs ≡ ss.items
    → (λ G. line_tree v G >>= λ A. code_tree x G >>= λ t. line_side_trees rs G >>= λ S. done (filling A (cover S) (line_body S) t)) ≡ code_tree e
fill_is s l a ss i j k m = rw (i, j, k, m) (fill_reads s l a ss)

glue_type_reads : (s : Span) (a : Box Code Global) (ss : Vec PairSide Global)
    → (λ G. code_tree a.value G >>= λ t. pair_side_trees ss.items G >>= λ S. done (glue_type t (cover S) (body (types S)) (body (equivalences S)))) ≡ code_tree (GlueType_ s a ss)
unfolding code_tree pair_side_trees
glue_type_reads s a ss = sym (meaning_of-GlueType s a ss)

pub glue_type_is : (s : Span) (a : Box Code Global) (ss : Vec PairSide Global) {e x : Code} {rs : List PairSide} → e ≡ GlueType_ s a ss → x ≡ a.value → rs ≡ ss.items
    → (λ G. code_tree x G >>= λ t. pair_side_trees rs G >>= λ S. done (glue_type t (cover S) (body (types S)) (body (equivalences S)))) ≡ code_tree e
glue_type_is s a ss i j k = rw (i, j, k) (glue_type_reads s a ss)

glue_term_reads : (s : Span) (a : Box Code Global) (ss : Vec Side Global)
    → (λ G. code_tree a.value G >>= λ t. side_trees ss.items G >>= λ S. done (glue (cover S) (body S) t)) ≡ code_tree (GlueTerm_ s a ss)
unfolding code_tree side_trees
glue_term_reads s a ss = sym (meaning_of-GlueTerm s a ss)

pub glue_term_is : (s : Span) (a : Box Code Global) (ss : Vec Side Global) {e x : Code} {rs : List Side} → e ≡ GlueTerm_ s a ss → x ≡ a.value → rs ≡ ss.items
    → (λ G. code_tree x G >>= λ t. side_trees rs G >>= λ S. done (glue (cover S) (body S) t)) ≡ code_tree e
glue_term_is s a ss i j k = rw (i, j, k) (glue_term_reads s a ss)

unglue_reads : (s : Span) (a : Box Code Global) (ss : Vec PairSide Global)
    → (λ G. code_tree a.value G >>= λ t. pair_side_trees ss.items G >>= λ S. done (unglue (cover S) (body (types S)) (body (equivalences S)) t)) ≡ code_tree (Unglue_ s a ss)
unfolding code_tree pair_side_trees
unglue_reads s a ss = sym (meaning_of-Unglue s a ss)

pub unglue_is : (s : Span) (a : Box Code Global) (ss : Vec PairSide Global) {e x : Code} {rs : List PairSide} → e ≡ Unglue_ s a ss → x ≡ a.value → rs ≡ ss.items
    → (λ G. code_tree x G >>= λ t. pair_side_trees rs G >>= λ S. done (unglue (cover S) (body (types S)) (body (equivalences S)) t)) ≡ code_tree e
unglue_is s a ss i j k = rw (i, j, k) (unglue_reads s a ss)
