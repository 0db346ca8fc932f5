-- The readings of a text's productions, by those of their parts.
use Rattle.std.proofs.Common.{◌≡◌, ℕ, Box, Global, List, [], ◌∷◌, ◌++◌, codes, map, refl, sym, ap, ◌∙◌}
use Rattle.layout_lexer.specs.declared.token.Span.{Span}
use Rattle.syntax.specs.declared.exp.Exp.{Exp, Let as Let_, Lambda as Lambda_, Pi as Pi_, Sigma as Sigma_, PathLambda as PathLambda_, Comp as Comp_, Fill as Fill_, GlueType as GlueType_, GlueTerm as GlueTerm_, Unglue as Unglue_, Brackets as Brackets_, Apply as Apply_, Arrow as Arrow_, PathP as PathP_, Transport as Transport_, Project as Project_, Universe as Universe_, Name as Name_, Let', Lambda', PathLambda', Pi', Sigma', Arrow', Apply', PathP', Comp', Fill', Transport', GlueType', GlueTerm', Unglue', Project', Universe as Universe', Name as Name', Brackets'}
use Rattle.syntax.specs.declared.exp.Element.{Element, Argument as Argument', At as At'}
use Rattle.syntax.specs.declared.exp.Tele.{Tele as TeleOf}
use Rattle.syntax.specs.declared.exp.Side.{Side as SideOf}
use Rattle.syntax.specs.declared.exp.Teles.{Teles}
use Rattle.syntax.specs.declared.exp.Sides.{Sides}
use Rattle.syntax.specs.declared.exp.Defs.{Defs}
use Rattle.syntax.specs.declared.exp.Def.{Def, Def', out-Def}
use Rattle.syntax.specs.declared.exp.Exps.{Exps}
use Rattle.syntax.specs.declared.exp.Elements.{Elements}
use Rattle.syntax.specs.declared.formula.Projection.{Projection}
use Rattle.syntax.specs.Tree as text
use Rattle.syntax.specs.Tree.{Trees, none, more}
use Rattle.syntax.specs.View.{tree_of, tree_list, tele_of, teles_of, tele_items, side_of as side_tree, sides_of, side_items, def_of, defs_of, def_items, element_of as element_tree}
use Rattle.syntax.proofs.Rows.{teles_of_items, sides_of_items, defs_of_items, tree_of_brackets, tree_of_apply}
use Rattle.translation.specs.Terms.{lam, pi, sig, universe}
use Rattle.translation.specs.Translated.{done}
use Rattle.translation.specs.Names.{Word}
use Rattle.translation.specs.Forms.{application, after, under, under_names, path_type, composition, fill, transport, glue_of_types, glue_of_terms, unglued, tuple, defined, one, project}
use Rattle.translation.specs.Texts.{Reading, Written, reading, binders, teles, sides, term_sides, line_sides, pair_sides, given, Argument as GivenArgument, elements, components, defs, block, path_lambda, brackets, headed, stands_for, term_at}
use Rattle.resolved_forms.specs.Spelt.{read, term_of, line_of, pair_of, place_of, binder_of, binders_of, element_of, elements_of, given_of, named_of, side_of, written_in, block_of, means_of, written_of, words_of, def_names}

module _ (bytes : List ℕ) where
  -- teles

  pub binders_listed : (xs : List TeleOf) → binders (teles bytes (tree_list tele_of xs)) ≡ binders_of bytes xs
  unfolding binders_of term_of read
  binders_listed [] = refl
  binders_listed (x ∷ xs) = ap (λ bs. binder_of bytes x ∷ bs) (binders_listed xs)

  pub binders_spelt : (xs : Teles) → binders (teles bytes (teles_of xs)) ≡ binders_of bytes (tele_items xs)
  binders_spelt xs = ap (λ ts. binders (teles bytes ts)) (teles_of_items xs) ∙ binders_listed (tele_items xs)

  -- sides

  terms_listed : (ss : List SideOf) → term_sides (sides bytes (tree_list side_tree ss)) ≡ map (side_of bytes (term_of bytes)) ss
  unfolding term_of read
  terms_listed [] = refl
  terms_listed (s ∷ ss) = ap (λ rest. side_of bytes (term_of bytes) s ∷ rest) (terms_listed ss)

  terms_spelt : (ss : Sides) → term_sides (sides bytes (sides_of ss)) ≡ map (side_of bytes (term_of bytes)) (side_items ss)
  terms_spelt ss = ap (λ ts. term_sides (sides bytes ts)) (sides_of_items ss) ∙ terms_listed (side_items ss)

  lines_listed : (ss : List SideOf) → line_sides (sides bytes (tree_list side_tree ss)) ≡ map (side_of bytes (line_of bytes)) ss
  unfolding line_of read
  lines_listed [] = refl
  lines_listed (s ∷ ss) = ap (λ rest. side_of bytes (line_of bytes) s ∷ rest) (lines_listed ss)

  lines_spelt : (ss : Sides) → line_sides (sides bytes (sides_of ss)) ≡ map (side_of bytes (line_of bytes)) (side_items ss)
  lines_spelt ss = ap (λ ts. line_sides (sides bytes ts)) (sides_of_items ss) ∙ lines_listed (side_items ss)

  pairs_listed : (ss : List SideOf) → pair_sides (sides bytes (tree_list side_tree ss)) ≡ map (side_of bytes (λ e. pair_of bytes (place_of e) e)) ss
  unfolding pair_of read
  pairs_listed [] = refl
  pairs_listed (s ∷ ss) = ap (λ rest. side_of bytes (λ e. pair_of bytes (place_of e) e) s ∷ rest) (pairs_listed ss)

  pairs_spelt : (ss : Sides) → pair_sides (sides bytes (sides_of ss)) ≡ map (side_of bytes (λ e. pair_of bytes (place_of e) e)) (side_items ss)
  pairs_spelt ss = ap (λ ts. pair_sides (sides bytes ts)) (sides_of_items ss) ∙ pairs_listed (side_items ss)

  -- what a head is applied to

  given_argument : (e : Exp) (rest : Trees) → given bytes (more (tree_of e) rest) ≡ GivenArgument (reading bytes (tree_of e)) ∷ given bytes rest
  given_argument (Let' s ds p e) rest = refl
  given_argument (Lambda' s xs p e) rest = refl
  given_argument (PathLambda' s ns p e) rest = refl
  given_argument (Pi' s xs p e) rest = refl
  given_argument (Sigma' s xs p e) rest = refl
  given_argument (Arrow' s p f q e) rest = refl
  given_argument (Apply' s p f shape all) rest = refl
  given_argument (PathP' s p l q a o b) rest = refl
  given_argument (Comp' s p l q a ss) rest = refl
  given_argument (Fill' s p l q a ss) rest = refl
  given_argument (Transport' s p l q a) rest = refl
  given_argument (GlueType' s p a ss) rest = refl
  given_argument (GlueTerm' s p a ss) rest = refl
  given_argument (Unglue' s p a ss) rest = refl
  given_argument (Project' s p e ps) rest = refl
  given_argument (Universe' s) rest = refl
  given_argument (Name' s) rest = refl
  given_argument (Brackets' s shape all) rest = refl

  given_one : (e : Element) (rest : Trees) → given bytes (more (element_tree e) rest) ≡ given_of bytes e ∷ given bytes rest
  unfolding given_of read
  given_one (Argument' e) rest = given_argument e rest
  given_one (At' s f) rest = refl

  given_spelt : (es : List Element) → given bytes (tree_list element_tree es) ≡ map (given_of bytes) es
  given_spelt [] = refl
  given_spelt (e ∷ es) = given_one e (tree_list element_tree es) ∙ ap (λ gs. given_of bytes e ∷ gs) (given_spelt es)

  pub elements_spelt : (es : List Element) → elements (map (given_of bytes) es) ≡ elements_of bytes es
  unfolding given_of elements_of element_of term_of
  elements_spelt [] = refl
  elements_spelt (Argument' e ∷ es) = ap (λ ds. element_of bytes (Argument' e) ∷ ds) (elements_spelt es)
  elements_spelt (At' s f ∷ es) = ap (λ ds. element_of bytes (At' s f) ∷ ds) (elements_spelt es)

  -- components

  pub components_spelt : (es : List Exp) → components bytes (tree_list tree_of es) ≡ map (read bytes) es
  unfolding read
  components_spelt [] = refl
  components_spelt (e ∷ es) = ap (λ rs. reading bytes (tree_of e) ∷ rs) (components_spelt es)

  -- definitions

  pub block_spelt : (ds : Defs) → block bytes (defs bytes (defs_of ds)) ≡ block_of bytes (def_items ds)
  unfolding block_of written_in
  block_spelt ds = ap (λ ts. block bytes (defs bytes ts)) (defs_of_items ds)

  defs_one : (d : Def) (rest : Trees) → defs bytes (more (def_of d) rest) ≡ written_of bytes d ∷ defs bytes rest
  unfolding means_of term_of read out-Def denote.Hole.Carrier.out
  defs_one (Def' n xs t b ls) rest =
      let T = term_of bytes t in
      let B = term_of bytes b in
      ap (λ m. record { name = n; means = m } ∷ defs bytes rest)
      (ap (λ bs. defined bs T (block bytes (defs bytes (defs_of ls))) B) (binders_spelt xs)
      ∙ ap (λ k. defined (binders_of bytes (tele_items xs)) T k B) (block_spelt ls))

  pub written_push : (ds : List Def) (d : Def) → written_in bytes (ds ++ d ∷ []) ≡ written_in bytes ds ++ written_of bytes d ∷ []
  unfolding written_in
  written_push [] d = defs_one d none
  written_push (e ∷ es) d =
      defs_one e (tree_list def_of (es ++ d ∷ []))
      ∙ ap (λ ws. written_of bytes e ∷ ws) (written_push es d)
      ∙ ap (λ ws. ws ++ written_of bytes d ∷ []) (sym (defs_one e (tree_list def_of es)))

  pub names_written : (ds : List Def) → map (λ (w : Written). w.name) (written_in bytes ds) ≡ def_names ds
  unfolding written_in
  names_written [] = refl
  names_written (d ∷ ds) = ap (map (λ (w : Written). w.name)) (defs_one d (tree_list def_of ds)) ∙ ap (λ ns. (out-Def d).name ∷ ns) (names_written ds)

  -- each production, with its lists

  pub reads_let : (s : Span) (ds : Defs) (p : Box Exp Global) → term_of bytes (Let_ s ds p) ≡ after (block_of bytes (def_items ds)) (term_of bytes p.value)
  unfolding term_of read
  reads_let s ds p = ap (λ b. after b (term_of bytes p.value)) (block_spelt ds)

  pub reads_lambda : (s : Span) (xs : Teles) (p : Box Exp Global) → term_of bytes (Lambda_ s xs p) ≡ under lam (binders_of bytes (tele_items xs)) (term_of bytes p.value)
  unfolding term_of read
  reads_lambda s xs p = ap (λ bs. under lam bs (term_of bytes p.value)) (binders_spelt xs)

  pub reads_pi : (s : Span) (xs : Teles) (p : Box Exp Global) → term_of bytes (Pi_ s xs p) ≡ under pi (binders_of bytes (tele_items xs)) (term_of bytes p.value)
  unfolding term_of read
  reads_pi s xs p = ap (λ bs. under pi bs (term_of bytes p.value)) (binders_spelt xs)

  pub reads_sigma : (s : Span) (xs : Teles) (p : Box Exp Global) → term_of bytes (Sigma_ s xs p) ≡ under sig (binders_of bytes (tele_items xs)) (term_of bytes p.value)
  unfolding term_of read
  reads_sigma s xs p = ap (λ bs. under sig bs (term_of bytes p.value)) (binders_spelt xs)

  path_lambda_term : (xs : List Word) (r : Reading) → (path_lambda xs r).term ≡ under_names xs r.term
  path_lambda_term [] r = refl
  path_lambda_term (x ∷ xs) r = refl

  pub reads_path_lambda : (s : Span) (xs : List Span) (p : Box Exp Global) → term_of bytes (PathLambda_ s xs p) ≡ under_names (words_of bytes xs) (term_of bytes p.value)
  unfolding term_of read
  reads_path_lambda s xs p = path_lambda_term (words_of bytes xs) (read bytes p.value)

  pub reads_comp : (s : Span) (l a : Box Exp Global) (ss : Sides) → term_of bytes (Comp_ s l a ss) ≡ composition (line_of bytes l.value) (term_of bytes a.value) (map (side_of bytes (line_of bytes)) (side_items ss))
  unfolding term_of line_of read
  reads_comp s l a ss = ap (composition (line_of bytes l.value) (term_of bytes a.value)) (lines_spelt ss)

  pub reads_fill : (s : Span) (l a : Box Exp Global) (ss : Sides) → term_of bytes (Fill_ s l a ss) ≡ fill (line_of bytes l.value) (term_of bytes a.value) (map (side_of bytes (line_of bytes)) (side_items ss))
  unfolding term_of line_of read
  reads_fill s l a ss = ap (fill (line_of bytes l.value) (term_of bytes a.value)) (lines_spelt ss)

  pub reads_glue_type : (s : Span) (a : Box Exp Global) (ss : Sides) → term_of bytes (GlueType_ s a ss) ≡ glue_of_types (term_of bytes a.value) (map (side_of bytes (λ e. pair_of bytes (place_of e) e)) (side_items ss))
  unfolding term_of read
  reads_glue_type s a ss = ap (glue_of_types (term_of bytes a.value)) (pairs_spelt ss)

  pub reads_glue_term : (s : Span) (a : Box Exp Global) (ss : Sides) → term_of bytes (GlueTerm_ s a ss) ≡ glue_of_terms (term_of bytes a.value) (map (side_of bytes (term_of bytes)) (side_items ss))
  unfolding term_of read
  reads_glue_term s a ss = ap (glue_of_terms (term_of bytes a.value)) (terms_spelt ss)

  pub reads_unglue : (s : Span) (a : Box Exp Global) (ss : Sides) → term_of bytes (Unglue_ s a ss) ≡ unglued (term_of bytes a.value) (map (side_of bytes (λ e. pair_of bytes (place_of e) e)) (side_items ss))
  unfolding term_of read
  reads_unglue s a ss = ap (unglued (term_of bytes a.value)) (pairs_spelt ss)

  brackets_term : (rs : List Reading) → (brackets rs).term ≡ tuple (map (λ r. r.term) rs)
  brackets_term [] = refl
  brackets_term (r ∷ []) = refl
  brackets_term (a ∷ b ∷ rest) = refl

  pub terms_of_readings : (es : List Exp) → map (λ (r : Reading). r.term) (map (read bytes) es) ≡ map (term_of bytes) es
  unfolding term_of
  terms_of_readings [] = refl
  terms_of_readings (e ∷ es) = ap (λ fs. term_of bytes e ∷ fs) (terms_of_readings es)

  pub read_brackets : (s : Span) (es : Exps) → read bytes (Brackets_ s es) ≡ brackets (map (read bytes) es.items.items)
  unfolding read
  read_brackets s es = ap (reading bytes) (tree_of_brackets s es) ∙ ap brackets (components_spelt es.items.items)

  pub reads_brackets : (s : Span) (es : Exps) → term_of bytes (Brackets_ s es) ≡ tuple (map (term_of bytes) es.items.items)
  unfolding term_of
  reads_brackets s es =
      ap (λ r. r.term) (read_brackets s es)
      ∙ brackets_term (map (read bytes) es.items.items)
      ∙ ap tuple (terms_of_readings es.items.items)

  -- a name that is applied, and any other head

  pub reads_named : (s : Span) (f : Box Exp Global) (n : Span) (es : Elements) → f.value ≡ Name_ n → term_of bytes (Apply_ s f es) ≡ named_of bytes n es.items.items
  unfolding term_of read named_of
  reads_named s f n es e =
      ap (λ t. (reading bytes t).term) (tree_of_apply s f es)
      ∙ ap (λ h. (reading bytes (text.Apply s (tree_of h) (tree_list element_tree es.items.items))).term) e
      ∙ ap (λ gs G. headed n.start (stands_for bytes G n) gs G) (given_spelt es.items.items)

  applied_other : (f : text.Tree) (s : Span) (ts : Trees) → ((n : Span) → f ≡ text.Name n → ⊥)
      → (reading bytes (text.Apply s f ts)).term ≡ application (reading bytes f).term (elements (given bytes ts))
  applied_other (text.Name n) s ts other = absurd (other n refl)
  applied_other f s ts other = refl

  no_name : (e : Exp) → ((n : Span) → e ≡ Name_ n → ⊥) → (n : Span) → tree_of e ≡ text.Name n → ⊥
  no_name (Let' s ds p e) other n h = cc
  no_name (Lambda' s xs p e) other n h = cc
  no_name (PathLambda' s ns p e) other n h = cc
  no_name (Pi' s xs p e) other n h = cc
  no_name (Sigma' s xs p e) other n h = cc
  no_name (Arrow' s p f q e) other n h = cc
  no_name (Apply' s p f shape all) other n h = cc
  no_name (PathP' s p l q a o b) other n h = cc
  no_name (Comp' s p l q a ss) other n h = cc
  no_name (Fill' s p l q a ss) other n h = cc
  no_name (Transport' s p l q a) other n h = cc
  no_name (GlueType' s p a ss) other n h = cc
  no_name (GlueTerm' s p a ss) other n h = cc
  no_name (Unglue' s p a ss) other n h = cc
  no_name (Project' s p e ps) other n h = cc
  no_name (Universe' s) other n h = cc
  no_name (Name' s) other n h = other s refl
  no_name (Brackets' s shape all) other n h = cc

  pub reads_applied : (s : Span) (f : Box Exp Global) (es : Elements) → ((n : Span) → f.value ≡ Name_ n → ⊥)
      → term_of bytes (Apply_ s f es) ≡ application (term_of bytes f.value) (elements_of bytes es.items.items)
  unfolding term_of read
  reads_applied s f es other =
      ap (λ t. (reading bytes t).term) (tree_of_apply s f es)
      ∙ applied_other (tree_of f.value) s (tree_list element_tree es.items.items) (no_name f.value other)
      ∙ ap (λ gs. application (term_of bytes f.value) (elements gs)) (given_spelt es.items.items)
      ∙ ap (application (term_of bytes f.value)) (elements_spelt es.items.items)

  -- The same as they stand in an arm of a match: the text, and what its parts are lent as.

  pub let_is : (p : Span) (ds : Defs) (b : Box Exp Global) {e x : Exp} {ys : List Def}
      → e ≡ Let_ p ds b → ys ≡ def_items ds → x ≡ b.value → after (block_of bytes ys) (term_of bytes x) ≡ term_of bytes e
  let_is p ds b i j k = rw (i, j, k) (sym (reads_let p ds b))

  pub lambda_is : (p : Span) (xs : Teles) (b : Box Exp Global) {e x : Exp} {ts : List TeleOf}
      → e ≡ Lambda_ p xs b → ts ≡ tele_items xs → x ≡ b.value → under lam (binders_of bytes ts) (term_of bytes x) ≡ term_of bytes e
  lambda_is p xs b i j k = rw (i, j, k) (sym (reads_lambda p xs b))

  pub pi_is : (p : Span) (xs : Teles) (b : Box Exp Global) {e x : Exp} {ts : List TeleOf}
      → e ≡ Pi_ p xs b → ts ≡ tele_items xs → x ≡ b.value → under pi (binders_of bytes ts) (term_of bytes x) ≡ term_of bytes e
  pi_is p xs b i j k = rw (i, j, k) (sym (reads_pi p xs b))

  pub sigma_is : (p : Span) (xs : Teles) (b : Box Exp Global) {e x : Exp} {ts : List TeleOf}
      → e ≡ Sigma_ p xs b → ts ≡ tele_items xs → x ≡ b.value → under sig (binders_of bytes ts) (term_of bytes x) ≡ term_of bytes e
  sigma_is p xs b i j k = rw (i, j, k) (sym (reads_sigma p xs b))

  pub path_lambda_is : (p : Span) (xs : List Span) (b : Box Exp Global) {e x : Exp} {ns : List Span}
      → e ≡ PathLambda_ p xs b → ns ≡ xs → x ≡ b.value → under_names (words_of bytes ns) (term_of bytes x) ≡ term_of bytes e
  path_lambda_is p xs b i j k = rw (i, j, k) (sym (reads_path_lambda p xs b))

  reads_arrow : (p : Span) (a b : Box Exp Global) → under pi (record { names = codes "_" ∷ []; type = term_of bytes a.value } ∷ []) (term_of bytes b.value) ≡ term_of bytes (Arrow_ p a b)
  unfolding term_of read
  reads_arrow p a b = refl

  pub arrow_is : (p : Span) (a b : Box Exp Global) {e x y : Exp} → e ≡ Arrow_ p a b → x ≡ a.value → y ≡ b.value
      → under pi (record { names = codes "_" ∷ []; type = term_of bytes x } ∷ []) (term_of bytes y) ≡ term_of bytes e
  arrow_is p a b i j k = rw (i, j, k) (reads_arrow p a b)

  pub named_is : (p : Span) (f : Box Exp Global) (n : Span) (es : Elements) {e h : Exp} {xs : List Element}
      → e ≡ Apply_ p f es → h ≡ f.value → h ≡ Name_ n → xs ≡ es.items.items → named_of bytes n xs ≡ term_of bytes e
  named_is p f n es i j k l = rw (i, l) (sym (reads_named p f n es (sym j ∙ k)))

  pub applied_is : (p : Span) (f : Box Exp Global) (es : Elements) {e h : Exp} {xs : List Element}
      → e ≡ Apply_ p f es → h ≡ f.value → ((n : Span) → f.value ≡ Name_ n → ⊥) → xs ≡ es.items.items
      → application (term_of bytes h) (elements_of bytes xs) ≡ term_of bytes e
  applied_is p f es i j other l = rw (i, j, l) (sym (reads_applied p f es other))

  reads_path_type : (p : Span) (l a b : Box Exp Global) → path_type (line_of bytes l.value) (term_of bytes a.value) (term_of bytes b.value) ≡ term_of bytes (PathP_ p l a b)
  unfolding term_of line_of read
  reads_path_type p l a b = refl

  pub path_type_is : (p : Span) (l a b : Box Exp Global) {e x y z : Exp} → e ≡ PathP_ p l a b → x ≡ l.value → y ≡ a.value → z ≡ b.value
      → path_type (line_of bytes x) (term_of bytes y) (term_of bytes z) ≡ term_of bytes e
  path_type_is p l a b i j k m = rw (i, j, k, m) (reads_path_type p l a b)

  pub comp_is : (p : Span) (l a : Box Exp Global) (ss : Sides) {e x y : Exp} {xs : List SideOf}
      → e ≡ Comp_ p l a ss → x ≡ l.value → y ≡ a.value → xs ≡ side_items ss
      → composition (line_of bytes x) (term_of bytes y) (map (side_of bytes (line_of bytes)) xs) ≡ term_of bytes e
  comp_is p l a ss i j k m = rw (i, j, k, m) (sym (reads_comp p l a ss))

  pub fill_is : (p : Span) (l a : Box Exp Global) (ss : Sides) {e x y : Exp} {xs : List SideOf}
      → e ≡ Fill_ p l a ss → x ≡ l.value → y ≡ a.value → xs ≡ side_items ss
      → fill (line_of bytes x) (term_of bytes y) (map (side_of bytes (line_of bytes)) xs) ≡ term_of bytes e
  fill_is p l a ss i j k m = rw (i, j, k, m) (sym (reads_fill p l a ss))

  reads_transport : (p : Span) (l a : Box Exp Global) → transport (line_of bytes l.value) (term_of bytes a.value) ≡ term_of bytes (Transport_ p l a)
  unfolding term_of line_of read
  reads_transport p l a = refl

  pub transport_is : (p : Span) (l a : Box Exp Global) {e x y : Exp} → e ≡ Transport_ p l a → x ≡ l.value → y ≡ a.value
      → transport (line_of bytes x) (term_of bytes y) ≡ term_of bytes e
  transport_is p l a i j k = rw (i, j, k) (reads_transport p l a)

  pub glue_type_is : (p : Span) (a : Box Exp Global) (ss : Sides) {e y : Exp} {xs : List SideOf} → e ≡ GlueType_ p a ss → y ≡ a.value → xs ≡ side_items ss
      → glue_of_types (term_of bytes y) (map (side_of bytes (λ x. pair_of bytes (place_of x) x)) xs) ≡ term_of bytes e
  glue_type_is p a ss i k m = rw (i, k, m) (sym (reads_glue_type p a ss))

  pub glue_term_is : (p : Span) (a : Box Exp Global) (ss : Sides) {e y : Exp} {xs : List SideOf} → e ≡ GlueTerm_ p a ss → y ≡ a.value → xs ≡ side_items ss
      → glue_of_terms (term_of bytes y) (map (side_of bytes (term_of bytes)) xs) ≡ term_of bytes e
  glue_term_is p a ss i k m = rw (i, k, m) (sym (reads_glue_term p a ss))

  pub unglue_is : (p : Span) (a : Box Exp Global) (ss : Sides) {e y : Exp} {xs : List SideOf} → e ≡ Unglue_ p a ss → y ≡ a.value → xs ≡ side_items ss
      → unglued (term_of bytes y) (map (side_of bytes (λ x. pair_of bytes (place_of x) x)) xs) ≡ term_of bytes e
  unglue_is p a ss i k m = rw (i, k, m) (sym (reads_unglue p a ss))

  reads_project : (p : Span) (a : Box Exp Global) (ps : List Projection) → one (λ t. project t ps) (term_of bytes a.value) ≡ term_of bytes (Project_ p a ps)
  unfolding term_of read
  reads_project p a ps = refl

  pub project_is : (p : Span) (a : Box Exp Global) (ps : List Projection) {e y : Exp} {xs : List Projection} → e ≡ Project_ p a ps → y ≡ a.value → xs ≡ ps
      → one (λ t. project t xs) (term_of bytes y) ≡ term_of bytes e
  project_is p a ps i k m = rw (i, k, m) (reads_project p a ps)

  reads_universe : (p : Span) → (λ G. done universe) ≡ term_of bytes (Universe_ p)
  unfolding term_of read
  reads_universe p = refl

  pub universe_is : (p : Span) {e : Exp} → e ≡ Universe_ p → (λ G. done universe) ≡ term_of bytes e
  universe_is p i = rw i (reads_universe p)

  reads_name : (n : Span) → term_at bytes n ≡ term_of bytes (Name_ n)
  unfolding term_of read
  reads_name n = refl

  pub name_is : (n : Span) {e : Exp} → e ≡ Name_ n → term_at bytes n ≡ term_of bytes e
  name_is n i = rw i (reads_name n)

  pub brackets_is : (p : Span) (es : Exps) {e : Exp} {xs : List Exp} → e ≡ Brackets_ p es → xs ≡ es.items.items → tuple (map (term_of bytes) xs) ≡ term_of bytes e
  brackets_is p es i j = rw (i, j) (sym (reads_brackets p es))
