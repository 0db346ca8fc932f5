-- What the parser's end and its faults say of the tokens.
use Rattle.std.proofs.Common.{ℕ, ◌≡◌, ◌<◌, ◌+◌, List, [], ◌∷◌, ◌++◌, length, take, drop, Option, Some, None, true, false, Result, Ok, Err, refl, sym, ap, subst, ◌∙◌, get_or, arith, append_assoc}
use Rattle.std.proofs.lemmas.List.{take_more, length-map, take-append-drop}
use Rattle.std.proofs.Math.ListN.{get_or-map}
use Rattle.layout_lexer.specs.declared.token.Token.{Token}
use Rattle.syntax.specs.Tree.{Tree, Module, none, more}
use Rattle.syntax.specs.View.{tree_of, module_of}
use Rattle.syntax.specs.declared.exp.Module.{Module as ModuleOf}
use Rattle.syntax.specs.declared.exp.Exp.{Exp, Let', Lambda', PathLambda', Pi', Sigma', Arrow', Apply', PathP', Comp', Fill', Transport', GlueType', GlueTerm', Unglue', Project', Universe, Name, Brackets'}
use Rattle.productions.specs.Words.{Word, Refused, Piece, piece, pieces, piece_of, word_of, Composed, Filled, GluedType, GluedTerm, Unglued}
use Rattle.productions.specs.Grammar.{IsWrongAt, wrong_token, wrong_end, IsModule, empty_module, items, IsWholeExp, whole_exp, let_in, lambda, path_lambda, exp1, IsExp1, pi, sigma, arrow, exp2, IsExp2, apply, IsExp3, path_type, comp_or_fill, transport, glue, exp4, IsExp4, project, universe, name, brackets, no_projection, next_projection}
use Rattle.productions.specs.Machine.{State, run, and_step, start_module, start_exp}
use Rattle.grammar.specs.Faults.{refuses, first_refused, IsRead, IsTooDeep, IsFault, Reaches, StopsAt, at_token, at_end, Outcome, Ends, Steps}
use Rattle.productions.specs.declared.past.Past.{Past}
use Rattle.grammar.specs.declared.reading.Text.{Text as TextOf}
use Rattle.grammar.specs.declared.reading.Text.TheVariants as T
use Rattle.grammar.specs.declared.reading.ReadFault.{ReadFault}
use Rattle.grammar.specs.declared.reading.ReadFault.TheVariants.{RefusedForm, Unexpected, TooDeep, Memory}
use Rattle.productions.specs.Runs.{IsExact}
use Rattle.productions.proofs.Exact.{module_exact, exp_exact}

-- from the machine to the grammar
pub outcome_read : {IsText : List Piece → Tree → Past → Type 0} {start : Option State} → IsExact IsText start → (ts : List Piece) (m : Tree)
    → (first_refused ts ≡ None) × Reaches start ts None m → IsRead IsText ts m
outcome_read laws ts m o =
    let r = o.1 in
    record {
      past = r.state.past;
      is = laws.reads ts r.state m r.ran r.ended;
      allowed = o.0;
      shallow = r.at;
      only = λ n q is. (laws.only ts r.state m n q r.ran r.ended is).0;
    }

too_deep : {IsText : List Piece → Tree → Past → Type 0} {start : Option State} → IsExact IsText start → (ts : List Piece) (p : ℕ) (m : Tree)
    → Reaches start ts (Some p) m → IsTooDeep IsText ts p
too_deep laws ts p m r = record {
  tree = m;
  past = r.state.past;
  is = laws.reads ts r.state m r.ran r.ended;
  deep = r.at;
  always = λ n q is. ap (λ past. past.deep) (laws.only ts r.state m n q r.ran r.ended is).1 ∙ r.at;
}

wrong_at : {IsText : List Piece → Tree → Past → Type 0} {start : Option State} → IsExact IsText start → {size : ℕ} {ts : List Piece} {p : ℕ}
    → StopsAt start size ts p → IsWrongAt IsText size ts p
wrong_at laws (at_token {s = s} w e before after x is ran stuck) =
    let wrong = laws.stops before x (piece w s e) ran stuck in wrong_token w e before after is wrong.0 wrong.1
wrong_at laws {ts = ts} (at_end x ran stuck) = let wrong = laws.stops_at_end ts x ran stuck in wrong_end wrong.0 wrong.1

pub outcome_fault : {IsText : List Piece → Tree → Past → Type 0} {start : Option State} → IsExact IsText start → (size : ℕ) (ts : List Piece) (f : ReadFault)
    → Outcome start size ts (Err f) → IsFault IsText size ts f
outcome_fault laws size ts (RefusedForm p) o = o
outcome_fault laws size ts (Unexpected p) o = (o.0, wrong_at laws o.1)
outcome_fault laws size ts (TooDeep p) o = (o.0, too_deep laws ts p o.1.0 o.1.1)
outcome_fault laws size ts Memory o = tt

-- the end of a run
pub end_outcome : (start : Option State) (size : ℕ) (ts : List Piece) (s : State) (r : Result TextOf ReadFault)
    → first_refused ts ≡ None → run start ts ≡ Some s → Ends s size r → Outcome start size ts r
end_outcome start size ts s (Ok x) clean ran e = (clean, record { state = s; ran = ran; at = e.0; ended = e.1 })
end_outcome start size ts s (Err (RefusedForm p)) clean ran e = absurd e
end_outcome start size ts s (Err (Unexpected p)) clean ran e = (clean, rw e.0 (at_end s ran e.1))
end_outcome start size ts s (Err (TooDeep p)) clean ran e = (clean, (e.1.0, record { state = s; ran = ran; at = e.0; ended = e.1.1 }))
end_outcome start size ts s (Err Memory) clean ran e = tt

-- the tokens before a place, that token, and those after it
pub more_pieces : (ts : List Token) (k : ℕ) (d : Token) → k < length ts → take (k + 1) (pieces ts) ≡ take k (pieces ts) ++ piece_of (get_or ts k d) ∷ []
more_pieces ts k d lt =
    take_more (pieces ts) k (piece_of d) (omega (arith, length-map ts piece_of))
    ∙ ap (λ x. take k (pieces ts) ++ x ∷ []) (get_or-map piece_of ts k d)

pub split_pieces : (ts : List Token) (k : ℕ) (d : Token) → k < length ts
    → pieces ts ≡ take k (pieces ts) ++ piece_of (get_or ts k d) ∷ drop (k + 1) (pieces ts)
split_pieces ts k d lt =
    sym (take-append-drop (k + 1) (pieces ts)) ∙ ap (λ xs. xs ++ drop (k + 1) (pieces ts)) (more_pieces ts k d lt)
    ∙ append_assoc (take k (pieces ts)) (piece_of (get_or ts k d) ∷ []) (drop (k + 1) (pieces ts))

pub step_outcome : (start : Option State) (size : ℕ) (ts : List Token) (k : ℕ) (d : Token) (s : State) (f : ReadFault) → k < length ts
    → first_refused (pieces ts) ≡ None → run start (take k (pieces ts)) ≡ Some s
    → Steps (get_or ts k d).start (Err f) (and_step (Some s) (piece_of (get_or ts k d))) → Outcome start size (pieces ts) (Err f)
step_outcome start size ts k d s (RefusedForm p) lt clean ran e = absurd e
step_outcome start size ts k d s (Unexpected p) lt clean ran e =
    (clean, rw e.0 (at_token (word_of (get_or ts k d).kind) (get_or ts k d).end (take k (pieces ts)) (drop (k + 1) (pieces ts)) s (split_pieces ts k d lt) ran e.1))
step_outcome start size ts k d s (TooDeep p) lt clean ran e = absurd e
step_outcome start size ts k d s Memory lt clean ran e = tt

-- refused words
pub refused_here : (w : Word) (s e : ℕ) (ts : List Piece) → refuses w ≡ true → first_refused (piece w s e ∷ ts) ≡ Some s
refused_here Refused s e ts eq = refl
refused_here w s e ts eq = absurd (false_true eq)
  where
    false_true : false ≡ true → ⊥
    false_true x = cc

pub refused_later : (w : Word) (s e : ℕ) (ts : List Piece) → refuses w ≡ false → first_refused (piece w s e ∷ ts) ≡ first_refused ts
refused_later Refused s e ts eq = absurd (true_false eq)
  where
    true_false : true ≡ false → ⊥
    true_false x = cc
refused_later w s e ts eq = refl

some_none : {A : Type 0} {x : A} → Some x ≡ None → ⊥
some_none eq = cc

pub refused_append : (xs ys : List Piece) → first_refused xs ≡ None → first_refused (xs ++ ys) ≡ first_refused ys
refused_append [] ys eq = refl
refused_append (piece Refused s e ∷ xs) ys eq = absurd (some_none eq)
refused_append (piece w s e ∷ xs) ys eq = refused_append xs ys eq

pub refused_take : (ts : List Token) (k : ℕ) (d : Token) → k < length ts → first_refused (take k (pieces ts)) ≡ None
    → refuses (word_of (get_or ts k d).kind) ≡ false → first_refused (take (k + 1) (pieces ts)) ≡ None
refused_take ts k d lt clean eq =
    let t = get_or ts k d in
    ap first_refused (more_pieces ts k d lt) ∙ refused_append (take k (pieces ts)) (piece_of t ∷ []) clean ∙ refused_later (word_of t.kind) t.start t.end [] eq

pub refused_found : (ts : List Token) (k : ℕ) (d : Token) → k < length ts → first_refused (take k (pieces ts)) ≡ None
    → refuses (word_of (get_or ts k d).kind) ≡ true → first_refused (pieces ts) ≡ Some (get_or ts k d).start
refused_found ts k d lt clean eq =
    let t = get_or ts k d in
    ap first_refused (split_pieces ts k d lt) ∙ refused_append (take k (pieces ts)) (piece_of t ∷ drop (k + 1) (pieces ts)) clean
    ∙ refused_here (word_of t.kind) t.start t.end (drop (k + 1) (pieces ts)) eq

-- a module is no expression
abbrev pub IsModuleTree : Tree → Type 0
IsModuleTree (Module n is ds) = Unit {0}
IsModuleTree x = ⊥

pub module_is : {ts : List Piece} {m : Tree} {q : Past} → IsModule ts m q → IsModuleTree m
module_is empty_module = tt
module_is (items its) = tt

pub exp_is_none : (e : Exp) → IsModuleTree (tree_of e) → ⊥
exp_is_none (Let' s ds p e) h = h
exp_is_none (Lambda' s xs p e) h = h
exp_is_none (PathLambda' s ns p e) h = h
exp_is_none (Pi' s xs p e) h = h
exp_is_none (Sigma' s xs p e) h = h
exp_is_none (Arrow' s p f q e) h = h
exp_is_none (Apply' s p f shape all) h = h
exp_is_none (PathP' s p l q a o b) h = h
exp_is_none (Comp' s p l q a ss) h = h
exp_is_none (Fill' s p l q a ss) h = h
exp_is_none (Transport' s p l q a) h = h
exp_is_none (GlueType' s p a ss) h = h
exp_is_none (GlueTerm' s p a ss) h = h
exp_is_none (Unglue' s p a ss) h = h
exp_is_none (Project' s p e hs) h = h
exp_is_none (Universe s) h = h
exp_is_none (Name s) h = h
exp_is_none (Brackets' s shape all) h = h

exp4_is_none : {r : ℕ} {p q : Past} {ts rest : List Piece} {x : Tree} → IsExp4 r p ts rest x q → IsModuleTree x → ⊥
exp4_is_none (project universe no_projection) h = h
exp4_is_none (project name no_projection) h = h
exp4_is_none (project (brackets x xs) no_projection) h = h
exp4_is_none (project x (next_projection hs)) h = h

exp3_is_none : {r : ℕ} {p q : Past} {ts rest : List Piece} {x : Tree} → IsExp3 r p ts rest x q → IsModuleTree x → ⊥
exp3_is_none (path_type x y z) h = h
exp3_is_none (comp_or_fill {w = Composed} x y ss) h = h
exp3_is_none (comp_or_fill {w = Filled} x y ss) h = h
exp3_is_none (transport x y) h = h
exp3_is_none (glue {w = GluedType} x ss) h = h
exp3_is_none (glue {w = GluedTerm} x ss) h = h
exp3_is_none (glue {w = Unglued} x ss) h = h
exp3_is_none (exp4 x) h = exp4_is_none x h

exp2_is_none : {r : ℕ} {p q : Past} {ts rest : List Piece} {x : Tree} → IsExp2 r p ts rest x q → IsModuleTree x → ⊥
exp2_is_none (apply {es = none} x xs) h = exp3_is_none x h
exp2_is_none (apply {es = more y ys} x xs) h = h

exp1_is_none : {r : ℕ} {p q : Past} {ts rest : List Piece} {x : Tree} → IsExp1 r p ts rest x q → IsModuleTree x → ⊥
exp1_is_none (pi x xs y) h = h
exp1_is_none (sigma x xs y) h = h
exp1_is_none (arrow x y) h = h
exp1_is_none (exp2 x) h = exp2_is_none x h

pub whole_exp_is_none : {ts : List Piece} {m : Tree} {q : Past} → IsWholeExp ts m q → IsModuleTree m → ⊥
whole_exp_is_none (whole_exp (let_in ds x)) h = h
whole_exp_is_none (whole_exp (lambda x xs y)) h = h
whole_exp_is_none (whole_exp (path_lambda ns x)) h = h
whole_exp_is_none (whole_exp (exp1 x)) h = exp1_is_none x h

-- what the two calls read, of the tokens and the size that they were given
pub module_read : (a b : List Token) (size : ℕ) (x : ModuleOf) → Outcome start_module size (pieces a) (Ok (T.Module x)) → a ≡ b
    → IsRead IsModule (pieces b) (module_of x)
module_read a b size x o same =
    let P : List Token → Type 0 = λ ts. IsRead IsModule (pieces ts) (module_of x) in
    subst P same (outcome_read module_exact (pieces a) (module_of x) o)

pub module_fault : (a b : List Token) (size len : ℕ) (f : ReadFault) → Outcome start_module size (pieces a) (Err f) → a ≡ b → size ≡ len
    → IsFault IsModule len (pieces b) f
module_fault a b size len f o same long =
    let P : List Token → Type 0 = λ ts. IsFault IsModule size (pieces ts) f in
    let Q : ℕ → Type 0 = λ n. IsFault IsModule n (pieces b) f in
    subst Q long (subst P same (outcome_fault module_exact size (pieces a) f o))

pub exp_read : (a b : List Token) (size : ℕ) (x : Exp) → Outcome start_exp size (pieces a) (Ok (T.Exp x)) → a ≡ b
    → IsRead IsWholeExp (pieces b) (tree_of x)
exp_read a b size x o same =
    let P : List Token → Type 0 = λ ts. IsRead IsWholeExp (pieces ts) (tree_of x) in
    subst P same (outcome_read exp_exact (pieces a) (tree_of x) o)

pub exp_fault : (a b : List Token) (size len : ℕ) (f : ReadFault) → Outcome start_exp size (pieces a) (Err f) → a ≡ b → size ≡ len
    → IsFault IsWholeExp len (pieces b) f
exp_fault a b size len f o same long =
    let P : List Token → Type 0 = λ ts. IsFault IsWholeExp size (pieces ts) f in
    let Q : ℕ → Type 0 = λ n. IsFault IsWholeExp n (pieces b) f in
    subst Q long (subst P same (outcome_fault exp_exact size (pieces a) f o))

pub module_is_no_exp : (a : List Token) (size : ℕ) (e : Exp) → Outcome start_module size (pieces a) (Ok (T.Exp e)) → ⊥
module_is_no_exp a size e o =
    let found : IsRead IsModule (pieces a) (tree_of e) = outcome_read module_exact (pieces a) (tree_of e) o in exp_is_none e (module_is found.is)

pub exp_is_no_module : (a : List Token) (size : ℕ) (m : ModuleOf) → Outcome start_exp size (pieces a) (Ok (T.Module m)) → ⊥
exp_is_no_module a size m o =
    let found : IsRead IsWholeExp (pieces a) (module_of m) = outcome_read exp_exact (pieces a) (module_of m) o in whole_exp_is_none found.is tt
