-- Definitions, one after another.
use Rattle.std.proofs.Common.{◌≡◌, ◌&&◌, ℕ, List, [], ◌∷◌, ◌++◌, map, Option, Some, None, Bool, true, false, Vec, Bor, Global, ◌+◌, ◌<◌, refl, sym, ap, ap₂, ◌∙◌, subst, arith, append_assoc, length}
use Rattle.std.specs.Option.{option_map, option_and_then}
use mathlib.Core.Former.{Count}
use Rattle.layout_lexer.specs.declared.token.Span.{Span}
use Rattle.codes.specs.declared.code.Code.{Code, Row_of-Binder, end_of-Binder, more_of-Binder, items-the_row-Binder, items_hidden-the_row-Binder-1}
use Rattle.codes.specs.declared.code.Binder.{Binder as BinderOf}
use Rattle.codes.specs.declared.code.CodeDef.{CodeDef, CodeDef', roll-CodeDef, out-CodeDef, roll-out-CodeDef}
use Rattle.codes.specs.Codes.{meaning, binder, binders, definition, definitions}
use Rattle.codes.proofs.Logs.{append_empty}
use Rattle.codes.proofs.Rows.{binders_row, definition_of}
use Rattle.trees.specs.Trees.{Tree}
use Rattle.translation.specs.Scopes.{Scope, context_of}
use Rattle.translation.specs.Translated.{Stated, done}
use Rattle.translation.specs.Forms.{Means, defined, define}
use Rattle.book.specs.Contents.{Contents}
use Rattle.direct.specs.Known.{Known, Definition, scope_of, value_at}
use Rattle.direct.specs.Typings.{Typing, BinderTyping, BlockTyping, holds, where_true, enter, as_type, definition_typing}
use Rattle.direct.specs.Direct.{typing}
use Rattle.typing_tasks.specs.declared.tasks.Task.TheVariants as task
use Rattle.typing_tasks.specs.declared.tasks.Defining.TheVariants as defining
use Rattle.typing_tasks.specs.declared.tasks.Binding.TheVariants as binding
use Rattle.typing_tasks.specs.declared.tasks.Inner.TheVariants as inner
use Rattle.trees.specs.Language.{Ty, Tm}
use Rattle.typing_tasks.specs.declared.tasks.Tasks.{Tasks}
use Rattle.typing_tasks.specs.declared.tasks.Next.{Next}
use Rattle.typing_tasks.specs.declared.tasks.Next.TheVariants.{Moved}
use Rattle.typing_steps.specs.Steps.{Plans, Planned}
use Rattle.typing_tasks.specs.States.{State, after, finding, place, stated_at, with_known, with_stated}
use Rattle.typing_tasks.specs.Outcomes.{typed, definition_typed, binder_typed, binders_of, block_typed, block, statement, type_of, body_of}
use Rattle.typing_tasks.specs.Weights.{binders_size, binder_weight, def_weight, size, sum, weight, weight_of, weights}
use Rattle.typing_tasks.specs.Tasks.{Run, Then}
use Rattle.typing_steps.proofs.Planning.{run_one, plans}
use Rattle.typing_tasks.proofs.OutcomeLaws.{then_where, then_map}
use Rattle.typing_steps.proofs.BindingLaws.{type_reads, body_reads}
use Rattle.typing_steps.proofs.GrowthLaws.{run_append}
use Rattle.typing_tasks.proofs.TypingRows.{tree_typing, binders_typed, binders_mean}

-- of parts

abbrev pub parts_mean : List BinderTyping → Typing → Typing → Means ℕ (Tree × Tree)
parts_mean bs t c = defined (binders_of bs) t.tree done c.tree

abbrev parts_pass : List BinderTyping → Typing → Typing → Known → Bool
parts_pass bs t c G = holds (enter as_type bs G) λ H. t.is_type H && c.check H (value_at H t.tree)

-- what a definition makes of a state, of how it is typed and what it means
abbrev outcome : BlockTyping → Means ℕ (Scope ℕ) → State → Option State
outcome goes m S = option_map (λ G. with_known G (after m S)) (goes S.known)

abbrev pub defining_of : ℕ → List BinderTyping → Typing → Typing → State → Option State
defining_of n bs t c = outcome (definition_typing n bs t c (parts_mean bs t c)) (define n (parts_mean bs t c))

-- a definition is stated, whose parts were found
pub statement_closed : (b : Contents) (n : ℕ) (bs : List BinderTyping) (t c : Typing) (S : State)
    → Then (Run b (task.Defining (defining.Close n) ∷ [])) (statement bs t c S) (defining_of n bs t c S)
statement_closed b n bs t c S =
    let m : Means ℕ (Tree × Tree) = parts_mean bs t c in
    let A : Tree = (value_at S.known m).0 in
    let a : Tree = (value_at S.known m).1 in
    let end : State = with_known (Definition n a A ∷ S.known) (after (define n m) S) in
    let d : Stated ℕ = record { name = n; context = context_of (scope_of S.known); type = A; body = a } in
    let made : Bool → Option State = λ p. option_map (λ G. with_known G (after (define n m) S)) (where_true p (Some (Definition n a A ∷ S.known))) in
    let stated : end ≡ record { known = end.known; found = S.found; inferred = S.inferred; stated = (S.stated ++ stated_at S.known m) ++ d ∷ [] } =
    ap (λ (ds : List (Stated ℕ)). record { known = end.known; found = S.found; inferred = S.inferred; stated = ds }) (sym (append_assoc S.stated (stated_at S.known m) (d ∷ []))) in
    let next : State = finding (Tm (place S) a A) (finding (Ty (place S) A) (after m S)) in
    then_where b (task.Defining (defining.Close n) ∷ []) next (parts_pass bs t c S.known)
    (λ yes. run_one b next _ (task.Defining (defining.Close n)) (A, a, S.found, refl, ap made yes ∙ ap Some stated))
    (λ no. ap made no)

-- of codes

abbrev row_under : CodeDef → (n : Count) × Row_of-Binder n
row_under (CodeDef' x k _ row t c) = (_, row)

pub typing_of-CodeDef : (x : Span) (n : ℕ) (bs : Vec BinderOf Global) (t c : Code)
    → definition_typed (roll-CodeDef (record { name = x; number = n; binders = bs; ty = t; body = c }))
    ≡ definition_typing n (map binder_typed bs.items) (typed t) (typed c) (parts_mean (map binder_typed bs.items) (typed t) (typed c))
unfolding definition_typed typed roll-CodeDef denote.Hole.Carrier.roll
typing_of-CodeDef x n bs t c =
    let row = row_under (roll-CodeDef (record { name = x; number = n; binders = bs; ty = t; body = c })) in
    ap (λ xs. definition_typing n xs (typing t) (typing c) (defined (binders row.1) (meaning t) done (meaning c)))
    (binders_typed row.0 row.1 ∙ ap (map binder_typed) (items_hidden-the_row-Binder-1 bs))
    ∙ ap (λ ys. definition_typing n (map binder_typed bs.items) (typing t) (typing c) (defined ys (meaning t) done (meaning c)))
    (binders_row row.0 row.1 ∙ (ap (map binder) (items_hidden-the_row-Binder-1 bs) ∙ binders_mean bs.items))
    ∙ ap₂ (λ v w. definition_typing n (map binder_typed bs.items) (typing t) (typing c) (defined (binders_of (map binder_typed bs.items)) v done w))
    (sym (tree_typing t)) (sym (tree_typing c))

pub means_of-CodeDef : (x : Span) (n : ℕ) (bs : Vec BinderOf Global) (t c : Code)
    → definition (roll-CodeDef (record { name = x; number = n; binders = bs; ty = t; body = c }))
    ≡ define n (parts_mean (map binder_typed bs.items) (typed t) (typed c))
unfolding typed
means_of-CodeDef x n bs t c =
    definition_of x n bs t c
    ∙ ap (λ ys. define n (defined ys (meaning t) done (meaning c))) (binders_mean bs.items)
    ∙ ap₂ (λ v w. define n (defined (binders_of (map binder_typed bs.items)) v done w)) (sym (tree_typing t)) (sym (tree_typing c))

-- what a definition makes of a state
abbrev pub definition_outcome : CodeDef → State → Option State
definition_outcome d = outcome (definition_typed d) (definition d)

abbrev typing_parts : ℕ → List BinderOf → Code → Code → BlockTyping
typing_parts n bs t c = definition_typing n (map binder_typed bs) (typed t) (typed c) (parts_mean (map binder_typed bs) (typed t) (typed c))

abbrev means_parts : ℕ → List BinderOf → Code → Code → Means ℕ (Scope ℕ)
means_parts n bs t c = define n (parts_mean (map binder_typed bs) (typed t) (typed c))

typing_reads : (d : CodeDef) → (let o = out-CodeDef d in typing_parts o.number o.binders.items (type_of d) (body_of d)) ≡ definition_typed d
typing_reads d =
    let o = out-CodeDef d in
    ap₂ (typing_parts o.number o.binders.items) (type_reads d) (body_reads d)
    ∙ (sym (typing_of-CodeDef o.name o.number o.binders o.ty o.body) ∙ ap definition_typed (roll-out-CodeDef d))

means_reads : (d : CodeDef) → (let o = out-CodeDef d in means_parts o.number o.binders.items (type_of d) (body_of d)) ≡ definition d
means_reads d =
    let o = out-CodeDef d in
    ap₂ (means_parts o.number o.binders.items) (type_reads d) (body_reads d)
    ∙ (sym (means_of-CodeDef o.name o.number o.binders o.ty o.body) ∙ ap definition (roll-out-CodeDef d))

-- a definition: its type and its body under its binders, and then it is stated
pub definition_law : (b : Contents) (bs : Bor (List BinderOf)) (d : Bor CodeDef) (S : State) → bs.now ≡ (out-CodeDef d.now).binders.items
    → Run b (task.Binding (binding.Under bs (inner.Definition d)) ∷ task.Defining (defining.Close (out-CodeDef d.now).number) ∷ []) S (definition_outcome d.now S)
definition_law b bs d S own =
    let o = out-CodeDef d.now in
    let t : Typing = typed (type_of d.now) in
    let c : Typing = typed (body_of d.now) in
    let e : defining_of o.number (map binder_typed o.binders.items) t c S ≡ definition_outcome d.now S =
    ap₂ (λ g m. outcome g m S) (typing_reads d.now) (means_reads d.now) in (
      statement (map binder_typed bs.now) t c S,
      refl,
      subst (λ xs. Then (Run b (task.Defining (defining.Close o.number) ∷ [])) (statement (map binder_typed xs) t c S) (definition_outcome d.now S)) (sym own)
          (subst (λ R. Then (Run b (task.Defining (defining.Close o.number) ∷ [])) (statement (map binder_typed o.binders.items) t c S) R) e
          (statement_closed b o.number (map binder_typed o.binders.items) t c S)),
    )

-- more of them

or_else : {A : Type 0} → Option A → A → A
or_else None a = a
or_else (Some b) a = b

where_some : {A : Type 0} (p : Bool) (x y : A) → where_true p (Some x) ≡ Some y → x ≡ y
unfolding or_else
where_some true x y e = ap (λ o. or_else o x) e
where_some false x y e = absurd (cc e)

scope_parts : (n : ℕ) (bs : List BinderTyping) (t c : Typing) (G H : Known) → definition_typing n bs t c (parts_mean bs t c) G ≡ Some H → value_at G (define n (parts_mean bs t c)) ≡ scope_of H
scope_parts n bs t c G H e =
    let s = value_at G (parts_mean bs t c) in
    ap scope_of (where_some (parts_pass bs t c G) (Definition n s.1 s.0 ∷ G) H e)

-- what is in scope after it
pub scope_after : (d : CodeDef) (G H : Known) → definition_typed d G ≡ Some H → value_at G (definition d) ≡ scope_of H
scope_after d G H e =
    let o = out-CodeDef d in
    ap (value_at G) (sym (means_reads d))
    ∙ scope_parts o.number (map binder_typed o.binders.items) (typed (type_of d)) (typed (body_of d)) G H (ap (λ g. g G) (typing_reads d) ∙ e)

block_more : (b : Contents) (d : CodeDef) (rest : Bor (List CodeDef)) (S : State)
    → Then (Run b (task.Defining (defining.Block rest) ∷ [])) (definition_outcome d S) (block (d ∷ rest.now) S)
block_more b d rest S =
    let stated : Scope ℕ → List (Stated ℕ) = λ s. (definitions rest.now s).stated in
    let made : Option Known → List (Stated ℕ) → Option State = λ o ds. option_map (λ K. with_known K (with_stated ds S)) (option_and_then (block_typed rest.now) o) in
    let own : List (Stated ℕ) = stated_at S.known (definition d) in
    let whole : List (Stated ℕ) = own ++ stated (value_at S.known (definition d)) in
    then_map b (task.Defining (defining.Block rest) ∷ []) (λ G. with_known G (after (definition d) S)) (definition_typed d S.known)
    (λ H is. run_one b (with_known H (after (definition d) S)) _ (task.Defining (defining.Block rest))
    (ap (λ o. made o whole) is
    ∙ (ap (λ s. made (Some H) (own ++ stated s)) (scope_after d S.known H is)
    ∙ ap (λ (ds : List (Stated ℕ)). option_map (λ K. record { known = K; found = S.found; inferred = S.inferred; stated = ds }) (block_typed rest.now H)) (sym (append_assoc S.stated own (stated (scope_of H)))))))
    (λ none. ap (λ o. made o whole) none)

pub block_law : (b : Contents) (bs : Bor (List BinderOf)) (d : Bor CodeDef) (rest : Bor (List CodeDef)) (S : State) → bs.now ≡ (out-CodeDef d.now).binders.items
    → Run b (task.Binding (binding.Under bs (inner.Definition d)) ∷ task.Defining (defining.Close (out-CodeDef d.now).number) ∷ task.Defining (defining.Block rest) ∷ []) S (block (d.now ∷ rest.now) S)
block_law b bs d rest S own =
    run_append b (task.Binding (binding.Under bs (inner.Definition d)) ∷ task.Defining (defining.Close (out-CodeDef d.now).number) ∷ []) (task.Defining (defining.Block rest) ∷ [])
    S (definition_outcome d.now S) (block (d.now ∷ rest.now) S) (definition_law b bs d S own) (block_more b d.now rest S)

-- weights

binders_weigh : (n : _) (row : Row_of-Binder n) → binders_size row ≡ sum binder_weight (items-the_row-Binder n row)
unfolding weight_of
binders_weigh n end_of-Binder = refl
binders_weigh n (more_of-Binder k c rest) = let e = binders_weigh _ rest in omega arith

weight_of-CodeDef : (x : Span) (n : ℕ) (bs : Vec BinderOf Global) (t c : Code)
    → def_weight (roll-CodeDef (record { name = x; number = n; binders = bs; ty = t; body = c })) ≡ 16 + (sum binder_weight bs.items + (weight_of t + weight_of c))
unfolding def_weight weight_of roll-CodeDef denote.Hole.Carrier.roll
weight_of-CodeDef x n bs t c =
    let row = row_under (roll-CodeDef (record { name = x; number = n; binders = bs; ty = t; body = c })) in
    ap (λ k. 16 + (k + (size t + size c))) (binders_weigh row.0 row.1 ∙ ap (sum binder_weight) (items_hidden-the_row-Binder-1 bs))

def_weighs : (d : CodeDef) → def_weight d ≡ 16 + (sum binder_weight (out-CodeDef d).binders.items + (weight_of (type_of d) + weight_of (body_of d)))
def_weighs d =
    let o = out-CodeDef d in
    sym (ap def_weight (roll-out-CodeDef d))
    ∙ (weight_of-CodeDef o.name o.number o.binders o.ty o.body
    ∙ ap₂ (λ t c. 16 + (sum binder_weight o.binders.items + (weight_of t + weight_of c))) (sym (type_reads d)) (sym (body_reads d)))

pub block_less : (bs : Bor (List BinderOf)) (d : Bor CodeDef) (ds rest : Bor (List CodeDef)) → bs.now ≡ (out-CodeDef d.now).binders.items → ds.now ≡ d.now ∷ rest.now
    → weights (task.Binding (binding.Under bs (inner.Definition d)) ∷ task.Defining (defining.Close (out-CodeDef d.now).number) ∷ task.Defining (defining.Block rest) ∷ []) < weight (task.Defining (defining.Block ds))
block_less bs d ds rest own whole =
    let e = def_weighs d.now in
    subst (λ (xs : List CodeDef). 1 + (sum binder_weight bs.now + (11 + (weight_of (type_of d.now) + weight_of (body_of d.now)))) + (1 + (1 + sum def_weight rest.now + 0)) < 1 + sum def_weight xs) (sym whole)
    (subst (λ (xs : List BinderOf). 1 + (sum binder_weight xs + (11 + (weight_of (type_of d.now) + weight_of (body_of d.now)))) + (1 + (1 + sum def_weight rest.now + 0)) < 1 + (16 + (def_weight d.now + sum def_weight rest.now))) (sym own)
    (omega arith))

-- none

pub block_none : (b : Contents) (ds : Bor (List CodeDef)) (S : State) (M : Option State) → ds.now ≡ [] → M ≡ block ds.now S → Run b [] S M
block_none b ds S M none is = is ∙ ap (λ xs. block xs S) none ∙ ap (λ (xs : List (Stated ℕ)). Some (record { known = S.known; found = S.found; inferred = S.inferred; stated = xs })) (append_empty S.stated)

empty_list : {A : Type 0} (xs : List A) → length xs < 1 → xs ≡ []
empty_list [] less = refl
empty_list (x ∷ xs) less = absurd (omega arith)

pub empty_planned : (old : Tasks) (ds : Bor (List CodeDef)) → length ds.now < 1 → Plans old old (task.Defining (defining.Block ds)) Moved
empty_planned old ds less = plans old old Moved (task.Defining (defining.Block ds)) [] refl (sym (append_empty old.items.items)) (omega arith) (λ b S M is. block_none b ds S M (empty_list ds.now less) is)

pub block_planned : (old new : Tasks) (next : Next) (bs : Bor (List BinderOf)) (d : Bor CodeDef) (ds rest : Bor (List CodeDef))
    → next ≡ Moved → Planned old new (task.Binding (binding.Under bs (inner.Definition d)) ∷ task.Defining (defining.Close (out-CodeDef d.now).number) ∷ task.Defining (defining.Block rest) ∷ [])
    → bs.now ≡ (out-CodeDef d.now).binders.items → ds.now ≡ d.now ∷ rest.now
    → Plans old new (task.Defining (defining.Block ds)) next
block_planned old new next bs d ds rest moved planned own whole =
    plans old new next (task.Defining (defining.Block ds)) (task.Binding (binding.Under bs (inner.Definition d)) ∷ task.Defining (defining.Close (out-CodeDef d.now).number) ∷ task.Defining (defining.Block rest) ∷ [])
    moved planned (block_less bs d ds rest own whole)
    (λ b S M is. subst (Run b (task.Binding (binding.Under bs (inner.Definition d)) ∷ task.Defining (defining.Close (out-CodeDef d.now).number) ∷ task.Defining (defining.Block rest) ∷ []) S)
    (ap (λ xs. block xs S) (sym whole) ∙ sym is) (block_law b bs d rest S own))
