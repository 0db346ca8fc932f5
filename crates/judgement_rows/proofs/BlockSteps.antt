-- Definitions one after another, and from the rows of their parts.
use Rattle.std.proofs.Common.{◌≡◌, ◌≤◌, ℕ, length, take, List, [], ◌∷◌, ◌++◌, map, sym, ap, ◌∙◌, subst, append_assoc}
use Rattle.trees.specs.declared.op.Op.TheVariants as op
use Rattle.trees.specs.declared.claim.Claim.TheVariants as claim
use Rattle.trees.specs.Trees.{Tree}
use Rattle.trees.specs.Things.{Meanings, Kept}
use Rattle.translation.specs.Translated.{done}
use Rattle.translation.specs.Forms.{define, defined}
use Rattle.codes.specs.declared.code.CodeDef.{CodeDef, out-CodeDef, roll-out-CodeDef}
use Rattle.codes.specs.Codes.{meaning, binder, definition, definitions}
use Rattle.codes.proofs.Rows.{definition_of}
use Rattle.form_rows.specs.Meant.{Is, Are, nest}
use Rattle.form_rows.proofs.RowLaws.{is_kept, are_kept, take_whole}
use Rattle.judgement_rows.specs.declared.places.Place.{Place}
use Rattle.judgement_rows.specs.declared.places.Under.{Under}
use Rattle.judgement_rows.specs.Steps.{Closed, State, Spells, Row}
use Rattle.judgement_rows.specs.Words.{IsUnder, Defines, code_tree, under_trees, def_scope, block_scope}
use Rattle.judgement_rows.proofs.Blocks.{block_none, block_push, defines_then, defines_same, definition_spelt}

pub block_start : (s : State) (p : Place) → Defines s s p (block_scope [])
unfolding block_scope
block_start s p = block_none s p

pub block_next : {s t u : State} {p : Place} (ds es : List CodeDef) (d : CodeDef) → es ≡ ds ++ d ∷ [] → Defines s t p (block_scope ds) → Defines t u p (def_scope d) → Defines s u p (block_scope es)
unfolding block_scope def_scope
block_next {s} {t} {u} {p} ds es d same first second =
    subst (λ xs. Defines s u p (definitions xs)) (sym same)
    (defines_same _ (definitions (ds ++ d ∷ [])) (block_push ds d) (defines_then (definitions ds) (definition d) first second))

pub block_whole : {s t : State} {p : Place} (ds : List CodeDef) (k : ℕ) → length ds ≤ k → Defines s t p (block_scope (take k ds)) → Defines s t p (block_scope ds)
block_whole {s} {t} {p} ds k le h = subst (λ xs. Defines s t p (block_scope xs)) (take_whole ds k le) h

definition_reads : (d : CodeDef) → (let o = out-CodeDef d in define o.number (defined (map binder o.binders.items) (meaning o.ty) (λ G. done G) (meaning o.body))) ≡ definition d
definition_reads d = let o = out-CodeDef d in sym (definition_of o.name o.number o.binders o.ty o.body) ∙ ap definition (roll-out-CodeDef d)

pub two_more : {A : Type 0} (xs : List A) {ys zs : List A} (a b : A) → ys ≡ xs ++ a ∷ [] → zs ≡ ys ++ b ∷ [] → zs ≡ xs ++ a ∷ b ∷ []
two_more xs a b i j = j ∙ ap (λ ws. ws ++ b ∷ []) i ∙ append_assoc xs (a ∷ []) (b ∷ [])

pub closed : {x z : State} {f : Meanings} {p : Place} {types : List ℕ} {number ty body closed_ty closed_body : ℕ}
    → Kept x.means f → ((ts : List Tree) (t : Tree) → Are x.means types ts → Is x.means ty t → Is f closed_ty (nest op.Pi ts t))
    → Kept f z.means → ((ts : List Tree) (t : Tree) → Are f types ts → Is f body t → Is z.means closed_body (nest op.Lam ts t))
    → z.claims ≡ x.claims ++ claim.Ty p.context closed_ty ∷ claim.Tm p.context closed_body closed_ty ∷ []
    → z.bodies ≡ x.bodies ++ record { number = number; value = record { row = closed_body; depth = p.depth } } ∷ []
    → Closed x z p number types ty body
closed {closed_ty = closed_ty} {closed_body = closed_body} j types k bodies claims more = record {
  closed_ty = closed_ty;
  closed_body = closed_body;
  ty_is = λ As B i h. is_kept k (types As B i h);
  body_is = λ As b i h. bodies As b (are_kept j i) (is_kept j h);
  claims = claims;
  bodies = more;
}

pub definition_made : {s t w x z : State} {p : Place} {u : Under} {ty body : ℕ} (d : CodeDef) → (let o = out-CodeDef d in
    Spells s t p (IsUnder u) (under_trees o.binders.items) → Spells t w u.place (Row ty) (code_tree o.ty) → Spells w x u.place (Row body) (code_tree o.body)
    → Kept x.means z.means → Closed x z p o.number u.types.items ty body → Defines s z p (def_scope d))
unfolding under_trees code_tree def_scope
definition_made {s} {t} {w} {x} {z} {p} {u} {ty} {body} d first second third kept closed =
    let o = out-CodeDef d in
    subst (λ m. Defines s z p m) (definition_reads d)
    (definition_spelt s t w x z p u o.binders.items (meaning o.ty) (meaning o.body) ty body closed.closed_ty closed.closed_body o.number first second third kept
    closed.ty_is closed.body_is closed.claims closed.bodies)
