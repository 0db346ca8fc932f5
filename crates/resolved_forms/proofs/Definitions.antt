-- A definition, from its parts.
use Rattle.std.proofs.Common.{◌≡◌, ◌+◌, ℕ, suc, List, map, length, refl, sym, ap, ◌∙◌, arith, subst}
use Rattle.syntax.specs.declared.exp.Def.{Def, out-Def}
use Rattle.syntax.specs.declared.exp.Exp.{Exp}
use Rattle.syntax.specs.declared.exp.Tele.{Tele}
use Rattle.syntax.specs.View.{tele_items, def_items}
use Rattle.trees.specs.Trees.{Tree}
use Rattle.translation.specs.Terms.{pi, lam}
use Rattle.translation.specs.Scopes.{Scope}
use Rattle.translation.specs.Translated.{done, ◌>>=◌}
use Rattle.translation.specs.Names.{Word}
use Rattle.translation.specs.Forms.{Means, Binder, after, define, defined}
use Rattle.codes.specs.declared.code.Code.{Code}
use Rattle.codes.specs.declared.code.CodeDef.{CodeDef}
use Rattle.codes.specs.declared.code.Binder.{Binder as BinderOf}
use Rattle.codes.specs.Codes.{meaning, binder, definition, definitions}
use Rattle.scopes.specs.Steps.{State, Resolves, Extends, Binds, Opens, Defines}
use Rattle.scopes.proofs.Moving.{resolves_two}
use Rattle.scopes.proofs.Binders.{extends_then, extends_kept, keeps_cut, resolves_under}
use Rattle.scopes.proofs.Blocks.{defines, resolves_after}
use Rattle.resolved_forms.specs.Spelt.{code_term, code_binders, code_block, code_def, term_of, binders_of, block_of, means_of, number_of}
use Rattle.resolved_forms.proofs.FormLaws.{cut_to, settled, marked}

-- the type and the body, where the names are cut back once, behind them all
defined_resolves : (s t u v w x : State) (bs : List (Binder Word)) (bs' : List (Binder ℕ)) (T : Means Word Tree) (T' : Means ℕ Tree)
    (block : Means Word (Scope Word)) (block' : Means ℕ (Scope ℕ)) (B : Means Word Tree) (B' : Means ℕ Tree)
    → Binds s t bs bs' → Resolves t u T T' → Opens u v block block' → Resolves v w B B' → x ≡ cut_to w (length s.names)
    → Resolves s x (defined bs T block B) (defined bs' T' (λ G. done G) (after block' B'))
defined_resolves s t u v w x bs bs' T T' block block' B B' first type opens inner cut =
    let y = cut_to w (length u.names) in
    let body : Resolves u y (after block B) (after block' B') = resolves_after u v w y block block' B B' opens inner refl in
    let both = resolves_two (λ p q. (p, q)) t u y T T' (after block B) (after block' B') type body in
    let z = cut_to y (length s.names) in
    let all = resolves_under (λ A p. (pi A p.0, lam A p.1)) s t y z bs bs' (λ G. T G >>= λ p. after block B G >>= λ q. done (p, q)) (λ H. T' H >>= λ p. after block' B' H >>= λ q. done (p, q))
    first.extends first.definitions both refl in
    let reached : Extends s v = extends_then s t v first.extends (extends_then t u v (extends_kept t u type.keeps) opens.extends) in
    settled s z x (defined bs T block B) (defined bs' T' (λ G. done G) (after block' B')) (keeps_cut s v w x reached inner.keeps cut).names (ap (λ k. k.so_far) cut) all

module _ (bytes : List ℕ) where
  pub def_resolves : {s t u v w x y : State} {m number : ℕ} (d : Def) (ts : List Tele) (a b : Exp) (ls : List Def) (bs : List BinderOf) (T B C : Code) (cs : List CodeDef) (c : CodeDef)
      → m ≡ length s.names → ts ≡ tele_items (out-Def d).teles → ls ≡ def_items (out-Def d).locals → a ≡ (out-Def d).ty → b ≡ (out-Def d).body
      → Binds s t (binders_of bytes ts) (code_binders bs) → Resolves t u (term_of bytes a) (code_term T)
      → Opens u v (block_of bytes ls) (code_block cs) → Resolves v w (term_of bytes b) (code_term B) → x ≡ cut_to w m
      → meaning C ≡ after (definitions cs) (meaning B) → number ≡ x.so_far.next → y ≡ record x { so_far = record x.so_far { next = number + 1 } }
      → definition c ≡ define number (defined (map binder bs) (meaning T) (λ G. done G) (meaning C)) → number_of c ≡ number
      → Defines s y (number_of c) (means_of bytes d) (code_def c)
  unfolding means_of code_binders code_term code_block code_def
  def_resolves {s = s} {t = t} {u = u} {v = v} {w = w} {x = x} {y = y} {number = number} d ts a b ls bs T B C cs c
      mark i j k l binds type opens inner cut whole next new makes numbered =
      let given = out-Def d in
      let means = means_of bytes d in
      let code = defined (map binder bs) (meaning T) (λ G. done G) (after (definitions cs) (meaning B)) in
      let resolved : Resolves s x means code =
      defined_resolves s t u v w x (binders_of bytes (tele_items given.teles)) (map binder bs) (term_of bytes given.ty) (meaning T)
      (block_of bytes (def_items given.locals)) (definitions cs) (term_of bytes given.body) (meaning B)
      (subst (λ q. Binds s t (binders_of bytes q) (map binder bs)) i binds) (subst (λ q. Resolves t u (term_of bytes q) (meaning T)) k type)
      (subst (λ q. Opens u v (block_of bytes q) (definitions cs)) j opens) (subst (λ q. Resolves v w (term_of bytes q) (meaning B)) l inner) (marked s w x mark cut) in
      let made : definition c ≡ define number code = makes ∙ ap (λ q. define number (defined (map binder bs) (meaning T) (λ G. done G) q)) whole in
      let one : suc x.so_far.next ≡ x.so_far.next + 1 = omega arith in
      subst (λ q. Defines s y q means (definition c)) (sym numbered)
      (subst (λ q. Defines s y number means q) (sym made)
      (subst (λ q. Defines s q number means (define number code)) (sym new)
      (subst (λ q. Defines s (record x { so_far = record x.so_far { next = q + 1 } }) q means (define q code)) (sym next)
      (subst (λ q. Defines s (record x { so_far = record x.so_far { next = q } }) x.so_far.next means (define x.so_far.next code)) one
      (defines s x means code resolved)))))
