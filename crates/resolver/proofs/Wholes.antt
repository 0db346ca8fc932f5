-- Whole texts, in the scope of other modules.
use Rattle.std.proofs.Common.{◌≡◌, ◌-◌, ℕ, zero, suc, List, map, length, reverse, Some, None, refl, sym, ap, ◌∙◌, subst}
use Rattle.std.proofs.lemmas.List.{length-map}
use Rattle.syntax.specs.declared.exp.Exp.{Exp}
use Rattle.syntax.specs.declared.exp.Def.{Def}
use Rattle.syntax.specs.declared.exp.Defs.{Defs}
use Rattle.syntax.specs.declared.exp.Module.{Module as ModuleOf}
use Rattle.syntax.specs.View.{tree_of, defs_of, def_items, module_of}
use Rattle.syntax.proofs.Rows.{defs_of_items}
use Rattle.translation.specs.declared.fault.Refusal.{Refusal}
use Rattle.translation.specs.declared.fault.ScopeFault.{ScopeFault}
use Rattle.translation.specs.Scopes.{Scope}
use Rattle.translation.specs.Translated.{Refuses, Stated}
use Rattle.translation.specs.Texts.{Written, reading, block, defs}
use Rattle.codes.specs.declared.code.Code.{Code}
use Rattle.codes.specs.declared.code.CodeDef.{CodeDef}
use Rattle.codes.specs.Codes.{meaning, definitions}
use Rattle.scopes.specs.declared.scope.ScopeName.{ScopeName}
use Rattle.scopes.specs.Steps.{State, Progress, Agree, Moves, Same, Resolves, Opens, count_from, named_of}
use Rattle.scopes.proofs.Starting.{agree_start}
use Rattle.resolved_forms.specs.Spelt.{read, code_term, code_block, code_names, term_of, block_of, written_in, def_names}
use Rattle.resolved_forms.proofs.Spelling.{names_written, block_spelt}
use Rattle.resolver.specs.declared.resolving.Codes.{Codes}
use Rattle.resolver.specs.Resolved.{AreEarlier, IsCode, IsFault, AreCodes, IsFaultOf, Holds, IsTop, words, defs_in}
use Rattle.resolver.proofs.Leaving.{earlier_reversed, leaves}

counted : (n k : ℕ) → length (count_from n k) ≡ n
counted zero k = refl
counted (suc n) k = ap (λ m. suc m) (counted n (suc k))

module _ (names : List ScopeName) (next : ℕ) where
  -- the beginning of a text
  abbrev pub start : State
  start = record { names = map named_of (reverse names); so_far = record { next = next; refusal = None } }

  start_agrees : AreEarlier next names → (H : Scope ℕ) → IsTop H → Agree start (words H names) H
  start_agrees h H top = agree_start H top (reverse names) (record { next = next; refusal = None }) (earlier_reversed next names h)

  holds : {A B : Type 0} {R : A → B → Type 0} {t : Progress} (f : _) (g : _) → Moves (record { next = next; refusal = None }) t R f g → t.refusal ≡ None → Holds next f g
  holds f g m e = record { fits = sym m.refusal ∙ e; judgements = m.judgements; numbered = m.numbered }

  pub exp_holds : (bytes : List ℕ) (s t : State) (e : Exp) (c : Code) → AreEarlier next names → s ≡ start → Resolves s t (term_of bytes e) (code_term c) → t.so_far.refusal ≡ None
      → IsCode bytes names next (tree_of e) c
  unfolding term_of read code_term
  exp_holds bytes s t e c earlier first h none =
      let here : Resolves start t (term_of bytes e) (meaning c) = subst (λ x. Resolves x t (term_of bytes e) (meaning c)) first h in
      let moves : (H : Scope ℕ) → IsTop H → Moves start.so_far t.so_far Same ((reading bytes (tree_of e)).term (words H names)) (meaning c H) =
      λ H top. here.moving.moves (words H names) H (start_agrees earlier H top) in
      record {
        tree = λ H top. (moves H top).value;
        holds = λ H top. holds _ _ (moves H top) none;
      }

  pub exp_refused : (bytes : List ℕ) (s t : State) (e : Exp) (c : Code) (r : Refusal) (fault : ScopeFault) → AreEarlier next names → s ≡ start → Resolves s t (term_of bytes e) (code_term c)
      → t.so_far.refusal ≡ Some r → Refuses fault (Some r) → IsFault bytes names (tree_of e) fault
  unfolding term_of read code_term
  exp_refused bytes s t e c r fault earlier first h some refuses H top =
      let here : Resolves start t (term_of bytes e) (meaning c) = subst (λ x. Resolves x t (term_of bytes e) (meaning c)) first h in
      let m = here.moving.moves (words H names) H (start_agrees earlier H top) in
      subst (λ x. Refuses fault x) (sym some ∙ m.refusal) refuses

  -- the definitions of a module

  names_spelt : (bytes : List ℕ) (ds : Defs) → map (λ (w : Written). w.name) (defs bytes (defs_of ds)) ≡ map (λ (w : Written). w.name) (written_in bytes (def_items ds))
  unfolding written_in
  names_spelt bytes ds = ap (λ ts. map (λ (w : Written). w.name) (defs bytes ts)) (defs_of_items ds)

  pub codes_hold : (bytes : List ℕ) (s t : State) (m : ModuleOf) (ds : List Def) (cs : Codes) → AreEarlier next names → s ≡ start → ds ≡ def_items m.defs
      → Opens s t (block_of bytes ds) (code_block (defs_in cs)) → code_names (defs_in cs) ≡ def_names ds → t.so_far.refusal ≡ None → cs.next ≡ t.so_far.next
      → AreCodes bytes names next (module_of m) cs
  unfolding code_block
  codes_hold bytes s t m ds cs earlier first listed opens named none next_is =
      let here : Opens start t (block bytes (defs bytes (defs_of m.defs))) (definitions (defs_in cs)) =
      subst (λ b. Opens start t b (definitions (defs_in cs))) (ap (block_of bytes) listed ∙ sym (block_spelt bytes m.defs)) (subst (λ x. Opens x t (block_of bytes ds) (definitions (defs_in cs))) first opens) in
      let same_names = named ∙ ap def_names listed ∙ sym (names_written bytes (def_items m.defs)) ∙ sym (names_spelt bytes m.defs) in
      let moves : (H : Scope ℕ) → IsTop H → Moves start.so_far t.so_far (Agree t) (block bytes (defs bytes (defs_of m.defs)) (words H names)) (definitions (defs_in cs) H) =
      λ H top. here.moves (words H names) H (start_agrees earlier H top) in
      record {
        named = same_names;
        counted = λ H top. next_is ∙ (moves H top).next;
        holds = λ H top. holds _ _ (moves H top) none;
        leaves = λ H top.
            let coded = (definitions (defs_in cs) H).stated in
            let stated = (block bytes (defs bytes (defs_of m.defs)) (words H names)).stated in
            let numbered : map (λ d. d.name) coded ≡ count_from (length stated) next = (moves H top).numbered in
            let count : length stated ≡ length coded = sym (counted (length stated) next) ∙ sym (ap length numbered) ∙ length-map coded (λ (d : Stated ℕ). d.name) in
            leaves bytes names next (length stated) (defs bytes (defs_of m.defs)) (defs_in cs) H top earlier same_names
            (numbered ∙ ap (λ n. count_from n next) count) count (here.adds (words H names) H (start_agrees earlier H top));
      }

  pub codes_refused : (bytes : List ℕ) (s t : State) (m : ModuleOf) (ds : List Def) (cs : List CodeDef) (r : Refusal) (fault : ScopeFault) → AreEarlier next names → s ≡ start → ds ≡ def_items m.defs
      → Opens s t (block_of bytes ds) (code_block cs) → t.so_far.refusal ≡ Some r → Refuses fault (Some r) → IsFaultOf bytes names (module_of m) fault
  unfolding code_block
  codes_refused bytes s t m ds cs r fault earlier first listed opens some refuses H top =
      let here : Opens start t (block bytes (defs bytes (defs_of m.defs))) (definitions cs) =
      subst (λ b. Opens start t b (definitions cs)) (ap (block_of bytes) listed ∙ sym (block_spelt bytes m.defs)) (subst (λ x. Opens x t (block_of bytes ds) (definitions cs)) first opens) in
      let k = here.moves (words H names) H (start_agrees earlier H top) in
      subst (λ x. Refuses fault x) (sym some ∙ k.refusal) refuses
