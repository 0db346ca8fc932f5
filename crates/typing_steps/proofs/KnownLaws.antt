-- What is known of variables and definitions, by the context of the place and by what is in scope.
use Rattle.std.proofs.Common.{◌≡◌, ◌==◌, ◌-◌, ◌≤◌, ℕ, zero, suc, List, [], ◌∷◌, ◌++◌, Some, None, Bool, true, false, refl, sym, ap, ◌∙◌, subst, arith, if◌then◌else◌}
use Rattle.std.specs.Option.{option_map}
use Rattle.trees.specs.Trees.{Tree, apply, shift_by}
use Rattle.trees.specs.Judgements.{Context, WithVar, WithName}
use Rattle.substitution.proofs.ThenLaws.{apply-id}
use Rattle.translation.specs.Terms.{lifted}
use Rattle.codes.specs.Codes.{body_of}
use Rattle.book.specs.Contents.{Contents}
use Rattle.direct.specs.Known.{Known, Variable, Interval, Definition, scope_of, type_of_variable, declared_type}
use Rattle.numbered_scope.specs.declared.numbered.Numbered.{Numbered}
use Rattle.numbered_scope.specs.Newest.{newest, later}
use Rattle.numbered_scope.proofs.Searches.{newest_append}
use Rattle.typed_contexts.specs.Contexts.{depth_of, outside, at_depth, type_in}
use Rattle.typed_contexts.proofs.ContextLaws.{weaken-shift_by}
use Rattle.typing_steps.specs.declared.state.InScope.{InScope}
use Rattle.typing_tasks.specs.States.{place_of}
use Rattle.typing_steps.specs.Steps.{AreInScope, IsRoot}

-- variables

pub variable_type : (G : Known) (k : ℕ) → type_of_variable G k ≡ type_in (place_of G) k
variable_type [] k = refl
variable_type (Variable A ∷ G) zero = refl
variable_type (Variable A ∷ G) (suc k) = ap (option_map lifted) (variable_type G k)
variable_type (Interval ∷ G) zero = refl
variable_type (Interval ∷ G) (suc k) = ap (option_map lifted) (variable_type G k)
variable_type (Definition n t A ∷ G) k = variable_type G k

-- definitions

newest_last : (items rest : List (Numbered InScope)) (d : Numbered InScope) (n : ℕ) → items ≡ rest ++ d ∷ [] → newest items n ≡ (if d.number == n then Some d.value else newest rest n)
newest_last items rest d n e = ap (λ xs. newest xs n) e ∙ newest_append rest (d ∷ []) n ∙ picks (d.number == n)
  where
    picks : (p : Bool) → later (newest rest n) (later (if p then Some d.value else None) None) ≡ (if p then Some d.value else newest rest n)
    picks true = refl
    picks false = refl

-- the definition of a number, found in scope: its tree and type at home, and here
pub record Found (b : Contents) (G : Known) (n : ℕ) (d : InScope) : Type 0 where
  pub type : Tree
  pub body : Tree
  pub within : d.depth ≤ depth_of (place_of G)
  pub root : IsRoot b d.root (at_depth d.depth (place_of G)) type body
  pub body_here : body_of (scope_of G) n ≡ apply body (shift_by (depth_of (place_of G) - d.depth))
  pub type_here : declared_type G n ≡ Some (apply type (shift_by (depth_of (place_of G) - d.depth)))

deeper : (k : ℕ) (H : Context) (A : Tree) → k ≤ depth_of H → at_depth k (WithVar H A) ≡ at_depth k H
deeper k H A le = let e : suc (depth_of H) - k ≡ suc (depth_of H - k) = omega arith in ap (λ m. outside m (WithVar H A)) e

deeper_name : (k : ℕ) (H : Context) → k ≤ depth_of H → at_depth k (WithName H) ≡ at_depth k H
deeper_name k H le = let e : suc (depth_of H) - k ≡ suc (depth_of H - k) = omega arith in ap (λ m. outside m (WithName H)) e

lifted_shift : (t : Tree) (D k : ℕ) → k ≤ D → lifted (apply t (shift_by (D - k))) ≡ apply t (shift_by (suc D - k))
lifted_shift t D k le = let e : suc (D - k) ≡ suc D - k = omega arith in weaken-shift_by t (D - k) ∙ ap (λ m. apply t (shift_by m)) e

unmoved : (t : Tree) (D k : ℕ) → k ≡ D → t ≡ apply t (shift_by (D - k))
unmoved t D k e = let z : 0 ≡ D - k = omega arith in sym (apply-id t) ∙ ap (λ m. apply t (shift_by m)) z

home : (k : ℕ) (H : Context) → k ≡ depth_of H → H ≡ at_depth k H
home k H e = let z : 0 ≡ depth_of H - k = omega arith in ap (λ m. outside m H) z

pub found : (b : Contents) (items : List (Numbered InScope)) (G : Known) (n : ℕ) (d : InScope) → AreInScope b items G → newest items n ≡ Some d → Found b G n d
found b items [] n d s e =
    let none : None ≡ Some d = ap (λ xs. newest xs n) (sym s) ∙ e in
    absurd (cc none)
found b items (Variable A ∷ G) n d s e =
    let f = found b items G n d s e in
    let D = depth_of (place_of G) in
    record {
      type = f.type;
      body = f.body;
      within = omega (arith, f.within);
      root = subst (λ H. IsRoot b d.root H f.type f.body) (sym (deeper d.depth (place_of G) A f.within)) f.root;
      body_here = ap lifted f.body_here ∙ lifted_shift f.body D d.depth f.within;
      type_here = ap (option_map lifted) f.type_here ∙ ap Some (lifted_shift f.type D d.depth f.within);
    }
found b items (Interval ∷ G) n d s e =
    let f = found b items G n d s e in
    let D = depth_of (place_of G) in
    record {
      type = f.type;
      body = f.body;
      within = omega (arith, f.within);
      root = subst (λ H. IsRoot b d.root H f.type f.body) (sym (deeper_name d.depth (place_of G) f.within)) f.root;
      body_here = ap lifted f.body_here ∙ lifted_shift f.body D d.depth f.within;
      type_here = ap (option_map lifted) f.type_here ∙ ap Some (lifted_shift f.type D d.depth f.within);
    }
found b items (Definition m t A ∷ G) n d (rest, x, is, number, depth, root, more) e =
    let last = sym (newest_last items rest x n is ∙ ap (λ k. if k == n then Some x.value else newest rest n) number) ∙ e in
    elim (m == n) as (λ p. m == n ≡ p → (if p then Some x.value else newest rest n) ≡ Some d → Found b (Definition m t A ∷ G) n d) [
      | true ↦ λ here f. this here (cc f)
      | false ↦ λ other f. that other (found b rest G n d more f)
    ] refl last
  where
    this : m == n ≡ true → x.value ≡ d → Found b (Definition m t A ∷ G) n d
    this here same =
        let deep : d.depth ≡ depth_of (place_of G) = ap (λ (v : InScope). v.depth) (sym same) ∙ depth in
        let D = depth_of (place_of G) in
        record {
          type = A;
          body = t;
          within = omega (arith, deep);
          root = subst (λ H. IsRoot b d.root H A t) (home d.depth (place_of G) deep) (subst (λ (v : InScope). IsRoot b v.root (place_of G) A t) same root);
          body_here = ap (λ p. if p then t else body_of (scope_of G) n) here ∙ unmoved t D d.depth deep;
          type_here = ap (λ p. if p then Some A else declared_type G n) here ∙ ap Some (unmoved A D d.depth deep);
        }

    that : m == n ≡ false → Found b G n d → Found b (Definition m t A ∷ G) n d
    that other f = record {
      type = f.type;
      body = f.body;
      within = f.within;
      root = f.root;
      body_here = ap (λ p. if p then t else body_of (scope_of G) n) other ∙ f.body_here;
      type_here = ap (λ p. if p then Some A else declared_type G n) other ∙ f.type_here;
    }

pub not_found : (b : Contents) (items : List (Numbered InScope)) (G : Known) (n : ℕ) → AreInScope b items G → newest items n ≡ None → declared_type G n ≡ None
not_found b items [] n s e = refl
not_found b items (Variable A ∷ G) n s e = ap (option_map lifted) (not_found b items G n s e)
not_found b items (Interval ∷ G) n s e = ap (option_map lifted) (not_found b items G n s e)
not_found b items (Definition m t A ∷ G) n (rest, x, is, number, depth, root, more) e =
    let last = sym (newest_last items rest x n is ∙ ap (λ k. if k == n then Some x.value else newest rest n) number) ∙ e in
    elim (m == n) as (λ p. m == n ≡ p → (if p then Some x.value else newest rest n) ≡ None → (if m == n then Some A else declared_type G n) ≡ None) [
      | true ↦ λ here f. absurd (cc f)
      | false ↦ λ other f. ap (λ p. if p then Some A else declared_type G n) other ∙ not_found b rest G n more f
    ] refl last
