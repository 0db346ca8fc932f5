-- Variables of a place, with their types.
use Rattle.std.proofs.Common.{◌≡◌, ◌+◌, ◌-◌, ◌<◌, ℕ, refl, ◌∙◌, ap, subst, arith, None, Some}
use Rattle.std.specs.Option.{option_map}
use Rattle.trees.specs.Trees.{Tree, Var, apply, shift_by, then, up}
use Rattle.trees.specs.Judgements.{Context, Nil, WithVar, WithName, WithFace, trees}
use Rattle.trees.specs.Language.{Ty, Tm, Sb}
use Rattle.substitution.specs.Forms.{weaken}
use Rattle.substitution.proofs.ThenLaws.{apply-apply}
use Rattle.book.specs.Contents.{Contents}
use Rattle.book.specs.declared.kernel.NodeId.{NodeId}
use Rattle.typed_nodes.specs.Typed.{Says, IsTyped}
use Rattle.typed_contexts.specs.Contexts.{depth_of, outside, at_depth, type_in}
use Rattle.typed_contexts.specs.Places.{IsEntry, IsLevel}
use Rattle.typed_contexts.specs.declared.place.Entry.{Entry}
use Rattle.typed_contexts.specs.declared.place.Entry.TheVariants as entry
use Rattle.typed_contexts.specs.declared.place.Level.{Level}
use Rattle.typed_contexts.proofs.ContextLaws.{type_in-outside}
use Rattle.typed_contexts.proofs.LevelLaws.{says-sb}

-- the context that ends with the entry of an index
pub ends-with : (n k : ℕ) (H : Context) → n ≡ depth_of H → k < n → at_depth (n - k) H ≡ outside k H
ends-with n k H e low = let same : depth_of H - (n - k) ≡ k = omega arith in ap (λ m. outside m H) same

no-type : (b : Contents) (e : Entry) (G : Context) → e ≡ entry.Name → IsEntry b e G → type_in G 0 ≡ None
no-type b entry.Name (WithName H) same is = refl
no-type b entry.Name Nil same is = absurd is
no-type b entry.Name (WithVar H A) same is = absurd is
no-type b entry.Name (WithFace H p) same is = absurd is
no-type b (entry.Variable ty) G same is = absurd (cc same)

pub name-type : (b : Contents) (level : Level) (n k : ℕ) (H : Context) → n ≡ depth_of H → k < n → level.entry ≡ entry.Name → IsLevel b level (at_depth (n - k) H) → type_in H k ≡ None
name-type b level n k H e low same is =
    let entry_is = subst (IsEntry b level.entry) (ends-with n k H e low) is.entry_is in
    type_in-outside k H ∙ ap (option_map (λ A. apply A (shift_by k))) (no-type b level.entry (outside k H) same entry_is)

-- a context that ends with a variable: what stands before this, and its type there
pub record EndsWith (b : Contents) (ty : NodeId) (G : Context) : Type 0 where
  pub before : Context
  pub type : Tree
  pub is : G ≡ WithVar before type
  pub type_is : Says b ty (Ty before type)

ends-with-variable : (b : Contents) (e : Entry) (ty : NodeId) (G : Context) → e ≡ entry.Variable ty → IsEntry b e G → EndsWith b ty G
ends-with-variable b (entry.Variable t) ty (WithVar H A) same is = record {
  before = H;
  type = A;
  is = refl;
  type_is = let e : t ≡ ty = cc same in subst (λ n. Says b n (Ty H A)) e is;
}
ends-with-variable b (entry.Variable t) ty Nil same is = absurd is
ends-with-variable b (entry.Variable t) ty (WithName H) same is = absurd is
ends-with-variable b (entry.Variable t) ty (WithFace H p) same is = absurd is
ends-with-variable b entry.Name ty G same is = absurd (cc same)

-- the variable of an index, by its level
pub record Found (b : Contents) (past ty : NodeId) (k : ℕ) (H : Context) : Type 0 where
  pub before : Context
  pub type : Tree
  pub is : outside k H ≡ WithVar before type
  pub type_is : Says b ty (Ty before type)
  pub past_is : Says b past (Sb (WithVar before type) up before)

pub found : (b : Contents) (level : Level) (ty : NodeId) (n k : ℕ) (H : Context) → n ≡ depth_of H → k < n → level.entry ≡ entry.Variable ty → IsLevel b level (at_depth (n - k) H) → Found b level.up ty k H
found b level ty n k H e low same is =
    let level_is = subst (IsLevel b level) (ends-with n k H e low) is in
    let ends = ends-with-variable b level.entry ty (outside k H) same level_is.entry_is in
    record {
      before = ends.before;
      type = ends.type;
      is = ends.is;
      type_is = ends.type_is;
      past_is = says-sb ends.is refl (ap (outside 1) ends.is) level_is.up_is;
    }

-- the weakening to there
pub weakening-to : (b : Contents) (sub : NodeId) (n k : ℕ) (H K : Context) → n ≡ depth_of H → k < n → outside k H ≡ K → Says b sub (Sb H (shift_by (depth_of H - (n - k))) (at_depth (n - k) H)) → Says b sub (Sb H (shift_by k) K)
weakening-to b sub n k H K e low is says =
    let passed : depth_of H - (n - k) ≡ k = omega arith in
    says-sb refl (ap shift_by passed) (ends-with n k H e low ∙ is) says

pub variable-type : (k : ℕ) (H G : Context) (A : Tree) → outside k H ≡ WithVar G A → type_in H k ≡ Some (apply (weaken trees A) (shift_by k))
variable-type k H G A e =
    type_in-outside k H ∙ ap (λ K. option_map (λ B. apply B (shift_by k)) (type_in K 0)) e

pub typed-variable : (b : Contents) (term ty sub : NodeId) (k : ℕ) (H G : Context) (A : Tree) → Says b term (Tm H (apply (Var 0) (shift_by k)) (apply (weaken trees A) (shift_by k))) → Says b ty (Ty G A) → Says b sub (Sb H (then up (shift_by k)) G) → IsTyped b (record { term = term; ty = record { ty = ty; sub = sub } }) H (Var k) (apply (weaken trees A) (shift_by k))
typed-variable b term ty sub k H G A term_is type_is sub_is =
    let index : 0 + k ≡ k = omega arith in
    record {
      term_is = subst (λ n. Says b term (Tm H (Var n) (apply (weaken trees A) (shift_by k)))) index term_is;
      type_at = record {
        home = G;
        tree = A;
        sub = then up (shift_by k);
        type_is = type_is;
        sub_is = sub_is;
        is = apply-apply A up (shift_by k);
      };
    }
