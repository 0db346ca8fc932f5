-- Types of either sort, by their nodes.
use Rattle.std.proofs.Common.{◌≡◌, sym, subst}
use Rattle.trees.specs.Trees.{Tree}
use Rattle.trees.specs.Judgements.{Context, WithVar}
use Rattle.book.specs.Contents.{Contents}
use Rattle.book.specs.declared.kernel.NodeId.{NodeId}
use Rattle.typed_nodes.specs.Typed.{Says}
use Rattle.typing_tasks.specs.Outcomes.{formed, former_of}
use Rattle.typing_tasks.specs.declared.tasks.Sort.{Sort}
use Rattle.typing_tasks.specs.declared.tasks.Former.{Former}

-- the sorts are one
pub of_one_sort : (b : Contents) (node : NodeId) (H : Context) (A : Tree) (s r : Sort) → s ≡ r → Says b node (formed s H A) → Says b node (formed r H A)
of_one_sort b node H A s r e says = subst (λ s. Says b node (formed s H A)) e says

pub of_one_form : (b : Contents) (node : NodeId) (H : Context) (A B : Tree) (s r : Sort) (f g : Former) → s ≡ r → f ≡ g → Says b node (formed r H (former_of g A B)) → Says b node (formed s H (former_of f A B))
of_one_form b node H A B s r f g e d says =
    subst (λ s. Says b node (formed s H (former_of f A B))) (sym e) (subst (λ f. Says b node (formed r H (former_of f A B))) (sym d) says)

-- types over a type and a family, of one sort and one form

abbrev pub Forms : Contents → Contents → NodeId → NodeId → NodeId → Sort → Former → Type 0
Forms b c domain codomain node s f =
    (H : Context) (A B : Tree) → Says b domain (formed s H A) → Says b codomain (formed s (WithVar H A) B) → Says c node (formed s H (former_of f A B))

pub parts_of_one_sort : (b : Contents) (domain codomain : NodeId) (s r : Sort) → s ≡ r
    → (H : Context) × (A B : Tree) × Says b domain (formed s H A) × Says b codomain (formed s (WithVar H A) B)
    → (H : Context) × (A B : Tree) × Says b domain (formed r H A) × Says b codomain (formed r (WithVar H A) B)
parts_of_one_sort b domain codomain s r e (H, A, B, first, second) =
    (H, A, B, of_one_sort b domain H A s r e first, of_one_sort b codomain (WithVar H A) B s r e second)

pub forms_of_one_sort : (b c : Contents) (domain codomain node : NodeId) (s r : Sort) (f g : Former) → s ≡ r → f ≡ g
    → Forms b c domain codomain node r g → Forms b c domain codomain node s f
forms_of_one_sort b c domain codomain node s r f g e d makes = λ H A B first second.
    of_one_form c node H A B s r f g e d (makes H A B (of_one_sort b domain H A s r e first) (of_one_sort b codomain (WithVar H A) B s r e second))
