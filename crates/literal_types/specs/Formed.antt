-- The parts of forms, by nodes.
use Rattle.std.specs.Prelude.{◌≡◌}
use Rattle.trees.specs.Trees.{Tree}
use Rattle.trees.specs.Judgements.{Context, WithVar, WithName, Judgement, trees}
use Rattle.trees.specs.Language.{Ty, Tm}
use Rattle.rules.specs.Table.{at, i0, i1, pathp, pi, sig, universe}
use Rattle.book.specs.Contents.{Contents}
use Rattle.typed_nodes.specs.Typed.{Says}
use Rattle.literal_types.specs.declared.forms.Size.{Size}
use Rattle.literal_types.specs.declared.forms.Size.TheVariants as size
use Rattle.literal_types.specs.declared.forms.Former.{Former}
use Rattle.literal_types.specs.declared.forms.Former.TheVariants as former
use Rattle.literal_types.specs.declared.forms.Form.{Form}
use Rattle.literal_types.specs.declared.forms.Form.TheVariants as form

-- `K >> A`, or `K >> A : U`
abbrev pub sized : Size → Context → Tree → Judgement
sized size.Large K A = Ty K A
sized size.Small K A = Tm K A (universe trees)

-- `pi A B`, or `sig A B`
abbrev pub former_tree : Former → Tree → Tree → Tree
former_tree former.Pi A B = pi trees A B
former_tree former.Sigma A B = sig trees A B

-- T, in K, is the form of these parts
abbrev pub IsFormed : Contents → Form → Context → Tree → Type 0
IsFormed b (form.Family f s domain codomain) K T =
    (A B : Tree) × (T ≡ former_tree f A B) × Says b domain (sized s K A)
    × Says b codomain (sized s (WithVar K A) B)
IsFormed b (form.Line s ty left right) K T =
    (A u v : Tree) × (T ≡ pathp trees A u v) × Says b ty (sized s (WithName K) A)
    × Says b left (Tm K u (at trees A (i0 trees))) × Says b right (Tm K v (at trees A (i1 trees)))
