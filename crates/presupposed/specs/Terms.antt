-- The parts of terms that are literal forms, and the types that they were made at.
use Rattle.std.specs.Prelude.{◌≡◌}
use Rattle.trees.specs.Trees.{Tree, Subst, apply}
use Rattle.trees.specs.Judgements.{Context}
use Rattle.trees.specs.Language.{Sb}
use Rattle.book.specs.Contents.{Contents}
use Rattle.book.specs.declared.kernel.NodeId.{NodeId}
use Rattle.typed_nodes.specs.Typed.{Says}
use Rattle.literal_terms.specs.declared.forms.TermForm.{TermForm}
use Rattle.literal_terms.specs.declared.forms.TermForm.TheVariants as form
use Rattle.literal_terms.specs.Forms.{IsFormed, IsGlued, IsPaired}
use Rattle.literal_terms.specs.Traces.{Fits}
use Rattle.presupposed.specs.declared.terms.OpenedTerm.{OpenedTerm}
use Rattle.presupposed.specs.declared.terms.TermKids.{TermKids}
use Rattle.presupposed.specs.declared.terms.TermKids.TheVariants as kids

-- in G, t of type S is a form by its rule, under a substitution to where that was made
abbrev pub IsMadeAt : Contents → Context → Tree → Tree → Type 0
IsMadeAt b G t S =
    (made : TermForm) × (sub : NodeId) × (K : Context) × (d : Subst) × (a A : Tree)
    × Says b sub (Sb G d K) × IsFormed b made K a A × (t ≡ apply a d) × (S ≡ apply A d)

-- the nodes are the parts of t of type S, in G
abbrev pub AreKids : Contents → TermKids → Context → Tree → Tree → Type 0
AreKids b (kids.Function domain body) G t S = IsFormed b (form.Function domain body) G t S
AreKids b (kids.Pair pair) G t S = IsPaired b pair G t S
AreKids b (kids.Path body left right) G t S = IsFormed b (form.Path body left right) G t S
AreKids b (kids.Glued parts sub) G t S =
    (K : Context) × (d : Subst) × (u R : Tree) × Says b sub (Sb G d K) × IsGlued b parts K u R
    × (t ≡ apply u d) × (S ≡ apply R d)
AreKids b (kids.Type node) G t S = IsFormed b (form.Type node) G t S

-- the parts make t, at a type that fits T
abbrev pub IsOpened : Contents → OpenedTerm → Context → Tree → Tree → Type 0
IsOpened b opened G t T =
    (S : Tree) × AreKids b opened.kids G t S × Fits b opened.fits G S T
