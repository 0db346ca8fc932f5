-- Whichever codes modules become, numbered in order, they are one but for where their parts lie.
use Rattle.std.proofs.Common.{◌≡◌, ◌+◌, ℕ, List, [], ◌∷◌, ◌++◌, length, map, reverse, refl, sym, ◌∙◌, ap, subst, add_comm}
use Rattle.codes.specs.declared.code.CodeDef.{CodeDef, CodeDef', out-CodeDef}
use Rattle.codes.specs.Codes.{definitions}
use Rattle.codes.specs.Shapes.{Shape, Shapes, none, more, Def, def_shape, listed}
use Rattle.translation.specs.Translated.{Stated}
use Rattle.translation.specs.Texts.{word}
use Rattle.scopes.specs.declared.scope.ScopeName.{ScopeName}
use Rattle.scopes.specs.Steps.{count_from, named_of}
use Rattle.scopes.proofs.Moving.{count_append}
use Rattle.direct.specs.Known.{Known}
use Rattle.direct.specs.Direct.{other_place}
use Rattle.module_texts.specs.Texts.{Text, imports_of}
use Rattle.resolved_forms.specs.Shaped.{after_definition}
use Rattle.resolver.specs.declared.resolving.Codes.{Codes}
use Rattle.resolver.specs.Resolved.{bound_by, definitions_of, defs_in}
use Rattle.linking.specs.Modules.{reached}
use Rattle.linking.specs.Reaching.{Numbered}
use Rattle.linking.specs.Linked.{AllBecome, IsLinked, numbered_as}
use Rattle.text_laws.specs.Numbers.{numbers_before, numbers_in, AreNumbered}
use Rattle.text_laws.proofs.OneCode.{one_codes}
use Rattle.text_laws.proofs.NumberLaws.{Counts, defs-count}
use Rattle.text_laws.proofs.TypingLaws.{one_place}

-- lists of shapes

abbrev joined : Shapes → Shapes → Shapes
joined none ds = ds
joined (more c cs) ds = more c (joined cs ds)

listed_append : {A : Type 0} (f : A → Shape) (xs ys : List A) → listed f (xs ++ ys) ≡ joined (listed f xs) (listed f ys)
listed_append f [] ys = refl
listed_append f (x ∷ xs) ys = ap (more (f x)) (listed_append f xs ys)

joined_counts : (cs ds : Shapes) (r : List ℕ) → numbers_in (joined cs ds) r ≡ numbers_in cs (numbers_in ds r)
joined_counts none ds r = refl
joined_counts (more c cs) ds r = ap (numbers_before c) (joined_counts cs ds r)

-- what definitions bind, by their shapes

abbrev bound_of : List ℕ → Shapes → List ScopeName
bound_of bytes none = []
bound_of bytes (more (Def x n bs A b) cs) = record { name = word bytes x; def = n } ∷ bound_of bytes cs
bound_of bytes (more c cs) = bound_of bytes cs

bound_is : (bytes : List ℕ) (cs : List CodeDef) → bound_by bytes cs ≡ bound_of bytes (listed def_shape cs)
unfolding out-CodeDef denote.Hole.Carrier.out
bound_is bytes [] = refl
bound_is bytes (CodeDef' x n m bs t b ∷ cs) = ap (λ ns. record { name = word bytes x; def = n } ∷ ns) (bound_is bytes cs)

same_module : (x : Text) (cs ds : List CodeDef) → listed def_shape cs ≡ listed def_shape ds → numbered_as x cs ≡ numbered_as x ds
same_module x cs ds e =
    let bytes = x.bytes in
    ap (λ ns. record { name = x.name; imports = imports_of x; defs = reverse ns })
    (bound_is bytes cs ∙ ap (bound_of bytes) e ∙ sym (bound_is bytes ds))

-- modules, one after another

one_program : (xs : List Text) (known : List Numbered) (cs ds : List CodeDef) (all others : List Numbered) (r s : List ℕ)
    → AllBecome known xs cs all → AllBecome known xs ds others → numbers_in (listed def_shape cs) r ≡ numbers_in (listed def_shape ds) s
    → (listed def_shape cs ≡ listed def_shape ds) × (r ≡ s)
one_program [] known cs ds all others r s i j e =
    let empty : listed def_shape cs ≡ none = ap (listed def_shape) i.0 in
    let too : listed def_shape ds ≡ none = ap (listed def_shape) j.0 in
    (empty ∙ sym too, ap (λ z. numbers_in z r) (sym empty) ∙ e ∙ ap (λ z. numbers_in z s) too)
one_program (x ∷ xs) known cs ds all others r s (f, k, is, m, h) (g, l, are, n, o) e =
    let left : listed def_shape cs ≡ joined (listed def_shape f) (listed def_shape k) = ap (listed def_shape) is ∙ listed_append def_shape f k in
    let right : listed def_shape ds ≡ joined (listed def_shape g) (listed def_shape l) = ap (listed def_shape) are ∙ listed_append def_shape g l in
    let counts : numbers_in (listed def_shape f) (numbers_in (listed def_shape k) r) ≡ numbers_in (listed def_shape g) (numbers_in (listed def_shape l) s) =
    sym (joined_counts (listed def_shape f) (listed def_shape k) r) ∙ ap (λ z. numbers_in z r) (sym left) ∙ e ∙ ap (λ z. numbers_in z s) right
    ∙ joined_counts (listed def_shape g) (listed def_shape l) s in
    let bytes = x.bytes in
    let first = (one_codes bytes (definitions_of x.tree) (after_definition bytes) (map named_of (reached known (imports_of x)))).one
    (listed def_shape f) (listed def_shape g) (numbers_in (listed def_shape k) r) (numbers_in (listed def_shape l) s) m n counts in
    let here : AllBecome (numbered_as x g ∷ known) xs k all = subst (λ y. AllBecome (y ∷ known) xs k all) (same_module x f g first.0) h in
    let rest = one_program xs (numbered_as x g ∷ known) k l all others r s here o first.1 in
    (left ∙ ap (λ z. joined z (listed def_shape k)) first.0 ∙ ap (joined (listed def_shape g)) rest.0 ∙ sym right, rest.1)

-- numbered in order, and as many more after them
from_next : (ds : List (Stated ℕ)) (next m : ℕ) {f : List ℕ → List ℕ} → Counts ds f → AreNumbered next ds
    → f (count_from m (next + length ds)) ≡ count_from (length ds + m) next
from_next ds next m h e =
    sym (h.counted _) ∙ ap (λ ns. ns ++ count_from m (next + length ds)) e ∙ sym (count_append (length ds) m next)

pub one_list : (texts : List Text) (a b : Codes) → IsLinked texts a → IsLinked texts b → listed def_shape (defs_in a) ≡ listed def_shape (defs_in b)
one_list texts a b i j =
    let ds = (definitions (defs_in a) []).stated in
    let es = (definitions (defs_in b) []).stated in
    (one_program texts [] (defs_in a) (defs_in b) i.known j.known (count_from (length es) (0 + length ds)) (count_from (length ds) (0 + length es)) i.spelt j.spelt
    (from_next ds 0 (length es) (defs-count (defs_in a) []) i.numbered ∙ ap (λ k. count_from k 0) (add_comm (length ds) (length es))
    ∙ sym (from_next es 0 (length ds) (defs-count (defs_in b) []) j.numbered))).0

pub one_answer : (texts : List Text) (a b : Codes) (G : Known) → IsLinked texts a → IsLinked texts b → other_place (defs_in a) G ≡ other_place (defs_in b) G
one_answer texts a b G i j = one_place (defs_in a) (defs_in b) G (one_list texts a b i j)
