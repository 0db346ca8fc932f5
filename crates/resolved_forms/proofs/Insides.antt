-- What stands in brackets reads as the same and becomes the same codes without them.
use Rattle.std.proofs.Common.{◌≡◌, ℕ, List, [], ◌∷◌, length, refl, sym, ap, ◌∙◌, subst}
use Rattle.layout_lexer.specs.declared.token.Span.{Span}
use Rattle.syntax.specs.declared.exp.Exp.{Exp, Brackets as Brackets_}
use Rattle.syntax.specs.declared.exp.Exps.{Exps}
use Rattle.syntax.specs.Tree as text
use Rattle.syntax.specs.View.{tree_of, tree_list}
use Rattle.translation.specs.Texts.{reading}
use Rattle.codes.specs.Shapes.{Shape}
use Rattle.scopes.specs.Finding.{Named}
use Rattle.resolved_forms.specs.Opened.{bare, in_brackets}
use Rattle.resolved_forms.specs.Shaped.{Stand, Becomes, nat_in}
use Rattle.resolved_forms.specs.Spelt.{read}
use Rattle.resolved_forms.proofs.TextTrees.{brackets_tree}
use Rattle.resolved_forms.proofs.Shaping.{Same}

-- brackets round one expression, and round none or several

pub bare_one : (s : Span) (es : Exps) (r : Exp) {e x : Exp} {xs : List Exp} → e ≡ Brackets_ s es → xs ≡ es.items.items → xs ≡ x ∷ [] → tree_of r ≡ bare (tree_of x) → tree_of r ≡ bare (tree_of e)
bare_one s es r i j k h = h ∙ sym (ap bare (brackets_tree s es i j ∙ ap (λ ys. text.Brackets s (tree_list tree_of ys)) k))

stays : (s : Span) (xs : List Exp) → (length xs ≡ 1 → ⊥) → text.Brackets s (tree_list tree_of xs) ≡ bare (text.Brackets s (tree_list tree_of xs))
stays s [] several = refl
stays s (x ∷ []) several = absurd (several refl)
stays s (x ∷ y ∷ xs) several = refl

pub bare_several : (s : Span) (es : Exps) {e : Exp} {xs : List Exp} → e ≡ Brackets_ s es → xs ≡ es.items.items → (length xs ≡ 1 → ⊥) → tree_of e ≡ bare (tree_of e)
bare_several s es {xs = xs} i j several =
    let t = brackets_tree s es i j in
    t ∙ stays s xs several ∙ sym (ap bare t)

-- no brackets round one text, and no lambda of no names
abbrev pub IsBare : text.Tree → Type 0
IsBare (text.Brackets s (text.more e text.none)) = ⊥
IsBare (text.PathLambda s [] e) = ⊥
IsBare T = Unit {0}

mutual
  is_bare : (T : text.Tree) → IsBare (bare T)
  is_bare (text.Brackets s es) = is_bare_in s es
  is_bare (text.PathLambda s [] e) = is_bare e
  is_bare T = tt

  is_bare_in : (s : Span) (es : text.Trees) → IsBare (in_brackets s es)
  is_bare_in s text.none = tt
  is_bare_in s (text.more e text.none) = is_bare e
  is_bare_in s (text.more a (text.more b es)) = tt

module _ (bytes : List ℕ) where
  mutual
    reads_bare : (T : text.Tree) → reading bytes T ≡ reading bytes (bare T)
    reads_bare (text.Brackets s es) = reads_in s es
    reads_bare (text.PathLambda s [] e) = reads_bare e
    reads_bare T = refl

    reads_in : (s : Span) (es : text.Trees) → reading bytes (text.Brackets s es) ≡ reading bytes (in_brackets s es)
    reads_in s text.none = refl
    reads_in s (text.more e text.none) = reads_bare e
    reads_in s (text.more a (text.more b es)) = refl

  mutual
    becomes_bare : (T : text.Tree) (names : List Named) (at : Stand) (c : Shape) → Becomes bytes (bare T) names at c → Becomes bytes T names at c
    becomes_bare (text.Brackets s es) names at c h = becomes_in s es names at c h
    becomes_bare (text.PathLambda s [] e) names at c h = becomes_bare e names at c h
    becomes_bare T names at c h = h

    becomes_in : (s : Span) (es : text.Trees) (names : List Named) (at : Stand) (c : Shape) → Becomes bytes (in_brackets s es) names at c → Becomes bytes (text.Brackets s es) names at c
    becomes_in s text.none names at c h = h
    becomes_in s (text.more e text.none) names at c h = becomes_bare e names at c h
    becomes_in s (text.more a (text.more b es)) names at c h = h

  mutual
    bare_becomes : (T : text.Tree) (names : List Named) (at : Stand) (c : Shape) → Becomes bytes T names at c → Becomes bytes (bare T) names at c
    bare_becomes (text.Brackets s es) names at c h = in_becomes s es names at c h
    bare_becomes (text.PathLambda s [] e) names at c h = bare_becomes e names at c h
    bare_becomes T names at c h = h

    in_becomes : (s : Span) (es : text.Trees) (names : List Named) (at : Stand) (c : Shape) → Becomes bytes (text.Brackets s es) names at c → Becomes bytes (in_brackets s es) names at c
    in_becomes s text.none names at c h = h
    in_becomes s (text.more e text.none) names at c h = bare_becomes e names at c h
    in_becomes s (text.more a (text.more b es)) names at c h = h

  mutual
    nat_bare : (names : List Named) (T : text.Tree) → nat_in bytes names T ≡ nat_in bytes names (bare T)
    nat_bare names (text.Brackets s es) = nat_in_brackets names s es
    nat_bare names (text.PathLambda s [] e) = nat_bare names e
    nat_bare names T = refl

    nat_in_brackets : (names : List Named) (s : Span) (es : text.Trees) → nat_in bytes names (text.Brackets s es) ≡ nat_in bytes names (in_brackets s es)
    nat_in_brackets names s text.none = refl
    nat_in_brackets names s (text.more e text.none) = nat_bare names e
    nat_in_brackets names s (text.more a (text.more b es)) = refl

-- The same of an expression and what stands in it.
module _ (e x : Exp) (seen : tree_of x ≡ bare (tree_of e)) where
  pub inside_reads : (bytes : List ℕ) → read bytes e ≡ read bytes x
  unfolding read
  inside_reads bytes = reads_bare bytes (tree_of e) ∙ sym (ap (reading bytes) seen)

  pub inside_becomes : (bytes : List ℕ) → Same bytes x e
  inside_becomes bytes names at c h = becomes_bare bytes (tree_of e) names at c (subst (λ T. Becomes bytes T names at c) seen h)

  pub becomes_inside : (bytes : List ℕ) → Same bytes e x
  becomes_inside bytes names at c h = subst (λ T. Becomes bytes T names at c) (sym seen) (bare_becomes bytes (tree_of e) names at c h)

  pub inside_nat : (bytes : List ℕ) (names : List Named) → nat_in bytes names (tree_of e) ≡ nat_in bytes names (tree_of x)
  inside_nat bytes names = nat_bare bytes names (tree_of e) ∙ sym (ap (nat_in bytes names) seen)

  pub inside_bare : IsBare (tree_of x)
  inside_bare = subst IsBare (sym seen) (is_bare (tree_of e))
