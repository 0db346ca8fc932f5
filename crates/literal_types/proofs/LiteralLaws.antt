-- Forms under substitutions.
use Rattle.std.proofs.Common.{◌≡◌, refl, sym, ◌∙◌, ap}
use Rattle.trees.specs.Trees.{Tree, Subst, apply}
use Rattle.trees.specs.Judgements.{Context, WithVar, WithName, trees}
use Rattle.trees.specs.Language.{Ty, Tm, Sb}
use Rattle.substitution.specs.Forms.{lift}
use Rattle.rules.specs.Table.{at, i0, i1, pathp, pi, sig}
use Rattle.book.specs.Contents.{Contents}
use Rattle.typed_nodes.specs.Typed.{Says, IsFamily, IsLine}
use Rattle.typed_nodes.specs.declared.types.Family.{Family}
use Rattle.typed_nodes.specs.declared.types.Line.{Line}
use Rattle.typed_nodes.proofs.HomeLaws.{pi_at_home, sig_at_home, pathp_at_home}
use Rattle.literal_types.specs.declared.forms.Literal.TheVariants as literal
use Rattle.literal_types.specs.Literal.{IsLiteral}

abbrev family_under : (b : Contents) (H K : Context) (d : Subst) (f : Family) (B C : Tree) → Says b f.domain (Ty K B) → Says b f.codomain (Ty (WithVar K B) C) → Says b f.sub (Sb H d K) → IsFamily b f H (apply B d) (apply C (lift trees d))
family_under b H K d f B C domain codomain sub = record {
  home = K;
  domain = B;
  codomain = C;
  sub = d;
  domain_is = domain;
  codomain_is = codomain;
  sub_is = sub;
  left = refl;
  right = refl;
}

pub pi_under : (b : Contents) (H : Context) (T : Tree) (K : Context) (d : Subst) (f : Family) (A B C : Tree) → T ≡ apply A d → A ≡ pi trees B C → Says b f.domain (Ty K B) → Says b f.codomain (Ty (WithVar K B) C) → Says b f.sub (Sb H d K) → IsLiteral b (literal.Pi f) H T
pi_under b H T K d f A B C is form domain codomain sub =
    let family = family_under b H K d f B C domain codomain sub in
    (apply B d, apply C (lift trees d), is ∙ ap (λ t. apply t d) form ∙ sym (pi_at_home family), family)

pub sigma_under : (b : Contents) (H : Context) (T : Tree) (K : Context) (d : Subst) (f : Family) (A B C : Tree) → T ≡ apply A d → A ≡ sig trees B C → Says b f.domain (Ty K B) → Says b f.codomain (Ty (WithVar K B) C) → Says b f.sub (Sb H d K) → IsLiteral b (literal.Sigma f) H T
sigma_under b H T K d f A B C is form domain codomain sub =
    let family = family_under b H K d f B C domain codomain sub in
    (apply B d, apply C (lift trees d), is ∙ ap (λ t. apply t d) form ∙ sym (sig_at_home family), family)

pub path_under : (b : Contents) (H : Context) (T : Tree) (K : Context) (d : Subst) (l : Line) (A B u v : Tree) → T ≡ apply A d → A ≡ pathp trees B u v → Says b l.ty (Ty (WithName K) B) → Says b l.left (Tm K u (at trees B (i0 trees))) → Says b l.right (Tm K v (at trees B (i1 trees))) → Says b l.sub (Sb H d K) → IsLiteral b (literal.Path l) H T
path_under b H T K d l A B u v is form line left right sub =
    let whole : IsLine b l H (apply B (lift trees d)) (apply u d) (apply v d) = record {
      home = K;
      tree = B;
      start = u;
      end = v;
      sub = d;
      line_is = line;
      left_is = left;
      right_is = right;
      sub_is = sub;
      is = refl;
      left = refl;
      right = refl;
    } in
    (apply B (lift trees d), apply u d, apply v d, is ∙ ap (λ t. apply t d) form ∙ sym (pathp_at_home whole), whole)
