-- Types of functions by their parts, and contexts by their variables.
use Rattle.std.proofs.Common.{◌≡◌, List, [], ◌∷◌, ◌++◌, refl, reverse, subst, sym}
use Rattle.trees.specs.Trees.{Tree, Var}
use Rattle.trees.specs.Judgements.{Context, WithVar, trees}
use Rattle.trees.specs.Language.{Ctx, Tm, Ty}
use Rattle.rules.specs.Table.{universe, weakened}
use Rattle.book.specs.Contents.{Contents}
use Rattle.book.specs.Shown.{Extends}
use Rattle.book.specs.declared.kernel.NodeId.{NodeId}
use Rattle.typed_nodes.specs.declared.types.Family.{Family}
use Rattle.typed_nodes.specs.declared.types.Typed.{Typed}
use Rattle.typed_nodes.specs.Typed.{IsFamily, IsTypeAt}
use Rattle.typed_nodes.proofs.GrowthLaws.{says_later, typed_later}
use Rattle.literal_types.proofs.WaitLaws.{pushed_one}
use Rattle.behind_tests.specs.declared.telescope.Arguments.{Arguments}
use Rattle.behind_tests.specs.Telescopes.{AreAll, AreArguments, IsTerm, IsTypedClosed, with_two}

-- the domain, where it stands
pub domain_at : (b : Contents) (family : Family) (H : Context) (A B : Tree) → IsFamily b family H A B → IsTypeAt b (record { ty = family.domain; sub = family.sub }) H A
domain_at b family H A B is = record {
  home = is.home;
  tree = is.domain;
  sub = is.sub;
  type_is = is.domain_is;
  sub_is = is.sub_is;
  is = is.left;
}

pub term_later : (b c : Contents) (node : NodeId) (G : Context) → Extends b c → IsTerm b node G → IsTerm c node G
term_later b c node G grown is =
    let (t, T, says) = is in
    (t, T, says_later b c node (Tm G t T) grown says)

pub typed_closed_later : (b c : Contents) (typed : Typed) → Extends b c → IsTypedClosed b typed → IsTypedClosed c typed
typed_closed_later b c typed grown is =
    let (t, T, here) = is in
    (t, T, typed_later b c typed _ t T grown here)

pub arguments_later : (b c : Contents) (two : Arguments) (G : Context) → Extends b c → AreArguments b two G → AreArguments c two G
arguments_later b c two G grown is = record {
  universe_is = says_later b c two.universe (Ty G (universe trees)) grown is.universe_is;
  ty_is = says_later b c two.ty (Ty (WithVar G (universe trees)) (Var 0)) grown is.ty_is;
  ctx_is = says_later b c two.ctx (Ctx (with_two G)) grown is.ctx_is;
  element_is = says_later b c two.element (Tm (with_two G) (Var 0) (weakened trees (Var 0))) grown is.element_is;
}

pub all_later : (b c : Contents) (arguments : List Arguments) (G : Context) → Extends b c → AreAll b arguments G → AreAll c arguments G
all_later b c [] G grown is = is
all_later b c (two ∷ rest) G grown is =
    let (H, same, here, below) = is in
    (H, same, arguments_later b c two H grown here, all_later b c rest H grown below)

-- two more
pub all_more : (b : Contents) (before after : List Arguments) (two : Arguments) (G : Context) → after ≡ before ++ two ∷ [] → AreAll b (reverse before) G → AreArguments b two G → AreAll b (reverse after) (with_two G)
all_more b before after two G e all here =
    subst (λ (xs : List Arguments). AreAll b xs (with_two G)) (sym (pushed_one after before two e)) (G, refl, here, all)

-- the last two, and what is below them
pub all_less : (b : Contents) (before after : List Arguments) (two : Arguments) (G : Context) → before ≡ after ++ two ∷ [] → AreAll b (reverse before) G → (H : Context) × (G ≡ with_two H) × AreArguments b two H × AreAll b (reverse after) H
all_less b before after two G e all = subst (λ (xs : List Arguments). AreAll b xs G) (pushed_one before after two e) all
