use Rattle.std.proofs.Common.{◌≡◌, ◌∙◌, sym, subst, Some, IsSome}
use Rattle.trees.specs.Trees.{Var}
use Rattle.trees.specs.Things.{ATree, both, instance_of}
use Rattle.replay.proofs.row_maker.JudgedRowsMaker.instance.Goals as goal

pub undone-requires : goal.undone-requires
undone-requires c = subst (λ f. IsSome (both instance_of (f c.args.term) (f c.args.sub))) (sym c.store.ensures) c.requires

pub returns-in-Some-clause-meaning : goal.returns-in-Some-clause-meaning
returns-in-Some-clause-meaning c =
    subst (λ f. f c.in-Some.row ≡ both instance_of (f c.args.term) (f c.args.sub)) c.store.ensures c.in-Some.ensures

pub passed-requires : goal.passed-requires
passed-requires c = subst (λ f. IsSome (both instance_of (f c.args.term) (f c.args.sub))) (sym c.store-2.ensures) c.requires

pub returns-in_ok-var-in-Some-passed-clause-meaning : goal.returns-in_ok-var-in-Some-passed-clause-meaning
returns-in_ok-var-in-Some-passed-clause-meaning c =
    c.in_ok-var-in-Some-passed.ensures.meaning
    ∙ sym (subst (λ f. both instance_of (f c.args.term) (f c.args.sub) ≡ Some (ATree (Var c.in-Some-passed.index))) c.store-2.ensures c.in-Some-passed.ensures)
