use Rattle.std.proofs.Common.{◌≡◌, ℕ, refl}
use Rattle.trees.specs.Things.{ASubst}
use Rattle.trees.specs.declared.kind.PartKind.TheVariants as part
use Rattle.rows.specs.declared.held.Held.{Held}
use Rattle.rows.specs.declared.held.Held.TheVariants as held
use Rattle.rows.specs.Held.{kind_held}
use Rattle.rows.proofs.StoreLaws.{SubThere, sub_there, kind_there}
use Rattle.rows.proofs.store.RowStore.sub.Goals as goal
use Rattle.rows.proofs.store.RowStore.sub.Goals.{After-index}

pub unreachable-requires : goal.unreachable-requires
unreachable-requires c =
    let s = c.args.self.now in
    is_sub c.row.result (kind_there s.rows.items s.kids.items s.subs.items s.held c.args.id.0 c.row.result (ASubst c.requires.0) c.row.ensures c.requires.1) c.in_default.not-Subst
  where
    is_sub : (r : Held) → part.Subst ≡ kind_held r → ((at : ℕ) → r ≡ held.Subst at → ⊥) → ⊥
    is_sub (held.Subst at) e not = not at refl
    is_sub _ e not = cc

read : (c : After-index) → SubThere c.args.self.now.rows.items c.args.self.now.kids.items c.args.self.now.subs.items c.args.id.0 c.index.result.now
read c =
    let s = c.args.self.now in
    sub_there s.rows.items s.kids.items s.subs.items s.held c.args.id.0 c.in-Subst.at c.index.result.now c.in-Subst.ensures c.index.ensures c.requires

pub returns-clause-meaning : goal.returns-clause-meaning
returns-clause-meaning c = (read (goal.at.returns-clause-meaning c).After-index).meaning

pub returns-clause-earlier : goal.returns-clause-earlier
returns-clause-earlier c = (read (goal.at.returns-clause-earlier c).After-index).earlier

pub returns-clause-size : goal.returns-clause-size
returns-clause-size c = (read (goal.at.returns-clause-size c).After-index).size
