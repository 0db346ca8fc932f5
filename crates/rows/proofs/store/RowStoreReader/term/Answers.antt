use Rattle.std.proofs.Common.{◌≡◌, ◌∙◌, ◌+◌, ◌-◌, ◌<◌, ◌≤◌, ℕ, List, length, take, drop, sym, ap, ap₂, subst, arith, refl}
use Rattle.std.specs.Prelude.{option_and_then}
use Rattle.std.specs.List.{All}
use Rattle.trees.specs.declared.op.Op.{Op}
use Rattle.trees.specs.Operators.{kids_of}
use Rattle.trees.specs.Things.{ATree, made, meanings}
use Rattle.rows.specs.Shown.{store_means}
use Rattle.trees.specs.declared.kind.PartKind.TheVariants as part
use Rattle.rows.specs.declared.held.Held.{Held}
use Rattle.rows.specs.declared.held.Held.TheVariants as held
use Rattle.rows.specs.Held.{kind_held, kids_at}
use Rattle.rows.proofs.HeldLaws.{MeansThere, means_there, kids-there}
use Rattle.rows.proofs.StoreLaws.{kind_there}
use Rattle.rows.proofs.store.RowStoreReader.term.Goals as goal
use Rattle.rows.proofs.store.RowStoreReader.term.Goals.{In-Make}

pub unreachable-requires : goal.unreachable-requires
unreachable-requires c =
    let s = c.args.self.now in
    is_term c.row.result (kind_there s.rows.items s.kids.items s.subs.items s.held c.args.id.0 c.row.result (ATree c.requires.0) c.row.ensures c.requires.1) c.in_default.not-Var c.in_default.not-Make c.in_default.not-Instance
  where
    is_term : (r : Held) → part.Term ≡ kind_held r → ((k : ℕ) → r ≡ held.Var k → ⊥) → ((op : Op) (at : ℕ) → r ≡ held.Make op at → ⊥) → ((t d : ℕ) → r ≡ held.Instance t d → ⊥) → ⊥
    is_term (held.Var k) e var make instance = var k refl
    is_term (held.Make op at) e var make instance = make op at refl
    is_term (held.Instance t d) e var make instance = instance t d refl
    is_term _ e var make instance = cc

pub returns-in-Var-clause-meaning : goal.returns-in-Var-clause-meaning
returns-in-Var-clause-meaning c =
    let s = c.args.self.now in
    let m = means_there s.rows.items s.kids.items s.subs.items s.held c.args.id.0 (held.Var c.in-Var.index) c.in-Var.ensures in
    m.at ∙ sym m.means

-- what the row means, and its kids
made_there : (c : In-Make) → MeansThere c.args.self.now.rows.items c.args.self.now.kids.items c.args.self.now.subs.items c.args.id.0 (held.Make c.in-Make.op c.in-Make.at)
made_there c = let s = c.args.self.now in means_there s.rows.items s.kids.items s.subs.items s.held c.args.id.0 (held.Make c.in-Make.op c.in-Make.at) c.in-Make.ensures

same_kids : (items kids : List ℕ) (at count n : ℕ) → items ≡ kids → count ≡ n → kids_at kids n at ≡ take (at + count - at) (drop at items)
same_kids items kids at count n are is = let e : at + count - at ≡ n = omega arith in ap₂ (λ m zs. take m (drop at zs)) (sym e) (sym are)

same_end : (items kids : List ℕ) (at count n : ℕ) → items ≡ kids → count ≡ n → at + n ≤ length kids → at + count ≤ length items
same_end items kids at count n are is le = rw (are, is) le

pub slice_bounds-result-end : goal.slice_bounds-result-end
slice_bounds-result-end c =
    let s = c.args.self.now in
    let end = kids-there s.rows.items s.kids.items s.subs.items s.held c.args.id.0 c.in-Make.op c.in-Make.at c.in-Make.ensures in
    same_end c.deref.result.now s.kids.items c.in-Make.at c.kid_count.result (kids_of c.in-Make.op) c.deref.ensures.value c.kid_count.ensures end

pub returns-in-Make-clause-meaning : goal.returns-in-Make-clause-meaning
returns-in-Make-clause-meaning c =
    let s = c.args.self.now in
    let m = made_there (goal.at.returns-in-Make-clause-meaning c).In-Make in
    m.at ∙ sym m.means
    ∙ ap (λ ks. option_and_then (made c.in-Make.op) (meanings (store_means s) ks)) (same_kids c.deref.result.now s.kids.items c.in-Make.at c.kid_count.result (kids_of c.in-Make.op) c.deref.ensures.value c.kid_count.ensures)

pub returns-in-Make-clause-earlier : goal.returns-in-Make-clause-earlier
returns-in-Make-clause-earlier c =
    let s = c.args.self.now in
    let m = made_there (goal.at.returns-in-Make-clause-earlier c).In-Make in
    subst (All (λ k. k < c.args.id.0)) (same_kids c.deref.result.now s.kids.items c.in-Make.at c.kid_count.result (kids_of c.in-Make.op) c.deref.ensures.value c.kid_count.ensures) m.earlier

pub returns-in-Instance-clause-meaning : goal.returns-in-Instance-clause-meaning
returns-in-Instance-clause-meaning c =
    let s = c.args.self.now in
    let m = means_there s.rows.items s.kids.items s.subs.items s.held c.args.id.0 (held.Instance c.in-Instance.term c.in-Instance.sub) c.in-Instance.ensures in
    m.at ∙ sym m.means

pub returns-in-Instance-clause-earlier : goal.returns-in-Instance-clause-earlier
returns-in-Instance-clause-earlier c =
    let s = c.args.self.now in
    let m = means_there s.rows.items s.kids.items s.subs.items s.held c.args.id.0 (held.Instance c.in-Instance.term c.in-Instance.sub) c.in-Instance.ensures in
    m.earlier
