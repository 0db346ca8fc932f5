use Rattle.std.proofs.Common.{ap, sym, ◌∙◌, true≢false}
use Rattle.numbered_scope.proofs.Searches.{more_ascend}
use Rattle.numbered_scope.proofs.numbered.ByNumber.push.Goals as goal
use Rattle.numbered_scope.proofs.numbered.ByNumber.push.Goals.{then-not-is_next, else-not-is_next}

pub invariant_of-self : goal.invariant_of-self
invariant_of-self g c = record {
  ascend = elim c.if-not-is_next.branch [
    | then-not-is_next w ↦ λ t. absurd (true≢false (sym t ∙ ap (λ x. x.1.1.0) w.self-is))
    | else-not-is_next w ↦ λ t.
        more_ascend c.args.self.now.items.items c.push.new.self.items c.args.item _ c.push.ensures.items
        (c.args.self.now.ascend (sym (ap (λ x. x.1.1.0) w.self-is) ∙ t))
        (rw c.deref.ensures.value at c.is_next.ensures w.if-not-is_next.false)
  ];
}
