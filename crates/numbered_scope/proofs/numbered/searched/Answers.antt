use Rattle.std.proofs.Common.{◌-◌, leb, sym, ◌∙◌, arith, rules, ap, Some, None, if◌then◌else◌, ◌==◌}
use Rattle.std.proofs.lemmas.List.Sorted.{IsPartitionPoint-from_clause, IsPartitionedBy-leb}
use Rattle.numbered_scope.specs.declared.numbered.Numbered.{Numbered}
use Rattle.numbered_scope.specs.Newest.{later}
use Rattle.numbered_scope.proofs.Searches.{none_at_all, one_found}
use Rattle.numbered_scope.proofs.numbered.searched.Goals as goal

pub returns-then-up_to-eq0 : goal.returns-then-up_to-eq0
returns-then-up_to-eq0 g c =
    let items = c.args.items.now in
    let point = IsPartitionPoint-from_clause (λ (x : Numbered g.row.T.Denot). leb x.number c.args.number) items _ c.partition_point-up_to.ensures.partitioned
    (IsPartitionedBy-leb (λ (x : Numbered g.row.T.Denot). x.number) items c.args.number c.requires) (λ a r q k. search rules) in
    sym (none_at_all items _ c.args.number point (omega arith))

pub returns : goal.returns
returns g c =
    let items = c.args.items.now in
    let up_to = c.partition_point-up_to.result in
    let d = c.index-items-up_to.result in
    let point = IsPartitionPoint-from_clause (λ (x : Numbered g.row.T.Denot). leb x.number c.args.number) items _ c.partition_point-up_to.ensures.partitioned
    (IsPartitionedBy-leb (λ (x : Numbered g.row.T.Denot). x.number) items c.args.number c.requires) (λ a r q k. search rules) in
    c.newer.ensures ∙ ap (λ (x : Numbered g.row.T.Denot). later None (if x.number == c.args.number then Some x.value else None)) c.index-items-up_to.is
    ∙ sym (one_found d items up_to c.args.number point (up_to - 1) c.requires (omega arith) (omega arith))
