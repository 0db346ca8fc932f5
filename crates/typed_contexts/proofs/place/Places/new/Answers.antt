use Rattle.std.proofs.Common.{length, ap}
use Rattle.typed_contexts.proofs.place.Places.new.Goals as goal

pub returns-clause-place : goal.returns-clause-place
returns-clause-place c = record {
  count = ap length c.new.ensures.items;
  empty_is = c.in_ok-empty.ensures.typed;
  levels_are = tt;
}
