use Rattle.std.proofs.Common.{◌≡◌, ◌++◌, take, map}
use Rattle.std.specs.Prelude.{slice_index_or}
use Rattle.std.specs.List.{flat_map}
use Rattle.deriv_file.specs.declared.row.Row.TheVariants.{Root}
use Rattle.deriv_file.specs.Spelling.{spelled}
use Rattle.book_writer.proofs.numbering.append_roots.Given as goal

abbrev pub invariant-loop-root : goal.invariant-loop-root
invariant-loop-root l = l.into.items ≡ l.initial.into.items ++ flat_map spelled (map (λ k. Root (slice_index_or l.numbers k 0)) (take l.root-index l.roots))
