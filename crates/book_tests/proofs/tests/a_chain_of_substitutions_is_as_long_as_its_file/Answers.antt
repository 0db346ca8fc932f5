use Rattle.std.proofs.Common.{refl}
use Rattle.book_tests.proofs.tests.a_chain_of_substitutions_is_as_long_as_its_file.Goals as goal

pub write-requires : goal.write-requires
write-requires g c = let e = c.in_ok-node.ensures in rw e refl

pub judged-requires : goal.judged-requires
judged-requires g c = let e = c.in_ok-node-2.ensures in rw e refl
