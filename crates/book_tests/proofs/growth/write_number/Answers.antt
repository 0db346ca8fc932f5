use Rattle.std.proofs.Common.{refl}
use Rattle.book_tests.proofs.growth.write_number.Goals as goal

pub write-requires : goal.write-requires
write-requires c = let e = c.requires.1 in rw e refl
