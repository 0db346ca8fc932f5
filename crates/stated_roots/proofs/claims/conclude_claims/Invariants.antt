use Rattle.std.proofs.Common.{◌≡◌, map, take}
use Rattle.trees.specs.Claimed.{claimed}
use Rattle.book.specs.Shown.{book_concludes, book_means}
use Rattle.stated_roots.proofs.ClaimLaws.{conclusions}
use Rattle.stated_roots.proofs.claims.conclude_claims.Given as goal

-- the nodes so far conclude what the claims so far say
abbrev pub invariant-loop-at : goal.invariant-loop-at
invariant-loop-at l = take l.at (conclusions (book_concludes l.book) l.nodes) ≡ take l.at (map (claimed (book_means l.book)) l.claims)
