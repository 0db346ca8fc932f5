use Rattle.interned.specs.Shown.{things}
use Rattle.book.proofs.CutLaws.{mark-within, nodes-released, released-along}
use Rattle.book.proofs.kernel.Book.release.Goals as goal

pub release-requires : goal.release-requires
release-requires c = mark-within _ _ c.args.mark c.self.view_is c.requires

pub invariant_of-self : goal.invariant_of-self
invariant_of-self c = record {
  right = nodes-released _ _ c.args.mark c.self.view_is c.requires c.self.invariant.right (things c.release.new.self) c.release-2.new.self.rows c.release.ensures.rows c.release-2.ensures.rows;
  keeps = c.new.ensures _ _;
}

pub returns-clause-released : goal.returns-clause-released
returns-clause-released c = released-along _ _ _ c.args.mark c.self.view_is c.requires c.release.ensures.rows c.release-2.ensures.rows
