use Rattle.kernel_tests.proofs.concluded.a_release_leaves_the_rows_and_nodes_of_its_mark.Goals as goal

pub release-requires : goal.release-requires
release-requires g c = c.in_ok-ctx.ensures.extends.marks c.mark-first.result c.mark-first.ensures.mark
