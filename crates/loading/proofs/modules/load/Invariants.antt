use Rattle.std.proofs.Common.{◌≡◌, ◌≤◌, ◌+◌, length, map}
use Rattle.std.specs.Prelude.{reverse}
use Rattle.module_texts.specs.Texts.{text_of}
use Rattle.loading.specs.Loading.{most_modules}
use Rattle.loading.proofs.FrameLaws.{Goes, measure}
use Rattle.loading.proofs.modules.load.Given as goal

-- the whole ends and is refused as what is left, and nothing went wrong yet
abbrev pub invariant-loop-last : goal.invariant-loop-last
invariant-loop-last g l =
    Goes (g.F.Files.held l.fn.files) l.fn.name (map text_of l.loaded.items) (reverse l.begun.items)
    × (length l.loaded.items + length l.begun.items ≤ most_modules)
    × (g.F.Files.held l.files ≡ g.F.Files.held l.fn.files)
    × (g.F.Files.counts l.files ≡ g.F.Files.counts l.fn.files)

abbrev pub decreases-loop-last : goal.decreases-loop-last
decreases-loop-last g l = measure (length l.loaded.items + length l.begun.items) (reverse l.begun.items)
