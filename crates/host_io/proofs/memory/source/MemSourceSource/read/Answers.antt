use Rattle.std.proofs.Common.{◌≡◌, ◌+◌, ◌≤◌, ◌++◌, ℕ, List, length, take, drop, ap, sym, ◌∙◌, arith, rules}
use Rattle.std.proofs.lemmas.Grind.{common_steps}
use Rattle.std.proofs.lemmas.List.{take-append-drop, drop-drop}
use Rattle.host_io.proofs.memory.source.MemSourceSource.read.Goals as goal

-- what is copied to the start of the buffer is its start
start_copied : (left rest : List ℕ) (n : ℕ) → n ≤ length left → take n (take n left ++ rest) ≡ take n left
start_copied left rest n fits = grind (arith, common_steps)

-- the bytes to come are those that were read and those after them
reads_start : (bytes buf : List ℕ) (at n : ℕ) → take n buf ≡ take n (drop at bytes) → drop at bytes ≡ take n buf ++ drop (at + n) bytes
reads_start bytes buf at n same = sym (rw (same, ← drop-drop n at bytes) (take-append-drop n (drop at bytes)))

pub returns-clause-bytes : goal.returns-clause-bytes
returns-clause-bytes c =
    let bytes = c.self.inside.bytes.items in
    let at = c.self.inside.at in
    let n = c.copy_start-count.result in
    let left : c.split_at.result.1.now ≡ drop at bytes = search rules in
    let copied : take n c.copy_start-count.new.to ≡ take n (drop at bytes) =
    ap (take n) c.copy_start-count.ensures.copied ∙ start_copied c.split_at.result.1.now _ n (omega arith) ∙ ap (take n) left in
    (search rules, sym (ap (λ s. s.left) c.self.view_is) ∙ reads_start bytes _ at n copied)
