use Rattle.std.proofs.Common.{◌≡◌, ℕ, ◌<◌, ◌≤◌}
use Rattle.media.specs.Cells.{both, cell_at}
use Rattle.media.specs.Lagging.{survivor}
use Rattle.media.proofs.lagging.words.settle.Given as goal

-- the words below i are as they survive, and the others are as they were
abbrev pub invariant-loop-i : goal.invariant-loop-i
invariant-loop-i l =
    ((k : ℕ) → k < l.i → cell_at l.cell-items k ≡ both (survivor l.given k (cell_at l.initial.cell-items k)))
    × ((k : ℕ) → l.i ≤ k → cell_at l.cell-items k ≡ cell_at l.initial.cell-items k)
