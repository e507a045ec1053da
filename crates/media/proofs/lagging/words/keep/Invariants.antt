use Rattle.std.proofs.Common.{◌≡◌, ℕ, ◌<◌, ◌≤◌}
use Rattle.media.specs.Cells.{both, cell_at}
use Rattle.media.proofs.lagging.words.keep.Given as goal

-- the words so far are kept as they are seen, and the others are as they were
abbrev pub invariant-loop-cell : goal.invariant-loop-cell
invariant-loop-cell l =
    ((k : ℕ) → k < l.cell-index → cell_at l.cell-items k ≡ both (cell_at l.initial.cell-items k).seen)
    × ((k : ℕ) → l.cell-index ≤ k → cell_at l.cell-items k ≡ cell_at l.initial.cell-items k)
