-- The cells of a lagging memory: each has a word as it is seen, and as it is kept without power.
use Rattle.std.specs.Prelude.{◌≡◌, ℕ, ◌≤◌, List, slice_index_or}
use Rattle.media.specs.declared.lagging.Cell.{Cell}

-- a cell with one word, both seen and kept
abbrev pub both : ℕ → Cell
both word = record { seen = word; kept = word }

abbrev pub cell_at : List Cell → ℕ → Cell
cell_at cells i = slice_index_or cells i (both 0)

-- from cell n on each word is kept as it is seen
abbrev pub AlikeFrom : ℕ → List Cell → Type 0
AlikeFrom n cells = (i : ℕ) → n ≤ i → (cell_at cells i).kept ≡ (cell_at cells i).seen
