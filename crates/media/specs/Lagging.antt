-- The lagging memory: the words seen and the words kept lie apart until a barrier.
use Rattle.std.specs.Prelude.{ℕ, ◌/◌, ◌%◌, ◌^◌, Bool, cond, List, [], ◌∷◌, vec_items, vec_len, ◌==◌, slice_set}
use Rattle.memory.specs.Model.{Model}
use Rattle.media.specs.Cells.{cell_at}
use Rattle.media.specs.declared.lagging.Cell.{Cell}
use Rattle.media.specs.declared.lagging.LaggingMemory.{LaggingMemory}

abbrev pub lagging_model : LaggingMemory → Model
lagging_model s = record {
  count = vec_len s.cells;
  up = s.power.up;
  seen = λ i. (cell_at (vec_items s.cells) i).seen;
  may = λ i. (cell_at (vec_items s.cells) i).seen ∷ (cell_at (vec_items s.cells) i).kept ∷ [];
}

-- the memory is lent no bytes
abbrev pub none_lent : LaggingMemory → ℕ
none_lent s = 0

-- the cells with a word stored: it is seen, and not kept yet
abbrev pub with_seen : List Cell → ℕ → ℕ → List Cell
with_seen cells at word = slice_set cells at (record { seen = word; kept = (cell_at cells at).kept })

-- word i keeps its newest value at a restart: bit (i mod 8) of the given byte is one
abbrev pub newest : ℕ → ℕ → Bool
newest given i = given / 2 ^ (i % 8) % 2 == 1

-- what a word is after a restart: the newest value, or else the kept one
abbrev pub survivor : ℕ → ℕ → Cell → ℕ
survivor given i cell = cond (newest given i) cell.seen cell.kept
