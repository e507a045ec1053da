-- The directory as code holds it.
use Rattle.std.specs.Prelude.{◌≡◌, ℕ, ◌<◌, slice_index_or}
use Rattle.memory.specs.Stores.{Words}
use Rattle.layout.specs.Image.{name_word, root_word}
use Rattle.image_check.specs.declared.directory.Directory.{Directory}
use Rattle.image_check.specs.declared.directory.Slot.{Slot}

-- slot s of the directory
abbrev pub slot_at : Directory → ℕ → Slot
slot_at d s = slice_index_or d.slots s (record { name = 0; root = 0 })

-- slot s of an image
abbrev pub slot_of : Words → ℕ → Slot
slot_of w s = record { name = name_word w s; root = root_word w s }

-- the words of the sixteen slots are those of the image
pub record Lists (w : Words) (d : Directory) : Type 0 where
  pub names : (s : ℕ) → s < 16 → (slot_at d s).name ≡ name_word w s
  pub roots : (s : ℕ) → s < 16 → (slot_at d s).root ≡ root_word w s
