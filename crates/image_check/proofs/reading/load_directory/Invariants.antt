use Rattle.std.proofs.Common.{◌≡◌, ℕ, ◌<◌, length}
use Rattle.image_check.specs.Directory.{slot_at, slot_of}
use Rattle.image_check.specs.Reading.{Looked}
use Rattle.image_check.proofs.reading.load_directory.Given as goal

abbrev pub ghost-load_slot : goal.ghost-load_slot
ghost-load_slot g a = g.first

abbrev pub invariant-loop-s : goal.invariant-loop-s
invariant-loop-s g l =
    Looked g.first (g.M.Memory.model l.memory)
    × (g.M.Memory.lent l.memory ≡ g.M.Memory.lent l.initial.memory)
    × (length l.slot-items ≡ 16)
    × ((k : ℕ) → k < l.s → slot_at (record { slots = l.slot-items }) k ≡ slot_of g.first.seen k)
