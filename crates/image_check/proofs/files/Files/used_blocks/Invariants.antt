use Rattle.std.proofs.Common.{◌≡◌}
use Rattle.std.specs.List.{range_with_len, flat_map}
use Rattle.layout.specs.Image.{slot_blocks}
use Rattle.image_check.specs.Check.{HasOnce}
use Rattle.image_check.specs.Reading.{Looked}
use Rattle.image_check.proofs.files.Files.used_blocks.Given as goal

abbrev pub ghost-add_blocks : goal.ghost-add_blocks
ghost-add_blocks g a = g.first

abbrev pub invariant-loop-slot : goal.invariant-loop-slot
invariant-loop-slot g l =
    Looked g.first (g.M.Memory.model l.memory)
    × (g.M.Memory.lent l.memory ≡ g.M.Memory.lent l.initial.memory)
    × HasOnce l.set (flat_map (slot_blocks g.first.seen) (range_with_len 0 l.slot-index))
