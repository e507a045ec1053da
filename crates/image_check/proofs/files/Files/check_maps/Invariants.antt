use Rattle.std.proofs.Common.{◌≡◌, ℕ, ◌<◌}
use Rattle.image_check.specs.Reading.{Looked}
use Rattle.image_check.proofs.Mapping.{MapsGood}
use Rattle.image_check.proofs.files.Files.check_maps.Given as goal

abbrev pub ghost-check_map : goal.ghost-check_map
ghost-check_map g a = g.first

abbrev pub invariant-loop-slot : goal.invariant-loop-slot
invariant-loop-slot g l =
    Looked g.first (g.M.Memory.model l.memory)
    × (g.M.Memory.lent l.memory ≡ g.M.Memory.lent l.initial.memory)
    × ((s : ℕ) → s < l.slot-index → MapsGood l.self.blocks g.first.seen s)
