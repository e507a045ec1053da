use Rattle.std.proofs.Common.{◌≡◌, ℕ, ◌+◌, ◌<◌}
use Rattle.memory.specs.Bytes.{bytes_of}
use Rattle.image_check.specs.Directory.{slot_at}
use Rattle.image_check.proofs.directory.Directory.name_is_single.Given as goal

abbrev pub invariant-loop-later : goal.invariant-loop-later
invariant-loop-later l = (k : ℕ) → l.s < k → k < l.s + 1 + l.later-index → bytes_of (slot_at l.self l.s).name ≡ bytes_of (slot_at l.self k).name → ⊥
