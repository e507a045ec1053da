use Rattle.std.proofs.Common.{◌≡◌, ℕ, ◌<◌}
use Rattle.image_check.specs.Check.{Single}
use Rattle.image_check.specs.Directory.{slot_at}
use Rattle.image_check.proofs.directory.Directory.names_differ.Given as goal

abbrev pub invariant-loop-s : goal.invariant-loop-s
invariant-loop-s l = (k : ℕ) → k < l.s → ((slot_at l.self k).name ≡ 0 → ⊥) → Single l.self k
