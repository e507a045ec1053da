use Rattle.std.proofs.Common.{◌≡◌, ℕ, ◌<◌, false}
use Rattle.memory.specs.Model.{Model}
use Rattle.layout.specs.Image.{in_block, map_of}
use Rattle.image_check.specs.Reading.{Looked}
use Rattle.image_check.proofs.file.File.any_block.Given as goal

abbrev pub ghost-load_block : goal.ghost-load_block
ghost-load_block g a = g.M.Memory.model a.memory.now

abbrev pub invariant-loop-k : goal.invariant-loop-k
invariant-loop-k g l =
    ((g.M.Memory.model l.memory).count ≡ (g.M.Memory.model l.initial.memory).count)
    × (g.M.Memory.lent l.memory ≡ g.M.Memory.lent l.initial.memory)
    × ((first : Model) → Looked first (g.M.Memory.model l.initial.memory) → Looked first (g.M.Memory.model l.memory) × ((j : ℕ) → j < l.k → goal.F-post g l.test (in_block first.seen (map_of l.self.root) j) false))
