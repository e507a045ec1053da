use Rattle.std.proofs.Common.{◌≡◌, ℕ, List}
use Rattle.layout.specs.Image.{in_block, map_of}
use Rattle.image_check.specs.Check.{HasOnce}
use Rattle.image_check.specs.Reading.{Looked}
use Rattle.image_check.proofs.Blocks.{with_first}
use Rattle.image_check.proofs.file.File.add_blocks.Given as goal

abbrev pub ghost-load_block : goal.ghost-load_block
ghost-load_block g a = g.first

abbrev pub invariant-loop-k : goal.invariant-loop-k
invariant-loop-k g l =
    Looked g.first (g.M.Memory.model l.memory)
    × (g.M.Memory.lent l.memory ≡ g.M.Memory.lent l.initial.memory)
    × ((xs : List ℕ) → HasOnce l.fn.set xs → HasOnce l.set (with_first (in_block g.first.seen (map_of l.self.root)) xs (map_of l.self.root) l.k))
