use Rattle.std.proofs.Common.{◌≡◌, ℕ, ◌+◌, ◌<◌, get_or}
use Rattle.image_check.specs.Reading.{Looked}
use Rattle.store.specs.Read.{byte_at}
use Rattle.store.proofs.read.load_bytes.Given as goal

abbrev pub invariant-loop-k : goal.invariant-loop-k
invariant-loop-k g l =
    Looked (g.M.Memory.model l.initial.memory) (g.M.Memory.model l.memory)
    × (g.M.Memory.lent l.memory ≡ g.M.Memory.lent l.initial.memory)
    × ((j : ℕ) → j < l.k → get_or l.out j 0 ≡ byte_at (g.M.Memory.model l.initial.memory).seen l.root.map (l.offset + j))
