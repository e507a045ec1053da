use Rattle.std.proofs.Common.{◌≡◌, true, take}
use Rattle.memory.specs.Stores.{Made}
use Rattle.layers.proofs.cache.store_all.Given as goal

-- the words before this one are stored, and power was not lost
abbrev pub invariant-loop-word : goal.invariant-loop-word
invariant-loop-word g l =
    Made (g.M.Memory.model l.initial.memory) (take l.word-index l.words) (g.M.Memory.model l.memory)
    × ((g.M.Memory.model l.initial.memory).up ≡ true → (g.M.Memory.model l.memory).up ≡ true)
    × (g.M.Memory.lent l.memory ≡ g.M.Memory.lent l.initial.memory)
