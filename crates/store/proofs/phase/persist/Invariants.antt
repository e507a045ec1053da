use Rattle.std.proofs.Common.{◌≡◌, take}
use Rattle.store.proofs.Phases.{SoFar}
use Rattle.store.proofs.phase.persist.Given as goal

abbrev pub invariant-loop-word : goal.invariant-loop-word
invariant-loop-word g l =
    SoFar (g.M.Memory.model l.initial.memory) (take l.word-index l.words) (g.M.Memory.model l.memory)
    × (g.M.Memory.lent l.memory ≡ g.M.Memory.lent l.initial.memory)
