use Rattle.std.proofs.Common.{◌≡◌}
use Rattle.store.specs.Phase.{copies, AllMade}
use Rattle.store.proofs.phase.copy_run.Given as goal

abbrev pub invariant-loop-j : goal.invariant-loop-j
invariant-loop-j g l =
    AllMade (g.M.Memory.model l.initial.memory) (copies (g.M.Memory.model l.initial.memory).seen l.from l.to l.j) (g.M.Memory.model l.memory)
    × (g.M.Memory.lent l.memory ≡ g.M.Memory.lent l.initial.memory)
