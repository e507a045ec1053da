use Rattle.std.proofs.Common.{◌≡◌, ◌-◌}
use Rattle.store.specs.Phase.{zeros, AllMade}
use Rattle.store.proofs.phase.clear_run.Given as goal

abbrev pub invariant-loop-at : goal.invariant-loop-at
invariant-loop-at g l =
    AllMade (g.M.Memory.model l.initial.memory) (zeros l.first (l.at - l.first)) (g.M.Memory.model l.memory)
    × (g.M.Memory.lent l.memory ≡ g.M.Memory.lent l.initial.memory)
