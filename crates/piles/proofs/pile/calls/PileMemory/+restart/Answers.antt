use Rattle.std.proofs.Common.{rules}
use Rattle.piles.specs.Pile.{pile_model}
use Rattle.layers.proofs.Caching.{cache-restart}
use Rattle.layers.proofs.Parting.{part-restart}
use Rattle.piles.proofs.pile.calls.PileMemory.+restart.Goals as goal

pub returns-in-Cache-clause-gives : goal.returns-in-Cache-clause-gives
returns-in-Cache-clause-gives g t c = search (rules, cache-restart)

pub returns-in-Part-clause-gives : goal.returns-in-Part-clause-gives
returns-in-Part-clause-gives g t c =
    let m = pile_model g.M.Memory.model c.in-Part.below.value in
    let n = pile_model g.M.Memory.model c.restart-in-Part.new.self in
    rw c.in-Part.is (part-restart c.in-Part.field-1.first c.in-Part.field-1.count m n c.restart-in-Part.result (rw c.deref_mut-in-Part.ensures.value at c.restart-in-Part.ensures.gives))
