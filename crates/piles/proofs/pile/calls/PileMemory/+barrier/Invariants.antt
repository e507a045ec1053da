use Rattle.piles.specs.Pile.{depth}
use Rattle.piles.proofs.pile.calls.PileMemory.+barrier.Given as goal

abbrev pub decreases-barrier : goal.decreases-barrier
decreases-barrier g l = depth l.self.now
