use Rattle.layers.proofs.Parting.{part-barrier}
use Rattle.layers.proofs.part.PartMemory.barrier.Goals as goal

pub returns-clause-gives : goal.returns-clause-gives
returns-clause-gives g c =
    part-barrier c.args.self.now.run.first c.args.self.now.run.count (g.M.Memory.model c.args.self.now.below) (g.M.Memory.model c.barrier.new.self) c.barrier.result c.barrier.ensures.gives
