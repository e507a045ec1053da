use Rattle.layers.proofs.Parting.{part-restart}
use Rattle.layers.proofs.part.PartMemory.restart.Goals as goal

pub returns-clause-gives : goal.returns-clause-gives
returns-clause-gives g c =
    part-restart c.args.self.now.run.first c.args.self.now.run.count (g.M.Memory.model c.args.self.now.below) (g.M.Memory.model c.restart.new.self) c.restart.result c.restart.ensures.gives
