use Rattle.std.proofs.Common.{arith}
use Rattle.std.proofs.lemmas.Bool.Decides.{nat_tests}
use Rattle.layers.proofs.Parting.{part-load}
use Rattle.layers.proofs.part.PartMemory.load.Goals as goal

pub returns-clause-gives : goal.returns-clause-gives
returns-clause-gives g c =
    part-load c.args.self.now.run.first c.args.self.now.run.count (g.M.Memory.model c.args.self.now.below) (g.M.Memory.model c.load.new.self) c.args.at c.load.result (grind (arith, nat_tests)) c.load.ensures.gives
