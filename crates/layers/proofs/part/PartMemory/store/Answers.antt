use Rattle.std.proofs.Common.{arith}
use Rattle.std.proofs.lemmas.Bool.Decides.{nat_tests}
use Rattle.layers.proofs.Parting.{part-store}
use Rattle.layers.proofs.part.PartMemory.store.Goals as goal

pub returns-clause-gives : goal.returns-clause-gives
returns-clause-gives g c =
    part-store c.args.self.now.run.first c.args.self.now.run.count (g.M.Memory.model c.args.self.now.below) (g.M.Memory.model c.store.new.self) c.args.at c.args.value c.store.result (grind (arith, nat_tests)) c.store.ensures.gives
