use Rattle.std.proofs.Common.{◌≡◌, true, arith}
use Rattle.std.proofs.lemmas.Bool.Decides.{nat_tests}
use Rattle.waiting.specs.Waits.{waiting}
use Rattle.layers.proofs.Caching.{cache-hit, cache-load}
use Rattle.layers.proofs.cache.CacheMemory.load.Goals as goal

pub returns-in-Some-clause-gives : goal.returns-in-Some-clause-gives
returns-in-Some-clause-gives g c =
    let up : true ≡ (g.M.Memory.model c.args.self.now.below).up = grind (arith, nat_tests) in
    cache-hit (waiting c.args.self.now.waiting) (g.M.Memory.model c.args.self.now.below) c.args.at c.in-Some.value up (grind (arith, nat_tests)) c.in-Some.ensures

pub returns-in-None-clause-gives : goal.returns-in-None-clause-gives
returns-in-None-clause-gives g c =
    cache-load (waiting c.args.self.now.waiting) (g.M.Memory.model c.args.self.now.below) (g.M.Memory.model c.load.new.self) c.args.at c.load.result c.in-None.ensures c.load.ensures.gives
