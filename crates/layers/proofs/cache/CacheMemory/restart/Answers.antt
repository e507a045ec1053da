use Rattle.waiting.specs.Waits.{waiting}
use Rattle.layers.proofs.Caching.{cache-restart}
use Rattle.layers.proofs.cache.CacheMemory.restart.Goals as goal

pub returns-clause-gives : goal.returns-clause-gives
returns-clause-gives g c =
    cache-restart (waiting c.args.self.now.waiting) (waiting c.clear.new.self) (g.M.Memory.model c.args.self.now.below) (g.M.Memory.model c.restart.new.self) c.restart.result c.clear.ensures c.restart.ensures.gives
