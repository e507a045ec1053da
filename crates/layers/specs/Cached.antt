-- What a cache means over any memory.
use Rattle.memory.specs.Model.{Model}
use Rattle.waiting.specs.Waits.{waiting}
use Rattle.layers.specs.Layers.{cache_model}
use Rattle.layers.specs.declared.cache.Cache.{Cache}

abbrev pub cached : {M : Type 0} → (M → Model) → Cache M → Model
cached model s = cache_model (waiting s.waiting) (model s.below)
