-- What a barrier of a cache asks of the memory below. Assumes nothing.
use Rattle.std.proofs.Common.{◌≡◌, true, List, Ok, Result, sym}
use Rattle.memory.specs.Model.{Model, Flushed}
use Rattle.memory.specs.declared.fault.Fault.{Fault}
use Rattle.memory.specs.declared.word.Word.{Word}
use Rattle.memory.proofs.Putting.{up-down}
use Rattle.layers.specs.Below.{CacheFlushes}
use Rattle.layers.specs.StoredAll.{StoredAll}

module _ {B : Type 0} (model : B → Model) (ws : List Word) (b : B) (up : true ≡ (model b).up) (k : B) where
  pub then-flushes : (r : Result Unit Fault) (c : B) → StoredAll (model b) ws (Ok tt) (model k) → Flushed (model k) r (model c) → CacheFlushes model ws b r c
  then-flushes r c all h = (λ _. (Ok tt, k, all, h), λ down. absurd (up-down (model b).up (sym up) down))
