-- What a part of any memory means.
use Rattle.memory.specs.Model.{Model}
use Rattle.layers.specs.Layers.{part_model}
use Rattle.layers.specs.declared.part.Part.{Part}

abbrev pub part_of : {M : Type 0} → (M → Model) → Part M → Model
part_of model s = part_model s.run.first s.run.count (model s.below)
