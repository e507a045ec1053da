-- What is written of a fault.
use Rattle.std.specs.Prelude.{ℕ, List, codes}
use Rattle.memory.specs.declared.fault.Fault.{Fault}
use Rattle.memory.specs.declared.fault.Fault.TheVariants.{Down, Outside}

abbrev pub fault_text : Fault → List ℕ
fault_text Down = codes "power is lost"
fault_text Outside = codes "the place is past the last word"
