-- Whether a layer takes a load or a store.
use Rattle.std.specs.Prelude.{ℕ, Bool, cond, Ok, Err, Result, nat_lt}
use Rattle.memory.specs.declared.fault.Fault.{Fault}
use Rattle.memory.specs.declared.fault.Fault.TheVariants.{Down, Outside}

-- at place i of a layer of so many words: none without power, and none past the last word
abbrev pub admitted : Bool → ℕ → ℕ → Result Unit Fault
admitted up i count = cond up (cond (nat_lt i count) (Ok tt) (Err Outside)) (Err Down)
