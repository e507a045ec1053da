-- Words stored in their order. One past the last word of the memory means nothing.
use Rattle.std.specs.Prelude.{◌≡◌, true, false, List, Ok, Err, Result}
use Rattle.memory.specs.Model.{Model}
use Rattle.memory.specs.Stores.{Made}
use Rattle.memory.specs.declared.fault.Fault.{Fault}
use Rattle.memory.specs.declared.fault.Fault.TheVariants.{Down, Outside}
use Rattle.memory.specs.declared.word.Word.{Word}

-- the answer of a store that means nothing past the last word
abbrev pub unless_outside : Result Unit Fault → Result Unit Fault
unless_outside (Ok x) = Ok x
unless_outside (Err Outside) = Ok tt
unless_outside (Err Down) = Err Down

abbrev pub StoredAll : Model → List Word → Result Unit Fault → Model → Type 0
StoredAll m ws (Ok _) n = Made m ws n × (m.up ≡ true → n.up ≡ true)
StoredAll m ws (Err Down) n = Made m ws n × (n.up ≡ false)
StoredAll m ws (Err Outside) n = ⊥
