-- A phase: stores, and then a barrier. Every call stores in phases and in no other way.
use Rattle.std.specs.Prelude.{◌≡◌, ℕ, ◌+◌, ◌<◌, true, false, List, [], ◌∷◌, map, Ok, Err, Result}
use Rattle.std.specs.List.{range_with_len}
use Rattle.memory.specs.Model.{Model, In, Settled}
use Rattle.memory.specs.Stores.{Words, word, Made}
use Rattle.memory.specs.declared.word.Word.{Word}
use Rattle.image_check.specs.declared.refusal.Refusal.{Refusal}
use Rattle.image_check.specs.declared.refusal.Refusal.TheVariants.{PowerLost}

-- an image that may be found if power fails now
abbrev pub Drawn : Model → Words → Type 0
Drawn m w = (i : ℕ) → i < m.count → In (w i) (m.may i)

-- every place lies below n
abbrev pub Within : ℕ → List Word → Type 0
Within n [] = Unit {0}
Within n (s ∷ ss) = (s.at < n) × Within n ss

-- zero in each of n words from a
abbrev pub zeros : ℕ → ℕ → List Word
zeros a n = map (λ i. word i 0) (range_with_len a n)

-- the n words from one place copied to another
abbrev pub copies : Words → ℕ → ℕ → ℕ → List Word
copies w from to n = map (λ j. word (to + j) (w (from + j))) (range_with_len 0 n)

-- all of the stores were made, and power lasted
pub record AllMade (m : Model) (ss : List Word) (n : Model) : Type 0 where
  pub was-up : m.up ≡ true
  pub made : Made m ss n
  pub up : n.up ≡ true

-- power was lost in the stores: some were made, and no others, and none without power at the start
pub record CutIn (m : Model) (ss : List Word) (n : Model) : Type 0 where
  pub made : Made m ss n
  pub down : n.up ≡ false
  pub still : m.up ≡ false → n ≡ m

-- the stores were made, or power was lost in them
abbrev pub Storing : Model → List Word → Result Unit Refusal → Model → Type 0
Storing m ss (Ok _) n = AllMade m ss n
Storing m ss (Err e) n = CutIn m ss n × (e ≡ PowerLost)

-- the phase was done and settled, or power was lost in it
abbrev pub Persisted : Model → List Word → Result Unit Refusal → Model → Type 0
Persisted m ss (Ok _) n = AllMade m ss n × Settled n
Persisted m ss (Err e) n = CutIn m ss n × (e ≡ PowerLost)
