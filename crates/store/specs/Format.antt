-- What format does to a memory. N is the count of blocks, of 32 words each.
use Rattle.std.specs.Prelude.{◌≡◌, ℕ, ◌/◌, ◌<◌, Bool, true, false, cond, ◌&&◌, ◌||◌, ◌⊎◌, List, [], ◌∷◌, ◌++◌, Ok, Err, Result, ◌==◌, ◌≢◌, nat_le, nat_lt}
use Rattle.memory.specs.Model.{Model, In, Settled}
use Rattle.memory.specs.Stores.{Words, word}
use Rattle.memory.specs.declared.word.Word.{Word}
use Rattle.image_check.specs.Size.{suits}
use Rattle.store.specs.Phase.{zeros, Drawn}
use Rattle.image_check.specs.declared.refusal.Refusal.{Refusal}
use Rattle.image_check.specs.declared.refusal.Refusal.TheVariants.{PowerLost, WrongSize}

-- the log state, word 8, and the sixteen slots, words 64 to 95
abbrev pub cleared : ℕ → Bool
cleared i = i == 8 || (nat_le 64 i && nat_lt i 96)

-- the phase that clears them
unfoldable pub clearing : List Word
clearing = word 8 0 ∷ zeros 64 32

-- the values that format stores in word i
abbrev pub stores : ℕ → ℕ → List ℕ
stores blocks i = cond (i == 0) (0 ∷ blocks ∷ []) (cond (cleared i) (0 ∷ []) [])

-- the image that format makes
abbrev pub formatted : ℕ → Words → Words
formatted blocks w i = cond (i == 0) blocks (cond (cleared i) 0 (w i))

-- every word but the first is as it might have been before
abbrev pub Untouched : Model → Words → Type 0
Untouched m w = (i : ℕ) → i < m.count → (i ≢ 0) → In (w i) (m.may i)

abbrev pub Cleared : Words → Type 0
Cleared w = (i : ℕ) → cleared i ≡ true → w i ≡ 0

-- format is done: the memory is up and settled, and holds the formatted image
pub record Formatted (blocks : ℕ) (m n : Model) : Type 0 where
  pub up : n.up ≡ true
  pub count : n.count ≡ m.count
  pub settled : Settled n
  pub seen : (i : ℕ) → i < m.count → n.seen i ≡ formatted blocks m.seen i

-- format is cut off: the memory is down, and each word holds a candidate from before or a value of format's;
-- one that was down before is unchanged.
-- In every image that may be found, nothing but word 0 was touched, or word 0 is zero, or it is the count of
-- blocks and the log state and the slots are clear.
pub record FormatCut (blocks : ℕ) (m n : Model) : Type 0 where
  pub down : n.up ≡ false
  pub still : m.up ≡ false → n ≡ m
  pub count : n.count ≡ m.count
  pub may : (i v : ℕ) → i < m.count → In v (n.may i) → In v (stores blocks i ++ m.may i)
  pub found : (w : Words) → Drawn n w → Untouched m w ⊎ (w 0 ≡ 0) ⊎ ((w 0 ≡ blocks) × Cleared w)

-- What format answers, and what it leaves.
pub record Formats (m : Model) (r : Result Unit Refusal) (n : Model) : Type 0 where
  pub refused : suits m.count ≡ false → (r ≡ Err WrongSize) × (n ≡ m)
  pub taken : suits m.count ≡ true → ((r ≡ Ok tt) × Formatted (m.count / 32) m n) ⊎ ((r ≡ Err PowerLost) × FormatCut (m.count / 32) m n)
