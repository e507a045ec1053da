-- A session that is served: it runs, on a fresh memory, the commands that were read.
use Rattle.std.specs.Prelude.{◌≡◌, ℕ, false, List, [], None, Option, IfSome, take, replicate, vec_items}
use Rattle.waiting.specs.Waits.{waiting}
use Rattle.media.specs.Cells.{both}
use Rattle.media.specs.declared.lagging.LaggingMemory.{LaggingMemory}
use Rattle.layers.specs.declared.cache.Cache.{Cache}
use Rattle.console.specs.Turns.{Runs}

-- a cache where nothing waits, over a lagging memory of 64 blocks, all zero, with given byte 85, no power and no cut point
abbrev pub Fresh : Cache LaggingMemory → Type 0
Fresh x =
    (waiting x.waiting ≡ [])
    × (vec_items x.below.cells ≡ replicate 2048 (both 0)) × (x.below.given ≡ 85) × (x.below.power ≡ record { up = false; cut = None })

-- of the bytes that a reader gives, at most 65,536 are read
abbrev pub ReadFrom : Option (List ℕ) → List ℕ → Type 0
ReadFrom known input = IfSome known (λ bytes. input ≡ take 65536 bytes)

-- first and tells of a session: turns one after another, by their lines, that leave the rest of what was read
module _ {S C : Type 0} (first : List ℕ → Option (C × List ℕ)) (tells : S → C → Cache LaggingMemory → List ℕ → S → Cache LaggingMemory → Type 0) where
  abbrev pub Serves : Option (List ℕ) → List (List ℕ) → S → S → List ℕ → Type 0
  Serves known texts s t rest =
      (input : List ℕ) × (x : Cache LaggingMemory) × (y : Cache LaggingMemory) × ReadFrom known input × Fresh x × Runs first tells texts s x input t y rest
