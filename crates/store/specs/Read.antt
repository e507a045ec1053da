-- What a read leaves in the memory and in its buffer.
use Rattle.std.specs.Prelude.{◌≡◌, ℕ, ◌+◌, ◌*◌, ◌/◌, ◌%◌, ◌<◌, ◌≤◌, ◌⊎◌, List, map, length, replicate, Ok, Err, Result}
use Rattle.std.specs.List.{range_with_len}
use Rattle.memory.specs.Bytes.{byte_of}
use Rattle.memory.specs.Model.{Model}
use Rattle.memory.specs.Stores.{Words}
use Rattle.layout.specs.Image.{in_block, table_of}
use Rattle.layout.specs.Table.{buffer}
use Rattle.layout.specs.declared.root.Root.{Root}
use Rattle.image_check.specs.Check.{MapGood}
use Rattle.image_check.specs.Reading.{Looked, LookedDown}
use Rattle.image_check.specs.declared.refusal.Refusal.{Refusal}

-- a root whose file the memory holds: its map and its blocks lie inside
pub record GoodFile (m : Model) (root : Root) : Type 0 where
  pub small : m.count ≤ 32 * 4096
  pub map : root.map < m.count / 32
  pub short : root.length ≤ 8192
  pub good : MapGood (m.count / 32) m.seen root.map root.length

-- byte k of the file whose map is block b
abbrev pub byte_at : Words → ℕ → ℕ → ℕ
byte_at w b k = byte_of (in_block w (in_block w b (k / 256)) (k % 256 / 8)) (k % 8)

-- n bytes of that file, from an offset on
abbrev pub bytes_from : Words → ℕ → ℕ → ℕ → List ℕ
bytes_from w b offset n = map (λ k. byte_at w b (offset + k)) (range_with_len 0 n)

-- nothing was stored
abbrev pub Quiet : Model → Model → Type 0
Quiet m n = (n ≡ m) ⊎ Looked m n ⊎ LookedDown m n

-- Done, the buffer has what the file gave, and then zeros; refused, it has zeros alone.
abbrev pub Filled : Model → List ℕ → ℕ → Result ℕ Refusal → List ℕ → List ℕ → Type 0
Filled m name offset (Ok given) old new = new ≡ buffer (table_of m.seen) name offset (length old)
Filled m name offset (Err e) old new = new ≡ replicate (length old) 0

-- the same, but for a refusal that may leave anything
abbrev pub Given : Model → List ℕ → ℕ → Result ℕ Refusal → List ℕ → List ℕ → Type 0
Given m name offset (Ok given) old new = new ≡ buffer (table_of m.seen) name offset (length old)
Given m name offset (Err e) old new = Unit {0}
