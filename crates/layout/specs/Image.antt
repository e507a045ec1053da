-- The image: how the words of a memory hold the files. A block is 32 words; block b is the words from 32 * b.
use Rattle.std.specs.Prelude.{◌≡◌, ℕ, ◌+◌, ◌*◌, ◌/◌, ◌%◌, ◌^◌, ◌<◌, ◌≤◌, Bool, true, cond, not, ◌&&◌, ◌⊎◌, List, [], ◌∷◌, map, ◌==◌, ◌≢◌}
use Rattle.std.specs.List.{range_with_len, flat_map}
use Rattle.memory.specs.Bytes.{byte_of, bytes_of}
use Rattle.memory.specs.Stores.{Words}
use Rattle.layout.specs.Lists.{distinct}
use Rattle.layout.specs.Names.{well_formed}
use Rattle.layout.specs.Touch.{blocks_for}
use Rattle.layout.specs.Table.{File, Table}

-- the same words, in a memory of n blocks
abbrev pub Same : ℕ → Words → Words → Type 0
Same n w v = (i : ℕ) → i < 32 * n → v i ≡ w i

-- word j of block b
abbrev pub in_block : Words → ℕ → ℕ → ℕ
in_block w b j = w (32 * b + j)

-- The directory is block 2: for each of sixteen slots a name word and a root word. The slot is empty where the name word is zero.
abbrev pub slots : List ℕ
slots = range_with_len 0 16

abbrev pub name_word : Words → ℕ → ℕ
name_word w s = in_block w 2 (2 * s)

abbrev pub root_word : Words → ℕ → ℕ
root_word w s = in_block w 2 (2 * s + 1)

abbrev pub named : Words → ℕ → Bool
named w s = not (name_word w s == 0)

abbrev pub name_of : Words → ℕ → List ℕ
name_of w s = bytes_of (name_word w s)

-- A root word: the lowest sixteen bits are the map's block, the upper half is the length. An empty file has the root word zero.
abbrev pub map_of : ℕ → ℕ
map_of root = root % 2 ^ 16

abbrev pub length_of : ℕ → ℕ
length_of root = root / 2 ^ 32

-- the root word of a file cut to that length
abbrev pub short_root : ℕ → ℕ → ℕ
short_root root len = cond (len == 0) 0 (map_of root + 2 ^ 32 * len)

-- word k of the map is the number of block k of the file; only as many words count as the length calls for
abbrev pub file_blocks : Words → ℕ → List ℕ
file_blocks w root = map (in_block w (map_of root)) (range_with_len 0 (blocks_for (length_of root)))

-- the blocks of a slot: its map and its file blocks; none for an empty slot or an empty file
abbrev pub slot_blocks : Words → ℕ → List ℕ
slot_blocks w s = cond (named w s && not (root_word w s == 0)) (map_of (root_word w s) ∷ file_blocks w (root_word w s)) []

-- every block that is used, as often as it is used
abbrev pub used_blocks : Words → List ℕ
used_blocks w = flat_map (slot_blocks w) slots

-- byte k of a file, and all of them
abbrev pub file_byte : Words → ℕ → ℕ → ℕ
file_byte w root k = byte_of (in_block w (in_block w (map_of root) (k / 256)) (k % 256 / 8)) (k % 8)

abbrev pub file_bytes : Words → ℕ → List ℕ
file_bytes w root = map (file_byte w root) (range_with_len 0 (length_of root))

-- the files: the named slots, in order
abbrev pub slot_files : Words → ℕ → List File
slot_files w s = cond (named w s) (record { name = name_of w s; bytes = file_bytes w (root_word w s) } ∷ []) []

abbrev pub files_of : Words → List File
files_of w = flat_map (slot_files w) slots

abbrev pub table_of : Words → Table
table_of w = record { blocks = w 0; files = files_of w }

-- The image rules, for a memory of n blocks.

-- word 0 is the count of blocks
abbrev pub Rule1 : ℕ → Words → Type 0
Rule1 n w = w 0 ≡ n

-- names are well formed and differ
pub record Rule2 (w : Words) : Type 0 where
  pub formed : (s : ℕ) → s < 16 → named w s ≡ true → well_formed (name_of w s) ≡ true
  pub differ : (s u : ℕ) → s < u → u < 16 → named w s ≡ true → name_of w s ≢ name_of w u

-- a block that may hold a map or file bytes
abbrev pub DataBlock : ℕ → ℕ → Type 0
DataBlock n b = (3 ≤ b) × (b < n)

abbrev pub GoodRoot : ℕ → ℕ → Type 0
GoodRoot n root = (root ≡ 0) ⊎ ((root / 2 ^ 16 % 2 ^ 16 ≡ 0) × DataBlock n (map_of root) × (1 ≤ length_of root) × (length_of root ≤ 8192))

-- the root word of a named slot is zero, or has a map block and a length
abbrev pub Rule3 : ℕ → Words → Type 0
Rule3 n w = (s : ℕ) → s < 16 → named w s ≡ true → GoodRoot n (root_word w s)

-- the map words that count are data blocks
abbrev pub Rule4 : ℕ → Words → Type 0
Rule4 n w = (s k : ℕ) → s < 16 → named w s ≡ true → k < blocks_for (length_of (root_word w s)) → DataBlock n (in_block w (map_of (root_word w s)) k)

-- no block is used twice
abbrev pub Rule5 : Words → Type 0
Rule5 w = distinct (used_blocks w) ≡ true
