-- Bytes and words: a word has eight bytes, the lowest first.
use Rattle.std.specs.Prelude.{ℕ, ◌+◌, ◌*◌, ◌/◌, ◌%◌, ◌^◌, List, [], ◌∷◌, map, take, drop}
use Rattle.std.specs.List.{range_with_len}

-- the number that bytes write, the lowest first
abbrev pub little_endian : List ℕ → ℕ
little_endian [] = 0
little_endian (b ∷ bs) = b + 256 * little_endian bs

-- word i of a run of bytes
abbrev pub word_at : List ℕ → ℕ → ℕ
word_at bytes i = little_endian (take 8 (drop (8 * i) bytes))

-- byte k of a word
abbrev pub byte_of : ℕ → ℕ → ℕ
byte_of word k = word / 2 ^ (8 * k) % 256

-- the eight bytes of a word
abbrev pub bytes_of : ℕ → List ℕ
bytes_of word = map (byte_of word) (range_with_len 0 8)
