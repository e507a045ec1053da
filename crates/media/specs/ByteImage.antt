-- The byte image: the words lie in lent bytes, and a store is in the bytes at once.
use Rattle.std.specs.Prelude.{ℕ, ◌+◌, ◌*◌, ◌/◌, List, [], ◌∷◌, ◌++◌, length, take, drop}
use Rattle.memory.specs.Model.{Model}
use Rattle.memory.specs.Bytes.{word_at, bytes_of}
use Rattle.media.specs.declared.byte_image.ByteImage.{ByteImage}

-- the bytes that an image holds
abbrev pub held : ByteImage → List ℕ
held s = s.bytes.now

-- the whole words in the bytes
abbrev pub words_in : List ℕ → ℕ
words_in bytes = length bytes / 8

abbrev pub image_model : ByteImage → Model
image_model s = record {
  count = words_in (held s);
  up = s.power.up;
  seen = word_at (held s);
  may = λ i. word_at (held s) i ∷ [];
}

-- the bytes with a word stored
abbrev pub with_word : List ℕ → ℕ → ℕ → List ℕ
with_word bytes i v = take (8 * i) bytes ++ (bytes_of v ++ drop (8 * i + 8) bytes)
