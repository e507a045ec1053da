-- The sizes of memory that the store takes. A block is 32 words.
use Rattle.std.specs.Prelude.{ℕ, ◌/◌, ◌%◌, Bool, ◌&&◌, ◌==◌, nat_le}

-- a count of words that makes 6 to 4,096 whole blocks
abbrev pub suits : ℕ → Bool
suits words = words % 32 == 0 && nat_le 6 (words / 32) && nat_le (words / 32) 4096
