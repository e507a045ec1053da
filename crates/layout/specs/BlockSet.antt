-- A set of blocks, one bit for each of 4,096.
use Rattle.std.specs.Prelude.{ℕ, ◌/◌, ◌%◌, ◌^◌, Bool, ◌&&◌, ◌==◌, nat_lt, slice_index}
use Rattle.layout.specs.declared.block_set.BlockSet.{BlockSet}

-- block b is in the set: bit b mod 64 of word b / 64 is one
abbrev pub has : BlockSet → ℕ → Bool
has s b = nat_lt b 4096 && slice_index s.words (b / 64) / 2 ^ (b % 64) % 2 == 1
