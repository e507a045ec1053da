-- The empty set, and a block put into a set. Assumes nothing.
use Rattle.std.proofs.Common.{◌≡◌, ℕ, ◌*◌, ◌/◌, ◌%◌, ◌^◌, ◌<◌, false, ◌&&◌, ◌||◌, eqb, ltb, List, length, get_or, set, replicate, w64, arith}
use lib.Bits.{bit_or}
use Rattle.std.proofs.lemmas.List.{get_or-replicate, get_or-set_other}
use Rattle.std.proofs.lemmas.Grind.{get_or-set_at}
use Rattle.std.proofs.lemmas.Nat.Bits.{bit_at-zero, bit_at_set_same, bit_at_set_other}
use Rattle.std.proofs.lemmas.Bool.Decides.{nat_tests}
use Rattle.layout.specs.BlockSet.{has}

pub has-none : (b : ℕ) → has (record { words = replicate 64 0 }) b ≡ false
has-none b =
    let word = get_or-replicate {A = ℕ} 64 (b / 64) 0 0 in
    let bit = bit_at-zero (b % 64) in
    grind (arith, nat_tests)

-- the words with the bit of a block set
abbrev pub marked : List ℕ → ℕ → List ℕ
marked ws block = set ws (block / 64) (bit_or (get_or ws (block / 64) 0) (1 * 2 ^ (block % 64) % 2 ^ 64))

-- a block put into the set, and the others as they were
pub has-marked : (ws : List ℕ) (block b : ℕ) → length ws ≡ 64 → block < 4096 → has (record { words = marked ws block }) b ≡ (has (record { words = ws }) b || (eqb b block && ltb block 4096))
has-marked ws block b long small =
    let w = get_or ws (block / 64) 0 in
    let new = bit_or w (1 * 2 ^ (block % 64) % 2 ^ 64) in
    let same = get_or-set_at ws (block / 64) (b / 64) new 0 in
    let other = get_or-set_other ws (block / 64) (b / 64) new 0 in
    let bit = bit_at_set_same w64 w (block % 64) (omega arith) in
    let others = bit_at_set_other w64 w (block % 64) (omega arith) (b % 64) in
    grind (arith, nat_tests)
