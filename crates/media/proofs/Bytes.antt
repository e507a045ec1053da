-- A word and its bytes.
use Rattle.std.proofs.Common.{◌≡◌, ℕ, zero, suc, ◌+◌, ◌*◌, ◌^◌, ◌<◌, ◌≤◌, List, [], ◌++◌, length, get_or, take, drop, sym, refl, ap, ◌∙◌, ⊎_elim, arith}
use borrow.Rule.Slice.PartMut.{put_mid}
use Rattle.std.specs.Int.{from_le_bytes, w64}
use Rattle.std.specs.Simd.{first_chunks}
use Rattle.std.proofs.lemmas.List.{at_drop_more, drop-take, drop_at, drop-drop, length-take-le, length-append, length-drop, take_all}
use Rattle.std.proofs.lemmas.Slice.{take-put_mid_below, drop-put_mid}
use Rattle.std.proofs.lemmas.Bool.{cases_lt}
use Rattle.memory.specs.Bytes.{little_endian, word_at, bytes_of}
use Rattle.media.specs.ByteImage.{words_in, with_word}

-- the lowest of n + 1 bytes, and the rest
lowest : (bs : List ℕ) (i n : ℕ) → i < length bs → little_endian (take (suc n) (drop i bs)) ≡ get_or bs i 0 + 256 * little_endian (take n (drop (i + 1) bs))
lowest bs i n h = at_drop_more (λ xs. little_endian (take (suc n) xs)) bs i 0 h

-- eight bytes read as one number
bytes-read : (ys : List ℕ) → length ys ≡ 8 → from_le_bytes w64 ys ≡ little_endian ys
bytes-read ys e =
    let byte0 = lowest ys 0 7 (omega arith) in
    let byte1 = lowest ys 1 6 (omega arith) in
    let byte2 = lowest ys 2 5 (omega arith) in
    let byte3 = lowest ys 3 4 (omega arith) in
    let byte4 = lowest ys 4 3 (omega arith) in
    let byte5 = lowest ys 5 2 (omega arith) in
    let byte6 = lowest ys 6 1 (omega arith) in
    let byte7 = lowest ys 7 0 (omega arith) in
    let all : take 8 ys ≡ ys = take_all 8 ys (omega arith) in
    omega (arith, ap little_endian all)

-- of a run of bytes in eights, the eight at i make word i
chunk-at : (k : ℕ) (bs : List ℕ) (i : ℕ) (d : List ℕ) → i < k → get_or (first_chunks 8 k bs) i d ≡ take 8 (drop (8 * i) bs)
chunk-at zero bs i d h = absurd (omega arith)
chunk-at (suc k) bs zero d h = refl
chunk-at (suc k) bs (suc i) d h =
    let next : 8 + 8 * i ≡ 8 * suc i = omega arith in
    chunk-at k (drop 8 bs) i d (omega arith) ∙ ap (take 8) (drop-drop (8 * i) 8 bs ∙ ap (λ n. drop n bs) next)

-- word i is read from the eight bytes at i
pub word-read : (bs : List ℕ) (i : ℕ) (words : List (List ℕ)) → i < words_in bs → words ≡ first_chunks 8 (words_in bs) bs → from_le_bytes w64 (get_or words i []) ≡ word_at bs i
word-read bs i words h e =
    let eight = length-take-le 8 (drop (8 * i) bs) (omega (arith, length-drop (8 * i) bs)) in
    let same = ap (λ ws. get_or ws i []) e ∙ chunk-at (words_in bs) bs i [] h in
    ap (from_le_bytes w64) same ∙ bytes-read (take 8 (drop (8 * i) bs)) eight

-- the bytes of a word make the word
whole : (v : ℕ) → v < 2 ^ 64 → little_endian (bytes_of v) ≡ v
whole v h = omega arith

-- eight bytes written at word i store that word
pub word-written : (bs : List ℕ) (i v k : ℕ) (ys : List ℕ) → k ≡ 8 → ys ≡ bytes_of v → put_mid (8 * i) k bs ys ≡ with_word bs i v
word-written bs i v k ys e f = let past = drop-drop 8 (8 * i) bs in cc

-- the bytes before a stored word are unchanged
before : (bs : List ℕ) (i v : ℕ) → i < words_in bs → (n : ℕ) → n ≤ 8 * i → take n (with_word bs i v) ≡ take n bs
before bs i v h n le = rw (← word-written bs i v 8 (bytes_of v) refl refl) (take-put_mid_below (8 * i) 8 bs (bytes_of v) n le (omega arith))

-- from the word on there are its bytes, and then the bytes after it
from : (bs : List ℕ) (i v : ℕ) → i < words_in bs → drop (8 * i) (with_word bs i v) ≡ bytes_of v ++ drop (8 * i + 8) bs
from bs i v h = drop_at (take (8 * i) bs) _ (8 * i) (length-take-le (8 * i) bs (omega arith))

-- the bytes after it are unchanged
after : (bs : List ℕ) (i v : ℕ) → i < words_in bs → (n : ℕ) → 8 * i + 8 ≤ n → drop n (with_word bs i v) ≡ drop n bs
after bs i v h n le = rw (← word-written bs i v 8 (bytes_of v) refl refl) (drop-put_mid (8 * i) 8 bs (bytes_of v) n le (omega arith) refl)

-- a stored word leaves the length, is there, and leaves the other words
pub length-with_word : (bs : List ℕ) (i v : ℕ) → i < words_in bs → length (with_word bs i v) ≡ length bs
length-with_word bs i v h =
    let long : length (take (8 * i) bs) ≡ 8 * i = length-take-le (8 * i) bs (omega arith) in
    simp (length-append, length-drop) (omega arith)

pub word_at-same : (bs : List ℕ) (i v : ℕ) → i < words_in bs → v < 2 ^ 64 → word_at (with_word bs i v) i ≡ v
word_at-same bs i v h small = ap (λ xs. little_endian (take 8 xs)) (from bs i v h) ∙ whole v small

pub word_at-other : (bs : List ℕ) (i v j : ℕ) → i < words_in bs → (j ≡ i → ⊥) → word_at (with_word bs i v) j ≡ word_at bs j
word_at-other bs i v j h ne =
    ⊎_elim
    (λ below.
    let stored = with_word bs i v in
    let front = before bs i v h (8 * j + 8) (omega arith) in
    ap little_endian (sym (drop-take (8 * j) 8 stored) ∙ ap (drop (8 * j)) front ∙ drop-take (8 * j) 8 bs))
    (λ above. ap (λ xs. little_endian (take 8 xs)) (after bs i v h (8 * j) (omega arith)))
    (cases_lt j i)
