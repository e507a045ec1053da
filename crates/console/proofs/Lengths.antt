-- How long the parts of a line are. Assumes nothing.
use Rattle.std.proofs.Common.{◌≡◌, ℕ, zero, suc, Bool, ◌&&◌, ◌==◌, ◌+◌, ◌-◌, ◌*◌, ◌/◌, ◌%◌, ◌<◌, ◌≤◌, true, ltb, leb, List, [], ◌∷◌, ◌++◌, length, slice_index, decimal, None, Option, refl, ap, ◌∙◌, inl, inr, arith}
use Rattle.std.proofs.lemmas.List.{length-append}
use Rattle.std.proofs.lemmas.Bool.{and_parts, cases_lt, eqb-true}
use Rattle.std.proofs.lemmas.Bool.Decides.{nat_tests}
use Rattle.std.proofs.lemmas.Fmt.{decimal_digit, length-decimal-le}
use Rattle.hex.specs.Hex.{IsBytes, encode_lower, encode_with, lower_digits}
use Rattle.console.specs.Lines.{MayShow, answer_line, carried_part, hex, hex_digit, line, shown_part}

pub length-hex : (bs : List ℕ) → length (hex bs) ≡ 2 * length bs
length-hex [] = refl
length-hex (b ∷ bs) = omega (arith, length-hex bs)

-- the digit at each place of the table
abbrev same_digit : ℕ → Bool
same_digit d = slice_index lower_digits d == hex_digit d

abbrev all_same : ℕ → Bool
all_same zero = true
all_same (suc n) = same_digit n && all_same n

all_same-at : (n k : ℕ) → all_same n ≡ true → k < n → same_digit k ≡ true
all_same-at zero k h lt = absurd (omega arith)
all_same-at (suc n) k h lt =
    let parts = and_parts (same_digit n) (all_same n) h in
    elim (cases_lt k n) [
      | inl below ↦ all_same-at n k parts.1 below
      | inr top ↦
          let e : k ≡ n = omega arith in
          rw e parts.0
    ]

digit : (d : ℕ) → d < 16 → slice_index lower_digits d ≡ hex_digit d
digit d lt = eqb-true (slice_index lower_digits d) (hex_digit d) (all_same-at 16 d refl lt)

-- what the digits of bytes are
pub hex-encoded : (bs : List ℕ) → IsBytes bs → encode_lower bs ≡ hex bs
unfolding encode_with
hex-encoded [] small = refl
hex-encoded (b ∷ bs) small =
    let high = digit (b / 16) (omega (arith, small 0)) in
    let low = digit (b % 16) (omega arith) in
    let rest = hex-encoded bs (λ i. small (suc i)) in
    cc

pub shown-some : (bs : List ℕ) → 0 < length bs → shown_part bs ≡ 32 ∷ hex bs
shown-some [] lt = absurd (omega arith)
shown-some (b ∷ bs) lt = refl

pub length-shown : (bs : List ℕ) → 0 < length bs → length (shown_part bs) ≡ 2 * length bs + 1
length-shown bs lt = ap length (shown-some bs lt) ∙ omega (arith, length-hex bs)

shown-few : (bs : List ℕ) → length (shown_part bs) ≤ 2 * length bs + 1
shown-few [] = omega arith
shown-few (b ∷ bs) = omega (arith, length-hex bs)

pub length-line : (letter : ℕ) (a : ℕ) (o : Option ℕ) (bs : List ℕ)
    → length (answer_line letter a o bs) ≡ 3 + length (decimal a) + length (carried_part o) + length (shown_part bs)
length-line letter a o bs =
    let d = length-append (decimal a) (carried_part o ++ (shown_part bs ++ (10 ∷ []))) in
    let e = length-append (carried_part o) (shown_part bs ++ (10 ∷ [])) in
    let f = length-append (shown_part bs) (10 ∷ []) in
    omega arith

-- a line that shows bytes fits, by the bytes d of its number and v of the value carried
pub fits-shown : (letter : ℕ) (a : ℕ) (o : Option ℕ) (bs : List ℕ) (room d v : ℕ) → d ≡ length (decimal a) → v ≡ length (carried_part o) → 0 < length bs → 3 + d + v ≤ room
    → ltb (2 * length bs) (room - (3 + d + v)) ≡ leb (length (answer_line letter a o bs)) room
fits-shown letter a o bs room d v ed ev some le =
    let whole : length (answer_line letter a o bs) ≡ 3 + d + v + (2 * length bs + 1) = omega (arith, length-line letter a o bs, length-shown bs some) in
    grind (arith, nat_tests)

-- a line that shows what its answer may show takes 72 bytes at most
pub line-few : (letter : ℕ) (a : ℕ) (o : Option ℕ) (bs : List ℕ) → length (decimal a) ≤ 3 → length (carried_part o) ≤ 6 → MayShow a o (length bs) → length (answer_line letter a o bs) ≤ 72
line-few letter a o bs small short (inl none) = omega (arith, length-line letter a o bs, shown-few bs)
line-few letter a o bs small short (inr (done, count, few)) =
    let one : length (decimal a) ≡ 1 = ap (λ n. length (decimal n)) done ∙ ap length (decimal_digit 0 (omega arith)) in
    let three : length (carried_part o) ≡ suc (length (decimal (length bs))) = ap (λ v. length (carried_part v)) count in
    omega (arith, length-line letter a o bs, shown-few bs, length-decimal-le 2 (length bs) (omega arith) (omega arith) (omega arith))

pub short : (n : ℕ) → n < 256 → length (decimal n) ≤ 3
short n lt = length-decimal-le 3 n (omega arith) (omega arith) (omega arith)

-- a line that carries and shows nothing
pub plain-few : (letter number : ℕ) → number < 256 → length (line letter number) ≤ 72
plain-few letter number small = line-few letter number None [] (short number small) (omega arith) (inl refl)
