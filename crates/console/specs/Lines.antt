-- A line of a session: the letter of the command, a space and the number of the answer; a space and the value carried,
-- if there is one; a space and the bytes shown, if there are any; and a line feed. Numbers are in base ten, bytes in base sixteen.
use Rattle.std.specs.Prelude.{◌≡◌, ℕ, ◌+◌, ◌-◌, ◌/◌, ◌%◌, ◌<◌, ◌≤◌, cond, ◌⊎◌, List, [], ◌∷◌, ◌++◌, length, take, drop, Some, None, decimal, Option, nat_lt}

-- 0 to 9, then a to f
abbrev pub hex_digit : ℕ → ℕ
hex_digit d = cond (nat_lt d 10) (48 + d) (97 + (d - 10))

-- two digits to a byte, the high half first
abbrev pub hex : List ℕ → List ℕ
hex [] = []
hex (b ∷ bs) = hex_digit (b / 16) ∷ hex_digit (b % 16) ∷ hex bs

abbrev pub carried_part : Option ℕ → List ℕ
carried_part None = []
carried_part (Some v) = 32 ∷ decimal v

abbrev pub shown_part : List ℕ → List ℕ
shown_part [] = []
shown_part (b ∷ bs) = 32 ∷ hex (b ∷ bs)

abbrev pub answer_line : ℕ → ℕ → Option ℕ → List ℕ → List ℕ
answer_line letter number carried bytes = letter ∷ 32 ∷ (decimal number ++ (carried_part carried ++ (shown_part bytes ++ (10 ∷ []))))

-- the line of an answer that carries and shows nothing
abbrev pub line : ℕ → ℕ → List ℕ
line letter number = answer_line letter number None []

-- An answer shows no bytes; or it is done, and carries how many it shows, 32 at most.
abbrev pub MayShow : ℕ → Option ℕ → ℕ → Type 0
MayShow number carried n = (n ≡ 0) ⊎ ((number ≡ 0) × (carried ≡ Some n) × (n ≤ 32))

-- a buffer with a text written into it from a place on; the other bytes keep what they held
abbrev pub written : List ℕ → ℕ → List ℕ → List ℕ
written out at text = take at out ++ (text ++ drop (at + length text) out)

-- The whole text is written at the start of a buffer, and its length is answered; or it does not fit, and nothing is written.
pub record Writes (out text : List ℕ) (r : Option ℕ) (out' : List ℕ) : Type 0 where
  pub whole : length text ≤ length out → (r ≡ Some (length text)) × (out' ≡ written out 0 text)
  pub short : length out < length text → (r ≡ None) × (out' ≡ out)

-- A whole text is written at the start of a buffer, and its length is answered; or nothing is, and the buffer has fewer than 72 bytes.
abbrev pub Wrote : List ℕ → List ℕ → Option ℕ → List ℕ → Type 0
Wrote out text r out' =
    ((r ≡ Some (length text)) × (length text ≤ length out) × (out' ≡ written out 0 text))
    ⊎ ((r ≡ None) × (length out < 72) × (out' ≡ out))
