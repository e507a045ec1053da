-- Names: one to eight letters, where digits and the hyphen count as letters, padded with zeros to eight bytes.
use Rattle.std.specs.Prelude.{ℕ, Bool, true, false, ◌&&◌, ◌||◌, List, [], ◌∷◌, length, ◌==◌, nat_le}

-- a capital letter, a digit or a hyphen
abbrev pub letter : ℕ → Bool
letter b = (nat_le 65 b && nat_le b 90) || (nat_le 48 b && nat_le b 57) || b == 45

abbrev pub zeros : List ℕ → Bool
zeros [] = true
zeros (b ∷ bs) = b == 0 && zeros bs

-- letters, and then zeros up to the end
abbrev pub letters_then_zeros : List ℕ → Bool
letters_then_zeros [] = true
letters_then_zeros (b ∷ bs) = (letter b && letters_then_zeros bs) || zeros (b ∷ bs)

abbrev pub well_formed : List ℕ → Bool
well_formed [] = false
well_formed (b ∷ bs) = length (b ∷ bs) == 8 && letter b && letters_then_zeros bs
