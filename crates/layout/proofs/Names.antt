-- Letters and then zeros, byte by byte. Assumes nothing.
use Rattle.std.proofs.Common.{◌≡◌, ℕ, Bool, true, false, cond, List, [], ◌∷◌, length, get_or, drop, refl, arith}
use Rattle.std.proofs.lemmas.Bool.Decides.{nat_tests}
use Rattle.layout.specs.Names.{letter, zeros, letters_then_zeros, well_formed}

-- these bytes may end a name, after a zero or after letters only
abbrev pub ends : Bool → List ℕ → Bool
ends ended bs = cond ended (zeros bs) (letters_then_zeros bs)

pub ends-zero : (ended next : Bool) (b : ℕ) (bs : List ℕ) → b ≡ 0 → next ≡ true → ends next bs ≡ ends ended (b ∷ bs)
ends-zero ended next b bs e n = grind (arith, nat_tests)

pub ends-letter : (ended next : Bool) (b : ℕ) (bs : List ℕ) → (b ≡ 0 → ⊥) → ended ≡ false → letter b ≡ true → next ≡ ended → ends next bs ≡ ends ended (b ∷ bs)
ends-letter ended next b bs ne e l n = grind (arith, nat_tests)

pub ends-none : (ended : Bool) → ends ended [] ≡ true
ends-none true = refl
ends-none false = refl

-- of eight bytes that begin with a letter, the other seven decide
pub formed : (bs : List ℕ) → length bs ≡ 8 → letter (get_or bs 0 0) ≡ true → well_formed bs ≡ letters_then_zeros (drop 1 bs)
formed [] long l = grind (arith, nat_tests)
formed (b ∷ bs) long l = grind (arith, nat_tests)
