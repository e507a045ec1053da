-- What the size test says. Assumes nothing.
use Rattle.std.proofs.Common.{◌≡◌, ℕ, ◌*◌, ◌/◌, ◌≤◌, Bool, true, false, cond, Some, None, refl, subst, arith}
use Rattle.std.proofs.lemmas.Bool.Decides.{nat_tests}
use Rattle.memory.specs.Model.{Model}
use Rattle.image_check.specs.Size.{suits}

size-suits : (words blocks : ℕ) → Some blocks ≡ cond (suits words) (Some (words / 32)) None → (suits words ≡ true) × (blocks ≡ words / 32)
size-suits words blocks h = go (suits words) h
  where
    go : (b : Bool) → Some blocks ≡ cond b (Some (words / 32)) None → (b ≡ true) × (blocks ≡ words / 32)
    go true e = (refl, cc)
    go false e = cc

pub size-taken : (m : Model) (words blocks : ℕ) → words ≡ m.count → Some blocks ≡ cond (suits words) (Some (words / 32)) None → (suits m.count ≡ true) × (blocks ≡ m.count / 32)
size-taken m words blocks e h = size-suits m.count blocks (subst (λ x. Some blocks ≡ cond (suits x) (Some (x / 32)) None) e h)

pub size-enough : (words : ℕ) → suits words ≡ true → 96 ≤ words
size-enough words h = grind (arith, nat_tests)

pub size-blocks : (words blocks : ℕ) → suits words ≡ true → blocks ≡ words / 32 → (6 ≤ blocks) × (blocks ≤ 4096) × (32 * blocks ≤ words)
size-blocks words blocks h e = (grind (arith, nat_tests), grind (arith, nat_tests), grind (arith, nat_tests))
