-- Lists: which numbers are in them, whether they differ, and the same items in another order.
use Rattle.std.specs.Prelude.{ℕ, Bool, true, false, cond, ◌&&◌, ◌||◌, List, [], ◌∷◌, ◌==◌}

-- x is one of the numbers
abbrev pub member : ℕ → List ℕ → Bool
member x [] = false
member x (y ∷ ys) = x == y || member x ys

-- no number stands twice
abbrev pub distinct : List ℕ → Bool
distinct [] = true
distinct (x ∷ xs) = cond (member x xs) false (distinct xs)

-- the two lists are the same
abbrev pub equal : List ℕ → List ℕ → Bool
equal [] [] = true
equal [] (y ∷ ys) = false
equal (x ∷ xs) [] = false
equal (x ∷ xs) (y ∷ ys) = x == y && equal xs ys

-- the same items in another order
pub data Rearranged {X : Type 0} : List X → List X → Type 0 where
  none : Rearranged [] []
  keep : {xs ys : List X} (x : X) → Rearranged xs ys → Rearranged (x ∷ xs) (x ∷ ys)
  swap : (x y : X) (xs : List X) → Rearranged (x ∷ y ∷ xs) (y ∷ x ∷ xs)
  again : {xs ys zs : List X} → Rearranged xs ys → Rearranged ys zs → Rearranged xs zs
