-- Worked cases, each with its outcome.
use Rattle.std.specs.Prelude.{◌≡◌, ℕ, Bool, true, false, cond, List, [], ◌∷◌, Some, None, Option, ◌==◌}
use Rattle.memory.specs.Stores.{Words, word, one, put}
use Rattle.layout.specs.Image.{root_word}
use Rattle.layout.specs.Log.{state, log_slot, follows, old_root, undoing, undone, recovered}

-- a recovery: the state of the log, the follow mark, whether the root word is still the old one, and whether the call is undone
pub data Case : Type 0 where
  recovery : ℕ → Option Bool → Option Bool → Bool → Case

-- the mark is as the case asks, or the case does not ask
abbrev pub Fits : Option Bool → Bool → Type 0
Fits None b = Unit {0}
Fits (Some x) b = b ≡ x

-- the case comes out so on every image: the pieces are put back or not, and the state is free
abbrev pub Right : Case → Type 0
Right (recovery st follow same undo) =
    (w : Words) → state w ≡ st → Fits follow (follows w) → Fits same (root_word w (log_slot w) == old_root w)
    → (undone w ≡ undo) × (recovered w ≡ one (word 8 0) (cond undo (put (undoing w) w) w))

abbrev pub Every : {X : Type 0} → (X → Type 0) → List X → Type 0
Every P [] = Unit {0}
Every P (x ∷ xs) = P x × Every P xs

abbrev pub cases : List Case
cases =
    recovery 1 None None true
    ∷ recovery 2 (Some false) None false
    ∷ recovery 2 (Some true) (Some true) true
    ∷ recovery 2 (Some true) (Some false) false
    ∷ []
