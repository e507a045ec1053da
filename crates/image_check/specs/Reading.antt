-- Reading: loads alone, which store nothing.
use Rattle.std.specs.Prelude.{◌≡◌, ◌⊎◌, true, false, Ok, Err, Result}
use Rattle.memory.specs.Model.{Model, Fewer, SameSeen, WentDown}
use Rattle.image_check.specs.declared.refusal.Refusal.{Refusal}
use Rattle.image_check.specs.declared.refusal.Refusal.TheVariants.{PowerLost}

-- power lasted, every value seen is as before, and no word gained a candidate
pub record Looked (m n : Model) : Type 0 where
  pub was-up : m.up ≡ true
  pub up : n.up ≡ true
  pub seen : SameSeen m n
  pub fewer : Fewer m n

-- power was lost, and no word gained a candidate; without power at the start nothing changed
pub record LookedDown (m n : Model) : Type 0 where
  pub down : WentDown m n
  pub still : m.up ≡ false → n ≡ m

-- nothing was done since, or there were loads alone and power lasted
abbrev pub Since : Model → Model → Type 0
Since m n = (n ≡ m) ⊎ Looked m n

-- an answer of which P holds, or power was lost
abbrev pub Reads : {X : Type 0} → Model → (X → Type 0) → Result X Refusal → Model → Type 0
Reads m P (Ok x) n = Looked m n × P x
Reads m P (Err e) n = LookedDown m n × (e ≡ PowerLost)
