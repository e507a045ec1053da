-- The power of a bottom memory: it lasts until the cut point.
use Rattle.std.specs.Prelude.{ℕ, ◌-◌, Bool, false, cond, not, ◌&&◌, Some, None, Ok, Err, Option, Result, ◌==◌}
use Rattle.memory.specs.declared.fault.Fault.{Fault}
use Rattle.memory.specs.declared.fault.Fault.TheVariants.{Down, Outside}
use Rattle.media.specs.declared.power.Power.{Power}

-- no load, store or barrier is taken any more
abbrev pub reached : Option ℕ → Bool
reached None = false
reached (Some n) = n == 0

abbrev one_less : Option ℕ → Option ℕ
one_less None = None
one_less (Some n) = Some (n - 1)

-- the next load, store or barrier is taken
abbrev pub taken : Power → Bool
taken p = p.up && not (reached p.cut)

-- the power after a load, a store or a barrier
abbrev pub spent : Power → Power
spent p = cond p.up (record { up = taken p; cut = one_less p.cut }) p

-- what is answered at a place inside or past the last word, and the power then
abbrev pub answer : {X : Type 0} → Power → Bool → X → Result X Fault
answer p inside x = cond p.up (cond inside (cond (taken p) (Ok x) (Err Down)) (Err Outside)) (Err Down)

abbrev pub power_after : Power → Bool → Power
power_after p inside = cond inside (spent p) p
