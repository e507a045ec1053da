-- What a pile of layers means over its base memory.
use Rattle.std.specs.Prelude.{ℕ, ◌+◌}
use Rattle.memory.specs.Model.{Model, SeenMay}
use Rattle.waiting.specs.Waits.{waiting}
use Rattle.layers.specs.Layers.{cache_model, part_model, cache-seen-may, part-seen-may}
use Rattle.piles.specs.declared.pile.Pile.{Pile}
use Rattle.piles.specs.declared.pile.Pile.TheVariants.{Base, Cache', Part'}

abbrev pub pile_model : {M : Type 0} → (M → Model) → Pile M → Model
pile_model f (Base m) = f m
pile_model f (Cache' b below w) = cache_model (waiting w) (pile_model f below)
pile_model f (Part' b below run) = part_model run.first run.count (pile_model f below)

-- what is said of the base memory
abbrev pub at_base : {M X : Type 0} → (M → X) → Pile M → X
at_base f (Base m) = f m
at_base f (Cache' b below w) = at_base f below
at_base f (Part' b below run) = at_base f below

-- how many layers there are
abbrev pub depth : {M : Type 0} → Pile M → ℕ
depth (Base m) = 0
depth (Cache' b below w) = depth below + 1
depth (Part' b below run) = depth below + 1

-- the value seen is a candidate
pub pile-seen-may : {M : Type 0} (f : M → Model) → ((m : M) → SeenMay (f m)) → (p : Pile M) → SeenMay (pile_model f p)
pile-seen-may f h (Base m) = h m
pile-seen-may f h (Cache' b below w) = cache-seen-may (waiting w) (pile_model f below) (pile-seen-may f h below)
pile-seen-may f h (Part' b below run) = part-seen-may run.first run.count (pile_model f below) (pile-seen-may f h below)
