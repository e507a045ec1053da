-- What a call of a pile does in each of its layers; the pile is q after the call.
use Rattle.std.specs.Prelude.{◌≡◌, ℕ, ◌+◌, Bool, true, false, cond, List, [], ◌∷◌, is_ok, Ok, Result}
use Rattle.memory.specs.Model.{Model, Loaded, Stored, Flushed, Restarted}
use Rattle.memory.specs.declared.fault.Fault.{Fault}
use Rattle.memory.specs.declared.word.Word.{Word}
use Rattle.waiting.specs.Waits.{waiting, holding}
use Rattle.layers.specs.Below.{Inside, Missed, Leaves, Next}
use Rattle.layers.specs.Layers.{part_model}
use Rattle.piles.specs.Pile.{pile_model}
use Rattle.layers.specs.StoredAll.{unless_outside}
use Rattle.layers.specs.declared.part.Run.{Run}
use Rattle.piles.specs.declared.pile.Pile.{Pile}
use Rattle.piles.specs.declared.pile.Pile.TheVariants.{Base, Cache', Part'}

-- a pile is a base memory, a cache or a part, of which something is said
abbrev pub is_base : {M : Type 0} → Pile M → (M → Type 0) → Type 0
is_base (Base m) says = says m
is_base (Cache' b below w) says = ⊥
is_base (Part' b below run) says = ⊥

abbrev pub is_cache : {M : Type 0} → Pile M → (Pile M → List Word → Type 0) → Type 0
is_cache (Base m) says = ⊥
is_cache (Cache' b below w) says = says below (waiting w)
is_cache (Part' b below run) says = ⊥

abbrev pub is_part : {M : Type 0} → Pile M → (Pile M → Run → Type 0) → Type 0
is_part (Base m) says = ⊥
is_part (Cache' b below w) says = ⊥
is_part (Part' b below run) says = says below run

-- a load: what waits stays, and so does each run
abbrev pub PileLoads : {M : Type 0} → (M → Model) → Pile M → ℕ → Result ℕ Fault → Pile M → Type 0
PileLoads f (Base m) i r q = is_base q (λ n. Loaded (f m) i r (f n))
PileLoads f (Cache' b below w) i r q =
    is_cache q (λ c ws. (ws ≡ waiting w) × Missed (pile_model f below) (waiting w) i below c (PileLoads f below i r c))
PileLoads f (Part' b below run) i r q =
    is_part q (λ c kept. (kept ≡ run) × Inside (part_model run.first run.count (pile_model f below)) i below c (PileLoads f below (run.first + i) r c))

-- a store: the value waits in the uppermost cache, or is stored in the base memory; only the oldest word leaves a cache
abbrev pub PileStores : {M : Type 0} → (M → Model) → Pile M → ℕ → ℕ → Result Unit Fault → Pile M → Type 0
PileStores f (Base m) i v r q = is_base q (λ n. Stored (f m) i v r (f n))
PileStores f (Cache' b below w) i v r q =
    is_cache q (λ c ws. (ws ≡ cond (is_ok r) (holding (waiting w) i v) (waiting w)) × Leaves (pile_model f below) (waiting w) i r below c (λ o a. PileStores f below o.at o.value a c))
PileStores f (Part' b below run) i v r q =
    is_part q (λ c kept. (kept ≡ run) × Inside (part_model run.first run.count (pile_model f below)) i below c (PileStores f below (run.first + i) v r c))

-- stores of words in their order, up to a fault; one past the last word means nothing
abbrev pub PileStoresAll : {M : Type 0} → (M → Model) → Pile M → List Word → Result Unit Fault → Pile M → Type 0
PileStoresAll f p [] r q = (r ≡ Ok tt) × (q ≡ p)
PileStoresAll {M} f p (s ∷ ss) r q =
    (a : Result Unit Fault) × (k : Pile M) × PileStores f p s.at s.value a k × Next (unless_outside a) r k q (PileStoresAll f k ss r q)

-- a barrier: of a cache with power the waiting words are stored below, and then there is a barrier below; each run stays
abbrev pub PileFlushes : {M : Type 0} → (M → Model) → Pile M → Result Unit Fault → Pile M → Type 0
PileFlushes f p r (Base n) = is_base p (λ m. Flushed (f m) r (f n))
PileFlushes {M} f p r (Cache' d c u) =
    is_cache p (λ below ws. (is_ok r ≡ true → waiting u ≡ []) × ((pile_model f below).up ≡ true → (a : Result Unit Fault) × (k : Pile M) × PileStoresAll f below ws a k × Next a r k c (PileFlushes f k r c)) × ((pile_model f below).up ≡ false → c ≡ below))
PileFlushes f p r (Part' d c run) = is_part p (λ below was. (run ≡ was) × PileFlushes f below r c)

-- a restart: nothing waits any more, and each run stays
abbrev pub PileRestarts : {M : Type 0} → (M → Model) → Pile M → Bool → Pile M → Type 0
PileRestarts f (Base m) r q = is_base q (λ n. Restarted (f m) r (f n))
PileRestarts f (Cache' b below w) r q = is_cache q (λ c ws. (ws ≡ []) × PileRestarts f below r c)
PileRestarts f (Part' b below run) r q = is_part q (λ c kept. (kept ≡ run) × PileRestarts f below r c)
