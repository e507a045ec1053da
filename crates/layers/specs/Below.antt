-- What a call of a layer does to the memory below, which is b before the call and c after it.
use Rattle.std.specs.Prelude.{◌≡◌, ℕ, ◌+◌, ◌<◌, ◌≤◌, true, false, List, Some, None, Ok, Err, Result}
use Rattle.memory.specs.Model.{Model, Loaded, Stored, Flushed}
use Rattle.memory.specs.declared.fault.Fault.{Fault}
use Rattle.memory.specs.declared.word.Word.{Word}
use Rattle.waiting.specs.Waits.{waiting_value, leaving}
use Rattle.layers.specs.Layers.{part_model}
use Rattle.layers.specs.StoredAll.{StoredAll, unless_outside}
use Rattle.layers.specs.declared.part.Run.{Run}

-- ---- when the memory below is asked, and otherwise stays as it is

-- with power, at a place of the layer, which means m
abbrev pub Inside : {B : Type 0} → Model → ℕ → B → B → Type 0 → Type 0
Inside m i b c asked = (m.up ≡ true → i < m.count → asked) × (m.up ≡ false → c ≡ b) × (m.count ≤ i → c ≡ b)

-- of a cache: where no value waits for the place
abbrev pub Missed : {B : Type 0} → Model → List Word → ℕ → B → B → Type 0 → Type 0
Missed m ws i b c asked =
    Inside m i b c (((v : ℕ) → waiting_value ws i ≡ Some v → c ≡ b) × (waiting_value ws i ≡ None → asked))

-- of a cache: for the word that has to leave; the store below answers a
abbrev pub Leaves : {B : Type 0} → Model → List Word → ℕ → Result Unit Fault → B → B → (Word → Result Unit Fault → Type 0) → Type 0
Leaves m ws i r b c asked =
    Inside m i b c (((o : Word) → leaving ws i ≡ Some o → (a : Result Unit Fault) × asked o a × (r ≡ unless_outside a)) × (leaving ws i ≡ None → c ≡ b))

-- after stores that answered a and left the memory below as k; a fault is the answer r, and the memory below is asked no more
abbrev pub Next : {B : Type 0} → Result Unit Fault → Result Unit Fault → B → B → Type 0 → Type 0
Next (Ok _) r k c asked = asked
Next (Err f) r k c asked = (r ≡ Err f) × (c ≡ k)

-- ---- over any memory

-- a load of a part loads the word of the run from below
abbrev pub PartLoads : {B : Type 0} → (B → Model) → Run → B → ℕ → Result ℕ Fault → B → Type 0
PartLoads model run b i r c =
    Inside (part_model run.first run.count (model b)) i b c (Loaded (model b) (run.first + i) r (model c))

-- a store to a part stores to the word of the run below
abbrev pub PartStores : {B : Type 0} → (B → Model) → Run → B → ℕ → ℕ → Result Unit Fault → B → Type 0
PartStores model run b i v r c =
    Inside (part_model run.first run.count (model b)) i b c (Stored (model b) (run.first + i) v r (model c))

-- a load of a cache loads from below where no value waits for the place
abbrev pub CacheLoads : {B : Type 0} → (B → Model) → List Word → B → ℕ → Result ℕ Fault → B → Type 0
CacheLoads model ws b i r c = Missed (model b) ws i b c (Loaded (model b) i r (model c))

-- a store to a cache stores below the oldest word alone, where it has to leave
abbrev pub CacheStores : {B : Type 0} → (B → Model) → List Word → B → ℕ → Result Unit Fault → B → Type 0
CacheStores model ws b i r c =
    Leaves (model b) ws i r b c (λ o a. Stored (model b) o.at o.value a (model c))

-- a barrier of a cache with power stores the waiting words below in their order, and then there is a barrier below
abbrev pub CacheFlushes : {B : Type 0} → (B → Model) → List Word → B → Result Unit Fault → B → Type 0
CacheFlushes {B} model ws b r c =
    ((model b).up ≡ true → (a : Result Unit Fault) × (k : B) × StoredAll (model b) ws a (model k) × Next a r k c (Flushed (model k) r (model c))) × ((model b).up ≡ false → c ≡ b)
