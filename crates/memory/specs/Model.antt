-- What a memory means: a fixed count of words, up or down; of each word the value seen, and its
-- candidates, the values that it may hold if power fails now. A place past the last word means nothing.
use Rattle.std.specs.Prelude.{◌≡◌, ℕ, ◌<◌, ◌≤◌, Bool, true, false, ◌⊎◌, List, [], ◌∷◌, Ok, Err, Result, ◌≢◌}
use Rattle.memory.specs.declared.fault.Fault.{Fault}
use Rattle.memory.specs.declared.fault.Fault.TheVariants.{Down, Outside}

pub record Model : Type 0 where
  pub count : ℕ
  pub up : Bool
  pub seen : ℕ → ℕ
  pub may : ℕ → List ℕ

-- v is in the list
abbrev pub In : ℕ → List ℕ → Type 0
In v [] = ⊥
In v (x ∷ xs) = (v ≡ x) ⊎ In v xs

-- each of xs is among ys
abbrev pub Among : List ℕ → List ℕ → Type 0
Among xs ys = (v : ℕ) → In v xs → In v ys

-- the count is fixed, and no word gained a candidate
pub record Fewer (m n : Model) : Type 0 where
  pub same_count : n.count ≡ m.count
  pub fewer : (i : ℕ) → i < m.count → Among (n.may i) (m.may i)

-- no value seen changed
abbrev pub SameSeen : Model → Model → Type 0
SameSeen m n = (i : ℕ) → i < m.count → n.seen i ≡ m.seen i

-- power is lost, and no word gained a candidate
pub record WentDown (m n : Model) : Type 0 where
  pub fewer : Fewer m n
  pub down : n.up ≡ false

-- no word can turn out to hold anything but what is seen
abbrev pub Settled : Model → Type 0
Settled m = (i : ℕ) → i < m.count → Among (m.may i) (m.seen i ∷ [])

-- the value seen is a candidate
abbrev pub SeenMay : Model → Type 0
SeenMay m = (i : ℕ) → i < m.count → In (m.seen i) (m.may i)

-- A load answers the value seen. Without power it answers down, and past the last word it answers outside;
-- neither changes anything.
abbrev pub Loaded : Model → ℕ → Result ℕ Fault → Model → Type 0
Loaded m i (Ok v) n = (m.up ≡ true) × (n.up ≡ true) × (i < m.count) × (v ≡ m.seen i) × SameSeen m n × Fewer m n
Loaded m i (Err Outside) n = (m.up ≡ true) × (m.count ≤ i) × (n ≡ m)
Loaded m i (Err Down) n = WentDown m n × (m.up ≡ true → i < m.count) × (m.up ≡ false → n ≡ m)

-- a store of v at i: the candidates of i gain v at most, those of the others can only become fewer
pub record StoreKept (m : Model) (i v : ℕ) (n : Model) : Type 0 where
  pub same_count : n.count ≡ m.count
  pub here : Among (n.may i) (v ∷ m.may i)
  pub elsewhere : (j : ℕ) → j < m.count → (j ≢ i) → Among (n.may j) (m.may j)

-- a store of v at i made v the value seen there, and changed no other
pub record StoreSeen (m : Model) (i v : ℕ) (n : Model) : Type 0 where
  pub here : n.seen i ≡ v
  pub elsewhere : (j : ℕ) → j < m.count → (j ≢ i) → n.seen j ≡ m.seen j

-- A store. If power is lost in it, its value may or may not be there.
abbrev pub Stored : Model → ℕ → ℕ → Result Unit Fault → Model → Type 0
Stored m i v (Ok _) n = (m.up ≡ true) × (n.up ≡ true) × (i < m.count) × StoreSeen m i v n × StoreKept m i v n
Stored m i v (Err Outside) n = (m.up ≡ true) × (m.count ≤ i) × (n ≡ m)
Stored m i v (Err Down) n = (n.up ≡ false) × StoreKept m i v n × (m.up ≡ true → i < m.count) × (m.up ≡ false → n ≡ m)

-- A barrier leaves each word its value seen for its only candidate.
abbrev pub Flushed : Model → Result Unit Fault → Model → Type 0
Flushed m (Ok _) n = (m.up ≡ true) × (n.up ≡ true) × SameSeen m n × Fewer m n × Settled n
Flushed m (Err Down) n = WentDown m n × (m.up ≡ false → n ≡ m)
Flushed m (Err Outside) n = ⊥

-- A restart answers whether there is power then. If so, each word has settled on a candidate that it had; if not, none gained one.
abbrev pub Restarted : Model → Bool → Model → Type 0
Restarted m true n = (n.up ≡ true) × (n.count ≡ m.count) × ((i : ℕ) → i < m.count → In (n.seen i) (m.may i)) × Settled n
Restarted m false n = WentDown m n
