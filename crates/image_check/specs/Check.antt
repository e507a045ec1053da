-- The parts of the image check, over words as code holds them.
use Rattle.std.specs.Prelude.{◌≡◌, ℕ, ◌+◌, ◌/◌, ◌%◌, ◌^◌, ◌<◌, ◌≤◌, Bool, true, false, ◌⊎◌, List, Ok, Err, Result, ◌≢◌}
use Rattle.std.specs.Coded.{Coded-set, coded_ℕ, le_prop, Π_prop}
use Rattle.std.proofs.Common.{ap, subst, inl, inr, not-suc-le-zero}
use Rattle.memory.specs.Bytes.{bytes_of}
use Rattle.memory.specs.Model.{Model}
use Rattle.memory.specs.Stores.{Words}
use Rattle.layout.specs.BlockSet.{has}
use Rattle.layout.specs.Image.{GoodRoot, DataBlock, in_block, map_of, length_of, file_blocks, used_blocks}
use Rattle.layout.specs.Lists.{member, distinct}
use Rattle.layout.specs.Log.{no_piece, piece_of, Sound, FirstBroken}
use Rattle.layout.specs.Names.{well_formed}
use Rattle.layout.specs.Touch.{blocks_for}
use Rattle.layout.specs.declared.block_set.BlockSet.{BlockSet}
use Rattle.image_check.specs.Answers.{RefusedBy}
use Rattle.image_check.specs.Directory.{Lists, slot_at}
use Rattle.image_check.specs.Size.{suits}
use Rattle.image_check.specs.Reading.{Looked, LookedDown}
use Rattle.image_check.specs.declared.image.Survey.{Survey}
use Rattle.image_check.specs.declared.directory.Directory.{Directory}
use Rattle.image_check.specs.declared.directory.Slot.{Slot}
use Rattle.image_check.specs.declared.refusal.Refusal.{Refusal}
use Rattle.image_check.specs.declared.refusal.Refusal.TheVariants.{WrongSize}

-- the bytes of a name word are well formed
pub record GoodName (word : ℕ) : Type 0 where
  pub formed : well_formed (bytes_of word) ≡ true

-- a slot is empty, or its name is well formed
abbrev pub NameGood : Slot → Type 0
NameGood s = (s.name ≢ 0) → GoodName s.name

-- so for each slot
abbrev pub Formed : Directory → Type 0
Formed d = (s : ℕ) → s < 16 → NameGood (slot_at d s)

-- the name in slot s stands in no later one
abbrev pub Single : Directory → ℕ → Type 0
Single d s = (u : ℕ) → s < u → u < 16 → bytes_of (slot_at d s).name ≢ bytes_of (slot_at d u).name

-- no name stands twice
abbrev pub Differ : Directory → Type 0
Differ d = (s : ℕ) → s < 16 → ((slot_at d s).name ≢ 0) → Single d s

-- a slot is empty, or its root word is good
abbrev pub RootGood : ℕ → Slot → Type 0
RootGood n s = (s.name ≢ 0) → GoodRoot n s.root

-- so for each slot
abbrev pub Rooted : ℕ → Directory → Type 0
Rooted n d = (s : ℕ) → s < 16 → RootGood n (slot_at d s)

-- it is so in one way at most: a map in block 3 or later is no root word zero
GoodRoot-prop : (n root : ℕ) → IsProp (GoodRoot n root)
GoodRoot-prop n root (inl a) (inl b) = ap inl (Coded-set coded_ℕ root 0 a b)
GoodRoot-prop n root (inl a) (inr b) = absurd (not-suc-le-zero (subst (λ x. 3 ≤ map_of x) a b.1.0))
GoodRoot-prop n root (inr a) (inl b) = absurd (not-suc-le-zero (subst (λ x. 3 ≤ map_of x) b a.1.0))
GoodRoot-prop n root (inr a) (inr b) = ap inr (λ i. (Coded-set coded_ℕ (root / 2 ^ 16 % 2 ^ 16) 0 a.0 b.0 i, (le_prop a.1.0 b.1.0 i, le_prop a.1.1 b.1.1 i), le_prop a.2 b.2 i, le_prop a.3 b.3 i))

pub Rooted-prop : (n : ℕ) (d : Directory) → IsProp (Rooted n d)
Rooted-prop n d = Π_prop (λ s. Π_prop (λ lt. Π_prop (λ some. GoodRoot-prop n (slot_at d s).root)))

-- the map words that count, of a map in block b for a file of that length, are data blocks
abbrev pub MapGood : ℕ → Words → ℕ → ℕ → Type 0
MapGood n w b len = (k : ℕ) → k < blocks_for len → DataBlock n (in_block w b k)

-- a set holds the blocks of a list
abbrev pub HasAll : BlockSet → List ℕ → Type 0
HasAll set xs = (b : ℕ) → has set b ≡ member b xs

-- a set holds the blocks of a list in which none stands twice
abbrev pub HasOnce : BlockSet → List ℕ → Type 0
HasOnce set xs = HasAll set xs × (distinct xs ≡ true)

-- a test gives true of some block of the file, or false of all
abbrev pub AnyBlock : (ℕ → Bool → Type 0) → Words → ℕ → Bool → Type 0
AnyBlock gives w root true = (k : ℕ) × (k < blocks_for (length_of root)) × gives (in_block w (map_of root) k) true
AnyBlock gives w root false = (k : ℕ) → k < blocks_for (length_of root) → gives (in_block w (map_of root) k) false

-- a piece of a file with that root word: none, or one to sixteen words that end inside a file block
abbrev pub PieceGood : Words → ℕ → ℕ → Type 0
PieceGood w root x =
    (no_piece x ≡ true)
    ⊎ (let p = piece_of x in (1 ≤ p.count) × (p.count ≤ 16) × (p.first + p.count ≤ 32) × (member p.block (file_blocks w root) ≡ true))

-- rule k, or a part of it, is tried: it holds, with an answer of which P does; or it fails, and the call is refused by it
abbrev pub Tries : {X : Type 0} → Model → ℕ → Type 0 → (X → Type 0) → Result X Refusal → Model → Type 0
Tries m k rule P (Ok x) n = Looked m n × rule × P x
Tries m k rule P (Err e) n = RefusedBy e (LookedDown m n) (λ j. Looked m n × (j ≡ k) × (rule → ⊥))

-- the image of a memory of that many blocks is sound, and the set has the blocks in use; or it is the first rule that fails
abbrev pub Checked : ℕ → Model → Result BlockSet Refusal → Model → Type 0
Checked blocks m (Ok set) n = Looked m n × Sound blocks m.seen × HasAll set (used_blocks m.seen)
Checked blocks m (Err e) n = RefusedBy e (LookedDown m n) (λ k. Looked m n × FirstBroken k blocks m.seen)

-- the image of such a memory is sound, with the words of its slots and its blocks in use; or it is the first rule that fails
abbrev pub Surveyed : ℕ → Model → Result Survey Refusal → Model → Type 0
Surveyed blocks m (Ok s) n = Looked m n × Sound blocks m.seen × Lists m.seen s.directory × HasAll s.used (used_blocks m.seen)
Surveyed blocks m (Err e) n = RefusedBy e (LookedDown m n) (λ k. Looked m n × FirstBroken k blocks m.seen)

-- What the image check answers. It stores nothing.
pub record Checks (m : Model) (r : Result BlockSet Refusal) (n : Model) : Type 0 where
  pub refused : suits m.count ≡ false → (r ≡ Err WrongSize) × (n ≡ m)
  pub taken : suits m.count ≡ true → Checked (m.count / 32) m r n

-- The same, with the words of the slots.
pub record Surveys (m : Model) (r : Result Survey Refusal) (n : Model) : Type 0 where
  pub refused : suits m.count ≡ false → (r ≡ Err WrongSize) × (n ≡ m)
  pub taken : suits m.count ≡ true → Surveyed (m.count / 32) m r n
