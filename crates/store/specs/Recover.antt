-- What recovery does to a memory of so many blocks.
use Rattle.std.specs.Prelude.{◌≡◌, ℕ, ◌+◌, ◌*◌, ◌/◌, ◌<◌, ◌≤◌, Bool, true, false, cond, List, [], Option, Some, None, Ok, Err, Result}
use Rattle.memory.specs.Model.{Model, Settled}
use Rattle.memory.specs.Stores.{Words}
use Rattle.memory.specs.declared.word.Word.{Word}
use Rattle.layout.specs.Log.{undoing, undone, puts_back, recovered, Sound, Clean, FirstBroken, HoldsFiles, LeadsToFiles}
use Rattle.layout.specs.Table.{Table}
use Rattle.layout.specs.declared.log.Piece.{Piece}
use Rattle.image_check.specs.Answers.{RefusedBy}
use Rattle.image_check.specs.Reading.{Looked}
use Rattle.image_check.specs.Size.{suits}
use Rattle.image_check.specs.declared.refusal.Refusal.{Refusal}
use Rattle.image_check.specs.declared.refusal.Refusal.TheVariants.{PowerLost, WrongSize}
use Rattle.store.specs.LogEntry.{Tells}
use Rattle.store.specs.declared.log_entry.LogEntry.{LogEntry}
use Rattle.store.specs.Phase.{Drawn, AllMade, CutIn}

-- Recovery is done: the image was sound and is recovered, the log is free, and the image holds the table that it led to.
-- A memory that was settled is settled again.
pub record RecoverDone (blocks : ℕ) (m : Model) (put : Bool) (n : Model) : Type 0 where
  pub was-up : m.up ≡ true
  pub sound : Sound blocks m.seen
  pub put_back : put ≡ puts_back m.seen
  pub up : n.up ≡ true
  pub count : n.count ≡ m.count
  pub seen : (i : ℕ) → i < m.count → n.seen i ≡ recovered m.seen i
  pub clean : Clean blocks n.seen
  pub holds : (t : Table) → LeadsToFiles blocks m.seen t → HoldsFiles n.seen t
  pub settled : Settled m → Settled n

-- Recovery is cut off: from a settled memory, whatever image is found leads to the table that the image led to.
pub record RecoverCut (blocks : ℕ) (m n : Model) : Type 0 where
  pub down : n.up ≡ false
  pub count : n.count ≡ m.count
  pub still : m.up ≡ false → n ≡ m
  pub leads : Settled m → (v : Words) → Drawn n v → (t : Table) → LeadsToFiles blocks m.seen t → LeadsToFiles blocks v t

abbrev pub Recovering : ℕ → Model → Result Bool Refusal → Model → Type 0
Recovering blocks m (Ok put) n = RecoverDone blocks m put n
Recovering blocks m (Err e) n = RefusedBy e (RecoverCut blocks m n) (λ k. Looked m n × FirstBroken k blocks m.seen)

-- What recovery answers, and what it leaves.
pub record Recovers (m : Model) (r : Result Bool Refusal) (n : Model) : Type 0 where
  pub refused : suits m.count ≡ false → (r ≡ Err WrongSize) × (n ≡ m)
  pub taken : suits m.count ≡ true → Recovering (m.count / 32) m r n

-- The steps of recovery.

-- a piece that can be put back: none, or words of a block past the first three that end inside it
abbrev pub Puttable : ℕ → Option Piece → Type 0
Puttable count None = Unit {0}
Puttable count (Some p) = (3 ≤ p.block) × (p.count ≤ 16) × (p.first + p.count ≤ 32) × (32 * p.block + 32 ≤ count)

-- the entry of a memory that is up, whose pieces can be put back
pub record Undoable (m : Model) (e : LogEntry) : Type 0 where
  pub up : m.up ≡ true
  pub size : 96 ≤ m.count
  pub tells : Tells m.seen e
  pub start : Puttable m.count e.start
  pub last : Puttable m.count e.end

-- what is put back before the log is freed
abbrev pub taken_back : Words → List Word
taken_back w = cond (undone w) (undoing w) []

-- it was put back, and the answer is whether there was any; or power was lost in that
abbrev pub TakenBack : Model → Result Bool Refusal → Model → Type 0
TakenBack m (Ok put) n = AllMade m (taken_back m.seen) n × (put ≡ puts_back m.seen) × (Settled m → Settled n)
TakenBack m (Err e) n = CutIn m (taken_back m.seen) n × (e ≡ PowerLost)
