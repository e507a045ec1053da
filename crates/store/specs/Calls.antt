-- What a file call answers, and what it leaves, for every memory and image.
use Rattle.std.specs.Prelude.{◌≡◌, ℕ, ◌/◌, ◌<◌, ◌≤◌, true, false, ◌⊎◌, List, [], ◌∷◌, Some, None, Ok, Err, Result, ◌≢◌}
use Rattle.memory.specs.Model.{Model, Settled}
use Rattle.memory.specs.Stores.{Words}
use Rattle.layout.specs.Image.{in_block, named, name_of, slot_blocks, table_of}
use Rattle.layout.specs.Lists.{member}
use Rattle.layout.specs.Log.{Clean, FirstBusy, HoldsFiles, LeadsToFiles}
use Rattle.layout.specs.Names.{well_formed}
use Rattle.layout.specs.Table.{Table, Ask, Reply, done, refuse, early, on, answer, after}
use Rattle.image_check.specs.Answers.{RefusedBy, rule_number}
use Rattle.image_check.specs.Directory.{Lists}
use Rattle.image_check.specs.Reading.{Looked, LookedDown}
use Rattle.image_check.specs.Size.{suits}
use Rattle.image_check.specs.declared.refusal.Refusal.{Refusal}
use Rattle.image_check.specs.declared.refusal.Refusal.TheVariants.{PowerLost, BadImage, BadName, NoFile, NameTaken, TooManyFiles, TooLong, WrongSize}
use Rattle.store.specs.Phase.{Drawn}
use Rattle.store.specs.declared.file.OpenFile.{OpenFile}

-- the reply that tells of a broken rule
abbrev pub broken : ℕ → Reply
broken k = record { number = 2; carries = k ∷ [] }

-- the reply of an answer: what it carries, or the number of the refusal
abbrev pub refused_reply : Refusal → Reply
refused_reply PowerLost = refuse 1
refused_reply (BadImage rule) = broken (rule_number rule)
refused_reply BadName = refuse 3
refused_reply NoFile = refuse 4
refused_reply NameTaken = refuse 5
refused_reply TooManyFiles = refuse 6
refused_reply TooLong = refuse 7
refused_reply WrongSize = refuse 9

abbrev pub reply : {X : Type 0} → (X → List ℕ) → Result X Refusal → Reply
reply carries (Ok x) = done (carries x)
reply carries (Err e) = refused_reply e

-- The call was cut off: from a settled memory whose image holds a table, whatever image is found leads to that
-- table or to the table after the call. A memory that was down before is unchanged.
pub record CallCut (blocks : ℕ) (m : Model) (a : Ask) (n : Model) : Type 0 where
  pub down : n.up ≡ false
  pub count : n.count ≡ m.count
  pub still : m.up ≡ false → n ≡ m
  pub leads : Settled m → Clean blocks m.seen → (t : Table) → HoldsFiles m.seen t → (v : Words) → Drawn n v → LeadsToFiles blocks v t ⊎ LeadsToFiles blocks v (after t a)

-- The call was done: the image seen holds the table after it, and the blocks of the other files are untouched.
pub record Changed (blocks : ℕ) (m : Model) (a : Ask) (n : Model) : Type 0 where
  pub up : n.up ≡ true
  pub count : n.count ≡ m.count
  pub clean : Clean blocks n.seen
  pub holds : HoldsFiles n.seen (after (table_of m.seen) a)
  pub settled : Settled m → Settled n
  pub others : (s b j : ℕ) → s < 16 → named m.seen s ≡ true → (name_of m.seen s ≢ on a) → member b (slot_blocks m.seen s) ≡ true → j < 32 → in_block n.seen b j ≡ in_block m.seen b j

-- The call was answered as the file table answers it. Refused, nothing was stored.
pub record Answered (blocks : ℕ) (m : Model) (a : Ask) (r : Reply) (n : Model) : Type 0 where
  pub was-up : m.up ≡ true
  pub clean : Clean blocks m.seen
  pub reply : r ≡ answer (table_of m.seen) a
  pub refused : (r.number ≢ 0) → Looked m n
  pub done : r.number ≡ 0 → Changed blocks m a n

-- Power was lost, or a rule of the image fails, or the call was answered.
abbrev pub Took : ℕ → Model → Ask → Reply → Model → Type 0
Took blocks m a r n =
    ((r ≡ refuse 1) × CallCut blocks m a n)
    ⊎ ((k : ℕ) × (r ≡ broken k) × Looked m n × FirstBusy k blocks m.seen)
    ⊎ Answered blocks m a r n

-- What a file call answers: first what its arguments call for, then the size of the memory.
pub record FileCall (m : Model) (a : Ask) (r : Reply) (n : Model) : Type 0 where
  pub wrong : (x : Reply) → early a ≡ Some x → (r ≡ x) × (n ≡ m)
  pub size : early a ≡ None → suits m.count ≡ false → (r ≡ refuse 9) × (n ≡ m)
  pub taken : early a ≡ None → suits m.count ≡ true → Took (m.count / 32) m a r n

-- A call that changes one slot of the directory: done, the memory is settled, and no word outside the directory is changed.
pub record SlotCall (m : Model) (a : Ask) (r : Reply) (n : Model) : Type 0 where
  pub call : FileCall m a r n
  pub settled : r.number ≡ 0 → Settled n
  pub only : r.number ≡ 0 → (i : ℕ) → i < m.count → (i < 64) ⊎ (96 ≤ i) → n.seen i ≡ m.seen i

-- the file of that name in an image: the words of the slots, and the slot that has the name
pub record FileOf (w : Words) (name : List ℕ) (f : OpenFile) : Type 0 where
  pub lists : Lists w f.directory
  pub named : named w f.slot ≡ true
  pub is : name_of w f.slot ≡ name

-- What a call finds in the image, of which P holds; or power was lost, or a rule fails, or no file has the name.
abbrev pub Opened : {X : Type 0} → ℕ → Model → (X → Type 0) → Type 0 → Result X Refusal → Model → Type 0
Opened blocks m P missing (Ok x) n = Looked m n × Clean blocks m.seen × P x
Opened blocks m P missing (Err e) n =
    RefusedBy e (LookedDown m n) (λ k. Looked m n × FirstBusy k blocks m.seen) ⊎ ((e ≡ NoFile) × Looked m n × Clean blocks m.seen × missing)

-- What a call on a name finds: first what the name calls for, then the size of the memory, then the image.
pub record Opens {X : Type 0} (m : Model) (name : List ℕ) (P : X → Type 0) (missing : Type 0) (r : Result X Refusal) (n : Model) : Type 0 where
  pub wrong : well_formed name ≡ false → (r ≡ Err BadName) × (n ≡ m)
  pub size : well_formed name ≡ true → suits m.count ≡ false → (r ≡ Err WrongSize) × (n ≡ m)
  pub taken : well_formed name ≡ true → suits m.count ≡ true → Opened (m.count / 32) m P missing r n
