-- A life: what a store was asked once format was done, what it answered, and what the memory then was.
use Rattle.std.specs.Prelude.{◌≡◌, ℕ, ◌/◌, Bool, true, false, ◌||◌, ◌⊎◌, List, [], ◌∷◌, map, reverse, replicate, ◌==◌}
use Rattle.memory.specs.Model.{Model}
use Rattle.layout.specs.Image.{Rule5}
use Rattle.layout.specs.Log.{HoldsFiles}
use Rattle.layout.specs.Table.{Table, Ask, create, write, read, shorten, rename, remove, Reply, refuse, answer, after, buffer}
use Rattle.life.specs.Asked.{Asked, restart, recover, file}

-- one call: what was asked, the answer, the read buffer, and the memory at the return
pub record Event : Type 0 where
  pub asked : Asked
  pub reply : Reply
  pub buffer : List ℕ
  pub memory : Model

abbrev pub is_done : Reply → Bool
is_done r = r.number == 0

-- the store is ready: recovered, and not restarted since; the newest event stands first
abbrev pub ready_after : Asked → Bool → Bool → Bool
ready_after restart done before = false
ready_after recover done before = done || before
ready_after (file a) done before = before

abbrev pub ready : List Event → Bool
ready [] = false
ready (e ∷ es) = ready_after e.asked (is_done e.reply) (ready es)

-- the memory as the last call left it
abbrev pub latest : Model → List Event → Model
latest m [] = m
latest m (e ∷ es) = e.memory

-- the image seen holds the table's files, each with exactly its blocks, and no block is used twice
abbrev pub Stands : Event → Table → Type 0
Stands e t = HoldsFiles e.memory.seen t × Rule5 e.memory.seen

-- power was lost
abbrev pub Cut : Event → Type 0
Cut e = (e.reply ≡ refuse 1) × (e.memory.up ≡ false)

-- the whole buffer of a read is the table's; cut off, it is zero
abbrev pub Shows : Table → Ask → List ℕ → Type 0
Shows t (create n) bytes = Unit {0}
Shows t (write n offset bs) bytes = Unit {0}
Shows t (read n offset count) bytes = bytes ≡ buffer t n offset count
Shows t (shorten n len) bytes = Unit {0}
Shows t (rename n m) bytes = Unit {0}
Shows t (remove n) bytes = Unit {0}

abbrev pub Blank : Ask → List ℕ → Type 0
Blank (create n) bytes = Unit {0}
Blank (write n offset bs) bytes = Unit {0}
Blank (read n offset count) bytes = bytes ≡ replicate count 0
Blank (shorten n len) bytes = Unit {0}
Blank (rename n m) bytes = Unit {0}
Blank (remove n) bytes = Unit {0}

-- A file call takes table t to table u: cut off, it counts wholly or not at all; any other answer is the table's, and so is the buffer of a read.
abbrev pub FileTakes : Table → Ask → Event → Table → Type 0
FileTakes t a e u =
    (Cut e × Blank a e.buffer × ((u ≡ t) ⊎ (u ≡ after t a)))
    ⊎ ((e.reply ≡ answer t a) × Shows t a e.buffer × (u ≡ after t a) × (is_done e.reply ≡ true → Stands e u))

-- A recovery is done or cut off, and never finds the image bad.
abbrev pub RecoverTakes : Table → Event → Table → Type 0
RecoverTakes t e u = (u ≡ t) × (Cut e ⊎ ((is_done e.reply ≡ true) × Stands e u))

-- A restart finds power or does not.
abbrev pub RestartTakes : Table → Event → Table → Type 0
RestartTakes t e u = (u ≡ t) × (Cut e ⊎ ((is_done e.reply ≡ true) × (e.memory.up ≡ true)))

-- A call that the state does not allow is answered by 10, and the memory m stays as it was.
abbrev pub NotAllowed : Model → Table → Event → Table → Type 0
NotAllowed m t e u = (u ≡ t) × (e.reply ≡ refuse 10) × (e.memory ≡ m)

abbrev pub Takes : Model → Table → Bool → Asked → Event → Table → Type 0
Takes m t true restart e u = RestartTakes t e u
Takes m t false restart e u = RestartTakes t e u
Takes m t true recover e u = NotAllowed m t e u
Takes m t false recover e u = RecoverTakes t e u
Takes m t true (file a) e u = FileTakes t a e u
Takes m t false (file a) e u = NotAllowed m t e u

-- From a memory m that holds table t, there is a choice for each call that was cut off by which the table explains every event.
pub data Explained (m : Model) (t : Table) : List Event → Table → Type 0 where
  begins : Explained m t [] t
  goes_on : {es : List Event} {u v : Table} (e : Event) → Explained m t es u → Takes (latest m es) u (ready es) e.asked e v → Explained m t (e ∷ es) v

-- a table with no files
abbrev pub empty : ℕ → Table
empty blocks = record { blocks = blocks; files = [] }

-- The whole of it: the calls that were told are those of the list, in their order, and one choice explains them all.
pub record Lived (m : Model) (calls : List Asked) (events : List Event) : Type 0 where
  pub all : map (λ (e : Event). e.asked) (reverse events) ≡ calls
  pub choice : (t : Table) × Explained m (empty (m.count / 32)) events t
