-- The log entry, in words 8 to 12, and what recovery makes of an image.
use Rattle.std.specs.Prelude.{◌≡◌, ℕ, ◌+◌, ◌*◌, ◌/◌, ◌%◌, ◌^◌, ◌<◌, ◌≤◌, Bool, true, cond, not, ◌&&◌, ◌||◌, ◌⊎◌, List, [], ◌∷◌, ◌++◌, map, length, ◌==◌, ◌≢◌}
use Rattle.std.specs.List.{range_with_len}
use Rattle.memory.specs.Stores.{Words, word, put}
use Rattle.memory.specs.declared.word.Word.{Word}
use Rattle.layout.specs.Lists.{member, Rearranged}
use Rattle.layout.specs.Touch.{called_for}
use Rattle.layout.specs.Table.{Table, find, used}
use Rattle.layout.specs.Image.{named, root_word, file_blocks, used_blocks, files_of, slot_blocks, length_of, Rule1, Rule2, Rule3, Rule4, Rule5}

-- word 8: 0 free, 1 commit, 2 checkpoint
abbrev pub state : Words → ℕ
state w = w 8

-- word 9: the lowest eight bits are the slot, and bit 8 is the follow mark
abbrev pub log_slot : Words → ℕ
log_slot w = w 9 % 2 ^ 8

abbrev pub follows : Words → Bool
follows w = w 9 / 2 ^ 8 % 2 == 1

-- word 10: the root word before the call
abbrev pub old_root : Words → ℕ
old_root w = w 10

-- words 11 and 12: the start and the end piece, in 32 bits; zero there is no piece
pub record Piece : Type 0 where
  pub block : ℕ
  pub first : ℕ
  pub count : ℕ

abbrev pub no_piece : ℕ → Bool
no_piece x = x % 2 ^ 32 == 0

abbrev pub piece_of : ℕ → Piece
piece_of x = record { block = x % 2 ^ 16; first = x / 2 ^ 16 % 2 ^ 8; count = x / 2 ^ 24 % 2 ^ 8 }

-- one to sixteen words, which end inside a file block of the slot
abbrev pub GoodPiece : Words → ℕ → Type 0
GoodPiece w x =
    (no_piece x ≡ true)
    ⊎ (let p = piece_of x in (1 ≤ p.count) × (p.count ≤ 16) × (p.first + p.count ≤ 32) × (member p.block (file_blocks w (root_word w (log_slot w))) ≡ true))

-- the state is at most 2, and an entry that is not free has a named slot and good pieces
pub record Rule6 (w : Words) : Type 0 where
  pub known : state w ≤ 2
  pub entry : (state w ≢ 0) → (log_slot w < 16) × (named w (log_slot w) ≡ true) × GoodPiece w (w 11) × GoodPiece w (w 12)

-- an image that recovery takes, for a memory of n blocks
pub record Sound (n : ℕ) (w : Words) : Type 0 where
  pub one : Rule1 n w
  pub two : Rule2 w
  pub three : Rule3 n w
  pub four : Rule4 n w
  pub five : Rule5 w
  pub six : Rule6 w

-- an image that a file call takes: the log is free too
pub record Clean (n : ℕ) (w : Words) : Type 0 where
  pub sound : Sound n w
  pub idle : state w ≡ 0

-- the rule of that number
abbrev pub Rule : ℕ → ℕ → Words → Type 0
Rule k n w = cond (k == 1) (Rule1 n w) (cond (k == 2) (Rule2 w) (cond (k == 3) (Rule3 n w) (cond (k == 4) (Rule4 n w) (cond (k == 5) (Rule5 w) (Rule6 w)))))

-- k is the first rule that fails
pub record FirstBroken (k n : ℕ) (w : Words) : Type 0 where
  pub some : 1 ≤ k
  pub last : k ≤ 6
  pub before : (j : ℕ) → 1 ≤ j → j < k → Rule j n w
  pub here : Rule k n w → ⊥

-- what an image holds: the table's count of blocks, its files under their names, and each file exactly its blocks
pub record Holds (w : Words) (t : Table) : Type 0 where
  pub size : w 0 ≡ t.blocks
  pub same : (n : List ℕ) → find n (files_of w) ≡ find n t.files
  pub many : length (files_of w) ≡ length t.files
  pub each : (s : ℕ) → s < 16 → named w s ≡ true → length (slot_blocks w s) ≡ called_for (length_of (root_word w s))
  pub blocks : length (used_blocks w) ≡ used t.files

-- the same of a table's files in whatever order
pub record HoldsFiles (w : Words) (t : Table) : Type 0 where
  pub size : w 0 ≡ t.blocks
  pub files : Rearranged (files_of w) t.files
  pub each : (s : ℕ) → s < 16 → named w s ≡ true → length (slot_blocks w s) ≡ called_for (length_of (root_word w s))
  pub blocks : length (used_blocks w) ≡ used t.files

-- The old words of the start piece lie in the first half of block 1, those of the end piece in the second.
abbrev pub putting_back : Words → ℕ → ℕ → List Word
putting_back w x old = let p = piece_of x in cond (no_piece x) [] (map (λ j. word (32 * p.block + p.first + j) (w (old + j))) (range_with_len 0 p.count))

-- the stores that put both pieces back, start first
abbrev pub undoing : Words → List Word
undoing w = putting_back w (w 11) 32 ++ putting_back w (w 12) 48

-- the call that the entry tells of was cut off before its end: it is undone
abbrev pub undone : Words → Bool
undone w = state w == 1 || (state w == 2 && follows w && root_word w (log_slot w) == old_root w)

-- recovery puts pieces back
abbrev pub puts_back : Words → Bool
puts_back w = undone w && not (no_piece (w 11) && no_piece (w 12))

-- the stores of a full recovery: the pieces, and then the state
abbrev pub recovering : Words → List Word
recovering w = cond (undone w) (undoing w) [] ++ cond (state w == 0) [] (word 8 0 ∷ [])

abbrev pub recovered : Words → Words
recovered w = put (recovering w) w

-- an image leads to a table: recovery takes it, and it then holds the table
pub record LeadsTo (n : ℕ) (w : Words) (t : Table) : Type 0 where
  pub sound : Sound n w
  pub holds : Holds (recovered w) t

-- an image leads to a table's files, in whatever order
pub record LeadsToFiles (n : ℕ) (w : Words) (t : Table) : Type 0 where
  pub sound : Sound n w
  pub holds : HoldsFiles (recovered w) t

-- k is the first rule that fails where a file call asks for a log that is free, too
abbrev pub FirstBusy : ℕ → ℕ → Words → Type 0
FirstBusy k n w = FirstBroken k n w ⊎ ((k ≡ 6) × Sound n w × (state w ≢ 0))
