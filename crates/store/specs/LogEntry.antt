-- The log entry as code holds it.
use Rattle.std.specs.Prelude.{◌≡◌, ℕ, ◌+◌, ◌*◌, List, [], Option, Some, None}
use Rattle.memory.specs.Stores.{Words}
use Rattle.memory.specs.declared.word.Word.{Word}
use Rattle.layout.specs.Log.{state, log_slot, follows, old_root}
use Rattle.layout.specs.Packed.{state_number, PieceIn}
use Rattle.layout.specs.declared.log.Piece.{Piece}
use Rattle.store.specs.Phase.{copies}
use Rattle.store.specs.declared.log_entry.LogEntry.{LogEntry}

-- the log entry of an image
pub record Tells (w : Words) (e : LogEntry) : Type 0 where
  pub state : state_number e.state ≡ state w
  pub slot : e.mark.slot ≡ log_slot w
  pub follow : e.mark.follow ≡ follows w
  pub old : e.old ≡ old_root w
  pub start : PieceIn (w 11) e.start
  pub last : PieceIn (w 12) e.end

-- the stores that put a piece back from where the log keeps its old words
abbrev pub putting : Words → Option Piece → ℕ → List Word
putting w None old = []
putting w (Some p) old = copies w old (32 * p.block + p.first) p.count
