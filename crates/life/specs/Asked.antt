-- What a store is asked.
use Rattle.std.specs.Prelude.{ℕ}
use Rattle.layout.specs.Table.{Ask, read}
use Rattle.store.specs.Change.{asks}
use Rattle.life.specs.declared.call.Call.{Call}
use Rattle.life.specs.declared.call.Call.TheVariants.{Restart, Recover, Change, Read}

pub data Asked : Type 0 where
  restart : Asked
  recover : Asked
  file : Ask → Asked

-- a call of a life; a read fills a buffer of count bytes
abbrev pub asked : ℕ → Call → Asked
asked count Restart = restart
asked count Recover = recover
asked count (Change change) = file (asks change)
asked count (Read name offset) = file (read name offset count)
