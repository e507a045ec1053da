-- The words that wait in a cache: at most eight, the oldest first.
use Rattle.std.specs.Prelude.{ℕ, suc, Bool, true, false, cond, List, [], ◌∷◌, ◌++◌, length, take, drop, Some, None, Option, ◌==◌, nat_lt, slice_index_or, slice_set}
use Rattle.memory.specs.declared.word.Word.{Word}
use Rattle.memory.specs.Stores.{word}
use Rattle.waiting.specs.declared.words.Waiting.{Waiting}

-- of the eight words of the buffer, those from free on
abbrev pub waiting : Waiting → List Word
waiting s = drop s.free (take 8 s.words)

-- where the newest word for a place stands
abbrev pub newest_of : Bool → Option ℕ → Option ℕ
newest_of here (Some k) = Some (suc k)
newest_of true None = Some 0
newest_of false None = None

abbrev pub newest : List Word → ℕ → Option ℕ
newest [] i = None
newest (s ∷ ss) i = newest_of (i == s.at) (newest ss i)

-- the value that waits for a place: that of the newest word
abbrev pub value_of : Option ℕ → List Word → Option ℕ
value_of (Some k) ws = Some (slice_index_or ws k (word 0 0)).value
value_of None ws = None

abbrev pub waiting_value : List Word → ℕ → Option ℕ
waiting_value ws i = value_of (newest ws i) ws

-- the word that has to go below before one for place i can wait: the oldest, to make room for a ninth
abbrev pub leaving_of : Option ℕ → List Word → Option Word
leaving_of (Some k) ws = None
leaving_of None [] = None
leaving_of None (s ∷ ss) = cond (nat_lt (length (s ∷ ss)) 8) None (Some s)

abbrev pub leaving : List Word → ℕ → Option Word
leaving ws i = leaving_of (newest ws i) ws

-- what waits once v waits for place i
abbrev pub holding_of : Option ℕ → List Word → ℕ → ℕ → List Word
holding_of (Some k) ws i v = slice_set ws k (word i v)
holding_of None ws i v = cond (nat_lt (length ws) 8) ws (drop 1 ws) ++ (word i v ∷ [])

abbrev pub holding : List Word → ℕ → ℕ → List Word
holding ws i v = holding_of (newest ws i) ws i v
