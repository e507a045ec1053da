-- Stores one after another, and the words that come of them.
use Rattle.std.specs.Prelude.{◌≡◌, ℕ, ◌<◌, true, cond, List, [], ◌∷◌, ◌++◌, ◌==◌}
use Rattle.memory.specs.Model.{Model, In}
use Rattle.memory.specs.declared.word.Word.{Word}

-- the words of a memory, by place
abbrev pub Words : Type 0
Words = ℕ → ℕ

abbrev pub word : ℕ → ℕ → Word
word i v = record { at = i; value = v }

-- the words with one of them replaced
abbrev pub one : Word → Words → Words
one s w = λ j. cond (j == s.at) s.value (w j)

-- the words after stores in their order
abbrev pub put : List Word → Words → Words
put [] w = w
put (s ∷ ss) w = put ss (one s w)

-- the values that are stored at a place
abbrev pub values_at : List Word → ℕ → List ℕ
values_at [] i = []
values_at (s ∷ ss) i = cond (i == s.at) (s.value ∷ values_at ss i) (values_at ss i)

-- the stores were made, whether or not power was lost in the last, and nothing else was stored
pub record Made (m : Model) (ss : List Word) (n : Model) : Type 0 where
  pub count : n.count ≡ m.count
  pub seen : (i : ℕ) → i < m.count → n.up ≡ true → n.seen i ≡ put ss m.seen i
  pub may : (i v : ℕ) → i < m.count → In v (n.may i) → In v (values_at ss i ++ m.may i)
