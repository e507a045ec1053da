-- What a layer means over the memory below.
use Rattle.std.specs.Prelude.{ℕ, ◌+◌, ◌-◌, ◌<◌, min, List, ◌++◌}
use Rattle.std.proofs.Common.{arith}
use Rattle.memory.specs.Model.{Model, SeenMay}
use Rattle.memory.specs.Stores.{put, values_at}
use Rattle.memory.specs.declared.word.Word.{Word}
use Rattle.memory.proofs.Putting.{put_in}

-- a cache: the waiting words are seen, and they and what lies below are the candidates
abbrev pub cache_model : List Word → Model → Model
cache_model ws m = record {
  count = m.count;
  up = m.up;
  seen = put ws m.seen;
  may = λ i. values_at ws i ++ m.may i;
}

-- a part: the run of words from first, as far as it lies in the memory below
abbrev pub part_model : ℕ → ℕ → Model → Model
part_model first count m = record {
  count = min count (m.count - first);
  up = m.up;
  seen = λ i. m.seen (first + i);
  may = λ i. m.may (first + i);
}

-- in both, the value seen is a candidate
pub cache-seen-may : (ws : List Word) (m : Model) → SeenMay m → SeenMay (cache_model ws m)
cache-seen-may ws m h = λ i lt. put_in ws m.seen i (m.may i) (h i lt)

-- a place inside the part lies inside the memory below
pub inside : (first count words i : ℕ) → i < min count (words - first) → first + i < words
inside first count words i lt = omega arith

pub part-seen-may : (first count : ℕ) (m : Model) → SeenMay m → SeenMay (part_model first count m)
part-seen-may first count m h = λ i lt. h (first + i) (inside first count m.count i lt)
