-- A part of a memory: from what the memory below does at first + i to what the part does at i. Assumes nothing.
use Rattle.std.proofs.Common.{◌≡◌, ℕ, ◌+◌, ◌-◌, ◌<◌, min, Bool, true, false, Ok, Err, Result, ap, arith}
use Rattle.memory.specs.Model.{Model, Fewer, SameSeen, WentDown, Settled, StoreKept, Loaded, Stored, Flushed, Restarted}
use Rattle.memory.specs.declared.fault.Fault.{Fault}
use Rattle.memory.specs.declared.fault.Fault.TheVariants.{Down, Outside}
use Rattle.layers.specs.Layers.{part_model, inside}

module _ (first count : ℕ) (m n : Model) where
  part-fewer : Fewer m n → Fewer (part_model first count m) (part_model first count n)
  part-fewer f = record {
    same_count = ap (λ x. min count (x - first)) f.same_count;
    fewer = λ i lt. f.fewer (first + i) (inside first count m.count i lt);
  }

  part_same : n ≡ m → part_model first count n ≡ part_model first count m
  part_same e = ap (part_model first count) e

  part-seen : SameSeen m n → SameSeen (part_model first count m) (part_model first count n)
  part-seen s i lt = s (first + i) (inside first count m.count i lt)

  part-down : WentDown m n → WentDown (part_model first count m) (part_model first count n)
  part-down w = record { fewer = part-fewer w.fewer; down = w.down }

  part-settled : Settled n → Settled (part_model first count n)
  part-settled s i lt = s (first + i) (inside first count n.count i lt)

  pub part-load : (i : ℕ) (r : Result ℕ Fault) → i < (part_model first count m).count → Loaded m (first + i) r n → Loaded (part_model first count m) i r (part_model first count n)
  part-load i (Ok v) lt h = (h.0, h.1, lt, h.3, part-seen h.4, part-fewer h.5)
  part-load i (Err Outside) lt h = absurd (omega (arith, inside first count m.count i lt, h.1))
  part-load i (Err Down) lt h = (part-down h.0, λ up. lt, λ down. part_same (h.2 down))

  part-kept : (i v : ℕ) → StoreKept m (first + i) v n → StoreKept (part_model first count m) i v (part_model first count n)
  part-kept i v k = record {
    same_count = ap (λ x. min count (x - first)) k.same_count;
    here = k.here;
    elsewhere = λ j lt ne. k.elsewhere (first + j) (inside first count m.count j lt) (λ e. ne (omega arith));
  }

  pub part-store : (i v : ℕ) (r : Result Unit Fault) → i < (part_model first count m).count → Stored m (first + i) v r n → Stored (part_model first count m) i v r (part_model first count n)
  part-store i v (Ok x) lt h =
      (h.0, h.1, lt, record { here = h.3.here; elsewhere = λ j l ne. h.3.elsewhere (first + j) (inside first count m.count j l) (λ e. ne (omega arith)) }, part-kept i v h.4)
  part-store i v (Err Outside) lt h = absurd (omega (arith, inside first count m.count i lt, h.1))
  part-store i v (Err Down) lt h = (h.0, part-kept i v h.1, λ up. lt, λ down. part_same (h.3 down))

  pub part-barrier : (r : Result Unit Fault) → Flushed m r n → Flushed (part_model first count m) r (part_model first count n)
  part-barrier (Ok x) h = (h.0, h.1, part-seen h.2, part-fewer h.3, part-settled h.4)
  part-barrier (Err Down) h = (part-down h.0, λ down. part_same (h.1 down))
  part-barrier (Err Outside) h = absurd h

  pub part-restart : (r : Bool) → Restarted m r n → Restarted (part_model first count m) r (part_model first count n)
  part-restart true h =
      (h.0, ap (λ x. min count (x - first)) h.1, λ i lt. h.2 (first + i) (inside first count m.count i lt), part-settled h.3)
  part-restart false h = part-down h
