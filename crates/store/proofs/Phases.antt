-- A phase's steps. Assumes nothing.
use Rattle.std.proofs.Common.{◌≡◌, ℕ, zero, suc, ◌+◌, ◌-◌, ◌<◌, ◌≤◌, true, false, List, [], ◌∷◌, ◌++◌, map, length, get_or, take, drop, Ok, Err, Result, sym, refl, ap, ◌∙◌, subst, arith}
use Rattle.std.proofs.lemmas.List.FromFn.{length-map-range_with_len, get_or-map-range_with_len, take-map-range_with_len, map-range_with_len_more}
use Rattle.std.proofs.lemmas.List.{append-nil, take-append-drop, take_more}
use Rattle.std.specs.List.{range_with_len}
use Rattle.memory.specs.Model.{Model, Stored, Flushed, Settled}
use Rattle.memory.specs.Stores.{Words, word, one, put, Made}
use Rattle.memory.specs.declared.fault.Fault.{Fault}
use Rattle.memory.specs.declared.fault.Fault.TheVariants.{Down, Outside}
use Rattle.memory.specs.declared.word.Word.{Word}
use Rattle.memory.proofs.Making.{made_none, made_one, made-append, made-cut, made-flushed}
use Rattle.image_check.specs.declared.refusal.Refusal.{Refusal}
use Rattle.memory.proofs.Putting.{up-down, one-other}
use Rattle.store.specs.Phase.{Within, zeros, copies, AllMade, CutIn, Persisted}
use Rattle.image_check.specs.Reading.{Looked, LookedDown}

pub store-done : {m n : Model} (i v : ℕ) → Stored m i v (Ok tt) n → AllMade m (word i v ∷ []) n
store-done i v h = record { was-up = h.0; made = made_one i v (Ok tt) h; up = h.1 }

-- a store that failed inside the count lost power
pub store-cut : {m n : Model} (i v : ℕ) (f : Fault) → i < m.count → Stored m i v (Err f) n → CutIn m (word i v ∷ []) n
store-cut i v Down lt h = record { made = made_one i v (Err Down) h; down = h.0; still = h.3 }
store-cut {m} i v Outside lt h = absurd (apart h.1)
  where
    apart : m.count ≤ i → ⊥
    apart le = omega arith

pub barrier-done : {m n : Model} → Flushed m (Ok tt) n → AllMade m [] n × Settled n
barrier-done {m} h = (record { was-up = h.0; made = made-flushed (Ok tt) (made_none m) h; up = h.1 }, h.4)

-- a barrier that failed lost power
pub barrier-cut : {m n : Model} (f : Fault) → Flushed m (Err f) n → CutIn m [] n
barrier-cut {m} Down h = record { made = made-flushed (Err Down) (made_none m) h; down = h.0.down; still = h.1 }
barrier-cut Outside h = absurd h

-- the stores so far: power that there is was there at the start, and without power nothing was stored
pub record SoFar (m : Model) (ss : List Word) (n : Model) : Type 0 where
  pub made : Made m ss n
  pub was-up : n.up ≡ true → m.up ≡ true
  pub still : m.up ≡ false → n ≡ m

pub so_far : {m n : Model} {ss : List Word} → AllMade m ss n → SoFar m ss n
so_far {m} all = record { made = all.made; was-up = λ _. all.was-up; still = λ down. absurd (up-down m.up all.was-up down) }

-- more stores
pub so_far_more : {m k n : Model} {ss ts : List Word} → SoFar m ss k → AllMade k ts n → SoFar m (ss ++ ts) n
so_far_more {m} a b = record {
  made = made-append a.made b.made (λ _. b.was-up);
  was-up = λ _. a.was-up b.was-up;
  still = λ down. absurd (up-down m.up (a.was-up b.was-up) down);
}

pub done_more : {m k n : Model} {ss ts : List Word} → AllMade m ss k → AllMade k ts n → AllMade m (ss ++ ts) n
done_more a b = record { was-up = a.was-up; made = made-append a.made b.made (λ _. b.was-up); up = b.up }

-- power was lost in further stores
pub cut-more : {m k n : Model} {ss ts : List Word} → SoFar m ss k → CutIn k ts n → CutIn m (ss ++ ts) n
cut-more {m} {k} {n} before cut = record {
  made = made-append before.made cut.made (λ up. absurd (up-down n.up up cut.down));
  down = cut.down;
  still = λ down. cut.still (ap (λ (x : Model). x.up) (before.still down) ∙ down) ∙ before.still down;
}

-- further stores were left out, since power was lost
pub cut_short : {m n : Model} {ss : List Word} (ts : List Word) → CutIn m ss n → CutIn m (ss ++ ts) n
cut_short ts cut = record { made = made-cut ts cut.made cut.down; down = cut.down; still = cut.still }

-- loads make no store
pub looked-made : {m n : Model} → Looked m n → AllMade m [] n
looked-made looked = record {
  was-up = looked.was-up;
  made = record { count = looked.fewer.same_count; seen = λ i lt up. looked.seen i lt; may = λ i v lt h. looked.fewer.fewer i lt v h };
  up = looked.up;
}

-- loads keep what was made
pub done-looked : {m k n : Model} {ss : List Word} → AllMade m ss k → Looked k n → AllMade m ss n
done-looked {m} {k} {n} {ss} before looked = subst (λ xs. AllMade m xs n) (append-nil ss) (done_more before (looked-made looked))

-- power was lost in a load, and the stores after it were left out
pub cut-looked : {m n : Model} (ss : List Word) → LookedDown m n → CutIn m ss n
cut-looked {m} {n} ss looked = cut_short {ss = []} ss (record {
  made = record { count = looked.down.fewer.same_count; seen = λ i lt up. absurd (up-down n.up up looked.down.down); may = λ i v lt h. looked.down.fewer.fewer i lt v h };
  down = looked.down.down;
  still = looked.still;
})

-- the stores of a phase, and its end
pub ends : {m k : Model} (n : Model) {ss : List Word} (r : Result Unit Refusal) → SoFar m ss k → Persisted k [] r n → Persisted m ss r n
ends {m} {k} n {ss} (Ok x) before h =
    (record { was-up = before.was-up h.0.was-up; made = subst (λ xs. Made m xs n) (append-nil ss) (so_far_more before h.0).made; up = h.0.up }, h.1)
ends {m} {k} n {ss} (Err e) before h = (subst (λ xs. CutIn m xs n) (append-nil ss) (cut-more before h.0), h.1)

pub ending : {m k : Model} {ss : List Word} → AllMade m ss k → (n : Model) (r : Result Unit Refusal) → Persisted k [] r n → Persisted m ss r n
ending made n r h = ends n r (so_far made) h

-- a place of the phase lies within the memory
pub within-at : (n : ℕ) (ss : List Word) (k : ℕ) (d : Word) → Within n ss → k < length ss → (get_or ss k d).at < n
within-at n [] k d h lt = absurd (none lt)
  where
    none : k < 0 → ⊥
    none l = omega arith
within-at n (s ∷ ss) zero d h lt = h.0
within-at n (s ∷ ss) (suc k) d h lt = within-at n ss k d h.1 (omega arith)

-- the phase was cut off at its store k
pub cut_at : {m o n : Model} (ss : List Word) (k : ℕ) → k < length ss → SoFar m (take k ss) o → CutIn o (get_or ss k (word 0 0) ∷ []) n → CutIn m ss n
cut_at {m} {o} {n} ss k lt before cut = subst (λ xs. CutIn m xs n) whole (cut_short (drop (k + 1) ss) (cut-more before cut))
  where
    whole : (take k ss ++ get_or ss k (word 0 0) ∷ []) ++ drop (k + 1) ss ≡ ss
    whole = ap (λ xs. xs ++ drop (k + 1) ss) (sym (take_more ss k (word 0 0) lt)) ∙ take-append-drop (k + 1) ss

-- one more zero of a run
pub zeros-more : (first at : ℕ) → first ≤ at → zeros first (at - first) ++ word at 0 ∷ [] ≡ zeros first (at + 1 - first)
zeros-more first at le =
    let more = map-range_with_len_more (λ i. word i 0) first (at - first) at (omega arith) in
    let step : at - first + 1 ≡ at + 1 - first = omega arith in
    sym more ∙ ap (zeros first) step

-- a run was cut off at one of its places
pub zeros-cut : {m o n : Model} (first at end : ℕ) → first ≤ at → at < end → SoFar m (zeros first (at - first)) o → CutIn o (word at 0 ∷ []) n → CutIn m (zeros first (end - first)) n
zeros-cut {m} {o} {n} first at end le lt before cut =
    cut_at (zeros first (end - first)) (at - first) (rw (length-map-range_with_len (λ i. word i 0) first (end - first)) (omega arith))
    (subst (λ xs. SoFar m xs o) (sym (take-map-range_with_len (λ i. word i 0) first (end - first) (at - first) (omega arith))) before)
    (subst (λ s. CutIn o (s ∷ []) n) (sym (get_or-map-range_with_len (λ i. word i 0) first (end - first) (at - first) at (word 0 0) (omega arith) (omega arith))) cut)

-- copies keep each word before the place that they go to
pub put-copies : (f : ℕ → ℕ) (to a n : ℕ) (w : Words) (i : ℕ) → i < to → put (map (λ j. word (to + j) (f j)) (range_with_len a n)) w i ≡ w i
put-copies f to a zero w i lt = refl
put-copies f to a (suc n) w i lt = put-copies f to (a + 1) n (one (word (to + a) (f a)) w) i lt ∙ one-other (word (to + a) (f a)) i w apart
  where
    apart : i ≡ to + a → ⊥
    apart e = omega arith

-- a load amid the copies finds the word as it was before them
pub copies-loaded : {m k n : Model} (from to j v : ℕ) → from + j < to → from + j < m.count → AllMade m (copies m.seen from to j) k → Looked k n × (v ≡ k.seen (from + j))
    → AllMade m (copies m.seen from to j) n × (v ≡ m.seen (from + j))
copies-loaded {m} from to j v before inside all load =
    (done-looked all load.0, load.1 ∙ all.made.seen (from + j) inside all.up ∙ put-copies (λ i. m.seen (from + i)) to 0 j m.seen (from + j) before)

-- one more copy
pub copies-more : {m k n : Model} (w : Words) (from to j v : ℕ) → AllMade m (copies w from to j) k → v ≡ w (from + j) → AllMade k (word (to + j) v ∷ []) n → AllMade m (copies w from to (j + 1)) n
copies-more {m} {k} {n} w from to j v all e stored =
    subst (λ xs. AllMade m xs n) (sym (map-range_with_len_more (λ i. word (to + i) (w (from + i))) 0 j j (omega arith)))
    (done_more all (subst (λ x. AllMade k (word (to + j) x ∷ []) n) e stored))

-- the copies so far are the first of all
copies-first : {m k : Model} (w : Words) (from to j count : ℕ) → j < count → AllMade m (copies w from to j) k → SoFar m (take j (copies w from to count)) k
copies-first {m} {k} w from to j count lt all =
    so_far (subst (λ xs. AllMade m xs k) (sym (take-map-range_with_len (λ i. word (to + i) (w (from + i))) 0 count j (omega arith))) all)

-- power was lost in the load of a copy
pub copies-cut-load : {m k n : Model} (w : Words) (from to j count : ℕ) → j < count → AllMade m (copies w from to j) k → LookedDown k n → CutIn m (copies w from to count) n
copies-cut-load {m} {k} {n} w from to j count lt all looked =
    let whole = copies w from to count in
    subst (λ xs. CutIn m xs n) (take-append-drop j whole) (cut-more (copies-first w from to j count lt all) (cut-looked (drop j whole) looked))

-- power was lost in the store of a copy
pub copies-cut : {m k n : Model} (w : Words) (from to j count v : ℕ) → j < count → AllMade m (copies w from to j) k → v ≡ w (from + j) → CutIn k (word (to + j) v ∷ []) n → CutIn m (copies w from to count) n
copies-cut {m} {k} {n} w from to j count v lt all e cut =
    cut_at (copies w from to count) j (rw (length-map-range_with_len (λ i. word (to + i) (w (from + i))) 0 count) lt) (copies-first w from to j count lt all)
    (subst (λ s. CutIn k (s ∷ []) n) (ap (word (to + j)) e ∙ sym (get_or-map-range_with_len (λ i. word (to + i) (w (from + i))) 0 count j j (word 0 0) lt (omega arith))) cut)
