-- Stores one after another, and the barrier at their end. Assumes nothing.
use Rattle.std.proofs.Common.{◌≡◌, ℕ, ◌<◌, Bool, true, false, cond, eqb, List, [], ◌∷◌, ◌++◌, Ok, Err, Result, sym, refl, ap, ◌∙◌, subst, ⊎_elim, arith}
use native.Mathlib.Decide.{ℕ_discrete}
use Rattle.std.proofs.lemmas.Bool.Decides.{nat_tests}
use Rattle.memory.specs.Model.{Model, In, StoreKept, Stored, Flushed}
use Rattle.memory.specs.Stores.{Words, word, one, put, values_at, Made}
use Rattle.memory.specs.declared.fault.Fault.{Fault}
use Rattle.memory.specs.declared.fault.Fault.TheVariants.{Down, Outside}
use Rattle.memory.specs.declared.word.Word.{Word}
use Rattle.memory.proofs.Putting.{up-down, in_left, in_right, in_either, in_between, one-here, one-other, put-append, put_same, values_at-append}

pub made_none : (m : Model) → Made m [] m
made_none m = record { count = refl; seen = λ i lt up. refl; may = λ i v lt h. h }

-- what was stored first, and then more, unless power was lost between
pub made-append : {m n o : Model} {ss ts : List Word} → Made m ss n → Made n ts o → (o.up ≡ true → n.up ≡ true) → Made m (ss ++ ts) o
made-append {m} {n} {o} {ss} {ts} a b up = record {
  count = b.count ∙ a.count;
  seen = λ i lt u. b.seen i (inside i lt) u ∙ put_same ts n.seen (put ss m.seen) i (a.seen i lt (up u)) ∙ ap (λ (w : Words). w i) (sym (put-append ss ts m.seen));
  may = λ i v lt h. subst (λ xs. In v (xs ++ m.may i)) (sym (values_at-append ss ts i)) (⊎_elim (newer i v) (λ k. in_between v (values_at ss i) (values_at ts i) (m.may i) (a.may i v lt k)) (in_either v (values_at ts i) (n.may i) (b.may i v (inside i lt) h)));
}
  where
    inside : (i : ℕ) → i < m.count → i < n.count
    inside i lt = subst (λ x. i < x) (sym a.count) lt

    newer : (i v : ℕ) → In v (values_at ts i) → In v ((values_at ss i ++ values_at ts i) ++ m.may i)
    newer i v h = in_left v (values_at ss i ++ values_at ts i) (m.may i) (in_right v (values_at ss i) (values_at ts i) h)

-- the candidates after one store
one-may : {m n : Model} {i v : ℕ} → StoreKept m i v n → (j u : ℕ) → j < m.count → In u (n.may j) → In u (values_at (word i v ∷ []) j ++ m.may j)
one-may {m} {n} {i} {v} kept j u lt h = go (ℕ_discrete j i)
  where
    go : Dec (j ≡ i) → In u (values_at (word i v ∷ []) j ++ m.may j)
    go (yes e) = subst (λ k. In u (values_at (word i v ∷ []) k ++ m.may k)) (sym e) (subst (λ (b : Bool). In u (cond b (v ∷ []) [] ++ m.may i)) (sym same) (kept.here u (subst (λ k. In u (n.may k)) e h)))
      where
        same : eqb i i ≡ true
        same = grind (arith, nat_tests)
    go (no ne) = in_right u (values_at (word i v ∷ []) j) (m.may j) (kept.elsewhere j lt ne u h)

-- one store, whatever it answered
pub made_one : {m n : Model} (i v : ℕ) (r : Result Unit Fault) → Stored m i v r n → Made m (word i v ∷ []) n
made_one {m} {n} i v (Ok x) h = record { count = h.4.same_count; seen = λ j lt up. seen_at j lt (ℕ_discrete j i); may = one-may h.4 }
  where
    seen_at : (j : ℕ) → j < m.count → Dec (j ≡ i) → n.seen j ≡ one (word i v) m.seen j
    seen_at j lt (yes e) = subst (λ x. n.seen x ≡ one (word i v) m.seen x) (sym e) (h.3.here ∙ sym (one-here (word i v) m.seen))
    seen_at j lt (no ne) = h.3.elsewhere j lt ne ∙ sym (one-other (word i v) j m.seen ne)
made_one {m} {n} i v (Err Down) h = record { count = h.1.same_count; seen = λ j lt up. absurd (up-down n.up up h.0); may = one-may h.1 }
made_one {m} {n} i v (Err Outside) h = subst (λ x. Made m (word i v ∷ []) x) (sym h.2) (record {
  count = refl;
  seen = λ j lt up. sym (one-other (word i v) j m.seen (apart j lt));
  may = λ j u lt k. in_right u (values_at (word i v ∷ []) j) (m.may j) k;
})
  where
    apart : (j : ℕ) → j < m.count → j ≡ i → ⊥
    apart j lt e = omega (arith, h.1)

-- a store that leaves power on found it on
pub was-up : (m n : Model) (i v : ℕ) (r : Result Unit Fault) → Stored m i v r n → n.up ≡ true → m.up ≡ true
was-up m n i v (Ok x) h up = h.0
was-up m n i v (Err Down) h up = absurd (up-down n.up up h.0)
was-up m n i v (Err Outside) h up = h.0

-- one store more, whatever it answered
pub made_more : {m n o : Model} {ss : List Word} (i v : ℕ) (r : Result Unit Fault) → Made m ss n → Stored n i v r o → Made m (ss ++ word i v ∷ []) o
made_more {m} {n} {o} i v r made h = made-append made (made_one i v r h) (was-up n o i v r h)

-- where power was lost, any further stores were not made
pub made-cut : {m n : Model} {ss : List Word} (ts : List Word) → Made m ss n → n.up ≡ false → Made m (ss ++ ts) n
made-cut {m} {n} {ss} ts made down = record {
  count = made.count;
  seen = λ i lt up. absurd (up-down n.up up down);
  may = λ i v lt h. subst (λ xs. In v (xs ++ m.may i)) (sym (values_at-append ss ts i)) (in_between v (values_at ss i) (values_at ts i) (m.may i) (made.may i v lt h));
}

-- a barrier stores nothing
pub made-flushed : {m n o : Model} {ss : List Word} (r : Result Unit Fault) → Made m ss n → Flushed n r o → Made m ss o
made-flushed {m} {n} {o} {ss} (Ok x) made h = record {
  count = h.3.same_count ∙ made.count;
  seen = λ i lt up. h.2 i (subst (λ x. i < x) (sym made.count) lt) ∙ made.seen i lt h.0;
  may = λ i v lt k. made.may i v lt (h.3.fewer i (subst (λ x. i < x) (sym made.count) lt) v k);
}
made-flushed {m} {n} {o} {ss} (Err Down) made h = record {
  count = h.0.fewer.same_count ∙ made.count;
  seen = λ i lt up. absurd (up-down o.up up h.0.down);
  may = λ i v lt k. made.may i v lt (h.0.fewer.fewer i (subst (λ x. i < x) (sym made.count) lt) v k);
}
made-flushed (Err Outside) made h = absurd h
