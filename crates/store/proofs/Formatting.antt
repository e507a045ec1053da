-- What the phases of format come to. Assumes nothing.
use Rattle.std.proofs.Common.{◌≡◌, ℕ, zero, suc, ◌+◌, ◌/◌, ◌<◌, ◌≤◌, Bool, true, false, cond, ◌&&◌, ◌||◌, eqb, ltb, leb, ◌⊎◌, List, [], ◌∷◌, ◌++◌, Ok, Err, Result, sym, refl, ap, ◌∙◌, subst, inl, inr, ⊎_elim, arith}
use Rattle.std.proofs.lemmas.Bool.Decides.{nat_tests}
use Rattle.memory.specs.Model.{Model, In, Settled}
use Rattle.memory.specs.Stores.{Words, word, one, put, values_at}
use Rattle.memory.specs.declared.word.Word.{Word}
use Rattle.memory.proofs.Putting.{up-down, in_left, in_right, in_either, put-append, values_at-append, values-either}
use Rattle.image_check.specs.declared.refusal.Refusal.{Refusal}
use Rattle.image_check.specs.declared.refusal.Refusal.TheVariants.{PowerLost}
use Rattle.image_check.specs.Size.{suits}
use Rattle.store.specs.Phase.{zeros, Drawn, AllMade, CutIn, Persisted}
use Rattle.store.specs.Format.{cleared, clearing, stores, formatted, Untouched, Cleared, Formatted, FormatCut, Formats}
use Rattle.store.proofs.Phases.{done_more, so_far, cut-more, cut_short, ends}

-- place j lies in the run of n places from a
abbrev in_run : ℕ → ℕ → ℕ → Bool
in_run a n j = leb a j && ltb j (a + n)

put-zeros : (a n : ℕ) (w : Words) (j : ℕ) → put (zeros a n) w j ≡ cond (in_run a n j) 0 (w j)
put-zeros a zero w j = grind (arith, nat_tests)
put-zeros a (suc n) w j = put-zeros (a + 1) n (one (word a 0) w) j ∙ grind (arith, nat_tests)

values-zeros : (a n j v : ℕ) → In v (values_at (zeros a n) j) → (v ≡ 0) × (in_run a n j ≡ true)
values-zeros a zero j v h = absurd h
values-zeros a (suc n) j v h = go (values-either (word a 0) (zeros (a + 1) n) j v h) (values-zeros (a + 1) n j v)
  where
    go : ((j ≡ a) × (v ≡ 0)) ⊎ In v (values_at (zeros (a + 1) n) j) → (In v (values_at (zeros (a + 1) n) j) → (v ≡ 0) × (in_run (a + 1) n j ≡ true)) → (v ≡ 0) × (in_run a (suc n) j ≡ true)
    go (inl h) later = (h.1, grind (arith, nat_tests, h.0))
    go (inr h) later = let k = later h in (k.0, grind (arith, nat_tests, k.1))

put-clearing : (w : Words) (j : ℕ) → put clearing w j ≡ cond (cleared j) 0 (w j)
unfolding clearing
put-clearing w j = put-zeros 64 32 (one (word 8 0) w) j ∙ grind (arith, nat_tests)

-- over the places, so that nothing computes a run out
values-clear : (p a n j v : ℕ) → In v (values_at (word p 0 ∷ zeros a n) j) → (v ≡ 0) × ((eqb j p || in_run a n j) ≡ true)
values-clear p a n j v h = go (values-either (word p 0) (zeros a n) j v h)
  where
    go : ((j ≡ p) × (v ≡ 0)) ⊎ In v (values_at (zeros a n) j) → (v ≡ 0) × ((eqb j p || in_run a n j) ≡ true)
    go (inl h) = (h.1, grind (arith, nat_tests, h.0))
    go (inr h) = let k = values-zeros a n j v h in (k.0, grind (arith, nat_tests, k.1))

values-clearing : (j v : ℕ) → In v (values_at clearing j) → (v ≡ 0) × (cleared j ≡ true)
unfolding clearing
values-clearing j v h = values-clear 8 64 32 j v h

values_one : (s : Word) (j v : ℕ) → In v (values_at (s ∷ []) j) → (j ≡ s.at) × (v ≡ s.value)
values_one s j v h = ⊎_elim (λ k. k) (λ k. absurd k) (values-either s [] j v h)

-- the clearing phase, store by store, and its end
pub clear-done : {m k l : Model} → AllMade m (word 8 0 ∷ []) k → AllMade k (zeros 64 32) l → (n : Model) (r : Result Unit Refusal) → Persisted l [] r n → Persisted m clearing r n
unfolding clearing
clear-done a b n r h = ends n r (so_far (done_more a b)) h

-- all stores of format, in their order
abbrev all : ℕ → List Word
all blocks = word 0 0 ∷ (clearing ++ word 0 blocks ∷ [])

put_all : (blocks : ℕ) (w : Words) (i : ℕ) → put (all blocks) w i ≡ formatted blocks w i
put_all blocks w i =
    ap (λ (x : Words). x i) (put-append clearing (word 0 blocks ∷ []) (one (word 0 0) w))
    ∙ ap (λ x. cond (eqb i 0) blocks x) (put-clearing (one (word 0 0) w) i) ∙ grind (arith, nat_tests)

-- what is stored somewhere is one of format's values there
stored-zero : (blocks i v : ℕ) → i ≡ 0 → v ≡ 0 → In v (stores blocks i)
stored-zero blocks i v e z = subst (λ k. In v (stores blocks k)) (sym e) (inl z)

stored-blocks : (blocks i v : ℕ) → i ≡ 0 → v ≡ blocks → In v (stores blocks i)
stored-blocks blocks i v e z = subst (λ k. In v (stores blocks k)) (sym e) (inr (inl z))

stored-clear : (blocks i v : ℕ) → v ≡ 0 → cleared i ≡ true → In v (stores blocks i)
stored-clear blocks i v z e = subst (λ (b : Bool). In v (cond (eqb i 0) (0 ∷ blocks ∷ []) (cond b (0 ∷ []) []))) (sym e) (either (eqb i 0))
  where
    either : (b : Bool) → In v (cond b (0 ∷ blocks ∷ []) (0 ∷ []))
    either true = inl z
    either false = inl z

values-all : (blocks i v : ℕ) → In v (values_at (all blocks) i) → In v (stores blocks i)
values-all blocks i v h = first (values-either (word 0 0) (clearing ++ word 0 blocks ∷ []) i v h)
  where
    last : In v (values_at (word 0 blocks ∷ []) i) → In v (stores blocks i)
    last k = let e = values_one (word 0 blocks) i v k in stored-blocks blocks i v e.0 e.1

    middle : In v (values_at clearing i) → In v (stores blocks i)
    middle k = let e = values-clearing i v k in stored-clear blocks i v e.0 e.1

    first : ((i ≡ 0) × (v ≡ 0)) ⊎ In v (values_at (clearing ++ word 0 blocks ∷ []) i) → In v (stores blocks i)
    first (inl k) = stored-zero blocks i v k.0 k.1
    first (inr k) = ⊎_elim middle last (in_either v (values_at clearing i) (values_at (word 0 blocks ∷ []) i) (subst (λ xs. In v xs) (values_at-append clearing (word 0 blocks ∷ []) i) k))

-- The memory after each phase: m at first, k after word 0 is zero, l after the clearing.
module _ (blocks : ℕ) (m : Model) (enough : 96 ≤ m.count) where
  -- a cut_off format, from its stores and what may be found
  cut_off : (n : Model) → CutIn m (all blocks) n → ((w : Words) → Drawn n w → Untouched m w ⊎ (w 0 ≡ 0) ⊎ ((w 0 ≡ blocks) × Cleared w)) → FormatCut blocks m n
  cut_off n cut found = record {
    down = cut.down;
    still = cut.still;
    count = cut.made.count;
    may = λ i v lt h. ⊎_elim (λ k. in_left v (stores blocks i) (m.may i) (values-all blocks i v k)) (λ k. in_right v (stores blocks i) (m.may i) k) (in_either v (values_at (all blocks) i) (m.may i) (cut.made.may i v lt h));
    found = found;
  }

  pub cut-first : {n : Model} → CutIn m (word 0 0 ∷ []) n → FormatCut blocks m n
  cut-first {n} cut = cut_off n (cut_short (clearing ++ word 0 blocks ∷ []) cut) (λ w drawn. inl (λ i lt ne. only w i lt ne (cut.made.may i (w i) lt (drawn i (inside i lt)))))
    where
      inside : (i : ℕ) → i < m.count → i < n.count
      inside i lt = subst (λ x. i < x) (sym cut.made.count) lt

      only : (w : Words) (i : ℕ) → i < m.count → (i ≡ 0 → ⊥) → In (w i) (values_at (word 0 0 ∷ []) i ++ m.may i) → In (w i) (m.may i)
      only w i lt ne h = ⊎_elim (λ k. absurd (ne (values_one (word 0 0) i (w i) k).0)) (λ k. k) (in_either (w i) (values_at (word 0 0 ∷ []) i) (m.may i) h)

  module _ {k : Model} (zeroed : AllMade m (word 0 0 ∷ []) k) (settled : Settled k) where
    below : (i : ℕ) → i < m.count → i < k.count
    below i lt = subst (λ x. i < x) (sym zeroed.made.count) lt

    some : 0 < k.count
    some = below 0 (omega arith)

    -- word 0 is zero and settled
    zero-first : (v : ℕ) → In v (k.may 0) → v ≡ 0
    zero-first v h = ⊎_elim (λ e. e ∙ zeroed.made.seen 0 (omega arith) zeroed.up) (λ x. absurd x) (settled 0 some v h)

    pub cut-clearing : {n : Model} → CutIn k clearing n → FormatCut blocks m n
    cut-clearing {n} cut = cut_off n (cut_short (word 0 blocks ∷ []) (cut-more (so_far zeroed) cut)) (λ w drawn. inr (inl (still w (cut.made.may 0 (w 0) some (drawn 0 (subst (λ x. 0 < x) (sym cut.made.count) some))))))
      where
        still : (w : Words) → In (w 0) (values_at clearing 0 ++ k.may 0) → w 0 ≡ 0
        still w h = ⊎_elim (λ h. (values-clearing 0 (w 0) h).0) (zero-first (w 0)) (in_either (w 0) (values_at clearing 0) (k.may 0) h)

    module _ {l : Model} (clear : AllMade k clearing l) (settled' : Settled l) where
      within : (i : ℕ) → i < m.count → i < l.count
      within i lt = subst (λ x. i < x) (sym clear.made.count) (below i lt)

      -- the log state and the slots are zero, and word 0 is zero still
      clear-seen : (i : ℕ) → i < m.count → l.seen i ≡ cond (cleared i) 0 (k.seen i)
      clear-seen i lt = clear.made.seen i (below i lt) clear.up ∙ put-clearing k.seen i

      lone : (i v : ℕ) → i < m.count → In v (l.may i) → v ≡ l.seen i
      lone i v lt h = ⊎_elim (λ e. e) (λ x. absurd x) (settled' i (within i lt) v h)

      -- a word other than word 0 is as it was settled
      kept : (n : Model) → CutIn l (word 0 blocks ∷ []) n → (w : Words) → Drawn n w → (i : ℕ) → i < m.count → (i ≡ 0 → ⊥) → w i ≡ l.seen i
      kept n cut w drawn i lt ne =
          ⊎_elim (λ h. absurd (ne (values_one (word 0 blocks) i (w i) h).0)) (lone i (w i) lt)
          (in_either (w i) (values_at (word 0 blocks ∷ []) i) (l.may i) (cut.made.may i (w i) (within i lt) (drawn i (subst (λ x. i < x) (sym cut.made.count) (within i lt)))))

      pub cut-last : {n : Model} → CutIn l (word 0 blocks ∷ []) n → FormatCut blocks m n
      cut-last {n} cut = cut_off n (cut-more (so_far zeroed) (cut-more (so_far clear) cut)) found
        where
          start : 0 < l.count
          start = within 0 (omega arith)

          found : (w : Words) → Drawn n w → Untouched m w ⊎ (w 0 ≡ 0) ⊎ ((w 0 ≡ blocks) × Cleared w)
          found w drawn = ⊎_elim (λ h. inr (inr ((values_one (word 0 blocks) 0 (w 0) h).1, slots))) (λ h. inr (inl (lone 0 (w 0) (omega arith) h ∙ clear-seen 0 (omega arith) ∙ zeroed.made.seen 0 (omega arith) zeroed.up)))
              (in_either (w 0) (values_at (word 0 blocks ∷ []) 0) (l.may 0) (cut.made.may 0 (w 0) start (drawn 0 (subst (λ x. 0 < x) (sym cut.made.count) start))))
            where
              low : (i : ℕ) → cleared i ≡ true → (i < 96) × (i ≡ 0 → ⊥)
              low i e = (grind (arith, nat_tests), grind (arith, nat_tests))

              slots : Cleared w
              slots i e = kept n cut w drawn i (omega (arith, (low i e).0)) (low i e).1 ∙ clear-seen i (omega (arith, (low i e).0)) ∙ ap (λ (b : Bool). cond b 0 (k.seen i)) e

      pub all_done : {n : Model} → AllMade l (word 0 blocks ∷ []) n → Settled n → Formatted blocks m n
      all_done {n} last settled'' =
          let whole = done_more zeroed (done_more clear last) in
          record {
            up = last.up;
            count = whole.made.count;
            settled = settled'';
            seen = λ i lt. whole.made.seen i lt last.up ∙ put_all blocks m.seen i;
          }

pub answers-cut : {m n : Model} → suits m.count ≡ true → FormatCut (m.count / 32) m n → Formats m (Err PowerLost) n
answers-cut {m} t cut = record { refused = λ f. absurd (up-down (suits m.count) t f); taken = λ _. inr (refl, cut) }

pub answers-last : {m l : Model} (n : Model) (blocks : ℕ) (r : Result Unit Refusal) → suits m.count ≡ true → blocks ≡ m.count / 32
    → Persisted l (word 0 blocks ∷ []) r n
    → (CutIn l (word 0 blocks ∷ []) n → FormatCut blocks m n)
    → (AllMade l (word 0 blocks ∷ []) n → Settled n → Formatted blocks m n)
    → Formats m r n
answers-last {m} n blocks (Ok x) t e h cut done = record { refused = λ f. absurd (up-down (suits m.count) t f); taken = λ _. inl (refl, subst (λ b. Formatted b m n) e (done h.0 h.1)) }
answers-last {m} n blocks (Err f) t e h cut done = subst (λ y. Formats m (Err y) n) (sym h.1) (answers-cut t (subst (λ b. FormatCut b m n) e (cut h.0)))
