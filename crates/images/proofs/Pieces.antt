-- Where the pieces of a log entry lie: in file blocks, past block 2 and in no map. Assumes nothing.
use Rattle.std.proofs.Common.{◌≡◌, ℕ, zero, suc, ◌+◌, ◌*◌, ◌<◌, ◌≤◌, Bool, true, false, cond, not, ◌&&◌, eqb, ◌⊎◌, [], ◌∷◌, ◌++◌, map, sym, refl, ap, ◌∙◌, subst, inl, inr, ⊎_elim, arith}
use Rattle.std.proofs.lemmas.Bool.{true≢false, both_ways, eqb-true, or_cases, eq-eqb, ne_eqb, and_from, not_from_false, cond-true, or_left, or_right, cases_order}
use Rattle.std.specs.List.{range_with_len}
use Rattle.memory.specs.Model.{In}
use Rattle.memory.specs.Stores.{Words, word, values_at}
use Rattle.memory.specs.declared.word.Word.{Word}
use Rattle.memory.proofs.Putting.{in_either, values_at-append, values-either}
use Rattle.layout.specs.Lists.{member, distinct}
use Rattle.layout.specs.Touch.{blocks_for}
use Rattle.layout.specs.Image.{in_block, named, root_word, map_of, length_of, file_blocks, slot_blocks, DataBlock, GoodRoot, Rule4, Rule5}
use Rattle.layout.specs.Log.{log_slot, piece_of, no_piece, GoodPiece, Sound, putting_back, undoing}
use Rattle.images.proofs.Lists.{map_same, member-map, distinct_head, distinct-at, distinct-between}

-- the blocks of a named slot with a file that is not empty
slot_has : (w : Words) (s : ℕ) → named w s ≡ true → (root_word w s ≡ 0 → ⊥) → slot_blocks w s ≡ map_of (root_word w s) ∷ file_blocks w (root_word w s)
slot_has w s name full =
    cond-true (named w s && not (eqb (root_word w s) 0)) (map_of (root_word w s) ∷ file_blocks w (root_word w s)) []
    (and_from (named w s) (not (eqb (root_word w s) 0)) name (not_from_false (eqb (root_word w s) 0) (ne_eqb (root_word w s) 0 full)))

-- no file block is a map
pub map-apart : (w : Words) (s u b : ℕ) → Rule5 w → s < 16 → u < 16 → named w s ≡ true → (root_word w s ≡ 0 → ⊥) → named w u ≡ true → (root_word w u ≡ 0 → ⊥)
    → member b (file_blocks w (root_word w u)) ≡ true → b ≡ map_of (root_word w s) → ⊥
map-apart w s u b five lt ut name full name' full' has is = go (cases_order s u)
  where
    as-map : member b (slot_blocks w s) ≡ true
    as-map = subst (λ xs. member b xs ≡ true) (sym (slot_has w s name full)) (or_left (eqb b (map_of (root_word w s))) (member b (file_blocks w (root_word w s))) (eq-eqb b (map_of (root_word w s)) is))

    as-file : member b (slot_blocks w u) ≡ true
    as-file = subst (λ xs. member b xs ≡ true) (sym (slot_has w u name' full')) (or_right (eqb b (map_of (root_word w u))) (member b (file_blocks w (root_word w u))) has)

    twice : s ≡ u → ⊥
    twice e =
        let alone : distinct (map_of (root_word w u) ∷ file_blocks w (root_word w u)) ≡ true = subst (λ xs. distinct xs ≡ true) (slot_has w u name' full') (distinct-at (slot_blocks w) 0 16 u (omega arith) (omega arith) five) in
        both_ways (member (map_of (root_word w u)) (file_blocks w (root_word w u))) (distinct_head (map_of (root_word w u)) (file_blocks w (root_word w u)) alone).0
        (subst (λ x. member x (file_blocks w (root_word w u)) ≡ true) (is ∙ ap (λ x. map_of (root_word w x)) e) has)

    go : (s ≡ u) ⊎ ((s < u) ⊎ (u < s)) → ⊥
    go (inl e) = twice e
    go (inr (inl less)) = distinct-between (slot_blocks w) 0 16 b s u (omega arith) less (omega arith) five as-map as-file
    go (inr (inr more)) = distinct-between (slot_blocks w) 0 16 b u s (omega arith) more (omega arith) five as-file as-map

-- a file block of a named slot is a data block, and its file is not empty
pub file-data : (n : ℕ) (w : Words) (u b : ℕ) → Rule4 n w → u < 16 → named w u ≡ true → member b (file_blocks w (root_word w u)) ≡ true → DataBlock n b × (root_word w u ≡ 0 → ⊥)
file-data n w u b four ut name has =
    let r = member-map (in_block w (map_of (root_word w u))) 0 (blocks_for (length_of (root_word w u))) b has in
    let inside : r.0 < blocks_for (length_of (root_word w u)) = omega arith in
    (subst (DataBlock n) (sym r.2) (four u r.0 ut name inside), λ e. omega arith)

-- a block of a named slot is a data block
pub slot-data : (n : ℕ) (w : Words) (s b : ℕ) → Sound n w → s < 16 → named w s ≡ true → member b (slot_blocks w s) ≡ true → DataBlock n b
slot-data n w s b sound lt name h = go (named w s) (eqb (root_word w s) 0) refl h
  where
    root : GoodRoot n (root_word w s) → (root_word w s ≡ 0 → ⊥) → DataBlock n (map_of (root_word w s))
    root (inl z) some = absurd (some z)
    root (inr good) some = good.1

    go : (x y : Bool) → eqb (root_word w s) 0 ≡ y → member b (cond (x && not y) (map_of (root_word w s) ∷ file_blocks w (root_word w s)) []) ≡ true → DataBlock n b
    go false y e h = absurd (true≢false (sym h))
    go true true e h = absurd (true≢false (sym h))
    go true false e h =
        ⊎_elim (λ k. subst (DataBlock n) (sym (eqb-true b (map_of (root_word w s)) k)) (root (sound.three s lt name) (λ z. true≢false (sym (ap (λ x. eqb x 0) z) ∙ e))))
        (λ k. (file-data n w s b sound.four lt name k).0)
        (or_cases (eqb b (map_of (root_word w s))) (member b (file_blocks w (root_word w s))) h)

-- where words are stored at counted places
values-counted : (f : ℕ → Word) (a n i v : ℕ) → In v (values_at (map f (range_with_len a n)) i) → (j : ℕ) × (j < a + n) × (i ≡ (f j).at)
values-counted f a zero i v h = absurd h
values-counted f a (suc n) i v h = go (values-either (f a) (map f (range_with_len (a + 1) n)) i v h) (values-counted f (a + 1) n i v)
  where
    go : ((i ≡ (f a).at) × (v ≡ (f a).value)) ⊎ In v (values_at (map f (range_with_len (a + 1) n)) i)
        → (In v (values_at (map f (range_with_len (a + 1) n)) i) → (j : ℕ) × (j < (a + 1) + n) × (i ≡ (f j).at)) → (j : ℕ) × (j < a + suc n) × (i ≡ (f j).at)
    go (inl h) later = (a, omega arith, h.0)
    go (inr h) later = let r = later h in (r.0, omega arith, r.2)

-- place i lies in one of the file blocks of the slot in the log
abbrev pub InPiece : Words → ℕ → Type 0
InPiece w i = (b : ℕ) × (member b (file_blocks w (root_word w (log_slot w))) ≡ true) × (32 * b ≤ i) × (i < 32 * b + 32)

-- the store that puts word j of a piece back
abbrev back : Words → ℕ → ℕ → ℕ → Word
back w x old j = word (32 * (piece_of x).block + (piece_of x).first + j) (w (old + j))

putting_back-place : (w : Words) (x old i v : ℕ) → GoodPiece w x → In v (values_at (putting_back w x old) i) → InPiece w i
putting_back-place w x old i v good h = go (no_piece x) refl good h
  where
    go : (b : Bool) → no_piece x ≡ b → GoodPiece w x → In v (values_at (cond b [] (map (back w x old) (range_with_len 0 (piece_of x).count))) i) → InPiece w i
    go true e good h = absurd h
    go false e (inl none) h = absurd (both_ways (no_piece x) e none)
    go false e (inr good) h = let r = values-counted (back w x old) 0 (piece_of x).count i v h in ((piece_of x).block, good.3, omega arith, omega arith)

pub undoing-place : (w : Words) (i v : ℕ) → GoodPiece w (w 11) → GoodPiece w (w 12) → In v (values_at (undoing w) i) → InPiece w i
undoing-place w i v start end h =
    ⊎_elim (putting_back-place w (w 11) 32 i v start) (putting_back-place w (w 12) 48 i v end)
    (in_either v (values_at (putting_back w (w 11) 32) i) (values_at (putting_back w (w 12) 48) i) (subst (λ xs. In v xs) (values_at-append (putting_back w (w 11) 32) (putting_back w (w 12) 48) i) h))

-- what is put back rests on the entry and on block 1 alone
pub putting_back-same : (w v : Words) (x old : ℕ) → (no_piece x ≡ true) ⊎ ((piece_of x).count ≤ 16) → ((j : ℕ) → j < 16 → v (old + j) ≡ w (old + j)) → putting_back v x old ≡ putting_back w x old
putting_back-same w v x old short same = go (no_piece x) refl short
  where
    go : (b : Bool) → no_piece x ≡ b → (no_piece x ≡ true) ⊎ ((piece_of x).count ≤ 16) → cond b [] (map (back v x old) (range_with_len 0 (piece_of x).count)) ≡ cond b [] (map (back w x old) (range_with_len 0 (piece_of x).count))
    go true e short = refl
    go false e (inl none) = absurd (both_ways (no_piece x) e none)
    go false e (inr few) = map_same (back v x old) (back w x old) 0 (piece_of x).count (λ j lt. ap (word (32 * (piece_of x).block + (piece_of x).first + j)) (same j (omega arith)))

good-short : (w : Words) (x : ℕ) → GoodPiece w x → (no_piece x ≡ true) ⊎ ((piece_of x).count ≤ 16)
good-short w x (inl none) = inl none
good-short w x (inr good) = inr good.1

pub undoing-same : (w v : Words) → GoodPiece w (w 11) → GoodPiece w (w 12) → ((i : ℕ) → i < 96 → v i ≡ w i) → undoing v ≡ undoing w
undoing-same w v start end same =
    let first : putting_back v (v 11) 32 ≡ putting_back w (w 11) 32 = ap (λ x. putting_back v x 32) (same 11 (omega arith)) ∙ putting_back-same w v (w 11) 32 (good-short w (w 11) start) (λ j lt. same (32 + j) (omega arith)) in
    let last : putting_back v (v 12) 48 ≡ putting_back w (w 12) 48 = ap (λ x. putting_back v x 48) (same 12 (omega arith)) ∙ putting_back-same w v (w 12) 48 (good-short w (w 12) end) (λ j lt. same (48 + j) (omega arith)) in
    ap (λ xs. xs ++ putting_back v (v 12) 48) first ∙ ap (λ xs. putting_back w (w 11) 32 ++ xs) last
