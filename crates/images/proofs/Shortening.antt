-- The image that shortening a file makes. Assumes nothing.
use Rattle.std.proofs.Common.{◌≡◌, ℕ, ◌+◌, ◌*◌, ◌/◌, ◌%◌, ◌^◌, ◌<◌, ◌≤◌, true, not, eqb, List, [], ◌∷◌, ◌++◌, map, take, drop, sym, refl, ap, ◌∙◌, subst, inl, inr, ⊎_elim, arith}
use Rattle.std.proofs.lemmas.List.FromFn.{take-map-range_with_len}
use Rattle.std.proofs.lemmas.List.{take-append-drop}
use Rattle.std.proofs.lemmas.Bool.{ne_eqb, not_from_false, cond-true, cond-false, cases_eq, cases_order}
use Rattle.std.specs.List.{range_with_len}
use Rattle.memory.specs.Bytes.{byte_of, bytes_of}
use Rattle.memory.specs.Stores.{Words, word, one}
use Rattle.layout.specs.Names.{well_formed}
use Rattle.layout.specs.Touch.{blocks_for}
use Rattle.layout.specs.Table.{replace, with_bytes}
use Rattle.layout.specs.Image.{in_block, named, name_of, root_word, map_of, length_of, short_root, file_blocks, file_byte, file_bytes, files_of, DataBlock, GoodRoot}
use Rattle.layout.specs.Log.{Clean}
use Rattle.images.proofs.Directory.{Rooted, no-map, root_blocks, blocks-here, change-clean, rooted-change, rooted-files, files-replaced}
use Rattle.images.proofs.Naming.{rooting, rooting-beside, rooting-name, rooting-root}
use Rattle.images.proofs.Slots.{lone}

-- what a root of a shorter file gives: the first bytes, and the first blocks
record Cut (n : ℕ) (w : Words) (root len short : ℕ) : Type 0 where
  good : GoodRoot n short
  maps : (k : ℕ) → k < blocks_for (length_of short) → DataBlock n (in_block w (map_of short) k)
  bytes : file_bytes w short ≡ take len (file_bytes w root)
  rest : List ℕ
  front : root_blocks w root ≡ root_blocks w short ++ rest

cut-empty : (n : ℕ) (w : Words) (root : ℕ) → Cut n w root 0 0
cut-empty n w root = record { good = inl refl; maps = λ k kt. absurd (no-map k kt); bytes = refl; rest = root_blocks w root; front = refl }

-- A root with the same map and a length that is not zero.
module _ (n : ℕ) (w : Words) (root len short : ℕ) (some : len ≡ 0 → ⊥) (less : len ≤ length_of root) (m : map_of short ≡ map_of root) (l : length_of short ≡ len) where
  cut-bytes : file_bytes w short ≡ take len (file_bytes w root)
  cut-bytes =
      let bytes : ℕ → ℕ → List ℕ = λ y x. map (λ k. byte_of (in_block w (in_block w y (k / 256)) (k % 256 / 8)) (k % 8)) (range_with_len 0 x) in
      ap (λ y. bytes y (length_of short)) m ∙ ap (bytes (map_of root)) l ∙ sym (take-map-range_with_len (file_byte w root) 0 (length_of root) len less)

  cut-blocks : file_blocks w short ≡ take (blocks_for len) (file_blocks w root)
  cut-blocks =
      let blocks : ℕ → ℕ → List ℕ = λ y x. map (in_block w y) (range_with_len 0 (blocks_for x)) in
      ap (λ y. blocks y (length_of short)) m ∙ ap (blocks (map_of root)) l ∙ sym (take-map-range_with_len (in_block w (map_of root)) 0 (blocks_for (length_of root)) (blocks_for len) (omega arith))

  -- of a file that is not empty
  all_blocks : (r : ℕ) → (r ≡ 0 → ⊥) → root_blocks w r ≡ map_of r ∷ file_blocks w r
  all_blocks r full = cond-true (not (eqb r 0)) (map_of r ∷ file_blocks w r) [] (not_from_false (eqb r 0) (ne_eqb r 0 full))

  cut-front : root_blocks w root ≡ root_blocks w short ++ drop (blocks_for len) (file_blocks w root)
  cut-front =
      let rest = drop (blocks_for len) (file_blocks w root) in
      all_blocks root (λ e. omega arith)
      ∙ ap (λ xs. map_of root ∷ xs) (sym (take-append-drop (blocks_for len) (file_blocks w root)) ∙ ap (λ xs. xs ++ rest) (sym cut-blocks))
      ∙ ap (λ y. y ∷ (file_blocks w short ++ rest)) (sym m)
      ∙ ap (λ xs. xs ++ rest) (sym (all_blocks short (λ e. omega arith)))

  cut-maps : ((k : ℕ) → k < blocks_for (length_of root) → DataBlock n (in_block w (map_of root) k)) → (k : ℕ) → k < blocks_for (length_of short) → DataBlock n (in_block w (map_of short) k)
  cut-maps maps k kt = subst (λ y. DataBlock n (in_block w y k)) (sym m) (maps k (omega arith))

  cut-some : GoodRoot n root → short / 2 ^ 16 % 2 ^ 16 ≡ 0 → ((k : ℕ) → k < blocks_for (length_of root) → DataBlock n (in_block w (map_of root) k)) → Cut n w root len short
  cut-some good high maps = record { good = good-short good; maps = cut-maps maps; bytes = cut-bytes; rest = drop (blocks_for len) (file_blocks w root); front = cut-front }
    where
      good-short : GoodRoot n root → GoodRoot n short
      good-short (inl e) = absurd (none e)
        where
          none : root ≡ 0 → ⊥
          none e = omega arith
      good-short (inr h) = inr (high, subst (DataBlock n) (sym m) h.1, omega arith, omega arith)

cut : (n : ℕ) (w : Words) (root len : ℕ) → GoodRoot n root → len ≤ length_of root → ((k : ℕ) → k < blocks_for (length_of root) → DataBlock n (in_block w (map_of root) k)) → Cut n w root len (short_root root len)
cut n w root len good less maps =
    ⊎_elim
    (λ e. subst (λ y. Cut n w root y (short_root root y)) (sym e) (cut-empty n w root))
    (λ ne. subst (Cut n w root len) (sym (cond-false (eqb len 0) 0 (map_of root + 2 ^ 32 * len) (ne_eqb len 0 ne))) (cut-some n w root len (map_of root + 2 ^ 32 * len) ne less (omega arith) (omega arith) good (omega arith) maps))
    (cases_eq len 0)

pub shortening : (n : ℕ) (w : Words) (s : ℕ) → 6 ≤ n → Clean n w → s < 16 → named w s ≡ true → (len : ℕ) → len ≤ length_of (root_word w s)
    → let v = one (word (64 + (2 * s + 1)) (short_root (root_word w s) len)) w in Clean n v × (files_of v ≡ replace (name_of w s) (λ f. with_bytes (take len f.bytes) f) (files_of w))
shortening n w s big clean lt name len less = (
  change-clean n w v s lt clean (rooted-change n w v s short lt to new part.rest (blocks-here w s name ∙ part.front)),
  files-replaced n w v s lt clean to.beside (λ f. with_bytes (take len f.bytes) f) name (rooted-files n w v s short lt to ∙ ap (λ y. lone y (file_bytes w short)) is ∙ ap (lone (name_of w s)) part.bytes),
)
  where
    short : ℕ
    short = short_root (root_word w s) len

    v : Words
    v = rooting w s short

    part : Cut n w (root_word w s) len short
    part = cut n w (root_word w s) len (clean.sound.three s lt name) less (λ k kt. clean.sound.four s k lt name kt)

    is : name_of v s ≡ name_of w s
    is = ap bytes_of (rooting-name w s short)

    to : Rooted n w v s short
    to = record { beside = rooting-beside w s short; formed = ap well_formed is ∙ clean.sound.two.formed s lt name; is = rooting-root w s short; good = part.good; maps = part.maps }

    new : (u : ℕ) → u < 16 → (u ≡ s → ⊥) → named w u ≡ true → name_of w u ≡ name_of v s → ⊥
    new u ut ne h e =
        let same : name_of w u ≡ name_of w s = e ∙ is in
        ⊎_elim (λ k. ne k) (⊎_elim (λ k. clean.sound.two.differ u s k lt h same) (λ k. clean.sound.two.differ s u k ut name (sym same))) (cases_order u s)
