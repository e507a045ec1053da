-- The words of a map, and the blocks that they name. Assumes nothing.
use Rattle.std.proofs.Common.{◌≡◌, ℕ, ◌+◌, ◌*◌, ◌<◌, ◌≤◌, true, false, not, ◌&&◌, eqb, ◌⊎◌, [], ◌∷◌, sym, ap, ◌∙◌, subst, inl, inr, arith}
use Rattle.std.proofs.lemmas.Bool.{cond-true, cond-false}
use Rattle.std.proofs.lemmas.Bool.Decides.{nat_tests}
use Rattle.memory.specs.Model.{Model}
use Rattle.memory.specs.Stores.{Words}
use Rattle.layout.specs.Image.{GoodRoot, DataBlock, in_block, map_of, length_of, file_blocks, name_word, root_word, named, slot_blocks}
use Rattle.layout.specs.Touch.{blocks_for}
use Rattle.image_check.specs.Check.{MapGood}
use Rattle.image_check.specs.Reading.{Looked}

-- the map words that count, of the file in slot s, are data blocks
abbrev pub MapsGood : ℕ → Words → ℕ → Type 0
MapsGood n w s = named w s ≡ true → MapGood n w (map_of (root_word w s)) (length_of (root_word w s))

-- a map word that counts stands in the memory
pub map-inside : (n b len k count : ℕ) → b < n → len ≤ 8192 → k < blocks_for len → 32 * n ≤ count → 32 * b + k < count
map-inside n b len k count low short less size = omega arith

-- the map of a good root word, and its length
pub root-fits : (blocks word : ℕ) → 6 ≤ blocks → GoodRoot blocks word → (map_of word < blocks) × (length_of word ≤ 8192)
root-fits blocks word some (inl e) = (omega arith, omega arith)
root-fits blocks word some (inr h) = (h.1.1, h.3)

-- the map of a good root word is good after loads if it is before them, and before them if it is after
module _ {m n : Model} (blocks word b len : ℕ) (looked : Looked m n) (size : 32 * blocks ≤ m.count) (some : 6 ≤ blocks) (root : GoodRoot blocks word) (at : b ≡ map_of word) (long : len ≡ length_of word) where
  same : (k : ℕ) → k < blocks_for len → in_block n.seen b k ≡ in_block m.seen (map_of word) k
  same k less =
      let fits = root-fits blocks word some root in
      ap (λ x. in_block n.seen x k) at ∙ looked.seen (32 * map_of word + k) (map-inside blocks (map_of word) len k m.count fits.0 (omega arith) less size)

  pub good-after : MapGood blocks m.seen (map_of word) (length_of word) → MapGood blocks n.seen b len
  good-after good k less = subst (DataBlock blocks) (sym (same k less)) (good k (omega arith))

-- the blocks of a slot whose words are known: with a file, and with none
pub slot-file : (w : Words) (s name root : ℕ) → name ≡ name_word w s → root ≡ root_word w s → (name ≡ 0 → ⊥) → (root ≡ 0 → ⊥) → slot_blocks w s ≡ map_of root ∷ file_blocks w root
slot-file w s name root is_name is-root known file =
    let there : (named w s && not (eqb (root_word w s) 0)) ≡ true = grind (arith, nat_tests) in
    cond-true (named w s && not (eqb (root_word w s) 0)) (map_of (root_word w s) ∷ file_blocks w (root_word w s)) [] there ∙ ap (λ x. map_of x ∷ file_blocks w x) (sym is-root)

pub slot-none : (w : Words) (s name root : ℕ) → name ≡ name_word w s → root ≡ root_word w s → (name ≡ 0) ⊎ (root ≡ 0) → slot_blocks w s ≡ []
slot-none w s name root is_name is-root h =
    let none : (named w s && not (eqb (root_word w s) 0)) ≡ false = grind (arith, nat_tests) in
    cond-false (named w s && not (eqb (root_word w s) 0)) (map_of (root_word w s) ∷ file_blocks w (root_word w s)) [] none
