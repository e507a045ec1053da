-- The log entry of an image: its pieces, and the blocks of its file. Assumes nothing.
use Rattle.std.proofs.Common.{◌≡◌, ℕ, zero, suc, ◌+◌, ◌<◌, ◌≤◌, true, false, eqb, ◌⊎◌, List, ◌∷◌, map, sym, ap, ◌∙◌, subst, inl, inr, arith}
use Rattle.std.proofs.lemmas.Bool.{cases_eq, eq-eqb, both_ways, or_left, or_right}
use Rattle.std.specs.List.{range_with_len}
use Rattle.memory.specs.Stores.{Words}
use Rattle.images.proofs.Lists.{member-map}
use Rattle.layout.specs.Image.{in_block, map_of, length_of, file_blocks}
use Rattle.layout.specs.Lists.{member}
use Rattle.layout.specs.Log.{no_piece, piece_of}
use Rattle.layout.specs.Touch.{blocks_for}
use Rattle.image_check.specs.Check.{PieceGood}

-- each number of a list made from counted numbers is in it
pub counted-member : (f : ℕ → ℕ) (a n k x : ℕ) → a ≤ k → k < a + n → x ≡ f k → member x (map f (range_with_len a n)) ≡ true
counted-member f a zero k x low high e = absurd (omega arith)
counted-member f a (suc n) k x low high e = go (cases_eq a k) (counted-member f (a + 1) n k x)
  where
    rest : List ℕ
    rest = map f (range_with_len (a + 1) n)

    go : (a ≡ k) ⊎ (a ≡ k → ⊥) → (a + 1 ≤ k → k < (a + 1) + n → x ≡ f k → member x rest ≡ true) → member x (f a ∷ rest) ≡ true
    go (inl here) later = or_left (eqb x (f a)) (member x rest) (eq-eqb x (f a) (e ∙ ap f (sym here)))
    go (inr past) later = or_right (eqb x (f a)) (member x rest) (later (omega arith) (omega arith) e)

-- a block is one of the file's, or no word of its map names it
pub block-there : (w : Words) (root block k : ℕ) → k < blocks_for (length_of root) → in_block w (map_of root) k ≡ block → member block (file_blocks w root) ≡ true
block-there w root block k less is = counted-member (in_block w (map_of root)) 0 (blocks_for (length_of root)) k block (omega arith) (omega arith) (sym is)

pub block-missing : (w : Words) (root block : ℕ) → ((k : ℕ) → k < blocks_for (length_of root) → in_block w (map_of root) k ≡ block → ⊥) → member block (file_blocks w root) ≡ true → ⊥
block-missing w root block none there =
    let at = member-map (in_block w (map_of root)) 0 (blocks_for (length_of root)) block there in
    none at.0 (omega (arith, at.1)) (sym at.2)

pub no-block : (w : Words) (root piece block : ℕ) → no_piece piece ≡ false → block ≡ (piece_of piece).block → ((k : ℕ) → k < blocks_for (length_of root) → in_block w (map_of root) k ≡ block → ⊥) → PieceGood w root piece → ⊥
no-block w root piece block some is none (inl empty) = both_ways (no_piece piece) some empty
no-block w root piece block some is none (inr good) = block-missing w root block none (subst (λ b. member b (file_blocks w root) ≡ true) (sym is) good.3)
