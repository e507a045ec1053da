-- One slot of the directory changed: the rules hold on, and the files of the other slots stay. Assumes nothing.
use Rattle.std.proofs.Common.{◌≡◌, ℕ, ◌+◌, ◌*◌, ◌/◌, ◌%◌, ◌<◌, Bool, true, false, cond, not, ◌&&◌, eqb, ◌⊎◌, List, [], ◌∷◌, ◌++◌, sym, refl, ap, ◌∙◌, subst, inl, inr, ⊎_elim, arith}
use Rattle.std.proofs.lemmas.Bool.{both_ways, ne_eqb, not_from_false, cases_eq}
use Rattle.memory.specs.Bytes.{byte_of, bytes_of}
use Rattle.memory.specs.Stores.{Words}
use Rattle.layout.specs.Names.{well_formed}
use Rattle.layout.specs.Touch.{blocks_for}
use Rattle.layout.specs.Table.{File, replace}
use Rattle.layout.specs.Image.{in_block, named, name_word, name_of, root_word, map_of, length_of, file_blocks, slot_blocks, file_byte, file_bytes, slot_files, files_of, DataBlock, GoodRoot, Rule3, Rule4}
use Rattle.layout.specs.Log.{Clean}
use Rattle.images.proofs.Frame.{good-map}
use Rattle.images.proofs.Lists.{map_same}
use Rattle.images.proofs.Slots.{lone, find-before, replace-past, replace-lone, file-here, blocks-stay, file-stays}
use Rattle.images.proofs.Splits.{before, after, split, split-other, distinct-front}

-- the words are the same but for the two of slot s
abbrev pub Beside : Words → Words → ℕ → Type 0
Beside w v s = (i : ℕ) → (i ≡ 64 + 2 * s → ⊥) → (i ≡ 64 + (2 * s + 1) → ⊥) → v i ≡ w i

pub no_blocks : (w : Words) (s : ℕ) → named w s ≡ false → slot_blocks w s ≡ []
no_blocks w s none = ap (λ (b : Bool). cond (b && not (eqb (root_word w s) 0)) (map_of (root_word w s) ∷ file_blocks w (root_word w s)) []) none

-- an empty file has no map
pub no-map : (k : ℕ) → k < blocks_for (length_of 0) → ⊥
no-map k kt = omega arith

-- a word with a well formed name is not zero
pub formed-named : (w : Words) (s : ℕ) → well_formed (name_of w s) ≡ true → named w s ≡ true
formed-named w s h =
    ⊎_elim (λ e. absurd (both_ways (well_formed (bytes_of 0)) refl (subst (λ x. well_formed (bytes_of x) ≡ true) e h))) (λ ne. not_from_false (eqb (name_word w s) 0) (ne_eqb (name_word w s) 0 ne))
    (cases_eq (name_word w s) 0)

module _ (n : ℕ) (w v : Words) (s : ℕ) (lt : s < 16) (off : Beside w v s) where
  kept_map : (root k : ℕ) → GoodRoot n root → k < blocks_for (length_of root) → in_block v (map_of root) k ≡ in_block w (map_of root) k
  kept_map root k good kt = let g = good-map n root k good kt in off (32 * map_of root + k) (λ e. omega arith) (λ e. omega arith)

  pub kept-blocks : (root : ℕ) → GoodRoot n root → file_blocks v root ≡ file_blocks w root
  kept-blocks root good = map_same (in_block v (map_of root)) (in_block w (map_of root)) 0 (blocks_for (length_of root)) (λ k kt. kept_map root k good (omega arith))

  pub kept-bytes : (root : ℕ) → GoodRoot n root → ((k : ℕ) → k < blocks_for (length_of root) → DataBlock n (in_block w (map_of root) k)) → file_bytes v root ≡ file_bytes w root
  kept-bytes root good maps =
      map_same (file_byte v root) (file_byte w root) 0 (length_of root) (λ k kt.
      let d = maps (k / 256) (omega arith) in
      ap (λ b. byte_of (in_block v b (k % 256 / 8)) (k % 8)) (kept_map root (k / 256) good (omega arith))
      ∙ ap (λ x. byte_of x (k % 8)) (off (32 * in_block w (map_of root) (k / 256) + k % 256 / 8) (λ e. omega arith) (λ e. omega arith)))

  -- the other slots
  other_name : (u : ℕ) → (u ≡ s → ⊥) → name_word v u ≡ name_word w u
  other_name u ne = off (64 + 2 * u) (λ e. ne (omega arith)) (λ e. omega arith)

  other-root : (u : ℕ) → (u ≡ s → ⊥) → root_word v u ≡ root_word w u
  other-root u ne = off (64 + (2 * u + 1)) (λ e. omega arith) (λ e. ne (omega arith))

  other-named : (u : ℕ) → (u ≡ s → ⊥) → named v u ≡ true → named w u ≡ true
  other-named u ne name = subst (λ x. not (eqb x 0) ≡ true) (other_name u ne) name

  other-blocks : Rule3 n w → (u : ℕ) → u < 16 → (u ≡ s → ⊥) → slot_blocks v u ≡ slot_blocks w u
  other-blocks three u ut ne = blocks-stay w v u (other_name u ne) (other-root u ne) (λ name. kept-blocks (root_word w u) (three u ut name))

  other-files : Rule3 n w → Rule4 n w → (u : ℕ) → u < 16 → (u ≡ s → ⊥) → slot_files v u ≡ slot_files w u
  other-files three four u ut ne = file-stays w v u (other_name u ne) (other-root u ne) (λ name. kept-bytes (root_word w u) (three u ut name) (λ k kt. four u k ut name kt))

-- What slot s has to be after the change. If it is named, its name is well formed and new, and its root and map are good. Its blocks are the first of those that it had.
pub record Change (n : ℕ) (w v : Words) (s : ℕ) : Type 0 where
  pub beside : Beside w v s
  pub formed : named v s ≡ true → well_formed (name_of v s) ≡ true
  pub fresh : (u : ℕ) → u < 16 → (u ≡ s → ⊥) → named w u ≡ true → named v s ≡ true → name_of w u ≡ name_of v s → ⊥
  pub root : named v s ≡ true → GoodRoot n (root_word v s)
  pub maps : (k : ℕ) → named v s ≡ true → k < blocks_for (length_of (root_word v s)) → DataBlock n (in_block w (map_of (root_word v s)) k)
  pub rest : List ℕ
  pub front : slot_blocks w s ≡ slot_blocks v s ++ rest

module _ (n : ℕ) (w v : Words) (s : ℕ) (lt : s < 16) (clean : Clean n w) (change : Change n w v s) where
  -- by cases on whether the slot is s
  at : (P : ℕ → Type 0) (u : ℕ) → P s → ((u ≡ s → ⊥) → P u) → P u
  at P u here there = ⊎_elim (λ e. subst P (sym e) here) there (cases_eq u s)

  name-was : (u : ℕ) → (u ≡ s → ⊥) → named v u ≡ true → named w u ≡ true
  name-was = other-named n w v s lt change.beside

  same_name : (u : ℕ) → (u ≡ s → ⊥) → name_of v u ≡ name_of w u
  same_name u ne = ap bytes_of (other_name n w v s lt change.beside u ne)

  same-root : (u : ℕ) → (u ≡ s → ⊥) → root_word v u ≡ root_word w u
  same-root = other-root n w v s lt change.beside

  formed-after : (u : ℕ) → u < 16 → named v u ≡ true → well_formed (name_of v u) ≡ true
  formed-after u ut = at (λ u. named v u ≡ true → well_formed (name_of v u) ≡ true) u change.formed (λ ne name.
      subst (λ x. well_formed x ≡ true) (sym (same_name u ne)) (clean.sound.two.formed u ut (name-was u ne name)))

  good-after : Rule3 n v
  good-after u ut = at (λ u. named v u ≡ true → GoodRoot n (root_word v u)) u change.root (λ ne name.
      subst (GoodRoot n) (sym (same-root u ne)) (clean.sound.three u ut (name-was u ne name)))

  -- no other slot has the name of slot s
  alone : (u : ℕ) → u < 16 → (u ≡ s → ⊥) → named v u ≡ true → named v s ≡ true → name_of v u ≡ name_of v s → ⊥
  alone u ut ne name name' e = change.fresh u ut ne (name-was u ne name) name' (sym (same_name u ne) ∙ e)

  differ-after : (u x : ℕ) → u < x → x < 16 → named v u ≡ true → name_of v u ≡ name_of v x → ⊥
  differ-after u x less xt name e = go (cases_eq u s) (cases_eq x s)
    where
      name' : named v x ≡ true
      name' = formed-named v x (subst (λ y. well_formed y ≡ true) e (formed-after u (omega arith) name))

      go : (u ≡ s) ⊎ (u ≡ s → ⊥) → (x ≡ s) ⊎ (x ≡ s → ⊥) → ⊥
      go (inl is) (inl is') = omega arith
      go (inl is) (inr ne') = alone x xt ne' name' (subst (λ y. named v y ≡ true) is name) (sym e ∙ ap (name_of v) is)
      go (inr ne) (inl is') = alone u (omega arith) ne name (subst (λ y. named v y ≡ true) is' name') (e ∙ ap (name_of v) is')
      go (inr ne) (inr ne') = clean.sound.two.differ u x less xt (name-was u ne name) (sym (same_name u ne) ∙ e ∙ same_name x ne')

  map-was : (u k : ℕ) → u < 16 → named v u ≡ true → k < blocks_for (length_of (root_word v u)) → DataBlock n (in_block w (map_of (root_word v u)) k)
  map-was u k ut = at (λ u. named v u ≡ true → k < blocks_for (length_of (root_word v u)) → DataBlock n (in_block w (map_of (root_word v u)) k)) u (change.maps k) (λ ne name kt.
      subst (λ x. DataBlock n (in_block w (map_of x) k)) (sym (same-root u ne)) (clean.sound.four u k ut (name-was u ne name) (subst (λ x. k < blocks_for (length_of x)) (same-root u ne) kt)))

  maps_after : Rule4 n v
  maps_after u k ut name kt = subst (DataBlock n) (sym (kept_map n w v s lt change.beside (root_word v u) k (good-after u ut name) kt)) (map-was u k ut name kt)

  pub change-clean : Clean n v
  change-clean =
      let off = change.beside in
      let idle : v 8 ≡ 0 = off 8 (λ e. omega arith) (λ e. omega arith) ∙ clean.idle in
      record {
        sound = record {
          one = off 0 (λ e. omega arith) (λ e. omega arith) ∙ clean.sound.one;
          two = record { formed = formed-after; differ = differ-after };
          three = good-after;
          four = maps_after;
          five = distinct-front (slot_blocks w) (slot_blocks v) s change.rest lt (other-blocks n w v s lt off clean.sound.three) change.front clean.sound.five;
          six = record { known = omega arith; entry = λ busy. absurd (busy idle) };
        };
        idle = idle;
      }

-- the files before, those of slot s, and the files after
module _ (n : ℕ) (w v : Words) (s : ℕ) (lt : s < 16) (clean : Clean n w) (off : Beside w v s) where
  pub files-after : files_of v ≡ before (slot_files w) s ++ (slot_files v s ++ after (slot_files w) s)
  files-after = split-other (slot_files w) (slot_files v) s lt (other-files n w v s lt off clean.sound.three clean.sound.four)

  pub files-replaced : (by : File → List File) → named w s ≡ true → slot_files v s ≡ by (record { name = name_of w s; bytes = file_bytes w (root_word w s) }) → files_of v ≡ replace (name_of w s) by (files_of w)
  files-replaced by name here =
      let low = before (slot_files w) s in
      let high = after (slot_files w) s in
      let was : files_of w ≡ low ++ (lone (name_of w s) (file_bytes w (root_word w s)) ++ high) = split (slot_files w) s lt ∙ ap (λ xs. low ++ (xs ++ high)) (file-here w s name) in
      files-after
      ∙ ap (λ xs. low ++ (xs ++ high)) here
      ∙ ap (λ xs. low ++ xs) (sym (replace-lone (name_of w s) (name_of w s) (file_bytes w (root_word w s)) by high refl))
      ∙ sym (replace-past (name_of w s) by low (lone (name_of w s) (file_bytes w (root_word w s)) ++ high) (find-before w s clean.sound.two lt))
      ∙ ap (replace (name_of w s) by) (sym was)

-- a slot that has no name after the change
pub unnamed-change : (n : ℕ) (w v : Words) (s : ℕ) → Beside w v s → named v s ≡ false → Change n w v s
unnamed-change n w v s off none = record {
  beside = off;
  formed = λ name. absurd (both_ways (named v s) none name);
  fresh = λ u ut ne name name' e. both_ways (named v s) none name';
  root = λ name. absurd (both_ways (named v s) none name);
  maps = λ k name kt. absurd (both_ways (named v s) none name);
  rest = slot_blocks w s;
  front = ap (λ xs. xs ++ slot_blocks w s) (sym (no_blocks v s none));
}

-- the blocks of a file with that root
abbrev pub root_blocks : Words → ℕ → List ℕ
root_blocks w root = cond (not (eqb root 0)) (map_of root ∷ file_blocks w root) []

pub blocks-here : (w : Words) (s : ℕ) → named w s ≡ true → slot_blocks w s ≡ root_blocks w (root_word w s)
blocks-here w s name = ap (λ (b : Bool). cond (b && not (eqb (root_word w s) 0)) (map_of (root_word w s) ∷ file_blocks w (root_word w s)) []) name

-- a slot that has a good name and that root after the change
pub record Rooted (n : ℕ) (w v : Words) (s root : ℕ) : Type 0 where
  pub beside : Beside w v s
  pub formed : well_formed (name_of v s) ≡ true
  pub is : root_word v s ≡ root
  pub good : GoodRoot n root
  pub maps : (k : ℕ) → k < blocks_for (length_of root) → DataBlock n (in_block w (map_of root) k)

module _ (n : ℕ) (w v : Words) (s root : ℕ) (lt : s < 16) (to : Rooted n w v s root) where
  rooted-named : named v s ≡ true
  rooted-named = formed-named v s to.formed

  rooted-blocks : slot_blocks v s ≡ root_blocks w root
  rooted-blocks =
      blocks-here v s rooted-named ∙ ap (root_blocks v) to.is ∙ ap (λ xs. cond (not (eqb root 0)) (map_of root ∷ xs) []) (kept-blocks n w v s lt to.beside root to.good)

  pub rooted-files : slot_files v s ≡ lone (name_of v s) (file_bytes w root)
  rooted-files = file-here v s rooted-named ∙ ap (lone (name_of v s)) (ap (file_bytes v) to.is ∙ kept-bytes n w v s lt to.beside root to.good to.maps)

  pub rooted-change : ((u : ℕ) → u < 16 → (u ≡ s → ⊥) → named w u ≡ true → name_of w u ≡ name_of v s → ⊥) → (rest : List ℕ) → slot_blocks w s ≡ root_blocks w root ++ rest → Change n w v s
  rooted-change new rest front = record {
    beside = to.beside;
    formed = λ name. to.formed;
    fresh = λ u ut ne name name' e. new u ut ne name e;
    root = λ name. subst (GoodRoot n) (sym to.is) to.good;
    maps = λ k name kt. subst (λ y. DataBlock n (in_block w (map_of y) k)) (sym to.is) (to.maps k (subst (λ y. k < blocks_for (length_of y)) to.is kt));
    rest = rest;
    front = front ∙ ap (λ xs. xs ++ rest) (sym rooted-blocks);
  }
