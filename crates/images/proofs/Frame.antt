-- Images that agree where the files lie have the same files. Assumes nothing.
use Rattle.std.proofs.Common.{◌≡◌, ℕ, ◌+◌, ◌*◌, ◌/◌, ◌%◌, ◌^◌, ◌<◌, ◌≤◌, true, not, eqb, ◌⊎◌, List, length, sym, ap, ◌∙◌, subst, inl, inr, ⊎_elim, arith}
use Rattle.memory.specs.Bytes.{byte_of, bytes_of}
use Rattle.memory.specs.Stores.{Words}
use Rattle.layout.specs.Lists.{member, distinct, Rearranged}
use Rattle.layout.specs.Names.{well_formed}
use Rattle.layout.specs.Touch.{blocks_for, called_for}
use Rattle.layout.specs.Table.{Table, find}
use Rattle.layout.specs.Image.{Same, in_block, named, name_word, root_word, map_of, length_of, file_blocks, slot_blocks, used_blocks, file_byte, file_bytes, slot_files, files_of, DataBlock, GoodRoot, Rule2, Rule3, Rule4, Rule5}
use Rattle.layout.specs.Log.{log_slot, piece_of, no_piece, GoodPiece, Sound, Holds, HoldsFiles}
use Rattle.images.proofs.Lists.{map_same, joined_same}
use Rattle.images.proofs.Slots.{blocks-stay, file-stays}

-- the images agree on the directory and on the map words that count
pub record SameMaps (w v : Words) : Type 0 where
  pub names : (s : ℕ) → s < 16 → name_word v s ≡ name_word w s
  pub roots : (s : ℕ) → s < 16 → root_word v s ≡ root_word w s
  pub maps : (s k : ℕ) → s < 16 → named w s ≡ true → k < blocks_for (length_of (root_word w s)) → in_block v (map_of (root_word w s)) k ≡ in_block w (map_of (root_word w s)) k

-- they agree on the words of the file blocks too
pub record SameFiles (w v : Words) : Type 0 where
  pub maps : SameMaps w v
  pub words : (s k j : ℕ) → s < 16 → named w s ≡ true → k < blocks_for (length_of (root_word w s)) → j < 32
      → in_block v (in_block w (map_of (root_word w s)) k) j ≡ in_block w (in_block w (map_of (root_word w s)) k) j

pub same-file_blocks : (w v : Words) → SameMaps w v → (s : ℕ) → s < 16 → named w s ≡ true → file_blocks v (root_word w s) ≡ file_blocks w (root_word w s)
same-file_blocks w v h s lt name =
    let m = map_of (root_word w s) in
    map_same (in_block v m) (in_block w m) 0 (blocks_for (length_of (root_word w s))) (λ k kt. h.maps s k lt name (omega arith))

pub same-slot_blocks : (w v : Words) → SameMaps w v → (s : ℕ) → s < 16 → slot_blocks v s ≡ slot_blocks w s
same-slot_blocks w v h s lt = blocks-stay w v s (h.names s lt) (h.roots s lt) (same-file_blocks w v h s lt)

pub same_blocks : (w v : Words) → SameMaps w v → used_blocks v ≡ used_blocks w
same_blocks w v h = joined_same (slot_blocks v) (slot_blocks w) 0 16 (same-slot_blocks w v h)

pub same-file_bytes : (w v : Words) → SameFiles w v → (s : ℕ) → s < 16 → named w s ≡ true → file_bytes v (root_word w s) ≡ file_bytes w (root_word w s)
same-file_bytes w v h s lt name =
    let root = root_word w s in
    map_same (file_byte v root) (file_byte w root) 0 (length_of root) (λ k kt.
    ap (λ b. byte_of (in_block v b (k % 256 / 8)) (k % 8)) (h.maps.maps s (k / 256) lt name (omega arith))
    ∙ ap (λ x. byte_of x (k % 8)) (h.words s (k / 256) (k % 256 / 8) lt name (omega arith) (omega arith)))

same-slot_files : (w v : Words) → SameFiles w v → (s : ℕ) → s < 16 → slot_files v s ≡ slot_files w s
same-slot_files w v h s lt = file-stays w v s (h.maps.names s lt) (h.maps.roots s lt) (same-file_bytes w v h s lt)

pub same-files : (w v : Words) → SameFiles w v → files_of v ≡ files_of w
same-files w v h = joined_same (slot_files v) (slot_files w) 0 16 (same-slot_files w v h)

was-named : (w v : Words) → SameMaps w v → (s : ℕ) → s < 16 → named v s ≡ true → named w s ≡ true
was-named w v h s lt name = subst (λ x. not (eqb x 0) ≡ true) (h.names s lt) name

-- rules 2 to 5 rest on the directory and the maps alone
pub same-rules : (n : ℕ) (w v : Words) → SameMaps w v → Rule2 w × Rule3 n w × Rule4 n w × Rule5 w → Rule2 v × Rule3 n v × Rule4 n v × Rule5 v
same-rules n w v h rules = (two, three, four, ap distinct (same_blocks w v h) ∙ rules.3)
  where
    two : Rule2 v
    two = record {
      formed = λ s lt name. subst (λ x. well_formed (bytes_of x) ≡ true) (sym (h.names s lt)) (rules.0.formed s lt (was-named w v h s lt name));
      differ = λ s u lt ut name e. rules.0.differ s u lt ut (was-named w v h s (omega arith) name) (ap bytes_of (sym (h.names s (omega arith))) ∙ e ∙ ap bytes_of (h.names u ut));
    }

    three : Rule3 n v
    three s lt name = subst (GoodRoot n) (sym (h.roots s lt)) (rules.1 s lt (was-named w v h s lt name))

    four : Rule4 n v
    four s k lt name kt =
        let was = was-named w v h s lt name in
        let inside : k < blocks_for (length_of (root_word w s)) = subst (λ x. k < blocks_for (length_of x)) (h.roots s lt) kt in
        subst (DataBlock n) (sym (ap (λ x. in_block v (map_of x) k) (h.roots s lt) ∙ h.maps s k lt was inside)) (rules.2 s k lt was inside)

-- they agree on the count of blocks and on the log entry, but v's may be freed
pub record SameLog (w v : Words) : Type 0 where
  pub size : v 0 ≡ w 0
  pub state : (v 8 ≡ w 8) ⊎ (v 8 ≡ 0)
  pub slot : v 9 ≡ w 9
  pub start : v 11 ≡ w 11
  pub end : v 12 ≡ w 12

-- what rule 6 says of an entry that is not free
abbrev Entry : Words → Type 0
Entry w = (log_slot w < 16) × (named w (log_slot w) ≡ true) × GoodPiece w (w 11) × GoodPiece w (w 12)

-- a good piece, by the file blocks of the slot
abbrev GoodIn : List ℕ → ℕ → Type 0
GoodIn blocks x = (no_piece x ≡ true) ⊎ (let p = piece_of x in (1 ≤ p.count) × (p.count ≤ 16) × (p.first + p.count ≤ 32) × (member p.block blocks ≡ true))

same-entry : (w v : Words) → SameMaps w v → SameLog w v → Entry w → Entry v
same-entry w v h log entry = (
  subst (λ x. x < 16) (sym slot) entry.0,
  subst (λ x. named v x ≡ true) (sym slot) (subst (λ x. not (eqb x 0) ≡ true) (sym (h.names (log_slot w) entry.0)) entry.1),
  piece (v 11) (w 11) log.start entry.2,
  piece (v 12) (w 12) log.end entry.3,
)
  where
    slot : log_slot v ≡ log_slot w
    slot = ap (λ x. x % 2 ^ 8) log.slot

    blocks : file_blocks v (root_word v (log_slot v)) ≡ file_blocks w (root_word w (log_slot w))
    blocks = ap (λ x. file_blocks v (root_word v x)) slot ∙ ap (file_blocks v) (h.roots (log_slot w) entry.0) ∙ same-file_blocks w v h (log_slot w) entry.0 entry.1

    piece : (y x : ℕ) → y ≡ x → GoodPiece w x → GoodPiece v y
    piece y x e good = subst (GoodPiece v) (sym e) (subst (λ xs. GoodIn xs x) (sym blocks) good)

-- the rules rest on the directory, the maps and the log alone
pub alike-sound : (n : ℕ) (w v : Words) → SameMaps w v → SameLog w v → Sound n w → Sound n v
alike-sound n w v h log sound =
    let rules = same-rules n w v h (sound.two, sound.three, sound.four, sound.five) in
    record {
      one = log.size ∙ sound.one;
      two = rules.0;
      three = rules.1;
      four = rules.2;
      five = rules.3;
      six = record {
        known = ⊎_elim (λ e. omega (arith, sound.six.known)) (λ e. omega arith) log.state;
        entry = λ busy. ⊎_elim (λ e. same-entry w v h log (sound.six.entry (λ z. busy (e ∙ z)))) (λ e. absurd (busy e)) log.state;
      };
    }

-- a map that counts lies in the memory
pub good-map : (n root k : ℕ) → GoodRoot n root → k < blocks_for (length_of root) → (k < 32) × DataBlock n (map_of root) × (root ≡ 0 → ⊥)
good-map n root k (inl e) kt = absurd (none e kt)
  where
    none : root ≡ 0 → k < blocks_for (length_of root) → ⊥
    none e kt = omega arith
good-map n root k (inr h) kt = (omega arith, h.1, λ e. omega arith)

-- all of this lies in the memory
same-image : (n : ℕ) (w v : Words) → 6 ≤ n → Same n w v → Sound n w → SameFiles w v
same-image n w v big same sound = record {
  maps = record {
    names = λ s lt. same (64 + 2 * s) (omega arith);
    roots = λ s lt. same (64 + (2 * s + 1)) (omega arith);
    maps = λ s k lt name kt. let g = good-map n (root_word w s) k (sound.three s lt name) kt in same (32 * map_of (root_word w s) + k) (omega arith);
  };
  words = λ s k j lt name kt jt. let d = sound.four s k lt name kt in same (32 * in_block w (map_of (root_word w s)) k + j) (omega arith);
}

-- an image that is the same in the whole memory
pub same-sound : (n : ℕ) (w v : Words) → 6 ≤ n → Same n w v → Sound n w → Sound n v
same-sound n w v big same sound =
    alike-sound n w v (same-image n w v big same sound).maps
    (record { size = same 0 (omega arith); state = inl (same 8 (omega arith)); slot = same 9 (omega arith); start = same 11 (omega arith); end = same 12 (omega arith) }) sound

pub same-holds : (n : ℕ) (w v : Words) (t : Table) → 6 ≤ n → Same n w v → Sound n w → Holds w t → Holds v t
same-holds n w v t big same sound holds =
    let h = same-image n w v big same sound in
    record {
      size = same 0 (omega arith) ∙ holds.size;
      same = λ m. ap (find m) (same-files w v h) ∙ holds.same m;
      many = ap length (same-files w v h) ∙ holds.many;
      each = λ s lt name. ap length (same-slot_blocks w v h.maps s lt) ∙ holds.each s lt (was-named w v h.maps s lt name) ∙ ap (λ x. called_for (length_of x)) (sym (h.maps.roots s lt));
      blocks = ap length (same_blocks w v h.maps) ∙ holds.blocks;
    }

pub same-holds_files : (n : ℕ) (w v : Words) (t : Table) → 6 ≤ n → Same n w v → Sound n w → HoldsFiles w t → HoldsFiles v t
same-holds_files n w v t big same sound holds =
    let h = same-image n w v big same sound in
    record {
      size = same 0 (omega arith) ∙ holds.size;
      files = subst (λ fs. Rearranged fs t.files) (sym (same-files w v h)) holds.files;
      each = λ s lt name. ap length (same-slot_blocks w v h.maps s lt) ∙ holds.each s lt (was-named w v h.maps s lt name) ∙ ap (λ x. called_for (length_of x)) (sym (h.maps.roots s lt));
      blocks = ap length (same_blocks w v h.maps) ∙ holds.blocks;
    }
