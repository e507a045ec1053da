-- A file of the table as a read finds it, and its bytes as they are loaded. Assumes nothing.
use Rattle.std.proofs.Common.{◌≡◌, ℕ, ◌+◌, ◌-◌, ◌*◌, ◌/◌, ◌%◌, ◌^◌, ◌<◌, ◌≤◌, min, Bool, true, false, cond, eqb, List, [], ◌∷◌, ◌++◌, length, get_or, take, drop, replicate, Err, sym, refl, ap, ◌∙◌, subst, inl, inr, ⊎_elim, arith}
use borrow.Rule.Slice.PartMut.{put_mid}
use lib.Bits.{bit_and}
use Rattle.std.proofs.lemmas.Nat.{and_mask}
use Rattle.std.proofs.lemmas.List.FromFn.{get_or-map-range_with_len, fill_by_all}
use Rattle.std.proofs.lemmas.List.{append-nil, length-take, length-drop, length-take-le, get_or-take, get_or-drop, drop_at, drop_all}
use Rattle.std.proofs.lemmas.Slice.{take-put_mid_below}
use Rattle.std.proofs.lemmas.Bool.{cases_Bool}
use Rattle.std.proofs.lemmas.Bool.Decides.{nat_tests}
use Rattle.memory.specs.Bytes.{byte_of, bytes_of}
use Rattle.memory.specs.Model.{Model}
use Rattle.memory.specs.Stores.{Words}
use Rattle.layout.specs.Image.{Same, in_block, root_word, map_of, length_of, file_byte, file_bytes, table_of}
use Rattle.layout.specs.Log.{Clean, HoldsFiles}
use Rattle.layout.specs.Names.{well_formed}
use Rattle.layout.specs.Table.{Table, Ask, read, done, on, answer, after, buffer}
use Rattle.layout.specs.Packed.{RootIn}
use Rattle.layout.specs.declared.root.Root.{Root}
use Rattle.layout.specs.Touch.{blocks_for}
use Rattle.images.proofs.Frame.{same-sound, same-holds_files}
use Rattle.images.proofs.Holding.{holds-own}
use Rattle.images.proofs.Lists.{map_same}
use Rattle.images.proofs.Pieces.{slot-data}
use Rattle.images.proofs.Slots.{bytes-length}
use Rattle.image_check.specs.Check.{MapGood}
use Rattle.image_check.specs.Directory.{slot_at}
use Rattle.image_check.specs.Reading.{Looked, LookedDown}
use Rattle.image_check.specs.Size.{suits}
use Rattle.image_check.specs.declared.refusal.Refusal.{Refusal}
use Rattle.image_check.specs.declared.refusal.Refusal.TheVariants.{PowerLost}
use Rattle.image_check.proofs.Looking.{looked-more, looked-down}
use Rattle.image_check.proofs.Mapping.{root-fits}
use Rattle.store.specs.Calls.{refused_reply, Changed, FileCall, FileOf, Opens}
use Rattle.store.specs.Read.{GoodFile, byte_at, bytes_from, Quiet}
use Rattle.store.specs.declared.file.OpenFile.{OpenFile}
use Rattle.store.proofs.Calling.{Named, Known, in-order, taken-call, looked-cut, cut-call, refused-by}
use Rattle.store.proofs.Finding.{found-bytes}
use Rattle.store.proofs.Recovery.{looked-settled}

-- a byte of a word, taken from its eight bytes
pub byte-indexed : (word k : ℕ) (bytes : List ℕ) → bytes ≡ bytes_of word → k < 8 → get_or bytes k 0 ≡ bit_and (word / 2 ^ (8 * k)) 255
byte-indexed word k bytes is lt = ap (λ bs. get_or bs k 0) is ∙ get_or-map-range_with_len (byte_of word) 0 8 k k 0 lt (omega arith) ∙ sym (and_mask (word / 2 ^ (8 * k)) 8)

-- a byte of the word that was loaded last
pub byte-loaded : {m k : Model} (map at b place block word : ℕ) → b ≡ at / 256 → place ≡ at % 256
    → 32 * in_block m.seen map (at / 256) + at % 256 / 8 < m.count → block ≡ m.seen (32 * map + b) → Looked m k → word ≡ k.seen (32 * block + place / 8)
    → bit_and (word / 2 ^ (8 * (place % 8))) 255 ≡ byte_at m.seen map at
byte-loaded {m} {k} map at b place block word is_b is-place inside is_block looked is_word =
    let byte : place % 8 ≡ at % 8 = omega arith in
    let held : block ≡ in_block m.seen map (at / 256) = is_block ∙ ap (λ x. m.seen (32 * map + x)) is_b in
    let from : 32 * block + place / 8 ≡ 32 * in_block m.seen map (at / 256) + at % 256 / 8 = omega arith in
    let is : word ≡ in_block m.seen (in_block m.seen map (at / 256)) (at % 256 / 8) = is_word ∙ ap k.seen from ∙ looked.seen (32 * in_block m.seen map (at / 256) + at % 256 / 8) inside in
    and_mask (word / 2 ^ (8 * (place % 8))) 8 ∙ ap (λ x. byte_of word x) byte ∙ ap (λ x. byte_of x (at % 8)) is

-- The places of the loads of a byte: of its block in the map, and then of its word in the block.
module _ {m : Model} (root : Root) (at map b : ℕ) (file : GoodFile m root) (within : at < root.length) (is_map : map ≡ root.map) (is_b : b ≡ at / 256) where
  here : at / 256 < blocks_for root.length
  here = omega (arith, within)

  pub map_within : 32 * map + b < m.count
  map_within = let small = file.map in let short = file.short in omega (arith, within)

  pub block_within : 32 * in_block m.seen map (at / 256) + at % 256 / 8 < m.count
  block_within = let d = file.good (at / 256) here in subst (λ x. 32 * in_block m.seen x (at / 256) + at % 256 / 8 < m.count) (sym is_map) (omega (arith, d))

  pub word_within : (block place : ℕ) → block ≡ m.seen (32 * map + b) → place ≡ at % 256 → 32 * block + place / 8 < m.count
  word_within block place is_block is-place =
      let held : block ≡ in_block m.seen map (at / 256) = is_block ∙ ap (λ x. m.seen (32 * map + x)) is_b in
      let inside = block_within in omega arith

-- a file that the memory holds, after loads
module _ {m k : Model} (root : Root) (looked : Looked m k) (file : GoodFile m root) where
  held : (j : ℕ) → j < blocks_for root.length → in_block k.seen root.map j ≡ in_block m.seen root.map j
  held j lt = let low = file.map in let short = file.short in looked.seen (32 * root.map + j) (omega arith)

  pub file-after : GoodFile k root
  file-after =
      let same = looked.fewer.same_count in
      record {
        small = omega (arith, file.small);
        map = omega (arith, file.map);
        short = file.short;
        good = λ j lt. let is = held j lt in let d = file.good j lt in (omega arith, omega arith);
      }

  pub byte-same : (at : ℕ) → at < root.length → byte_at k.seen root.map at ≡ byte_at m.seen root.map at
  byte-same at within =
      let here : at / 256 < blocks_for root.length = omega arith in
      let d = file.good (at / 256) here in
      ap (λ x. byte_of (in_block k.seen x (at % 256 / 8)) (at % 8)) (held (at / 256) here)
      ∙ ap (λ x. byte_of x (at % 8)) (looked.seen (32 * in_block m.seen root.map (at / 256) + at % 256 / 8) (omega arith))

read-after : (t : Table) (name : List ℕ) (offset count : ℕ) → after t (read name offset count) ≡ t
read-after t name offset count = go (eqb (answer t (read name offset count)).number 0)
  where
    go : (b : Bool) → cond b (record { blocks = t.blocks; files = t.files }) t ≡ t
    go true = refl
    go false = refl

-- a read gives the file's bytes from the offset on, as many as there are and as are asked for
part_length : (w : Words) (root offset count : ℕ) → length (take count (drop offset (file_bytes w root))) ≡ min count (length_of root - offset)
part_length w root offset count =
    length-take count (drop offset (file_bytes w root)) ∙ ap (min count) (length-drop offset (file_bytes w root) ∙ ap (λ x. x - offset) (bytes-length w root))

part_bytes : (w : Words) (root offset count given : ℕ) → given ≡ min count (length_of root - offset) → take count (drop offset (file_bytes w root)) ≡ bytes_from w (map_of root) offset given
part_bytes w root offset count given is =
    fill_by_all (λ k. byte_at w (map_of root) (offset + k)) (take count (drop offset (file_bytes w root))) given 0 (part_length w root offset count ∙ sym is) (λ k lt.
    get_or-take count (drop offset (file_bytes w root)) k 0 (omega arith)
    ∙ get_or-drop offset (file_bytes w root) k 0
    ∙ get_or-map-range_with_len (file_byte w root) 0 (length_of root) (offset + k) (offset + k) 0 (omega arith) (omega arith))

-- a buffer whose tail was cleared first: its front, and its tail
pub front_length : (given : ℕ) (old tail : List ℕ) → given ≤ length old → length (take given (put_mid given (length old - given) old tail)) ≡ given
front_length given old tail le = ap length (take-put_mid_below given (length old - given) old tail given (omega arith) le) ∙ length-take-le given old le

tail-zeros : (given : ℕ) (old tail : List ℕ) → given ≤ length old → tail ≡ replicate (length (take (length old - given) (drop given old))) 0 → drop given (put_mid given (length old - given) old tail) ≡ replicate (length old - given) 0
tail-zeros given old tail le is =
    let n = length old - given in
    let long : length (take n (drop given old)) ≡ n = simp (length-take, length-drop) (omega arith) in
    drop_at (take given old) (tail ++ drop n (drop given old)) given (length-take-le given old le)
    ∙ ap (λ xs. tail ++ xs) (drop_all n (drop given old) (simp length-drop (omega arith)))
    ∙ append-nil tail ∙ is ∙ ap (λ x. replicate x 0) long

size_few : (words : ℕ) → suits words ≡ true → words ≤ 32 * 4096
size_few words h = grind (arith, nat_tests)

-- a read that is done changes nothing
looked-changed : {m n : Model} (blocks : ℕ) (name : List ℕ) (offset count : ℕ) → 6 ≤ blocks → 32 * blocks ≤ m.count → Clean blocks m.seen → Looked m n → Changed blocks m (read name offset count) n
looked-changed {m} {n} blocks name offset count big size clean looked =
    let same : Same blocks m.seen n.seen = λ i lt. looked.seen i (omega arith) in
    record {
      up = looked.up;
      count = looked.fewer.same_count;
      clean = record { sound = same-sound blocks m.seen n.seen big same clean.sound; idle = same 8 (omega arith) ∙ clean.idle };
      holds = subst (HoldsFiles n.seen) (sym (read-after (table_of m.seen) name offset count)) (same-holds_files blocks m.seen n.seen (table_of m.seen) big same clean.sound (holds-own blocks m.seen clean.sound));
      settled = looked-settled looked;
      others = λ s b j lt name _ has less. let d = slot-data blocks m.seen s b clean.sound lt name has in same (32 * b + j) (omega arith);
    }

-- once the file is open, and its root word is read
module _ {m k : Model} (name : List ℕ) (f : OpenFile) (root : Root) (b : Known m k name (FileOf m.seen name) f) (at : RootIn (slot_at f.directory f.slot).root root) where
  abbrev word : ℕ
  word = root_word m.seen f.slot

  map-is : root.map ≡ map_of word
  map-is = at.map ∙ ap map_of (b.is.lists.roots f.slot f.inside)

  length-is : root.length ≡ length_of word
  length-is = at.length ∙ ap length_of (b.is.lists.roots f.slot f.inside)

  here-good : GoodFile m root
  here-good =
      let fits = root-fits (m.count / 32) word b.big (b.clean.sound.three f.slot f.inside b.is.named) in
      record {
        small = size_few m.count b.suitable;
        map = subst (λ x. x < m.count / 32) (sym map-is) fits.0;
        short = subst (λ x. x ≤ 8192) (sym length-is) fits.1;
        good = subst (λ x. MapGood (m.count / 32) m.seen x root.length) (sym map-is) (subst (MapGood (m.count / 32) m.seen (map_of word)) (sym length-is) (λ j lt. b.clean.sound.four f.slot j f.inside b.is.named lt));
      }

  pub open-good : GoodFile k root
  open-good = file-after root b.looked here-good

  -- what the file gave, and then zeros
  file-buffer : (offset count given : ℕ) → given ≡ min count (root.length - offset) → bytes_from k.seen root.map offset given ++ replicate (count - given) 0 ≡ buffer (table_of m.seen) name offset count
  file-buffer offset count given is =
      let is' : given ≡ min count (length_of word - offset) = subst (λ x. given ≡ min count (x - offset)) length-is is in
      let same = map_same (λ j. byte_at k.seen root.map (offset + j)) (λ j. byte_at m.seen root.map (offset + j)) 0 given (λ j lt. byte-same root b.looked here-good (offset + j) (omega arith)) in
      ap (λ xs. xs ++ replicate (count - given) 0) (same ∙ ap (λ x. bytes_from m.seen x offset given) map-is ∙ sym (part_bytes m.seen word offset count given is'))
      ∙ ap (λ x. take count (drop offset (file_bytes m.seen word)) ++ replicate (count - x) 0) (is' ∙ sym (part_length m.seen word offset count))
      ∙ sym (simp (b.formed, found-bytes name f b))

  pub file-filled : (offset from given : ℕ) (old front tail : List ℕ) → given ≡ min (length old) (root.length - offset) → from ≡ offset
      → front ≡ bytes_from k.seen root.map from (length (take given (put_mid given (length old - given) old tail)))
      → tail ≡ replicate (length (take (length old - given) (drop given old))) 0
      → front ++ drop given (put_mid given (length old - given) old tail) ≡ buffer (table_of m.seen) name offset (length old)
  file-filled offset from given old front tail is start loaded cleared =
      let le : given ≤ length old = omega arith in
      let whole : front ≡ bytes_from k.seen root.map offset given = loaded ∙ ap (bytes_from k.seen root.map from) (front_length given old tail le) ∙ ap (λ x. bytes_from k.seen root.map x given) start in
      ap (λ xs. xs ++ drop given (put_mid given (length old - given) old tail)) whole
      ∙ ap (λ xs. bytes_from k.seen root.map offset given ++ xs) (tail-zeros given old tail le cleared)
      ∙ file-buffer offset (length old) given is

  file-answer : (offset count given : ℕ) → given ≡ min count (root.length - offset) → answer (table_of m.seen) (read name offset count) ≡ done (given ∷ [])
  file-answer offset count given is =
      let says : answer (table_of m.seen) (read name offset count) ≡ done (min count (length (file_bytes m.seen word) - offset) ∷ []) = simp (b.formed, found-bytes name f b) in
      says ∙ ap (λ x. done (min count (x - offset) ∷ [])) (bytes-length m.seen word ∙ sym length-is) ∙ ap (λ x. done (x ∷ [])) (sym is)

  pub file-done : {n : Model} (offset count given : ℕ) → given ≡ min count (root.length - offset) → Looked k n → FileCall m (read name offset count) (done (given ∷ [])) n
  file-done {n} offset count given is later =
      let looked = looked-more b.looked later in
      taken-call (read name offset count) (done (given ∷ [])) (in-order (read name offset count) refl b.formed) b.suitable (inr (inr (record {
        was-up = b.looked.was-up;
        clean = b.clean;
        reply = sym (file-answer offset count given is);
        refused = λ no. absurd (no refl);
        done = λ _. looked-changed (m.count / 32) name offset count b.big b.size b.clean looked;
      })))

-- power was lost in the loads of the file
pub file-cut : {X : Type 0} {m k n : Model} {P : X → Type 0} {x : X} (a : Ask) (e : Refusal) → e ≡ PowerLost → Named a → Known m k (on a) P x → LookedDown k n → FileCall m a (refused_reply e) n
file-cut {X} {m} {k} {n} a e lost asks b down = cut-call a e lost asks b (looked-cut (m.count / 32) m n a b.big b.size (looked-down b.looked down))

-- opening the file stores nothing
pub opens-quiet : {X : Type 0} {m n : Model} {name : List ℕ} {P : X → Type 0} {missing : Type 0} (e : Refusal) → Opens m name P missing (Err e) n → Quiet m n
opens-quiet {X} {m} {n} {name} e opens = ⊎_elim sized (λ f. inl (opens.wrong f).1) (cases_Bool (well_formed name))
  where
    sized : well_formed name ≡ true → Quiet m n
    sized formed =
        ⊎_elim
        (λ t. ⊎_elim (refused-by _ (λ _. Quiet m n) (λ down. inr (inr down)) (λ _ bad. inr (inl bad.0)) e) (λ h. inr (inl h.1)) (opens.taken formed t))
        (λ f. inl (opens.size formed f).1)
        (cases_Bool (suits m.count))
