-- What an image holds, whatever the order of its files. Assumes nothing.
use Rattle.std.proofs.Common.{◌≡◌, ℕ, zero, suc, ◌+◌, ◌<◌, ◌≤◌, Bool, true, false, cond, not, eqb, List, [], ◌∷◌, ◌++◌, length, take, sym, refl, ap, ◌∙◌, subst, ⊎_elim, arith}
use Rattle.std.proofs.lemmas.List.FromFn.{length-map-range_with_len}
use Rattle.std.proofs.lemmas.List.{length-append}
use Rattle.std.proofs.lemmas.List.Sums.{sum_by-append}
use Rattle.std.proofs.lemmas.Bool.{cases_Bool, and_from, or_from, cond-true}
use Rattle.std.proofs.lemmas.Bool.Decides.{nat_tests}
use Rattle.std.specs.List.{range_with_len, flat_map}
use Rattle.memory.specs.Stores.{Words}
use Rattle.layout.specs.Lists.{equal, Rearranged, again}
use Rattle.layout.specs.Touch.{blocks_for, called_for}
use Rattle.layout.specs.Table.{File, Table, Ask, create, write, read, shorten, rename, remove, find, used, free, with_bytes, with_name, written, answer, change, after, buffer}
use Rattle.layout.specs.Image.{Same, in_block, named, name_of, root_word, map_of, length_of, slot_blocks, file_byte, file_bytes, slot_files, files_of, table_of, GoodRoot, Rule2, Rule3}
use Rattle.layout.specs.Log.{Sound, Clean, HoldsFiles, LeadsToFiles}
use Rattle.images.proofs.Frame.{same-sound, same-holds_files}
use Rattle.images.proofs.Rearranging.{rearranged-refl, rearranged-length, rearranged-end, rearranged-used, equal-same, name_in, differ, find-rearranged, replace-rearranged}
use Rattle.images.proofs.Recovering.{recovered-idle}

-- the file of a named slot, and the files of k slots from slot a
abbrev slot_file : Words → ℕ → File
slot_file w s = record { name = name_of w s; bytes = file_bytes w (root_word w s) }

abbrev files_from : Words → ℕ → ℕ → List File
files_from w a k = flat_map (slot_files w) (range_with_len a k)

-- a name that no slot has is no file's
name_in-from : (w : Words) (n : List ℕ) (a k : ℕ) → ((s : ℕ) → a ≤ s → s < a + k → name_of w s ≡ n → ⊥) → name_in n (files_from w a k) ≡ false
name_in-from w n a zero h = refl
name_in-from w n a (suc k) h = go (named w a) (name_in-from w n (a + 1) k (λ s low high. h s (omega arith) (omega arith)))
  where
    other : equal (name_of w a) n ≡ false
    other = ⊎_elim (λ e. absurd (h a (omega arith) (omega arith) (equal-same (name_of w a) n e))) (λ e. e) (cases_Bool (equal (name_of w a) n))

    go : (b : Bool) → name_in n (files_from w (a + 1) k) ≡ false → name_in n (cond b (slot_file w a ∷ []) [] ++ files_from w (a + 1) k) ≡ false
    go true later = or_from (equal (name_of w a) n) (name_in n (files_from w (a + 1) k)) other later
    go false later = later

differ-from : (w : Words) → Rule2 w → (a k : ℕ) → a + k ≤ 16 → differ (files_from w a k) ≡ true
differ-from w two a zero le = refl
differ-from w two a (suc k) le = go (named w a) refl (differ-from w two (a + 1) k (omega arith))
  where
    go : (b : Bool) → named w a ≡ b → differ (files_from w (a + 1) k) ≡ true → differ (cond b (slot_file w a ∷ []) [] ++ files_from w (a + 1) k) ≡ true
    go true name later =
        let alone = name_in-from w (name_of w a) (a + 1) k (λ s low high e. two.differ a s (omega arith) (omega arith) name (sym e)) in
        and_from (not (name_in (name_of w a) (files_from w (a + 1) k))) (differ (files_from w (a + 1) k)) (ap not alone) later
    go false name later = later

pub files-differ : (w : Words) → Rule2 w → differ (files_of w) ≡ true
files-differ w two = differ-from w two 0 16 (omega arith)

-- two tables with one count of blocks, and with the same files in another order
pub record Alike (t u : Table) : Type 0 where
  pub blocks : t.blocks ≡ u.blocks
  pub files : Rearranged t.files u.files

pub alike-answer : (t u : Table) (a : Ask) → differ t.files ≡ true → Alike t u → answer t a ≡ answer u a
alike-answer t u a d alike = go a
  where
    finds : (n : List ℕ) → find n t.files ≡ find n u.files
    finds n = find-rearranged n d alike.files

    long : length t.files ≡ length u.files
    long = rearranged-length alike.files

    room : free t ≡ free u
    room = let same = rearranged-used alike.files in cc

    go : (a : Ask) → answer t a ≡ answer u a
    go (create n) = simp (finds n, long)
    go (write n offset bs) = simp (finds n, room)
    go (read n offset count) = simp (finds n)
    go (shorten n len) = simp (finds n)
    go (rename n m) = simp (finds n, finds m)
    go (remove n) = simp (finds n)

pub change-rearranged : (a : Ask) {xs ys : List File} → differ xs ≡ true → Rearranged xs ys → Rearranged (change xs a) (change ys a)
change-rearranged (create n) d h = rearranged-end (record { name = n; bytes = [] }) h
change-rearranged (write n offset bs) d h = replace-rearranged n (λ f. with_bytes (written f.bytes offset bs) f) d h
change-rearranged (read n offset count) d h = h
change-rearranged (shorten n len) d h = replace-rearranged n (λ f. with_bytes (take len f.bytes) f) d h
change-rearranged (rename n m) d h = replace-rearranged n (with_name m) d h
change-rearranged (remove n) d h = replace-rearranged n (λ f. []) d h

-- a table with other files
abbrev having : Table → List File → Table
having t fs = record { blocks = t.blocks; files = fs }

pub alike-after : (t u : Table) (a : Ask) → differ t.files ≡ true → Alike t u → Alike (after t a) (after u a)
alike-after t u a d alike = subst (λ r. Alike (after t a) (cond (eqb r.number 0) (having u (change u.files a)) u)) (alike-answer t u a d alike) (go (eqb (answer t a).number 0))
  where
    go : (b : Bool) → Alike (cond b (having t (change t.files a)) t) (cond b (having u (change u.files a)) u)
    go true = record { blocks = alike.blocks; files = change-rearranged a d alike.files }
    go false = alike

-- an image holds every table like one that it holds
pub holds-alike : (w : Words) (t u : Table) → Alike t u → HoldsFiles w t → HoldsFiles w u
holds-alike w t u alike holds = record {
  size = holds.size ∙ alike.blocks;
  files = again holds.files alike.files;
  each = holds.each;
  blocks = holds.blocks ∙ rearranged-used alike.files;
}

own-alike : (w : Words) (t : Table) → HoldsFiles w t → Alike (table_of w) t
own-alike w t holds = record { blocks = holds.size; files = holds.files }

pub holds-answer : (w : Words) (t : Table) (a : Ask) → Rule2 w → HoldsFiles w t → answer (table_of w) a ≡ answer t a
holds-answer w t a two holds = alike-answer (table_of w) t a (files-differ w two) (own-alike w t holds)

pub holds_after : (w v : Words) (t : Table) (a : Ask) → Rule2 w → HoldsFiles w t → HoldsFiles v (after (table_of w) a) → HoldsFiles v (after t a)
holds_after w v t a two holds = holds-alike v (after (table_of w) a) (after t a) (alike-after (table_of w) t a (files-differ w two) (own-alike w t holds))

pub holds-buffer : (w : Words) (t : Table) (n : List ℕ) (offset count : ℕ) → Rule2 w → HoldsFiles w t → buffer (table_of w) n offset count ≡ buffer t n offset count
holds-buffer w t n offset count two holds = simp (find-rearranged n (files-differ w two) holds.files)

-- a named slot has exactly the blocks that its length calls for
slot-each : (n : ℕ) (w : Words) (s : ℕ) → GoodRoot n (root_word w s) → named w s ≡ true → length (slot_blocks w s) ≡ called_for (length_of (root_word w s))
slot-each n w s good name =
    let long = length-map-range_with_len (in_block w (map_of (root_word w s))) 0 (blocks_for (length_of (root_word w s))) in
    grind (arith, nat_tests)

-- and so has an empty slot: none, for no file
slot-used : (n : ℕ) (w : Words) (s : ℕ) → (named w s ≡ true → GoodRoot n (root_word w s)) → length (slot_blocks w s) ≡ used (slot_files w s)
slot-used n w s good = ⊎_elim full empty (cases_Bool (named w s))
  where
    full : named w s ≡ true → length (slot_blocks w s) ≡ used (slot_files w s)
    full name =
        let blocks = slot-each n w s (good name) name in
        let called = ap called_for (length-map-range_with_len (file_byte w (root_word w s)) 0 (length_of (root_word w s))) in
        let files = ap used (cond-true (named w s) (slot_file w s ∷ []) [] name) in
        omega arith

    empty : named w s ≡ false → length (slot_blocks w s) ≡ used (slot_files w s)
    empty name = cc

used-from : (n : ℕ) (w : Words) → Rule3 n w → (a k : ℕ) → a + k ≤ 16 → length (flat_map (slot_blocks w) (range_with_len a k)) ≡ used (files_from w a k)
used-from n w three a zero le = refl
used-from n w three a (suc k) le =
    let blocks = length-append (slot_blocks w a) (flat_map (slot_blocks w) (range_with_len (a + 1) k)) in
    let files = sum_by-append (λ f. called_for (length f.bytes)) (slot_files w a) (files_from w (a + 1) k) in
    let here = slot-used n w a (three a (omega arith)) in
    let later = used-from n w three (a + 1) k (omega arith) in
    cc

pub holds-own : (n : ℕ) (w : Words) → Sound n w → HoldsFiles w (table_of w)
holds-own n w sound = record {
  size = refl;
  files = rearranged-refl (files_of w);
  each = λ s lt name. slot-each n w s (sound.three s lt name) name;
  blocks = used-from n w sound.three 0 16 (omega arith);
}

pub holds-files : (n : ℕ) (w : Words) (t : Table) → Sound n w → w 0 ≡ t.blocks → Rearranged (files_of w) t.files → HoldsFiles w t
holds-files n w t sound size files = holds-alike w (table_of w) t (record { blocks = size; files = files }) (holds-own n w sound)

-- an image whose log is free leads to what it holds
pub clean-leads : (n : ℕ) (w v : Words) (t : Table) → 6 ≤ n → Same n w v → Clean n w → HoldsFiles w t → LeadsToFiles n v t
clean-leads n w v t big same clean holds = record {
  sound = same-sound n w v big same clean.sound;
  holds = subst (λ u. HoldsFiles u t) (sym (recovered-idle v (same 8 (omega arith) ∙ clean.idle))) (same-holds_files n w v t big same clean.sound holds);
}
