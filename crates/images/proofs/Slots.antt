-- The sixteen slots of an image and the files that they name. Assumes nothing.
use Rattle.std.proofs.Common.{◌≡◌, ℕ, zero, suc, ◌+◌, ◌-◌, ◌<◌, ◌≤◌, Bool, true, false, cond, not, ◌&&◌, eqb, List, [], ◌∷◌, ◌++◌, length, Some, None, Option, refl, ap, ◌∙◌, subst, ⊎_elim, arith, length-append}
use Rattle.std.proofs.lemmas.List.FromFn.{length-map-range_with_len}
use Rattle.std.proofs.lemmas.Bool.{both_ways, eqb-true, eq-eqb, and_parts, and_from, cases_Bool, cond-true, cond-false}
use Rattle.std.specs.List.{range_with_len, flat_map}
use Rattle.memory.specs.Bytes.{bytes_of}
use Rattle.memory.specs.Stores.{Words}
use Rattle.layout.specs.Lists.{equal}
use Rattle.layout.specs.Table.{File, find, replace}
use Rattle.layout.specs.Image.{named, name_word, name_of, root_word, map_of, length_of, file_blocks, slot_blocks, file_byte, file_bytes, slot_files, files_of, Rule2}
use Rattle.images.proofs.Splits.{before, after, split, parts-most, parts-full}

-- `equal` decides whether lists are equal
equal-true : (xs ys : List ℕ) → equal xs ys ≡ true → xs ≡ ys
equal-true [] [] h = refl
equal-true [] (y ∷ ys) h = absurd (both_ways false refl h)
equal-true (x ∷ xs) [] h = absurd (both_ways false refl h)
equal-true (x ∷ xs) (y ∷ ys) h =
    let parts = and_parts (eqb x y) (equal xs ys) h in
    let head = eqb-true x y parts.0 in
    let tail = equal-true xs ys parts.1 in
    cc

equal-self : (xs : List ℕ) → equal xs xs ≡ true
equal-self [] = refl
equal-self (x ∷ xs) = and_from (eqb x x) (equal xs xs) (eq-eqb x x refl) (equal-self xs)

some-none : (bs : List ℕ) → ◌≡◌ {A = Option (List ℕ)} (Some bs) None → ⊥
some-none bs e = let z : ◌≡◌ {A = ℕ} 0 1 = cc in omega arith

-- a name that the files before do not have
find_past : (n : List ℕ) (fs gs : List File) → find n fs ≡ None → find n (fs ++ gs) ≡ find n gs
find_past n [] gs h = refl
find_past n (f ∷ fs) gs h = go (equal f.name n) h (find_past n fs gs)
  where
    go : (b : Bool) → cond b (Some f.bytes) (find n fs) ≡ None → (find n fs ≡ None → find n (fs ++ gs) ≡ find n gs) → cond b (Some f.bytes) (find n (fs ++ gs)) ≡ find n gs
    go true e rest = absurd (some-none f.bytes e)
    go false e rest = rest e

pub replace-past : (n : List ℕ) (by : File → List File) (fs gs : List File) → find n fs ≡ None → replace n by (fs ++ gs) ≡ fs ++ replace n by gs
replace-past n by [] gs h = refl
replace-past n by (f ∷ fs) gs h = go (equal f.name n) h (replace-past n by fs gs)
  where
    go : (b : Bool) → cond b (Some f.bytes) (find n fs) ≡ None → (find n fs ≡ None → replace n by (fs ++ gs) ≡ fs ++ replace n by gs)
        → cond b (by f ++ (fs ++ gs)) (f ∷ replace n by (fs ++ gs)) ≡ f ∷ (fs ++ replace n by gs)
    go true e rest = absurd (some-none f.bytes e)
    go false e rest = ap (λ xs. f ∷ xs) (rest e)

-- one file
abbrev pub lone : List ℕ → List ℕ → List File
lone name bytes = record { name = name; bytes = bytes } ∷ []

find-lone : (n name bytes : List ℕ) (fs : List File) → name ≡ n → find n (lone name bytes ++ fs) ≡ Some bytes
find-lone n name bytes fs e = cond-true (equal name n) (Some bytes) (find n fs) (subst (λ x. equal name x ≡ true) e (equal-self name))

pub replace-lone : (n name bytes : List ℕ) (by : File → List File) (fs : List File) → name ≡ n → replace n by (lone name bytes ++ fs) ≡ by (record { name = name; bytes = bytes }) ++ fs
replace-lone n name bytes by fs e =
    let f : File = record { name = name; bytes = bytes } in
    cond-true (equal name n) (by f ++ fs) (f ∷ replace n by fs) (subst (λ x. equal name x ≡ true) e (equal-self name))

-- a slot has one file or none
pub file-here : (w : Words) (s : ℕ) → named w s ≡ true → slot_files w s ≡ lone (name_of w s) (file_bytes w (root_word w s))
file-here w s name = cond-true (named w s) (lone (name_of w s) (file_bytes w (root_word w s))) [] name

pub no-file : (w : Words) (s : ℕ) → named w s ≡ false → slot_files w s ≡ []
no-file w s name = cond-false (named w s) (lone (name_of w s) (file_bytes w (root_word w s))) [] name

-- a slot whose two words stay has the same blocks if its map stays, and the same file if its bytes do
pub blocks-stay : (w v : Words) (s : ℕ) → name_word v s ≡ name_word w s → root_word v s ≡ root_word w s → (named w s ≡ true → file_blocks v (root_word w s) ≡ file_blocks w (root_word w s)) → slot_blocks v s ≡ slot_blocks w s
blocks-stay w v s name root same =
    let here : (name root : ℕ) → List ℕ = λ name root. cond (not (eqb name 0) && not (eqb root 0)) (map_of root ∷ file_blocks v root) [] in
    ap (λ x. here x (root_word v s)) name ∙ ap (here (name_word w s)) root ∙ go (named w s) refl
  where
    go : (b : Bool) → named w s ≡ b → cond (b && not (eqb (root_word w s) 0)) (map_of (root_word w s) ∷ file_blocks v (root_word w s)) [] ≡ cond (b && not (eqb (root_word w s) 0)) (map_of (root_word w s) ∷ file_blocks w (root_word w s)) []
    go true e = ap (λ xs. cond (not (eqb (root_word w s) 0)) (map_of (root_word w s) ∷ xs) []) (same e)
    go false e = refl

pub file-stays : (w v : Words) (s : ℕ) → name_word v s ≡ name_word w s → root_word v s ≡ root_word w s → (named w s ≡ true → file_bytes v (root_word w s) ≡ file_bytes w (root_word w s)) → slot_files v s ≡ slot_files w s
file-stays w v s name root same =
    let here : (name root : ℕ) → List File = λ name root. cond (not (eqb name 0)) (lone (bytes_of name) (file_bytes v root)) [] in
    ap (λ x. here x (root_word v s)) name ∙ ap (here (name_word w s)) root ∙ go (named w s) refl
  where
    go : (b : Bool) → named w s ≡ b → cond b (lone (name_of w s) (file_bytes v (root_word w s))) [] ≡ cond b (lone (name_of w s) (file_bytes w (root_word w s))) []
    go true e = ap (lone (name_of w s)) (same e)
    go false e = refl

slot-most : (w : Words) (s : ℕ) → length (slot_files w s) ≤ 1
slot-most w s = ⊎_elim (λ name. omega (arith, ap length (file-here w s name))) (λ none. omega (arith, ap length (no-file w s none))) (cases_Bool (named w s))

-- no slot of those counted has the name
find-other : (w : Words) (n : List ℕ) (a m : ℕ) → ((u : ℕ) → u < a + m → named w u ≡ true → name_of w u ≡ n → ⊥) → find n (flat_map (slot_files w) (range_with_len a m)) ≡ None
find-other w n a zero h = refl
find-other w n a (suc m) h = go (named w a) refl (find-other w n (a + 1) m (λ u lt. h u (omega arith)))
  where
    rest : List File
    rest = flat_map (slot_files w) (range_with_len (a + 1) m)

    go : (b : Bool) → named w a ≡ b → find n rest ≡ None → find n (cond b (lone (name_of w a) (file_bytes w (root_word w a))) [] ++ rest) ≡ None
    go true e later = ⊎_elim (λ k. absurd (h a (omega arith) e (equal-true (name_of w a) n k))) (λ k. cond-false (equal (name_of w a) n) (Some (file_bytes w (root_word w a))) (find n rest) k ∙ later) (cases_Bool (equal (name_of w a) n))
    go false e later = later

pub find_none : (w : Words) (n : List ℕ) → ((s : ℕ) → s < 16 → named w s ≡ true → name_of w s ≡ n → ⊥) → find n (files_of w) ≡ None
find_none w n h = find-other w n 0 16 (λ u lt. h u (omega arith))

-- no slot before has the name of slot s
pub find-before : (w : Words) (s : ℕ) → Rule2 w → s < 16 → find (name_of w s) (before (slot_files w) s) ≡ None
find-before w s two lt = find-other w (name_of w s) 0 s (λ u ut name e. two.differ u s (omega arith) lt name e)

pub find-slot : (w : Words) (s : ℕ) → Rule2 w → s < 16 → named w s ≡ true → find (name_of w s) (files_of w) ≡ Some (file_bytes w (root_word w s))
find-slot w s two lt name =
    let n = name_of w s in
    let low = before (slot_files w) s in
    let high = after (slot_files w) s in
    ap (find n) (split (slot_files w) s lt)
    ∙ find_past n low (slot_files w s ++ high) (find-before w s two lt)
    ∙ ap (λ xs. find n (xs ++ high)) (file-here w s name)
    ∙ find-lone n n (file_bytes w (root_word w s)) high refl

pub slots-full : (w : Words) → ((s : ℕ) → s < 16 → named w s ≡ true) → length (files_of w) ≡ 16
slots-full w h = parts-full (slot_files w) 0 16 (λ u lt. ap length (file-here w u (h u (omega arith))))

pub slots-room : (w : Words) (s : ℕ) → s < 16 → named w s ≡ false → length (files_of w) < 16
slots-room w s lt none =
    let low = before (slot_files w) s in
    let high = after (slot_files w) s in
    let parts : files_of w ≡ low ++ high = split (slot_files w) s lt ∙ ap (λ xs. low ++ (xs ++ high)) (no-file w s none) in
    omega (arith, ap length parts, length-append low high, parts-most (slot_files w) 0 s (slot-most w), parts-most (slot_files w) (s + 1) (15 - s) (slot-most w))

pub bytes-length : (w : Words) (root : ℕ) → length (file_bytes w root) ≡ length_of root
bytes-length w root = length-map-range_with_len (file_byte w root) 0 (length_of root)
