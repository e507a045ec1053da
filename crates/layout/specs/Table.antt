-- The file table: what the file calls answer while power holds. It has up to sixteen files, each a name and its bytes.
use Rattle.std.specs.Prelude.{ℕ, ◌+◌, ◌-◌, min, Bool, true, false, cond, not, ◌&&◌, List, [], ◌∷◌, ◌++◌, length, take, drop, replicate, Some, None, sum_by, Option, ◌==◌, nat_le}
use Rattle.layout.specs.Lists.{equal}
use Rattle.layout.specs.Names.{well_formed}
use Rattle.layout.specs.Touch.{called_for, needed, copied_number}

pub record File : Type 0 where
  pub name : List ℕ
  pub bytes : List ℕ

-- the count of blocks of the memory, and the files
pub record Table : Type 0 where
  pub blocks : ℕ
  pub files : List File

-- what a file call asks for
pub data Ask : Type 0 where
  create : List ℕ → Ask
  write : List ℕ → ℕ → List ℕ → Ask
  read : List ℕ → ℕ → ℕ → Ask
  shorten : List ℕ → ℕ → Ask
  rename : List ℕ → List ℕ → Ask
  remove : List ℕ → Ask

-- an answer: 0 for done or the number of the refusal, and the numbers that it carries
pub record Reply : Type 0 where
  pub number : ℕ
  pub carries : List ℕ

abbrev pub done : List ℕ → Reply
done xs = record { number = 0; carries = xs }

abbrev pub refuse : ℕ → Reply
refuse n = record { number = n; carries = [] }

-- the bytes of the file of a name
abbrev pub find : List ℕ → List File → Option (List ℕ)
find n [] = None
find n (f ∷ fs) = cond (equal f.name n) (Some f.bytes) (find n fs)

-- the files with the file of a name replaced by none or another
abbrev pub replace : List ℕ → (File → List File) → List File → List File
replace n by [] = []
replace n by (f ∷ fs) = cond (equal f.name n) (by f ++ fs) (f ∷ replace n by fs)

abbrev pub with_bytes : List ℕ → File → List File
with_bytes bs f = record { name = f.name; bytes = bs } ∷ []

abbrev pub with_name : List ℕ → File → List File
with_name n f = record { name = n; bytes = f.bytes } ∷ []

-- the blocks that all files call for, and those left: the first three blocks hold no file
abbrev pub used : List File → ℕ
used fs = sum_by (λ f. called_for (length f.bytes)) fs

abbrev pub free : Table → ℕ
free t = t.blocks - 3 - used t.files

-- a file's bytes after a write: a gap past the old end is filled with zeros, and a write of no bytes leaves them alone
abbrev pub written : List ℕ → ℕ → List ℕ → List ℕ
written old offset [] = old
written old offset (b ∷ bs) = take offset old ++ (replicate (offset - length old) 0 ++ ((b ∷ bs) ++ drop (offset + length (b ∷ bs)) old))

-- the most bytes of a file
abbrev pub longest : ℕ
longest = 8192

-- the most files
abbrev pub most : ℕ
most = 16

abbrev found : {X : Type 0} → Option (List ℕ) → X → (List ℕ → X) → X
found None none some = none
found (Some bs) none some = some bs

abbrev is_found : Option (List ℕ) → Bool
is_found None = false
is_found (Some bs) = true

-- what the table answers: the first refusal that the call calls for, else done
abbrev pub answer : Table → Ask → Reply
answer t (create n) = cond (not (well_formed n)) (refuse 3) (cond (is_found (find n t.files)) (refuse 5) (cond (nat_le most (length t.files)) (refuse 6) (done [])))
answer t (write n offset bs) =
    cond (not (well_formed n)) (refuse 3)
    (cond (not (nat_le (offset + length bs) longest)) (refuse 7)
    (found (find n t.files) (refuse 4) λ old.
    cond (not (nat_le (needed (length old) offset (length bs)) (free t))) (refuse 8) (done (copied_number (length old) offset (length bs) ∷ []))))
answer t (read n offset count) = cond (not (well_formed n)) (refuse 3) (found (find n t.files) (refuse 4) λ old. done (min count (length old - offset) ∷ []))
answer t (shorten n len) = cond (not (well_formed n)) (refuse 3) (found (find n t.files) (refuse 4) λ old. cond (not (nat_le len (length old))) (refuse 7) (done []))
answer t (rename n m) = cond (not (well_formed n && well_formed m)) (refuse 3) (cond (not (is_found (find n t.files))) (refuse 4) (cond (is_found (find m t.files)) (refuse 5) (done [])))
answer t (remove n) = cond (not (well_formed n)) (refuse 3) (cond (not (is_found (find n t.files))) (refuse 4) (done []))

-- the files after a call that is done
abbrev pub change : List File → Ask → List File
change fs (create n) = fs ++ (record { name = n; bytes = [] } ∷ [])
change fs (write n offset bs) = replace n (λ f. with_bytes (written f.bytes offset bs) f) fs
change fs (read n offset count) = fs
change fs (shorten n len) = replace n (λ f. with_bytes (take len f.bytes) f) fs
change fs (rename n m) = replace n (with_name m) fs
change fs (remove n) = replace n (λ f. []) fs

-- the table after a call: a refusal changes nothing
abbrev pub after : Table → Ask → Table
after t a = cond ((answer t a).number == 0) (record { blocks = t.blocks; files = change t.files a }) t

-- the whole buffer of a read: what the file gave, and then zeros; of a refused read, zeros
abbrev pub buffer : Table → List ℕ → ℕ → ℕ → List ℕ
buffer t n offset count =
    let given = cond (well_formed n) (found (find n t.files) [] λ old. take count (drop offset old)) [] in
    given ++ replicate (count - length given) 0

-- the refusal that the arguments alone call for, whatever the files are
abbrev pub early : Ask → Option Reply
early (create n) = cond (well_formed n) None (Some (refuse 3))
early (write n offset bs) = cond (not (well_formed n)) (Some (refuse 3)) (cond (nat_le (offset + length bs) longest) None (Some (refuse 7)))
early (read n offset count) = cond (well_formed n) None (Some (refuse 3))
early (shorten n len) = cond (well_formed n) None (Some (refuse 3))
early (rename n m) = cond (well_formed n && well_formed m) None (Some (refuse 3))
early (remove n) = cond (well_formed n) None (Some (refuse 3))

-- the name that a call is on
abbrev pub on : Ask → List ℕ
on (create n) = n
on (write n offset bs) = n
on (read n offset count) = n
on (shorten n len) = n
on (rename n m) = n
on (remove n) = n
