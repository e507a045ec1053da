-- The same items in another order, and the same files where names stand once. Assumes nothing.
use Rattle.std.proofs.Common.{◌≡◌, ℕ, suc, ◌+◌, Bool, true, false, cond, not, ◌&&◌, ◌||◌, eqb, List, [], ◌∷◌, ◌++◌, length, Some, sym, refl, ap, ◌∙◌, subst, arith}
use Rattle.std.proofs.lemmas.Bool.Decides.{nat_tests}
use Rattle.std.proofs.lemmas.Bool.{true≢false, both_ways, not-true, eqb-true, and_parts, or_parts}
use Rattle.std.proofs.lemmas.List.Sums.{sum_by-cons}
use Rattle.layout.specs.Lists.{equal, Rearranged, none, keep, swap, again}
use Rattle.layout.specs.Touch.{called_for}
use Rattle.layout.specs.Table.{File, find, replace, used}

pub rearranged-refl : {X : Type 0} (xs : List X) → Rearranged xs xs
rearranged-refl [] = none
rearranged-refl (x ∷ xs) = keep x (rearranged-refl xs)

pub rearranged-sym : {X : Type 0} {xs ys : List X} → Rearranged xs ys → Rearranged ys xs
rearranged-sym none = none
rearranged-sym (keep x h) = keep x (rearranged-sym h)
rearranged-sym (swap x y xs) = swap y x xs
rearranged-sym (again h k) = again (rearranged-sym k) (rearranged-sym h)

pub rearranged-length : {X : Type 0} {xs ys : List X} → Rearranged xs ys → length xs ≡ length ys
rearranged-length none = refl
rearranged-length (keep x h) = ap suc (rearranged-length h)
rearranged-length (swap x y xs) = refl
rearranged-length (again h k) = rearranged-length h ∙ rearranged-length k

-- with the same items before, and after
pub rearranged-before : {X : Type 0} {xs ys : List X} (zs : List X) → Rearranged xs ys → Rearranged (zs ++ xs) (zs ++ ys)
rearranged-before [] h = h
rearranged-before (z ∷ zs) h = keep z (rearranged-before zs h)

pub rearranged-after : {X : Type 0} {xs ys : List X} (zs : List X) → Rearranged xs ys → Rearranged (xs ++ zs) (ys ++ zs)
rearranged-after zs none = rearranged-refl zs
rearranged-after zs (keep x h) = keep x (rearranged-after zs h)
rearranged-after zs (swap x y xs) = swap x y (xs ++ zs)
rearranged-after zs (again h k) = again (rearranged-after zs h) (rearranged-after zs k)

pub rearranged-end : {X : Type 0} {xs ys : List X} (z : X) → Rearranged xs ys → Rearranged (xs ++ z ∷ []) (ys ++ z ∷ [])
rearranged-end z h = rearranged-after (z ∷ []) h

-- one item moved to the front, and to the end
pub rearranged-first : {X : Type 0} (z : X) (xs ys : List X) → Rearranged (xs ++ z ∷ ys) (z ∷ (xs ++ ys))
rearranged-first z [] ys = rearranged-refl (z ∷ ys)
rearranged-first z (x ∷ xs) ys = again (keep x (rearranged-first z xs ys)) (swap x z (xs ++ ys))

pub rearranged-last : {X : Type 0} (z : X) (xs ys : List X) → Rearranged (xs ++ z ∷ ys) ((xs ++ ys) ++ z ∷ [])
rearranged-last z (x ∷ xs) ys = keep x (rearranged-last z xs ys)
rearranged-last z [] [] = rearranged-refl (z ∷ [])
rearranged-last z [] (y ∷ ys) = again (swap z y ys) (keep y (rearranged-last z [] ys))

used-cons : (f : File) (fs : List File) → used (f ∷ fs) ≡ called_for (length f.bytes) + used fs
used-cons f fs = sum_by-cons (λ g. called_for (length g.bytes)) f fs

pub rearranged-used : {xs ys : List File} → Rearranged xs ys → used xs ≡ used ys
rearranged-used none = refl
rearranged-used (keep {xs} {ys} x h) = omega (arith, used-cons x xs, used-cons x ys, rearranged-used h)
rearranged-used (swap x y xs) = omega (arith, used-cons x (y ∷ xs), used-cons y xs, used-cons y (x ∷ xs), used-cons x xs)
rearranged-used (again h k) = rearranged-used h ∙ rearranged-used k

pub equal-same : (xs ys : List ℕ) → equal xs ys ≡ true → xs ≡ ys
equal-same [] [] h = refl
equal-same [] (y ∷ ys) h = absurd (true≢false (sym h))
equal-same (x ∷ xs) [] h = absurd (true≢false (sym h))
equal-same (x ∷ xs) (y ∷ ys) h =
    let parts = and_parts (eqb x y) (equal xs ys) h in
    let here = eqb-true x y parts.0 in
    let later = equal-same xs ys parts.1 in
    cc

equal-flip : (xs ys : List ℕ) → equal xs ys ≡ equal ys xs
equal-flip [] [] = refl
equal-flip [] (y ∷ ys) = refl
equal-flip (x ∷ xs) [] = refl
equal-flip (x ∷ xs) (y ∷ ys) = let later = equal-flip xs ys in grind (arith, nat_tests)

-- one of the files has that name
abbrev pub name_in : List ℕ → List File → Bool
name_in n [] = false
name_in n (f ∷ fs) = equal f.name n || name_in n fs

-- no two files have one name
abbrev pub differ : List File → Bool
differ [] = true
differ (f ∷ fs) = not (name_in f.name fs) && differ fs

pub name_in-rearranged : (n : List ℕ) {xs ys : List File} → Rearranged xs ys → name_in n xs ≡ name_in n ys
name_in-rearranged n none = refl
name_in-rearranged n (keep x h) = ap (λ (b : Bool). equal x.name n || b) (name_in-rearranged n h)
name_in-rearranged n (swap x y xs) = grind (arith, nat_tests)
name_in-rearranged n (again h k) = name_in-rearranged n h ∙ name_in-rearranged n k

pub differ-rearranged : {xs ys : List File} → Rearranged xs ys → differ xs ≡ differ ys
differ-rearranged none = refl
differ-rearranged (keep x h) =
    let here = name_in-rearranged x.name h in
    let later = differ-rearranged h in
    cc
differ-rearranged (swap x y xs) = let same = equal-flip x.name y.name in grind (arith, nat_tests)
differ-rearranged (again h k) = differ-rearranged h ∙ differ-rearranged k

pub differ-parts : (f : File) (fs : List File) → differ (f ∷ fs) ≡ true → (name_in f.name fs ≡ false) × (differ fs ≡ true)
differ-parts f fs d = let parts = and_parts (not (name_in f.name fs)) (differ fs) d in (not-true (name_in f.name fs) parts.0, parts.1)

-- of two files whose names differ, at most one has the name n
apart : (n : List ℕ) (x y : File) (xs : List File) → differ (x ∷ y ∷ xs) ≡ true → equal x.name n ≡ true → equal y.name n ≡ true → ⊥
apart n x y xs d p q =
    let other = (or_parts (equal y.name x.name) (name_in x.name xs) (differ-parts x (y ∷ xs) d).0).0 in
    both_ways (equal y.name x.name) other (subst (λ m. equal y.name m ≡ true) (sym (equal-same x.name n p)) q)

pub find-rearranged : (n : List ℕ) {xs ys : List File} → differ xs ≡ true → Rearranged xs ys → find n xs ≡ find n ys
find-rearranged n d none = refl
find-rearranged n d (keep {xs} x h) = ap (cond (equal x.name n) (Some x.bytes)) (find-rearranged n (differ-parts x xs d).1 h)
find-rearranged n d (swap x y xs) = go (equal x.name n) (equal y.name n) (apart n x y xs d)
  where
    go : (a b : Bool) → (a ≡ true → b ≡ true → ⊥) → cond a (Some x.bytes) (cond b (Some y.bytes) (find n xs)) ≡ cond b (Some y.bytes) (cond a (Some x.bytes) (find n xs))
    go true true not-both = absurd (not-both refl refl)
    go true false not-both = refl
    go false b not-both = refl
find-rearranged n d (again h k) = find-rearranged n d h ∙ find-rearranged n (sym (differ-rearranged h) ∙ d) k

pub replace-rearranged : (n : List ℕ) (by : File → List File) {xs ys : List File} → differ xs ≡ true → Rearranged xs ys → Rearranged (replace n by xs) (replace n by ys)
replace-rearranged n by d none = none
replace-rearranged n by d (keep {xs} {ys} x h) = go (equal x.name n) (replace-rearranged n by (differ-parts x xs d).1 h)
  where
    go : (a : Bool) → Rearranged (replace n by xs) (replace n by ys) → Rearranged (cond a (by x ++ xs) (x ∷ replace n by xs)) (cond a (by x ++ ys) (x ∷ replace n by ys))
    go true later = rearranged-before (by x) h
    go false later = keep x later
replace-rearranged n by d (swap x y xs) = go (equal x.name n) (equal y.name n) (apart n x y xs d)
  where
    go : (a b : Bool) → (a ≡ true → b ≡ true → ⊥)
        → Rearranged (cond a (by x ++ y ∷ xs) (x ∷ cond b (by y ++ xs) (y ∷ replace n by xs))) (cond b (by y ++ x ∷ xs) (y ∷ cond a (by x ++ xs) (x ∷ replace n by xs)))
    go true true not-both = absurd (not-both refl refl)
    go true false not-both = rearranged-first y (by x) xs
    go false true not-both = rearranged-sym (rearranged-first x (by y) xs)
    go false false not-both = swap x y (replace n by xs)
replace-rearranged n by d (again h k) = again (replace-rearranged n by d h) (replace-rearranged n by (sym (differ-rearranged h) ∙ d) k)
