-- Lists joined from counted parts, split at one of the parts. Assumes nothing.
use Rattle.std.proofs.Common.{◌≡◌, ℕ, zero, suc, ◌+◌, ◌-◌, ◌<◌, ◌≤◌, Bool, true, false, cond, eqb, List, [], ◌∷◌, ◌++◌, length, sym, refl, ap, ◌∙◌, subst, ⊎_elim, append_assoc, arith, length-append}
use Rattle.std.proofs.lemmas.Bool.{both_ways, or_cases, or_left, or_right}
use Rattle.std.specs.List.{range_with_len, flat_map}
use Rattle.layout.specs.Lists.{member, distinct, Rearranged, none, keep, swap, again}
use Rattle.images.proofs.Lists.{member_right, distinct_head, distinct-right}

-- parts that are the same from a on
joined-from : {X : Type 0} (f g : ℕ → List X) (a n : ℕ) → ((u : ℕ) → a ≤ u → u < a + n → f u ≡ g u) → flat_map f (range_with_len a n) ≡ flat_map g (range_with_len a n)
joined-from f g a zero h = refl
joined-from f g a (suc n) h =
    let here = h a (omega arith) (omega arith) in
    let later = joined-from f g (a + 1) n (λ u low lt. h u (omega arith) (omega arith)) in
    cc

-- the part after the first m, of m + n + 1
joined-split : {X : Type 0} (f : ℕ → List X) (a m n s : ℕ) → a + m ≡ s → flat_map f (range_with_len a (m + suc n)) ≡ flat_map f (range_with_len a m) ++ (f s ++ flat_map f (range_with_len (s + 1) n))
joined-split f a zero n s e =
    let all : 0 + suc n ≡ suc n = omega arith in
    let same : a ≡ s = omega arith in
    ap (λ k. flat_map f (range_with_len a k)) all ∙ ap (λ x. f x ++ flat_map f (range_with_len (x + 1) n)) same
joined-split f a (suc m) n s e =
    let all : suc m + suc n ≡ suc (m + suc n) = omega arith in
    ap (λ k. flat_map f (range_with_len a k)) all
    ∙ ap (λ xs. f a ++ xs) (joined-split f (a + 1) m n s (omega arith))
    ∙ sym (append_assoc (f a) (flat_map f (range_with_len (a + 1) m)) (f s ++ flat_map f (range_with_len (s + 1) n)))

-- what stands before part s of sixteen, and after it
abbrev pub before : {X : Type 0} → (ℕ → List X) → ℕ → List X
before f s = flat_map f (range_with_len 0 s)

abbrev pub after : {X : Type 0} → (ℕ → List X) → ℕ → List X
after f s = flat_map f (range_with_len (s + 1) (15 - s))

pub split : {X : Type 0} (f : ℕ → List X) (s : ℕ) → s < 16 → flat_map f (range_with_len 0 16) ≡ before f s ++ (f s ++ after f s)
split f s lt =
    let whole : 16 ≡ s + suc (15 - s) = omega arith in
    ap (λ n. flat_map f (range_with_len 0 n)) whole ∙ joined-split f 0 s (15 - s) s (omega arith)

-- with the other parts the same
pub split-other : {X : Type 0} (f g : ℕ → List X) (s : ℕ) → s < 16 → ((u : ℕ) → u < 16 → (u ≡ s → ⊥) → g u ≡ f u) → flat_map g (range_with_len 0 16) ≡ before f s ++ (g s ++ after f s)
split-other f g s lt same =
    let low = joined-from g f 0 s (λ u least ut. same u (omega arith) (omega arith)) in
    let high = joined-from g f (s + 1) (15 - s) (λ u least ut. same u (omega arith) (omega arith)) in
    split g s lt ∙ ap (λ xs. xs ++ (g s ++ after g s)) low ∙ ap (λ xs. before f s ++ (g s ++ xs)) high

-- a list without a stretch of it
member-cut : (x : ℕ) (xs ys zs : List ℕ) → member x (xs ++ zs) ≡ true → member x (xs ++ (ys ++ zs)) ≡ true
member-cut x [] ys zs h = member_right x ys zs h
member-cut x (y ∷ xs) ys zs h = ⊎_elim (or_left (eqb x y) (member x (xs ++ (ys ++ zs)))) (λ k. or_right (eqb x y) (member x (xs ++ (ys ++ zs))) (member-cut x xs ys zs k)) (or_cases (eqb x y) (member x (xs ++ zs)) h)

distinct-cut : (xs ys zs : List ℕ) → distinct (xs ++ (ys ++ zs)) ≡ true → distinct (xs ++ zs) ≡ true
distinct-cut [] ys zs h = distinct-right ys zs h
distinct-cut (x ∷ xs) ys zs h = go (member x (xs ++ zs)) refl (distinct-cut xs ys zs (distinct_head x (xs ++ (ys ++ zs)) h).1)
  where
    go : (b : Bool) → member x (xs ++ zs) ≡ b → distinct (xs ++ zs) ≡ true → cond b false (distinct (xs ++ zs)) ≡ true
    go true e rest = absurd (both_ways (member x (xs ++ (ys ++ zs))) (distinct_head x (xs ++ (ys ++ zs)) h).0 (member-cut x xs ys zs e))
    go false e rest = rest

-- one part becomes a front of itself, and the others stay
pub distinct-front : (f g : ℕ → List ℕ) (s : ℕ) (rest : List ℕ) → s < 16 → ((u : ℕ) → u < 16 → (u ≡ s → ⊥) → g u ≡ f u) → f s ≡ g s ++ rest
    → distinct (flat_map f (range_with_len 0 16)) ≡ true → distinct (flat_map g (range_with_len 0 16)) ≡ true
distinct-front f g s rest lt same here h =
    let low = before f s in
    let high = after f s in
    let parts : flat_map f (range_with_len 0 16) ≡ low ++ ((g s ++ rest) ++ high) = split f s lt ∙ ap (λ xs. low ++ (xs ++ high)) here in
    let was : flat_map f (range_with_len 0 16) ≡ (low ++ g s) ++ (rest ++ high) = parts ∙ ap (λ xs. low ++ xs) (append_assoc (g s) rest high) ∙ sym (append_assoc low (g s) (rest ++ high)) in
    let is : flat_map g (range_with_len 0 16) ≡ (low ++ g s) ++ high = split-other f g s lt same ∙ sym (append_assoc low (g s) high) in
    subst (λ xs. distinct xs ≡ true) (sym is) (distinct-cut (low ++ g s) rest high (subst (λ xs. distinct xs ≡ true) was h))

-- one item more in the middle is one more at the end
item-last : {X : Type 0} (x : X) (xs : List X) → Rearranged (x ∷ xs) (xs ++ (x ∷ []))
item-last x [] = keep x none
item-last x (y ∷ xs) = again (swap x y xs) (keep y (item-last x xs))

pub item-between : {X : Type 0} (xs : List X) (x : X) (ys : List X) → Rearranged (xs ++ (x ∷ ys)) ((xs ++ ys) ++ (x ∷ []))
item-between [] x ys = item-last x ys
item-between (y ∷ xs) x ys = keep y (item-between xs x ys)

-- the count of items of parts of at most one item, and of parts of one item
pub parts-most : {X : Type 0} (f : ℕ → List X) (a n : ℕ) → ((u : ℕ) → length (f u) ≤ 1) → length (flat_map f (range_with_len a n)) ≤ n
parts-most f a zero h = omega arith
parts-most f a (suc n) h = omega (arith, length-append (f a) (flat_map f (range_with_len (a + 1) n)), h a, parts-most f (a + 1) n h)

pub parts-full : {X : Type 0} (f : ℕ → List X) (a n : ℕ) → ((u : ℕ) → u < a + n → length (f u) ≡ 1) → length (flat_map f (range_with_len a n)) ≡ n
parts-full f a zero h = refl
parts-full f a (suc n) h = omega (arith, length-append (f a) (flat_map f (range_with_len (a + 1) n)), h a (omega arith), parts-full f (a + 1) n (λ u lt. h u (omega arith)))
