-- Lists made from counted numbers, and lists in which no number stands twice. Assumes nothing.
use Rattle.std.proofs.Common.{◌≡◌, ℕ, zero, suc, ◌+◌, ◌<◌, ◌≤◌, Bool, true, false, cond, eqb, ◌⊎◌, List, [], ◌∷◌, ◌++◌, map, sym, refl, subst, inl, inr, ⊎_elim, arith}
use Rattle.std.proofs.lemmas.Bool.{true≢false, both_ways, eqb-true, cases_eq, or_cases, or_left, or_right}
use Rattle.std.specs.List.{range_with_len, flat_map}
use Rattle.layout.specs.Lists.{member, distinct}

pub map_same : {X : Type 0} (f g : ℕ → X) (a n : ℕ) → ((k : ℕ) → k < a + n → f k ≡ g k) → map f (range_with_len a n) ≡ map g (range_with_len a n)
map_same f g a zero h = refl
map_same f g a (suc n) h =
    let here = h a (omega arith) in
    let later = map_same f g (a + 1) n (λ k lt. h k (omega arith)) in
    cc

pub joined_same : {X : Type 0} (f g : ℕ → List X) (a n : ℕ) → ((s : ℕ) → s < a + n → f s ≡ g s) → flat_map f (range_with_len a n) ≡ flat_map g (range_with_len a n)
joined_same f g a zero h = refl
joined_same f g a (suc n) h =
    let here = h a (omega arith) in
    let later = joined_same f g (a + 1) n (λ s lt. h s (omega arith)) in
    cc

pub member-left : (x : ℕ) (xs ys : List ℕ) → member x xs ≡ true → member x (xs ++ ys) ≡ true
member-left x [] ys h = absurd (true≢false (sym h))
member-left x (y ∷ xs) ys h = ⊎_elim (or_left (eqb x y) (member x (xs ++ ys))) (λ k. or_right (eqb x y) (member x (xs ++ ys)) (member-left x xs ys k)) (or_cases (eqb x y) (member x xs) h)

pub member_right : (x : ℕ) (xs ys : List ℕ) → member x ys ≡ true → member x (xs ++ ys) ≡ true
member_right x [] ys h = h
member_right x (y ∷ xs) ys h = or_right (eqb x y) (member x (xs ++ ys)) (member_right x xs ys h)

-- a member of a list made from counted numbers
pub member-map : (f : ℕ → ℕ) (a n x : ℕ) → member x (map f (range_with_len a n)) ≡ true → (k : ℕ) × (k < a + n) × (x ≡ f k)
member-map f a zero x h = absurd (true≢false (sym h))
member-map f a (suc n) x h = go (or_cases (eqb x (f a)) (member x (map f (range_with_len (a + 1) n))) h) (member-map f (a + 1) n x)
  where
    go : (eqb x (f a) ≡ true) ⊎ (member x (map f (range_with_len (a + 1) n)) ≡ true)
        → (member x (map f (range_with_len (a + 1) n)) ≡ true → (k : ℕ) × (k < (a + 1) + n) × (x ≡ f k)) → (k : ℕ) × (k < a + suc n) × (x ≡ f k)
    go (inl e) later = (a, omega arith, eqb-true x (f a) e)
    go (inr k) later = let r = later k in (r.0, omega arith, r.2)

pub member-joined : (f : ℕ → List ℕ) (a n x s : ℕ) → a ≤ s → s < a + n → member x (f s) ≡ true → member x (flat_map f (range_with_len a n)) ≡ true
member-joined f a zero x s low high h = absurd (none low high)
  where
    none : a ≤ s → s < a + zero → ⊥
    none low high = omega arith
member-joined f a (suc n) x s low high h = go (cases_eq a s) (member-joined f (a + 1) n x s)
  where
    go : (a ≡ s) ⊎ (a ≡ s → ⊥) → (a + 1 ≤ s → s < (a + 1) + n → member x (f s) ≡ true → member x (flat_map f (range_with_len (a + 1) n)) ≡ true) → member x (f a ++ flat_map f (range_with_len (a + 1) n)) ≡ true
    go (inl e) later = member-left x (f a) (flat_map f (range_with_len (a + 1) n)) (subst (λ i. member x (f i) ≡ true) (sym e) h)
    go (inr ne) later = member_right x (f a) (flat_map f (range_with_len (a + 1) n)) (later (omega arith) (omega arith) h)

-- the parts of a list in which no number stands twice
pub distinct_head : (x : ℕ) (xs : List ℕ) → distinct (x ∷ xs) ≡ true → (member x xs ≡ false) × (distinct xs ≡ true)
distinct_head x xs h = go (member x xs) refl h
  where
    go : (b : Bool) → member x xs ≡ b → cond b false (distinct xs) ≡ true → (b ≡ false) × (distinct xs ≡ true)
    go true e k = absurd (true≢false (sym k))
    go false e k = (refl, k)

distinct-left : (xs ys : List ℕ) → distinct (xs ++ ys) ≡ true → distinct xs ≡ true
distinct-left [] ys h = refl
distinct-left (x ∷ xs) ys h = go (member x xs) refl (distinct-left xs ys (distinct_head x (xs ++ ys) h).1)
  where
    go : (b : Bool) → member x xs ≡ b → distinct xs ≡ true → cond b false (distinct xs) ≡ true
    go true e rest = absurd (both_ways (member x (xs ++ ys)) (distinct_head x (xs ++ ys) h).0 (member-left x xs ys e))
    go false e rest = rest

pub distinct-right : (xs ys : List ℕ) → distinct (xs ++ ys) ≡ true → distinct ys ≡ true
distinct-right [] ys h = h
distinct-right (x ∷ xs) ys h = distinct-right xs ys (distinct_head x (xs ++ ys) h).1

distinct_apart : (xs ys : List ℕ) (x : ℕ) → distinct (xs ++ ys) ≡ true → member x xs ≡ true → member x ys ≡ true → ⊥
distinct_apart [] ys x h p q = true≢false (sym p)
distinct_apart (y ∷ xs) ys x h p q =
    let d = distinct_head y (xs ++ ys) h in
    ⊎_elim
    (λ e. both_ways (member y (xs ++ ys)) d.0 (subst (λ i. member i (xs ++ ys) ≡ true) (eqb-true x y e) (member_right x xs ys q)))
    (λ k. distinct_apart xs ys x d.1 k q)
    (or_cases (eqb x y) (member x xs) p)

-- one part has no number twice, and two parts have none in common
pub distinct-at : (f : ℕ → List ℕ) (a n s : ℕ) → a ≤ s → s < a + n → distinct (flat_map f (range_with_len a n)) ≡ true → distinct (f s) ≡ true
distinct-at f a zero s low high h = absurd (none low high)
  where
    none : a ≤ s → s < a + zero → ⊥
    none low high = omega arith
distinct-at f a (suc n) s low high h = go (cases_eq a s) (distinct-at f (a + 1) n s)
  where
    go : (a ≡ s) ⊎ (a ≡ s → ⊥) → (a + 1 ≤ s → s < (a + 1) + n → distinct (flat_map f (range_with_len (a + 1) n)) ≡ true → distinct (f s) ≡ true) → distinct (f s) ≡ true
    go (inl e) later = subst (λ i. distinct (f i) ≡ true) e (distinct-left (f a) (flat_map f (range_with_len (a + 1) n)) h)
    go (inr ne) later = later (omega arith) (omega arith) (distinct-right (f a) (flat_map f (range_with_len (a + 1) n)) h)

pub distinct-between : (f : ℕ → List ℕ) (a n x s u : ℕ) → a ≤ s → s < u → u < a + n → distinct (flat_map f (range_with_len a n)) ≡ true → member x (f s) ≡ true → member x (f u) ≡ true → ⊥
distinct-between f a zero x s u low between high h p q = omega arith
distinct-between f a (suc n) x s u low between high h p q = go (cases_eq a s) (distinct-between f (a + 1) n x s u)
  where
    go : (a ≡ s) ⊎ (a ≡ s → ⊥) → (a + 1 ≤ s → s < u → u < (a + 1) + n → distinct (flat_map f (range_with_len (a + 1) n)) ≡ true → member x (f s) ≡ true → member x (f u) ≡ true → ⊥) → ⊥
    go (inl e) later = distinct_apart (f a) (flat_map f (range_with_len (a + 1) n)) x h (subst (λ i. member x (f i) ≡ true) (sym e) p) (member-joined f (a + 1) n x u (omega arith) (omega arith) q)
    go (inr ne) later = later (omega arith) between (omega arith) (distinct-right (f a) (flat_map f (range_with_len (a + 1) n)) h) p q
