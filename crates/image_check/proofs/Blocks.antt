-- Lists of blocks in which none stands twice, and the set of blocks that holds them. Assumes nothing.
use Rattle.std.proofs.Common.{◌≡◌, ℕ, zero, suc, ◌+◌, ◌-◌, ◌<◌, ◌≤◌, true, false, not, ◌&&◌, ◌||◌, eqb, ltb, List, [], ◌∷◌, ◌++◌, map, drop, sym, refl, ap, ◌∙◌, subst, arith}
use Rattle.std.proofs.lemmas.List.FromFn.{take-map-range_with_len, map-range_with_len_more}
use Rattle.std.proofs.lemmas.List.{append-nil, append_assoc, take-append-drop}
use Rattle.std.proofs.lemmas.Bool.{false≢true, both_ways, lt-ltb}
use Rattle.std.proofs.lemmas.Bool.Decides.{nat_tests}
use Rattle.std.specs.List.{range_with_len, flat_map}
use Rattle.layout.specs.BlockSet.{has}
use Rattle.layout.specs.Lists.{member, distinct}
use Rattle.layout.specs.declared.block_set.BlockSet.{BlockSet}
use Rattle.images.proofs.Lists.{distinct_head}
use Rattle.image_check.specs.Check.{HasOnce}

member-append : (x : ℕ) (xs ys : List ℕ) → member x (xs ++ ys) ≡ (member x xs || member x ys)
member-append x [] ys = refl
member-append x (y ∷ xs) ys = let rest = member-append x xs ys in grind arith

-- the first numbers of a list in which none stands twice
distinct-left : (xs ys : List ℕ) → distinct (xs ++ ys) ≡ true → distinct xs ≡ true
distinct-left [] ys d = refl
distinct-left (x ∷ xs) ys d =
    let parts = distinct_head x (xs ++ ys) d in
    let at = member-append x xs ys in
    let rest = distinct-left xs ys parts.1 in
    grind (arith, nat_tests)

-- one more that is new, and one that is there already
distinct_push : (xs : List ℕ) (y : ℕ) → distinct xs ≡ true → member y xs ≡ false → distinct (xs ++ y ∷ []) ≡ true
distinct_push [] y d new = refl
distinct_push (x ∷ xs) y d new =
    let parts = distinct_head x xs d in
    let at = member-append x xs (y ∷ []) in
    let rest = distinct_push xs y parts.1 in
    grind (arith, nat_tests)

distinct-again : (xs ys : List ℕ) (y : ℕ) → member y xs ≡ true → distinct (xs ++ y ∷ ys) ≡ false
distinct-again [] ys y h = absurd (false≢true h)
distinct-again (x ∷ xs) ys y h =
    let at = member-append x xs (y ∷ ys) in
    let rest = distinct-again xs ys y in
    grind (arith, nat_tests)

-- what `insert` answers of a block, and the set then
module _ (old set : BlockSet) (block : ℕ) (xs : List ℕ) (small : block < 4096) (held : HasOnce old xs) where
  pub once-more : true ≡ (ltb block 4096 && not (has old block)) → ((b : ℕ) → has set b ≡ (has old b || (eqb b block && ltb block 4096))) → HasOnce set (xs ++ block ∷ [])
  once-more value after =
      let low = lt-ltb block 4096 small in
      let here = held.0 block in
      let new : member block xs ≡ false = grind arith in
      (λ b. let now = after b in let then = held.0 b in let at = member-append b xs (block ∷ []) in grind arith, distinct_push xs block held.1 new)

  pub twice : false ≡ (ltb block 4096 && not (has old block)) → distinct (xs ++ block ∷ []) ≡ false
  twice value =
      let low = lt-ltb block 4096 small in
      let here = held.0 block in
      let there : member block xs ≡ true = grind arith in
      distinct-again xs [] block there

-- blocks before those of a file, its map, and its first blocks
abbrev pub with_first : (ℕ → ℕ) → List ℕ → ℕ → ℕ → List ℕ
with_first f xs b k = xs ++ b ∷ map f (range_with_len 0 k)

pub with_next : (f : ℕ → ℕ) (xs : List ℕ) (b k x : ℕ) → x ≡ f k → with_first f xs b k ++ x ∷ [] ≡ with_first f xs b (k + 1)
with_next f xs b k x is = ap (λ y. with_first f xs b k ++ y ∷ []) is ∙ append_assoc xs (b ∷ map f (range_with_len 0 k)) (f k ∷ []) ∙ ap (λ l. xs ++ b ∷ l) (sym (map-range_with_len_more f 0 k k (omega arith)))

with-rest : (f : ℕ → ℕ) (xs : List ℕ) (b k n : ℕ) → k ≤ n → with_first f xs b n ≡ with_first f xs b k ++ drop k (map f (range_with_len 0 n))
with-rest f xs b k n le =
    let all = map f (range_with_len 0 n) in
    let split : all ≡ map f (range_with_len 0 k) ++ drop k all = sym (ap (λ l. l ++ drop k all) (sym (take-map-range_with_len f 0 n k le)) ∙ take-append-drop k all) in
    ap (λ l. xs ++ b ∷ l) split ∙ sym (append_assoc xs (b ∷ map f (range_with_len 0 k)) (drop k all))

-- none of them stands twice if none of them all does
with-once : (f : ℕ → ℕ) (xs : List ℕ) (b k n : ℕ) → k ≤ n → distinct (with_first f xs b n) ≡ true → distinct (with_first f xs b k) ≡ true
with-once f xs b k n le once = distinct-left (with_first f xs b k) (drop k (map f (range_with_len 0 n))) (ap distinct (sym (with-rest f xs b k n le)) ∙ once)

-- the map stands twice, and the next block does
pub map-twice : (f : ℕ → ℕ) (xs : List ℕ) (b n x : ℕ) → x ≡ b → distinct (xs ++ x ∷ []) ≡ false → distinct (with_first f xs b n) ≡ true → ⊥
map-twice f xs b n x is old once = both_ways (distinct (xs ++ x ∷ [])) old (ap (λ y. distinct (xs ++ y ∷ [])) is ∙ with-once f xs b 0 n (omega arith) once)

pub next-twice : (f : ℕ → ℕ) (xs : List ℕ) (b k n x : ℕ) → x ≡ f k → k < n → distinct (with_first f xs b k ++ x ∷ []) ≡ false → distinct (with_first f xs b n) ≡ true → ⊥
next-twice f xs b k n x is less old once = both_ways (distinct (with_first f xs b k ++ x ∷ [])) old (ap distinct (with_next f xs b k x is) ∙ with-once f xs b (k + 1) n (omega arith) once)

joined-split : (f : ℕ → List ℕ) (a n k m e : ℕ) → n + k ≡ m → a + n ≡ e → flat_map f (range_with_len a m) ≡ flat_map f (range_with_len a n) ++ flat_map f (range_with_len e k)
joined-split f a zero k m e p q = let same : m ≡ k = omega arith in let from : a ≡ e = omega arith in cc
joined-split f a (suc n) k zero e p q = absurd (omega arith)
joined-split f a (suc n) k (suc m) e p q = ap (λ l. f a ++ l) (joined-split f (a + 1) n k m e (omega arith) (omega arith)) ∙ sym (append_assoc (f a) (flat_map f (range_with_len (a + 1) n)) (flat_map f (range_with_len e k)))

joined-next : (f : ℕ → List ℕ) (s : ℕ) → flat_map f (range_with_len 0 (s + 1)) ≡ flat_map f (range_with_len 0 s) ++ f s
joined-next f s = joined-split f 0 s 1 (s + 1) s refl (omega arith) ∙ ap (λ l. flat_map f (range_with_len 0 s) ++ l) (append-nil (f s))

joined-rest : (f : ℕ → List ℕ) (s n : ℕ) → s < n → flat_map f (range_with_len 0 n) ≡ (flat_map f (range_with_len 0 s) ++ f s) ++ flat_map f (range_with_len (s + 1) (n - (s + 1)))
joined-rest f s n less = joined-split f 0 (s + 1) (n - (s + 1)) n (s + 1) (omega arith) (omega arith) ∙ ap (λ l. l ++ flat_map f (range_with_len (s + 1) (n - (s + 1)))) (joined-next f s)

-- blocks xs of part s, put in after those of the parts before it; and before the parts after it
pub held-next : (f : ℕ → List ℕ) (s : ℕ) (xs : List ℕ) (set : BlockSet) → f s ≡ xs → HasOnce set (flat_map f (range_with_len 0 s) ++ xs) → HasOnce set (flat_map f (range_with_len 0 (s + 1)))
held-next f s xs set is held = subst (HasOnce set) (ap (λ l. flat_map f (range_with_len 0 s) ++ l) (sym is) ∙ sym (joined-next f s)) held

pub held-same : (f : ℕ → List ℕ) (s : ℕ) (set : BlockSet) → f s ≡ [] → HasOnce set (flat_map f (range_with_len 0 s)) → HasOnce set (flat_map f (range_with_len 0 (s + 1)))
held-same f s set is held = held-next f s [] set is (subst (HasOnce set) (sym (append-nil (flat_map f (range_with_len 0 s)))) held)

pub once-before : (f : ℕ → List ℕ) (s n : ℕ) (xs : List ℕ) → s < n → f s ≡ xs → distinct (flat_map f (range_with_len 0 n)) ≡ true → distinct (flat_map f (range_with_len 0 s) ++ xs) ≡ true
once-before f s n xs less is once =
    let rest = flat_map f (range_with_len (s + 1) (n - (s + 1))) in
    distinct-left (flat_map f (range_with_len 0 s) ++ xs) rest (ap distinct (sym (joined-rest f s n less ∙ ap (λ l. (flat_map f (range_with_len 0 s) ++ l) ++ rest) is)) ∙ once)
