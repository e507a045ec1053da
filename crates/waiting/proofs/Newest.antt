-- The newest word for a place, and the words with one more. Assumes nothing.
use Rattle.std.proofs.Common.{min, ◌≡◌, ◌≢◌, MatchOption, ℕ, zero, suc, ◌+◌, ◌-◌, ◌<◌, Bool, true, false, cond, eqb, ltb, List, [], ◌∷◌, ◌++◌, length, get_or, take, drop, set, Some, None, Option, sym, refl, ap, ◌∙◌, subst, inl, inr, ⊎_elim, arith}
use lib.Seq.{take-set-lt}
use Rattle.std.proofs.lemmas.List.{drop_all, append-nil, drop-append-le, drop-set-add, length-append, length-drop, length-take, set_at, take_all}
use Rattle.std.proofs.lemmas.Bool.{cases_lt, eqb-true, eq-eqb, ne_eqb, lt-ltb, le-ltb}
use Rattle.memory.specs.Model.{In, Among}
use Rattle.memory.specs.Stores.{Words, word, one, put, values_at}
use Rattle.memory.specs.declared.word.Word.{Word}
use Rattle.memory.proofs.Putting.{in_either, one-here, one-other, put-append, put_same, values_at-append}
use Rattle.waiting.specs.Waits.{newest, newest_of, leaving, leaving_of, holding, holding_of}

-- ---- a search from the end

-- where no word is for the place, none is the newest
newest-nowhere : (ws : List Word) (i : ℕ) → ((k : ℕ) → k < length ws → (get_or ws k (word 0 0)).at ≢ i) → newest ws i ≡ None
newest-nowhere [] i h = refl
newest-nowhere (s ∷ ss) i h =
    let here = ne_eqb i s.at (λ e. h 0 (omega arith) (sym e)) in
    let later = newest-nowhere ss i (λ k lt. h (suc k) (omega arith)) in
    cc

-- a word for the place is the newest where none behind it is
newest-here : (ws : List Word) (i k : ℕ) → k < length ws → (get_or ws k (word 0 0)).at ≡ i → ((j : ℕ) → k < j → j < length ws → (get_or ws j (word 0 0)).at ≢ i) → newest ws i ≡ Some k
newest-here [] i k lt e h = absurd (omega arith)
newest-here (s ∷ ss) i zero lt e h =
    let here = eq-eqb i s.at (sym e) in
    let later = newest-nowhere ss i (λ j below. h (suc j) (omega arith) (omega arith)) in
    cc
newest-here (s ∷ ss) i (suc k) lt e h =
    ap (newest_of (eqb i s.at)) (newest-here ss i k (omega arith) e (λ j above below. h (suc j) (omega arith) (omega arith)))

pub newest-is : (ws : List Word) (i : ℕ) (r : Option ℕ) → MatchOption r ((k : ℕ) → k < length ws → (get_or ws k (word 0 0)).at ≢ i) (λ k. (k < length ws) × ((get_or ws k (word 0 0)).at ≡ i) × ((j : ℕ) → k < j → j < length ws → (get_or ws j (word 0 0)).at ≢ i)) → r ≡ newest ws i
newest-is ws i None h = sym (newest-nowhere ws i h)
newest-is ws i (Some k) h = sym (newest-here ws i k h.0 h.1 h.2)

-- ---- what the newest word tells

-- where no word is stored the words are as they were
pub put-none : (ws : List Word) (i : ℕ) (w : Words) → values_at ws i ≡ [] → put ws w i ≡ w i
put-none [] i w h = refl
put-none (s ∷ ss) i w h = go (eqb i s.at) refl h (put-none ss i (one s w))
  where
    go : (b : Bool) → eqb i s.at ≡ b → cond b (s.value ∷ values_at ss i) (values_at ss i) ≡ [] → (values_at ss i ≡ [] → put ss (one s w) i ≡ one s w i) → put ss (one s w) i ≡ w i
    go true e none rest = let z : ◌≡◌ {A = ℕ} 0 1 = cc in absurd (omega arith)
    go false e none rest = rest none ∙ ap (λ (b : Bool). cond b s.value (w i)) e

-- the newest word stands inside, and is the one seen
abbrev Told : List Word → ℕ → Option ℕ → Type 0
Told ws i (Some k) = (k < length ws) × ((w : Words) → put ws w i ≡ (get_or ws k (word 0 0)).value)
Told ws i None = values_at ws i ≡ []

told : (ws : List Word) (i : ℕ) → Told ws i (newest ws i)
told [] i = refl
told (s ∷ ss) i = go (eqb i s.at) refl (newest ss i) (told ss i)
  where
    go : (b : Bool) → eqb i s.at ≡ b → (o : Option ℕ) → Told ss i o → Told (s ∷ ss) i (newest_of b o)
    go b e (Some k) h = (omega (arith, h.0), λ w. h.1 (one s w))
    go true e None h = (omega arith, λ w. put-none ss i (one s w) h ∙ ap (λ (b : Bool). cond b s.value (w i)) e)
    go false e None h = ap (λ (b : Bool). cond b (s.value ∷ values_at ss i) (values_at ss i)) e ∙ h

pub newest-some : (ws : List Word) (i k : ℕ) → newest ws i ≡ Some k → (k < length ws) × ((w : Words) → put ws w i ≡ (get_or ws k (word 0 0)).value)
newest-some ws i k e = subst (Told ws i) e (told ws i)

pub newest-none : (ws : List Word) (i : ℕ) → newest ws i ≡ None → values_at ws i ≡ []
newest-none ws i e = subst (Told ws i) e (told ws i)

-- ---- one word more

-- ys is xs with v stored last at place i: no other place changed
pub record Held (xs : List Word) (i v : ℕ) (ys : List Word) : Type 0 where
  pub here : (w : Words) → put ys w i ≡ v
  pub elsewhere : (w : Words) (j : ℕ) → (j ≡ i → ⊥) → put ys w j ≡ put xs w j
  pub may_here : Among (values_at ys i) (v ∷ values_at xs i)
  pub may-elsewhere : (j : ℕ) → (j ≡ i → ⊥) → values_at ys j ≡ values_at xs j

here-one : (i v : ℕ) → values_at (word i v ∷ []) i ≡ v ∷ []
here-one i v = ap (λ (b : Bool). cond b (v ∷ []) []) (eq-eqb i i refl)

elsewhere-one : (s : Word) (ss : List Word) (j : ℕ) → (j ≡ s.at → ⊥) → values_at (s ∷ ss) j ≡ values_at ss j
elsewhere-one s ss j ne = ap (λ (b : Bool). cond b (s.value ∷ values_at ss j) (values_at ss j)) (ne_eqb j s.at ne)

pub pushed : (ws : List Word) (i v : ℕ) → Held ws i v (ws ++ word i v ∷ [])
pushed ws i v = record {
  here = λ w. ap (λ (x : Words). x i) (put-append ws (word i v ∷ []) w) ∙ one-here (word i v) (put ws w);
  elsewhere = λ w j ne. ap (λ (x : Words). x j) (put-append ws (word i v ∷ []) w) ∙ one-other (word i v) j (put ws w) ne;
  may_here = λ u h. ⊎_elim inr (λ k. inl (⊎_elim (λ e. e) (λ x. absurd x) (subst (In u) (here-one i v) k))) (in_either u (values_at ws i) (values_at (word i v ∷ []) i) (subst (In u) (values_at-append ws (word i v ∷ []) i) h));
  may-elsewhere = λ j ne. values_at-append ws (word i v ∷ []) j ∙ ap (λ xs. values_at ws j ++ xs) (elsewhere-one (word i v) [] j ne) ∙ append-nil (values_at ws j);
}

-- the word at the front replaced, where no other is for the place
front : (s : Word) (ss : List Word) (v : ℕ) → values_at ss s.at ≡ [] → Held (s ∷ ss) s.at v (word s.at v ∷ ss)
front s ss v none = record {
  here = λ w. put-none ss s.at (one (word s.at v) w) none ∙ one-here (word s.at v) w;
  elsewhere = λ w j ne. put_same ss (one (word s.at v) w) (one s w) j (one-other (word s.at v) j w ne ∙ sym (one-other s j w ne));
  may_here = λ u. go u (eqb s.at s.at);
  may-elsewhere = λ j ne. elsewhere-one (word s.at v) ss j ne ∙ sym (elsewhere-one s ss j ne);
}
  where
    go : (u : ℕ) (b : Bool) → In u (cond b (v ∷ values_at ss s.at) (values_at ss s.at)) → In u (v ∷ cond b (s.value ∷ values_at ss s.at) (values_at ss s.at))
    go u true (inl e) = inl e
    go u true (inr k) = inr (inr k)
    go u false k = inr k

behind : (s : Word) {ss ts : List Word} {i v : ℕ} → Held ss i v ts → Held (s ∷ ss) i v (s ∷ ts)
behind s {ss} {ts} {i} {v} h = record {
  here = λ w. h.here (one s w);
  elsewhere = λ w j ne. h.elsewhere (one s w) j ne;
  may_here = λ u. go u (eqb i s.at);
  may-elsewhere = λ j ne. ap (λ xs. cond (eqb j s.at) (s.value ∷ xs) xs) (h.may-elsewhere j ne);
}
  where
    go : (u : ℕ) (b : Bool) → In u (cond b (s.value ∷ values_at ts i) (values_at ts i)) → In u (v ∷ cond b (s.value ∷ values_at ss i) (values_at ss i))
    go u true (inl e) = inr (inl e)
    go u true (inr k) = ⊎_elim inl (λ x. inr (inr x)) (h.may_here u k)
    go u false k = h.may_here u k

-- the newest word for the place replaced
abbrev Replaced : List Word → ℕ → ℕ → Option ℕ → Type 0
Replaced ws i v (Some k) = Held ws i v (set ws k (word i v))
Replaced ws i v None = Unit {0}

replaced : (ws : List Word) (i v : ℕ) → Replaced ws i v (newest ws i)
replaced [] i v = tt
replaced (s ∷ ss) i v = go (eqb i s.at) refl (newest ss i) (told ss i) (replaced ss i v)
  where
    go : (b : Bool) → eqb i s.at ≡ b → (o : Option ℕ) → Told ss i o → Replaced ss i v o → Replaced (s ∷ ss) i v (newest_of b o)
    go b e (Some k) h r = behind s r
    go true e None h r =
        let same : i ≡ s.at = eqb-true i s.at e in
        subst (λ j. Held (s ∷ ss) j v (word j v ∷ ss)) (sym same) (front s ss v (subst (λ j. values_at ss j ≡ []) same h))
    go false e None h r = tt

-- where no word has to leave, the new one is held beside the others
pub held : (ws : List Word) (i v : ℕ) → leaving ws i ≡ None → Held ws i v (holding ws i v)
held ws i v none = go (newest ws i) (replaced ws i v) none
  where
    room : (b : Bool) (s : Word) (ss : List Word) → cond b None (Some s) ≡ None → cond b (s ∷ ss) ss ≡ s ∷ ss
    room true s ss e = refl
    room false s ss e = let z : ◌≡◌ {A = ℕ} 0 1 = cc in absurd (omega arith)

    stay : (xs : List Word) → leaving_of None xs ≡ None → cond (ltb (length xs) 8) xs (drop 1 xs) ≡ xs
    stay [] e = refl
    stay (s ∷ ss) e = room (ltb (length (s ∷ ss)) 8) s ss e

    go : (o : Option ℕ) → Replaced ws i v o → leaving_of o ws ≡ None → Held ws i v (holding_of o ws i v)
    go (Some k) r e = r
    go None r e = subst (λ xs. Held ws i v (xs ++ word i v ∷ [])) (sym (stay ws e)) (pushed ws i v)

-- the word that has to leave is the oldest, and the new one is held behind the others
pub left : (ws : List Word) (i v : ℕ) (o : Word) → leaving ws i ≡ Some o → (rest : List Word) × (ws ≡ o ∷ rest) × (holding ws i v ≡ rest ++ word i v ∷ [])
left ws i v o some = go (newest ws i) ws some
  where
    full : (b : Bool) (s : Word) (ss : List Word) → cond b None (Some s) ≡ Some o
        → (rest : List Word) × (s ∷ ss ≡ o ∷ rest) × (cond b (s ∷ ss) ss ++ word i v ∷ [] ≡ rest ++ word i v ∷ [])
    full true s ss e = let z : ◌≡◌ {A = ℕ} 0 1 = cc in absurd (omega arith)
    full false s ss e = let same : s ≡ o = cc in (ss, ap (λ (x : Word). x ∷ ss) same, refl)

    go : (n : Option ℕ) (xs : List Word) → leaving_of n xs ≡ Some o → (rest : List Word) × (xs ≡ o ∷ rest) × (holding_of n xs i v ≡ rest ++ word i v ∷ [])
    go (Some k) xs e = let z : ◌≡◌ {A = ℕ} 0 1 = cc in absurd (omega arith)
    go None [] e = let z : ◌≡◌ {A = ℕ} 0 1 = cc in absurd (omega arith)
    go None (s ∷ ss) e = full (ltb (length (s ∷ ss)) 8) s ss e

-- ---- of the eight words of a buffer, those from free on

newest-below : (free : ℕ) (xs : List Word) (i k : ℕ) → newest (drop free (take 8 xs)) i ≡ Some k → free + k < 8
newest-below free xs i k e =
    let inside = (newest-some (drop free (take 8 xs)) i k e).0 in omega (arith, length-drop free (take 8 xs), length-take 8 xs)

-- no word has to leave while there is room
pub room : (free : ℕ) (xs : List Word) (i : ℕ) → 0 < free → leaving (drop free (take 8 xs)) i ≡ None
room free xs i lt = go (newest (drop free (take 8 xs)) i) (drop free (take 8 xs)) (simp (length-drop, length-take) (omega arith))
  where
    go : (o : Option ℕ) (ws : List Word) → length ws < 8 → leaving_of o ws ≡ None
    go (Some k) ws few = refl
    go None [] few = refl
    go None (s ∷ ss) few = ap (λ (b : Bool). cond b None (Some s)) (lt-ltb (length (s ∷ ss)) 8 few)

pub hold-replaced : (free : ℕ) (xs : List Word) (i v k : ℕ) → newest (drop free (take 8 xs)) i ≡ Some k → drop free (take 8 (set xs (free + k) (word i v))) ≡ holding (drop free (take 8 xs)) i v
hold-replaced free xs i v k e =
    ap (drop free) (take-set-lt 8 xs (free + k) (word i v) (newest-below free xs i k e))
    ∙ drop-set-add free (take 8 xs) k (word i v)
    ∙ sym (ap (λ o. holding_of o (drop free (take 8 xs)) i v) e)

-- the new word behind the others, of which the oldest made room
pushed-behind : (free : ℕ) (x : Word) (xs : List Word) → length (x ∷ xs) ≡ 8 → drop (min (free - 1) 7) xs ≡ cond (ltb (length (drop free (x ∷ xs))) 8) (drop free (x ∷ xs)) (drop 1 (drop free (x ∷ xs)))
pushed-behind zero x xs full = sym (ap (λ (b : Bool). cond b (x ∷ xs) xs) (le-ltb (length (x ∷ xs)) 8 (omega arith)))
pushed-behind (suc k) x xs full =
    let few : length (drop k xs) < 8 = simp length-drop (omega arith) in
    ⊎_elim
    (λ lt. let same : min (suc k - 1) 7 ≡ k = omega arith in ap (λ n. drop n xs) same)
    (λ ge. let all : min (suc k - 1) 7 ≡ 7 = omega arith in ap (λ n. drop n xs) all ∙ drop_all 7 xs (omega arith) ∙ sym (drop_all k xs (omega arith)))
    (cases_lt k 7)
    ∙ sym (ap (λ (b : Bool). cond b (drop k xs) (drop 1 (drop k xs))) (lt-ltb (length (drop k xs)) 8 few))

pub hold-shifted : (free less : ℕ) (xs ys : List Word) (i v : ℕ) → newest (drop free (take 8 xs)) i ≡ None → length xs ≡ 8 → ys ≡ drop 1 xs ++ take 1 xs → less ≡ min (free - 1) 7 → drop less (take 8 (set ys 7 (word i v))) ≡ holding (drop free (take 8 xs)) i v
hold-shifted free less [] ys i v e full turned is = absurd (omega arith)
hold-shifted free less (x ∷ xs) ys i v e full turned is =
    let w = word i v in
    let all : take 8 (x ∷ xs) ≡ x ∷ xs = take_all 8 (x ∷ xs) (omega arith) in
    let stored : set ys 7 w ≡ xs ++ w ∷ [] = ap (λ zs. set zs 7 w) turned ∙ set_at xs x [] w 7 (omega arith) in
    ap (λ zs. drop less (take 8 zs)) stored
    ∙ ap (drop less) (take_all 8 (xs ++ w ∷ []) (simp length-append (omega arith)))
    ∙ drop-append-le less xs (w ∷ []) (omega arith)
    ∙ ap (λ zs. zs ++ w ∷ []) (ap (λ n. drop n xs) is ∙ pushed-behind free x xs full)
    ∙ sym (ap (λ zs. holding (drop free zs) i v) all ∙ ap (λ o. holding_of o (drop free (x ∷ xs)) i v) (ap (λ zs. newest (drop free zs) i) (sym all) ∙ e))
