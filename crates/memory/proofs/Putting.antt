-- Words after stores, and lists of candidates. Assumes nothing.
use Rattle.std.proofs.Common.{◌≡◌, ℕ, Bool, true, false, cond, eqb, ◌⊎◌, List, [], ◌∷◌, ◌++◌, sym, refl, ap, ◌∙◌, subst, inl, inr, ⊎_elim, arith}
use Rattle.std.proofs.lemmas.Bool.Decides.{nat_tests}
use Rattle.memory.specs.Model.{In}
use Rattle.memory.specs.Stores.{Words, one, put, values_at}
use Rattle.memory.specs.declared.word.Word.{Word}

-- two tests that cannot both hold
pub up-down : (b : Bool) → b ≡ true → b ≡ false → ⊥
up-down b p q = let z : ◌≡◌ {A = Bool} true false = sym p ∙ q in let y : ◌≡◌ {A = ℕ} 0 1 = ap (λ (x : Bool). cond x 0 1) z in omega arith

pub in_left : (v : ℕ) (xs ys : List ℕ) → In v xs → In v (xs ++ ys)
in_left v [] ys h = absurd h
in_left v (x ∷ xs) ys (inl h) = inl h
in_left v (x ∷ xs) ys (inr h) = inr (in_left v xs ys h)

pub in_right : (v : ℕ) (xs ys : List ℕ) → In v ys → In v (xs ++ ys)
in_right v [] ys h = h
in_right v (x ∷ xs) ys h = inr (in_right v xs ys h)

pub in_either : (v : ℕ) (xs ys : List ℕ) → In v (xs ++ ys) → In v xs ⊎ In v ys
in_either v [] ys h = inr h
in_either v (x ∷ xs) ys (inl h) = inl (inl h)
in_either v (x ∷ xs) ys (inr h) = ⊎_elim (λ k. inl (inr k)) inr (in_either v xs ys h)

-- more candidates in the middle
pub in_between : (v : ℕ) (xs ys zs : List ℕ) → In v (xs ++ zs) → In v ((xs ++ ys) ++ zs)
in_between v xs ys zs h =
    ⊎_elim (λ k. in_left v (xs ++ ys) zs (in_left v xs ys k)) (λ k. in_right v (xs ++ ys) zs k) (in_either v xs zs h)

pub one-here : (s : Word) (w : Words) → one s w s.at ≡ s.value
one-here s w = grind (arith, nat_tests)

pub one-other : (s : Word) (j : ℕ) (w : Words) → (j ≡ s.at → ⊥) → one s w j ≡ w j
one-other s j w ne = grind (arith, nat_tests)

pub put-append : (ss ts : List Word) (w : Words) → put (ss ++ ts) w ≡ put ts (put ss w)
put-append [] ts w = refl
put-append (s ∷ ss) ts w = put-append ss ts (one s w)

-- stores into words that agree at a place give words that agree there
pub put_same : (ss : List Word) (v w : Words) (i : ℕ) → v i ≡ w i → put ss v i ≡ put ss w i
put_same [] v w i e = e
put_same (s ∷ ss) v w i e = put_same ss (one s v) (one s w) i (ap (λ x. cond (eqb i s.at) s.value x) e)

pub values_at-append : (ss ts : List Word) (i : ℕ) → values_at (ss ++ ts) i ≡ values_at ss i ++ values_at ts i
values_at-append [] ts i = refl
values_at-append (s ∷ ss) ts i = go (eqb i s.at) (values_at-append ss ts i)
  where
    go : (b : Bool) → values_at (ss ++ ts) i ≡ values_at ss i ++ values_at ts i
        → cond b (s.value ∷ values_at (ss ++ ts) i) (values_at (ss ++ ts) i) ≡ cond b (s.value ∷ values_at ss i) (values_at ss i) ++ values_at ts i
    go true e = ap (λ x. s.value ∷ x) e
    go false e = e

-- the value put at a place is one that is stored there, or the old one
pub put_in : (ss : List Word) (w : Words) (i : ℕ) (xs : List ℕ) → In (w i) xs → In (put ss w i) (values_at ss i ++ xs)
put_in [] w i xs h = h
put_in (s ∷ ss) w i xs h = go (eqb i s.at) refl (put_in ss (one s w) i)
  where
    go : (b : Bool) → eqb i s.at ≡ b → ((ys : List ℕ) → In (one s w i) ys → In (put ss (one s w) i) (values_at ss i ++ ys))
        → In (put ss (one s w) i) (cond b (s.value ∷ values_at ss i) (values_at ss i) ++ xs)
    go true e rest =
        let stored : one s w i ≡ s.value = ap (λ (b : Bool). cond b s.value (w i)) e in
        let v = put ss (one s w) i in
        ⊎_elim (λ k. inr (in_left v (values_at ss i) xs k)) (⊎_elim inl (λ k. absurd k)) (in_either v (values_at ss i) (s.value ∷ []) (rest (s.value ∷ []) (inl stored)))
    go false e rest = rest xs (subst (λ (b : Bool). In (cond b s.value (w i)) xs) (sym e) h)

-- a value stored at a place is the first store's or a later one's
pub values-either : (s : Word) (ss : List Word) (j v : ℕ) → In v (values_at (s ∷ ss) j) → ((j ≡ s.at) × (v ≡ s.value)) ⊎ In v (values_at ss j)
values-either s ss j v h = go (eqb j s.at) refl h
  where
    go : (b : Bool) → eqb j s.at ≡ b → In v (cond b (s.value ∷ values_at ss j) (values_at ss j)) → ((j ≡ s.at) × (v ≡ s.value)) ⊎ In v (values_at ss j)
    go true e (inl k) = inl (grind (arith, nat_tests), k)
    go true e (inr k) = inr k
    go false e k = inr k
