-- A cache over a memory: from what the memory below does to what the cache does. Assumes nothing.
use Rattle.std.proofs.Common.{◌≡◌, ℕ, ◌+◌, ◌<◌, Bool, true, false, List, [], ◌∷◌, ◌++◌, length, get_or, take, drop, Some, None, Ok, Err, Option, Result, sym, refl, ap, ◌∙◌, subst, inl, inr, ⊎_elim, arith}
use Rattle.std.proofs.lemmas.List.{append-nil, take-append-drop, take_more}
use Rattle.memory.specs.Model.{Model, In, Among, Fewer, SameSeen, WentDown, Loaded, Stored, Flushed, Restarted}
use Rattle.memory.specs.Stores.{Words, word, put, values_at, Made}
use Rattle.memory.specs.declared.fault.Fault.{Fault}
use Rattle.memory.specs.declared.fault.Fault.TheVariants.{Down, Outside}
use Rattle.memory.specs.declared.word.Word.{Word}
use Rattle.memory.proofs.Putting.{up-down, in_left, in_right, in_either, in_between, put-append, put_same, values_at-append}
use Rattle.memory.proofs.Making.{made_one, made_more, made-cut}
use Rattle.waiting.specs.Waits.{newest, waiting_value, value_of, leaving, holding}
use Rattle.waiting.proofs.Newest.{Held, held, left, pushed, newest-some, newest-none, put-none}
use Rattle.layers.specs.Layers.{cache_model}
use Rattle.layers.specs.StoredAll.{StoredAll, unless_outside}

-- ---- the memory below alone changed

-- the candidates below may be replaced by fewer
among_below : (ws : List Word) (i : ℕ) (xs ys : List ℕ) → Among xs ys → Among (values_at ws i ++ xs) (values_at ws i ++ ys)
among_below ws i xs ys a v h = ⊎_elim (in_left v (values_at ws i) ys) (λ k. in_right v (values_at ws i) ys (a v k)) (in_either v (values_at ws i) xs h)

fewer-below : (ws : List Word) {m n : Model} → Fewer m n → Fewer (cache_model ws m) (cache_model ws n)
fewer-below ws {m} {n} f = record { same_count = f.same_count; fewer = λ i lt. among_below ws i (n.may i) (m.may i) (f.fewer i lt) }

down-below : (ws : List Word) {m n : Model} → WentDown m n → WentDown (cache_model ws m) (cache_model ws n)
down-below ws w = record { fewer = fewer-below ws w.fewer; down = w.down }

fewer-both : {a b c : Model} → Fewer a b → Fewer b c → Fewer a c
fewer-both f g = record {
  same_count = g.same_count ∙ f.same_count;
  fewer = λ i lt v h. f.fewer i lt v (g.fewer i (subst (λ x. i < x) (sym f.same_count) lt) v h);
}

-- ---- a load

pub cache-hit : (ws : List Word) (m : Model) (i v : ℕ) → true ≡ m.up → i < m.count → Some v ≡ waiting_value ws i → Loaded (cache_model ws m) i (Ok v) (cache_model ws m)
cache-hit ws m i v up lt e = (sym up, sym up, lt, go (newest ws i) refl e, λ j l. refl, record { same_count = refl; fewer = λ j l u h. h })
  where
    go : (o : Option ℕ) → newest ws i ≡ o → Some v ≡ value_of o ws → v ≡ put ws m.seen i
    go (Some k) n some = let same : (get_or ws k (word 0 0)).value ≡ v = cc in sym ((newest-some ws i k n).1 m.seen ∙ same)
    go None n some = let z : ◌≡◌ {A = ℕ} 0 1 = cc in absurd (omega arith)

none-waits : (ws : List Word) (i : ℕ) → None ≡ waiting_value ws i → values_at ws i ≡ []
none-waits ws i e = go (newest ws i) refl e
  where
    go : (o : Option ℕ) → newest ws i ≡ o → None ≡ value_of o ws → values_at ws i ≡ []
    go (Some k) n none = let z : ◌≡◌ {A = ℕ} 0 1 = cc in absurd (omega arith)
    go None n none = newest-none ws i n

-- nothing waits for the place
pub cache-load : (ws : List Word) (m n : Model) (i : ℕ) (r : Result ℕ Fault) → None ≡ waiting_value ws i → Loaded m i r n → Loaded (cache_model ws m) i r (cache_model ws n)
cache-load ws m n i (Ok v) none h =
    (h.0, h.1, h.2, h.3 ∙ sym (put-none ws i m.seen (none-waits ws i none)), λ j lt. put_same ws n.seen m.seen j (h.4 j lt), fewer-below ws h.5)
cache-load ws m n i (Err Outside) none h = (h.0, h.1, ap (cache_model ws) h.2)
cache-load ws m n i (Err Down) none h = (down-below ws h.0, h.1, λ down. ap (cache_model ws) (h.2 down))

-- ---- stores below

-- a store past the last word means nothing
passed : (m n : Model) (i v : ℕ) (q : Result Unit Fault) → Stored m i v q n → StoredAll m (word i v ∷ []) (unless_outside q) n
passed m n i v (Ok x) h = (made_one i v (Ok x) h, λ _. h.1)
passed m n i v (Err Outside) h = (made_one i v (Err Outside) h, λ up. ap (λ (x : Model). x.up) h.2 ∙ up)
passed m n i v (Err Down) h = (made_one i v (Err Down) h, h.0)

-- of words that are stored in their order, that at k is next
module _ (ws : List Word) (k : ℕ) (m n o : Model) (q : Result Unit Fault) (lt : k < length ws) (made : Made m (take k ws) n) (below : Stored n (get_or ws k (word 0 0)).at (get_or ws k (word 0 0)).value q o) where
  next : Made m (take (k + 1) ws) o
  next = rw (take_more ws k (word 0 0) lt) (made_more (get_or ws k (word 0 0)).at (get_or ws k (word 0 0)).value q made below)

  pub all_more : (m.up ≡ true → n.up ≡ true) → (x : Unit) → Ok x ≡ unless_outside q → Made m (take (k + 1) ws) o × (m.up ≡ true → o.up ≡ true)
  all_more up x e = (next, λ u. (subst (λ r. StoredAll n (get_or ws k (word 0 0) ∷ []) r o) (sym e) (passed n o (get_or ws k (word 0 0)).at (get_or ws k (word 0 0)).value q below)).1 (up u))

  pub all-cut : (f : Fault) → Err f ≡ unless_outside q → StoredAll m ws (Err f) o
  all-cut f e = go f (subst (λ r. StoredAll n (get_or ws k (word 0 0) ∷ []) r o) (sym e) (passed n o (get_or ws k (word 0 0)).at (get_or ws k (word 0 0)).value q below))
    where
      go : (x : Fault) → StoredAll n (get_or ws k (word 0 0) ∷ []) (Err x) o → StoredAll m ws (Err x) o
      go Down h = (subst (λ xs. Made m xs o) (take-append-drop (k + 1) ws) (made-cut (drop (k + 1) ws) next h.1), h.1)
      go Outside h = absurd h

-- ---- words that went below

-- of the words that waited, ss went below in their order, and ws did not
module _ (all ss ws : List Word) (whole : all ≡ ss ++ ws) (m n : Model) (made : Made m ss n) where
  went-may : (i : ℕ) → i < m.count → Among (n.may i) (values_at all i ++ m.may i)
  went-may i lt v h =
      subst (λ xs. In v (xs ++ m.may i)) (sym (ap (λ x. values_at x i) whole ∙ values_at-append ss ws i)) (in_between v (values_at ss i) (values_at ws i) (m.may i) (made.may i v lt h))

  -- while they wait, or once they do not
  kept-fewer : Fewer (cache_model all m) (cache_model all n)
  kept-fewer = record {
    same_count = made.count;
    fewer = λ i lt v h. ⊎_elim (in_left v (values_at all i) (m.may i)) (went-may i lt v) (in_either v (values_at all i) (n.may i) h);
  }

  went-fewer : Fewer (cache_model all m) (cache_model ws n)
  went-fewer = record {
    same_count = made.count;
    fewer = λ i lt v h. ⊎_elim (λ k. in_left v (values_at all i) (m.may i) (later i v k)) (went-may i lt v) (in_either v (values_at ws i) (n.may i) h);
  }
    where
      later : (i v : ℕ) → In v (values_at ws i) → In v (values_at all i)
      later i v k = subst (In v) (sym (ap (λ x. values_at x i) whole ∙ values_at-append ss ws i)) (in_right v (values_at ss i) (values_at ws i) k)

  went-seen : n.up ≡ true → SameSeen (cache_model all m) (cache_model ws n)
  went-seen up i lt =
      put_same ws n.seen (put ss m.seen) i (made.seen i lt up) ∙ ap (λ (w : Words). w i) (sym (ap (λ x. put x m.seen) whole ∙ put-append ss ws m.seen))

-- ---- a store

-- a word that waits is seen, and is a candidate
wait-stored : {xs ys : List Word} {i v : ℕ} (m : Model) → m.up ≡ true → i < m.count → Held xs i v ys → Stored (cache_model xs m) i v (Ok tt) (cache_model ys m)
wait-stored {xs} {ys} {i} {v} m up lt h =
    (up, up, lt, record { here = h.here m.seen; elsewhere = λ j l ne. h.elsewhere m.seen j ne }, record { same_count = refl; here = here; elsewhere = λ j l ne u. subst (λ zs. In u (zs ++ m.may j)) (h.may-elsewhere j ne) })
  where
    here : Among (values_at ys i ++ m.may i) (v ∷ (values_at xs i ++ m.may i))
    here u k =
        ⊎_elim (λ x. ⊎_elim inl (λ y. inr (in_left u (values_at xs i) (m.may i) y)) (h.may_here u x)) (λ x. inr (in_right u (values_at xs i) (m.may i) x)) (in_either u (values_at ys i) (m.may i) k)

-- a store after a change that nothing shows
then-stored : {a b c : Model} {i v : ℕ} → a.up ≡ true → SameSeen a b → Fewer a b → Stored b i v (Ok tt) c → Stored a i v (Ok tt) c
then-stored {a} {b} {c} {i} {v} up seen fewer h =
    (up, h.1, lt, record { here = h.3.here; elsewhere = λ j l ne. h.3.elsewhere j (inside j l) ne ∙ seen j l }, record { same_count = h.4.same_count ∙ fewer.same_count; here = λ u k. ⊎_elim inl (λ x. inr (fewer.fewer i lt u x)) (h.4.here u k); elsewhere = λ j l ne u k. fewer.fewer j l u (h.4.elsewhere j (inside j l) ne u k) })
  where
    lt : i < a.count
    lt = subst (λ x. i < x) fewer.same_count h.2

    inside : (j : ℕ) → j < a.count → j < b.count
    inside j l = subst (λ x. j < x) (sym fewer.same_count) l

pub cache-store-room : (ws next : List Word) (m : Model) (i v : ℕ) → true ≡ m.up → i < m.count → None ≡ leaving ws i → next ≡ holding ws i v → Stored (cache_model ws m) i v (Ok tt) (cache_model next m)
cache-store-room ws next m i v up lt none is = wait-stored m (sym up) lt (subst (Held ws i v) (sym is) (held ws i v (sym none)))

-- the oldest word went below, and power was lost there or was not
module _ (ws : List Word) (m n : Model) (i v : ℕ) (s : Word) (q : Result Unit Fault) (up : true ≡ m.up) (lt : i < m.count) (some : Some s ≡ leaving ws i) (below : Stored m s.at s.value q n) where
  rest : (xs : List Word) × (ws ≡ s ∷ xs) × (holding ws i v ≡ xs ++ word i v ∷ [])
  rest = left ws i v s (sym some)

  made : Made m (s ∷ []) n
  made = made_one s.at s.value q below

  pub cache-store-cut : (f : Fault) → Err f ≡ unless_outside q → Stored (cache_model ws m) i v (Err f) (cache_model ws n)
  cache-store-cut f e = go f (subst (λ r. StoredAll m (s ∷ []) r n) (sym e) (passed m n s.at s.value q below))
    where
      fewer : Fewer (cache_model ws m) (cache_model ws n)
      fewer = kept-fewer ws (s ∷ []) rest.0 rest.1 m n made

      go : (x : Fault) → StoredAll m (s ∷ []) (Err x) n → Stored (cache_model ws m) i v (Err x) (cache_model ws n)
      go Down h =
          (h.1, record { same_count = fewer.same_count; here = λ u k. inr (fewer.fewer i lt u k); elsewhere = λ j l ne. fewer.fewer j l }, λ _. lt, λ was. absurd (up-down m.up (sym up) was))
      go Outside h = absurd h

  pub cache-store-left : (x : Unit) → Ok x ≡ unless_outside q → (next : List Word) → next ≡ holding ws i v → Stored (cache_model ws m) i v (Ok tt) (cache_model next n)
  cache-store-left x e next is =
      subst (λ xs. Stored (cache_model ws m) i v (Ok tt) (cache_model xs n)) (sym (is ∙ rest.2)) (then-stored (sym up) (went-seen ws (s ∷ []) rest.0 rest.1 m n made still) fewer (wait-stored n still (subst (λ y. i < y) (sym fewer.same_count) lt) (pushed rest.0 i v)))
    where
      still : n.up ≡ true
      still = (subst (λ r. StoredAll m (s ∷ []) r n) (sym e) (passed m n s.at s.value q below)).1 (sym up)

      fewer : Fewer (cache_model ws m) (cache_model rest.0 n)
      fewer = went-fewer ws (s ∷ []) rest.0 rest.1 m n made

-- ---- a barrier and a restart

-- power was lost while the words went below
pub cache-flush-cut : (ws : List Word) (m n : Model) (f : Fault) → true ≡ m.up → StoredAll m ws (Err f) n → Flushed (cache_model ws m) (Err f) (cache_model ws n)
cache-flush-cut ws m n Down up h =
    (record { fewer = kept-fewer ws ws [] (sym (append-nil ws)) m n h.0; down = h.1 }, λ was. absurd (up-down m.up (sym up) was))
cache-flush-cut ws m n Outside up h = absurd h

-- all words went below, and then there was a barrier
pub cache-flush : (ws none : List Word) (m n o : Model) (r : Result Unit Fault) → true ≡ m.up → none ≡ [] → StoredAll m ws (Ok tt) n → Flushed n r o → Flushed (cache_model ws m) r (cache_model none o)
cache-flush ws none m n o r up is all h = subst (λ xs. Flushed (cache_model ws m) r (cache_model xs o)) (sym is) (go r h)
  where
    fewer : Fewer (cache_model ws m) (cache_model [] n)
    fewer = went-fewer ws ws [] (sym (append-nil ws)) m n all.0

    seen : SameSeen (cache_model ws m) (cache_model [] n)
    seen = went-seen ws ws [] (sym (append-nil ws)) m n all.0 (all.1 (sym up))

    go : (q : Result Unit Fault) → Flushed n q o → Flushed (cache_model ws m) q (cache_model [] o)
    go (Ok x) f =
        (sym up, f.1, λ i lt. f.2 i (subst (λ x. i < x) (sym fewer.same_count) lt) ∙ seen i lt, fewer-both fewer (fewer-below [] f.3), f.4)
    go (Err Down) f =
        (record { fewer = fewer-both fewer (fewer-below [] f.0.fewer); down = f.0.down }, λ was. absurd (up-down m.up (sym up) was))
    go (Err Outside) f = absurd f

-- what waited is lost
pub cache-restart : (ws none : List Word) (m n : Model) (r : Bool) → none ≡ [] → Restarted m r n → Restarted (cache_model ws m) r (cache_model none n)
cache-restart ws none m n r is h = subst (λ xs. Restarted (cache_model ws m) r (cache_model xs n)) (sym is) (go r h)
  where
    go : (b : Bool) → Restarted m b n → Restarted (cache_model ws m) b (cache_model [] n)
    go true f = (f.0, f.1, λ i lt. in_right (n.seen i) (values_at ws i) (m.may i) (f.2 i lt), f.3)
    go false f = record {
      fewer = record { same_count = f.fewer.same_count; fewer = λ i lt v k. in_right v (values_at ws i) (m.may i) (f.fewer.fewer i lt v k) };
      down = f.down;
    }
