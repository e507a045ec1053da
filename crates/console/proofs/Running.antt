-- Turns one after another. Assumes nothing.
use Rattle.std.proofs.Common.{◌≡◌, ℕ, ◌+◌, ◌<◌, List, [], ◌∷◌, ◌++◌, length, take, drop, Some, None, Ok, Err, Option, Result, OnErr, sym, refl, ap, subst, ◌∙◌, inl, arith}
use Rattle.std.specs.List.{concat}
use Rattle.std.specs.Io.KnownBytes.{Appends}
use Rattle.std.proofs.lemmas.List.{append_assoc, append-nil, take_at}
use Rattle.console.specs.Lines.{line, written}
use Rattle.console.specs.Turns.{Runs, Says, TurnBy, Turned}

-- the text at the start of a buffer that it was written into
written-front : (out text : List ℕ) (n : ℕ) → n ≡ length text → take n (written out 0 text) ≡ text
written-front out text n e = ap (λ k. take k (written out 0 text)) e ∙ take_at text (drop (0 + length text) out) (length text) refl

-- known bytes that grow twice
pub appends-twice : (a b c : Option (List ℕ)) (s t : List ℕ) → Appends a b s → Appends b c t → Appends a c (s ++ t)
appends-twice None b c s t h k = tt
appends-twice (Some xs) None c s t h k = absurd h
appends-twice (Some xs) (Some ys) None s t h k = absurd k
appends-twice (Some xs) (Some ys) (Some zs) s t h k = k ∙ ap (λ u. u ++ t) h ∙ append_assoc xs s t

pub concat-last : (texts : List (List ℕ)) (text : List ℕ) → concat (texts ++ text ∷ []) ≡ concat texts ++ text
concat-last [] text = append-nil text
concat-last (t ∷ texts) text = ap (λ u. t ++ u) (concat-last texts text) ∙ sym (append_assoc t (concat texts) text)

parts : (n m : ℕ) (rest more : List ℕ) → ◌≡◌ {A = Option (ℕ × List ℕ)} (Some (n, rest)) (Some (m, more)) → (n ≡ m) × (rest ≡ more)
parts n m rest more e =
    let p : ◌≡◌ {A = ℕ × List ℕ} (n, rest) (m, more) = cc in
    (ap (λ (x : ℕ × List ℕ). x.0) p, ap (λ (x : ℕ × List ℕ). x.1) p)

module _ {S C M : Type 0} (first : List ℕ → Option (C × List ℕ)) (tells : S → C → M → List ℕ → S → M → Type 0) where
  -- one turn more
  pub runs-last : (texts : List (List ℕ)) (text : List ℕ) (s t t' : S) (x y y' : M) (input rest more : List ℕ)
      → Runs first tells texts s x input t y rest → 0 < length rest → Says first tells (first rest) t y text more t' y' → Runs first tells (texts ++ text ∷ []) s x input t' y' more
  runs-last [] text s t t' x y y' input rest more (es, ex, er) lt says =
      let one = subst (λ v. Says first tells (first input) v x text more t' y') es (subst (λ v. Says first tells (first input) t v text more t' y') ex (subst (λ v. Says first tells (first v) t y text more t' y') er says)) in
      (t', y', more, subst (λ v. 0 < length v) er lt, one, (refl, refl, refl))
  runs-last (u ∷ texts) text s t t' x y y' input rest more (s', x', after, some, one, others) lt says =
      (s', x', after, some, one, runs-last texts text s' t t' x' y y' after rest more others lt says)

  -- an error after such a turn
  pub fails-after : {T E : Type 0} (r : Result T E) (texts : List (List ℕ)) (last : List ℕ) (s t : S) (x y : M) (input rest : List ℕ) → Runs first tells (texts ++ last ∷ []) s x input t y rest
      → OnErr r ((texts : List (List ℕ)) × (last : List ℕ) × (rest : List ℕ) × Runs first tells (texts ++ last ∷ []) s x input t y rest)
  fails-after (Ok v) texts last s t x y input rest ran = tt
  fails-after (Err e) texts last s t x y input rest ran = (texts, last, rest, ran)

  said-by : (p : Option (C × List ℕ)) (s t : S) (x y : M) (out out' rest : List ℕ) (n : ℕ) → TurnBy first tells p s x out (Some (n, rest)) t y out'
      → (text : List ℕ) × Says first tells p s x text rest t y × (take n out' ≡ text)
  said-by None s t x y out out' rest n (r, o, es, ex) =
      let text = line 63 11 in
      let e = parts n (length text) rest [] r in
      (text, (refl, e.1, es, ex), ap (take n) o ∙ written-front out text n e.0)
  said-by (Some (c, more)) s t x y out out' rest n (text, told, r, o) =
      let e = parts n (length text) rest more r in
      (text, (told, e.1), ap (take n) o ∙ written-front out text n e.0)

  -- what one turn wrote
  pub turn-said : (s t : S) (x y : M) (input out out' rest : List ℕ) (n : ℕ) → Turned first tells s x input out (Some (n, rest)) t y out' → length out ≡ 72
      → (text : List ℕ) × (0 < length input) × Says first tells (first input) s x text rest t y × (take n out' ≡ text)
  turn-said s t x y [] out out' rest n h room = let e = (h.none (inl refl)).0 in absurd (cc)
  turn-said s t x y (b ∷ bs) out out' rest n h room =
      let w = said-by (first (b ∷ bs)) s t x y out out' rest n (h.some (omega arith) (omega arith)) in
      (w.0, omega arith, w.1, w.2)
