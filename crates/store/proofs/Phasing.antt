-- The last phase of a call that changes one slot: one word of the directory is stored and settled. Assumes nothing.
use Rattle.std.proofs.Common.{◌≡◌, ℕ, ◌+◌, ◌*◌, ◌/◌, ◌<◌, ◌≤◌, true, cond, eqb, ◌⊎◌, List, [], ◌∷◌, None, Ok, Err, Result, sym, refl, ap, ◌∙◌, subst, inl, inr, ⊎_elim, arith}
use Rattle.std.proofs.lemmas.Bool.{cases_eq}
use Rattle.memory.specs.Model.{Model, Settled}
use Rattle.memory.specs.Stores.{Words, word, one, put, values_at}
use Rattle.memory.specs.declared.word.Word.{Word}
use Rattle.memory.proofs.Putting.{up-down, in_either, one-here, one-other, put-append, values-either}
use Rattle.layout.specs.Image.{Same, files_of, table_of}
use Rattle.layout.specs.Lists.{Rearranged}
use Rattle.layout.specs.Log.{Clean, HoldsFiles, LeadsToFiles}
use Rattle.layout.specs.Table.{Table, Ask, Reply, done, early, on, answer, change, after}
use Rattle.images.proofs.Frame.{same-sound, same-holds_files}
use Rattle.images.proofs.Holding.{holds-files, holds_after, clean-leads}
use Rattle.images.proofs.Pieces.{slot-data}
use Rattle.images.proofs.Recovering.{Torn}
use Rattle.image_check.specs.Size.{suits}
use Rattle.image_check.specs.declared.refusal.Refusal.{Refusal}
use Rattle.image_check.proofs.Sizing.{size-blocks}
use Rattle.store.specs.Calls.{reply, CallCut, Changed, SlotCall}
use Rattle.store.specs.Phase.{AllMade, CutIn, Persisted}
use Rattle.store.proofs.Phases.{looked-made, done_more}
use Rattle.store.proofs.Recovery.{looked-settled, torn-later}
use Rattle.store.proofs.Calling.{Named, Known, in-order, taken-call, slot-refused, lost-call}

-- the table after a call that is done
after-done : (t : Table) (a : Ask) (xs : List ℕ) → answer t a ≡ done xs → after t a ≡ record { blocks = t.blocks; files = change t.files a }
after-done t a xs h = ap (λ (r : Reply). cond (eqb r.number 0) (record { blocks = t.blocks; files = change t.files a }) t) h

-- an image torn by one store is the one before it or the one after it
torn-one : (blocks : ℕ) (u : Words) (p x : ℕ) (y : Words) → p < 32 * blocks → Torn blocks u (word p x ∷ []) y → Same blocks u y ⊎ Same blocks (one (word p x) u) y
torn-one blocks u p x y inside torn = ⊎_elim (λ e. inl (stays e)) (λ e. inr (goes e)) here
  where
    each : (i : ℕ) → i < 32 * blocks → ((i ≡ p) × (y i ≡ x)) ⊎ (y i ≡ u i)
    each i lt = ⊎_elim (λ k. ⊎_elim inl (λ z. absurd z) (values-either (word p x) [] i (y i) k)) (⊎_elim inr (λ z. absurd z)) (in_either (y i) (values_at (word p x ∷ []) i) (u i ∷ []) (torn i lt))

    here : (y p ≡ u p) ⊎ (y p ≡ x)
    here = ⊎_elim (λ k. inr k.1) inl (each p inside)

    other : (i : ℕ) → i < 32 * blocks → (i ≡ p → ⊥) → y i ≡ u i
    other i lt ne = ⊎_elim (λ k. absurd (ne k.0)) (λ e. e) (each i lt)

    stays : y p ≡ u p → Same blocks u y
    stays e i lt = ⊎_elim (λ k. subst (λ j. y j ≡ u j) (sym k) e) (other i lt) (cases_eq i p)

    goes : y p ≡ x → Same blocks (one (word p x) u) y
    goes e i lt = ⊎_elim (λ k. subst (λ j. y j ≡ one (word p x) u j) (sym k) (e ∙ sym (one-here (word p x) u))) (λ ne. other i lt ne ∙ sym (one-other (word p x) i u ne)) (cases_eq i p)

-- One word of the directory is stored into an image u that still holds what w did.
pub record SlotChange (blocks : ℕ) (w u : Words) (a : Ask) (p x : ℕ) : Type 0 where
  pub before : Clean blocks w
  pub answered : answer (table_of w) a ≡ done []
  pub middle : Clean blocks u
  pub held : files_of u ≡ files_of w
  pub beside : (i : ℕ) → (i < 64) ⊎ (96 ≤ i) → u i ≡ w i
  pub low : 64 ≤ p
  pub high : p < 96
  pub last : Clean blocks (one (word p x) u)
  pub files : Rearranged (files_of (one (word p x) u)) (change (files_of w) a)

module _ (blocks : ℕ) (w u : Words) (a : Ask) (p x : ℕ) (big : 6 ≤ blocks) (h : SlotChange blocks w u a p x) where
  abbrev v : Words
  v = one (word p x) u

  outside : (i : ℕ) → (i < 64) ⊎ (96 ≤ i) → v i ≡ w i
  outside i off = one-other (word p x) i u (apart off) ∙ h.beside i off
    where
      apart : (i < 64) ⊎ (96 ≤ i) → i ≡ p → ⊥
      apart (inl less) e = let l = h.low in omega arith
      apart (inr more) e = let l = h.high in omega arith

  -- the last image holds the table after the call
  held_after : HoldsFiles v (after (table_of w) a)
  held_after = subst (HoldsFiles v) (sym (after-done (table_of w) a [] h.answered)) (holds-files blocks v (record { blocks = w 0; files = change (files_of w) a }) h.last.sound (outside 0 (inl (omega arith))) h.files)

  torn-leads : (y : Words) (t : Table) → HoldsFiles w t → Torn blocks u (word p x ∷ []) y → LeadsToFiles blocks y t ⊎ LeadsToFiles blocks y (after t a)
  torn-leads y t holds torn =
      ⊎_elim
      (λ same. inl (clean-leads blocks u y t big same h.middle (holds-files blocks u t h.middle.sound (h.beside 0 (inl (omega arith)) ∙ holds.size) (subst (λ fs. Rearranged fs t.files) (sym h.held) holds.files))))
      (λ same. inr (clean-leads blocks v y (after t a) big same h.last (holds_after w v t a h.before.sound.two holds held_after)))
      (torn-one blocks u p x y (omega (arith, big, h.high)) torn)

-- The stores us were made before, and the word is then stored and settled, or power is lost in that.
module _ {m k : Model} (us : List Word) (a : Ask) (p x : ℕ) (t : suits m.count ≡ true) (none : early a ≡ None) (h : SlotChange (m.count / 32) m.seen (put us m.seen) a p x) (made : AllMade m us k) (settles : Settled m → Settled k) where
  big : 6 ≤ m.count / 32
  big = (size-blocks m.count (m.count / 32) t refl).0

  size : 32 * (m.count / 32) ≤ m.count
  size = (size-blocks m.count (m.count / 32) t refl).2

  last-cut : {n : Model} → CutIn k (word p x ∷ []) n → CallCut (m.count / 32) m a n
  last-cut {n} cut = record {
    down = cut.down;
    count = cut.made.count ∙ made.made.count;
    still = λ down. absurd (up-down m.up made.was-up down);
    leads = λ settled clean tbl holds y drawn. torn-leads (m.count / 32) m.seen (put us m.seen) a p x big h y tbl holds (torn-later (m.count / 32) m big size us (word p x ∷ []) y made settles cut settled drawn);
  }

  last-seen : {n : Model} → AllMade k (word p x ∷ []) n → (i : ℕ) → i < m.count → n.seen i ≡ one (word p x) (put us m.seen) i
  last-seen stored i lt = let all = done_more made stored in all.made.seen i lt all.up ∙ ap (λ (w : Words). w i) (put-append us (word p x ∷ []) m.seen)

  last-only : {n : Model} → AllMade k (word p x ∷ []) n → (i : ℕ) → i < m.count → (i < 64) ⊎ (96 ≤ i) → n.seen i ≡ m.seen i
  last-only stored i lt off = last-seen stored i lt ∙ outside (m.count / 32) m.seen (put us m.seen) a p x big h i off

  last_done : {n : Model} → AllMade k (word p x ∷ []) n → Settled n → Changed (m.count / 32) m a n
  last_done {n} stored settled =
      let v = one (word p x) (put us m.seen) in
      let all = done_more made stored in
      let same : Same (m.count / 32) v n.seen = λ i lt. last-seen stored i (omega (arith, size)) in
      record {
        up = stored.up;
        count = all.made.count;
        clean = record { sound = same-sound (m.count / 32) v n.seen big same h.last.sound; idle = same 8 (omega (arith, big)) ∙ h.last.idle };
        holds = same-holds_files (m.count / 32) v n.seen (after (table_of m.seen) a) big same h.last.sound (held_after (m.count / 32) m.seen (put us m.seen) a p x big h);
        settled = λ _. settled;
        others = λ s c j lt name other has jt.
            let d = slot-data (m.count / 32) m.seen s c h.before.sound lt name has in
            last-only stored (32 * c + j) (omega (arith, size, d.1)) (inr (omega (arith, d.0)));
      }

  -- the answer of the call is that of its last phase
  pub last-phase : (n : Model) (r : Result Unit Refusal) → Persisted k (word p x ∷ []) r n → SlotCall m a (reply (λ _. []) r) n
  last-phase n (Ok z) d = record {
    call = taken-call a (done []) none t (inr (inr (record { was-up = made.was-up; clean = h.before; reply = sym h.answered; refused = λ some. absurd (some refl); done = λ _. last_done d.0 d.1 })));
    settled = λ _. d.1;
    only = λ _ i lt off. last-only d.0 i lt off;
  }
  last-phase n (Err e) d = slot-refused a e (lost-call a e d.1 none t (last-cut d.0))

-- the call's one phase, with its place and value as they were computed
pub only-phase : {X : Type 0} {m k : Model} {P : X → Type 0} {y : X} (a : Ask) (p x : ℕ) → Named a → Known m k (on a) P y → SlotChange (m.count / 32) m.seen m.seen a p x
    → (n : Model) (r : Result Unit Refusal) (p' x' : ℕ) → p' ≡ p → x' ≡ x → Persisted k (word p' x' ∷ []) r n → SlotCall m a (reply (λ _. []) r) n
only-phase {X} {m} {k} a p x asks b change n r p' x' at is done =
    last-phase [] a p x b.suitable (in-order a asks b.formed) change (looked-made b.looked) (looked-settled b.looked) n r
    (subst (λ v. Persisted k (word p v ∷ []) r n) is (subst (λ i. Persisted k (word i x' ∷ []) r n) at done))

-- The call is cut off in a first phase that changes no file.
pub first-cut : {X : Type 0} {m k n : Model} {name : List ℕ} {P : X → Type 0} {y : X} (a : Ask) (p x : ℕ) (b : Known m k name P y) → p < 96 → 64 ≤ p → Clean (m.count / 32) (one (word p x) m.seen) → files_of (one (word p x) m.seen) ≡ files_of m.seen → CutIn k (word p x ∷ []) n → CallCut (m.count / 32) m a n
first-cut {X} {m} {k} {n} a p x b high low after-it held cut =
    let blocks = m.count / 32 in
    let v = one (word p x) m.seen in
    record {
      down = cut.down;
      count = cut.made.count ∙ b.looked.fewer.same_count;
      still = λ down. absurd (up-down m.up b.looked.was-up down);
      leads = λ settled clean tbl holds z drawn. inl (⊎_elim
          (λ same. clean-leads blocks m.seen z tbl b.big same clean holds)
          (λ same. clean-leads blocks v z tbl b.big same after-it (holds-files blocks v tbl after-it.sound (one-other (word p x) 0 m.seen (λ e. omega arith) ∙ holds.size) (subst (λ fs. Rearranged fs tbl.files) (sym held) holds.files)))
          (torn-one blocks m.seen p x z (omega (arith, b.big, high)) (torn-later blocks m b.big b.size [] (word p x ∷ []) z (looked-made b.looked) (looked-settled b.looked) cut settled drawn)));
    }
