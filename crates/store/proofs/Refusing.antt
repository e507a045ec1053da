-- What recovery answers once the image is checked. Assumes nothing.
use Rattle.std.proofs.Common.{◌≡◌, ℕ, ◌+◌, ◌*◌, ◌/◌, ◌%◌, ◌^◌, ◌<◌, ◌≤◌, Bool, true, false, eqb, [], ◌∷◌, Option, Ok, Err, Result, sym, refl, ap, ◌∙◌, subst, ⊎_elim, arith}
use Rattle.std.proofs.lemmas.Bool.{cases_Bool}
use Rattle.memory.specs.Model.{Model, Settled}
use Rattle.memory.specs.Stores.{Words, word}
use Rattle.memory.proofs.Putting.{up-down}
use Rattle.image_check.specs.Check.{Surveys}
use Rattle.image_check.specs.Size.{suits}
use Rattle.image_check.specs.declared.image.Survey.{Survey}
use Rattle.image_check.specs.declared.refusal.Refusal.{Refusal}
use Rattle.image_check.specs.declared.refusal.Refusal.TheVariants.{PowerLost, WrongSize}
use Rattle.image_check.specs.Directory.{slot_at, Lists}
use Rattle.image_check.specs.Reading.{Looked, LookedDown}
use Rattle.image_check.proofs.Looking.{looked-more, looked-down, refused-map}
use Rattle.image_check.proofs.Sizing.{size-blocks}
use Rattle.layout.specs.Image.{root_word}
use Rattle.layout.specs.Log.{state, log_slot, GoodPiece, Sound}
use Rattle.layout.specs.Packed.{state_number, PieceIn}
use Rattle.layout.specs.declared.log.LogState.{LogState}
use Rattle.layout.specs.declared.log.LogState.TheVariants.{Free, Commit, Checkpoint}
use Rattle.layout.specs.declared.log.Piece.{Piece}
use Rattle.store.specs.LogEntry.{Tells}
use Rattle.store.specs.Recover.{Puttable, Undoable, taken_back, TakenBack, Recovering, Recovers}
use Rattle.store.specs.Phase.{AllMade, CutIn}
use Rattle.store.specs.declared.log_entry.LogEntry.{LogEntry}
use Rattle.store.proofs.Recovery.{good-puttable, looking-cut, idle-done, taking-cut, freeing-cut, freed-done, taken-done, taken-cut}

-- a memory whose image was found sound has a size that suits
pub sound-size : {m n : Model} {s : Survey} → Surveys m (Ok s) n → suits m.count ≡ true
sound-size {m} {n} {s} checks = ⊎_elim (λ t. t) (λ f. absurd (apart (checks.refused f).0)) (cases_Bool (suits m.count))
  where
    apart : ◌≡◌ {A = Result Survey Refusal} (Ok s) (Err WrongSize) → ⊥
    apart e = cc

tells-moved : (w v : Words) (e : LogEntry) → ((i : ℕ) → i < 96 → w i ≡ v i) → Tells w e → Tells v e
tells-moved w v e same h = record {
  state = h.state ∙ same 8 (omega arith);
  slot = h.slot ∙ ap (λ x. x % 2 ^ 8) (same 9 (omega arith));
  follow = h.follow ∙ ap (λ x. eqb (x / 2 ^ 8 % 2) 1) (same 9 (omega arith));
  old = h.old ∙ same 10 (omega arith);
  start = subst (λ x. PieceIn x e.start) (same 11 (omega arith)) h.start;
  last = subst (λ x. PieceIn x e.end) (same 12 (omega arith)) h.last;
}

-- what is known once the image is checked and the log entry is loaded
pub record Begun (m k : Model) (s : Survey) (e : LogEntry) : Type 0 where
  pub suitable : suits m.count ≡ true
  pub big : 6 ≤ m.count / 32
  pub size : 32 * (m.count / 32) ≤ m.count
  pub looked : Looked m k
  pub sound : Sound (m.count / 32) m.seen
  pub lists : Lists m.seen s.directory
  pub tells : Tells m.seen e

pub begun : {m j k : Model} {s : Survey} {e : LogEntry} → Surveys m (Ok s) j → Looked j k × Tells j.seen e → Begun m k s e
begun {m} {j} {k} {s} {e} checks load =
    let t = sound-size checks in
    let b = size-blocks m.count (m.count / 32) t refl in
    let h = checks.taken t in
    let low : (i : ℕ) → i < 96 → j.seen i ≡ m.seen i = λ i lt. h.0.seen i (omega (arith, b.0, b.2)) in
    record {
      suitable = t;
      big = b.0;
      size = b.2;
      looked = looked-more h.0 load.0;
      sound = h.1;
      lists = h.2;
      tells = tells-moved j.seen m.seen e low load.1;
    }

pub recovers-taken : {m : Model} (n : Model) (r : Result Bool Refusal) → suits m.count ≡ true → Recovering (m.count / 32) m r n → Recovers m r n
recovers-taken {m} n r t h = record { refused = λ f. absurd (up-down (suits m.count) t f); taken = λ _. h }

-- recovery refuses as the check does
pub refuses : {m n : Model} (e : Refusal) → Surveys m (Err e) n → Recovers m (Err e) n
refuses {m} e checks = record {
  refused = λ f. let same = (checks.refused f).0 in (cc, (checks.refused f).1);
  taken = λ t. let b = size-blocks m.count (m.count / 32) t refl in refused-map e (looking-cut (m.count / 32) m b.0 b.2) (λ k h. h) (checks.taken t);
}

-- power was lost in the loads of the log entry
pub cut-before : {m j k : Model} {s : Survey} → Surveys m (Ok s) j → LookedDown j k → Recovers m (Err PowerLost) k
cut-before {m} {j} {k} checks down =
    let t = sound-size checks in
    let b = size-blocks m.count (m.count / 32) t refl in
    recovers-taken k (Err PowerLost) t (looking-cut (m.count / 32) m b.0 b.2 (looked-down (checks.taken t).0 down))

-- the free state alone has the number 0
pub zero-free : (s : LogState) → state_number s ≡ 0 → s ≡ Free
zero-free Free h = refl
zero-free Commit h = absurd (omega arith)
zero-free Checkpoint h = absurd (omega arith)

-- the log is free
pub free-done : {m k : Model} (s : Survey) (e : LogEntry) → Begun m k s e → e.state ≡ Free → Recovers m (Ok false) k
free-done {m} {k} s e b free = recovers-taken k (Ok false) b.suitable (idle-done (m.count / 32) m b.big b.size b.looked b.sound (sym b.tells.state ∙ ap state_number free))

-- The entry of a log that is not free, after those loads.
module _ {m k : Model} (s : Survey) (e : LogEntry) (b : Begun m k s e) (some : e.state ≡ Free → ⊥) where
  busy : state m.seen ≡ 0 → ⊥
  busy z = some (zero-free e.state (b.tells.state ∙ z))

  low : (i : ℕ) → i < 96 → m.seen i ≡ k.seen i
  low i lt = sym (b.looked.seen i (omega (arith, b.big, b.size)))

  slot-inside : e.mark.slot < 16
  slot-inside = subst (λ x. x < 16) (sym b.tells.slot) (b.sound.six.entry busy).0

  tells-later : Tells k.seen e
  tells-later = tells-moved m.seen k.seen e low b.tells

  pub root-later : (slot root : ℕ) → slot ≡ e.mark.slot → root ≡ (slot_at s.directory slot).root → root ≡ root_word k.seen (log_slot k.seen)
  root-later slot root is r =
      let inside = slot-inside in
      let here : e.mark.slot ≡ log_slot k.seen = tells-later.slot in
      r ∙ ap (λ x. (slot_at s.directory x).root) is ∙ b.lists.roots e.mark.slot inside ∙ low (64 + (2 * e.mark.slot + 1)) (omega arith) ∙ ap (root_word k.seen) here

  puttable-later : (x : ℕ) (p : Option Piece) → PieceIn x p → GoodPiece m.seen x → Puttable k.count p
  puttable-later x p is good =
      let entry = b.sound.six.entry busy in
      good-puttable (m.count / 32) k.count m.seen x p (subst (λ z. 32 * (m.count / 32) ≤ z) (sym b.looked.fewer.same_count) b.size) b.sound.four entry.0 entry.1 is good

  pub undoable-later : Undoable k e
  undoable-later =
      let entry = b.sound.six.entry busy in
      record {
        up = b.looked.up;
        size = omega (arith, b.looked.fewer.same_count, b.big, b.size);
        tells = tells-later;
        start = puttable-later (m.seen 11) e.start b.tells.start entry.2;
        last = puttable-later (m.seen 12) e.end b.tells.last entry.3;
      }

  pub cut-taking : {n : Model} → CutIn k (taken_back k.seen) n → Recovers m (Err PowerLost) n
  cut-taking {n} cut = recovers-taken n (Err PowerLost) b.suitable (taking-cut (m.count / 32) m b.big b.size (taken-cut (m.count / 32) b.big b.size b.sound busy b.looked cut))

  module _ {l : Model} (put : Bool) (take : TakenBack k (Ok put) l) where
    taken : TakenBack m (Ok put) l
    taken = taken-done (m.count / 32) b.big b.size b.sound busy b.looked put take

    pub state-inside : 8 < l.count
    state-inside = omega (arith, taken.0.made.count, b.big, b.size)

    pub cut-freeing : {n : Model} → CutIn l (word 8 0 ∷ []) n → Recovers m (Err PowerLost) n
    cut-freeing {n} cut = recovers-taken n (Err PowerLost) b.suitable (freeing-cut (m.count / 32) m b.big b.size taken.0 taken.2 cut)

    pub all-done : {n : Model} → AllMade l (word 8 0 ∷ []) n × Settled n → Recovers m (Ok put) n
    all-done {n} done = recovers-taken n (Ok put) b.suitable (freed-done (m.count / 32) m b.big b.size put b.sound busy taken.1 taken.0 done.0 done.1)
