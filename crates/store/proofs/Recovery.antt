-- What the phases of recovery come to. Assumes nothing.
use Rattle.std.proofs.Common.{◌≡◌, ℕ, ◌+◌, ◌*◌, ◌<◌, ◌≤◌, Bool, true, false, cond, List, [], ◌∷◌, ◌++◌, Some, None, Ok, Option, sym, refl, ap, ◌∙◌, subst, inl, inr, ⊎_elim, arith}
use Rattle.std.proofs.lemmas.Bool.{cases_Bool, ne_eqb}
use Rattle.std.proofs.lemmas.Bool.Decides.{nat_tests}
use Rattle.memory.specs.Model.{Model, In, Settled}
use Rattle.memory.specs.Stores.{Words, word, put, values_at}
use Rattle.memory.specs.declared.word.Word.{Word}
use Rattle.memory.proofs.Putting.{up-down, in_either, in_left, in_right}
use Rattle.layout.specs.Image.{Same, named, Rule4}
use Rattle.layout.specs.Log.{state, log_slot, no_piece, piece_of, GoodPiece, putting_back, undoing, undone, puts_back, recovered, Sound, LeadsToFiles}
use Rattle.layout.specs.Table.{Table}
use Rattle.images.proofs.Frame.{same-sound, same-holds_files}
use Rattle.images.proofs.Lists.{map_same}
use Rattle.images.proofs.Pieces.{file-data, undoing-same}
use Rattle.images.proofs.Recovering.{Torn, undone-same, recovered-idle, recovered-clean, recovered-same, leads_to_files-same, leads_to_files-undoing, leads_to_files-undone, leads_to_files-freeing}
use Rattle.image_check.specs.Reading.{Looked, LookedDown}
use Rattle.store.specs.Phase.{Drawn, AllMade, CutIn}
use Rattle.layout.specs.declared.log.Piece.{Piece}
use Rattle.layout.specs.Packed.{PieceIn}
use Rattle.store.specs.LogEntry.{Tells, putting}
use Rattle.store.specs.Recover.{RecoverDone, RecoverCut, Puttable, taken_back, TakenBack}
use Rattle.store.specs.declared.log_entry.LogEntry.{LogEntry}
use Rattle.store.proofs.Phases.{put-copies, looked-made, done_more, so_far, cut-more, cut-looked}

-- a piece of a sound image can be put back
pub good-puttable : (n count : ℕ) (w : Words) (x : ℕ) (p : Option Piece) → 32 * n ≤ count → Rule4 n w → log_slot w < 16 → named w (log_slot w) ≡ true → PieceIn x p → GoodPiece w x → Puttable count p
good-puttable n count w x None size four lt name is good = tt
good-puttable n count w x (Some p) size four lt name is (inl none) = absurd (up-down (no_piece x) none is.0)
good-puttable n count w x (Some p) size four lt name is (inr good) =
    let d = (file-data n w (log_slot w) (piece_of x).block four lt name good.3).0 in
    (omega (arith, d.0), omega (arith, good.1), omega (arith, good.2), omega (arith, d.1, size))

-- words before block 3 stay when a piece is put back
put-back-low : (count : ℕ) (w u : Words) (p : Option Piece) (old i : ℕ) → Puttable count p → i < 96 → put (putting w p old) u i ≡ u i
put-back-low count w u None old i can lt = refl
put-back-low count w u (Some p) old i can lt = put-copies (λ j. w (old + j)) (32 * p.block + p.first) 0 p.count u i (omega (arith, can.0))

-- putting one piece back leaves the old words of the other alone
pub second-piece : {m k : Model} (p q : Option Piece) (old : ℕ) → 96 ≤ m.count → Puttable m.count p → Puttable m.count q → old + 16 ≤ 64 → AllMade m (putting m.seen p 32) k → putting k.seen q old ≡ putting m.seen q old
second-piece p None old size first second log made = refl
second-piece {m} {k} p (Some q) old size first second log made =
    let to = 32 * q.block + q.first in
    map_same (λ j. word (to + j) (k.seen (old + j))) (λ j. word (to + j) (m.seen (old + j))) 0 q.count (λ j lt.
    ap (word (to + j)) (made.made.seen (old + j) (omega arith) made.up ∙ put-back-low m.count m.seen m.seen p 32 (old + j) first (omega arith)))

-- what a piece puts back is what its word says
pub piece-words : (w : Words) (x old : ℕ) (p : Option Piece) → PieceIn x p → putting w p old ≡ putting_back w x old
piece-words w x old None is = cc
piece-words w x old (Some p) is = simp (is.0, is.1, is.2, is.3)

-- what the entry tells
pub tells-pieces : (w : Words) (e : LogEntry) → Tells w e → putting w e.start 32 ++ putting w e.end 48 ≡ undoing w
tells-pieces w e h = let s = piece-words w (w 11) 32 e.start h.start in let l = piece-words w (w 12) 48 e.end h.last in cc

pub taken_back-undone : (w : Words) → undone w ≡ true → taken_back w ≡ undoing w
taken_back-undone w e = ap (λ (b : Bool). cond b (undoing w) []) e

pub none-back : (w : Words) → undone w ≡ false → taken_back w ≡ []
none-back w e = ap (λ (b : Bool). cond b (undoing w) []) e

-- loads leave a settled memory settled
pub looked-settled : {m n : Model} → Looked m n → Settled m → Settled n
looked-settled {m} {n} looked settled i lt v h =
    let inside : i < m.count = subst (λ x. i < x) looked.fewer.same_count lt in
    subst (λ x. In v (x ∷ [])) (sym (looked.seen i inside)) (settled i inside v (looked.fewer.fewer i inside v h))

-- What a memory of so many blocks, with a sound image, comes to.
module _ (blocks : ℕ) (m : Model) (big : 6 ≤ blocks) (size : 32 * blocks ≤ m.count) where
  -- an image found after stores that were cut off from a settled memory is torn by them
  pub torn : {n : Model} (ss : List Word) (v : Words) → Settled m → CutIn m ss n → Drawn n v → Torn blocks m.seen ss v
  torn {n} ss v settled cut drawn i lt =
      let inside : i < m.count = omega (arith, size) in
      ⊎_elim (in_left (v i) (values_at ss i) (m.seen i ∷ [])) (λ h. in_right (v i) (values_at ss i) (m.seen i ∷ []) (settled i inside (v i) h))
      (in_either (v i) (values_at ss i) (m.may i) (cut.made.may i (v i) inside (drawn i (subst (λ x. i < x) (sym cut.made.count) inside))))

  pub torn-none : (v : Words) → Torn blocks m.seen [] v → Same blocks m.seen v
  torn-none v h i lt = ⊎_elim (λ e. e) (λ k. absurd k) (h i lt)

  pub same-leads : (v : Words) (t : Table) → Same blocks m.seen v → LeadsToFiles blocks m.seen t → LeadsToFiles blocks v t
  same-leads v t same leads = leads_to_files-same blocks m.seen v t big (same-sound blocks m.seen v big same leads.sound) (recovered-same blocks m.seen v big leads.sound same) leads

  -- cut off while pieces are put back, or before anything is stored
  pub taking-cut : {n : Model} → CutIn m (taken_back m.seen) n → RecoverCut blocks m n
  taking-cut {n} cut = record {
    down = cut.down;
    count = cut.made.count;
    still = cut.still;
    leads = λ settled v drawn t leads.
        let found = torn (taken_back m.seen) v settled cut drawn in
        ⊎_elim
        (λ u. leads_to_files-undoing blocks m.seen v t big leads u (subst (λ ss. Torn blocks m.seen ss v) (taken_back-undone m.seen u) found))
        (λ u. same-leads v t (torn-none v (subst (λ ss. Torn blocks m.seen ss v) (none-back m.seen u) found)) leads)
        (cases_Bool (undone m.seen));
  }

  pub looking-cut : {n : Model} → LookedDown m n → RecoverCut blocks m n
  looking-cut looked = taking-cut (cut-looked (taken_back m.seen) looked)

  -- recovery is done once the image seen is the recovered one
  done-from : {n : Model} (put : Bool) → m.up ≡ true → n.up ≡ true → n.count ≡ m.count → Sound blocks m.seen → put ≡ puts_back m.seen → ((i : ℕ) → i < m.count → n.seen i ≡ recovered m.seen i) → (Settled m → Settled n) → RecoverDone blocks m put n
  done-from {n} put was-up up count sound puts seen settled =
      let same : Same blocks (recovered m.seen) n.seen = λ i lt. seen i (omega (arith, size)) in
      let clean = recovered-clean blocks m.seen big sound in
      record {
        was-up = was-up;
        sound = sound;
        put_back = puts;
        up = up;
        count = count;
        seen = seen;
        clean = record { sound = same-sound blocks (recovered m.seen) n.seen big same clean.sound; idle = same 8 (omega arith) ∙ clean.idle };
        holds = λ t leads. same-holds_files blocks (recovered m.seen) n.seen t big same clean.sound leads.holds;
        settled = settled;
      }

  -- with the log free, nothing is stored
  pub idle-done : {n : Model} → Looked m n → Sound blocks m.seen → state m.seen ≡ 0 → RecoverDone blocks m false n
  idle-done {n} looked sound idle =
      done-from false looked.was-up looked.up looked.fewer.same_count sound ((let none = kept idle in cc))
      (λ i lt. looked.seen i lt ∙ ap (λ (w : Words). w i) (sym (recovered-idle m.seen idle)))
      (looked-settled looked)
    where
      kept : state m.seen ≡ 0 → undone m.seen ≡ false
      kept e = grind (arith, nat_tests)

  -- an image found after a further phase was cut off is torn by that one alone
  pub torn-later : {k n : Model} (us ss : List Word) (v : Words) → AllMade m us k → (Settled m → Settled k) → CutIn k ss n → Settled m → Drawn n v → Torn blocks (put us m.seen) ss v
  torn-later {k} {n} us ss v made settles cut settled drawn i lt =
      let inside : i < m.count = omega (arith, size) in
      let inside' : i < k.count = subst (λ x. i < x) (sym made.made.count) inside in
      ⊎_elim (in_left (v i) (values_at ss i) (put us m.seen i ∷ []))
      (λ h. in_right (v i) (values_at ss i) (put us m.seen i ∷ []) (subst (λ x. In (v i) (x ∷ [])) (made.made.seen i inside made.up) (settles settled i inside' (v i) h)))
      (in_either (v i) (values_at ss i) (k.may i) (cut.made.may i (v i) inside' (drawn i (subst (λ x. i < x) (sym cut.made.count) inside'))))

  -- cut off while the log is freed
  pub freeing-cut : {k n : Model} → AllMade m (taken_back m.seen) k → (Settled m → Settled k) → CutIn k (word 8 0 ∷ []) n → RecoverCut blocks m n
  freeing-cut {k} {n} made settles cut = record {
    down = cut.down;
    count = cut.made.count ∙ made.made.count;
    still = λ down. absurd (up-down m.up made.was-up down);
    leads = λ settled v drawn t leads.
        let found = torn-later (taken_back m.seen) (word 8 0 ∷ []) v made settles cut settled drawn in
        ⊎_elim
        (λ u. leads_to_files-undone blocks m.seen v t big leads u (subst (λ ss. Torn blocks (put ss m.seen) (word 8 0 ∷ []) v) (taken_back-undone m.seen u) found))
        (λ u. leads_to_files-freeing blocks m.seen v t big leads u (subst (λ ss. Torn blocks (put ss m.seen) (word 8 0 ∷ []) v) (none-back m.seen u) found))
        (cases_Bool (undone m.seen));
  }

  -- done
  pub freed-done : {k n : Model} (put : Bool) → Sound blocks m.seen → (state m.seen ≡ 0 → ⊥) → put ≡ puts_back m.seen → AllMade m (taken_back m.seen) k → AllMade k (word 8 0 ∷ []) n → Settled n → RecoverDone blocks m put n
  freed-done {k} {n} puts sound busy e made freed settled =
      let all = done_more made freed in
      done-from puts made.was-up all.up all.made.count sound e
      (λ i lt. all.made.seen i lt all.up ∙ ap (λ (b : Bool). put (taken_back m.seen ++ cond b [] (word 8 0 ∷ [])) m.seen i) (sym (ne_eqb (state m.seen) 0 busy)))
      (λ _. settled)

-- what was taken back after loads was taken back from the image before them
module _ (blocks : ℕ) {m k : Model} (big : 6 ≤ blocks) (size : 32 * blocks ≤ m.count) (sound : Sound blocks m.seen) (busy : state m.seen ≡ 0 → ⊥) (looked : Looked m k) where
  low : (i : ℕ) → i < 96 → k.seen i ≡ m.seen i
  low i lt = looked.seen i (omega (arith, size, big))

  pub undone-later : undone k.seen ≡ undone m.seen
  undone-later =
      let entry = sound.six.entry busy in
      undone-same m.seen k.seen (low 8 (omega arith)) (low 9 (omega arith)) (low 10 (omega arith)) (low (64 + (2 * log_slot m.seen + 1)) (omega (arith, entry.0)))

  taken-later : taken_back k.seen ≡ taken_back m.seen
  taken-later =
      let entry = sound.six.entry busy in
      let pieces = undoing-same m.seen k.seen entry.2 entry.3 low in
      let same = undone-later in
      cc

  puts-later : puts_back k.seen ≡ puts_back m.seen
  puts-later =
      let same = undone-later in
      let start = low 11 (omega arith) in
      let last = low 12 (omega arith) in
      cc

  pub taken-done : {n : Model} (put : Bool) → TakenBack k (Ok put) n → TakenBack m (Ok put) n
  taken-done {n} put h = (subst (λ ss. AllMade m ss n) taken-later (done_more (looked-made looked) h.0), h.1 ∙ puts-later, λ settled. h.2 (looked-settled looked settled))

  pub taken-cut : {n : Model} → CutIn k (taken_back k.seen) n → CutIn m (taken_back m.seen) n
  taken-cut {n} h = subst (λ ss. CutIn m ss n) taken-later (cut-more (so_far (looked-made looked)) h)
