-- Recovery, wherever it is cut off, leads where the image led. Assumes nothing.
use Rattle.std.proofs.Common.{◌≡◌, ℕ, ◌+◌, ◌*◌, ◌<◌, ◌≤◌, Bool, true, false, cond, eqb, ◌⊎◌, List, [], ◌∷◌, ◌++◌, sym, refl, ap, ◌∙◌, subst, inl, inr, ⊎_elim, arith}
use Rattle.std.proofs.lemmas.Bool.Decides.{nat_tests}
use Rattle.std.proofs.lemmas.Bool.{cases_Bool, cases_eq, eq-eqb, ne_eqb}
use Rattle.memory.specs.Model.{In}
use Rattle.memory.specs.Stores.{Words, word, one, put, values_at}
use Rattle.memory.specs.declared.word.Word.{Word}
use Rattle.memory.proofs.Putting.{in_right, in_either, one-here, one-other, put-append, put_same, put_in, values-either}
use Rattle.layout.specs.Image.{Same, root_word, map_of}
use Rattle.layout.specs.Log.{state, log_slot, undone, undoing, recovered, Sound, Clean, LeadsTo, LeadsToFiles}
use Rattle.layout.specs.Table.{Table}
use Rattle.images.proofs.Frame.{SameMaps, alike-sound, good-map, same-holds, same-holds_files}
use Rattle.images.proofs.Pieces.{map-apart, file-data, InPiece, undoing-place, undoing-same}

-- each word of v is w's, or one that is stored there
abbrev pub Torn : ℕ → Words → List Word → Words → Type 0
Torn n w ss v = (i : ℕ) → i < 32 * n → In (v i) (values_at ss i ++ w i ∷ [])

-- where something is stored, the old words do not matter
put-over : (ss : List Word) (v w : Words) (i x : ℕ) → In x (values_at ss i) → put ss v i ≡ put ss w i
put-over [] v w i x h = absurd h
put-over (s ∷ ss) v w i x h = go (values-either s ss i x h) (put-over ss (one s v) (one s w) i x)
  where
    go : ((i ≡ s.at) × (x ≡ s.value)) ⊎ In x (values_at ss i) → (In x (values_at ss i) → put ss (one s v) i ≡ put ss (one s w) i) → put ss (one s v) i ≡ put ss (one s w) i
    go (inl h) later = put_same ss (one s v) (one s w) i (subst (λ k. one s v k ≡ one s w k) (sym h.0) (one-here s v ∙ sym (one-here s w)))
    go (inr h) later = later h

-- the same stores again, into words that some of them tore
put-again : (ss : List Word) (v w : Words) (i : ℕ) → In (v i) (values_at ss i ++ w i ∷ []) → put ss v i ≡ put ss w i
put-again ss v w i h = ⊎_elim (put-over ss v w i (v i)) (⊎_elim (put_same ss v w i) (λ k. absurd k)) (in_either (v i) (values_at ss i) (w i ∷ []) h)

-- all stores made is one way to be torn
put-torn : (n : ℕ) (w : Words) (ss : List Word) → Torn n w ss (put ss w)
put-torn n w ss i lt = put_in ss w i (w i ∷ []) (inl refl)

pub undone-busy : (w : Words) → undone w ≡ true → state w ≡ 0 → ⊥
undone-busy w undo e = grind (arith, nat_tests)

-- An image whose entry is not free, torn while pieces are put back.
module _ (n : ℕ) (w v : Words) (big : 6 ≤ n) (sound : Sound n w) (busy : state w ≡ 0 → ⊥) (torn : Torn n w (undoing w) v) where
  untouched : (i : ℕ) → i < 32 * n → (InPiece w i → ⊥) → v i ≡ w i
  untouched i lt out =
      let entry = sound.six.entry busy in
      ⊎_elim (λ h. absurd (out (undoing-place w i (v i) entry.2 entry.3 h))) (⊎_elim (λ e. e) (λ h. absurd h)) (in_either (v i) (values_at (undoing w) i) (w i ∷ []) (torn i lt))

  -- blocks 0 to 2
  low : (i : ℕ) → i < 96 → v i ≡ w i
  low i lt = untouched i (omega arith) (λ p.
      let entry = sound.six.entry busy in
      let d = file-data n w (log_slot w) p.0 sound.four entry.0 entry.1 p.1 in
      omega arith)

  undoing-maps : SameMaps w v
  undoing-maps = record {
    names = λ s lt. low (64 + 2 * s) (omega arith);
    roots = λ s lt. low (64 + (2 * s + 1)) (omega arith);
    maps = λ s k lt name kt.
        let g = good-map n (root_word w s) k (sound.three s lt name) kt in
        untouched (32 * map_of (root_word w s) + k) (omega arith) (λ p.
        let entry = sound.six.entry busy in
        let d = file-data n w (log_slot w) p.0 sound.four entry.0 entry.1 p.1 in
        map-apart w s (log_slot w) p.0 sound.five lt entry.0 name g.2 entry.1 d.1 p.1 (omega arith));
  }

-- the places where pieces are put back: words of file blocks, so past block 2 and in no map that counts
pub undoing-sound : (n : ℕ) (w v : Words) → 6 ≤ n → Sound n w → (state w ≡ 0 → ⊥) → Torn n w (undoing w) v → Sound n v
undoing-sound n w v big sound busy torn =
    let low-here = low n w v big sound busy torn in
    alike-sound n w v (undoing-maps n w v big sound busy torn)
    (record { size = low-here 0 (omega arith); state = inl (low-here 8 (omega arith)); slot = low-here 9 (omega arith); start = low-here 11 (omega arith); end = low-here 12 (omega arith) }) sound

-- what recovery makes: pieces and state, the state alone, or nothing
pub recovered-undone : (w : Words) → undone w ≡ true → recovered w ≡ one (word 8 0) (put (undoing w) w)
recovered-undone w undo =
    ap (λ (b : Bool). put (cond b (undoing w) [] ++ cond (eqb (state w) 0) [] (word 8 0 ∷ [])) w) undo
    ∙ ap (λ (b : Bool). put (undoing w ++ cond b [] (word 8 0 ∷ [])) w) (ne_eqb (state w) 0 (undone-busy w undo))
    ∙ put-append (undoing w) (word 8 0 ∷ []) w

pub recovered-kept : (w : Words) → undone w ≡ false → (state w ≡ 0 → ⊥) → recovered w ≡ one (word 8 0) w
recovered-kept w undo busy =
    ap (λ (b : Bool). put (cond b (undoing w) [] ++ cond (eqb (state w) 0) [] (word 8 0 ∷ [])) w) undo
    ∙ ap (λ (b : Bool). put (cond b [] (word 8 0 ∷ [])) w) (ne_eqb (state w) 0 busy)

pub recovered-idle : (w : Words) → state w ≡ 0 → recovered w ≡ w
recovered-idle w idle =
    ap (λ (b : Bool). put (cond b (undoing w) [] ++ cond (eqb (state w) 0) [] (word 8 0 ∷ [])) w) kept
    ∙ ap (λ (b : Bool). put (cond b [] (word 8 0 ∷ [])) w) (eq-eqb (state w) 0 idle)
  where
    kept : undone w ≡ false
    kept = grind (arith, nat_tests)

recovered-ways : (w : Words) (P : Words → Type 0) → (undone w ≡ true → P (one (word 8 0) (put (undoing w) w))) → (undone w ≡ false → (state w ≡ 0 → ⊥) → P (one (word 8 0) w)) → (state w ≡ 0 → P w) → P (recovered w)
recovered-ways w P both alone none =
    ⊎_elim (λ undo. subst P (sym (recovered-undone w undo)) (both undo))
    (λ kept. ⊎_elim (λ idle. subst P (sym (recovered-idle w idle)) (none idle)) (λ busy. subst P (sym (recovered-kept w kept busy)) (alone kept busy)) (cases_eq (state w) 0))
    (cases_Bool (undone w))

pub undone-same : (w v : Words) → v 8 ≡ w 8 → v 9 ≡ w 9 → v 10 ≡ w 10 → root_word v (log_slot w) ≡ root_word w (log_slot w) → undone v ≡ undone w
undone-same w v e8 e9 e10 root = cc

-- putting back again gives the same
pub undoing-again : (n : ℕ) (w v : Words) → 6 ≤ n → Sound n w → undone w ≡ true → Torn n w (undoing w) v → Same n (recovered w) (recovered v)
undoing-again n w v big sound undo torn i lt =
    let busy = undone-busy w undo in
    let entry = sound.six.entry busy in
    let same = low n w v big sound busy torn in
    let undo' = undone-same w v (same 8 (omega arith)) (same 9 (omega arith)) (same 10 (omega arith)) ((undoing-maps n w v big sound busy torn).roots (log_slot w) entry.0) ∙ undo in
    ap (λ (x : Words). x i) (recovered-undone v undo' ∙ ap (λ ss. one (word 8 0) (put ss v)) (undoing-same w v entry.2 entry.3 same))
    ∙ put_same (word 8 0 ∷ []) (put (undoing w) v) (put (undoing w) w) i (put-again (undoing w) v w i (torn i lt))
    ∙ ap (λ (x : Words). x i) (sym (recovered-undone w undo))

-- An image torn while the state is freed.
module _ (n : ℕ) (w v : Words) (big : 6 ≤ n) (torn : Torn n w (word 8 0 ∷ []) v) where
  freed : (i : ℕ) → i < 32 * n → ((i ≡ 8) × (v i ≡ 0)) ⊎ (v i ≡ w i)
  freed i lt = ⊎_elim (λ h. ⊎_elim inl (λ k. absurd k) (values-either (word 8 0) [] i (v i) h)) (⊎_elim inr (λ k. absurd k)) (in_either (v i) (values_at (word 8 0 ∷ []) i) (w i ∷ []) (torn i lt))

  freed-state : (v 8 ≡ w 8) ⊎ (v 8 ≡ 0)
  freed-state = ⊎_elim (λ h. inr h.1) inl (freed 8 (omega arith))

  freed-other : (i : ℕ) → i < 32 * n → (i ≡ 8 → ⊥) → v i ≡ w i
  freed-other i lt ne = ⊎_elim (λ h. absurd (ne h.0)) (λ e. e) (freed i lt)

  -- with the old state
  freed-not : v 8 ≡ w 8 → Same n w v
  freed-not e i lt = ⊎_elim (λ k. subst (λ j. v j ≡ w j) (sym k) e) (freed-other i lt) (cases_eq i 8)

  -- with the state free
  freed-same : v 8 ≡ 0 → Same n (one (word 8 0) w) (recovered v)
  freed-same e i lt =
      ap (λ (x : Words). x i) (recovered-idle v e)
      ∙ ⊎_elim (λ k. subst (λ j. v j ≡ one (word 8 0) w j) (sym k) (e ∙ sym (one-here (word 8 0) w))) (λ ne. freed-other i lt ne ∙ sym (one-other (word 8 0) i w ne)) (cases_eq i 8)

-- the state alone is left
pub freeing-sound : (n : ℕ) (w v : Words) → 6 ≤ n → Sound n w → Torn n w (word 8 0 ∷ []) v → Sound n v
freeing-sound n w v big sound torn =
    alike-sound n w v
    (record {
      names = λ s lt. other (64 + 2 * s) (omega arith) (omega arith);
      roots = λ s lt. other (64 + (2 * s + 1)) (omega arith) (omega arith);
      maps = λ s k lt name kt.
          let g = good-map n (root_word w s) k (sound.three s lt name) kt in
          other (32 * map_of (root_word w s) + k) (omega arith) (omega arith);
    })
    (record { size = other 0 (omega arith) (omega arith); state = freed-state n w v big torn; slot = other 9 (omega arith) (omega arith); start = other 11 (omega arith) (omega arith); end = other 12 (omega arith) (omega arith) })
    sound
  where
    other : (i : ℕ) → i < 32 * n → (i ≡ 8 → ⊥) → v i ≡ w i
    other = freed-other n w v big torn

-- a full recovery leaves a sound image with the log free, and given again it changes nothing
pub recovered-clean : (n : ℕ) (w : Words) → 6 ≤ n → Sound n w → Clean n (recovered w)
recovered-clean n w big sound =
    recovered-ways w (Clean n)
    (λ undo. free (put (undoing w) w) (undoing-sound n w (put (undoing w) w) big sound (undone-busy w undo) (put-torn n w (undoing w))))
    (λ kept busy. free w sound)
    (λ idle. record { sound = sound; idle = idle })
  where
    free : (u : Words) → Sound n u → Clean n (one (word 8 0) u)
    free u s = record { sound = freeing-sound n u (one (word 8 0) u) big s (put-torn n u (word 8 0 ∷ [])); idle = refl }

pub recovered-again : (w : Words) → recovered (recovered w) ≡ recovered w
recovered-again w = recovered-idle (recovered w) (recovered-ways w (λ u. state u ≡ 0) (λ undo. refl) (λ kept busy. refl) (λ idle. idle))

-- recovery takes the image, and it then is what it would have been
pub record Lands (n : ℕ) (w v : Words) : Type 0 where
  pub sound : Sound n v
  pub same : Same n (recovered w) (recovered v)

-- wherever recovery is cut off: while the pieces are put back, while the state is freed after that, and while it is freed alone
pub undoing-lands : (n : ℕ) (w v : Words) → 6 ≤ n → Sound n w → undone w ≡ true → Torn n w (undoing w) v → Lands n w v
undoing-lands n w v big sound undo torn = record { sound = undoing-sound n w v big sound (undone-busy w undo) torn; same = undoing-again n w v big sound undo torn }

pub undone-lands : (n : ℕ) (w v : Words) → 6 ≤ n → Sound n w → undone w ≡ true → Torn n (put (undoing w) w) (word 8 0 ∷ []) v → Lands n w v
undone-lands n w v big sound undo torn = ⊎_elim before after (freed-state n u v big torn)
  where
    u : Words
    u = put (undoing w) w

    -- the state is the old one
    before : v 8 ≡ u 8 → Lands n w v
    before e = undoing-lands n w v big sound undo (λ i lt. subst (λ x. In x (values_at (undoing w) i ++ w i ∷ [])) (sym (freed-not n u v big torn e i lt)) (put-torn n w (undoing w) i lt))

    -- it is free
    after : v 8 ≡ 0 → Lands n w v
    after e = record {
      sound = freeing-sound n u v big (undoing-sound n w u big sound (undone-busy w undo) (put-torn n w (undoing w))) torn;
      same = λ i lt. freed-same n u v big torn e i lt ∙ ap (λ (x : Words). x i) (sym (recovered-undone w undo));
    }

-- freeing again gives the same
pub freeing-again : (n : ℕ) (w v : Words) → 6 ≤ n → Sound n w → undone w ≡ false → Torn n w (word 8 0 ∷ []) v → Same n (recovered w) (recovered v)
freeing-again n w v big sound kept torn = ⊎_elim idle busy (cases_eq (state w) 0)
  where
    idle : state w ≡ 0 → Same n (recovered w) (recovered v)
    idle e i lt =
        let same : v 8 ≡ w 8 = ⊎_elim (λ k. k) (λ k. k ∙ sym e) (freed-state n w v big torn) in
        ap (λ (x : Words). x i) (recovered-idle v (same ∙ e)) ∙ freed-not n w v big torn same i lt ∙ ap (λ (x : Words). x i) (sym (recovered-idle w e))

    before : (state w ≡ 0 → ⊥) → v 8 ≡ w 8 → Same n (recovered w) (recovered v)
    before b e i lt =
        let same = freed-not n w v big torn e in
        let entry = sound.six.entry b in
        let kept' = undone-same w v e (same 9 (omega arith)) (same 10 (omega arith)) (same (64 + (2 * log_slot w + 1)) (omega arith)) ∙ kept in
        ap (λ (x : Words). x i) (recovered-kept v kept' (λ k. b (sym e ∙ k))) ∙ put_same (word 8 0 ∷ []) v w i (same i lt) ∙ ap (λ (x : Words). x i) (sym (recovered-kept w kept b))

    after : (state w ≡ 0 → ⊥) → v 8 ≡ 0 → Same n (recovered w) (recovered v)
    after b e i lt = freed-same n w v big torn e i lt ∙ ap (λ (x : Words). x i) (sym (recovered-kept w kept b))

    busy : (state w ≡ 0 → ⊥) → Same n (recovered w) (recovered v)
    busy b = ⊎_elim (before b) (after b) (freed-state n w v big torn)

pub freeing-lands : (n : ℕ) (w v : Words) → 6 ≤ n → Sound n w → undone w ≡ false → Torn n w (word 8 0 ∷ []) v → Lands n w v
freeing-lands n w v big sound kept torn = record { sound = freeing-sound n w v big sound torn; same = freeing-again n w v big sound kept torn }

-- so it leads to the table that it led to
pub leads-same : (n : ℕ) (w v : Words) (t : Table) → 6 ≤ n → Sound n v → Same n (recovered w) (recovered v) → LeadsTo n w t → LeadsTo n v t
leads-same n w v t big sound same leads = record { sound = sound; holds = same-holds n (recovered w) (recovered v) t big same (recovered-clean n w big leads.sound).sound leads.holds }

pub leads-undoing : (n : ℕ) (w v : Words) (t : Table) → 6 ≤ n → LeadsTo n w t → undone w ≡ true → Torn n w (undoing w) v → LeadsTo n v t
leads-undoing n w v t big leads undo torn = let l = undoing-lands n w v big leads.sound undo torn in leads-same n w v t big l.sound l.same leads

pub leads-undone : (n : ℕ) (w v : Words) (t : Table) → 6 ≤ n → LeadsTo n w t → undone w ≡ true → Torn n (put (undoing w) w) (word 8 0 ∷ []) v → LeadsTo n v t
leads-undone n w v t big leads undo torn = let l = undone-lands n w v big leads.sound undo torn in leads-same n w v t big l.sound l.same leads

pub leads-freeing : (n : ℕ) (w v : Words) (t : Table) → 6 ≤ n → LeadsTo n w t → undone w ≡ false → Torn n w (word 8 0 ∷ []) v → LeadsTo n v t
leads-freeing n w v t big leads kept torn = let l = freeing-lands n w v big leads.sound kept torn in leads-same n w v t big l.sound l.same leads

-- and to the files that it led to, in whatever order
pub leads_to_files-same : (n : ℕ) (w v : Words) (t : Table) → 6 ≤ n → Sound n v → Same n (recovered w) (recovered v) → LeadsToFiles n w t → LeadsToFiles n v t
leads_to_files-same n w v t big sound same leads = record { sound = sound; holds = same-holds_files n (recovered w) (recovered v) t big same (recovered-clean n w big leads.sound).sound leads.holds }

pub leads_to_files-undoing : (n : ℕ) (w v : Words) (t : Table) → 6 ≤ n → LeadsToFiles n w t → undone w ≡ true → Torn n w (undoing w) v → LeadsToFiles n v t
leads_to_files-undoing n w v t big leads undo torn = let l = undoing-lands n w v big leads.sound undo torn in leads_to_files-same n w v t big l.sound l.same leads

pub leads_to_files-undone : (n : ℕ) (w v : Words) (t : Table) → 6 ≤ n → LeadsToFiles n w t → undone w ≡ true → Torn n (put (undoing w) w) (word 8 0 ∷ []) v → LeadsToFiles n v t
leads_to_files-undone n w v t big leads undo torn = let l = undone-lands n w v big leads.sound undo torn in leads_to_files-same n w v t big l.sound l.same leads

pub leads_to_files-freeing : (n : ℕ) (w v : Words) (t : Table) → 6 ≤ n → LeadsToFiles n w t → undone w ≡ false → Torn n w (word 8 0 ∷ []) v → LeadsToFiles n v t
leads_to_files-freeing n w v t big leads kept torn = let l = freeing-lands n w v big leads.sound kept torn in leads_to_files-same n w v t big l.sound l.same leads

-- recovery of the same words comes to the same
pub recovered-same : (n : ℕ) (w v : Words) → 6 ≤ n → Sound n w → Same n w v → Same n (recovered w) (recovered v)
recovered-same n w v big sound same = ⊎_elim (λ undo. undoing-again n w v big sound undo (torn (undoing w))) (λ kept. freeing-again n w v big sound kept (torn (word 8 0 ∷ []))) (cases_Bool (undone w))
  where
    torn : (ss : List Word) → Torn n w ss v
    torn ss i lt = in_right (v i) (values_at ss i) (w i ∷ []) (inl (same i lt))
