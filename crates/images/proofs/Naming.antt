-- The images that the calls on names make. Assumes nothing.
use Rattle.std.proofs.Common.{◌≡◌, ℕ, ◌+◌, ◌*◌, ◌<◌, ◌≤◌, true, false, not, eqb, List, [], ◌∷◌, ◌++◌, sym, refl, ap, ◌∙◌, subst, inl, arith}
use Rattle.std.proofs.lemmas.List.{append-nil}
use Rattle.memory.specs.Bytes.{bytes_of}
use Rattle.memory.specs.Stores.{Words, word, one}
use Rattle.memory.proofs.Putting.{one-here, one-other}
use Rattle.layout.specs.Lists.{Rearranged}
use Rattle.layout.specs.Names.{well_formed}
use Rattle.layout.specs.Table.{replace, with_name}
use Rattle.layout.specs.Image.{named, name_word, name_of, root_word, file_bytes, slot_files, files_of}
use Rattle.layout.specs.Log.{Clean}
use Rattle.images.proofs.Directory.{Beside, Rooted, no_blocks, no-map, root_blocks, blocks-here, change-clean, unnamed-change, rooted-change, rooted-files, files-after, files-replaced}
use Rattle.images.proofs.Slots.{lone, no-file}
use Rattle.images.proofs.Splits.{before, after, split, item-between}

-- another name word in slot s
abbrev naming : Words → ℕ → ℕ → Words
naming w s x = one (word (64 + 2 * s) x) w

naming-beside : (w : Words) (s x : ℕ) → Beside w (naming w s x) s
naming-beside w s x i ne ne' = one-other (word (64 + 2 * s) x) i w ne

naming-name : (w : Words) (s x : ℕ) → name_word (naming w s x) s ≡ x
naming-name w s x = one-here (word (64 + 2 * s) x) w

naming-root : (w : Words) (s x : ℕ) → root_word (naming w s x) s ≡ root_word w s
naming-root w s x = one-other (word (64 + 2 * s) x) (64 + (2 * s + 1)) w (λ e. omega arith)

-- another root word in slot s
abbrev pub rooting : Words → ℕ → ℕ → Words
rooting w s x = one (word (64 + (2 * s + 1)) x) w

pub rooting-beside : (w : Words) (s x : ℕ) → Beside w (rooting w s x) s
rooting-beside w s x i ne ne' = one-other (word (64 + (2 * s + 1)) x) i w ne'

pub rooting-name : (w : Words) (s x : ℕ) → name_word (rooting w s x) s ≡ name_word w s
rooting-name w s x = one-other (word (64 + (2 * s + 1)) x) (64 + 2 * s) w (λ e. omega arith)

pub rooting-root : (w : Words) (s x : ℕ) → root_word (rooting w s x) s ≡ x
rooting-root w s x = one-here (word (64 + (2 * s + 1)) x) w

-- a name that no slot has
abbrev pub New : Words → List ℕ → Type 0
New w name = (u : ℕ) → u < 16 → named w u ≡ true → name_of w u ≡ name → ⊥

module _ (n : ℕ) (w : Words) (s : ℕ) (big : 6 ≤ n) (clean : Clean n w) (lt : s < 16) where
  pub removing : named w s ≡ true → let v = one (word (64 + 2 * s) 0) w in Clean n v × (files_of v ≡ replace (name_of w s) (λ f. []) (files_of w))
  removing name =
      let v = naming w s 0 in
      let off = naming-beside w s 0 in
      let none : named v s ≡ false = ap (λ x. not (eqb x 0)) (naming-name w s 0) in
      (change-clean n w v s lt clean (unnamed-change n w v s off none), files-replaced n w v s lt clean off (λ f. []) name (no-file v s none))

  -- the first step of a create
  pub clearing : named w s ≡ false → let v = one (word (64 + (2 * s + 1)) 0) w in Clean n v × (files_of v ≡ files_of w)
  clearing was =
      let v = rooting w s 0 in
      let off = rooting-beside w s 0 in
      let none : named v s ≡ false = ap (λ x. not (eqb x 0)) (rooting-name w s 0) ∙ was in
      let same : slot_files v s ≡ slot_files w s = no-file v s none ∙ sym (no-file w s was) in
      let files = files-after n w v s lt clean off ∙ ap (λ xs. before (slot_files w) s ++ (xs ++ after (slot_files w) s)) same ∙ sym (split (slot_files w) s lt) in
      (change-clean n w v s lt clean (unnamed-change n w v s off none), files)

  pub renaming : (x : ℕ) → named w s ≡ true → well_formed (bytes_of x) ≡ true → New w (bytes_of x)
      → let v = one (word (64 + 2 * s) x) w in Clean n v × (files_of v ≡ replace (name_of w s) (with_name (bytes_of x)) (files_of w))
  renaming x name formed new =
      let v = naming w s x in
      let root = root_word w s in
      let is : name_of v s ≡ bytes_of x = ap bytes_of (naming-name w s x) in
      let to : Rooted n w v s root = record {
        beside = naming-beside w s x;
        formed = ap well_formed is ∙ formed;
        is = naming-root w s x;
        good = clean.sound.three s lt name;
        maps = λ k kt. clean.sound.four s k lt name kt;
      } in
      let blocks = blocks-here w s name ∙ sym (append-nil (root_blocks w root)) in
      let file = rooted-files n w v s root lt to ∙ ap (λ y. lone y (file_bytes w root)) is in (
        change-clean n w v s lt clean (rooted-change n w v s root lt to (λ u ut ne h e. new u ut h (e ∙ is)) [] blocks),
        files-replaced n w v s lt clean to.beside (with_name (bytes_of x)) name file,
      )

  -- the second step of a create
  pub creating : (x : ℕ) → named w s ≡ false → root_word w s ≡ 0 → well_formed (bytes_of x) ≡ true → New w (bytes_of x)
      → let v = one (word (64 + 2 * s) x) w in Clean n v × Rearranged (files_of v) (files_of w ++ (record { name = bytes_of x; bytes = [] } ∷ []))
  creating x none empty formed new =
      let v = naming w s x in
      let is : name_of v s ≡ bytes_of x = ap bytes_of (naming-name w s x) in
      let to : Rooted n w v s 0 = record {
        beside = naming-beside w s x;
        formed = ap well_formed is ∙ formed;
        is = naming-root w s x ∙ empty;
        good = inl refl;
        maps = λ k kt. absurd (no-map k kt);
      } in
      let low = before (slot_files w) s in
      let high = after (slot_files w) s in
      let file = lone (bytes_of x) [] in
      let was : files_of w ≡ low ++ high = split (slot_files w) s lt ∙ ap (λ xs. low ++ (xs ++ high)) (no-file w s none) in
      let now : files_of v ≡ low ++ (file ++ high) = files-after n w v s lt clean to.beside ∙ ap (λ xs. low ++ (xs ++ high)) (rooted-files n w v s 0 lt to ∙ ap (λ y. lone y []) is) in
      let moved : Rearranged (low ++ (file ++ high)) ((low ++ high) ++ file) = item-between low (record { name = bytes_of x; bytes = [] }) high in (
        change-clean n w v s lt clean (rooted-change n w v s 0 lt to (λ u ut ne h e. new u ut h (e ∙ is)) [] (no_blocks w s none)),
        subst (λ fs. Rearranged fs (files_of w ++ file)) (sym now) (subst (λ fs. Rearranged (low ++ (file ++ high)) (fs ++ file)) (sym was) moved),
      )
