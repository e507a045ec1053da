-- What the look_up of a name says of the files, and the changes of a slot that the calls make. Assumes nothing.
use Rattle.std.proofs.Common.{◌≡◌, ◌≢◌, ℕ, ◌+◌, ◌*◌, ◌/◌, ◌<◌, ◌≤◌, Bool, true, false, cond, not, ◌&&◌, eqb, leb, ◌⊎◌, List, [], ◌∷◌, ◌++◌, length, take, is_some, Some, None, Option, MatchOption, sym, refl, ap, ◌∙◌, subst, inl, inr, arith}
use Rattle.std.proofs.lemmas.Bool.{true≢false, false≢true, le-leb, lt-leb, eq-eqb, ne_eqb}
use Rattle.memory.specs.Bytes.{bytes_of}
use Rattle.memory.specs.Model.{Model}
use Rattle.memory.specs.Stores.{Words, word, one}
use Rattle.memory.proofs.Putting.{one-here, one-other}
use Rattle.layout.specs.Image.{named, name_word, name_of, root_word, length_of, file_bytes, files_of, table_of, short_root, Rule2}
use Rattle.layout.specs.Lists.{Rearranged}
use Rattle.layout.specs.Log.{Clean}
use Rattle.layout.specs.Names.{well_formed}
use Rattle.layout.specs.Table.{Ask, Reply, done, refuse, create, rename, remove, shorten, find, replace, with_bytes, with_name, answer, change}
use Rattle.images.proofs.Directory.{formed-named}
use Rattle.images.proofs.Naming.{New, removing, renaming, clearing, creating}
use Rattle.images.proofs.Rearranging.{rearranged-refl}
use Rattle.images.proofs.Shortening.{shortening}
use Rattle.images.proofs.Slots.{find-slot, find_none, slots-room, bytes-length}
use Rattle.image_check.specs.Directory.{slot_at, Lists}
use Rattle.image_check.specs.declared.directory.Directory.{Directory}
use Rattle.store.specs.Calls.{FileOf}
use Rattle.store.specs.declared.file.OpenFile.{OpenFile}
use Rattle.store.proofs.Calling.{Named, Known}
use Rattle.store.proofs.Phasing.{SlotChange}

-- one word of the directory is changed at once
at-once : (blocks : ℕ) (w : Words) (a : Ask) (p x : ℕ) → Clean blocks w → 64 ≤ p → p < 96 → answer (table_of w) a ≡ done [] → Clean blocks (one (word p x) w) → files_of (one (word p x) w) ≡ change (files_of w) a → SlotChange blocks w w a p x
at-once blocks w a p x clean low high answered last files = record {
  before = clean;
  answered = answered;
  middle = clean;
  held = refl;
  beside = λ i off. refl;
  low = low;
  high = high;
  last = last;
  files = subst (Rearranged (files_of (one (word p x) w))) files (rearranged-refl (files_of (one (word p x) w)));
}

-- no slot has the bytes of a word
abbrev pub Missing : Directory → ℕ → Type 0
Missing d x = (s : ℕ) → s < 16 → bytes_of ((slot_at d s).name) ≡ bytes_of x → ⊥

-- a look-up that found none
pub found-none : (d : Directory) (x : ℕ) (o : Option ℕ) → MatchOption o (Missing d x) (λ s. (s < 16) × ((slot_at d s).name ≡ x)) → is_some o ≡ false → Missing d x
found-none d x (Some s) h e = absurd (true≢false e)
found-none d x None h e = h

module _ (w : Words) (d : Directory) (lists : Lists w d) where
  pub missing-new : (x : ℕ) (name : List ℕ) → bytes_of x ≡ name → Missing d x → New w name
  missing-new x name bytes h s lt nm e = h s lt (ap bytes_of (lists.names s lt) ∙ e ∙ sym bytes)

  pub missing-none : (x : ℕ) (name : List ℕ) → bytes_of x ≡ name → Missing d x → find name (files_of w) ≡ None
  missing-none x name bytes h = find_none w name (missing-new x name bytes h)

  pub empty-slot : (s : ℕ) → s < 16 → (slot_at d s).name ≡ 0 → named w s ≡ false
  empty-slot s lt is = ap not (eq-eqb (name_word w s) 0 (sym (lists.names s lt) ∙ is))

  pub all_named : ((s : ℕ) → s < 16 → (slot_at d s).name ≢ 0) → (s : ℕ) → s < 16 → named w s ≡ true
  all_named h s lt = ap not (ne_eqb (name_word w s) 0 (λ z. h s lt (lists.names s lt ∙ z)))

  -- the slot of a name
  module _ (x : ℕ) (name : List ℕ) (bytes : bytes_of x ≡ name) (formed : well_formed name ≡ true) where
    found-named : (s : ℕ) → s < 16 → (slot_at d s).name ≡ x → (named w s ≡ true) × (name_of w s ≡ name)
    found-named s lt is =
        let here : name_of w s ≡ name = ap bytes_of (sym (lists.names s lt) ∙ is) ∙ bytes in
        (formed-named w s (ap well_formed here ∙ formed), here)

    pub found-file : (f : OpenFile) → f.directory ≡ d → (slot_at d f.slot).name ≡ x → FileOf w name f
    found-file f same is =
        let here = found-named f.slot f.inside is in
        record { lists = subst (Lists w) (sym same) lists; named = here.0; is = here.1 }

    pub look_up : Rule2 w → (s : ℕ) → s < 16 → (slot_at d s).name ≡ x → find name (files_of w) ≡ Some (file_bytes w (root_word w s))
    look_up two s lt is =
        let here = found-named s lt is in
        ap (λ n. find n (files_of w)) (sym here.1) ∙ find-slot w s two lt here.0

    pub found-taken : Rule2 w → (o : Option ℕ) → MatchOption o (Missing d x) (λ s. (s < 16) × ((slot_at d s).name ≡ x)) → is_some o ≡ true → (bs : List ℕ) × (find name (files_of w) ≡ Some bs)
    found-taken two (Some s) h e = (file_bytes w (root_word w s), look_up two s h.0 h.1)
    found-taken two None h e = absurd (false≢true e)

-- The file that was opened in a clean image, and what changes it.
module _ {m k : Model} (name : List ℕ) (f : OpenFile) (b : Known m k name (FileOf m.seen name) f) where
  pub found-bytes : find name (files_of m.seen) ≡ Some (file_bytes m.seen (root_word m.seen f.slot))
  found-bytes = subst (λ x. find x (files_of m.seen) ≡ Some (file_bytes m.seen (root_word m.seen f.slot))) b.is.is (find-slot m.seen f.slot b.clean.sound.two f.inside b.is.named)

  pub remove-change : SlotChange (m.count / 32) m.seen m.seen (remove name) (64 + 2 * f.slot) 0
  remove-change =
      let found = found-bytes in
      let formed = b.formed in
      let lt = f.inside in
      let r = removing (m.count / 32) m.seen f.slot b.big b.clean lt b.is.named in
      at-once (m.count / 32) m.seen (remove name) (64 + 2 * f.slot) 0 b.clean (omega arith) (omega arith) (simp (formed, found)) r.0 (r.1 ∙ ap (λ n. replace n (λ f. []) (files_of m.seen)) b.is.is)

  pub rename-change : (new : List ℕ) (x : ℕ) → well_formed new ≡ true → bytes_of x ≡ new → New m.seen new → SlotChange (m.count / 32) m.seen m.seen (rename name new) (64 + 2 * f.slot) x
  rename-change new x formed' bytes free =
      let found = found-bytes in
      let formed = b.formed in
      let lt = f.inside in
      let none = find_none m.seen new free in
      let r = renaming (m.count / 32) m.seen f.slot b.big b.clean lt x b.is.named (ap well_formed bytes ∙ formed') (subst (New m.seen) (sym bytes) free) in
      at-once (m.count / 32) m.seen (rename name new) (64 + 2 * f.slot) x b.clean (omega arith) (omega arith) (simp (formed, formed', found, none)) r.0
      (r.1 ∙ ap (λ n. replace n (with_name (bytes_of x)) (files_of m.seen)) b.is.is ∙ ap (λ n. replace name (with_name n) (files_of m.seen)) bytes)

  pub shorten-change : (len : ℕ) → len ≤ length_of (root_word m.seen f.slot) → SlotChange (m.count / 32) m.seen m.seen (shorten name len) (64 + (2 * f.slot + 1)) (short_root (root_word m.seen f.slot) len)
  shorten-change len less =
      let root = root_word m.seen f.slot in
      let found = found-bytes in
      let formed = b.formed in
      let lt = f.inside in
      let short : leb len (length (file_bytes m.seen root)) ≡ true = ap (leb len) (bytes-length m.seen root) ∙ le-leb len (length_of root) less in
      let r = shortening (m.count / 32) m.seen f.slot b.big b.clean lt b.is.named len less in
      at-once (m.count / 32) m.seen (shorten name len) (64 + (2 * f.slot + 1)) (short_root root len) b.clean (omega arith) (omega arith) (simp (formed, found, short)) r.0
      (r.1 ∙ ap (λ n. replace n (λ f. with_bytes (take len f.bytes) f) (files_of m.seen)) b.is.is)

-- An empty slot of a clean image.
module _ (blocks : ℕ) (w : Words) (s : ℕ) (big : 6 ≤ blocks) (clean : Clean blocks w) (lt : s < 16) where
  -- create, once the root word is zero
  pub create-change : (name : List ℕ) (x : ℕ) → bytes_of x ≡ name → well_formed name ≡ true → named w s ≡ false → New w name → SlotChange blocks w (one (word (64 + (2 * s + 1)) 0) w) (create name) (64 + 2 * s) x
  create-change name x bytes formed empty new =
      let none = find_none w name new in
      let room : leb 16 (length (files_of w)) ≡ false = lt-leb 16 (length (files_of w)) (slots-room w s lt empty) in
      let u = one (word (64 + (2 * s + 1)) 0) w in
      let first = clearing blocks w s big clean lt empty in
      let other : (i : ℕ) → (i ≡ 64 + (2 * s + 1) → ⊥) → u i ≡ w i = λ i ne. one-other (word (64 + (2 * s + 1)) 0) i w ne in
      let still : (t : ℕ) → name_word u t ≡ name_word w t = λ t. other (64 + 2 * t) (λ e. omega arith) in
      let r = creating blocks u s big first.0 lt x (ap (λ y. not (eqb y 0)) (still s) ∙ empty) (one-here (word (64 + (2 * s + 1)) 0) w) (ap well_formed bytes ∙ formed) (λ t tt' nm e. new t tt' (ap (λ y. not (eqb y 0)) (sym (still t)) ∙ nm) (ap bytes_of (sym (still t)) ∙ e ∙ bytes)) in
      record {
        before = clean;
        answered = simp (formed, none, room);
        middle = first.0;
        held = first.1;
        beside = λ i off. other i (λ e. off-directory i off e);
        low = omega arith;
        high = omega arith;
        last = r.0;
        files = subst (λ n. Rearranged (files_of (one (word (64 + 2 * s) x) u)) (files_of w ++ (record { name = n; bytes = [] } ∷ []))) bytes (subst (λ fs. Rearranged (files_of (one (word (64 + 2 * s) x) u)) (fs ++ (record { name = bytes_of x; bytes = [] } ∷ []))) first.1 r.1);
      }
    where
      off-directory : (i : ℕ) → (i < 64) ⊎ (96 ≤ i) → i ≡ 64 + (2 * s + 1) → ⊥
      off-directory i (inl less) e = omega arith
      off-directory i (inr more) e = omega arith

-- the second name of a rename is in order
pub rename-named : (name new : List ℕ) → well_formed new ≡ true → Named (rename name new)
rename-named name new formed = ap (λ (x : Bool). cond {A = Option Reply} x None (Some (refuse 3))) (go (well_formed name))
  where
    go : (b : Bool) → b && well_formed new ≡ b
    go true = formed
    go false = refl
