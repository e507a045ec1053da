-- What a file call knows once the image is opened. Assumes nothing.
use Rattle.std.proofs.Common.{◌≡◌, ℕ, ◌/◌, ◌<◌, true, List, None, Ok, Err, Result, sym, refl, ap, ◌∙◌, inl, inr, arith}
use Rattle.memory.specs.Bytes.{bytes_of}
use Rattle.memory.specs.Model.{Model, Loaded}
use Rattle.memory.specs.declared.fault.Fault.{Fault}
use Rattle.memory.proofs.Putting.{up-down}
use Rattle.layout.specs.Image.{files_of}
use Rattle.layout.specs.Names.{well_formed}
use Rattle.layout.specs.Packed.{state_number}
use Rattle.layout.specs.Table.{find}
use Rattle.layout.specs.declared.log.LogState.{LogState}
use Rattle.layout.specs.declared.log.LogState.TheVariants.{Free}
use Rattle.image_check.specs.Check.{Surveys}
use Rattle.image_check.specs.Directory.{slot_at, Lists}
use Rattle.image_check.specs.Reading.{Looked}
use Rattle.image_check.specs.Size.{suits}
use Rattle.image_check.specs.declared.directory.Directory.{Directory}
use Rattle.image_check.specs.declared.image.Survey.{Survey}
use Rattle.image_check.specs.declared.refusal.Refusal.{Refusal}
use Rattle.image_check.specs.declared.refusal.Refusal.TheVariants.{PowerLost, BadImage, NoFile}
use Rattle.image_check.specs.declared.refusal.Rule.TheVariants.{LogEntry}
use Rattle.image_check.proofs.Looking.{load-reads, load-down}
use Rattle.image_check.proofs.Sizing.{size-enough}
use Rattle.store.specs.Calls.{FileOf, Opened, Opens}
use Rattle.store.specs.declared.file.OpenFile.{OpenFile}
use Rattle.store.proofs.Calling.{Known}
use Rattle.store.proofs.Finding.{Missing, missing-none, found-file}
use Rattle.store.proofs.Refusing.{sound-size, zero-free}

opens-taken : {X : Type 0} {m : Model} {name : List ℕ} {P : X → Type 0} {missing : Type 0} (n : Model) (r : Result X Refusal) → well_formed name ≡ true → suits m.count ≡ true → Opened (m.count / 32) m P missing r n → Opens m name P missing r n
opens-taken {X} {m} {name} n r formed t h = record {
  wrong = λ f. absurd (up-down (well_formed name) formed f);
  size = λ _ f. absurd (up-down (suits m.count) t f);
  taken = λ _ _. h;
}

-- The directory of an image, after its check.
abbrev pub OpensDirectory : Model → List ℕ → Result Directory Refusal → Model → Type 0
OpensDirectory m name r n = Opens m name (Lists m.seen) ⊥ r n

module _ {m k : Model} (name : List ℕ) (formed : well_formed name ≡ true) (s : Survey) (checks : Surveys m (Ok s) k) where
  looked : Looked m k
  looked = (checks.taken (sound-size checks)).0

  within : 8 < m.count
  within = let big = size-enough m.count (sound-size checks) in omega (arith, big)

  -- power was lost in the load of the state
  pub opens-cut : {n : Model} (e : Fault) → Loaded k 8 (Err e) n → OpensDirectory m name (Err PowerLost) n
  opens-cut {n} e load = opens-taken n (Err PowerLost) formed (sound-size checks) (inl (load-down 8 e (inr looked) within load))

  pub opens-busy : {n : Model} (x : ℕ) (l : LogState) → Loaded k 8 (Ok x) n → x ≡ state_number l → (l ≡ Free → ⊥) → OpensDirectory m name (Err (BadImage LogEntry)) n
  opens-busy {n} x l load is some =
      let t = sound-size checks in
      let h = load-reads 8 x (inr looked) within load in
      opens-taken n (Err (BadImage LogEntry)) formed t (inl (h.0, inr (refl, (checks.taken t).1, λ z. some (zero-free l (sym is ∙ h.1 ∙ z)))))

  pub opens-done : {n : Model} (x : ℕ) (l : LogState) → Loaded k 8 (Ok x) n → x ≡ state_number l → l ≡ Free → OpensDirectory m name (Ok s.directory) n
  opens-done {n} x l load is none =
      let t = sound-size checks in
      let h = load-reads 8 x (inr looked) within load in
      opens-taken n (Ok s.directory) formed t (h.0, record { sound = (checks.taken t).1; idle = sym h.1 ∙ is ∙ ap state_number none }, (checks.taken t).2)

-- The file of a name.
abbrev pub OpensFile : Model → List ℕ → Result OpenFile Refusal → Model → Type 0
OpensFile m name r n = Opens m name (FileOf m.seen name) (find name (files_of m.seen) ≡ None) r n

-- what a look-up in the directory says
module _ {m k : Model} {name : List ℕ} (d : Directory) (x : ℕ) (bytes : bytes_of x ≡ name) (b : Known m k name (Lists m.seen) d) where
  pub file-none : Missing d x → OpensFile m name (Err NoFile) k
  file-none none = opens-taken k (Err NoFile) b.formed b.suitable (inr (refl, b.looked, b.clean, missing-none m.seen d b.is x name bytes none))

  pub file-some : (f : OpenFile) → f.directory ≡ d → (slot_at d f.slot).name ≡ x → OpensFile m name (Ok f) k
  file-some f same is = opens-taken k (Ok f) b.formed b.suitable (b.looked, b.clean, found-file m.seen d b.is x name bytes b.formed f same is)
