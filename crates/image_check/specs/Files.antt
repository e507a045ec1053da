-- The files of a memory as code holds them.
use Rattle.std.specs.Prelude.{◌≡◌, ℕ, ◌*◌, ◌≤◌, Ok, Err, Result}
use Rattle.memory.specs.Model.{Model}
use Rattle.layout.specs.Image.{Rule1, Rule2, Rule3}
use Rattle.layout.specs.Log.{FirstBroken}
use Rattle.image_check.specs.Answers.{RefusedBy}
use Rattle.image_check.specs.Directory.{Lists}
use Rattle.image_check.specs.Reading.{Looked, LookedDown}
use Rattle.image_check.specs.declared.files.Files.{Files}
use Rattle.image_check.specs.declared.refusal.Refusal.{Refusal}

-- the memory has those blocks, and its slots those words
pub record FilesOf (m : Model) (f : Files) : Type 0 where
  pub size : 32 * f.blocks ≤ m.count
  pub lists : Lists m.seen f.directory

-- the files of a memory of that many blocks, if the first three rules hold; or the first of them that fails
abbrev pub Listed : ℕ → Model → Result Files Refusal → Model → Type 0
Listed blocks m (Ok f) n = Looked m n × FilesOf m f × (f.blocks ≡ blocks) × Rule1 f.blocks m.seen × Rule2 m.seen × Rule3 f.blocks m.seen
Listed blocks m (Err e) n = RefusedBy e (LookedDown m n) (λ k. Looked m n × FirstBroken k blocks m.seen)
