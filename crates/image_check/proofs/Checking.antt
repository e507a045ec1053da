-- What the parts of the image check come to. Assumes nothing.
use Rattle.std.proofs.Common.{◌≡◌, ℕ, ◌+◌, ◌<◌, ◌≤◌, true, IsErrAnd, Ok, Err, Result, sym, ap, ◌∙◌, subst, arith, below_more}
use Rattle.std.proofs.lemmas.Bool.Decides.{nat_tests}
use Rattle.memory.specs.Model.{Model}
use Rattle.memory.specs.Bytes.{bytes_of}
use Rattle.memory.specs.Stores.{Words}
use Rattle.layout.specs.Image.{named, GoodRoot, Rule2, Rule3}
use Rattle.layout.specs.Log.{Rule, FirstBroken}
use Rattle.layout.specs.Names.{well_formed}
use Rattle.image_check.specs.Answers.{RefusedBy}
use Rattle.image_check.specs.Check.{Formed, Differ, Rooted, Surveyed}
use Rattle.image_check.specs.Directory.{Lists, slot_at}
use Rattle.image_check.specs.Reading.{Looked, LookedDown}
use Rattle.image_check.specs.declared.image.Survey.{Survey}
use Rattle.image_check.specs.declared.directory.Directory.{Directory}
use Rattle.image_check.specs.declared.refusal.Refusal.{Refusal}
use Rattle.image_check.proofs.Looking.{refused-map}

-- the rules of an image, from its directory as code holds it, and back
module _ {w : Words} {d : Directory} (lists : Lists w d) where
  held : (s : ℕ) → s < 16 → named w s ≡ true → (slot_at d s).name ≡ 0 → ⊥
  held s lt h e = let name = lists.names s lt in grind (arith, nat_tests)

  named-held : (s : ℕ) → s < 16 → ((slot_at d s).name ≡ 0 → ⊥) → named w s ≡ true
  named-held s lt ne = let name = lists.names s lt in grind (arith, nat_tests)

  pub two_from : Formed d → Differ d → Rule2 w
  two_from formed differ = record {
    formed = λ s lt h. subst (λ x. well_formed (bytes_of x) ≡ true) (lists.names s lt) (formed s lt (held s lt h)).formed;
    differ = λ s u less lt h e. differ s (omega arith) (held s (omega arith) h) u less lt (ap bytes_of (lists.names s (omega arith)) ∙ e ∙ ap bytes_of (sym (lists.names u lt)));
  }

  pub formed-from : Rule2 w → Formed d
  formed-from two s lt ne = record { formed = subst (λ x. well_formed (bytes_of x) ≡ true) (sym (lists.names s lt)) (two.formed s lt (named-held s lt ne)) }

  pub differ-from : Rule2 w → Differ d
  differ-from two s lt ne u less lt' e = two.differ s u less lt' (named-held s lt ne) (ap bytes_of (sym (lists.names s lt)) ∙ e ∙ ap bytes_of (lists.names u lt'))

  pub three-from : (n : ℕ) → Rooted n d → Rule3 n w
  three-from n rooted s lt h = subst (GoodRoot n) (lists.roots s lt) (rooted s lt (held s lt h))

  pub rooted-from : (n : ℕ) → Rule3 n w → Rooted n d
  rooted-from n three s lt ne = subst (GoodRoot n) (sym (lists.roots s lt)) (three s lt (named-held s lt ne))

-- the rules before rule k hold
abbrev pub Below : ℕ → ℕ → Words → Type 0
Below k n w = (j : ℕ) → 1 ≤ j → j < k → Rule j n w

pub below-one : (n : ℕ) (w : Words) → Below 1 n w
below-one n w j ge lt = absurd (omega arith)

pub below-next : (k n : ℕ) (w : Words) → Below k n w → Rule k n w → Below (k + 1) n w
below-next k n w before here j ge lt = below_more (λ i. 1 ≤ i → Rule i n w) k (λ i less le. before i le less) (λ _. here) j lt ge

pub broken : (k n : ℕ) (w : Words) → 1 ≤ k → k ≤ 6 → Below k n w → (Rule k n w → ⊥) → FirstBroken k n w
broken k n w ge le before here = record { some = ge; last = le; before = before; here = here }

-- the exit of a `?` where rule k is tried after those before it; the count of blocks has two names
pub surveyed-exit : (k n blocks : ℕ) (m o : Model) (e : Refusal) (r : Result Survey Refusal) → n ≡ blocks → IsErrAnd r (λ y. y ≡ e) → 1 ≤ k → k ≤ 6 → Below k n m.seen → RefusedBy e (LookedDown m o) (λ j. Looked m o × (j ≡ k) × (Rule k n m.seen → ⊥)) → Surveyed blocks m r o
surveyed-exit k n blocks m o e (Ok s) same h ge le before refused = absurd h
surveyed-exit k n blocks m o e (Err y) same h ge le before refused =
    subst (λ x. Surveyed blocks m (Err x) o) (sym h) (refused-map e (λ down. down) (λ j x. (x.0, subst (λ i. FirstBroken i blocks m.seen) (sym x.1) (subst (λ b. FirstBroken k b m.seen) same (broken k n m.seen ge le before x.2)))) refused)
