-- One load after another. Assumes nothing.
use Rattle.std.proofs.Common.{◌≡◌, ℕ, ◌+◌, ◌<◌, List, length, get_or, set, IsErrAnd, Ok, Err, Result, sym, ap, ◌∙◌, subst, inl, inr, arith}
use Rattle.std.proofs.lemmas.List.Edits.{fill_by_more}
use Rattle.memory.specs.Model.{Model, Fewer, Loaded}
use Rattle.memory.specs.declared.fault.Fault.{Fault}
use Rattle.memory.specs.declared.fault.Fault.TheVariants.{Down, Outside}
use Rattle.memory.proofs.Putting.{up-down}
use Rattle.image_check.specs.declared.refusal.Refusal.{Refusal}
use Rattle.image_check.specs.declared.refusal.Rule.{Rule}
use Rattle.image_check.specs.Answers.{RefusedBy, rule_number}
use Rattle.image_check.specs.declared.refusal.Refusal.TheVariants.{PowerLost, BadImage, BadName, NoFile, NameTaken, TooManyFiles, TooLong, WrongSize}
use Rattle.image_check.specs.Check.{Tries}
use Rattle.image_check.specs.Reading.{Looked, LookedDown, Since, Reads}

fewer-more : {m k n : Model} → Fewer m k → Fewer k n → Fewer m n
fewer-more a b = record { same_count = b.same_count ∙ a.same_count; fewer = λ i lt v h. a.fewer i lt v (b.fewer i (subst (λ x. i < x) (sym a.same_count) lt) v h) }

pub looked-more : {m k n : Model} → Looked m k → Looked k n → Looked m n
looked-more a b = record {
  was-up = a.was-up;
  up = b.up;
  seen = λ i lt. b.seen i (subst (λ x. i < x) (sym a.fewer.same_count) lt) ∙ a.seen i lt;
  fewer = fewer-more a.fewer b.fewer;
}

pub looked-down : {m k n : Model} → Looked m k → LookedDown k n → LookedDown m n
looked-down {m} a b = record {
  down = record { fewer = fewer-more a.fewer b.down.fewer; down = b.down.down };
  still = λ down. absurd (up-down m.up a.was-up down);
}

-- one load after others, or the first of all
pub load-reads : {m k n : Model} (at v : ℕ) → Since m k → at < m.count → Loaded k at (Ok v) n → Looked m n × (v ≡ m.seen at)
load-reads {m} {k} {n} at v (inl e) lt h = let one : Looked k n × (v ≡ k.seen at) = (record { was-up = h.0; up = h.1; seen = h.4; fewer = h.5 }, h.3) in subst (λ x. Looked x n × (v ≡ x.seen at)) e one
load-reads {m} {k} {n} at v (inr looked) lt h =
    let one : Looked k n = record { was-up = h.0; up = h.1; seen = h.4; fewer = h.5 } in
    (looked-more looked one, h.3 ∙ looked.seen at lt)

pub load-down : {m k n : Model} (at : ℕ) (e : Fault) → Since m k → at < m.count → Loaded k at (Err e) n → LookedDown m n
load-down at Outside (inl e) lt h = let same = ap (λ m. m.count) e in absurd (omega arith)
load-down at Outside (inr looked) lt h = let same = looked.fewer.same_count in absurd (omega arith)
load-down {m} {k} {n} at Down (inl e) lt h = let down : LookedDown k n = record { down = h.0; still = h.2 } in subst (λ x. LookedDown x n) e down
load-down {m} {k} {n} at Down (inr looked) lt h = let down : LookedDown k n = record { down = h.0; still = h.2 } in looked-down looked down

-- the exit of a `?` after power was lost
pub reads_exit : {X : Type 0} {m : Model} (n : Model) (P : X → Type 0) (e : Refusal) (r : Result X Refusal) → IsErrAnd r (λ y. y ≡ e) → e ≡ PowerLost → LookedDown m n → Reads m P r n
reads_exit n P e (Ok x) h p down = absurd h
reads_exit n P e (Err y) h p down = (down, h ∙ p)

-- one more value of a list that a loop fills
pub filled : (f : ℕ → ℕ) (xs : List ℕ) (i y : ℕ) → i < length xs → y ≡ f i → ((k : ℕ) → k < i → get_or xs k 0 ≡ f k) → (k : ℕ) → k < i + 1 → get_or (set xs i y) k 0 ≡ f k
filled f xs i y lt e below k less = ap (λ v. get_or (set xs i v) k 0) e ∙ fill_by_more f xs i 0 lt below k less

-- a refusal that says one thing says another that follows
pub refused-map : (e : Refusal) {lost lost' : Type 0} {bad bad' : ℕ → Type 0} → (lost → lost') → ((k : ℕ) → bad k → bad' k) → RefusedBy e lost bad → RefusedBy e lost' bad'
refused-map PowerLost f g h = f h
refused-map (BadImage rule) f g h = g (rule_number rule) h
refused-map BadName f g h = h
refused-map NoFile f g h = h
refused-map NameTaken f g h = h
refused-map TooManyFiles f g h = h
refused-map TooLong f g h = h
refused-map WrongSize f g h = h

-- The exits of a `?` where a rule is tried: a part of it failed or power was lost, power was lost, and the rule failed.
module _ {X : Type 0} (m n : Model) (k : ℕ) (rule : Type 0) (P : X → Type 0) (e : Refusal) (r : Result X Refusal) (is : IsErrAnd r (λ y. y ≡ e)) where
  tries-exit : RefusedBy e (LookedDown m n) (λ j. Looked m n × (j ≡ k) × (rule → ⊥)) → Tries m k rule P r n
  tries-exit refused = go r is
    where
      go : (r : Result X Refusal) → IsErrAnd r (λ y. y ≡ e) → Tries m k rule P r n
      go (Ok x) is = absurd is
      go (Err y) is = subst (λ x. Tries m k rule P (Err x) n) (sym is) refused

  pub tries-part : (part : Type 0) → RefusedBy e (LookedDown m n) (λ j. Looked m n × (j ≡ k) × (part → ⊥)) → (rule → part) → Tries m k rule P r n
  tries-part part refused so = tries-exit (refused-map e (λ down. down) (λ j h. (h.0, h.1, λ holds. h.2 (so holds))) refused)

  pub tries-lost : LookedDown m n × (e ≡ PowerLost) → Tries m k rule P r n
  tries-lost h = tries-exit (subst (λ x. RefusedBy x (LookedDown m n) (λ j. Looked m n × (j ≡ k) × (rule → ⊥))) (sym h.1) h.0)

  pub tries-bad : (q : Rule) → e ≡ BadImage q → rule_number q ≡ k → Looked m n → (rule → ⊥) → Tries m k rule P r n
  tries-bad q bad number looked never = tries-exit (subst (λ x. RefusedBy x (LookedDown m n) (λ j. Looked m n × (j ≡ k) × (rule → ⊥))) (sym bad) (looked, number, never))

-- a rule that comes to what was tried
pub tries-same : {X : Type 0} (m n : Model) (k : ℕ) (part rule : Type 0) (P : X → Type 0) (r : Result X Refusal) → Tries m k part P r n → (part → rule) → (rule → part) → Tries m k rule P r n
tries-same m n k part rule P (Ok x) h to from = (h.0, to h.1, h.2)
tries-same m n k part rule P (Err e) h to from = refused-map e (λ down. down) (λ j x. (x.0, x.1, λ holds. x.2 (from holds))) h
