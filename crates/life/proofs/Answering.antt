-- What the table says of a call, by its arguments and its answer. Assumes nothing.
use Rattle.std.proofs.Common.{◌≡◌, ℕ, ◌+◌, Bool, true, false, cond, not, ◌&&◌, eqb, leb, ◌⊎◌, List, length, replicate, Some, None, Option, sym, refl, ◌∙◌, inl, inr, ⊎_elim, arith}
use Rattle.std.proofs.lemmas.Bool.{cases_eq, ne_eqb, eq-eqb}
use Rattle.memory.specs.Model.{Model}
use Rattle.memory.specs.Stores.{Words}
use Rattle.layout.specs.Image.{Rule1, Rule2, Rule3, Rule4, Rule5}
use Rattle.layout.specs.Log.{Rule6, Rule, Sound, Clean, FirstBroken, FirstBusy, HoldsFiles}
use Rattle.layout.specs.Names.{well_formed}
use Rattle.layout.specs.Table.{Table, Ask, create, write, read, shorten, rename, remove, Reply, refuse, longest, early, answer, after, buffer}
use Rattle.images.proofs.Holding.{holds-buffer}
use Rattle.life.specs.Life.{Shows, Blank}
use Rattle.life.specs.Step.{Buffered}

-- a sound image breaks no rule
sound-rule : (k n : ℕ) (w : Words) → Sound n w → Rule k n w
sound-rule k n w s = go (eqb k 1) (eqb k 2) (eqb k 3) (eqb k 4) (eqb k 5)
  where
    go : (a b c d e : Bool) → cond a (Rule1 n w) (cond b (Rule2 w) (cond c (Rule3 n w) (cond d (Rule4 n w) (cond e (Rule5 w) (Rule6 w)))))
    go true b c d e = s.one
    go false true c d e = s.two
    go false false true d e = s.three
    go false false false true e = s.four
    go false false false false true = s.five
    go false false false false false = s.six

pub sound-unbroken : (k n : ℕ) (w : Words) → Sound n w → FirstBroken k n w → ⊥
sound-unbroken k n w s first = first.here (sound-rule k n w s)

pub clean-unbroken : (k n : ℕ) (w : Words) → Clean n w → FirstBusy k n w → ⊥
clean-unbroken k n w c (inl first) = sound-unbroken k n w c.sound first
clean-unbroken k n w c (inr busy) = busy.2 c.idle

-- a call that the table refuses leaves it as it is
pub after-refused : (t : Table) (a : Ask) → ((answer t a).number ≡ 0 → ⊥) → after t a ≡ t
after-refused t a some = rw (ne_eqb (answer t a).number 0 some)

pub cases-option : {X : Type 0} (o : Option X) → (o ≡ None) ⊎ ((x : X) × (o ≡ Some x))
cases-option None = inl refl
cases-option (Some x) = inr (x, refl)

-- what the arguments alone call for is the table's answer, whatever the table is, and a refusal
by-formed : (b : Bool) (x later : Reply) → cond {A = Option Reply} b None (Some (refuse 3)) ≡ Some x → (cond (not b) (refuse 3) later ≡ x) × (x.number ≡ 0 → ⊥)
by-formed b x later e = grind arith

by-write : (b c : Bool) (x later : Reply) → cond {A = Option Reply} (not b) (Some (refuse 3)) (cond c None (Some (refuse 7))) ≡ Some x → (cond (not b) (refuse 3) (cond (not c) (refuse 7) later) ≡ x) × (x.number ≡ 0 → ⊥)
by-write b c x later e = grind arith

pub early-answer : (t : Table) (a : Ask) (x : Reply) → early a ≡ Some x → (answer t a ≡ x) × (x.number ≡ 0 → ⊥)
early-answer t (create n) x e = by-formed (well_formed n) x _ e
early-answer t (write n offset bs) x e = by-write (well_formed n) (leb (offset + length bs) longest) x _ e
early-answer t (read n offset count) x e = by-formed (well_formed n) x _ e
early-answer t (shorten n len) x e = by-formed (well_formed n) x _ e
early-answer t (rename n o) x e = by-formed (well_formed n && well_formed o) x _ e
early-answer t (remove n) x e = by-formed (well_formed n) x _ e

-- the buffer of a read that the table refuses is zero
refused-buffer : (t : Table) (n : List ℕ) (offset count : ℕ) → ((answer t (read n offset count)).number ≡ 0 → ⊥) → buffer t n offset count ≡ replicate count 0
refused-buffer t n offset count some = grind arith

-- a refusal shows the zeros that every table refuses with
pub shows-early : (m : Model) (t : Table) (a : Ask) (r : Reply) (bytes : List ℕ) → r ≡ answer t a → (r.number ≡ 0 → ⊥) → Buffered m a r bytes → Shows t a bytes
shows-early m t (read n offset count) r bytes e s h =
    (rw (ne_eqb r.number 0 s) at h) ∙ sym (refused-buffer t n offset count (rw e at s))
shows-early m t _ r bytes e s h = tt

pub shows : (m : Model) (t : Table) (a : Ask) (r : Reply) (bytes : List ℕ) → Rule2 m.seen → HoldsFiles m.seen t → r ≡ answer t a → Buffered m a r bytes → Shows t a bytes
shows m t (read n offset count) r bytes two holds e h =
    ⊎_elim
    (λ z. (rw (eq-eqb r.number 0 z) at h) ∙ holds-buffer m.seen t n offset count two holds)
    (λ s. shows-early m t (read n offset count) r bytes e s h)
    (cases_eq r.number 0)
shows m t _ r bytes two holds e h = tt

-- a read that is cut off leaves zeros
pub blank : (m : Model) (a : Ask) (r : Reply) (bytes : List ℕ) → r ≡ refuse 1 → Buffered m a r bytes → Blank a bytes
blank m (read n offset count) r bytes e h = rw e at h
blank m _ r bytes e h = tt
