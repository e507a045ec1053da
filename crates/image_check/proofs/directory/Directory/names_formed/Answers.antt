use Rattle.std.proofs.Common.{◌≡◌, ℕ, ◌<◌, Bool, true, false, Decides, MatchBool, length, refl, rules, tests, arith}
use Rattle.std.specs.List.{AllWithin, HoldsAt}
use Rattle.std.proofs.lemmas.Bool.{false≢true}
use Rattle.std.proofs.lemmas.Iterator.{cases_from_all, YieldsList-from_slice}
use Rattle.image_check.specs.Check.{NameGood, Formed}
use Rattle.image_check.specs.declared.directory.Directory.{Directory}
use Rattle.image_check.proofs.directory.Directory.names_formed.Goals as goal

-- all sixteen slots pass the test, or one does not
all-formed : (d : Directory) (r : Bool) → length d.slots ≡ 16 → MatchBool r (AllWithin NameGood d.slots 0 (length d.slots)) ((k : ℕ) × (k < length d.slots) × HoldsAt (λ slot. NameGood slot → ⊥) d.slots k) → Decides r (Formed d)
all-formed d true long all = (λ _ s lt. all s (record { name = 0; root = 0 }) (omega arith) (omega arith), λ _. refl)
all-formed d false long some = (λ e. absurd (false≢true e), λ formed. absurd (some.2 (record { name = 0; root = 0 }) (formed some.0 (omega (arith, some.1)))))

pub returns : goal.returns
returns c = all-formed c.args.self.now c.all.result (search rules) (cases_from_all _ _ _ NameGood (λ slot. NameGood slot → ⊥) c.all.ensures.ran (YieldsList-from_slice c.args.self.now.slots cc) (λ x q k. search (rules, tests)) (λ x q k. search (rules, tests)))
