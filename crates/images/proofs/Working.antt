-- The worked cases come out as they are listed. Assumes nothing.
use Rattle.std.proofs.Common.{◌≡◌, ℕ, Bool, true, false, ◌&&◌, ◌||◌, eqb, Some, None, refl, arith}
use Rattle.memory.specs.Stores.{Words}
use Rattle.layout.specs.Image.{root_word}
use Rattle.layout.specs.Log.{state, log_slot, follows, old_root, undone}
use Rattle.layout.specs.Cases.{recovery, Right, Every, cases}
use Rattle.images.proofs.Recovering.{recovered-undone, recovered-kept}

-- whether a call is undone, by its state, its follow mark and whether the root word is the old one
undone-by : (w : Words) (s : ℕ) (f e : Bool) → state w ≡ s → follows w ≡ f → eqb (root_word w (log_slot w)) (old_root w) ≡ e → undone w ≡ eqb s 1 || (eqb s 2 && f && e)
undone-by w s f e a b c = cc

busy : (w : Words) (s : ℕ) → state w ≡ s → (s ≡ 0 → ⊥) → state w ≡ 0 → ⊥
busy w s e some z = some (omega arith)

pub cases-right : Every Right cases
cases-right = (commit, (unfollowed, (kept, (replaced, tt))))
  where
    same : Words → Bool
    same w = eqb (root_word w (log_slot w)) (old_root w)

    commit : Right (recovery 1 None None true)
    commit w e _ _ = let u = undone-by w 1 (follows w) (same w) e refl refl in (u, recovered-undone w u)

    unfollowed : Right (recovery 2 (Some false) None false)
    unfollowed w e f _ = let u = undone-by w 2 false (same w) e f refl in (u, recovered-kept w u (busy w 2 e (λ z. omega arith)))

    kept : Right (recovery 2 (Some true) (Some true) true)
    kept w e f r = let u = undone-by w 2 true true e f r in (u, recovered-undone w u)

    replaced : Right (recovery 2 (Some true) (Some false) false)
    replaced w e f r = let u = undone-by w 2 true false e f r in (u, recovered-kept w u (busy w 2 e (λ z. omega arith)))
