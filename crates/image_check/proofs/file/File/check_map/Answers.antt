use Rattle.std.proofs.Common.{◌≡◌, ℕ, Bool, true, false, not, Decides, sym, refl, rules}
use Rattle.layout.specs.Image.{DataBlock}
use Rattle.std.proofs.lemmas.Bool.{not-false}
use Rattle.image_check.proofs.Looking.{tries-lost}
use Rattle.image_check.proofs.file.File.check_map.Goals as goal

pub returns-in_err-any_block-clause-tries : goal.returns-in_err-any_block-clause-tries
returns-in_err-any_block-clause-tries g c =
    tries-lost g.first (g.M.Memory.model c.any_block.new.memory) _ _ _ _ c.from_residual.result c.from_residual.ensures.1 (c.in_err-any_block.ensures.reads g.first c.requires.1.0)

pub returns-then-branch-clause-tries : goal.returns-then-branch-clause-tries
returns-then-branch-clause-tries g c =
    let h = c.in_ok-any_block.ensures.reads g.first c.requires.1.0 in
    let some = rw c.if-branch.true at h.1 in
    (h.0, refl, λ good. let block = good some.0 some.1 in let bad = some.2 in search rules)

-- a block that passes the test is a data block
passes : (n b : ℕ) (r : Bool) → Decides r (DataBlock n b) → false ≡ not r → DataBlock n b
passes n b r h e = h.0 (not-false r (sym e))

pub returns-clause-tries : goal.returns-clause-tries
returns-clause-tries g c =
    let h = c.in_ok-any_block.ensures.reads g.first c.requires.1.0 in
    let all = rw c.if-branch.false at h.1 in
    (h.0, (λ k less. let each = all k less in search (rules, passes) depth 7), tt)
