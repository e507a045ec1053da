use Rattle.std.proofs.Common.{◌≡◌, refl, inr, rules, arith}
use Rattle.layout.specs.Log.{piece_of}
use Rattle.image_check.proofs.Entries.{block-there, no-block}
use Rattle.image_check.proofs.Looking.{tries-lost}
use Rattle.image_check.proofs.file.File.check_piece.Goals as goal

pub returns-in_err-any_block-clause-tries : goal.returns-in_err-any_block-clause-tries
returns-in_err-any_block-clause-tries g c =
    tries-lost g.first (g.M.Memory.model c.any_block.new.memory) _ _ _ _ c.from_residual.result c.from_residual.ensures.1 (c.in_err-any_block.ensures.reads g.first c.requires.1.0)

pub returns-then-not-branch-clause-tries : goal.returns-then-not-branch-clause-tries
returns-then-not-branch-clause-tries g c =
    let h = c.in_ok-any_block.ensures.reads g.first c.requires.1.0 in
    let none = rw c.if-not-branch.true at h.1 in
    let block : c.from-block.result ≡ (piece_of c.args.piece).block = search rules in
    (h.0, refl, no-block g.first.seen c.args.self.now.root c.args.piece c.from-block.result (search rules) block (λ k less is. let each = none k less in search rules))

pub returns-clause-tries : goal.returns-clause-tries
returns-clause-tries g c =
    let h = c.in_ok-any_block.ensures.reads g.first c.requires.1.0 in
    let some = rw c.if-not-branch.false at h.1 in
    let block : c.from-block.result ≡ (piece_of c.args.piece).block = search rules in
    let p = c.in-Some.ensures in
    (h.0, inr (omega (arith, p.3), omega (arith, p.3), omega (arith, p.2, p.3), block-there g.first.seen c.args.self.now.root (piece_of c.args.piece).block some.0 some.1 (let found = some.2 in search rules)), tt)
