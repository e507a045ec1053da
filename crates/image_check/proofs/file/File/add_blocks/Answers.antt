use Rattle.std.proofs.Common.{◌≡◌, ◌<◌, refl, ◌∙◌, subst, arith}
use Rattle.layout.specs.Image.{in_block, map_of, length_of}
use Rattle.layout.specs.Touch.{blocks_for}
use Rattle.image_check.specs.Check.{HasOnce}
use Rattle.image_check.specs.declared.refusal.Rule.TheVariants.{Blocks}
use Rattle.image_check.proofs.Blocks.{with_first, with_next, map-twice, next-twice}
use Rattle.image_check.proofs.Looking.{tries-bad}
use Rattle.image_check.proofs.file.File.add_blocks.Goals as goal

pub returns-in_err-add_block-clause-tries : goal.returns-in_err-add_block-clause-tries
returns-in_err-add_block-clause-tries g c xs held =
    let h = c.in_err-add_block.ensures xs held in
    let b = map_of c.args.self.now.root in
    let r = c.from_residual in
    tries-bad g.first (g.M.Memory.model c.args.memory.now) _ _ _ _ r.result r.ensures.1 Blocks h.0 refl c.requires.1.0
    (map-twice (in_block g.first.seen b) xs b (blocks_for (length_of c.args.self.now.root)) c.map.result c.map.ensures h.1)

pub returns-in_err-add_block-2-clause-tries : goal.returns-in_err-add_block-2-clause-tries
returns-in_err-add_block-2-clause-tries g c xs held =
    let k = c.loop-k.k in
    let b = map_of c.args.self.now.root in
    let f = in_block g.first.seen b in
    let n = blocks_for (length_of c.args.self.now.root) in
    let h = c.in_err-add_block-2.ensures (with_first f xs b k) (c.loop-k.invariant.2 xs held) in
    let block = c.in_ok-load_block.ensures.reads in
    let r = c.from_residual-in_err-add_block-2 in
    let less : k < n = omega arith in
    tries-bad g.first (g.M.Memory.model c.load_block.new.memory) _ _ _ _ r.result r.ensures.1 Blocks h.0 refl block.0
    (next-twice f xs b k n c.in_ok-load_block.field-0 block.1 less h.1)

pub loop-k-preserved : goal.loop-k-preserved
loop-k-preserved g c =
    let k = c.loop-k.k in
    let b = map_of c.args.self.now.root in
    let f = in_block g.first.seen b in
    let block = c.in_ok-load_block.ensures in (
      block.reads.0,
      block.lent ∙ c.loop-k.invariant.1,
      λ xs held. subst (HasOnce c.add_block-in-loop-k.new.set) (with_next f xs b k c.in_ok-load_block.field-0 block.reads.1) (c.in_ok-add_block-2.ensures (with_first f xs b k) (c.loop-k.invariant.2 xs held)),
    )

pub returns-clause-tries : goal.returns-clause-tries
returns-clause-tries g c xs held =
    let b = map_of c.args.self.now.root in
    let f = in_block g.first.seen b in
    let end : c.loop-k.k ≡ blocks_for (length_of c.args.self.now.root) = omega arith in
    let all = subst (λ k. HasOnce c.loop-k.set (with_first f xs b k)) end (c.loop-k.invariant.2 xs held) in
    (c.loop-k.invariant.0, all.1, all.0)
