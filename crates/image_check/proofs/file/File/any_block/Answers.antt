use Rattle.std.proofs.Common.{◌≡◌, ◌+◌, ◌*◌, ◌<◌, true, false, ◌∙◌, subst, arith, below_more}
use Rattle.memory.specs.Model.{Model}
use Rattle.layout.specs.Image.{in_block, map_of}
use Rattle.image_check.specs.Check.{AnyBlock}
use Rattle.image_check.specs.Reading.{Looked}
use Rattle.image_check.proofs.Looking.{looked-more, looked-down, reads_exit}
use Rattle.image_check.proofs.file.File.any_block.Given as given
use Rattle.image_check.proofs.file.File.any_block.Goals as goal
use Rattle.image_check.proofs.file.File.any_block.Goals.{In_ok-load_block}

pub returns-in_err-load_block-clause-reads : goal.returns-in_err-load_block-clause-reads
returns-in_err-load_block-clause-reads g c first looked =
    let h = c.in_err-load_block.ensures.reads in
    reads_exit (g.M.Memory.model c.load_block.new.memory) (AnyBlock (goal.F-post g c.args.test) first.seen c.args.self.now.root) c.in_err-load_block.field-0.0 c.from_residual.result c.from_residual.ensures.1 h.1
    (looked-down (c.loop-k.invariant.2 first looked).0 h.0)

-- the block that a turn loads
loaded : (g : given.Over) (c : In_ok-load_block g) (first : Model) → Looked first (g.M.Memory.model c.args.memory.now) → c.in_ok-load_block.field-0 ≡ in_block first.seen (map_of c.args.self.now.root) c.loop-k.k
loaded g c first looked =
    let before = c.loop-k.invariant.2 first looked in
    let same = looked.fewer.same_count in
    let inside : 32 * map_of c.args.self.now.root + c.loop-k.k < first.count = omega arith in
    let kept = before.0.seen (32 * map_of c.args.self.now.root + c.loop-k.k) inside in
    c.in_ok-load_block.ensures.reads.1 ∙ kept

pub returns-then-call-clause-reads : goal.returns-then-call-clause-reads
returns-then-call-clause-reads g c first looked =
    let value = loaded g (goal.at.returns-then-call-clause-reads g c).In_ok-load_block first looked in
    (looked-more (c.loop-k.invariant.2 first looked).0 c.in_ok-load_block.ensures.reads.0, (c.loop-k.k, omega arith, subst (λ x. goal.F-post g c.args.test x true) value c.if-call.ensures))

pub loop-k-preserved : goal.loop-k-preserved
loop-k-preserved g c = (
  c.in_ok-load_block.ensures.reads.0.fewer.same_count ∙ c.loop-k.invariant.0,
  c.in_ok-load_block.ensures.lent ∙ c.loop-k.invariant.1,
  λ first looked.
      let before = c.loop-k.invariant.2 first looked in
      let value = loaded g (goal.at.loop-k-preserved g c).In_ok-load_block first looked in
      (looked-more before.0 c.in_ok-load_block.ensures.reads.0, below_more _ _ before.1 (subst (λ x. goal.F-post g c.args.test x false) value c.if-call.ensures)),
)

pub returns-clause-reads : goal.returns-clause-reads
returns-clause-reads g c first looked =
    let before = c.loop-k.invariant.2 first looked in
    (before.0, λ k less. before.1 k (omega arith))
