use Rattle.std.proofs.Common.{ℕ, ◌+◌, ◌<◌, length, ◌∙◌, arith, rules}
use Rattle.std.proofs.lemmas.List.FromFn.{fill_by_all}
use Rattle.image_check.proofs.Looking.{looked-more, looked-down, filled}
use Rattle.store.specs.Read.{byte_at}
use Rattle.store.proofs.Bytewise.{byte-same}
use Rattle.store.proofs.read.load_bytes.Goals as goal

pub returns-in_err-byte-clause-reads : goal.returns-in_err-byte-clause-reads
returns-in_err-byte-clause-reads g c = let down = looked-down c.loop-k.invariant.0 c.in_err-byte.ensures.reads.0 in search (rules, down)

pub loop-k-preserved : goal.loop-k-preserved
loop-k-preserved g c =
    let m = g.M.Memory.model c.args.memory.now in
    let r = c.args.root in
    let at = c.args.offset + c.loop-k.k in
    let inv = c.loop-k.invariant in
    let h = c.in_ok-byte.ensures in
    let same = byte-same r inv.0 c.requires.file at (omega (arith, c.requires.inside)) in (
      looked-more inv.0 h.reads.0,
      h.lent ∙ inv.1,
      filled (λ j. byte_at m.seen r.map (c.args.offset + j)) c.loop-k.out c.loop-k.k c.in_ok-byte.field-0 (omega (arith, c.loop-k.auto.out)) (h.reads.1 ∙ same) inv.2,
    )

pub returns-clause-reads : goal.returns-clause-reads
returns-clause-reads g c =
    let m = g.M.Memory.model c.args.memory.now in
    let n = length c.args.out.now in
    let inv = c.loop-k.invariant in
    let whole : (j : ℕ) → j < n → j < c.loop-k.k = λ j lt. omega arith in
    (inv.0, fill_by_all (λ j. byte_at m.seen c.args.root.map (c.args.offset + j)) c.loop-k.out n 0 c.loop-k.auto.out (λ j lt. inv.2 j (whole j lt)))
