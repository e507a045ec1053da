use Rattle.std.proofs.Common.{◌≡◌, ◌∙◌, arith, rules}
use Rattle.store.proofs.Phases.{zeros-cut, zeros-more, done_more, so_far}
use Rattle.store.proofs.phase.clear_run.Goals as goal

pub returns-in_err-store_word-clause-made : goal.returns-in_err-store_word-clause-made
returns-in_err-store_word-clause-made g c =
    let cut = zeros-cut c.args.first c.loop-at.at c.args.end c.loop-at.auto.at c.loop-at-test.true (so_far c.loop-at.invariant.0) c.in_err-store_word.ensures.made.0 in search (rules, cut)

pub loop-at-preserved : goal.loop-at-preserved
loop-at-preserved g c = let h = c.in_ok-store_word.ensures in
    (rw (← zeros-more c.args.first c.loop-at.at c.loop-at.auto.at) (done_more c.loop-at.invariant.0 h.made), h.lent ∙ c.loop-at.invariant.1)

pub returns-clause-made : goal.returns-clause-made
returns-clause-made g c =
    let end : c.loop-at.at ≡ c.args.end = omega (arith, c.loop-at.auto.at-end c.requires.forward) in rw end at c.loop-at.invariant.0
