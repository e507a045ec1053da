use Rattle.std.proofs.Common.{rules}
use Rattle.store.specs.Phase.{zeros}
use Rattle.store.specs.Format.{clearing}
use Rattle.store.proofs.Phases.{cut_short, cut-more, so_far}
use Rattle.store.proofs.Formatting.{clear-done}
use Rattle.store.proofs.format.clear.Goals as goal

pub returns-in_err-store_word-clause-done : goal.returns-in_err-store_word-clause-done
unfolding clearing
returns-in_err-store_word-clause-done g c = let cut = cut_short (zeros 64 32) (rw c.from.ensures at c.in_err-store_word.ensures.made.0) in search (rules, cut)

pub returns-in_err-clear_run-clause-done : goal.returns-in_err-clear_run-clause-done
unfolding clearing
returns-in_err-clear_run-clause-done g c =
    let first = rw c.from.ensures at c.in_ok-store_word.ensures.made in
    let cut = cut-more (so_far first) c.in_err-clear_run.ensures.made.0 in search (rules, cut)

pub returns-clause-done : goal.returns-clause-done
returns-clause-done g c =
    let first = rw c.from.ensures at c.in_ok-store_word.ensures.made in
    let end = clear-done first c.in_ok-clear_run.ensures.made in search (rules, end)
