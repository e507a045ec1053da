use Rattle.std.proofs.Common.{rules}
use Rattle.store.proofs.Phases.{barrier-done, barrier-cut}
use Rattle.store.proofs.phase.settle.Goals as goal

pub returns-in_err-barrier-clause-done : goal.returns-in_err-barrier-clause-done
returns-in_err-barrier-clause-done g c = let cut = barrier-cut c.in_err-barrier.field-0.0 c.in_err-barrier.ensures.gives in search (rules, cut)

pub returns-clause-done : goal.returns-clause-done
returns-clause-done g c = barrier-done c.in_ok-barrier.ensures.gives
