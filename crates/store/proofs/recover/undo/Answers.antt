use Rattle.store.specs.Phase.{AllMade, CutIn}
use Rattle.std.proofs.Common.{subst, arith, rules}
use Rattle.store.specs.LogEntry.{putting}
use Rattle.store.proofs.Phases.{cut_short, cut-more, done_more, so_far, ending}
use Rattle.store.proofs.Recovery.{second-piece, tells-pieces}
use Rattle.store.proofs.recover.undo.Goals as goal

pub returns-in_err-put_back-clause-done : goal.returns-in_err-put_back-clause-done
returns-in_err-put_back-clause-done g c =
    let m = g.M.Memory.model c.args.memory.now in
    let e = c.args.entry.now in
    let cut = rw (tells-pieces m.seen e c.requires.tells) at (cut_short (putting m.seen e.end 48) c.in_err-put_back.ensures.made.0) in search (rules, cut)

pub returns-in_err-put_back-2-clause-done : goal.returns-in_err-put_back-2-clause-done
returns-in_err-put_back-2-clause-done g c =
    let m = g.M.Memory.model c.args.memory.now in
    let e = c.args.entry.now in
    let r = c.requires in
    let k = g.M.Memory.model c.put_back.new.memory in
    let n = g.M.Memory.model c.put_back-2.new.memory in
    let first = c.in_ok-put_back.ensures.made in
    let same = second-piece {m = m} {k = k} e.start e.end 48 r.size r.start r.last (omega arith) first in
    let cut = rw (tells-pieces m.seen e r.tells) at (cut-more (so_far first) (subst (λ ss. CutIn k ss n) same c.in_err-put_back-2.ensures.made.0)) in search (rules, cut)

pub returns-clause-done : goal.returns-clause-done
returns-clause-done g c =
    let m = g.M.Memory.model c.args.memory.now in
    let e = c.args.entry.now in
    let r = c.requires in
    let k = g.M.Memory.model c.put_back.new.memory in
    let n = g.M.Memory.model c.put_back-2.new.memory in
    let first = c.in_ok-put_back.ensures.made in
    let same = second-piece {m = m} {k = k} e.start e.end 48 r.size r.start r.last (omega arith) first in
    let both = rw (tells-pieces m.seen e r.tells) at (done_more first (subst (λ ss. AllMade k ss n) same c.in_ok-put_back-2.ensures.made)) in
    let end = ending both in search (rules, end)
