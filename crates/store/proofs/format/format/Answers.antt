use Rattle.std.proofs.Common.{rules}
use Rattle.image_check.proofs.Sizing.{size-taken, size-enough}
use Rattle.store.proofs.Formatting.{cut-first, cut-clearing, cut-last, all_done, answers-cut, answers-last}
use Rattle.store.proofs.format.format.Goals as goal

pub returns-in_err-persist_word-clause-formats : goal.returns-in_err-persist_word-clause-formats
returns-in_err-persist_word-clause-formats g c =
    let m = g.M.Memory.model c.args.memory.now in
    let size = size-taken m c.count.result c.in-Some.blocks c.count.ensures c.in-Some.ensures in
    let cut = answers-cut size.0 (cut-first _ m (size-enough m.count size.0) c.in_err-persist_word.ensures.done.0) in search (rules, cut)

pub returns-in_err-clear-clause-formats : goal.returns-in_err-clear-clause-formats
returns-in_err-clear-clause-formats g c =
    let m = g.M.Memory.model c.args.memory.now in
    let size = size-taken m c.count.result c.in-Some.blocks c.count.ensures c.in-Some.ensures in
    let first = c.in_ok-persist_word.ensures.done in
    let cut = answers-cut size.0 (cut-clearing _ m (size-enough m.count size.0) first.0 first.1 c.in_err-clear.ensures.done.0) in search (rules, cut)

pub returns-clause-formats : goal.returns-clause-formats
returns-clause-formats g c =
    let m = g.M.Memory.model c.args.memory.now in
    let blocks = c.in-Some.blocks in
    let size = size-taken m c.count.result blocks c.count.ensures c.in-Some.ensures in
    let enough = size-enough m.count size.0 in
    let first = c.in_ok-persist_word.ensures.done in
    let second = c.in_ok-clear.ensures.done in
    answers-last _ blocks c.persist_word-2.result size.0 size.1 c.persist_word-2.ensures.done
    (cut-last blocks m enough first.0 first.1 second.0 second.1)
    (all_done blocks m enough first.0 first.1 second.0 second.1)
