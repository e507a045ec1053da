use Rattle.std.proofs.Common.{◌∙◌}
use Rattle.std.proofs.lemmas.Result.{err_from_is_err_and}
use Rattle.layers.proofs.Caching.{all_more, all-cut}
use Rattle.layers.proofs.cache.store_all.Goals as goal

pub returns-in_err-unless_outside-clause-gives : goal.returns-in_err-unless_outside-clause-gives
returns-in_err-unless_outside-clause-gives g c =
    let p = err_from_is_err_and c.from_residual.result c.from_residual.ensures.1 in
    rw (p.1, p.2) (all-cut c.args.words.now c.loop-word.word-index (g.M.Memory.model c.args.memory.now) (g.M.Memory.model c.loop-word.memory) (g.M.Memory.model c.store.new.self) c.store.result c.loop-word-test.true c.loop-word.invariant.0 c.store.ensures.gives c.in_err-unless_outside.field-0.0 c.in_err-unless_outside.ensures)

pub loop-word-preserved : goal.loop-word-preserved
loop-word-preserved g c =
    let more = all_more c.args.words.now c.loop-word.word-index (g.M.Memory.model c.args.memory.now) (g.M.Memory.model c.loop-word.memory) (g.M.Memory.model c.store.new.self) c.store.result c.loop-word-test.true c.loop-word.invariant.0 c.store.ensures.gives c.loop-word.invariant.1 c.in_ok-unless_outside.field-0 c.in_ok-unless_outside.ensures in
    (more.0, more.1, c.store.ensures.same ∙ c.loop-word.invariant.2)
