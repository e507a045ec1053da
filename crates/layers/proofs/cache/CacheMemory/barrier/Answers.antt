use Rattle.std.proofs.Common.{Ok, Err, subst}
use Rattle.std.proofs.lemmas.Result.{err_from_is_err_and}
use Rattle.waiting.specs.Waits.{waiting}
use Rattle.layers.specs.StoredAll.{StoredAll}
use Rattle.layers.proofs.Asking.{then-flushes}
use Rattle.layers.proofs.Caching.{cache-flush, cache-flush-cut}
use Rattle.layers.proofs.cache.CacheMemory.barrier.Goals as goal

pub returns-in_err-store_all-clause-gives : goal.returns-in_err-store_all-clause-gives
returns-in_err-store_all-clause-gives g c =
    let p = err_from_is_err_and c.from_residual.result c.from_residual.ensures.1 in
    let ws = waiting c.args.self.now.waiting in
    let f = c.in_err-store_all.field-0.0 in
    let m = g.M.Memory.model c.args.self.now.below in
    let n = g.M.Memory.model c.store_all.new.memory in
    let cut : StoredAll m ws (Err f) n = subst (λ xs. StoredAll m xs (Err f) n) c.words.ensures c.in_err-store_all.ensures.gives in
    rw (p.1, p.2) (cache-flush-cut ws m n f c.if-not-is_up.ensures cut)

pub returns-clause-gives : goal.returns-clause-gives
returns-clause-gives g c =
    let ws = waiting c.args.self.now.waiting in
    let m = g.M.Memory.model c.args.self.now.below in
    let n = g.M.Memory.model c.store_all.new.memory in
    let all : StoredAll m ws (Ok tt) n = subst (λ xs. StoredAll m xs (Ok tt) n) c.words.ensures c.in_ok-store_all.ensures.gives in
    cache-flush ws (waiting c.new-self.result) m n (g.M.Memory.model c.barrier.new.self) c.barrier.result c.if-not-is_up.ensures c.new-self.ensures all c.barrier.ensures.gives

pub returns-clause-below : goal.returns-clause-below
returns-clause-below g c =
    let ws = waiting c.args.self.now.waiting in
    let m = g.M.Memory.model c.args.self.now.below in
    let n = g.M.Memory.model c.store_all.new.memory in
    let all : StoredAll m ws (Ok tt) n = subst (λ xs. StoredAll m xs (Ok tt) n) c.words.ensures c.in_ok-store_all.ensures.gives in
    then-flushes g.M.Memory.model ws c.args.self.now.below c.if-not-is_up.ensures c.store_all.new.memory c.barrier.result c.barrier.new.self all c.barrier.ensures.gives
