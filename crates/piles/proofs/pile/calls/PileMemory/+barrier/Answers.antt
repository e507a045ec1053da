use Rattle.std.proofs.Common.{Ok, Err, subst}
use Rattle.std.proofs.lemmas.Result.{err_from_is_err_and}
use Rattle.waiting.specs.Waits.{waiting}
use Rattle.piles.specs.Pile.{pile_model}
use Rattle.layers.specs.StoredAll.{StoredAll}
use Rattle.layers.proofs.Caching.{cache-flush, cache-flush-cut}
use Rattle.layers.proofs.Parting.{part-barrier}
use Rattle.piles.proofs.pile.calls.PileMemory.+barrier.Goals as goal

pub returns-in_err-store_all-in-Cache-clause-gives : goal.returns-in_err-store_all-in-Cache-clause-gives
returns-in_err-store_all-in-Cache-clause-gives g t c =
    let p = err_from_is_err_and c.from_residual.result c.from_residual.ensures.1 in
    let f = c.in_err-store_all-in-Cache.field-0.0 in
    let m = pile_model g.M.Memory.model c.in-Cache.below.value in
    let n = pile_model g.M.Memory.model c.store_all.new.pile in
    rw (c.in-Cache.is, p.1, p.2) (cache-flush-cut (waiting c.in-Cache.waiting) m n f (cc c.if-not-is_up.ensures) (subst (λ k. StoredAll (pile_model g.M.Memory.model k) (waiting c.in-Cache.waiting) (Err f) n) c.deref_mut.ensures.value (subst (λ xs. StoredAll (pile_model g.M.Memory.model c.deref_mut.result.now) xs (Err f) n) c.words.ensures c.in_err-store_all-in-Cache.ensures.gives)))

pub returns-in_ok-store_all-in-Cache-clause-gives : goal.returns-in_ok-store_all-in-Cache-clause-gives
returns-in_ok-store_all-in-Cache-clause-gives g t c =
    let m = pile_model g.M.Memory.model c.in-Cache.below.value in
    let n = pile_model g.M.Memory.model c.store_all.new.pile in
    let o = pile_model g.M.Memory.model c.barrier-in-Cache.new.self in
    rw c.in-Cache.is (cache-flush (waiting c.in-Cache.waiting) (waiting c.new.result) m n o c.barrier-in-Cache.result (cc c.if-not-is_up.ensures) c.new.ensures (subst (λ xs. StoredAll m xs (Ok tt) n) c.words.ensures (rw c.deref_mut.ensures.value at c.in_ok-store_all-in-Cache.ensures.gives)) (rw c.deref_mut-in-Cache.ensures.value at c.barrier-in-Cache.ensures.gives))

pub returns-in-Part-clause-gives : goal.returns-in-Part-clause-gives
returns-in-Part-clause-gives g t c =
    let m = pile_model g.M.Memory.model c.in-Part.below.value in
    let n = pile_model g.M.Memory.model c.barrier-in-Part.new.self in
    rw c.in-Part.is (part-barrier c.in-Part.field-1.first c.in-Part.field-1.count m n c.barrier-in-Part.result (rw c.deref_mut-in-Part.ensures.value at c.barrier-in-Part.ensures.gives))
