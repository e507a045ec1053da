use Rattle.std.proofs.Common.{◌≡◌, ◌<◌, true, arith}
use Rattle.std.proofs.lemmas.Bool.Decides.{nat_tests}
use Rattle.std.proofs.lemmas.Result.{err_from_is_err_and}
use Rattle.waiting.specs.Waits.{waiting, holding}
use Rattle.layers.proofs.Caching.{cache-store-room, cache-store-left, cache-store-cut}
use Rattle.layers.proofs.cache.CacheMemory.store.Goals as goal
use Rattle.layers.proofs.cache.CacheMemory.store.Goals.{in-Some+in_ok-unless_outside, in_default}

pub returns-in_err-unless_outside-clause-gives : goal.returns-in_err-unless_outside-clause-gives
returns-in_err-unless_outside-clause-gives g c =
    let p = err_from_is_err_and c.from_residual-in_err-unless_outside.result c.from_residual-in_err-unless_outside.ensures.1 in
    let up : true ≡ (g.M.Memory.model c.args.self.now.below).up = grind (arith, nat_tests) in
    rw (p.1, p.2) (cache-store-cut (waiting c.args.self.now.waiting) (g.M.Memory.model c.args.self.now.below) (g.M.Memory.model c.store.new.self) c.args.at c.args.value c.in-Some.oldest c.store.result up (grind (arith, nat_tests)) c.in-Some.ensures c.store.ensures.gives c.in_err-unless_outside.field-0.0 c.in_err-unless_outside.ensures)

pub returns-clause-gives : goal.returns-clause-gives
returns-clause-gives g c =
    let ws = waiting c.args.self.now.waiting in
    let m = g.M.Memory.model c.args.self.now.below in
    let up : true ≡ m.up = grind (arith, nat_tests) in
    let lt : c.args.at < m.count = grind (arith, nat_tests) in
    elim c.match-leaving.branch [
      | in-Some+in_ok-unless_outside w ↦
          let holds : waiting c.hold.new.self ≡ holding ws c.args.at c.args.value = rw w.self-is at c.hold.ensures in
          rw w.self-is (cache-store-left ws m (g.M.Memory.model w.store.new.self) c.args.at c.args.value w.in-Some.oldest w.store.result up lt w.in-Some.ensures w.store.ensures.gives w.in_ok-unless_outside.field-0 w.in_ok-unless_outside.ensures (waiting c.hold.new.self) holds)
      | in_default w ↦
          let holds : waiting c.hold.new.self ≡ holding ws c.args.at c.args.value = rw w.self-is at c.hold.ensures in
          rw w.self-is (cache-store-room ws (waiting c.hold.new.self) m c.args.at c.args.value up lt w.in_default.ensures holds)
    ]
