use Rattle.std.proofs.Common.{◌≡◌, ◌<◌, true, arith}
use Rattle.std.proofs.lemmas.Bool.Decides.{nat_tests}
use Rattle.std.proofs.lemmas.Result.{err_from_is_err_and}
use Rattle.waiting.specs.Waits.{waiting}
use Rattle.layers.specs.Layers.{part_model}
use Rattle.piles.specs.Pile.{pile_model}
use Rattle.layers.proofs.Caching.{cache-store-room, cache-store-left, cache-store-cut}
use Rattle.layers.proofs.Parting.{part-store}
use Rattle.piles.proofs.pile.calls.PileMemory.+store.Goals.{in-Some+in_ok-unless_outside-in-Cache, in_default}
use Rattle.piles.proofs.pile.calls.PileMemory.+store.Goals as goal

pub returns-in_err-unless_outside-in-Cache-clause-gives : goal.returns-in_err-unless_outside-in-Cache-clause-gives
returns-in_err-unless_outside-in-Cache-clause-gives g t c =
    let p = err_from_is_err_and c.from_residual-in_err-unless_outside-in-Cache.result c.from_residual-in_err-unless_outside-in-Cache.ensures.1 in
    let m = pile_model g.M.Memory.model c.in-Cache.below.value in
    let n = pile_model g.M.Memory.model c.store-in-Some.new.self in
    let up : true ≡ m.up = grind (arith, nat_tests) in
    rw (c.in-Cache.is, p.1, p.2) (cache-store-cut (waiting c.in-Cache.waiting) m n c.args.at c.args.value c.in-Some.oldest c.store-in-Some.result up (grind (arith, nat_tests)) c.in-Some.ensures (rw c.deref_mut.ensures.value at c.store-in-Some.ensures.gives) c.in_err-unless_outside-in-Cache.field-0.0 c.in_err-unless_outside-in-Cache.ensures)

pub returns-after-leaving-clause-gives : goal.returns-after-leaving-clause-gives
returns-after-leaving-clause-gives g t c =
    let ws = waiting c.in-Cache.waiting in
    let next = waiting c.hold.new.self in
    let m = pile_model g.M.Memory.model c.in-Cache.below.value in
    let up : true ≡ m.up = grind (arith, nat_tests) in
    let lt : c.args.at < m.count = grind (arith, nat_tests) in
    elim c.match-leaving.branch [
      | in-Some+in_ok-unless_outside-in-Cache w ↦
          rw (c.in-Cache.is, w.self-is) (cache-store-left ws m (pile_model g.M.Memory.model w.store-in-Some.new.self) c.args.at c.args.value w.in-Some.oldest w.store-in-Some.result up lt w.in-Some.ensures (rw w.deref_mut.ensures.value at w.store-in-Some.ensures.gives) w.in_ok-unless_outside-in-Cache.field-0 w.in_ok-unless_outside-in-Cache.ensures next c.hold.ensures)
      | in_default w ↦
          rw (c.in-Cache.is, w.self-is) (cache-store-room ws next m c.args.at c.args.value up lt w.in_default.ensures c.hold.ensures)
    ]

pub returns-in_ok-admit-in-Part-clause-gives : goal.returns-in_ok-admit-in-Part-clause-gives
returns-in_ok-admit-in-Part-clause-gives g t c =
    let m = pile_model g.M.Memory.model c.in-Part.below.value in
    let n = pile_model g.M.Memory.model c.store-in-Part.new.self in
    let lt : c.args.at < (part_model c.in-Part.run'.first c.in-Part.run'.count m).count = grind (arith, nat_tests) in
    rw c.in-Part.is (part-store c.in-Part.run'.first c.in-Part.run'.count m n c.args.at c.args.value c.store-in-Part.result lt (rw c.deref_mut-in-Part.ensures.value at c.store-in-Part.ensures.gives))
