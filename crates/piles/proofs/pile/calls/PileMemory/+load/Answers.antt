use Rattle.std.proofs.Common.{◌≡◌, ◌<◌, true, rules, arith}
use Rattle.std.proofs.lemmas.Bool.Decides.{nat_tests}
use Rattle.waiting.specs.Waits.{waiting}
use Rattle.layers.specs.Layers.{part_model}
use Rattle.piles.specs.Pile.{pile_model}
use Rattle.layers.proofs.Caching.{cache-hit, cache-load}
use Rattle.layers.proofs.Parting.{part-load}
use Rattle.piles.proofs.pile.calls.PileMemory.+load.Goals as goal

pub returns-in-Some-clause-gives : goal.returns-in-Some-clause-gives
returns-in-Some-clause-gives g t c =
    let m = pile_model g.M.Memory.model c.in-Cache.below.value in
    let up : true ≡ m.up = grind (arith, nat_tests) in
    rw c.in-Cache.is (cache-hit (waiting c.in-Cache.waiting) m c.args.at c.in-Some.value up (grind (arith, nat_tests)) c.in-Some.ensures)

pub returns-in-None-clause-gives : goal.returns-in-None-clause-gives
returns-in-None-clause-gives g t c = search (rules, cache-load)

pub returns-in_ok-admit-in-Part-clause-gives : goal.returns-in_ok-admit-in-Part-clause-gives
returns-in_ok-admit-in-Part-clause-gives g t c =
    let m = pile_model g.M.Memory.model c.in-Part.below.value in
    let n = pile_model g.M.Memory.model c.load-in-Part.new.self in
    let lt : c.args.at < (part_model c.in-Part.run'.first c.in-Part.run'.count m).count = grind (arith, nat_tests) in
    rw c.in-Part.is (part-load c.in-Part.run'.first c.in-Part.run'.count m n c.args.at c.load-in-Part.result lt (rw c.deref_mut-in-Part.ensures.value at c.load-in-Part.ensures.gives))
