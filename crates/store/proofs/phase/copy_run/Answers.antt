use Rattle.std.proofs.Common.{◌≡◌, ◌+◌, ◌<◌, refl, ◌∙◌, inl, arith, rules}
use Rattle.image_check.proofs.Looking.{load-reads, load-down}
use Rattle.store.specs.Phase.{copies, AllMade}
use Rattle.store.proofs.Phases.{copies-loaded, copies-more, copies-cut, copies-cut-load}
use Rattle.store.proofs.phase.copy_run.Given as given
use Rattle.store.proofs.phase.copy_run.Goals as goal
use Rattle.store.proofs.phase.copy_run.Goals.{In_ok-value}

pub returns-in_err-value-clause-made : goal.returns-in_err-value-clause-made
returns-in_err-value-clause-made g c =
    let m = g.M.Memory.model c.args.memory.now in
    let inside : c.args.from + c.loop-j.j < (g.M.Memory.model c.loop-j.memory).count = omega (arith, c.requires.inside, c.loop-j.invariant.0.made.count) in
    let down = load-down (c.args.from + c.loop-j.j) _ (inl refl) inside c.in_err-value.ensures.gives in
    let cut = copies-cut-load m.seen c.args.from c.args.to c.loop-j.j c.args.count c.loop-j-test.true c.loop-j.invariant.0 down in search (rules, cut)

-- after the load of a turn
loaded : (g : given.Over) (c : In_ok-value g)
    → AllMade (g.M.Memory.model c.args.memory.now) (copies (g.M.Memory.model c.args.memory.now).seen c.args.from c.args.to c.loop-j.j) (g.M.Memory.model c.load.new.self)
    × (c.in_ok-value.value ≡ (g.M.Memory.model c.args.memory.now).seen (c.args.from + c.loop-j.j))
loaded g c =
    let m = g.M.Memory.model c.args.memory.now in
    let j = c.loop-j.j in
    let before : c.args.from + j < c.args.to = omega arith in
    let inside : c.args.from + j < m.count = omega (arith, c.requires.inside) in
    let still : c.args.from + j < (g.M.Memory.model c.loop-j.memory).count = omega (arith, inside, c.loop-j.invariant.0.made.count) in
    copies-loaded {m = m} {n = g.M.Memory.model c.load.new.self} c.args.from c.args.to j c.in_ok-value.value before inside c.loop-j.invariant.0
    (load-reads (c.args.from + j) _ (inl refl) still c.in_ok-value.ensures.gives)

pub returns-in_err-store_word-clause-made : goal.returns-in_err-store_word-clause-made
returns-in_err-store_word-clause-made g c =
    let m = g.M.Memory.model c.args.memory.now in
    let first = loaded g (goal.at.returns-in_err-store_word-clause-made g c).In_ok-value in
    let cut = copies-cut m.seen c.args.from c.args.to c.loop-j.j c.args.count c.in_ok-value.value c.loop-j-test.true first.0 first.1 c.in_err-store_word.ensures.made.0 in search (rules, cut)

pub loop-j-preserved : goal.loop-j-preserved
loop-j-preserved g c =
    let m = g.M.Memory.model c.args.memory.now in
    let k = g.M.Memory.model c.load.new.self in
    let first = loaded g (goal.at.loop-j-preserved g c).In_ok-value in
    let h = c.in_ok-store_word.ensures in
    (copies-more {k = k} m.seen c.args.from c.args.to c.loop-j.j c.in_ok-value.value first.0 first.1 h.made, h.lent ∙ c.in_ok-value.ensures.same ∙ c.loop-j.invariant.1)
