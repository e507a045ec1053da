use Rattle.std.proofs.Common.{sym, ◌∙◌, subst, rules}
use Rattle.memory.specs.Stores.{word}
use Rattle.std.proofs.lemmas.List.{take_more, take_all}
use Rattle.store.specs.Phase.{Within}
use Rattle.store.proofs.Phases.{cut_at, ends, within-at, so_far_more}
use Rattle.store.proofs.phase.persist.Goals as goal

pub store_word-requires : goal.store_word-requires
store_word-requires g c =
    within-at _ c.args.words.now c.loop-word.word-index (word 0 0) (subst (λ n. Within n c.args.words.now) (sym c.loop-word.invariant.0.made.count) c.requires) c.loop-word-test.true

pub returns-in_err-store_word-clause-done : goal.returns-in_err-store_word-clause-done
returns-in_err-store_word-clause-done g c =
    let cut = cut_at c.args.words.now c.loop-word.word-index c.loop-word-test.true c.loop-word.invariant.0 c.in_err-store_word.ensures.made.0 in search (rules, cut)

pub loop-word-preserved : goal.loop-word-preserved
loop-word-preserved g c =
    let h = c.in_ok-store_word.ensures in
    (rw (take_more c.args.words.now c.loop-word.word-index (word 0 0) c.loop-word-test.true) (so_far_more c.loop-word.invariant.0 h.made), h.lent ∙ c.loop-word.invariant.1)

pub returns-clause-done : goal.returns-clause-done
returns-clause-done g c =
    let whole = rw (take_all c.loop-word.word-index c.args.words.now c.loop-word-test.false) at c.loop-word.invariant.0 in
    ends (g.M.Memory.model c.settle.new.memory) c.settle.result whole c.settle.ensures.done
