use Rattle.std.proofs.Common.{◌≡◌, true, take, Ok}
use Rattle.memory.specs.Stores.{Made}
use Rattle.piles.specs.EachLayer.{PileStoresAll}
use Rattle.piles.specs.Pile.{pile_model, at_base, depth}
use Rattle.piles.proofs.pile.calls.store_all.Given as goal

-- the words before this one are stored, and power was not lost
abbrev pub invariant-loop-word : goal.invariant-loop-word
invariant-loop-word g l =
    Made (pile_model g.M.Memory.model l.initial.pile) (take l.word-index l.words) (pile_model g.M.Memory.model l.pile)
    × ((pile_model g.M.Memory.model l.initial.pile).up ≡ true → (pile_model g.M.Memory.model l.pile).up ≡ true)
    × (at_base g.M.Memory.lent l.pile ≡ at_base g.M.Memory.lent l.initial.pile)
    × (depth l.pile ≡ depth l.initial.pile)
    × PileStoresAll g.M.Memory.model l.initial.pile (take l.word-index l.words) (Ok tt) l.pile
