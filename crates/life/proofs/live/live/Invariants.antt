use Rattle.std.proofs.Common.{◌≡◌, map, length, take}
use Rattle.piles.specs.Pile.{pile_model, at_base}
use Rattle.life.specs.Asked.{asked}
use Rattle.life.proofs.Beginning.{Along}
use Rattle.life.proofs.live.live.Given as goal

abbrev pub invariant-loop-call : goal.invariant-loop-call
invariant-loop-call g l = record {
  along : Along (pile_model g.M.Memory.model l.initial.memory) (take l.call-index (map (asked (length l.initial.buffer)) l.calls)) (g.W.Witness.told l.initial.witness) (g.W.Witness.told l.witness) l.ready (pile_model g.M.Memory.model l.memory);
  lent : at_base g.M.Memory.lent l.memory ≡ at_base g.M.Memory.lent l.initial.memory;
}
