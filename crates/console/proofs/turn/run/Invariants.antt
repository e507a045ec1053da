use Rattle.std.proofs.Common.{◌≡◌, ℕ, List, length}
use Rattle.std.specs.Io.KnownBytes.{Appends}
use Rattle.std.specs.List.{concat}
use Rattle.console.specs.Turns.{Runs}
use Rattle.console.proofs.turn.run.Given as goal

abbrev pub invariant-loop-turn : goal.invariant-loop-turn
invariant-loop-turn g l = record {
  buffer : length l.line ≡ 72;
  lent : g.M.Memory.lent l.memory ≡ g.M.Memory.lent l.initial.memory;
  says : (texts : List (List ℕ)) × Runs g.S.Session.first g.S.Session.tells texts l.initial.session l.initial.memory l.input l.session l.memory l.rest
      × Appends (g.W.Write.contents l.initial.out) (g.W.Write.contents l.out) (concat texts);
}

abbrev pub decreases-loop-turn : goal.decreases-loop-turn
decreases-loop-turn g l = length l.rest
