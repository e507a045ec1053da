-- A command is one byte, then its operands; numbers are lowest byte first.
use Rattle.std.specs.Prelude.{ℕ, ◌+◌, ◌*◌, cond, List, [], ◌∷◌, Some, None, Option, ◌==◌}
use Rattle.console.specs.declared.command.Command.{Command}
use Rattle.console.specs.declared.command.Command.TheVariants.{Restart, Format, CutPoint}

-- P, F and K
abbrev pub letter : Command → ℕ
letter Restart = 80
letter Format = 70
letter (CutPoint n) = 75

-- the operand of a cut point, two bytes
abbrev cut_point : List ℕ → Option (Command × List ℕ)
cut_point [] = None
cut_point (low ∷ []) = None
cut_point (low ∷ high ∷ rest) = Some (CutPoint (low + 256 * high), rest)

-- the first command and what follows it; none if it is unknown or short
abbrev pub parsed : List ℕ → Option (Command × List ℕ)
parsed [] = None
parsed (b ∷ bs) = cond (b == 80) (Some (Restart, bs)) (cond (b == 70) (Some (Format, bs)) (cond (b == 75) (cut_point bs) None))
