use Rattle.std.proofs.Common.{◌≡◌, drop}
use Rattle.layout.specs.Names.{letters_then_zeros}
use Rattle.layout.proofs.Names.{ends}
use Rattle.layout.proofs.name.is_well_formed.Given as goal

-- the bytes that are left decide
abbrev pub invariant-loop-byte : goal.invariant-loop-byte
invariant-loop-byte l = ends l.ended (drop l.byte-index l.byte-items) ≡ letters_then_zeros l.byte-items
