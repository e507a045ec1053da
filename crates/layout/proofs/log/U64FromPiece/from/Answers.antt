use Rattle.std.proofs.Common.{◌+◌, ◌*◌, ◌^◌, arith}
use Rattle.std.proofs.lemmas.Nat.{or_shifted}
use Rattle.layout.proofs.log.U64FromPiece.from.Goals as goal

pub returns : goal.returns
returns c =
    let upper = or_shifted c.from.result 24 (c.from-2.result * 2 ^ 16) (omega arith) in
    let word = or_shifted (c.from.result * 2 ^ 8 + c.from-2.result) 16 c.from-3.result (omega arith) in
    grind arith
