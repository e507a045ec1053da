use Rattle.std.proofs.Common.{arith, rules}
use Rattle.std.proofs.lemmas.Nat.{le_bytes_8}
use Rattle.layout.proofs.name.name_word.Goals as goal

pub returns-clause-bytes : goal.returns-clause-bytes
returns-clause-bytes c =
    let back = le_bytes_8 c.args.name c.from_le_bytes.result (search rules) (search rules) c.from_le_bytes.ensures in
    grind arith
