use Rattle.std.proofs.Common.{arith}
use Rattle.std.proofs.lemmas.Bool.Decides.{nat_tests}
use Rattle.console.proofs.Lengths.{fits-shown, length-shown, line-few}
use Rattle.console.proofs.line.fits.Goals as goal

pub returns-then-room-front-clause-few : goal.returns-then-room-front-clause-few
returns-then-room-front-clause-few c = λ letter. line-few letter c.args.number c.args.carried c.args.shown.now (omega arith) (omega arith)

pub returns-else-is_empty-clause-value : goal.returns-else-is_empty-clause-value
returns-else-is_empty-clause-value c = λ letter.
    fits-shown letter c.args.number c.args.carried c.args.shown.now c.args.room c.number_length.result c.carried_length.result
    c.number_length.ensures.value c.carried_length.ensures.value (grind (arith, nat_tests, c.if-is_empty.ensures)) c.if-room-front.false

pub returns-else-is_empty-clause-room : goal.returns-else-is_empty-clause-room
returns-else-is_empty-clause-room c = λ less.
    let some = length-shown c.args.shown.now (grind (arith, nat_tests, c.if-is_empty.ensures)) in
    grind (arith, nat_tests)

pub returns-else-is_empty-clause-few : goal.returns-else-is_empty-clause-few
returns-else-is_empty-clause-few c = λ letter. line-few letter c.args.number c.args.carried c.args.shown.now (omega arith) (omega arith)
