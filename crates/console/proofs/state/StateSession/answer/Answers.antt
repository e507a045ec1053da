use Rattle.std.proofs.Common.{◌≡◌, ℕ, List, refl, ap, ◌∙◌, subst, arith}
use Rattle.console.specs.Commands.{letter}
use Rattle.console.specs.Denials.{number_of}
use Rattle.console.specs.Lines.{Wrote, line}
use Rattle.console.proofs.Lengths.{plain-few}
use Rattle.console.proofs.Writing.{wrote}
use Rattle.console.proofs.state.StateSession.answer.Goals as goal

pub returns-clause-tells : goal.returns-clause-tells
returns-clause-tells g c =
    let out = c.args.out.now in
    let a = c.step-answer.result in
    let told : List ℕ = line c.letter.result c.number.result in
    let same : told ≡ line (letter c.args.command) (number_of a) = ap (λ n. line c.letter.result n) c.number.ensures ∙ ap (λ l. line l (number_of a)) c.letter.ensures in
    let few = plain-few c.letter.result c.number.result (omega (arith, c.number.type_inv)) in (
      line (letter c.args.command) (number_of a),
      (a, c.step-answer.ensures.steps, refl),
      subst (λ t. Wrote out t c.write_line.result c.write_line.new.out) same (wrote out told c.write_line.new.out c.write_line.result few c.write_line.ensures.value c.write_line.ensures.after),
    )
