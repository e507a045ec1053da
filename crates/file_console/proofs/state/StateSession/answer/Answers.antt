use Rattle.std.proofs.Common.{◌≡◌, length, refl, rules}
use Rattle.console.specs.Denials.{number_of}
use Rattle.console.specs.Lines.{answer_line}
use Rattle.file_console.specs.Answers.{carried_of}
use Rattle.file_console.specs.Commands.{letter}
use Rattle.file_console.specs.Outcomes.{said, shown_of}
use Rattle.file_console.proofs.Showing.{wrote-answer}
use Rattle.file_console.proofs.state.StateSession.answer.Goals as goal

pub returns-clause-tells : goal.returns-clause-tells
returns-clause-tells g c =
    let a = c.step-answer.result in
    let buffer = c.step-answer.new.buffer in
    let long : length buffer ≡ 32 = search rules in (
      answer_line (letter c.args.command) (number_of (said a)) (carried_of (said a)) (shown_of a buffer),
      (said a, shown_of a buffer, c.step-answer.ensures.steps, refl),
      wrote-answer a buffer c.args.out.now c.write_answer.new.out c.letter.result (letter c.args.command) c.number.result c.told-carried.result.1 c.told-carried.result.0 c.write_answer.result
          long c.letter.ensures c.number.ensures c.told-carried.ensures.carried c.told-carried.ensures.shown c.write_answer.ensures.writes c.write_answer.ensures.few,
    )
